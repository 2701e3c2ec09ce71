-- The lengths of the parts of a file, and where the parts start (TFM description).
use Rattle.std.specs.Prelude.{ℕ, ◌+◌, ◌-◌, List}
use Rattle.tfm_read.specs.declared.lengths.Lengths.{Lengths}
use Rattle.tfm_read.specs.declared.lengths.Places.{Places}
use Rattle.tfm_read.specs.Words.{halfword_at}

-- words 0 to 5 of a file
abbrev pub lengths_of : List ℕ → Lengths
lengths_of bytes = record {
  file = halfword_at bytes 0;
  header = halfword_at bytes 1;
  first_code = halfword_at bytes 2;
  last_code = halfword_at bytes 3;
  widths = halfword_at bytes 4;
  heights = halfword_at bytes 5;
  depths = halfword_at bytes 6;
  italics = halfword_at bytes 7;
  ligs = halfword_at bytes 8;
  kerns = halfword_at bytes 9;
  recipes = halfword_at bytes 10;
  params = halfword_at bytes 11;
}

-- how many char_info words there are
abbrev pub code_count : Lengths → ℕ
code_count l = l.last_code + 1 - l.first_code

-- The parts follow one another: six words of lengths, the header, the char_info words, the widths,
-- heights, depths and italic corrections, the ligature words, the kerns, the recipes, the parameters.
unfoldable pub places_of : Lengths → Places
places_of l = record {
  chars = 6 + l.header;
  widths = 6 + l.header + code_count l;
  heights = 6 + l.header + code_count l + l.widths;
  depths = 6 + l.header + code_count l + l.widths + l.heights;
  italics = 6 + l.header + code_count l + l.widths + l.heights + l.depths;
  ligs = 6 + l.header + code_count l + l.widths + l.heights + l.depths + l.italics;
  kerns = 6 + l.header + code_count l + l.widths + l.heights + l.depths + l.italics + l.ligs;
  params = 6 + l.header + code_count l + l.widths + l.heights + l.depths + l.italics + l.ligs + l.kerns + l.recipes;
  end = 6 + l.header + code_count l + l.widths + l.heights + l.depths + l.italics + l.ligs + l.kerns + l.recipes + l.params;
}
