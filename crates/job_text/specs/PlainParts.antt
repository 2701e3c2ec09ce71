-- The parts that plain text is, one for each of its bytes. This is the crate's own.
use Rattle.std.specs.Prelude.{ℕ, zero, suc, ◌+◌, List, [], ◌∷◌, ◌++◌}
use Rattle.std.specs.Prelude.{slice_index, nat_lt, if◌then◌else◌}
use Rattle.micro_num.specs.declared.part.Part.{Part}
use Rattle.micro_num.specs.declared.part.Part.TheVariants.{Char, Space}
use Rattle.micro_num.specs.declared.paragraph.PartAt.{PartAt}
use Rattle.job_text.specs.declared.setting.Setting.{Setting}

-- the part that a byte of plain text is; its blanks are the bytes up to 32
abbrev pub byte_part : ℕ → Part
byte_part b = if nat_lt 32 b then Char b else Space

-- the byte at a place
abbrev pub part_at : List ℕ → ℕ → PartAt
part_at bytes place = record { offset = place; part = byte_part (slice_index bytes place) }

-- so many bytes from a place on
unfoldable pub plain_parts : List ℕ → ℕ → ℕ → List PartAt
plain_parts bytes place zero = []
plain_parts bytes place (suc count) = part_at bytes place ∷ plain_parts bytes (place + 1) count

-- more parts
abbrev pub add_parts : Setting → List PartAt → Setting
add_parts setting parts = record {
  parts = setting.parts ++ parts;
  current = setting.current;
  groups = setting.groups;
}
