-- Files worked out by hand.
--     three_letters   one line of a font without expansion
--     moves           moves of each size in each direction
--     first_of_two    and second_of_two: three instances of a font on two pages

-- Three letters of a font of 10 points, each 5 points wide and high, on one
-- line of a page that is 100 points wide.
use Rattle.std.specs.Prelude.{ℕ, List, [], ◌∷◌, ℤ, pos, negsuc, codes}
use Rattle.instance_core.specs.declared.page.Placed.{Placed}
use Rattle.instance_core.specs.declared.page.Packed.{Packed}
use Rattle.instance_core.specs.declared.page.PageLine.{PageLine}
use Rattle.instance_core.specs.declared.page.Page.{Page}
use Rattle.dvi_write.specs.declared.row.FontRow.{FontRow}

abbrev pub letter : ℕ → ℕ → Placed
letter x code = record { x = pos x; cell = record { font = 0; step = pos 0 }; code = code; advance = pos 327680 }

abbrev pub at : ℤ → Packed → PageLine
at baseline line = record { baseline = baseline; line = line }

abbrev pub three_letters : Page
three_letters = record {
  lines = at (pos 327680) (record { glyphs = letter 0 97 ∷ letter 327680 98 ∷ letter 655360 99 ∷ []; height = pos 327680; depth = pos 0; width = pos 6553600 }) ∷ [];
  extent = pos 327680;
  width = pos 6553600;
}

abbrev pub tiny10 : FontRow
tiny10 = record { name = codes "tiny10"; checksum = 0; size = pos 655360; design = pos 655360 }

abbrev pub file_of_three_letters : List ℕ
file_of_three_letters =
    247 ∷ 2 ∷ 1 ∷ 131 ∷ 146 ∷ 192 ∷ 28 ∷ 59 ∷ 0 ∷ 0 ∷ 0 ∷ 0 ∷ 3 ∷ 232 ∷ 16 ∷ 32 ∷ 112 ∷ 100 ∷ 102 ∷ 109 ∷
    105 ∷ 99 ∷ 114 ∷ 111 ∷ 32 ∷ 111 ∷ 117 ∷ 116 ∷ 112 ∷ 117 ∷ 116 ∷ 139 ∷ 0 ∷ 0 ∷ 0 ∷ 1 ∷ 0 ∷ 0 ∷ 0 ∷ 0 ∷
    0 ∷ 0 ∷ 0 ∷ 0 ∷ 0 ∷ 0 ∷ 0 ∷ 0 ∷ 0 ∷ 0 ∷ 0 ∷ 0 ∷ 0 ∷ 0 ∷ 0 ∷ 0 ∷ 0 ∷ 0 ∷ 0 ∷ 0 ∷
    0 ∷ 0 ∷ 0 ∷ 0 ∷ 0 ∷ 0 ∷ 0 ∷ 0 ∷ 0 ∷ 0 ∷ 0 ∷ 0 ∷ 255 ∷ 255 ∷ 255 ∷ 255 ∷ 159 ∷ 5 ∷ 0 ∷ 0 ∷
    141 ∷ 243 ∷ 0 ∷ 0 ∷ 0 ∷ 0 ∷ 0 ∷ 0 ∷ 10 ∷ 0 ∷ 0 ∷ 0 ∷ 10 ∷ 0 ∷ 0 ∷ 0 ∷ 6 ∷ 116 ∷ 105 ∷ 110 ∷
    121 ∷ 49 ∷ 48 ∷ 171 ∷ 97 ∷ 98 ∷ 99 ∷ 142 ∷ 140 ∷ 248 ∷ 0 ∷ 0 ∷ 0 ∷ 31 ∷ 1 ∷ 131 ∷ 146 ∷ 192 ∷ 28 ∷ 59 ∷
    0 ∷ 0 ∷ 0 ∷ 0 ∷ 3 ∷ 232 ∷ 0 ∷ 5 ∷ 0 ∷ 0 ∷ 0 ∷ 100 ∷ 0 ∷ 0 ∷ 0 ∷ 1 ∷ 0 ∷ 1 ∷ 243 ∷ 0 ∷
    0 ∷ 0 ∷ 0 ∷ 0 ∷ 0 ∷ 10 ∷ 0 ∷ 0 ∷ 0 ∷ 10 ∷ 0 ∷ 0 ∷ 0 ∷ 6 ∷ 116 ∷ 105 ∷ 110 ∷ 121 ∷ 49 ∷ 48 ∷
    249 ∷ 0 ∷ 0 ∷ 0 ∷ 109 ∷ 2 ∷ 223 ∷ 223 ∷ 223 ∷ 223 ∷ 223 ∷ 223 ∷ []

-- the file of no page
abbrev pub empty_file : List ℕ
empty_file =
    247 ∷ 2 ∷ 1 ∷ 131 ∷ 146 ∷ 192 ∷ 28 ∷ 59 ∷ 0 ∷ 0 ∷ 0 ∷ 0 ∷ 3 ∷ 232 ∷ 16 ∷ 32 ∷ 112 ∷ 100 ∷ 102 ∷ 109 ∷
    105 ∷ 99 ∷ 114 ∷ 111 ∷ 32 ∷ 111 ∷ 117 ∷ 116 ∷ 112 ∷ 117 ∷ 116 ∷ 248 ∷ 255 ∷ 255 ∷ 255 ∷ 255 ∷ 1 ∷ 131 ∷ 146 ∷ 192 ∷
    28 ∷ 59 ∷ 0 ∷ 0 ∷ 0 ∷ 0 ∷ 3 ∷ 232 ∷ 0 ∷ 0 ∷ 0 ∷ 0 ∷ 0 ∷ 0 ∷ 0 ∷ 0 ∷ 0 ∷ 0 ∷ 0 ∷ 0 ∷
    249 ∷ 0 ∷ 0 ∷ 0 ∷ 31 ∷ 2 ∷ 223 ∷ 223 ∷ 223 ∷ 223 ∷ 223 ∷ 223 ∷ []

-- Moves by amounts of one to four bytes, to the right and left, down and up.
abbrev pub glyph : ℤ → ℤ → ℕ → ℤ → Placed
glyph x step code advance = record { x = x; cell = record { font = 0; step = step }; code = code; advance = advance }

abbrev pub line_of : List Placed → Packed
line_of glyphs = record { glyphs = glyphs; height = pos 0; depth = pos 0; width = pos 0 }

abbrev pub moves : Page
moves = record {
  lines =
      at (pos 100) (line_of (glyph (pos 0) (pos 0) 65 (pos 10) ∷
      glyph (pos 137) (pos 0) 128 (pos 0) ∷
      glyph (pos 265) (pos 0) 66 (pos 0) ∷
      glyph (pos 33032) (pos 0) 67 (pos 0) ∷
      glyph (pos 65800) (pos 0) 68 (pos 0) ∷
      glyph (pos 8454407) (pos 0) 69 (pos 0) ∷
      glyph (pos 16843015) (pos 0) 70 (pos 0) ∷
      glyph (pos 16843014) (pos 0) 71 (pos 0) ∷
      glyph (pos 16842887) (pos 0) 72 (pos 0) ∷
      glyph (pos 16842759) (pos 0) 73 (pos 0) ∷
      glyph (pos 16809991) (pos 0) 74 (pos 0) ∷
      glyph (pos 8421383) (pos 0) 255 (pos 0) ∷ [])) ∷
      at (pos 228) (line_of []) ∷
      at (negsuc 71) (line_of []) ∷
      at (pos 39928) (line_of []) ∷
      at (negsuc 8960071) (line_of []) ∷
      [];
  extent = negsuc 8960071;
  width = pos 5;
}

abbrev pub file_of_moves : List ℕ
file_of_moves =
    247 ∷ 2 ∷ 1 ∷ 131 ∷ 146 ∷ 192 ∷ 28 ∷ 59 ∷ 0 ∷ 0 ∷ 0 ∷ 0 ∷ 3 ∷ 232 ∷ 16 ∷ 32 ∷ 112 ∷ 100 ∷ 102 ∷ 109 ∷
    105 ∷ 99 ∷ 114 ∷ 111 ∷ 32 ∷ 111 ∷ 117 ∷ 116 ∷ 112 ∷ 117 ∷ 116 ∷ 139 ∷ 0 ∷ 0 ∷ 0 ∷ 1 ∷ 0 ∷ 0 ∷ 0 ∷ 0 ∷
    0 ∷ 0 ∷ 0 ∷ 0 ∷ 0 ∷ 0 ∷ 0 ∷ 0 ∷ 0 ∷ 0 ∷ 0 ∷ 0 ∷ 0 ∷ 0 ∷ 0 ∷ 0 ∷ 0 ∷ 0 ∷ 0 ∷ 0 ∷
    0 ∷ 0 ∷ 0 ∷ 0 ∷ 0 ∷ 0 ∷ 0 ∷ 0 ∷ 0 ∷ 0 ∷ 0 ∷ 0 ∷ 255 ∷ 255 ∷ 255 ∷ 255 ∷ 157 ∷ 100 ∷ 141 ∷ 243 ∷
    0 ∷ 0 ∷ 0 ∷ 0 ∷ 0 ∷ 0 ∷ 10 ∷ 0 ∷ 0 ∷ 0 ∷ 10 ∷ 0 ∷ 0 ∷ 0 ∷ 6 ∷ 116 ∷ 105 ∷ 110 ∷ 121 ∷ 49 ∷
    48 ∷ 171 ∷ 65 ∷ 143 ∷ 127 ∷ 128 ∷ 128 ∷ 144 ∷ 0 ∷ 128 ∷ 66 ∷ 144 ∷ 127 ∷ 255 ∷ 67 ∷ 145 ∷ 0 ∷ 128 ∷ 0 ∷ 68 ∷
    145 ∷ 127 ∷ 255 ∷ 255 ∷ 69 ∷ 146 ∷ 0 ∷ 128 ∷ 0 ∷ 0 ∷ 70 ∷ 143 ∷ 255 ∷ 71 ∷ 143 ∷ 129 ∷ 72 ∷ 144 ∷ 255 ∷ 128 ∷
    73 ∷ 145 ∷ 255 ∷ 128 ∷ 0 ∷ 74 ∷ 146 ∷ 255 ∷ 128 ∷ 0 ∷ 0 ∷ 128 ∷ 255 ∷ 142 ∷ 158 ∷ 0 ∷ 128 ∷ 141 ∷ 142 ∷ 158 ∷
    254 ∷ 212 ∷ 141 ∷ 142 ∷ 159 ∷ 0 ∷ 156 ∷ 64 ∷ 141 ∷ 142 ∷ 160 ∷ 255 ∷ 118 ∷ 171 ∷ 192 ∷ 141 ∷ 142 ∷ 140 ∷ 248 ∷ 0 ∷
    0 ∷ 0 ∷ 31 ∷ 1 ∷ 131 ∷ 146 ∷ 192 ∷ 28 ∷ 59 ∷ 0 ∷ 0 ∷ 0 ∷ 0 ∷ 3 ∷ 232 ∷ 0 ∷ 0 ∷ 0 ∷ 0 ∷ 0 ∷
    0 ∷ 0 ∷ 5 ∷ 0 ∷ 1 ∷ 0 ∷ 1 ∷ 243 ∷ 0 ∷ 0 ∷ 0 ∷ 0 ∷ 0 ∷ 0 ∷ 10 ∷ 0 ∷ 0 ∷ 0 ∷ 10 ∷ 0 ∷
    0 ∷ 0 ∷ 6 ∷ 116 ∷ 105 ∷ 110 ∷ 121 ∷ 49 ∷ 48 ∷ 249 ∷ 0 ∷ 0 ∷ 0 ∷ 178 ∷ 2 ∷ 223 ∷ 223 ∷ 223 ∷ 223 ∷ 223 ∷ []

-- Three instances of one font on two pages: each is defined once, and selected anew on each page.
abbrev pub first_of_two : Page
first_of_two = record {
  lines =
      at (pos 7) (line_of (glyph (pos 0) (pos 0) 1 (pos 5) ∷
      glyph (pos 5) (pos 20) 2 (pos 5) ∷
      glyph (pos 10) (pos 0) 3 (negsuc 4) ∷ [])) ∷
      at (pos 9) (line_of (glyph (pos 0) (pos 0) 4 (pos 5) ∷ [])) ∷
      [];
  extent = pos 9;
  width = pos 20;
}

abbrev pub second_of_two : Page
second_of_two = record {
  lines =
      at (pos 3) (line_of (glyph (pos 0) (pos 20) 5 (pos 1) ∷
      glyph (pos 1) (negsuc 14) 6 (pos 1) ∷
      glyph (pos 2) (pos 0) 7 (pos 1) ∷ [])) ∷
      [];
  extent = pos 3;
  width = pos 30;
}

abbrev pub file_of_two : List ℕ
file_of_two =
    247 ∷ 2 ∷ 1 ∷ 131 ∷ 146 ∷ 192 ∷ 28 ∷ 59 ∷ 0 ∷ 0 ∷ 0 ∷ 0 ∷ 3 ∷ 232 ∷ 16 ∷ 32 ∷ 112 ∷ 100 ∷ 102 ∷ 109 ∷
    105 ∷ 99 ∷ 114 ∷ 111 ∷ 32 ∷ 111 ∷ 117 ∷ 116 ∷ 112 ∷ 117 ∷ 116 ∷ 139 ∷ 0 ∷ 0 ∷ 0 ∷ 1 ∷ 0 ∷ 0 ∷ 0 ∷ 0 ∷
    0 ∷ 0 ∷ 0 ∷ 0 ∷ 0 ∷ 0 ∷ 0 ∷ 0 ∷ 0 ∷ 0 ∷ 0 ∷ 0 ∷ 0 ∷ 0 ∷ 0 ∷ 0 ∷ 0 ∷ 0 ∷ 0 ∷ 0 ∷
    0 ∷ 0 ∷ 0 ∷ 0 ∷ 0 ∷ 0 ∷ 0 ∷ 0 ∷ 0 ∷ 0 ∷ 0 ∷ 0 ∷ 255 ∷ 255 ∷ 255 ∷ 255 ∷ 157 ∷ 7 ∷ 141 ∷ 243 ∷
    0 ∷ 0 ∷ 0 ∷ 0 ∷ 0 ∷ 0 ∷ 10 ∷ 0 ∷ 0 ∷ 0 ∷ 10 ∷ 0 ∷ 0 ∷ 0 ∷ 6 ∷ 116 ∷ 105 ∷ 110 ∷ 121 ∷ 49 ∷
    48 ∷ 171 ∷ 1 ∷ 243 ∷ 1 ∷ 0 ∷ 0 ∷ 0 ∷ 0 ∷ 0 ∷ 10 ∷ 0 ∷ 0 ∷ 0 ∷ 10 ∷ 0 ∷ 0 ∷ 0 ∷ 9 ∷ 116 ∷
    105 ∷ 110 ∷ 121 ∷ 49 ∷ 48 ∷ 43 ∷ 50 ∷ 48 ∷ 172 ∷ 2 ∷ 171 ∷ 3 ∷ 142 ∷ 157 ∷ 2 ∷ 141 ∷ 4 ∷ 142 ∷ 140 ∷ 139 ∷
    0 ∷ 0 ∷ 0 ∷ 2 ∷ 0 ∷ 0 ∷ 0 ∷ 0 ∷ 0 ∷ 0 ∷ 0 ∷ 0 ∷ 0 ∷ 0 ∷ 0 ∷ 0 ∷ 0 ∷ 0 ∷ 0 ∷ 0 ∷
    0 ∷ 0 ∷ 0 ∷ 0 ∷ 0 ∷ 0 ∷ 0 ∷ 0 ∷ 0 ∷ 0 ∷ 0 ∷ 0 ∷ 0 ∷ 0 ∷ 0 ∷ 0 ∷ 0 ∷ 0 ∷ 0 ∷ 0 ∷
    0 ∷ 0 ∷ 0 ∷ 31 ∷ 157 ∷ 3 ∷ 141 ∷ 172 ∷ 5 ∷ 243 ∷ 2 ∷ 0 ∷ 0 ∷ 0 ∷ 0 ∷ 0 ∷ 10 ∷ 0 ∷ 0 ∷ 0 ∷
    10 ∷ 0 ∷ 0 ∷ 0 ∷ 9 ∷ 116 ∷ 105 ∷ 110 ∷ 121 ∷ 49 ∷ 48 ∷ 45 ∷ 49 ∷ 53 ∷ 173 ∷ 6 ∷ 171 ∷ 7 ∷ 142 ∷ 140 ∷
    248 ∷ 0 ∷ 0 ∷ 0 ∷ 139 ∷ 1 ∷ 131 ∷ 146 ∷ 192 ∷ 28 ∷ 59 ∷ 0 ∷ 0 ∷ 0 ∷ 0 ∷ 3 ∷ 232 ∷ 0 ∷ 0 ∷ 0 ∷
    9 ∷ 0 ∷ 0 ∷ 0 ∷ 30 ∷ 0 ∷ 1 ∷ 0 ∷ 2 ∷ 243 ∷ 2 ∷ 0 ∷ 0 ∷ 0 ∷ 0 ∷ 0 ∷ 10 ∷ 0 ∷ 0 ∷ 0 ∷
    10 ∷ 0 ∷ 0 ∷ 0 ∷ 9 ∷ 116 ∷ 105 ∷ 110 ∷ 121 ∷ 49 ∷ 48 ∷ 45 ∷ 49 ∷ 53 ∷ 243 ∷ 1 ∷ 0 ∷ 0 ∷ 0 ∷ 0 ∷
    0 ∷ 10 ∷ 0 ∷ 0 ∷ 0 ∷ 10 ∷ 0 ∷ 0 ∷ 0 ∷ 9 ∷ 116 ∷ 105 ∷ 110 ∷ 121 ∷ 49 ∷ 48 ∷ 43 ∷ 50 ∷ 48 ∷ 243 ∷
    0 ∷ 0 ∷ 0 ∷ 0 ∷ 0 ∷ 0 ∷ 10 ∷ 0 ∷ 0 ∷ 0 ∷ 10 ∷ 0 ∷ 0 ∷ 0 ∷ 6 ∷ 116 ∷ 105 ∷ 110 ∷ 121 ∷ 49 ∷
    48 ∷ 249 ∷ 0 ∷ 0 ∷ 0 ∷ 220 ∷ 2 ∷ 223 ∷ 223 ∷ 223 ∷ 223 ∷ 223 ∷ []
