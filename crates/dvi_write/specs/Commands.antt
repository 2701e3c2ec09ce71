-- The commands of a DVI file, and how each is spelled in bytes (The DVI format: TeX: The Program, part 31).
--     Command            a command with what it carries
--     spell command      its bytes
--     spell_all          the bytes of a list of commands, one after another
--     pointer place      a place in four bytes, -1 where there is none
use Rattle.std.specs.Prelude.{ℕ, ◌+◌, ◌-◌, List, [], ◌∷◌, ◌++◌, length, replicate, Option, Some, None, ℤ, negsuc}
use Rattle.std.specs.Int.{w32, cast_unsigned}
use Rattle.std.specs.List.{flat_map}
use Rattle.byteorder.specs.Endian.{big_bytes}
use Rattle.dvi_write.specs.declared.opcodes.TheConstants.{SET1, NOP, BOP, EOP, PUSH, POP, RIGHT1, DOWN1, FNT_NUM_0, FNT1, FNT_DEF1, PRE, POST, POST_POST, FORMAT, FILLING}

-- what a definition says of a font: its name is the area's bytes and the name's
pub record FontData : Type 0 where
  pub checksum : ℕ
  pub size : ℤ
  pub design : ℤ
  pub area : List ℕ
  pub name : List ℕ

-- what stands behind the place of the last page: three numbers for the unit, the greatest extent and width, how
-- deep the stack grows, and how many pages there are
pub record Summary : Type 0 where
  pub unit : List ℕ
  pub extent : ℤ
  pub width : ℤ
  pub depth : ℕ
  pub pages : ℕ

pub data Command : Type 0 where
  SetChar : (code : ℕ) → Command
  Set : (bytes code : ℕ) → Command
  Nop : Command
  Bop : (counts : List ℕ) (previous : Option ℕ) → Command
  Eop : Command
  Push : Command
  Pop : Command
  Right : (bytes : ℕ) (distance : ℤ) → Command
  Down : (bytes : ℕ) (distance : ℤ) → Command
  FontNumber : (font : ℕ) → Command
  Font : (bytes font : ℕ) → Command
  FontDefinition : (bytes font : ℕ) (says : FontData) → Command
  Pre : (unit comment : List ℕ) → Command
  Post : (last : Option ℕ) (says : Summary) → Command
  PostPost : (post filling : ℕ) → Command

-- a signed number in its lowest bytes, in two's complement
abbrev pub signed_bytes : ℕ → ℤ → List ℕ
signed_bytes bytes z = big_bytes bytes (cast_unsigned w32 z)

abbrev pub numbers : List ℕ → List ℕ
numbers counts = flat_map (big_bytes 4) counts

abbrev pub pointer : Option ℕ → List ℕ
pointer None = signed_bytes 4 (negsuc 0)
pointer (Some place) = big_bytes 4 place

abbrev pub font_data : FontData → List ℕ
font_data font =
    big_bytes 4 font.checksum ++ signed_bytes 4 font.size ++ signed_bytes 4 font.design
    ++ length font.area ∷ length font.name ∷ font.area ++ font.name

abbrev pub summary : Summary → List ℕ
summary says =
    numbers says.unit ++ signed_bytes 4 says.extent ++ signed_bytes 4 says.width ++ big_bytes 2 says.depth ++ big_bytes 2 says.pages

unfoldable pub spell : Command → List ℕ
spell (SetChar code) = code ∷ []
spell (Set bytes code) = (SET1 + (bytes - 1)) ∷ big_bytes bytes code
spell Nop = NOP ∷ []
spell (Bop counts previous) = BOP ∷ numbers counts ++ pointer previous
spell Eop = EOP ∷ []
spell Push = PUSH ∷ []
spell Pop = POP ∷ []
spell (Right bytes distance) = (RIGHT1 + (bytes - 1)) ∷ signed_bytes bytes distance
spell (Down bytes distance) = (DOWN1 + (bytes - 1)) ∷ signed_bytes bytes distance
spell (FontNumber font) = (FNT_NUM_0 + font) ∷ []
spell (Font bytes font) = (FNT1 + (bytes - 1)) ∷ big_bytes bytes font
spell (FontDefinition bytes font says) = (FNT_DEF1 + (bytes - 1)) ∷ big_bytes bytes font ++ font_data says
spell (Pre unit comment) = PRE ∷ FORMAT ∷ numbers unit ++ length comment ∷ comment
spell (Post last says) = POST ∷ pointer last ++ summary says
spell (PostPost post filling) = POST_POST ∷ big_bytes 4 post ++ FORMAT ∷ replicate filling FILLING

unfoldable pub spell_all : List Command → List ℕ
spell_all commands = flat_map spell commands
