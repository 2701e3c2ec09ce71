-- Which word behind a space is hyphenated (TeX: The Program, sections 891 to 899).
use Rattle.std.specs.Prelude.{ℕ, suc, ◌+◌, ◌-◌, ◌<◌, ⊤, Bool, true, false, not, ◌==◌, ◌&&◌, nat_lt, nat_le, if◌then◌else◌, List, [], ◌∷◌, length, drop, Option, Some, None, slice_index, slice_get}
use Rattle.std.specs.List.{list_all}
use Rattle.font_stock.specs.Fonts.{hyphen_of}
use Rattle.font_stock.specs.declared.font.Font.{Font}
use Rattle.micro_num.specs.declared.tables.Tables.{Tables}
use Rattle.hlist.specs.declared.item.Item.{Item}
use Rattle.hlist.specs.declared.item.Item.TheVariants.{Char, Lig, FontKern, Kern, Glue, Penalty, Disc, Box}
use Rattle.hlist_hyph.specs.declared.word.Word.{Word}

-- the codes that an item stands for: a character its own, a ligature those that it covers
abbrev pub letters : Item → List ℕ
letters (Char font code) = code ∷ []
letters (Lig font code covers) = covers
letters _ = []

-- the font of a character or a ligature
abbrev pub font_of : Item → Option ℕ
font_of (Char font code) = Some font
font_of (Lig font code covers) = Some font
font_of _ = None

-- a code is a letter where it has a lower-case letter
abbrev pub lower : Tables → ℕ → ℕ
lower tables code = slice_index tables.lccode code

abbrev pub is_letter : Tables → ℕ → Bool
is_letter tables code = not (lower tables code == 0)

-- the first of some codes is a letter
abbrev pub begins_with_letter : Tables → List ℕ → Bool
begins_with_letter tables [] = false
begins_with_letter tables (code ∷ codes) = is_letter tables code

-- A search for a word passes font kerns, and characters and ligatures that don't begin with a letter, as a
-- ligature that covers nothing.
abbrev pub is_passed : Tables → Item → Bool
is_passed tables (Char font code) = not (is_letter tables code)
is_passed tables (Lig font code covers) = not (begins_with_letter tables covers)
is_passed tables (FontKern width left) = true
is_passed tables _ = false

-- how many items a search passes
unfoldable pub passed : Tables → List Item → ℕ
passed tables [] = 0
passed tables (item ∷ items) = if is_passed tables item then suc (passed tables items) else 0

-- an item may belong to a word in a font: a character or ligature of the font, or a font kern
abbrev pub is_of : ℕ → Item → Bool
is_of number (Char font code) = font == number
is_of number (Lig font code covers) = font == number
is_of number (FontKern width left) = true
is_of number _ = false

-- a word goes on with an item of its font whose codes are all letters, no more than it has room for
abbrev pub joins : Tables → ℕ → ℕ → Item → Bool
joins tables number room item =
    is_of number item && (list_all (is_letter tables) (letters item) && nat_le (length (letters item)) room)

-- how many items belong to a word that has room for so many letters
unfoldable pub word_length : Tables → ℕ → ℕ → List Item → ℕ
word_length tables number room [] = 0
word_length tables number room (item ∷ items) =
    if joins tables number room item then suc (word_length tables number (room - length (letters item)) items) else 0

-- characters, ligatures and font kerns are passed behind a word
abbrev pub is_text : Item → Bool
is_text (Char font code) = true
is_text (Lig font code covers) = true
is_text (FontKern width left) = true
is_text _ = false

-- it is hyphenated where a glue, a penalty or a kern follows these
abbrev pub ends_word : Item → Bool
ends_word (Glue glue) = true
ends_word (Penalty value) = true
ends_word (Kern width) = true
ends_word _ = false

unfoldable pub is_closed : List Item → Bool
is_closed [] = false
is_closed (item ∷ items) = if is_text item then is_closed items else ends_word item

-- a word has at most 63 letters
abbrev pub most_letters : ℕ
most_letters = 63

-- the word of so many items that others begin with, where they end it
abbrev pub closed_word : ℕ → ℕ → ℕ → List Item → Option Word
closed_word number hyphen count items =
    if is_closed (drop count items) then Some (record { number = number; hyphen = hyphen; count = count }) else None

-- the word that items begin with in a font with a hyphen character
abbrev pub word_with : Tables → ℕ → Option ℕ → List Item → Option Word
word_with tables number None items = None
word_with tables number (Some hyphen) items =
    closed_word number hyphen (word_length tables number most_letters items) items

abbrev pub word_in : Tables → ℕ → Option Font → List Item → Option Word
word_in tables number None items = None
word_in tables number (Some font) items =
    word_with tables number (hyphen_of font.tfm font.codes.hyphen) items

abbrev pub word_of_font : Tables → List Font → Option ℕ → List Item → Option Word
word_of_font tables stock None items = None
word_of_font tables stock (Some number) items = word_in tables number (slice_get stock number) items

abbrev pub first_font : List Item → Option ℕ
first_font [] = None
first_font (item ∷ items) = font_of item

-- the word that is hyphenated of items that a search has come to: it is in the font of the first of them
unfoldable pub word_of : Tables → List Font → List Item → Option Word
word_of tables stock items = word_of_font tables stock (first_font items) items

-- the font of a character or a ligature is one of so many
abbrev pub HasFontBelow : ℕ → Item → Type 0
HasFontBelow count (Char font code) = font < count
HasFontBelow count (Lig font code covers) = font < count
HasFontBelow count _ = ⊤
