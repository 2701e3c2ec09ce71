-- What a word is where one is found, and how many letters it has.
use Rattle.std.proofs.Common.{◌≡◌, ℕ, suc, ◌+◌, ◌-◌, ◌<◌, ◌≤◌, Bool, true, false, ◌&&◌, List, [], ◌∷◌, ◌++◌, length, take, drop, All, refl, ap, sym, ◌∙◌, length-append, arith}
use Rattle.std.specs.Prelude.{Option, Some, None, slice_get, if◌then◌else◌, nat_le}
use Rattle.std.specs.List.{flat_map, list_all}
use Rattle.std.proofs.lemmas.Bool.Decides.{nat_tests}
use Rattle.std.proofs.lemmas.List.Elements.{All-nil, All-cons, All-head}
use Rattle.font_stock.specs.Fonts.{hyphen_of}
use Rattle.font_stock.specs.declared.font.Font.{Font}
use Rattle.micro_num.specs.declared.tables.Tables.{Tables}
use Rattle.hlist.specs.declared.item.Item.{Item}
use Rattle.hlist.specs.declared.item.Item.TheVariants.{Char, Lig, FontKern, Kern, Glue, Penalty, Disc, Box}
use Rattle.hlist_hyph.specs.Words.{letters, is_letter, is_of, joins, word_length, closed_word, is_closed, word_with, word_in, word_of_font, first_font, word_of, HasFontBelow}
use Rattle.hlist_hyph.specs.declared.word.Word.{Word}

pub both : (a b : Bool) → (a && b) ≡ true → (a ≡ true) × (b ≡ true)
both true b e = (refl, e)
both false b e = absurd cc

-- ---- an item has no more letters than a word has room for, nor has a word

abbrev pub Few : Item → Type 0
Few item = length (letters item) ≤ 63

pub joins-room : (tables : Tables) (number room : ℕ) (item : Item) → joins tables number room item ≡ true
    → length (letters item) ≤ room
joins-room tables number room item e =
    let outer = both (is_of number item) _ e in
    let inner = both (list_all (is_letter tables) (letters item)) (nat_le (length (letters item)) room) outer.1 in
    let fits = inner.1 in
    grind (arith, nat_tests, fits)

few-step : (tables : Tables) (number room count : ℕ) (item : Item) (items : List Item) (b : Bool)
    → joins tables number room item ≡ b → room ≤ 63 → All Few (take count items)
    → All Few (take (if b then suc count else 0) (item ∷ items))
few-step tables number room count item items true e le more =
    let here = joins-room tables number room item e in
    All-cons Few item (take count items) (omega (arith, here, le)) more
few-step tables number room count item items false e le more = All-nil Few

pub word-few : (tables : Tables) (number room : ℕ) (items : List Item) → room ≤ 63
    → All Few (take (word_length tables number room items) items)
unfolding word_length
word-few tables number room [] le = All-nil Few
word-few tables number room (item ∷ items) le =
    few-step tables number room _ item items (joins tables number room item) refl le
    (word-few tables number (room - length (letters item)) items (omega (arith, le)))

room-step : (tables : Tables) (number room count : ℕ) (item : Item) (items : List Item) (b : Bool)
    → joins tables number room item ≡ b → length (flat_map letters (take count items)) ≤ room - length (letters item)
    → length (flat_map letters (take (if b then suc count else 0) (item ∷ items))) ≤ room
room-step tables number room count item items true e more =
    let here = joins-room tables number room item e in
    omega (arith, here, more, length-append (letters item) (flat_map letters (take count items)))
room-step tables number room count item items false e more = omega arith

pub word-room : (tables : Tables) (number room : ℕ) (items : List Item)
    → length (flat_map letters (take (word_length tables number room items) items)) ≤ room
unfolding word_length
word-room tables number room [] = omega arith
word-room tables number room (item ∷ items) =
    room-step tables number room _ item items (joins tables number room item) refl
    (word-room tables number (room - length (letters item)) items)

-- ---- the word that items begin with

-- a word is in a font of the stock, that of the first item, has its hyphen character, and has the items that join it
pub record IsWord (tables : Tables) (stock : List Font) (items : List Item) (word : Word) : Type 0 where
  pub font : Font
  pub is : slice_get stock word.number ≡ Some font
  pub hyphen : hyphen_of font.tfm font.codes.hyphen ≡ Some word.hyphen
  pub count : word.count ≡ word_length tables word.number 63 items
  pub first : first_font items ≡ Some word.number

closed-is : (number hyphen count : ℕ) (b : Bool) (word : Word)
    → (if b then Some (record { number = number; hyphen = hyphen; count = count }) else None) ≡ Some word
    → (number ≡ word.number) × (hyphen ≡ word.hyphen) × (count ≡ word.count)
closed-is number hyphen count true word e = (cc, cc, cc)
closed-is number hyphen count false word e = absurd cc

with-is : (tables : Tables) (stock : List Font) (number : ℕ) (font : Font) (hyphen : Option ℕ) (items : List Item) (word : Word)
    → first_font items ≡ Some number → slice_get stock number ≡ Some font → hyphen_of font.tfm font.codes.hyphen ≡ hyphen
    → word_with tables number hyphen items ≡ Some word → IsWord tables stock items word
with-is tables stock number font None items word first is own e = absurd cc
with-is tables stock number font (Some hyphen) items word first is own e =
    let count = word_length tables number 63 items in
    let same = closed-is number hyphen count (is_closed (drop count items)) word e in
    record {
      font = font;
      is = rw (sym same.0) is;
      hyphen = own ∙ ap (λ (h : ℕ). Some h) same.1;
      count = rw (sym same.0) (sym same.2);
      first = first ∙ ap (λ (n : ℕ). Some n) same.0;
    }

in-is : (tables : Tables) (stock : List Font) (number : ℕ) (font : Option Font) (items : List Item) (word : Word)
    → first_font items ≡ Some number → slice_get stock number ≡ font
    → word_in tables number font items ≡ Some word → IsWord tables stock items word
in-is tables stock number None items word first is e = absurd cc
in-is tables stock number (Some font) items word first is e =
    with-is tables stock number font (hyphen_of font.tfm font.codes.hyphen) items word first is refl e

of_font-is : (tables : Tables) (stock : List Font) (first : Option ℕ) (items : List Item) (word : Word)
    → first_font items ≡ first → word_of_font tables stock first items ≡ Some word → IsWord tables stock items word
of_font-is tables stock None items word first e = absurd cc
of_font-is tables stock (Some number) items word first e =
    in-is tables stock number (slice_get stock number) items word first refl e

pub word-is : (tables : Tables) (stock : List Font) (items : List Item) (word : Word)
    → word_of tables stock items ≡ Some word → IsWord tables stock items word
unfolding word_of
word-is tables stock items word e = of_font-is tables stock (first_font items) items word refl e

-- ---- the word by what is found of it

pub first-below : (count : ℕ) (items : List Item) (number : ℕ) → All (HasFontBelow count) items → first_font items ≡ Some number
    → number < count
first-below count [] number below e = absurd cc
first-below count (Char font code ∷ items) number below e =
    let same : font ≡ number = cc in rw same at (All-head (HasFontBelow count) (Char font code) items below)
first-below count (Lig font code covers ∷ items) number below e =
    let same : font ≡ number = cc in rw same at (All-head (HasFontBelow count) (Lig font code covers) items below)
first-below count (FontKern width left ∷ items) number below e = absurd cc
first-below count (Kern width ∷ items) number below e = absurd cc
first-below count (Glue glue ∷ items) number below e = absurd cc
first-below count (Penalty value ∷ items) number below e = absurd cc
first-below count (Disc lists ∷ items) number below e = absurd cc
first-below count (Box width ∷ items) number below e = absurd cc

pub by-first : (tables : Tables) (stock : List Font) (items : List Item) (first : Option ℕ) → first_font items ≡ first
    → word_of tables stock items ≡ word_of_font tables stock first items
unfolding word_of
by-first tables stock items first e = ap (λ (f : Option ℕ). word_of_font tables stock f items) e

pub by-hyphen : (tables : Tables) (stock : List Font) (items : List Item) (number : ℕ) (font : Font) (hyphen : Option ℕ)
    → first_font items ≡ Some number → slice_get stock number ≡ Some font → hyphen_of font.tfm font.codes.hyphen ≡ hyphen
    → word_of tables stock items ≡ word_with tables number hyphen items
by-hyphen tables stock items number font hyphen first is own =
    by-first tables stock items (Some number) first
    ∙ ap (λ (f : Option Font). word_in tables number f items) is
    ∙ ap (λ (h : Option ℕ). word_with tables number h items) own

pub closed-word : (tables : Tables) (number hyphen count : ℕ) (items : List Item) → count ≡ word_length tables number 63 items
    → is_closed (drop count items) ≡ true
    → Some (record { number = number; hyphen = hyphen; count = count }) ≡ word_with tables number (Some hyphen) items
closed-word tables number hyphen count items exact closed = rw (sym exact, closed) refl

pub open-word : (tables : Tables) (number hyphen count : ℕ) (items : List Item) → count ≡ word_length tables number 63 items
    → is_closed (drop count items) ≡ false → None ≡ word_with tables number (Some hyphen) items
open-word tables number hyphen count items exact open_end = rw (sym exact, open_end) refl
