-- Where two ways to find places agree on every word, so do the hyphenated forms.
use Rattle.std.proofs.Common.{◌≡◌, ℕ, zero, suc, Bool, true, false, List, [], ◌∷◌, ◌++◌, take, drop, refl, ap, ◌∙◌}
use Rattle.std.specs.Prelude.{Option, Some, None, if◌then◌else◌, slice_get}
use Rattle.font_stock.specs.declared.font.Font.{Font}
use Rattle.micro_num.specs.declared.tables.Tables.{Tables}
use Rattle.hlist.specs.declared.item.Item.{Item}
use Rattle.hlist_hyph.specs.Hyphenated.{Places, lower_word, in_font, word_items, by_word, front, front_count, is_glue, hyphenated_from}
use Rattle.hlist_hyph.specs.Pieces.{pieces}
use Rattle.hlist_hyph.specs.Words.{passed, word_of}
use Rattle.hlist_hyph.specs.declared.word.Word.{Word}

abbrev pub Agree : Places → Places → Type 0
Agree one other = (word : List ℕ) → one word ≡ other word

in_font-same : (tables : Tables) (one other : Places) (word : Word) (font : Option Font) (items : List Item) → Agree one other
    → in_font tables one word font items ≡ in_font tables other word font items
in_font-same tables one other word None items agree = refl
in_font-same tables one other word (Some font) items agree =
    ap (λ (places : List ℕ). pieces (record {
      number = word.number;
      tfm = font.tfm;
      size = font.size;
      hyphen = word.hyphen;
      places = places;
    }) 0 false items) (agree (lower_word tables items))

by_word-same : (tables : Tables) (stock : List Font) (one other : Places) (word : Option Word) (items : List Item) → Agree one other
    → by_word tables stock one word items ≡ by_word tables stock other word items
unfolding word_items
by_word-same tables stock one other None items agree = refl
by_word-same tables stock one other (Some word) items agree =
    in_font-same tables one other word (slice_get stock word.number) (take word.count items) agree

front-same : (tables : Tables) (stock : List Font) (one other : Places) (items : List Item) → Agree one other
    → front tables stock one items ≡ front tables stock other items
unfolding front
front-same tables stock one other items agree =
    let rest = drop (passed tables items) items in
    ap (λ (l : List Item). take (passed tables items) items ++ l)
    (by_word-same tables stock one other (word_of tables stock rest) rest agree)

glue-same : (b : Bool) (item : Item) (front1 front2 after1 after2 plain1 plain2 : List Item) → front1 ≡ front2 → after1 ≡ after2
    → plain1 ≡ plain2
    → (if b then item ∷ (front1 ++ after1) else item ∷ plain1) ≡ (if b then item ∷ (front2 ++ after2) else item ∷ plain2)
glue-same b item front1 front2 after1 after2 plain1 plain2 e f g = rw (e, f, g) refl

pub from-same : (tables : Tables) (stock : List Font) (one other : Places) (done : ℕ) (items : List Item) → Agree one other
    → hyphenated_from tables stock one done items ≡ hyphenated_from tables stock other done items
unfolding hyphenated_from
from-same tables stock one other done [] agree = refl
from-same tables stock one other (suc done) (item ∷ items) agree = from-same tables stock one other done items agree
from-same tables stock one other zero (item ∷ items) agree =
    glue-same (is_glue item) item _ _ _ _ _ _ (front-same tables stock one other items agree)
    (from-same tables stock one other (front_count tables stock items) items agree)
    (from-same tables stock one other zero items agree)
