-- The hyphenated form of a small list is in bounds.
use Rattle.std.proofs.Common.{◌≡◌, ℕ, ℤ, zero, suc, ◌+◌, ◌*◌, ◌≤◌, Bool, true, false, List, [], ◌∷◌, ◌++◌, length, take, drop, All, refl, ap, sym, ◌∙◌, length-append, arith}
use Rattle.std.specs.Prelude.{Option, Some, None, if◌then◌else◌, option_to_list, map, sum_by, slice_get, ⊤}
use Rattle.std.proofs.lemmas.List.{take-append-drop}
use Rattle.std.proofs.lemmas.List.Sums.{sum_by-append, sum_by-cons, sum_by-le-sum_by}
use Rattle.std.proofs.Math.Seq.{take-add}
use Rattle.font_stock.specs.declared.font.Font.{Font}
use Rattle.micro_num.specs.declared.tables.Tables.{Tables}
use Rattle.hlist.specs.Bounds.{IsSmall, IsInBounds, BreaksShort, unbroken_weight, unbroken_count}
use Rattle.hlist.specs.Counts.{item_weight, item_count}
use Rattle.hlist.proofs.CountLemmas.{small-in_bounds}
use Rattle.hlist.specs.declared.item.HList.{HList}
use Rattle.hlist.specs.declared.item.Item.{Item}
use Rattle.hlist.specs.declared.item.KernLeft.{KernLeft}
use Rattle.hlist.specs.declared.item.Item.TheVariants.{Char, Lig, FontKern, Kern, Glue, Penalty, Disc, Box}
use Rattle.hlist.specs.declared.item.Sub.{Sub}
use Rattle.hlist.specs.declared.item.Sub.TheVariants.{Char as sub_char}
use Rattle.hlist_runs.specs.Lawful.{IsLawfulList}
use Rattle.hlist_hyph.specs.Hyphenated.{Places, in_font, word_items, by_word, count_of, front, front_count, is_glue, hyphenated_from, hyphenated_items}
use Rattle.hlist_hyph.specs.Pieces.{Hyphening, run_of, first_inside, broken, split, own, begins_with_char, begins_with_kern, behind_char, joint, takes_kern, unless_taken, pieces}
use Rattle.hlist_hyph.specs.Untouched.{item_of}
use Rattle.hlist_hyph.specs.Words.{letters, passed, word_of}
use Rattle.hlist_hyph.specs.declared.word.Word.{Word}
use Rattle.hlist_hyph.proofs.DiscLemmas.{IsJoint, joint-is, skip}
use Rattle.hlist_hyph.proofs.KeepLemmas.{Keeps, KeepsWords, from-keeps}

-- ---- how many items there are, as they stand without a break

weight-le : (item : Item) → unbroken_weight item ≤ item_weight item
weight-le (Char font code) = omega arith
weight-le (Lig font code covers) = omega arith
weight-le (FontKern width left) = omega arith
weight-le (Kern width) = omega arith
weight-le (Glue glue) = omega arith
weight-le (Penalty value) = omega arith
weight-le (Disc lists) = omega arith
weight-le (Box width) = omega arith

weight-some : (item : Item) → 1 ≤ unbroken_weight item
weight-some (Char font code) = omega arith
weight-some (Lig font code covers) = omega arith
weight-some (FontKern width left) = omega arith
weight-some (Kern width) = omega arith
weight-some (Glue glue) = omega arith
weight-some (Penalty value) = omega arith
weight-some (Disc lists) = omega arith
weight-some (Box width) = omega arith

broken-weight : (font code : ℕ) (covers : List ℕ) (pre post : Option (List Sub)) → unbroken_weight (broken font code covers pre post) ≤ 2
broken-weight font code covers (Some pre) (Some post) = omega arith
broken-weight font code covers (Some pre) None = omega arith
broken-weight font code covers None post = omega arith

split-weight : (w : Hyphening) (font code : ℕ) (covers : List ℕ) (n : Option ℕ) → unbroken_weight (split w font code covers n) ≤ 2
split-weight w font code covers None = omega arith
split-weight w font code covers (Some n) =
    broken-weight font code covers (run_of w (take n covers ++ w.hyphen ∷ []) false true) (run_of w (drop n covers) true false)

own-weight : (w : Hyphening) (from : ℕ) (item : Item) → unbroken_weight (own w from item) ≤ unbroken_weight item + 1
own-weight w from (Char font code) = omega arith
own-weight w from (Lig font code covers) = split-weight w font code covers (first_inside w.places from (length covers))
own-weight w from (FontKern width left) = omega arith
own-weight w from (Kern width) = omega arith
own-weight w from (Glue glue) = omega arith
own-weight w from (Penalty value) = omega arith
own-weight w from (Disc lists) = omega arith
own-weight w from (Box width) = omega arith

taken-weight : (w : Hyphening) (from : ℕ) (taken : Bool) (item : Item)
    → sum_by unbroken_weight (unless_taken taken (own w from item)) ≤ unbroken_weight item + 1
taken-weight w from true item = omega arith
taken-weight w from false item = let own = own-weight w from item in omega (arith, own)

skip-length : (b : Bool) (items : List Item) → length items ≤ length (skip b items) + 1
skip-length true [] = omega arith
skip-length true (item ∷ items) = omega arith
skip-length false items = omega arith

length-subs : (subs : List Sub) → length (map item_of subs) ≡ length subs
length-subs [] = refl
length-subs (sub ∷ subs) = ap (λ (n : ℕ). suc n) (length-subs subs)

joint-weight : (made : Item) (items : List Item) → IsJoint made items → unbroken_weight made ≤ 2
joint-weight made items joint =
    let whole = joint.lists.whole in
    let gives = ap (λ (l : List Item). length l) joint.gives in
    let rest = skip-length (begins_with_kern items) items in
    let size = length-append (map item_of whole) (skip (begins_with_kern items) items) in
    let same = length-subs whole in
    rw joint.is (omega (arith, gives, rest, size, same))

option-weight : (items : List Item) (made : Option Item) → ((one : Item) → made ≡ Some one → IsJoint one items)
    → sum_by unbroken_weight (option_to_list made) ≤ 2
option-weight items None is = omega arith
option-weight items (Some one) is = let two = joint-weight one items (is one refl) in omega (arith, two)

pieces-weight : (w : Hyphening) (from : ℕ) (taken : Bool) (items : List Item)
    → sum_by unbroken_weight (pieces w from taken items) ≤ 4 * sum_by unbroken_weight items
unfolding pieces
pieces-weight w from taken [] = omega arith
pieces-weight w from taken (item ∷ items) =
    let end = from + length (letters item) in
    let between = joint w end item items in
    let next = pieces w end (takes_kern between items) items in
    let first = taken-weight w from taken item in
    let two = option-weight items between (λ one e. joint-is w end item items one e) in
    let rest = pieces-weight w end (takes_kern between items) items in
    let outer = sum_by-append unbroken_weight (unless_taken taken (own w from item)) (option_to_list between ++ next) in
    let inner = sum_by-append unbroken_weight (option_to_list between) next in
    let some = weight-some item in
    let before = sum_by-cons unbroken_weight item items in
    let made : pieces w from taken (item ∷ items) ≡ unless_taken taken (own w from item) ++ (option_to_list between ++ next) = refl in
    let whole = ap (sum_by unbroken_weight) made in
    omega (arith, first, two, rest, outer, inner, some, before, whole)

in_font-weight : (tables : Tables) (places : Places) (word : Word) (font : Option Font) (items : List Item)
    → sum_by unbroken_weight (in_font tables places word font items) ≤ 4 * sum_by unbroken_weight items
in_font-weight tables places word None items = omega arith
in_font-weight tables places word (Some font) items = pieces-weight _ 0 false items

word-weight : (tables : Tables) (stock : List Font) (places : Places) (word : Option Word) (items : List Item)
    → sum_by unbroken_weight (by_word tables stock places word items) ≤ 4 * sum_by unbroken_weight (take (count_of word) items)
unfolding word_items
word-weight tables stock places None items = omega arith
word-weight tables stock places (Some word) items =
    in_font-weight tables places word (slice_get stock word.number) (take word.count items)

front-weight : (tables : Tables) (stock : List Font) (places : Places) (items : List Item)
    → sum_by unbroken_weight (front tables stock places items) ≤ 4 * sum_by unbroken_weight (take (front_count tables stock items) items)
unfolding front front_count
front-weight tables stock places items =
    let count = passed tables items in
    let rest = drop count items in
    let word = word_of tables stock rest in
    let sum = sum_by-append unbroken_weight (take count items) (by_word tables stock places word rest) in
    let own = word-weight tables stock places word rest in
    let split = ap (sum_by unbroken_weight) (take-add count (count_of word) items) in
    let parts = sum_by-append unbroken_weight (take count items) (take (count_of word) rest) in
    omega (arith, sum, own, split, parts)

glue-weight : (tables : Tables) (stock : List Font) (places : Places) (b : Bool) (item : Item) (items : List Item)
    → sum_by unbroken_weight (hyphenated_from tables stock places (front_count tables stock items) items)
    ≤ 4 * sum_by unbroken_weight (drop (front_count tables stock items) items)
    → sum_by unbroken_weight (hyphenated_from tables stock places 0 items) ≤ 4 * sum_by unbroken_weight items
    → sum_by unbroken_weight (if b then
    item ∷ (front tables stock places items
    ++ hyphenated_from tables stock places (front_count tables stock items) items)
    else item ∷ hyphenated_from tables stock places zero items)
    ≤ 4 * sum_by unbroken_weight (item ∷ items)
glue-weight tables stock places true item items behind plain =
    let count = front_count tables stock items in
    let first = front-weight tables stock places items in
    let sum = sum_by-append unbroken_weight (front tables stock places items) (hyphenated_from tables stock places count items) in
    let parts = sum_by-append unbroken_weight (take count items) (drop count items) in
    let whole = ap (sum_by unbroken_weight) (take-append-drop count items) in
    let before = sum_by-cons unbroken_weight item items in
    let after = sum_by-cons unbroken_weight item (front tables stock places items ++ hyphenated_from tables stock places count items) in
    omega (arith, first, sum, behind, parts, whole, before, after)
glue-weight tables stock places false item items behind plain =
    let before = sum_by-cons unbroken_weight item items in
    let after = sum_by-cons unbroken_weight item (hyphenated_from tables stock places 0 items) in
    omega (arith, plain, before, after)

from-weight : (tables : Tables) (stock : List Font) (places : Places) (done : ℕ) (items : List Item)
    → sum_by unbroken_weight (hyphenated_from tables stock places done items) ≤ 4 * sum_by unbroken_weight (drop done items)
unfolding hyphenated_from
from-weight tables stock places zero [] = omega arith
from-weight tables stock places (suc done) [] = omega arith
from-weight tables stock places (suc done) (item ∷ items) = from-weight tables stock places done items
from-weight tables stock places zero (item ∷ items) =
    glue-weight tables stock places (is_glue item) item items
    (from-weight tables stock places (front_count tables stock items) items) (from-weight tables stock places zero items)

-- ---- no list before or after a break is long

behind-length : (code : ℕ) (number hyphen : ℕ) (subs : List Sub) (b : Bool)
    → length (if b then drop 1 subs else sub_char number hyphen ∷ []) ≤ length subs + 1
behind-length code number hyphen [] true = omega arith
behind-length code number hyphen (sub ∷ subs) true = omega arith
behind-length code number hyphen subs false = omega arith

take-length : (n : ℕ) (xs : List ℕ) → length (take n xs) ≤ length xs
take-length zero xs = omega arith
take-length (suc n) [] = omega arith
take-length (suc n) (x ∷ xs) = let more = take-length n xs in omega (arith, more)

drop-length : (n : ℕ) (xs : List ℕ) → length (drop n xs) ≤ length xs
drop-length zero xs = omega arith
drop-length (suc n) [] = omega arith
drop-length (suc n) (x ∷ xs) = let more = drop-length n xs in omega (arith, more)

pub short-keeps : (stock : List Font) (w : Hyphening) → Keeps BreaksShort stock w
short-keeps stock w = record {
  ligature = λ font code n covers pre post own few first last.
      let one = first.few in
      let two = last.few in
      let front = take-length n covers in
      let back = drop-length n covers in
      let size = length-append (take n covers) (w.hyphen ∷ []) in
      (omega (arith, one, front, size, few), omega (arith, two, back, few));
  between = λ code subs lawful.
      let one = lawful.few in
      let size = behind-length code w.number w.hyphen subs (begins_with_char code subs) in
      (omega (arith, one, size), omega arith);
  kern = λ code subs width left lawful own.
      let one = lawful.few in
      let size = behind-length code w.number w.hyphen subs (begins_with_char code subs) in
      (omega (arith, one, size), omega arith);
}

pub hyphenated-bounds : (tables : Tables) (stock : List Font) (places : Places) (list : HList) → IsSmall list
    → IsInBounds (record { items = hyphenated_items tables stock places list.items })
unfolding unbroken_count item_count
hyphenated-bounds tables stock places list small =
    let bounds = small-in_bounds list small in
    let made = from-weight tables stock places 0 list.items in
    let before = sum_by-le-sum_by unbroken_weight item_weight list.items weight-le in
    record {
      few = omega (arith, made, before, small);
      short = from-keeps BreaksShort tables stock places 0 list.items (λ w items word found own number hyphen within. short-keeps stock w) bounds.short;
    }
