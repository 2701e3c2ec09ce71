-- Words without hyphen places stay as they are, and so does a list whose words have none.
--     empty_of                 a list of no items
--     pieces-none              the items of a word without places
--     word-none                a word whose letters have no place
--     front-same, front-empty  what follows a glue, where its word has no place, or where there is no word
--     plain-same, glue-same    one item before others that stay, or a glue with what follows it
--     glue-found               the same where it was found how many items follow
--     step-same, end-same      a loop over the items
--     from-silent              where no word has a place
use Rattle.std.proofs.Common.{◌≡◌, ℕ, zero, suc, ◌+◌, ◌-◌, ◌<◌, ◌≤◌, ◌&&◌, Bool, true, false, cond, List, [], ◌∷◌, ◌++◌, length, take, drop, get_or, refl, ap, subst, sym, ◌∙◌, append-nil, arith}
use Rattle.std.specs.Prelude.{Option, Some, None, IfSome, slice_get}
use Rattle.std.specs.List.{find, list_any, range_with_len}
use Rattle.std.proofs.Math.Seq.{drop-drop}
use Rattle.std.proofs.lemmas.List.{take-append-drop, drop_all}
use Rattle.font_stock.specs.declared.font.Font.{Font}
use Rattle.micro_num.specs.declared.tables.Tables.{Tables}
use Rattle.hlist.specs.declared.item.Item.{Item}
use Rattle.hlist.specs.declared.item.Item.TheVariants.{Char, Lig, FontKern, Kern, Glue, Penalty, Disc, Box}
use Rattle.hlist_hyph.specs.Hyphenated.{Places, lower_word, in_font, word_items, by_word, count_of, front, front_count, is_glue, hyphenated_from}
use Rattle.hlist_hyph.specs.Untouched.{Stays}
use Rattle.hlist_hyph.specs.Pieces.{Hyphening, is_place, first_inside, split, own, covers_letters, joint, joint_behind, code_of, whole_before, pieces}
use Rattle.hlist_hyph.specs.Words.{letters, passed, word_of}
use Rattle.hlist_hyph.specs.declared.word.Word.{Word}
use Rattle.hlist_hyph.proofs.LoopLemmas.{turn, plain-turn, glue-turn, from-end, front-is}

-- ---- a word

pub empty_of : (xs : List ℕ) → length xs ≡ 0 → xs ≡ []
empty_of [] is = refl
empty_of (x ∷ xs) is = absurd (omega (arith, is))

no_find : (test : ℕ → Bool) (ns : List ℕ) → ((n : ℕ) → test n ≡ false) → find test ns ≡ None
no_find test [] fails = refl
no_find test (n ∷ ns) fails = ap (λ (b : Bool). cond b (Some n) (find test ns)) (fails n) ∙ no_find test ns fails

no_inside : (from count : ℕ) → first_inside [] from count ≡ None
unfolding first_inside
no_inside from count = no_find (λ n. is_place [] (from + n)) (range_with_len 1 (count - 1)) (λ n. refl)

module _ (w : Hyphening) (none : w.places ≡ []) where
  own-none : (from : ℕ) (item : Item) → own w from item ≡ item
  own-none from (Char font code) = refl
  own-none from (Lig font code covers) =
      ap (λ (places : List ℕ). split w font code covers (first_inside places from (length covers))) none
      ∙ ap (split w font code covers) (no_inside from (length covers))
  own-none from (FontKern width left) = refl
  own-none from (Kern width) = refl
  own-none from (Glue glue) = refl
  own-none from (Penalty value) = refl
  own-none from (Disc lists) = refl
  own-none from (Box width) = refl

  joint-none : (end : ℕ) (item : Item) (items : List Item) → joint w end item items ≡ None
  unfolding joint
  joint-none end item items = by (covers_letters item)
    where
      by : (covers : Bool)
          → cond (covers && is_place w.places end) (joint_behind w (code_of item) (whole_before items)) None ≡ None
      by false = refl
      by true = ap (λ (places : List ℕ). cond (is_place places end) (joint_behind w (code_of item) (whole_before items)) None) none

  pub pieces-none : (from : ℕ) (items : List Item) → pieces w from false items ≡ items
  unfolding pieces
  pieces-none from [] = refl
  pieces-none from (item ∷ items) =
      rw (joint-none (from + length (letters item)) item items, own-none from item)
      (ap (λ (rest : List Item). item ∷ rest) (pieces-none (from + length (letters item)) items))

pub word-none : (tables : Tables) (stock : List Font) (places : Places) (word : Word) (items : List Item)
    → places (lower_word tables items) ≡ [] → word_items tables stock places word items ≡ items
unfolding word_items
word-none tables stock places word items none = by (slice_get stock word.number)
  where
    by : (font : Option Font) → in_font tables places word font items ≡ items
    by None = refl
    by (Some font) = pieces-none _ none 0 items

-- ---- what follows a glue

take-none : (k : ℕ) → let none : List Item = [] in take k none ≡ none
take-none zero = refl
take-none (suc k) = refl

take-parts : (n m : ℕ) (xs : List Item) → take n xs ++ take m (drop n xs) ≡ take (n + m) xs
take-parts zero m xs =
    let same : m ≡ 0 + m = omega arith in
    ap (λ (k : ℕ). take k xs) same
take-parts (suc n) m [] = take-none m ∙ sym (take-none (suc n + m))
take-parts (suc n) m (x ∷ xs) =
    let more : suc (n + m) ≡ suc n + m = omega arith in
    ap (λ (ys : List Item). x ∷ ys) (take-parts n m xs) ∙ ap (λ (k : ℕ). take k (x ∷ xs)) more

pub front-same : (tables : Tables) (stock : List Font) (places : Places) (items rest own : List Item) (count : ℕ) (word : Word)
    (at : List ℕ) → count ≡ passed tables items → rest ≡ drop count items → Some word ≡ word_of tables stock rest
    → own ≡ take word.count rest → at ≡ places (lower_word tables own) → at ≡ []
    → front tables stock places items ≡ take (count + word.count) items
front-same tables stock places items rest own count word at exact sliced is mine read none =
    let quiet : places (lower_word tables (take word.count rest)) ≡ [] =
    ap (λ (i : List Item). places (lower_word tables i)) (sym mine) ∙ sym read ∙ none in
    front-is tables stock places items rest count (Some word) exact sliced is
    ∙ ap (λ (i : List Item). take count items ++ i) (word-none tables stock places word (take word.count rest) quiet)
    ∙ ap (λ (i : List Item). take count items ++ take word.count i) sliced
    ∙ take-parts count word.count items

pub front-empty : (tables : Tables) (stock : List Font) (places : Places) (items rest : List Item) (count : ℕ)
    → count ≡ passed tables items → rest ≡ drop count items → None ≡ word_of tables stock rest
    → front tables stock places items ≡ take count items
front-empty tables stock places items rest count exact sliced is =
    front-is tables stock places items rest count None exact sliced is ∙ append-nil (take count items)

-- ---- the whole list

module _ (tables : Tables) (stock : List Font) (places : Places) (xs : List Item) where
  pub plain-same : (x : Item) → 0 < length xs → x ≡ get_or xs 0 x → is_glue x ≡ false
      → Stays tables stock places (drop 1 xs) → Stays tables stock places xs
  plain-same x lt is plain stays =
      plain-turn tables stock places xs 0 x lt is plain
      ∙ ap (λ (rest : List Item). x ∷ rest) stays
      ∙ sym (turn xs 0 x lt is)

  pub glue-same : (count : ℕ) (x : Item) (behind : List Item) → 0 < length xs → x ≡ get_or xs 0 x → is_glue x ≡ true
      → behind ≡ drop 1 xs → front tables stock places behind ≡ take count behind
      → count ≡ front_count tables stock behind → Stays tables stock places (drop (1 + count) xs) → Stays tables stock places xs
  glue-same count x behind lt is glue rest same counted stays =
      let later = drop 1 xs in
      let front_same : front tables stock places later ≡ take count later = rw rest at same in
      let exact : front_count tables stock later ≡ count = sym (rw rest at counted) in
      let more : drop count later ≡ drop (1 + count) xs = drop-drop count 1 xs in
      let tail : hyphenated_from tables stock places 0 (drop count later) ≡ drop count later =
      ap (hyphenated_from tables stock places 0) more ∙ stays ∙ sym more in
      glue-turn tables stock places xs 0 x lt is glue
      ∙ ap (λ (n : ℕ). (x ∷ front tables stock places later) ++ hyphenated_from tables stock places 0 (drop n later)) exact
      ∙ ap (λ (i : List Item). (x ∷ i) ++ hyphenated_from tables stock places 0 (drop count later)) front_same
      ∙ ap (λ (i : List Item). x ∷ (take count later ++ i)) tail
      ∙ ap (λ (i : List Item). x ∷ i) (take-append-drop count later)
      ∙ sym (turn xs 0 x lt is)

  pub glue-found : (found : Option ℕ) (count : ℕ) (x : Item) (behind : List Item) → 0 < length xs → x ≡ get_or xs 0 x
      → is_glue x ≡ true → behind ≡ drop 1 xs → found ≡ Some count
      → IfSome found (λ n. front tables stock places behind ≡ take n behind) → IfSome found (λ n. n ≡ front_count tables stock behind)
      → Stays tables stock places (drop (1 + count) xs) → Stays tables stock places xs
  glue-found found count x behind lt is glue rest some same counted =
      glue-same count x behind lt is glue rest
      (subst (λ (f : Option ℕ). IfSome f (λ n. front tables stock places behind ≡ take n behind)) some same)
      (subst (λ (f : Option ℕ). IfSome f (λ n. n ≡ front_count tables stock behind)) some counted)

  -- a step of a loop over the items
  pub step-same : (at count : ℕ) (rest : List Item) → rest ≡ drop at xs
      → (Stays tables stock places (drop count rest) → Stays tables stock places rest)
      → (Stays tables stock places (drop at xs) → Stays tables stock places xs)
      → Stays tables stock places (drop (at + count) xs) → Stays tables stock places xs
  step-same at count rest is step so_far stays =
      so_far (subst (Stays tables stock places) is
      (step (subst (Stays tables stock places) (sym (ap (λ (i : List Item). drop count i) is ∙ drop-drop count at xs)) stays)))

  pub end-same : (at : ℕ) → length xs ≤ at → Stays tables stock places (drop at xs)
  end-same at le = from-end tables stock places xs at le ∙ sym (drop_all at xs le)

-- ---- where no word has a place

module _ (tables : Tables) (stock : List Font) (places : Places) (silent : (word : List ℕ) → places word ≡ []) where
  front-silent : (items : List Item) → front tables stock places items ≡ take (front_count tables stock items) items
  unfolding front front_count
  front-silent items = by (word_of tables stock rest)
    where
      count : ℕ
      count = passed tables items

      rest : List Item
      rest = drop (passed tables items) items

      by : (word : Option Word) → take count items ++ by_word tables stock places word rest ≡ take (count + count_of word) items
      by None = append-nil (take count items) ∙ ap (λ (n : ℕ). take n items) (omega arith)
      by (Some word) =
          ap (λ (i : List Item). take count items ++ i) (word-none tables stock places word (take word.count rest) (silent _))
          ∙ take-parts count word.count items

  pub from-silent : (done : ℕ) (items : List Item) → hyphenated_from tables stock places done items ≡ drop done items
  unfolding hyphenated_from
  from-silent zero [] = refl
  from-silent (suc done) [] = refl
  from-silent (suc done) (item ∷ items) = from-silent done items
  from-silent zero (item ∷ items) =
      by (is_glue item) (from-silent zero items) (from-silent (front_count tables stock items) items)
    where
      count : ℕ
      count = front_count tables stock items

      by : (glue : Bool) → hyphenated_from tables stock places zero items ≡ items
          → hyphenated_from tables stock places (front_count tables stock items) items ≡ drop (front_count tables stock items) items
          → cond glue (item ∷ (front tables stock places items ++ hyphenated_from tables stock places (front_count tables stock items) items))
          (item ∷ hyphenated_from tables stock places zero items) ≡ item ∷ items
      by false rest behind = ap (λ (i : List Item). item ∷ i) rest
      by true rest behind =
          ap (λ (i : List Item). item ∷ (i ++ hyphenated_from tables stock places count items)) (front-silent items)
          ∙ ap (λ (i : List Item). item ∷ (take count items ++ i)) behind
          ∙ ap (λ (i : List Item). item ∷ i) (take-append-drop count items)
