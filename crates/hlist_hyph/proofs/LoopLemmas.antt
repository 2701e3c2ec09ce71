-- One more item of a list that a loop goes over, or none.
use Rattle.std.proofs.Common.{◌≡◌, ℕ, zero, suc, ◌+◌, ◌-◌, ◌<◌, ◌≤◌, Bool, true, false, ◌&&◌, ◌||◌, ◌==◌, List, [], ◌∷◌, ◌++◌, length, take, drop, get_or, refl, ap, sym, ◌∙◌, append_assoc, append-nil, length-append, arith}
use Rattle.std.specs.Prelude.{Option, Some, None, if◌then◌else◌, option_to_list, map, slice_get, IfSome}
use Rattle.std.specs.List.{flat_map, list_all, list_any, find, range_with_len}
use Rattle.std.proofs.Math.Seq.{drop-drop}
use Rattle.std.proofs.lemmas.List.{drop_more, drop_all, map-append, take_all, length-drop}
use Rattle.font_stock.specs.declared.font.Font.{Font}
use Rattle.micro_num.specs.declared.tables.Tables.{Tables}
use Rattle.hlist.specs.declared.item.Item.{Item}
use Rattle.hlist.specs.declared.item.Item.TheVariants.{Char, Lig, FontKern, Kern, Glue, Penalty, Disc, Box}
use Rattle.micro_num.specs.declared.glue.Glue.{Glue as glue_type}
use Rattle.hlist_hyph.specs.Hyphenated.{Places, lower_word, in_font, word_items, by_word, count_of, front, front_count, is_glue, hyphenated_from}
use Rattle.hlist_hyph.specs.Pieces.{Hyphening, is_place, first_inside, own, joint, takes_kern, unless_taken, pieces}
use Rattle.hlist_hyph.specs.Words.{letters, lower, is_letter, is_passed, passed, joins, word_length, is_text, ends_word, is_closed, word_of}
use Rattle.hlist_hyph.specs.declared.word.Word.{Word}

-- ---- lists

pub turn : {A : Type 0} (xs : List A) (i : ℕ) (x : A) → i < length xs → x ≡ get_or xs i x → drop i xs ≡ x ∷ drop (i + 1) xs
turn xs i x lt is = drop_more xs i x lt ∙ ap (λ (y : _). y ∷ drop (i + 1) xs) (sym is)

-- a list that a loop makes, when more is put behind it, and when nothing is left
pub longer : {A : Type 0} (made old front rest after total : List A) → made ≡ old ++ front → rest ≡ front ++ after
    → old ++ rest ≡ total → made ++ after ≡ total
longer made old front rest after total put turn so_far =
    ap (λ list. list ++ after) put ∙ append_assoc old front after ∙ ap (λ list. old ++ list) (sym turn) ∙ so_far

pub whole : {A : Type 0} (made rest total : List A) → rest ≡ [] → made ++ rest ≡ total → made ≡ total
whole made rest total none so_far = sym (append-nil made) ∙ ap (λ list. made ++ list) (sym none) ∙ so_far

-- the part of a slice up to a place, and the part from a place on
pub head-range : {A : Type 0} (n : ℕ) (xs : List A) → take (n - 0) xs ≡ take n xs
head-range n xs = ap (λ (m : ℕ). take m xs) (omega arith)

pub tail-range : {A : Type 0} (n : ℕ) (xs : List A) → take (length xs - n) (drop n xs) ≡ drop n xs
tail-range n xs = take_all (length xs - n) (drop n xs) (omega (arith, length-drop n xs))

-- ---- all codes are letters, some place is one

pub all-on : (p : ℕ → Bool) (xs : List ℕ) (i x : ℕ) (b : Bool) → i < length xs → x ≡ get_or xs i x → p x ≡ true
    → b ≡ list_all p (drop i xs) → b ≡ list_all p (drop (i + 1) xs)
all-on p xs i x b lt is holds e = e ∙ ap (list_all p) (turn xs i x lt is) ∙ rw holds refl

pub all-off : (p : ℕ → Bool) (xs : List ℕ) (i x : ℕ) (b : Bool) → i < length xs → x ≡ get_or xs i x → p x ≡ false
    → b ≡ list_all p (drop i xs) → b ≡ false
all-off p xs i x b lt is fails e = e ∙ ap (list_all p) (turn xs i x lt is) ∙ rw fails refl

pub all-end : (p : ℕ → Bool) (xs : List ℕ) (i : ℕ) (b : Bool) → length xs ≤ i → b ≡ list_all p (drop i xs) → b ≡ true
all-end p xs i b le e = e ∙ ap (list_all p) (drop_all i xs le)

pub any-on : (p : ℕ → Bool) (xs : List ℕ) (i x : ℕ) (b : Bool) → i < length xs → x ≡ get_or xs i x → p x ≡ false
    → b ≡ list_any p (drop i xs) → b ≡ list_any p (drop (i + 1) xs)
any-on p xs i x b lt is fails e = e ∙ ap (list_any p) (turn xs i x lt is) ∙ rw fails refl

pub any-off : (p : ℕ → Bool) (xs : List ℕ) (i x : ℕ) (b : Bool) → i < length xs → x ≡ get_or xs i x → p x ≡ true
    → b ≡ list_any p (drop i xs) → b ≡ true
any-off p xs i x b lt is holds e = e ∙ ap (list_any p) (turn xs i x lt is) ∙ rw holds refl

pub any-end : (p : ℕ → Bool) (xs : List ℕ) (i : ℕ) (b : Bool) → length xs ≤ i → b ≡ list_any p (drop i xs) → b ≡ false
any-end p xs i b le e = e ∙ ap (list_any p) (drop_all i xs le)

-- ---- the first place inside

pub find-turn : (p : ℕ → Bool) (n count : ℕ) → n < count
    → find p (range_with_len n (count - n)) ≡ (if p n then Some n else find p (range_with_len (n + 1) (count - (n + 1))))
find-turn p n count lt =
    let size : count - n ≡ suc (count - (n + 1)) = omega arith in
    rw size refl

pub find-on : (p : ℕ → Bool) (n count : ℕ) (first : Option ℕ) → n < count → p n ≡ false
    → first ≡ find p (range_with_len n (count - n)) → first ≡ find p (range_with_len (n + 1) (count - (n + 1)))
find-on p n count first lt off e = e ∙ find-turn p n count lt ∙ rw off refl

-- ---- the search and the word

pub passed-on : (tables : Tables) (xs : List Item) (i : ℕ) (x : Item) → i < length xs → x ≡ get_or xs i x
    → is_passed tables x ≡ true → passed tables (drop i xs) ≡ suc (passed tables (drop (i + 1) xs))
unfolding passed
passed-on tables xs i x lt is holds = ap (passed tables) (turn xs i x lt is) ∙ rw holds refl

pub passed-off : (tables : Tables) (xs : List Item) (i : ℕ) (x : Item) → i < length xs → x ≡ get_or xs i x
    → is_passed tables x ≡ false → passed tables (drop i xs) ≡ 0
unfolding passed
passed-off tables xs i x lt is fails = ap (passed tables) (turn xs i x lt is) ∙ rw fails refl

pub passed-end : (tables : Tables) (xs : List Item) (i : ℕ) → length xs ≤ i → passed tables (drop i xs) ≡ 0
unfolding passed
passed-end tables xs i le = ap (passed tables) (drop_all i xs le)

pub length-on : (tables : Tables) (number room : ℕ) (xs : List Item) (i : ℕ) (x : Item) → i < length xs → x ≡ get_or xs i x
    → joins tables number room x ≡ true
    → word_length tables number room (drop i xs) ≡ suc (word_length tables number (room - length (letters x)) (drop (i + 1) xs))
unfolding word_length
length-on tables number room xs i x lt is holds = ap (word_length tables number room) (turn xs i x lt is) ∙ rw holds refl

pub length-off : (tables : Tables) (number room : ℕ) (xs : List Item) (i : ℕ) (x : Item) → i < length xs → x ≡ get_or xs i x
    → joins tables number room x ≡ false → word_length tables number room (drop i xs) ≡ 0
unfolding word_length
length-off tables number room xs i x lt is fails = ap (word_length tables number room) (turn xs i x lt is) ∙ rw fails refl

pub length-end : (tables : Tables) (number room : ℕ) (xs : List Item) (i : ℕ) → length xs ≤ i
    → word_length tables number room (drop i xs) ≡ 0
unfolding word_length
length-end tables number room xs i le = ap (word_length tables number room) (drop_all i xs le)

pub closed-on : (xs : List Item) (i : ℕ) (x : Item) (b : Bool) → i < length xs → x ≡ get_or xs i x → is_text x ≡ true
    → b ≡ is_closed (drop i xs) → b ≡ is_closed (drop (i + 1) xs)
unfolding is_closed
closed-on xs i x b lt is holds e = e ∙ ap is_closed (turn xs i x lt is) ∙ rw holds refl

pub closed-off : (xs : List Item) (i : ℕ) (x : Item) (b : Bool) → i < length xs → x ≡ get_or xs i x → is_text x ≡ false
    → b ≡ is_closed (drop i xs) → b ≡ ends_word x
unfolding is_closed
closed-off xs i x b lt is fails e = e ∙ ap is_closed (turn xs i x lt is) ∙ rw fails refl

pub closed-end : (xs : List Item) (i : ℕ) (b : Bool) → length xs ≤ i → b ≡ is_closed (drop i xs) → b ≡ false
unfolding is_closed
closed-end xs i b le e = e ∙ ap is_closed (drop_all i xs le)

-- ---- the letters of a word

pub codes-turn : (tables : Tables) (xs : List ℕ) (i x : ℕ) → i < length xs → x ≡ get_or xs i x
    → map (lower tables) (drop i xs) ≡ (lower tables x ∷ []) ++ map (lower tables) (drop (i + 1) xs)
codes-turn tables xs i x lt is = ap (map (lower tables)) (turn xs i x lt is)

pub codes-end : (tables : Tables) (xs : List ℕ) (i : ℕ) → length xs ≤ i → map (lower tables) (drop i xs) ≡ []
codes-end tables xs i le = ap (map (lower tables)) (drop_all i xs le)

pub letters-turn : (tables : Tables) (xs : List Item) (i : ℕ) (x : Item) → i < length xs → x ≡ get_or xs i x
    → lower_word tables (drop i xs) ≡ map (lower tables) (letters x) ++ lower_word tables (drop (i + 1) xs)
letters-turn tables xs i x lt is =
    ap (λ (items : List Item). lower_word tables items) (turn xs i x lt is)
    ∙ map-append (lower tables) (letters x) (flat_map letters (drop (i + 1) xs))

pub letters-end : (tables : Tables) (xs : List Item) (i : ℕ) → length xs ≤ i → lower_word tables (drop i xs) ≡ []
letters-end tables xs i le = ap (λ (items : List Item). lower_word tables items) (drop_all i xs le)

-- ---- the items of a word

pub pieces-turn : (w : Hyphening) (from : ℕ) (taken : Bool) (xs : List Item) (i : ℕ) (x : Item) → i < length xs → x ≡ get_or xs i x
    → pieces w from taken (drop i xs)
    ≡ unless_taken taken (own w from x)
    ++ (option_to_list (joint w (from + length (letters x)) x (drop (i + 1) xs))
    ++ pieces w (from + length (letters x)) (takes_kern (joint w (from + length (letters x)) x (drop (i + 1) xs)) (drop (i + 1) xs)) (drop (i + 1) xs))
unfolding pieces
pieces-turn w from taken xs i x lt is = ap (pieces w from taken) (turn xs i x lt is)

-- a turn puts what the item becomes, and the discretionary behind it
pub pieces-step : (w : Hyphening) (from size : ℕ) (taken next : Bool) (xs behind : List Item) (i : ℕ) (x : Item)
    (made0 made1 made2 total : List Item) → i < length xs → x ≡ get_or xs i x → size ≡ length (letters x) → behind ≡ drop (i + 1) xs
    → made1 ≡ made0 ++ unless_taken taken (own w from x)
    → made2 ≡ made1 ++ option_to_list (joint w (from + size) x behind)
    → next ≡ takes_kern (joint w (from + size) x behind) behind
    → made0 ++ pieces w from taken (drop i xs) ≡ total
    → made2 ++ pieces w (from + size) next (drop (i + 1) xs) ≡ total
pieces-step w from size taken next xs behind i x made0 made1 made2 total lt is sized rest put1 put2 takes so_far =
    let end = from + length (letters x) in
    let later = drop (i + 1) xs in
    let between = joint w end x later in
    let put : made2 ≡ made1 ++ option_to_list between = rw rest at (rw sized at put2) in
    let kern : next ≡ takes_kern between later = rw rest at (rw sized at takes) in
    let after = pieces w end (takes_kern between later) later in
    rw (sized, kern) (longer made2 made1 (option_to_list between) (option_to_list between ++ after) after total put refl
    (longer made1 made0 (unless_taken taken (own w from x)) (pieces w from taken (drop i xs)) (option_to_list between ++ after) total
    put1 (pieces-turn w from taken xs i x lt is) so_far))

pub pieces-end : (w : Hyphening) (from : ℕ) (taken : Bool) (xs : List Item) (i : ℕ) → length xs ≤ i
    → pieces w from taken (drop i xs) ≡ []
unfolding pieces
pieces-end w from taken xs i le = ap (pieces w from taken) (drop_all i xs le)

pub letters-left : (xs : List Item) (i : ℕ) (x : Item) → i < length xs → x ≡ get_or xs i x
    → length (flat_map letters (drop i xs)) ≡ length (letters x) + length (flat_map letters (drop (i + 1) xs))
letters-left xs i x lt is =
    ap (λ (items : List Item). length (flat_map letters items)) (turn xs i x lt is)
    ∙ length-append (letters x) (flat_map letters (drop (i + 1) xs))

-- ---- the whole list

pub from-drop : (tables : Tables) (stock : List Font) (places : Places) (done : ℕ) (items : List Item)
    → hyphenated_from tables stock places done items ≡ hyphenated_from tables stock places 0 (drop done items)
unfolding hyphenated_from
from-drop tables stock places zero items = refl
from-drop tables stock places (suc done) [] = refl
from-drop tables stock places (suc done) (item ∷ items) = from-drop tables stock places done items

pub plain-turn : (tables : Tables) (stock : List Font) (places : Places) (xs : List Item) (i : ℕ) (x : Item)
    → i < length xs → x ≡ get_or xs i x → is_glue x ≡ false
    → hyphenated_from tables stock places 0 (drop i xs) ≡ (x ∷ []) ++ hyphenated_from tables stock places 0 (drop (i + 1) xs)
unfolding hyphenated_from
plain-turn tables stock places xs i x lt is fails =
    ap (hyphenated_from tables stock places 0) (turn xs i x lt is) ∙ rw fails refl

pub glue-turn : (tables : Tables) (stock : List Font) (places : Places) (xs : List Item) (i : ℕ) (x : Item)
    → i < length xs → x ≡ get_or xs i x → is_glue x ≡ true
    → hyphenated_from tables stock places 0 (drop i xs)
    ≡ (x ∷ front tables stock places (drop (i + 1) xs))
    ++ hyphenated_from tables stock places 0 (drop (front_count tables stock (drop (i + 1) xs)) (drop (i + 1) xs))
unfolding hyphenated_from
glue-turn tables stock places xs i x lt is holds =
    ap (hyphenated_from tables stock places 0) (turn xs i x lt is) ∙ rw holds refl
    ∙ ap (λ (rest : List Item). x ∷ (front tables stock places (drop (i + 1) xs) ++ rest))
    (from-drop tables stock places (front_count tables stock (drop (i + 1) xs)) (drop (i + 1) xs))

pub glue-step : (tables : Tables) (stock : List Font) (places : Places) (xs behind : List Item) (i count : ℕ) (x twin : Item)
    (made0 made1 made2 total : List Item) → i < length xs → x ≡ get_or xs i x → is_glue x ≡ true → twin ≡ x → behind ≡ drop (i + 1) xs
    → made1 ≡ made0 ++ twin ∷ [] → made2 ≡ made1 ++ front tables stock places behind → count ≡ front_count tables stock behind
    → made0 ++ hyphenated_from tables stock places 0 (drop i xs) ≡ total
    → made2 ++ hyphenated_from tables stock places 0 (drop (i + 1 + count) xs) ≡ total
glue-step tables stock places xs behind i count x twin made0 made1 made2 total lt is glue copied rest put1 put2 counted so_far =
    let later = drop (i + 1) xs in
    let put : made2 ≡ made1 ++ front tables stock places later = rw rest at put2 in
    let exact : count ≡ front_count tables stock later = rw rest at counted in
    let first : made1 ≡ made0 ++ x ∷ [] = rw copied at put1 in
    let more : drop (i + 1 + count) xs ≡ drop (front_count tables stock later) later =
    sym (drop-drop count (i + 1) xs) ∙ ap (λ (n : ℕ). drop n later) exact in
    let after = hyphenated_from tables stock places 0 (drop (front_count tables stock later) later) in
    rw more (longer made2 made1 (front tables stock places later) (front tables stock places later ++ after) after total put refl
    (longer made1 made0 (x ∷ []) (hyphenated_from tables stock places 0 (drop i xs)) (front tables stock places later ++ after) total
    first (glue-turn tables stock places xs i x lt is glue) so_far))

pub from-end : (tables : Tables) (stock : List Font) (places : Places) (xs : List Item) (i : ℕ) → length xs ≤ i
    → hyphenated_from tables stock places 0 (drop i xs) ≡ []
unfolding hyphenated_from
from-end tables stock places xs i le = ap (hyphenated_from tables stock places 0) (drop_all i xs le)

-- ---- what a glue is followed by

pub front-count-is : (tables : Tables) (stock : List Font) (items rest : List Item) (count : ℕ) (word : Option Word)
    → count ≡ passed tables items → rest ≡ drop count items → word ≡ word_of tables stock rest
    → count + count_of word ≡ front_count tables stock items
unfolding front_count
front-count-is tables stock items rest count word exact sliced found =
    let there : word ≡ word_of tables stock (drop (passed tables items) items) = rw exact at (rw sliced at found) in
    rw (there, exact) refl

pub front-is : (tables : Tables) (stock : List Font) (places : Places) (items rest : List Item) (count : ℕ) (word : Option Word)
    → count ≡ passed tables items → rest ≡ drop count items → word ≡ word_of tables stock rest
    → front tables stock places items ≡ take count items ++ by_word tables stock places word rest
unfolding front
front-is tables stock places items rest count word exact sliced found =
    let there : word ≡ word_of tables stock (drop (passed tables items) items) = rw exact at (rw sliced at found) in
    rw (sliced, there, exact) refl

-- the items of a word by what is found for them
pub word_items-is : (tables : Tables) (stock : List Font) (places : Places) (word : Word) (items : List Item) (font : Font) (found : List ℕ)
    → slice_get stock word.number ≡ Some font → found ≡ places (lower_word tables items)
    → word_items tables stock places word items
    ≡ pieces (record { number = word.number; tfm = font.tfm; size = font.size; hyphen = word.hyphen; places = found }) 0 false items
unfolding word_items
word_items-is tables stock places word items font found is same =
    ap (λ (f : Option Font). in_font tables places word f items) is
    ∙ ap (λ (ps : List ℕ). pieces (record { number = word.number; tfm = font.tfm; size = font.size; hyphen = word.hyphen; places = ps }) 0 false items) (sym same)

pub not_glue : (item : Item) → ((glue : glue_type) → item ≡ Glue glue → ⊥) → is_glue item ≡ false
not_glue (Glue glue) other = absurd (other glue refl)
not_glue (Char font code) other = refl
not_glue (Lig font code covers) other = refl
not_glue (FontKern width left) other = refl
not_glue (Kern width) other = refl
not_glue (Penalty value) other = refl
not_glue (Disc lists) other = refl
not_glue (Box width) other = refl

pub some-below : (word : Option Word) (number count : ℕ) → IfSome word (λ w. w.number ≡ number) → number < count
    → IfSome word (λ w. w.number < count)
some-below None number count same below = tt
some-below (Some word) number count same below = rw same below

pub front-word : (tables : Tables) (stock : List Font) (places : Places) (items rest head own : List Item) (count : ℕ) (word : Word)
    (made0 made1 made2 : List Item) → count ≡ passed tables items → rest ≡ drop count items → Some word ≡ word_of tables stock rest
    → made1 ≡ made0 ++ head → head ≡ take count items
    → made2 ≡ made1 ++ word_items tables stock places word own → own ≡ take word.count rest
    → made2 ≡ made0 ++ front tables stock places items
front-word tables stock places items rest head own count word made0 made1 made2 exact sliced found put1 first put2 second =
    let is = front-is tables stock places items rest count (Some word) exact sliced found in
    let one : made1 ≡ made0 ++ take count items = rw first at put1 in
    let two : made2 ≡ made1 ++ word_items tables stock places word (take word.count rest) = rw second at put2 in
    two ∙ ap (λ (l : List Item). l ++ word_items tables stock places word (take word.count rest)) one
    ∙ append_assoc made0 (take count items) (word_items tables stock places word (take word.count rest))
    ∙ ap (λ (l : List Item). made0 ++ l) (sym is)

pub front-none : (tables : Tables) (stock : List Font) (places : Places) (items rest head : List Item) (count : ℕ)
    (made0 made1 : List Item) → count ≡ passed tables items → rest ≡ drop count items → None ≡ word_of tables stock rest
    → made1 ≡ made0 ++ head → head ≡ take count items
    → made1 ≡ made0 ++ front tables stock places items
front-none tables stock places items rest head count made0 made1 exact sliced found put first =
    let is = front-is tables stock places items rest count None exact sliced found in
    let one : made1 ≡ made0 ++ take count items = rw first at put in
    one ∙ ap (λ (l : List Item). made0 ++ l) (sym (is ∙ append-nil (take count items)))

pub one-more : {A : Type 0} (made old : List A) (twin x : A) → made ≡ old ++ twin ∷ [] → twin ≡ x → made ≡ old ++ x ∷ []
one-more made old twin x put copied = put ∙ ap (λ (y : _). old ++ y ∷ []) copied
