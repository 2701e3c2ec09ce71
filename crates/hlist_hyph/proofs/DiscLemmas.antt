-- The hyphenated form of a list is the list with new discretionaries.
use Rattle.std.proofs.Common.{ℤ, append_assoc, ◌≡◌, ℕ, zero, suc, ◌+◌, Bool, true, false, ◌&&◌, List, [], ◌∷◌, ◌++◌, length, take, drop, refl, ap, sym, ◌∙◌}
use Rattle.std.specs.Prelude.{Option, Some, None, if◌then◌else◌, option_to_list, map, slice_get, is_some}
use Rattle.std.specs.List.{filter}
use Rattle.std.proofs.Math.Seq.{take-add}
use Rattle.std.proofs.lemmas.List.{take-append-drop}
use Rattle.font_stock.specs.declared.font.Font.{Font}
use Rattle.micro_num.specs.declared.disc.ThreeLists.{ThreeLists}
use Rattle.micro_num.specs.declared.tables.Tables.{Tables}
use Rattle.hlist.specs.declared.item.Item.{Item}
use Rattle.hlist.specs.declared.item.KernLeft.{KernLeft}
use Rattle.hlist.specs.declared.item.Item.TheVariants.{Char, Lig, FontKern, Kern, Glue, Penalty, Disc, Box}
use Rattle.hlist.specs.declared.item.Sub.{Sub}
use Rattle.hlist.specs.declared.item.Sub.TheVariants.{Char as sub_char, Lig as sub_lig, FontKern as sub_kern}
use Rattle.hlist_hyph.specs.Hyphenated.{Places, in_font, word_items, by_word, count_of, front, front_count, is_glue, hyphenated_from}
use Rattle.hlist_hyph.specs.Pieces.{Hyphening, run_of, first_inside, is_place, broken, split, own, covers_letters, begins_with_letters, kern_before, whole_before, behind_char, joint_of, joint_behind, joint, code_of, begins_with_kern, takes_kern, unless_taken, pieces}
use Rattle.hlist_hyph.specs.Untouched.{HasNewDiscs, nothing, same, put, item_of, is_fixed, fixed_items}
use Rattle.hlist_hyph.specs.Words.{letters, passed, word_of}
use Rattle.hlist_hyph.specs.declared.word.Word.{Word}

pub discs-refl : (items : List Item) → HasNewDiscs items items
discs-refl [] = nothing
discs-refl (item ∷ items) = same item items items (discs-refl items)

put-append : (lists : ThreeLists Sub) (before after more : List Item) → HasNewDiscs (before ++ more) after
    → HasNewDiscs ((map item_of lists.whole ++ before) ++ more) (Disc lists ∷ after)
put-append lists before after more d = rw append_assoc (put lists (before ++ more) after d)

pub discs-append : (a b c d : List Item) → HasNewDiscs a b → HasNewDiscs c d → HasNewDiscs (a ++ c) (b ++ d)
discs-append a b c d nothing more = more
discs-append a b c d (same item before after front) more =
    same item (before ++ c) (after ++ d) (discs-append before after c d front more)
discs-append a b c d (put lists before after front) more =
    put-append lists before (after ++ d) c (discs-append before after c d front more)

-- ---- the items of a word

broken-discs : (font code : ℕ) (covers : List ℕ) (pre post : Option (List Sub)) (xs ys : List Item) → HasNewDiscs xs ys
    → HasNewDiscs (Lig font code covers ∷ xs) (broken font code covers pre post ∷ ys)
broken-discs font code covers (Some pre) (Some post) xs ys d =
    put (record { pre = pre; post = post; whole = sub_lig font code covers ∷ [] }) xs ys d
broken-discs font code covers (Some pre) None xs ys d = same (Lig font code covers) xs ys d
broken-discs font code covers None post xs ys d = same (Lig font code covers) xs ys d

split-discs : (w : Hyphening) (font code : ℕ) (covers : List ℕ) (n : Option ℕ) (xs ys : List Item) → HasNewDiscs xs ys
    → HasNewDiscs (Lig font code covers ∷ xs) (split w font code covers n ∷ ys)
split-discs w font code covers None xs ys d = same (Lig font code covers) xs ys d
split-discs w font code covers (Some n) xs ys d =
    broken-discs font code covers (run_of w (take n covers ++ w.hyphen ∷ []) false true) (run_of w (drop n covers) true false) xs ys d

own-discs : (w : Hyphening) (from : ℕ) (item : Item) (xs ys : List Item) → HasNewDiscs xs ys
    → HasNewDiscs (item ∷ xs) (own w from item ∷ ys)
own-discs w from (Char font code) xs ys d = same (Char font code) xs ys d
own-discs w from (Lig font code covers) xs ys d =
    split-discs w font code covers (first_inside w.places from (length covers)) xs ys d
own-discs w from (FontKern width left) xs ys d = same (FontKern width left) xs ys d
own-discs w from (Kern width) xs ys d = same (Kern width) xs ys d
own-discs w from (Glue glue) xs ys d = same (Glue glue) xs ys d
own-discs w from (Penalty value) xs ys d = same (Penalty value) xs ys d
own-discs w from (Disc lists) xs ys d = same (Disc lists) xs ys d
own-discs w from (Box width) xs ys d = same (Box width) xs ys d

-- what is left of items of which the first may be taken
abbrev pub skip : Bool → List Item → List Item
skip true [] = []
skip true (item ∷ items) = items
skip false items = items

-- A discretionary behind an item: where it has no `whole` list, no kern follows; else it has the kern that follows.
pub record IsJoint (made : Item) (items : List Item) : Type 0 where
  pub lists : ThreeLists Sub
  pub is : made ≡ Disc lists
  pub gives : map item_of lists.whole ++ skip (begins_with_kern items) items ≡ items

letters-no_kern : (item : Item) (items : List Item) → covers_letters item ≡ true → begins_with_kern (item ∷ items) ≡ false
letters-no_kern (Char font code) items e = refl
letters-no_kern (Lig font code covers) items e = refl
letters-no_kern (FontKern width left) items e = absurd cc
letters-no_kern (Kern width) items e = refl
letters-no_kern (Glue glue) items e = refl
letters-no_kern (Penalty value) items e = refl
letters-no_kern (Disc lists) items e = refl
letters-no_kern (Box width) items e = refl

abbrev Gives : List Item → List Sub → Type 0
Gives items whole = map item_of whole ++ skip (begins_with_kern items) items ≡ items

kern-if : (width : ℤ) (left : Option KernLeft) (items : List Item) (whole : List Sub) (b : Bool)
    → (if b then Some (sub_kern width left ∷ []) else None) ≡ Some whole → Gives (FontKern width left ∷ items) whole
kern-if width left items whole true e =
    let only : sub_kern width left ∷ [] ≡ whole = cc in rw (sym only) refl
kern-if width left items whole false e = absurd cc

kern-gives : (item : Item) (items : List Item) (whole : List Sub) → kern_before item items ≡ Some whole → Gives (item ∷ items) whole
kern-gives (Char font code) items whole e = absurd cc
kern-gives (Lig font code covers) items whole e = absurd cc
kern-gives (FontKern width left) items whole e = kern-if width left items whole (begins_with_letters items) e
kern-gives (Kern width) items whole e = absurd cc
kern-gives (Glue glue) items whole e = absurd cc
kern-gives (Penalty value) items whole e = absurd cc
kern-gives (Disc lists) items whole e = absurd cc
kern-gives (Box width) items whole e = absurd cc

whole-if : (item : Item) (items : List Item) (whole : List Sub) (b : Bool) → covers_letters item ≡ b
    → (if b then Some [] else kern_before item items) ≡ Some whole → Gives (item ∷ items) whole
whole-if item items whole true covers e =
    let none : [] ≡ whole = cc in
    rw (sym none) (rw (letters-no_kern item items covers) refl)
whole-if item items whole false covers e = kern-gives item items whole e

whole-gives : (items : List Item) (whole : List Sub) → whole_before items ≡ Some whole → Gives items whole
whole-gives [] whole e = absurd cc
whole-gives (item ∷ items) whole e = whole-if item items whole (covers_letters item) refl e

joint_of-is : (w : Hyphening) (code : ℕ) (whole : List Sub) (run : Option (List Sub)) (items : List Item) (made : Item)
    → Gives items whole → joint_of w code whole run ≡ Some made → IsJoint made items
joint_of-is w code whole None items made gives e = absurd cc
joint_of-is w code whole (Some subs) items made gives e =
    let lists : ThreeLists Sub = record { pre = behind_char code (sub_char w.number w.hyphen ∷ []) subs; post = []; whole = whole } in
    let is : Some (Disc lists) ≡ Some made = e in
    record { lists = lists; is = cc; gives = gives }

behind-is : (w : Hyphening) (code : Option ℕ) (whole : Option (List Sub)) (items : List Item) (made : Item)
    → whole_before items ≡ whole → joint_behind w code whole ≡ Some made → IsJoint made items
behind-is w None whole items made before e = absurd cc
behind-is w (Some code) None items made before e = absurd cc
behind-is w (Some code) (Some whole) items made before e =
    joint_of-is w code whole (run_of w (code ∷ w.hyphen ∷ []) false true) items made (whole-gives items whole before) e

if-is : (w : Hyphening) (item : Item) (items : List Item) (made : Item) (b : Bool)
    → (if b then joint_behind w (code_of item) (whole_before items) else None) ≡ Some made → IsJoint made items
if-is w item items made true e = behind-is w (code_of item) (whole_before items) items made refl e
if-is w item items made false e = absurd cc

pub joint-is : (w : Hyphening) (end : ℕ) (item : Item) (items : List Item) (made : Item) → joint w end item items ≡ Some made
    → IsJoint made items
unfolding joint
joint-is w end item items made e = if-is w item items made (covers_letters item && is_place w.places end) e

between-discs : (items after : List Item) (made : Option Item) → ((one : Item) → made ≡ Some one → IsJoint one items)
    → HasNewDiscs (skip (takes_kern made items) items) after → HasNewDiscs items (option_to_list made ++ after)
between-discs items after None is d = d
between-discs items after (Some one) is d =
    let joint = is one refl in
    rw (joint.is) (rw (joint.gives) at (put joint.lists (skip (begins_with_kern items) items) after d))

taken-discs : (w : Hyphening) (from : ℕ) (taken : Bool) (item : Item) (items after : List Item) → HasNewDiscs items after
    → HasNewDiscs (skip taken (item ∷ items)) (unless_taken taken (own w from item) ++ after)
taken-discs w from true item items after d = d
taken-discs w from false item items after d = own-discs w from item items after d

pub pieces-discs : (w : Hyphening) (from : ℕ) (taken : Bool) (items : List Item)
    → HasNewDiscs (skip taken items) (pieces w from taken items)
unfolding pieces
pieces-discs w from true [] = nothing
pieces-discs w from false [] = nothing
pieces-discs w from taken (item ∷ items) =
    let end = from + length (letters item) in
    taken-discs w from taken item items _
    (between-discs items _ (joint w end item items) (λ one e. joint-is w end item items one e)
    (pieces-discs w end (takes_kern (joint w end item items) items) items))

-- ---- the whole list

in_font-discs : (tables : Tables) (places : Places) (word : Word) (font : Option Font) (items : List Item)
    → HasNewDiscs items (in_font tables places word font items)
in_font-discs tables places word None items = discs-refl items
in_font-discs tables places word (Some font) items = pieces-discs _ 0 false items

word-discs : (tables : Tables) (stock : List Font) (places : Places) (word : Option Word) (items : List Item)
    → HasNewDiscs (take (count_of word) items) (by_word tables stock places word items)
unfolding word_items
word-discs tables stock places None items = nothing
word-discs tables stock places (Some word) items =
    in_font-discs tables places word (slice_get stock word.number) (take word.count items)

front-discs : (tables : Tables) (stock : List Font) (places : Places) (items : List Item)
    → HasNewDiscs (take (front_count tables stock items) items) (front tables stock places items)
unfolding front front_count
front-discs tables stock places items =
    let count = passed tables items in
    let rest = drop count items in
    rw (take-add count (count_of (word_of tables stock rest)) items)
    (discs-append _ _ _ _ (discs-refl (take count items)) (word-discs tables stock places (word_of tables stock rest) rest))

glue-discs : (tables : Tables) (stock : List Font) (places : Places) (b : Bool) (item : Item) (items : List Item)
    → HasNewDiscs (drop (front_count tables stock items) items) (hyphenated_from tables stock places (front_count tables stock items) items)
    → HasNewDiscs items (hyphenated_from tables stock places 0 items)
    → HasNewDiscs (item ∷ items) (if b then
    item ∷ (front tables stock places items
    ++ hyphenated_from tables stock places (front_count tables stock items) items)
    else item ∷ hyphenated_from tables stock places zero items)
glue-discs tables stock places true item items behind plain =
    let count = front_count tables stock items in
    let whole : HasNewDiscs (take count items ++ drop count items) _ =
    discs-append _ _ _ _ (front-discs tables stock places items) behind in
    same item items _ (rw (take-append-drop count items) at whole)
glue-discs tables stock places false item items behind plain = same item items _ plain

pub from-discs : (tables : Tables) (stock : List Font) (places : Places) (done : ℕ) (items : List Item)
    → HasNewDiscs (drop done items) (hyphenated_from tables stock places done items)
unfolding hyphenated_from
from-discs tables stock places zero [] = nothing
from-discs tables stock places (suc done) [] = nothing
from-discs tables stock places (suc done) (item ∷ items) = from-discs tables stock places done items
from-discs tables stock places zero (item ∷ items) =
    glue-discs tables stock places (is_glue item) item items
    (from-discs tables stock places (front_count tables stock items) items) (from-discs tables stock places zero items)

-- ---- what stays

sub-not_fixed : (sub : Sub) → is_fixed (item_of sub) ≡ false
sub-not_fixed (sub_char font code) = refl
sub-not_fixed (sub_lig font code covers) = refl
sub-not_fixed (sub_kern width left) = refl

subs-not_fixed : (subs : List Sub) (items : List Item) → fixed_items (map item_of subs ++ items) ≡ fixed_items items
subs-not_fixed [] items = refl
subs-not_fixed (sub ∷ subs) items = rw (sub-not_fixed sub) (subs-not_fixed subs items)

fixed-same : (b : Bool) (item : Item) (xs ys : List Item) → xs ≡ ys
    → (if b then item ∷ xs else xs) ≡ (if b then item ∷ ys else ys)
fixed-same b item xs ys e = rw e refl

pub discs-fixed : (before after : List Item) → HasNewDiscs before after → fixed_items after ≡ fixed_items before
discs-fixed before after nothing = refl
discs-fixed before after (same item xs ys d) = fixed-same (is_fixed item) item _ _ (discs-fixed xs ys d)
discs-fixed before after (put lists xs ys d) = discs-fixed xs ys d ∙ sym (subs-not_fixed lists.whole xs)
