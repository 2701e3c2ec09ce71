-- What holds of each item of a list holds of each item of its hyphenated form, where it holds of the new discretionaries.
use Rattle.std.proofs.Common.{◌≡◌, ℕ, zero, suc, ◌+◌, ◌≤◌, Bool, true, false, ◌&&◌, List, [], ◌∷◌, ◌++◌, length, take, drop, All, refl, ap, sym, ◌∙◌, arith}
use Rattle.std.specs.Prelude.{⊤, Option, Some, None, Ok, Err, Result, if◌then◌else◌, option_to_list, slice_get, ℤ}
use Rattle.std.proofs.lemmas.List.Elements.{All-nil, All-cons, All-head, All-tail, All-append, All-take, All-drop}
use Rattle.font_stock.specs.declared.font.Font.{Font}
use Rattle.lig_kern.specs.declared.fault.LigFault.{LigFault}
use Rattle.micro_num.specs.declared.tables.Tables.{Tables}
use Rattle.tfm_read.specs.declared.tfm.Tfm.{Tfm}
use Rattle.hlist.specs.declared.item.Item.{Item}
use Rattle.hlist.specs.declared.item.KernLeft.{KernLeft}
use Rattle.hlist.specs.declared.item.Item.TheVariants.{Char, Lig, FontKern, Kern, Glue, Penalty, Disc, Box}
use Rattle.hlist.specs.declared.item.Sub.{Sub}
use Rattle.hlist.specs.declared.item.Sub.TheVariants.{Char as sub_char, Lig as sub_lig, FontKern as sub_kern}
use Rattle.hlist_runs.specs.Lawful.{IsLawfulList}
use Rattle.hlist_runs.specs.Runs.{run_subs}
use Rattle.hlist_runs.proofs.LawfulLemmas.{run_subs-lawful}
use Rattle.hlist_hyph.specs.Hyphenated.{Places, lower_word, in_font, word_items, by_word, front, front_count, is_glue, hyphenated_from}
use Rattle.hlist_hyph.specs.Pieces.{Hyphening, list_in, run_of, first_inside, is_place, broken, split, own, covers_letters, begins_with_letters, kern_before, whole_before, behind_char, joint_of, joint_behind, joint, code_of, takes_kern, unless_taken, pieces}
use Rattle.hlist_hyph.specs.Words.{letters, passed, word_of}
use Rattle.hlist_hyph.specs.declared.word.Word.{Word}
use Rattle.hlist_hyph.proofs.WordLemmas.{Few, IsWord, word-is, word-few}

-- ---- a word in a font of the stock

pub record InStock (stock : List Font) (w : Hyphening) : Type 0 where
  pub font : Font
  pub is : slice_get stock w.number ≡ Some font
  pub tfm : w.tfm ≡ font.tfm
  pub size : w.size ≡ font.size

list_in-some : (run : Result (List Sub) LigFault) (subs : List Sub) → list_in run ≡ Some subs → run ≡ Ok subs
list_in-some (Ok made) subs e = cc
list_in-some (Err fault) subs e = absurd cc

run_of-lawful : (stock : List Font) (w : Hyphening) (codes : List ℕ) (left right : Bool) (subs : List Sub)
    → InStock stock w → run_of w codes left right ≡ Some subs → IsLawfulList stock w.number codes subs
unfolding run_of
run_of-lawful stock w codes left right subs within e =
    let run : run_subs w.number w.tfm w.size codes left right ≡ Ok subs = list_in-some (run_subs w.number w.tfm w.size codes left right) subs e in
    run_subs-lawful stock w.number within.font codes left right subs within.is
    (rw within.size at (rw within.tfm at run))

-- What is to hold of an item holds of the new discretionaries of a word, if it holds of the word's items.
pub record Keeps (P : Item → Type 0) (stock : List Font) (w : Hyphening) : Type 0 where
  pub ligature : (font code n : ℕ) (covers : List ℕ) (pre post : List Sub) → P (Lig font code covers) → length covers ≤ 63
      → IsLawfulList stock w.number (take n covers ++ w.hyphen ∷ []) pre → IsLawfulList stock w.number (drop n covers) post
      → P (Disc (record { pre = pre; post = post; whole = sub_lig font code covers ∷ [] }))
  pub between : (code : ℕ) (subs : List Sub) → IsLawfulList stock w.number (code ∷ w.hyphen ∷ []) subs
      → P (Disc (record { pre = behind_char code (sub_char w.number w.hyphen ∷ []) subs; post = []; whole = [] }))
  pub kern : (code : ℕ) (subs : List Sub) (width : ℤ) (left : Option KernLeft)
      → IsLawfulList stock w.number (code ∷ w.hyphen ∷ []) subs → P (FontKern width left)
      → P (Disc (record { pre = behind_char code (sub_char w.number w.hyphen ∷ []) subs; post = []; whole = sub_kern width left ∷ [] }))

broken-keeps : (P : Item → Type 0) (stock : List Font) (w : Hyphening) (font code n : ℕ) (covers : List ℕ)
    (pre post : Option (List Sub)) → Keeps P stock w → P (Lig font code covers) → length covers ≤ 63
    → ((subs : List Sub) → pre ≡ Some subs → IsLawfulList stock w.number (take n covers ++ w.hyphen ∷ []) subs)
    → ((subs : List Sub) → post ≡ Some subs → IsLawfulList stock w.number (drop n covers) subs)
    → P (broken font code covers pre post)
broken-keeps P stock w font code n covers (Some pre) (Some post) keeps own few first last =
    keeps.ligature font code n covers pre post own few (first pre refl) (last post refl)
broken-keeps P stock w font code n covers (Some pre) None keeps own few first last = own
broken-keeps P stock w font code n covers None post keeps own few first last = own

split-keeps : (P : Item → Type 0) (stock : List Font) (w : Hyphening) (font code : ℕ) (covers : List ℕ) (n : Option ℕ)
    → InStock stock w → Keeps P stock w → P (Lig font code covers) → length covers ≤ 63 → P (split w font code covers n)
split-keeps P stock w font code covers None within keeps own few = own
split-keeps P stock w font code covers (Some n) within keeps own few =
    broken-keeps P stock w font code n covers (run_of w (take n covers ++ w.hyphen ∷ []) false true) (run_of w (drop n covers) true false)
    keeps own few
    (λ subs e. run_of-lawful stock w (take n covers ++ w.hyphen ∷ []) false true subs within e)
    (λ subs e. run_of-lawful stock w (drop n covers) true false subs within e)

own-keeps : (P : Item → Type 0) (stock : List Font) (w : Hyphening) (from : ℕ) (item : Item)
    → InStock stock w → Keeps P stock w → P item → Few item → P (own w from item)
own-keeps P stock w from (Char font code) within keeps own few = own
own-keeps P stock w from (Lig font code covers) within keeps own few =
    split-keeps P stock w font code covers (first_inside w.places from (length covers)) within keeps own few
own-keeps P stock w from (FontKern width left) within keeps own few = own
own-keeps P stock w from (Kern width) within keeps own few = own
own-keeps P stock w from (Glue glue) within keeps own few = own
own-keeps P stock w from (Penalty value) within keeps own few = own
own-keeps P stock w from (Disc lists) within keeps own few = own
own-keeps P stock w from (Box width) within keeps own few = own

-- ---- a discretionary between two items

-- what a discretionary between two items stands for: nothing, or a font kern of which P holds
abbrev IsWhole : (Item → Type 0) → List Sub → Type 0
IsWhole P [] = ⊤
IsWhole P (sub_kern width left ∷ []) = P (FontKern width left)
IsWhole P _ = ⊥

kern-whole : (P : Item → Type 0) (width : ℤ) (left : Option KernLeft) (whole : List Sub) (b : Bool) → P (FontKern width left)
    → (if b then Some (sub_kern width left ∷ []) else None) ≡ Some whole → IsWhole P whole
kern-whole P width left whole true own e =
    let only : sub_kern width left ∷ [] ≡ whole = cc in rw (sym only) own
kern-whole P width left whole false own e = absurd cc

before-whole : (P : Item → Type 0) (item : Item) (items : List Item) (whole : List Sub) → P item
    → kern_before item items ≡ Some whole → IsWhole P whole
before-whole P (Char font code) items whole own e = absurd cc
before-whole P (Lig font code covers) items whole own e = absurd cc
before-whole P (FontKern width left) items whole own e = kern-whole P width left whole (begins_with_letters items) own e
before-whole P (Kern width) items whole own e = absurd cc
before-whole P (Glue glue) items whole own e = absurd cc
before-whole P (Penalty value) items whole own e = absurd cc
before-whole P (Disc lists) items whole own e = absurd cc
before-whole P (Box width) items whole own e = absurd cc

if-whole : (P : Item → Type 0) (item : Item) (items : List Item) (whole : List Sub) (b : Bool) → P item
    → (if b then Some [] else kern_before item items) ≡ Some whole → IsWhole P whole
if-whole P item items whole true own e =
    let none : [] ≡ whole = cc in rw (sym none) tt
if-whole P item items whole false own e = before-whole P item items whole own e

whole-whole : (P : Item → Type 0) (items : List Item) (whole : List Sub) → All P items → whole_before items ≡ Some whole
    → IsWhole P whole
whole-whole P [] whole own e = absurd cc
whole-whole P (item ∷ items) whole own e =
    if-whole P item items whole (covers_letters item) (All-head P item items own) e

lists-keep : (P : Item → Type 0) (stock : List Font) (w : Hyphening) (code : ℕ) (subs whole : List Sub) → Keeps P stock w
    → IsLawfulList stock w.number (code ∷ w.hyphen ∷ []) subs → IsWhole P whole
    → P (Disc (record { pre = behind_char code (sub_char w.number w.hyphen ∷ []) subs; post = []; whole = whole }))
lists-keep P stock w code subs [] keeps lawful own = keeps.between code subs lawful
lists-keep P stock w code subs (sub_kern width left ∷ []) keeps lawful own = keeps.kern code subs width left lawful own
lists-keep P stock w code subs (sub_kern width left ∷ one ∷ more) keeps lawful own = absurd own
lists-keep P stock w code subs (sub_char font first ∷ more) keeps lawful own = absurd own
lists-keep P stock w code subs (sub_lig font first covers ∷ more) keeps lawful own = absurd own

joint_of-keeps : (P : Item → Type 0) (stock : List Font) (w : Hyphening) (code : ℕ) (whole : List Sub) (run : Option (List Sub)) (made : Item)
    → Keeps P stock w → ((subs : List Sub) → run ≡ Some subs → IsLawfulList stock w.number (code ∷ w.hyphen ∷ []) subs)
    → IsWhole P whole → joint_of w code whole run ≡ Some made → P made
joint_of-keeps P stock w code whole None made keeps lawful own e = absurd cc
joint_of-keeps P stock w code whole (Some subs) made keeps lawful own e =
    let is : Disc (record { pre = behind_char code (sub_char w.number w.hyphen ∷ []) subs; post = []; whole = whole }) ≡ made = cc in
    rw is at (lists-keep P stock w code subs whole keeps (lawful subs refl) own)

behind-keeps : (P : Item → Type 0) (stock : List Font) (w : Hyphening) (code : Option ℕ) (whole : Option (List Sub)) (made : Item)
    → InStock stock w → Keeps P stock w → ((list : List Sub) → whole ≡ Some list → IsWhole P list)
    → joint_behind w code whole ≡ Some made → P made
behind-keeps P stock w None whole made within keeps own e = absurd cc
behind-keeps P stock w (Some code) None made within keeps own e = absurd cc
behind-keeps P stock w (Some code) (Some whole) made within keeps own e =
    joint_of-keeps P stock w code whole (run_of w (code ∷ w.hyphen ∷ []) false true) made keeps
    (λ subs run. run_of-lawful stock w (code ∷ w.hyphen ∷ []) false true subs within run) (own whole refl) e

if-keeps : (P : Item → Type 0) (stock : List Font) (w : Hyphening) (item : Item) (items : List Item) (made : Item) (b : Bool)
    → InStock stock w → Keeps P stock w → All P items
    → (if b then joint_behind w (code_of item) (whole_before items) else None) ≡ Some made → P made
if-keeps P stock w item items made true within keeps own e =
    behind-keeps P stock w (code_of item) (whole_before items) made within keeps
    (λ list whole. whole-whole P items list own whole) e
if-keeps P stock w item items made false within keeps own e = absurd cc

joint-keeps : (P : Item → Type 0) (stock : List Font) (w : Hyphening) (end : ℕ) (item : Item) (items : List Item) (made : Item)
    → InStock stock w → Keeps P stock w → All P items → joint w end item items ≡ Some made → P made
unfolding joint
joint-keeps P stock w end item items made within keeps own e =
    if-keeps P stock w item items made (covers_letters item && is_place w.places end) within keeps own e

-- ---- the items of a word

option-all : (P : Item → Type 0) (made : Option Item) → ((one : Item) → made ≡ Some one → P one) → All P (option_to_list made)
option-all P None own = All-nil P
option-all P (Some one) own = All-cons P one [] (own one refl) (All-nil P)

taken-all : (P : Item → Type 0) (taken : Bool) (item : Item) → P item → All P (unless_taken taken item)
taken-all P true item own = All-nil P
taken-all P false item own = All-cons P item [] own (All-nil P)

pieces-keep : (P : Item → Type 0) (stock : List Font) (w : Hyphening) (from : ℕ) (taken : Bool) (items : List Item)
    → InStock stock w → Keeps P stock w → All P items → All Few items → All P (pieces w from taken items)
unfolding pieces
pieces-keep P stock w from taken [] within keeps own few = All-nil P
pieces-keep P stock w from taken (item ∷ items) within keeps all few =
    let end = from + length (letters item) in
    let rest = All-tail P item items all in
    All-append P _ _
    (taken-all P taken (own w from item)
    (own-keeps P stock w from item within keeps (All-head P item items all) (All-head Few item items few)))
    (All-append P _ _
    (option-all P (joint w end item items) (λ made e. joint-keeps P stock w end item items made within keeps rest e))
    (pieces-keep P stock w end (takes_kern (joint w end item items) items) items within keeps rest (All-tail Few item items few)))

-- ---- the whole list

-- what is to hold of an item holds of the new discretionaries of each word of a list of such items
abbrev pub KeepsWords : (Item → Type 0) → Tables → List Font → Type 0
KeepsWords P tables stock =
    (w : Hyphening) (items : List Item) (word : Word) → IsWord tables stock items word → All P items
    → w.number ≡ word.number → w.hyphen ≡ word.hyphen → InStock stock w → Keeps P stock w

in_font-keeps : (P : Item → Type 0) (tables : Tables) (stock : List Font) (places : Places) (word : Word) (font : Option Font)
    (items : List Item) → slice_get stock word.number ≡ font → KeepsWords P tables stock → IsWord tables stock items word
    → All P items → All Few (take word.count items) → All P (in_font tables places word font (take word.count items))
in_font-keeps P tables stock places word None items is keeps found own few = All-take P word.count items own
in_font-keeps P tables stock places word (Some font) items is keeps found own few =
    let w : Hyphening = record {
      number = word.number;
      tfm = font.tfm;
      size = font.size;
      hyphen = word.hyphen;
      places = places (lower_word tables (take word.count items));
    } in
    let within : InStock stock w = record { font = font; is = is; tfm = refl; size = refl } in
    pieces-keep P stock w 0 false (take word.count items) within (keeps w items word found own refl refl within)
    (All-take P word.count items own) few

word-keeps : (P : Item → Type 0) (tables : Tables) (stock : List Font) (places : Places) (word : Option Word) (items : List Item)
    → word_of tables stock items ≡ word → KeepsWords P tables stock → All P items → All P (by_word tables stock places word items)
unfolding word_items
word-keeps P tables stock places None items is keeps own = All-nil P
word-keeps P tables stock places (Some word) items is keeps own =
    let found = word-is tables stock items word is in
    in_font-keeps P tables stock places word (slice_get stock word.number) items refl keeps found own
    (rw found.count (word-few tables word.number 63 items (omega arith)))

front-keeps : (P : Item → Type 0) (tables : Tables) (stock : List Font) (places : Places) (items : List Item)
    → KeepsWords P tables stock → All P items → All P (front tables stock places items)
unfolding front
front-keeps P tables stock places items keeps own =
    let count = passed tables items in
    let rest = drop count items in
    All-append P _ _ (All-take P count items own)
    (word-keeps P tables stock places (word_of tables stock rest) rest refl keeps (All-drop P count items own))

glue-keeps : (P : Item → Type 0) (tables : Tables) (stock : List Font) (places : Places) (b : Bool) (item : Item) (items : List Item)
    → KeepsWords P tables stock → P item → All P items
    → All P (hyphenated_from tables stock places (front_count tables stock items) items)
    → All P (hyphenated_from tables stock places zero items)
    → All P (if b then
    item ∷ (front tables stock places items
    ++ hyphenated_from tables stock places (front_count tables stock items) items)
    else item ∷ hyphenated_from tables stock places zero items)
glue-keeps P tables stock places true item items keeps here own behind plain =
    All-cons P item _ here (All-append P _ _ (front-keeps P tables stock places items keeps own) behind)
glue-keeps P tables stock places false item items keeps here own behind plain = All-cons P item _ here plain

pub from-keeps : (P : Item → Type 0) (tables : Tables) (stock : List Font) (places : Places) (done : ℕ) (items : List Item)
    → KeepsWords P tables stock → All P items → All P (hyphenated_from tables stock places done items)
unfolding hyphenated_from
from-keeps P tables stock places done [] keeps own = All-nil P
from-keeps P tables stock places (suc done) (item ∷ items) keeps own =
    from-keeps P tables stock places done items keeps (All-tail P item items own)
from-keeps P tables stock places zero (item ∷ items) keeps own =
    let rest = All-tail P item items own in
    glue-keeps P tables stock places (is_glue item) item items keeps (All-head P item items own) rest
    (from-keeps P tables stock places (front_count tables stock items) items keeps rest)
    (from-keeps P tables stock places zero items keeps rest)
