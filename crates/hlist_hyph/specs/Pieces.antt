-- What a word becomes, item by item, with discretionaries at its hyphen places (TeX: The Program, sections 903 to
-- 918, for runs that don't reach past a place).
use Rattle.std.specs.Prelude.{ℕ, ◌+◌, ◌-◌, ℤ, Bool, true, false, ◌==◌, ◌&&◌, nat_lt, if◌then◌else◌, List, [], ◌∷◌, ◌++◌, length, take, drop, Option, Some, None, is_some, option_to_list, Result, Ok, Err}
use Rattle.std.specs.List.{find, list_any, range_with_len}
use Rattle.font_stock.specs.declared.font.Font.{Font}
use Rattle.lig_kern.specs.declared.fault.LigFault.{LigFault}
use Rattle.tfm_read.specs.declared.tfm.Tfm.{Tfm}
use Rattle.hlist.specs.declared.item.Item.{Item}
use Rattle.hlist.specs.declared.item.Item.TheVariants.{Char, Lig, FontKern, Disc}
use Rattle.hlist.specs.declared.item.Sub.{Sub}
use Rattle.hlist.specs.declared.item.Sub.TheVariants.{Char as sub_char, Lig as sub_lig, FontKern as sub_kern}
use Rattle.hlist_runs.specs.Runs.{run_subs}
use Rattle.hlist_hyph.specs.Words.{letters}
use Rattle.hlist_hyph.specs.declared.setting.Setting.{Setting}

-- the font of a word, its hyphen character, and the hyphen places, each the number of letters before it
pub record Hyphening : Type 0 where
  pub number : ℕ
  pub tfm : Tfm
  pub size : ℤ
  pub hyphen : ℕ
  pub places : List ℕ

abbrev pub hyphening : Font → Setting → Hyphening
hyphening font setting = record {
  number = setting.number;
  tfm = font.tfm;
  size = font.size;
  hyphen = setting.hyphen;
  places = setting.places;
}

abbrev pub is_place : List ℕ → ℕ → Bool
is_place places h = list_any (λ place. place == h) places

-- the list that a run gives in the word's font, where the run has an end
abbrev pub list_in : Result (List Sub) LigFault → Option (List Sub)
list_in (Ok subs) = Some subs
list_in (Err fault) = None

unfoldable pub run_of : Hyphening → List ℕ → (left right : Bool) → Option (List Sub)
run_of w codes left right = list_in (run_subs w.number w.tfm w.size codes left right)

-- ---- a place inside a ligature

-- how many of `count` letters stand before the first place strictly inside them, where `from` letters of the word
-- stand before them all
unfoldable pub first_inside : List ℕ → ℕ → ℕ → Option ℕ
first_inside places from count = find (λ n. is_place places (from + n)) (range_with_len 1 (count - 1))

-- a ligature as a discretionary, where both runs have an end
abbrev pub broken : ℕ → ℕ → List ℕ → Option (List Sub) → Option (List Sub) → Item
broken font code covers (Some pre) (Some post) =
    Disc (record { pre = pre; post = post; whole = sub_lig font code covers ∷ [] })
broken font code covers (Some pre) None = Lig font code covers
broken font code covers None post = Lig font code covers

-- A ligature with a place behind so many of its letters: these and the hyphen end a line, and the others begin
-- the next one. The run of the first has the right boundary alone, and that of the others the left one.
abbrev pub split : Hyphening → ℕ → ℕ → List ℕ → Option ℕ → Item
split w font code covers None = Lig font code covers
split w font code covers (Some n) =
    broken font code covers (run_of w (take n covers ++ w.hyphen ∷ []) false true)
    (run_of w (drop n covers) true false)

-- what an item becomes with `from` letters of the word before it: of the places inside a ligature the first counts
abbrev pub own : Hyphening → ℕ → Item → Item
own w from (Lig font code covers) = split w font code covers (first_inside w.places from (length covers))
own w from item = item

-- ---- a place between two items

abbrev pub covers_letters : Item → Bool
covers_letters item = nat_lt 0 (length (letters item))

abbrev pub begins_with_letters : List Item → Bool
begins_with_letters [] = false
begins_with_letters (item ∷ items) = covers_letters item

-- a font kern before an item that covers a letter
abbrev pub kern_before : Item → List Item → Option (List Sub)
kern_before (FontKern width left) items = if begins_with_letters items then Some (sub_kern width left ∷ []) else None
kern_before _ items = None

-- what stands before the next item that covers a letter: nothing, or one font kern
abbrev pub whole_before : List Item → Option (List Sub)
whole_before [] = None
whole_before (item ∷ items) = if covers_letters item then Some [] else kern_before item items

-- the code of a character or a ligature
abbrev pub code_of : Item → Option ℕ
code_of (Char font code) = Some code
code_of (Lig font code covers) = Some code
code_of _ = None

-- a list begins with the character of a code
abbrev pub begins_with_char : ℕ → List Sub → Bool
begins_with_char code [] = false
begins_with_char code (sub_char font first ∷ subs) = first == code
begins_with_char code (sub_lig font first covers ∷ subs) = false
begins_with_char code (sub_kern width left ∷ subs) = false

-- what follows the first entry of a list where that is the character of a code, and else another list
abbrev pub behind_char : ℕ → List Sub → List Sub → List Sub
behind_char code other subs = if begins_with_char code subs then drop 1 subs else other

-- A discretionary between two items, behind one of a code: what follows its character in its run with the hyphen,
-- or the hyphen alone, ends a line. Without a break the font kern between the two stands there.
abbrev pub joint_of : Hyphening → ℕ → List Sub → Option (List Sub) → Option Item
joint_of w code whole None = None
joint_of w code whole (Some subs) =
    Some (Disc (record { pre = behind_char code (sub_char w.number w.hyphen ∷ []) subs; post = []; whole = whole }))

abbrev pub joint_behind : Hyphening → Option ℕ → Option (List Sub) → Option Item
joint_behind w None whole = None
joint_behind w (Some code) None = None
joint_behind w (Some code) (Some whole) = joint_of w code whole (run_of w (code ∷ w.hyphen ∷ []) false true)

-- the discretionary that is put between an item, with which `end` letters of the word end, and those behind it
unfoldable pub joint : Hyphening → ℕ → Item → List Item → Option Item
joint w end item items =
    if covers_letters item && is_place w.places end then joint_behind w (code_of item) (whole_before items) else None

-- ---- all items of a word

-- a font kern that stands in the discretionary before it stands nowhere else
abbrev pub begins_with_kern : List Item → Bool
begins_with_kern [] = false
begins_with_kern (FontKern width left ∷ items) = true
begins_with_kern (item ∷ items) = false

abbrev pub takes_kern : Option Item → List Item → Bool
takes_kern joint items = is_some joint && begins_with_kern items

abbrev pub unless_taken : Bool → Item → List Item
unless_taken true item = []
unless_taken false item = item ∷ []

-- the items of a word from one on, with `from` letters of the word before them; `taken` tells that the first
-- stands in a discretionary
unfoldable pub pieces : Hyphening → ℕ → Bool → List Item → List Item
pieces w from taken [] = []
pieces w from taken (item ∷ items) =
    let end = from + length (letters item) in
    let between = joint w end item items in
    unless_taken taken (own w from item) ++ (option_to_list between ++ pieces w end (takes_kern between items) items)
