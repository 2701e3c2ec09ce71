-- Which fonts a list names.
use Rattle.std.specs.Prelude.{◌≡◌, ℕ, ⊤, Bool, true, List, All, Option, Some, None}
use Rattle.micro_num.specs.declared.disc.ThreeLists.{ThreeLists}
use Rattle.hlist.specs.declared.item.Item.{Item}
use Rattle.hlist.specs.declared.item.Item.TheVariants.{Char, Lig, FontKern, Kern, Glue, Penalty, Disc, Box}
use Rattle.hlist.specs.declared.item.KernLeft.{KernLeft}
use Rattle.hlist.specs.declared.item.Sub.{Sub}
use Rattle.hlist.specs.declared.item.Sub.TheVariants.{Char as sub_char, Lig as sub_lig, FontKern as sub_kern}

abbrev pub PassesLeft : (ℕ → Bool) → Option KernLeft → Type 0
PassesLeft test None = ⊤
PassesLeft test (Some left) = test left.font ≡ true

-- the font that an entry names passes a test
abbrev pub PassesSub : (ℕ → Bool) → Sub → Type 0
PassesSub test (sub_char font code) = test font ≡ true
PassesSub test (sub_lig font code covers) = test font ≡ true
PassesSub test (sub_kern width left) = PassesLeft test left

pub record PassLists (test : ℕ → Bool) (lists : ThreeLists Sub) : Type 0 where
  pub pre : All (PassesSub test) lists.pre
  pub post : All (PassesSub test) lists.post
  pub whole : All (PassesSub test) lists.whole

-- the fonts that an item names pass a test
abbrev pub Passes : (ℕ → Bool) → Item → Type 0
Passes test (Char font code) = test font ≡ true
Passes test (Lig font code covers) = test font ≡ true
Passes test (FontKern width left) = PassesLeft test left
Passes test (Disc lists) = PassLists test lists
Passes test _ = ⊤
