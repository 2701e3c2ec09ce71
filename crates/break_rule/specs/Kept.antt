-- What is kept of a list, so that a line is worked out in constant time.
--     IsWithin, Fits          how large sums are
--     ahead_of, behind_of     the item that stops the search from a place forwards, and backwards
--     before_of, rest_of      what is kept of the items on either side of a place
--     opening_of              what a line takes from the break that it begins with
--     closing_of              and from the place at which it ends
use Rattle.std.specs.Prelude.{◌≡◌, ℕ, ◌+◌, ◌-◌, ◌*◌, ◌^◌, ◌≤◌, ℤ, pos, unsigned_abs, List, [], ◌∷◌, All, IfSome, if◌then◌else◌, map, reverse, length, take, drop, filter, Option, Some, None}
use Rattle.std.specs.List.{range_with_len}
use Rattle.micro_num.specs.declared.params.Params.{Params}
use Rattle.font_stock.specs.declared.font.Font.{Font}
use Rattle.hlist.specs.declared.item.Item.{Item}
use Rattle.hlist.specs.declared.item.Sub.{Sub}
use Rattle.break_rule.specs.declared.line.From.{From}
use Rattle.break_rule.specs.declared.margin.Side.TheVariants.{Left, Right}
use Rattle.break_rule.specs.declared.margin.Stop.{Stop}
use Rattle.break_rule.specs.declared.ends.Before.{Before}
use Rattle.break_rule.specs.declared.ends.Rest.{Rest}
use Rattle.break_rule.specs.declared.ends.Opening.{Opening}
use Rattle.break_rule.specs.declared.ends.Closing.{Closing}
use Rattle.break_rule.specs.declared.sums.Sums.{Sums}
use Rattle.break_rule.specs.Adding.{plus, minus, sums_of, added, added_subs}
use Rattle.break_rule.specs.Places.{is_place, is_discardable, kept_from, begin_of, penalty_of}
use Rattle.break_rule.specs.Lines.{pre_of, post_of}
use Rattle.break_rule.specs.Margins.{item_margin, subs_margin}

-- each sum is at most n times 2^33
pub record IsWithin (n : ℕ) (sums : Sums) : Type 0 where
  pub width : unsigned_abs sums.width ≤ n * 2 ^ 33
  pub finite : unsigned_abs sums.finite ≤ n * 2 ^ 33
  pub fil : unsigned_abs sums.fil ≤ n * 2 ^ 33
  pub fill : unsigned_abs sums.fill ≤ n * 2 ^ 33
  pub filll : unsigned_abs sums.filll ≤ n * 2 ^ 33
  pub shrink : unsigned_abs sums.shrink ≤ n * 2 ^ 33
  pub font_stretch : unsigned_abs sums.font_stretch ≤ n * 2 ^ 33
  pub font_shrink : unsigned_abs sums.font_shrink ≤ n * 2 ^ 33

-- the stop at an item, by its margin, or else the stop behind it
abbrev pub stop_at : ℕ → Option ℤ → Stop → Stop
stop_at place (Some hang) other = record { at = place; hang = hang }
stop_at place None other = other

-- items that begin at a place: the number of the first that stops the search, the end where none does
unfoldable pub ahead_in : List Font → ℕ → List Item → Stop
ahead_in stock place [] = record { at = place; hang = pos 0 }
ahead_in stock place (item ∷ items) = stop_at place (item_margin Left stock item) (ahead_in stock (place + 1) items)

abbrev pub ahead_of : List Font → List Item → ℕ → Stop
ahead_of stock items place = ahead_in stock place (drop place items)

-- items before a place, the last first: the place behind the first that stops the search, 0 where none does
unfoldable pub behind_in : List Font → List Item → Stop
behind_in stock [] = record { at = 0; hang = pos 0 }
behind_in stock (item ∷ items) = stop_at (length items + 1) (item_margin Right stock item) (behind_in stock items)

abbrev pub behind_of : List Font → List Item → ℕ → Stop
behind_of stock items place = behind_in stock (reverse (take place items))

-- what lies before a place, and what from it on
unfoldable pub before_of : List Font → List Item → ℕ → Before
before_of stock items place = record { sums = added stock (take place items); behind = behind_of stock items place }

unfoldable pub rest_of : List Font → List Item → ℕ → Rest
rest_of stock items place = record { begin = kept_from items place; ahead = ahead_of stock items place }

-- each from what lies on the other side of an item
abbrev pub past_item : List Font → Item → ℕ → Before → Before
past_item stock item place before = record {
  sums = plus before.sums (sums_of stock item);
  behind = stop_at place (item_margin Right stock item) before.behind;
}

abbrev pub from_item : List Font → Item → ℕ → Rest → Rest
from_item stock item place rest = record {
  begin = if is_discardable item then rest.begin else place;
  ahead = stop_at place (item_margin Left stock item) rest.ahead;
}

-- how large what is kept may be
abbrev pub IsHang : ℤ → Type 0
IsHang hang = unsigned_abs hang ≤ 2 ^ 31

pub record IsSmallBefore (before : Before) : Type 0 where
  pub sums : IsWithin 65536 before.sums
  pub hang : IsHang before.behind.hang

abbrev pub IsSmallRest : Rest → Type 0
IsSmallRest rest = IsHang rest.ahead.hang

pub record IsSmallOpening (opening : Opening) : Type 0 where
  pub less : IsWithin 98304 opening.less
  pub left : IfSome opening.left IsHang
  pub right : IfSome opening.right IsHang
  pub ahead : IsHang opening.ahead.hang

pub record IsSmallClosing (closing : Closing) : Type 0 where
  pub sums : IsWithin 98304 closing.sums
  pub left : IfSome closing.left IsHang
  pub right : IfSome closing.right IsHang
  pub behind : IsHang closing.behind.hang

-- what two passes over a list keep: the rests are those of the end first
pub record IsScan (stock : List Font) (items : List Item) (befores : List Before) (rests : List Rest) : Type 0 where
  pub fronts : befores ≡ map (before_of stock items) (range_with_len 0 (length items + 1))
  pub small_fronts : All IsSmallBefore befores
  pub backs : rests ≡ map (λ passed. rest_of stock items (length items - passed)) (range_with_len 0 (length items + 1))
  pub small_backs : All IsSmallRest rests

unfoldable pub opening_with : List Font → List Item → ℕ → List Sub → Opening
opening_with stock items begin post = record {
  begin = begin;
  less = minus (added stock (take begin items)) (added_subs stock post);
  left = subs_margin Left stock post;
  right = subs_margin Right stock post;
  ahead = ahead_of stock items begin;
}

unfoldable pub opening_of : List Font → List Item → From → Opening
opening_of stock items from = opening_with stock items (begin_of items from) (post_of items from)

unfoldable pub closing_of : Params → List Font → List Item → ℕ → Closing
closing_of params stock items place = record {
  sums = plus (added stock (take place items)) (added_subs stock (pre_of items place));
  left = subs_margin Left stock (pre_of items place);
  right = subs_margin Right stock (pre_of items place);
  behind = behind_of stock items place;
  penalty = penalty_of params items place;
}

-- how many legal places there are before one
unfoldable pub rank_of : Params → List Item → ℕ → ℕ
rank_of params items place = length (filter (is_place params items) (range_with_len 0 place))
