-- What a scan keeps of a place.
--     before_read, rest_read  what lies before it, and what from it on
--     before_at, rest_at      the same part by part, of what was read
--     small_before, small_rest       how large that is
--     fronts_length, backs_length    how much is kept
use Rattle.std.proofs.Common.{◌≡◌, ℕ, ◌+◌, ◌-◌, ◌<◌, ◌≤◌, ap, sym, ◌∙◌, subst, arith, List, length, take, get_or}
use Rattle.std.proofs.lemmas.List.FromFn.{length-map-range_with_len, get_or-map-range_with_len}
use Rattle.font_stock.specs.declared.font.Font.{Font}
use Rattle.hlist.specs.declared.item.Item.{Item}
use Rattle.break_rule.specs.declared.ends.Before.{Before}
use Rattle.break_rule.specs.declared.ends.Rest.{Rest}
use Rattle.break_rule.specs.Adding.{added}
use Rattle.break_rule.specs.Places.{kept_from}
use Rattle.break_rule.specs.Kept.{IsScan, IsSmallBefore, IsSmallRest, before_of, rest_of, behind_of, ahead_of}

pub before_read : (stock : List Font) (items : List Item) (befores : List Before) (rests : List Rest)
    → IsScan stock items befores rests → (place : ℕ) (d : Before) → place ≤ length items → get_or befores place d ≡ before_of stock items place
before_read stock items befores rests scan place d within =
    let same : 0 + place ≡ place = omega arith in
    let below : place < length items + 1 = omega (arith, within) in
    ap (λ (kept : List Before). get_or kept place d) scan.fronts
    ∙ get_or-map-range_with_len (before_of stock items) 0 (length items + 1) place place d below same

pub rest_read : (stock : List Font) (items : List Item) (befores : List Before) (rests : List Rest)
    → IsScan stock items befores rests → (passed : ℕ) (d : Rest) → passed ≤ length items
    → get_or rests passed d ≡ rest_of stock items (length items - passed)
rest_read stock items befores rests scan passed d within =
    let same : 0 + passed ≡ passed = omega arith in
    let below : passed < length items + 1 = omega (arith, within) in
    ap (λ (kept : List Rest). get_or kept passed d) scan.backs
    ∙ get_or-map-range_with_len (λ back. rest_of stock items (length items - back)) 0 (length items + 1) passed passed d below same

pub fronts_length : (stock : List Font) (items : List Item) (befores : List Before) (rests : List Rest)
    → IsScan stock items befores rests → length befores ≡ length items + 1
fronts_length stock items befores rests scan =
    ap length scan.fronts ∙ length-map-range_with_len (before_of stock items) 0 (length items + 1)

pub backs_length : (stock : List Font) (items : List Item) (befores : List Before) (rests : List Rest)
    → IsScan stock items befores rests → length rests ≡ length items + 1
backs_length stock items befores rests scan =
    ap length scan.backs ∙ length-map-range_with_len (λ back. rest_of stock items (length items - back)) 0 (length items + 1)

pub before_at : (stock : List Font) (items : List Item) (befores : List Before) (rests : List Rest)
    → IsScan stock items befores rests → (place : ℕ) (before : Before) → place ≤ length items → before ≡ get_or befores place before
    → (before.sums ≡ added stock (take place items)) × (before.behind ≡ behind_of stock items place)
unfolding before_of
before_at stock items befores rests scan place before within is =
    let whole : before ≡ before_of stock items place = is ∙ before_read stock items befores rests scan place before within in
    (ap (λ (b : Before). b.sums) whole, ap (λ (b : Before). b.behind) whole)

pub rest_at : (stock : List Font) (items : List Item) (befores : List Before) (rests : List Rest)
    → IsScan stock items befores rests → (place passed : ℕ) (rest : Rest) → place ≤ length items → passed ≡ length items - place
    → rest ≡ get_or rests passed rest → (rest.begin ≡ kept_from items place) × (rest.ahead ≡ ahead_of stock items place)
unfolding rest_of
rest_at stock items befores rests scan place passed rest within same is =
    let below : passed ≤ length items = omega (arith, within, same) in
    let back : length items - passed ≡ place = omega (arith, within, same) in
    let whole : rest ≡ rest_of stock items place
    = is ∙ rest_read stock items befores rests scan passed rest below ∙ ap (rest_of stock items) back in
    (ap (λ (r : Rest). r.begin) whole, ap (λ (r : Rest). r.ahead) whole)

pub small_before : (stock : List Font) (items : List Item) (befores : List Before) (rests : List Rest)
    → IsScan stock items befores rests → (place : ℕ) (before : Before) → place ≤ length items → before ≡ get_or befores place before
    → IsSmallBefore before
small_before stock items befores rests scan place before within is =
    let count : length befores ≡ length items + 1 = fronts_length stock items befores rests scan in
    let below : place < length befores = omega (arith, within, count) in
    subst IsSmallBefore (sym is) (scan.small_fronts place before below)

pub small_rest : (stock : List Font) (items : List Item) (befores : List Before) (rests : List Rest)
    → IsScan stock items befores rests → (passed : ℕ) (rest : Rest) → passed ≤ length items → rest ≡ get_or rests passed rest
    → IsSmallRest rest
small_rest stock items befores rests scan passed rest within is =
    let count : length rests ≡ length items + 1 = backs_length stock items befores rests scan in
    let below : passed < length rests = omega (arith, within, count) in
    subst (λ (r : Rest). IsSmallRest r) (sym is) (scan.small_backs passed rest below)
