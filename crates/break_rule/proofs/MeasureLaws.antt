-- What a line adds up to, from what its two ends keep.
use Rattle.std.proofs.Common.{◌≡◌, ℕ, arith, List, take}
use Rattle.std.specs.Prelude.{ℤ, ◌+ℤ◌, ◌-ℤ◌}
use Rattle.std.proofs.lemmas.Int.{ints}
use Rattle.micro_num.specs.declared.params.Params.{Params}
use Rattle.font_stock.specs.declared.font.Font.{Font}
use Rattle.hlist.specs.declared.item.Item.{Item}
use Rattle.break_rule.specs.declared.line.From.{From}
use Rattle.break_rule.specs.declared.sums.Sums.{Sums}
use Rattle.break_rule.specs.Adding.{plus, minus, added, added_subs}
use Rattle.break_rule.specs.Places.{begin_of}
use Rattle.break_rule.specs.Lines.{measure_sums, pre_of, post_of}
use Rattle.break_rule.specs.Kept.{opening_of, opening_with, closing_of}
use Rattle.break_rule.proofs.Totals.{same-sums}

regroup-int : (t p b q : ℤ) → (t +ℤ p) -ℤ (b -ℤ q) ≡ ((t -ℤ b) +ℤ p) +ℤ q
regroup-int t p b q = omega (arith, ints)

regroup : (t p b q : Sums) → minus (plus t p) (minus b q) ≡ plus (plus (minus t b) p) q
unfolding plus minus
regroup t p b q = same-sums
    (regroup-int t.width p.width b.width q.width)
    (regroup-int t.finite p.finite b.finite q.finite)
    (regroup-int t.fil p.fil b.fil q.fil)
    (regroup-int t.fill p.fill b.fill q.fill)
    (regroup-int t.filll p.filll b.filll q.filll)
    (regroup-int t.shrink p.shrink b.shrink q.shrink)
    (regroup-int t.font_stretch p.font_stretch b.font_stretch q.font_stretch)
    (regroup-int t.font_shrink p.font_shrink b.font_shrink q.font_shrink)

pub measure_of_ends : (params : Params) (stock : List Font) (items : List Item) (from : From) (to : ℕ)
    → minus (closing_of params stock items to).sums (opening_of stock items from).less ≡ measure_sums stock items from to
unfolding closing_of opening_of opening_with measure_sums
measure_of_ends params stock items from to =
    regroup (added stock (take to items)) (added_subs stock (pre_of items to))
    (added stock (take (begin_of items from) items)) (added_subs stock (post_of items from))
