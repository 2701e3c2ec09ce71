use Rattle.std.proofs.Common.{◌≤◌, ◌^◌, ◌+◌, ◌++◌, ◌∷◌, [], ◌∙◌, subst, sym, ap, arith}
use Rattle.std.specs.List.{All}
use Rattle.line_break.specs.Listing.{IsNear}
use Rattle.line_break.specs.Tables.{pass_of}
use Rattle.line_break.specs.Ways.{open_ways, lines_to, ways}
use Rattle.line_break.proofs.TableLemmas.{few_places, ways_near, open_near, ways_none, ways_more}
use Rattle.line_break.proofs.table.Table.ways.Goals as goal

pub loop-place-init : goal.loop-place-init
loop-place-init c =
    c.in_ok-push.ensures.ok
    ∙ (ap (λ all. all ++ c.start.result ∷ []) c.new-all.ensures
    ∙ (ap (λ w. w ∷ []) c.start.ensures ∙ sym (ways_none (pass_of c.args.self.now))))

pub open_ways-requires : goal.open_ways-requires
open_ways-requires c =
    let t = c.args.self.now in
    let few = few_places t c.requires in
    let here : c.loop-place.place ≤ 2 ^ 16 = omega (arith, c.len-place-end.ensures) in
    subst (All (λ v. IsNear v)) (sym (c.as_slice.ensures ∙ c.loop-place.invariant)) (ways_near t c.loop-place.place c.requires here)

pub lines_to-requires-clause-near : goal.lines_to-requires-clause-near
lines_to-requires-clause-near c =
    let t = c.args.self.now in
    let few = few_places t c.requires in
    let here : c.loop-place.place ≤ 2 ^ 16 = omega (arith, c.len-place-end.ensures) in
    let to = c.loop-place.place + 1 in
    subst (All (λ v. IsNear v))
    (sym (c.as_slice-in-loop-place.ensures ∙ (c.in_ok-open.ensures ∙ ap (open_ways (pass_of t) to) (c.as_slice.ensures ∙ c.loop-place.invariant))))
    (open_near t to c.loop-place.place c.requires here)

pub loop-place-preserved : goal.loop-place-preserved
loop-place-preserved c =
    let q = pass_of c.args.self.now in
    let to = c.loop-place.place + 1 in
    let open_now = c.as_slice-in-loop-place.ensures ∙ (c.in_ok-open.ensures ∙ ap (open_ways q to) (c.as_slice.ensures ∙ c.loop-place.invariant)) in
    let lines_now = c.as_slice-in-loop-place-2.ensures ∙ (c.in_ok-lines.ensures ∙ ap (lines_to q to) open_now) in
    c.in_ok-append.ensures
    ∙ (ap (λ all. all ++ c.as_slice-in-loop-place-2.result.now) c.loop-place.invariant
    ∙ (ap (λ lines. ways q c.loop-place.place ++ lines) lines_now ∙ sym (ways_more q c.loop-place.place)))
