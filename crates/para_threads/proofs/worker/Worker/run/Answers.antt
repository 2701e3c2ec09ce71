use Rattle.std.proofs.Common.{◌≡◌, ℕ, ◌<◌, ◌-◌, ◌++◌, ◌∷◌, [], List, length, append-nil, refl, ap, sym, ◌∙◌, subst}
use Rattle.std.proofs.lemmas.List.Elements.{All-nil, All-push}
use Rattle.instance_table.specs.declared.view.Drawn.{Drawn}
use Rattle.instance_table.specs.declared.view.View.{View}
use Rattle.table_widths.specs.Widths.{Lasting, touched_of}
use Rattle.para_threads.specs.declared.done.DoneAt.{DoneAt}
use Rattle.para_workers.specs.Touched.{TouchedByPage}
use Rattle.para_threads.specs.Working.{AsksForAll, IsDone, drawn_by, drawn_one, lines_at}
use Rattle.para_threads.proofs.WorkTurns.{asks-none, asks-push, drawn-below, draws-push, fewer-left, next_draw, not-none}
use Rattle.para_threads.proofs.worker.Worker.run.Goals as goal

pub loop-place-init : goal.loop-place-init
loop-place-init g c =
    let empty = c.new-done.ensures.items in
    let job = c.args.self.now.job.now in
    let stock = c.args.self.now.stock.now in
    let bases = c.args.self.now.table.now.bases in
    rw empty (record {
      idle = c.requires.idle;
      going = c.requires.going;
      number = refl;
      drawn = sym (append-nil c.args.seat.view.drawn);
      each = All-nil (IsDone job stock);
      asked = asks-none job stock bases (touched_of bases c.args.seat.view.seen);
    })

pub loop-place-smaller : goal.loop-place-smaller
loop-place-smaller g c =
    let v = c.loop-place.seat.view in
    let w = c.draw.new.seat.view in
    let u = c.set-back.result.seat.view in
    let count = length c.args.self.now.job.now.pars in
    let fewer : count - next_draw w.drawn < count - next_draw v.drawn =
    fewer-left v w c.in-Some.place c.in-Some.ensures.draws count (c.loop-place.invariant.idle.0.2 ∙ c.requires.ready.a_draw_each) in
    subst (λ (ds : List Drawn). count - next_draw ds < count - next_draw v.drawn) (sym (ap (λ (x : Lasting). x.drawn) c.set-back.ensures.lasts)) fewer

pub loop-place-preserved : goal.loop-place-preserved
loop-place-preserved g c =
    let job = c.args.self.now.job.now in
    let stock = c.args.self.now.stock.now in
    let bases = c.args.self.now.table.now.bases in
    let first = c.args.seat.view in
    let v = c.loop-place.seat.view in
    let w = c.draw.new.seat.view in
    let u = c.set-back.result.seat.view in
    let done = c.loop-place.done.items in
    let place = c.in-Some.place in
    let inv = c.loop-place.invariant in
    let one : DoneAt = record { place = place; page = c.set-back.result.page } in
    let draw = drawn-below v w place c.in-Some.ensures.draws in
    let lasts = c.set-back.ensures.lasts in
    let put : c.push.new.self.items ≡ done ++ one ∷ [] = c.in-Ok.ensures.items in
    let page = not-none job stock place c.set-back.result.page c.set-back.ensures.page (sym c.wants_memory.ensures ∙ c.if-wants_memory.false) in
    let more : u.drawn ≡ v.drawn ++ drawn_one first.number one ∷ [] =
    ap (λ (x : Lasting). x.drawn) lasts ∙ ap (λ (x : View). x.drawn) draw.1 ∙ ap (λ (n : ℕ). v.drawn ++ drawn_one n one ∷ []) inv.number in
    let touched = subst (λ (seen : List ℕ). TouchedByPage (lines_at job stock place) bases (touched_of bases seen) (touched_of bases u.seen) c.set-back.result.page)
    (ap (λ (x : View). x.seen) draw.1) c.set-back.ensures.touched in
    record {
      idle = c.set-back.ensures.idle;
      going = ap (λ (x : Lasting). x.ended) lasts ∙ draw.2;
      number = ap (λ (x : Lasting). x.number) lasts ∙ ap (λ (x : View). x.number) draw.1 ∙ inv.number;
      drawn = draws-push first.number first.drawn v.drawn u.drawn done one inv.drawn more ∙ ap (λ (es : List DoneAt). first.drawn ++ drawn_by first.number es) (sym put);
      each = rw put (All-push (IsDone job stock) done one inv.each page);
      asked = subst (λ (es : List DoneAt). AsksForAll job stock bases es (touched_of bases first.seen) (touched_of bases u.seen)) (sym put)
          (asks-push job stock bases done one (touched_of bases first.seen) (touched_of bases v.seen) (touched_of bases u.seen) inv.asked touched);
    }
