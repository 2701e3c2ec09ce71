-- One line after another, until one is refused.
use Rattle.std.proofs.Common.{◌≡◌, ◌+◌, ◌++◌, ◌<◌, [], ◌∷◌, length, drop, arith, ap, sym, ◌∙◌, subst, inl, refl, List, length-append}
use Rattle.std.specs.Prelude.{slice_index_or}
use Rattle.std.proofs.lemmas.List.{drop_all}
use Rattle.std.proofs.lemmas.List.Elements.{All-nil, All-push}
use Rattle.std.proofs.lemmas.Result.{err_from_is_err_and}
use Rattle.break_rule.specs.declared.line.From.TheVariants.{After}
use Rattle.instance_core.specs.declared.font.BaseFont.{BaseFont}
use Rattle.instance_core.specs.declared.page.Packed.{Packed}
use Rattle.hpack_two.specs.Answers.{touched_with}
use Rattle.hpack_two.specs.Lines.{stepped}
use Rattle.para_workers.specs.Fitting.{IsSetOver}
use Rattle.para_workers.specs.SetPar.{first_refused, set_lines, set_line_between}
use Rattle.para_workers.specs.Touched.{TouchedSome, cells_on}
use Rattle.para_workers.proofs.AskedCells.{first-asked, more-asked, no-line-asked, some-asked}
use Rattle.para_workers.proofs.LineTurns.{answer-good, fault-of-lines, line-good, line-is, lines-good, next-break, next-line, still-good}
use Rattle.para_workers.proofs.lines.packed_lines.Goals as goal

pub loop-index-init : goal.loop-index-init
loop-index-init g c =
    let empty : c.from_vec-lines.result ≡ [] = c.from_vec-lines.ensures ∙ c.in_ok-with_capacity.ensures.items in
    let asked = no-line-asked (g.W.WidthSource.bases c.args.source.now) (g.W.WidthSource.touched c.args.source.now) (g.met.W.WidthSource.in_order c.args.source.now) in
    rw empty (record { all = refl; count = refl; good = refl; over = All-nil (IsSetOver c.args.stock.now); from = tt; touched = asked; bases = refl; fixed = refl })

pub loop-index-preserved : goal.loop-index-preserved
loop-index-preserved g c =
    let rule = c.args.rule.now in
    let breaks = c.args.breaks.now in
    let index = c.loop-index.index in
    let inv = c.loop-index.invariant in
    let lines = c.loop-index.lines in
    let line = c.in_ok-packed_line.field-0 in
    let before = g.W.WidthSource.touched c.args.source.now in
    let bases = g.W.WidthSource.bases c.args.source.now in
    let old = g.W.WidthSource.touched c.loop-index.source in
    let inside : index < length breaks = omega arith in
    let front = next-break breaks index inside in
    let good = line-good rule (index + 1) c.loop-index.from (slice_index_or breaks index 0) line c.in_ok-packed_line.ensures.line in
    let asked : g.W.WidthSource.touched c.packed_line.new.source ≡ touched_with bases (stepped line.glyphs) old
    = c.in_ok-packed_line.ensures.touched ∙ ap (λ (b : List BaseFont). touched_with b (stepped line.glyphs) old) inv.bases in
    let put : c.push.new.self ≡ lines ++ line ∷ [] = c.in_ok-push.ensures.ok in
    record {
      all = ap (λ (ls : List Packed). ls ++ set_lines rule (index + 1 + 1) (After (slice_index_or breaks index 0)) (drop (index + 1) breaks)) put
          ∙ next-line rule index c.loop-index.from (slice_index_or breaks index 0) lines _ line breaks front inv.all good.0;
      count = ap (λ (ls : List Packed). length ls) put ∙ length-append lines (line ∷ []) ∙ ap (λ n. n + 1) inv.count;
      good = ap (λ (ls : List Packed). first_refused ls) put ∙ still-good lines line inv.good good.1;
      over = rw put (All-push (IsSetOver c.args.stock.now) lines line inv.over c.in_ok-packed_line.ensures.over);
      from = c.requires.places index 0 inside;
      touched = more-asked bases lines line before old _ inv.touched asked ∙ ap (λ (ls : List Packed). touched_with bases (cells_on ls) before) (sym put);
      bases = c.in_ok-packed_line.ensures.bases ∙ inv.bases;
      fixed = c.in_ok-packed_line.ensures.fixed ∙ inv.fixed;
    }

pub returns-in_err-packed_line-clause-lines : goal.returns-in_err-packed_line-clause-lines
returns-in_err-packed_line-clause-lines g c =
    let breaks = c.args.breaks.now in
    let index = c.loop-index.index in
    let inv = c.loop-index.invariant in
    let inside : index < length breaks = omega arith in
    let p = err_from_is_err_and c.from_residual-in_err-packed_line.result c.from_residual-in_err-packed_line.ensures.1 in
    rw (p.1, p.2)
    (fault-of-lines c.args.rule.now index c.loop-index.from (slice_index_or breaks index 0) c.loop-index.lines _ breaks _
    (next-break breaks index inside) inv.all inv.count inv.good c.in_err-packed_line.ensures.line)

pub returns-in_err-packed_line-clause-touched : goal.returns-in_err-packed_line-clause-touched
returns-in_err-packed_line-clause-touched g c =
    let rule = c.args.rule.now in
    let breaks = c.args.breaks.now in
    let index = c.loop-index.index in
    let inv = c.loop-index.invariant in
    let from = c.loop-index.from in
    let to = slice_index_or breaks index 0 in
    let bases = g.W.WidthSource.bases c.args.source.now in
    let old = g.W.WidthSource.touched c.loop-index.source in
    let new = g.W.WidthSource.touched c.packed_line.new.source in
    let set = set_line_between rule (index + 1) from to in
    let inside : index < length breaks = omega arith in
    let own : TouchedSome (stepped set.glyphs) bases old new
    = subst (λ (b : List BaseFont). TouchedSome (stepped set.glyphs) b old new) inv.bases c.in_err-packed_line.ensures.touched in
    let p = err_from_is_err_and c.from_residual-in_err-packed_line.result c.from_residual-in_err-packed_line.ensures.1 in
    rw p.1
    (some-asked bases c.loop-index.lines (set_lines rule (index + 1 + 1) (After to) (drop (index + 1) breaks)) _ set _ old new
    (line-is rule index from to c.loop-index.lines _ breaks (next-break breaks index inside) inv.all) inv.touched own)

pub returns-in_err-push-clause-touched : goal.returns-in_err-push-clause-touched
returns-in_err-push-clause-touched g c =
    let rule = c.args.rule.now in
    let breaks = c.args.breaks.now in
    let index = c.loop-index.index in
    let inv = c.loop-index.invariant in
    let lines = c.loop-index.lines in
    let line = c.in_ok-packed_line.field-0 in
    let from = c.loop-index.from in
    let to = slice_index_or breaks index 0 in
    let before = g.W.WidthSource.touched c.args.source.now in
    let bases = g.W.WidthSource.bases c.args.source.now in
    let old = g.W.WidthSource.touched c.loop-index.source in
    let new = g.W.WidthSource.touched c.packed_line.new.source in
    let inside : index < length breaks = omega arith in
    let front = next-break breaks index inside in
    let good = line-good rule (index + 1) from to line c.in_ok-packed_line.ensures.line in
    let asked : new ≡ touched_with bases (stepped line.glyphs) old
    = c.in_ok-packed_line.ensures.touched ∙ ap (λ (b : List BaseFont). touched_with b (stepped line.glyphs) old) inv.bases in
    let p = err_from_is_err_and c.from_residual-in_err-push.result c.from_residual-in_err-push.ensures.1 in
    rw p.1
    (first-asked bases (lines ++ line ∷ []) (set_lines rule (index + 1 + 1) (After to) (drop (index + 1) breaks)) _ before new
    (next-line rule index from to lines _ line breaks front inv.all good.0)
    (more-asked bases lines line before old new inv.touched asked))

pub returns-clause-lines : goal.returns-clause-lines
returns-clause-lines g c =
    let breaks = c.args.breaks.now in
    let index = c.loop-index.index in
    let inv = c.loop-index.invariant in
    let none : drop index breaks ≡ [] = drop_all index breaks (omega arith) in
    inl (answer-good c.loop-index.lines _ (lines-good c.args.rule.now index c.loop-index.from c.loop-index.lines _ breaks none inv.all) inv.good)
