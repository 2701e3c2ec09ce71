-- One line after another, until a paragraph has no list.
use Rattle.std.proofs.Common.{◌≡◌, ◌+◌, ◌++◌, [], ◌∷◌, length, arith, ap, ◌∙◌, refl, List, ℕ, drop, length-append}
use Rattle.std.proofs.lemmas.List.{drop_all}
use Rattle.std.proofs.lemmas.Result.{err_from_is_err_and}
use Rattle.hlist_hyph.specs.Hyphenated.{places_in}
use Rattle.job_breaks.specs.Lines.{lines_from}
use Rattle.job_breaks.proofs.ParLines.{all-lines, behind, behind-none, next-line, next-par, tells-lines}
use Rattle.job_breaks.proofs.lines.break_pars.Goals as goal

pub loop-par-init : goal.loop-par-init
loop-par-init c =
    let empty : c.from_vec-lines.result ≡ [] = c.from_vec-lines.ensures ∙ c.in_ok-with_capacity.ensures.items in
    rw empty (record { all = behind-none _; count = refl })

pub loop-par-preserved : goal.loop-par-preserved
loop-par-preserved c =
    let tables = c.args.tables.now in
    let places = places_in c.args.patterns.now in
    let stock = c.args.stock.now in
    let pars = c.args.pars.now in
    let inv = c.loop-par.invariant in
    let lines = c.loop-par.lines in
    let index = c.loop-par.par-index in
    let line = c.in_ok-line_of_par.field-0 in
    let put : c.push.new.self ≡ lines ++ line ∷ [] = c.in_ok-push.ensures.ok in
    record {
      all = ap (λ (ls : List (List ℕ)). behind ls (lines_from tables places stock (index + 1 + 1) (drop (index + 1) pars))) put
          ∙ next-line tables places stock (index + 1) _ c.par-item.result (drop index pars) (drop (index + 1) pars) lines line _
          (next-par pars index c.par-item.result (omega arith) c.par-item.is)
          (omega (arith, inv.count, c.len.ensures)) inv.all c.in_ok-line_of_par.ensures;
      count = ap (λ (ls : List (List ℕ)). length ls) put ∙ length-append lines (line ∷ []) ∙ ap (λ n. n + 1) inv.count;
    }

pub returns-in_err-line_of_par-clause-lines : goal.returns-in_err-line_of_par-clause-lines
returns-in_err-line_of_par-clause-lines c =
    let pars = c.args.pars.now in
    let inv = c.loop-par.invariant in
    let index = c.loop-par.par-index in
    let p = err_from_is_err_and c.from_residual-in_err-line_of_par.result c.from_residual-in_err-line_of_par.ensures.1 in
    rw (p.1, p.2)
    (tells-lines c.args.tables.now (places_in c.args.patterns.now) c.args.stock.now (index + 1) _ c.par-item.result (drop index pars) (drop (index + 1) pars)
    c.loop-par.lines _ _ (next-par pars index c.par-item.result (omega arith) c.par-item.is)
    (omega (arith, inv.count, c.len.ensures)) inv.all c.in_err-line_of_par.ensures)

pub returns-clause-lines : goal.returns-clause-lines
returns-clause-lines c =
    let pars = c.args.pars.now in
    let inv = c.loop-par.invariant in
    let index = c.loop-par.par-index in
    let none : drop index pars ≡ [] = drop_all index pars (omega arith) in
    all-lines c.args.tables.now (places_in c.args.patterns.now) c.args.stock.now (index + 1) (drop index pars) c.loop-par.lines _ none inv.all
