use Rattle.std.proofs.Common.{◌≡◌, ◌+◌, ◌-◌, arith, ap, sym, refl, ◌∙◌, length, drop, get_or, pos, ◌++◌}
use Rattle.std.proofs.lemmas.List.{drop_all}
use Rattle.dvi_write.specs.Commands.{spell, spell_all}
use Rattle.dvi_write.specs.Document.{definitions_from, define}
use Rattle.dvi_write.specs.Output.{grown}
use Rattle.dvi_write.proofs.Grown.{grown_nothing, and_put}
use Rattle.dvi_write.proofs.Spelled.{definitions_more}
use Rattle.dvi_write.proofs.file.put_definitions.Goals as goal

pub loop-number-init : goal.loop-number-init
unfolding spell_all
loop-number-init c =
    sym (grown_nothing c.args.out.now)
    ∙ ap (λ cs. grown c.args.out.now (spell_all (definitions_from c.args.rows.now (length c.args.cells.now) cs))) (sym (drop_all (length c.args.cells.now) c.args.cells.now (omega arith)))

pub loop-number-preserved : goal.loop-number-preserved
loop-number-preserved c =
    let next : c.loop-number.number - 1 + 1 ≡ c.loop-number.number = omega arith in
    let more = definitions_more c.args.rows.now c.args.cells.now (c.loop-number.number - 1) _ (record { font = 0; step = pos 0 }) (omega arith) refl in
    and_put c.args.out.now c.loop-number.out c.put_definition.new.out _ _ c.loop-number.invariant c.in_ok-put_definition.ensures
    ∙ ap (grown c.args.out.now)
    (ap (λ n. spell_all (definitions_from c.args.rows.now n (drop n c.args.cells.now)) ++ spell (define c.args.rows.now (c.loop-number.number - 1) (get_or c.args.cells.now (c.loop-number.number - 1) (record { font = 0; step = pos 0 })))) (sym next)
    ∙ sym more)
