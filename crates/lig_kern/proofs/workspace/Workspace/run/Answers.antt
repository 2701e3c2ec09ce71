-- The end of the rewriting is the answer, and no other is one.
use Rattle.std.specs.Prelude.{Ok, Err}
use Rattle.lig_kern.proofs.AnswerLemmas.{only-glyphs, only-past}
use Rattle.lig_kern.proofs.OwnLemmas.{answers-lawful}
use Rattle.lig_kern.proofs.OutcomeLemmas.{is-outcome}
use Rattle.lig_kern.proofs.PlainLemmas.{plain-run}
use Rattle.lig_kern.proofs.workspace.Workspace.run.Goals as goal

pub returns-in-Ok-clause-glyphs : goal.returns-in-Ok-clause-glyphs
returns-in-Ok-clause-glyphs c = λ glyphs run.
    only-glyphs c.args.tfm.now c.args.codes.now c.args.left c.args.right (Ok c.run_in.new.state.done) c.in-Ok.ensures.answer glyphs run

pub returns-in-Ok-clause-too_many : goal.returns-in-Ok-clause-too_many
returns-in-Ok-clause-too_many c = λ past.
    only-past c.args.tfm.now c.args.codes.now c.args.left c.args.right (Ok c.run_in.new.state.done) c.in-Ok.ensures.answer past

pub returns-in-Ok-clause-outcome : goal.returns-in-Ok-clause-outcome
returns-in-Ok-clause-outcome c =
    is-outcome c.args.tfm.now c.args.codes.now c.args.left c.args.right (Ok c.run_in.new.state.done) c.in-Ok.ensures.answer

pub returns-in-Ok-clause-lawful : goal.returns-in-Ok-clause-lawful
returns-in-Ok-clause-lawful c =
    answers-lawful c.args.tfm.now c.args.codes.now c.args.left c.args.right (Ok c.run_in.new.state.done) c.in-Ok.ensures.answer

pub returns-in-Ok-clause-plain : goal.returns-in-Ok-clause-plain
returns-in-Ok-clause-plain c = λ none exist.
    only-glyphs c.args.tfm.now c.args.codes.now c.args.left c.args.right (Ok c.run_in.new.state.done) c.in-Ok.ensures.answer _
    (plain-run c.args.tfm.now c.args.codes.now c.args.left c.args.right none exist)

pub returns-in-Err-clause-glyphs : goal.returns-in-Err-clause-glyphs
returns-in-Err-clause-glyphs c = λ glyphs run.
    only-glyphs c.args.tfm.now c.args.codes.now c.args.left c.args.right (Err c.in-Err.fault) c.in-Err.ensures.answer glyphs run

pub returns-in-Err-clause-outcome : goal.returns-in-Err-clause-outcome
returns-in-Err-clause-outcome c =
    is-outcome c.args.tfm.now c.args.codes.now c.args.left c.args.right (Err c.in-Err.fault) c.in-Err.ensures.answer

pub returns-in-Err-clause-plain : goal.returns-in-Err-clause-plain
returns-in-Err-clause-plain c = λ none exist.
    only-glyphs c.args.tfm.now c.args.codes.now c.args.left c.args.right (Err c.in-Err.fault) c.in-Err.ensures.answer _
    (plain-run c.args.tfm.now c.args.codes.now c.args.left c.args.right none exist)
