-- The list is there where the run has an end.
use Rattle.hlist_hyph.proofs.RunLemmas.{run-some, run-none}
use Rattle.hlist_hyph.specs.Pieces.{hyphening}
use Rattle.hlist_hyph.proofs.splitting.run_of.Goals as goal

pub returns-in-Ok : goal.returns-in-Ok
returns-in-Ok c =
    run-some (hyphening c.args.font.now c.args.setting.now) c.args.codes.now c.args.left c.args.right c.in-Ok.subs c.in-Ok.ensures

pub returns-in-Err-TooManySteps : goal.returns-in-Err-TooManySteps
returns-in-Err-TooManySteps c =
    run-none (hyphening c.args.font.now c.args.setting.now) c.args.codes.now c.args.left c.args.right _ (λ is. absurd cc)
    c.in-Err-TooManySteps.ensures

pub returns-in-Err-Missing : goal.returns-in-Err-Missing
returns-in-Err-Missing c =
    run-none (hyphening c.args.font.now c.args.setting.now) c.args.codes.now c.args.left c.args.right _ (λ is. absurd cc)
    c.in-Err-Missing.ensures
