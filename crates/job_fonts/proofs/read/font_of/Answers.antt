use Rattle.std.proofs.Common.{◌∙◌, sym}
use Rattle.std.proofs.lemmas.Result.{err_from_is_err_and}
use Rattle.job_fonts.proofs.OneAnswer.{refused-fault}
use Rattle.job_fonts.proofs.read.font_of.Goals as goal

pub returns-in_err-font-clause-fault : goal.returns-in_err-font-clause-fault
returns-in_err-font-clause-fault c =
    let p = err_from_is_err_and c.from_residual-in_err-font.result c.from_residual-in_err-font.ensures.1 in
    rw (p.1, p.2) (refused-fault c.args.decl.now c.args.bytes.now c.in_ok-tfm.tfm c.copy.result c.in_err-font.field-0.0 c.in_ok-tfm.ensures.found c.in_err-font.ensures)

pub returns-clause-font : goal.returns-clause-font
returns-clause-font c =
    let made = c.in_ok-font.ensures.1 in
    record {
      tfm = c.in_ok-tfm.tfm;
      read = c.in_ok-tfm.ensures.found;
      accepted = c.in_ok-font.ensures.0;
      made = record {
        metrics = made.metrics;
        size_asked = made.size_asked;
        settings = made.settings ∙ c.copy.ensures;
        expansion = made.expansion;
      };
    }
