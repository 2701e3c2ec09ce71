use Rattle.std.proofs.Common.{ℕ, sym, subst}
use Rattle.std.specs.Prelude.{All}
use Rattle.para_workers.specs.Pages.{IsSettable}
use Rattle.para_workers.proofs.JobLaws.{job-settable}
use Rattle.para_threads.proofs.worker.work.Goals as goal

pub run-requires-clause-ready : goal.run-requires-clause-ready
run-requires-clause-ready g c =
    let job = c.args.job.now in
    record {
      settable = subst (λ (n : ℕ). All (IsSettable n) job.pars) (sym c.requires.fonts) (job-settable job c.requires.job);
      patterns_made = c.requires.patterns;
      table_over = c.requires.bases;
      a_draw_each = c.requires.draws;
      few = c.requires.job.few_pars;
    }
