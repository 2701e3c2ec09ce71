use Rattle.std.proofs.Common.{sym, inl}
use Rattle.std.proofs.lemmas.Result.{err_from_is_err_and}
use Rattle.job_text.specs.Job.{state_of}
use Rattle.job_text.proofs.JobOnce.{reads_job}
use Rattle.job_text.proofs.reader.read.Goals as goal

-- a fault of the tokens is the first of all
pub returns-in_err-rest : goal.returns-in_err-rest
returns-in_err-rest c =
    let p = err_from_is_err_and c.from_residual.result c.from_residual.ensures.1 in
    rw (p.1, p.2) (inl c.in_err-rest.ensures)

pub returns : goal.returns
returns c =
    let all = c.in_ok-rest.ensures in
    record {
      toks = all.toks;
      state = state_of c.read.new.self;
      rest = _;
      are_tokens = all.are_tokens;
      reads = reads_job _ _ all.toks _ _ _ c.new-source.ensures all.is c.new-state.ensures.value c.in_ok-read.ensures.0;
      is = sym c.job.ensures;
    }
