-- The codes so far exist, and the rest is quiet exactly where the whole is.
use Rattle.std.proofs.Common.{◌≡◌, ℕ, ◌<◌, get_or, drop, length, []}
use Rattle.std.specs.Prelude.{true, None}
use Rattle.tfm_read.specs.Ranges.{exists_at}
use Rattle.lig_kern.specs.Plain.{is_quiet}
use Rattle.lig_kern.specs.Running.{code_symbols, right_symbols, start_of}
use Rattle.lig_kern.proofs.plain.is_plain.Given as goal

abbrev pub invariant-loop-code : goal.invariant-loop-code
invariant-loop-code l = record {
  exist : (k : ℕ) → k < l.code-index → exists_at l.tfm.chars (get_or l.codes k 0) ≡ true;
  quiet : is_quiet l.tfm None (start_of l.tfm l.codes l.left l.right)
      ≡ is_quiet l.tfm l.program
      (code_symbols l.code-index (drop l.code-index l.codes) (right_symbols l.right l.tfm.right (length l.codes) []));
}
