use Rattle.std.proofs.Common.{◌≡◌, ℕ, ◌-◌, ◌<◌, ◌≤◌, length}
use Rattle.job_lex.specs.Tokens.{category_at}
use Rattle.job_lex.specs.declared.category.Category.TheVariants.{Letter}
use Rattle.job_lex.proofs.lexer.letters_end.Given as goal

abbrev pub invariant-loop-to : goal.invariant-loop-to
invariant-loop-to l = record {
  some : l.from < l.to;
  within : l.to ≤ length l.bytes;
  letters : (k : ℕ) → l.from ≤ k → k < l.to → category_at l.bytes k ≡ Letter;
}

abbrev pub decreases-loop-to : goal.decreases-loop-to
decreases-loop-to l = length l.bytes - l.to
