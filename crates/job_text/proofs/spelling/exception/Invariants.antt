use Rattle.std.proofs.Common.{◌≡◌, length}
use Rattle.job_text.specs.Hyphenation.{spelling, exception_of}
use Rattle.job_text.proofs.spelling.exception.Given as goal

abbrev pub invariant-loop-code : goal.invariant-loop-code
invariant-loop-code l = spelling l.lccode l.letters.items l.places.items l.hyphen l.more ≡ exception_of l.lccode l.codes

abbrev pub decreases-loop-code : goal.decreases-loop-code
decreases-loop-code l = length l.more
