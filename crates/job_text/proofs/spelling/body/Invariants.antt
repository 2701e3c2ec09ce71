use Rattle.std.proofs.Common.{◌≡◌, [], None, length, vec_len}
use Rattle.job_text.specs.Hyphenation.{body}
use Rattle.job_text.proofs.spelling.body.Given as goal

abbrev pub invariant-loop-code : goal.invariant-loop-code
invariant-loop-code l = record {
  value : body l.lccode l.start l.letters.items l.values.items l.digit l.more ≡ body l.lccode l.start [] [] None l.codes;
  same : vec_len l.values ≡ vec_len l.letters;
}

abbrev pub decreases-loop-code : goal.decreases-loop-code
decreases-loop-code l = length l.more
