-- What the category of a byte says of its number.
use Rattle.std.proofs.Common.{◌≡◌, ℕ, refl, ap, ◌∙◌, arith}
use Rattle.std.proofs.lemmas.Bool.Decides.{nat_tests}
use Rattle.job_lex.specs.declared.category.Category.TheVariants.{Letter, Comment, Blank}
use Rattle.job_lex.specs.Category.{category}
use Rattle.job_lex.specs.Tokens.{IsPrinting}

-- the line feed is a blank
pub category-feed : category 10 ≡ Blank
unfolding category
category-feed = refl

-- so no comment begins with it
pub comment_is_no_feed : (b : ℕ) → category b ≡ Comment → b ≡ 10 → ⊥
comment_is_no_feed b comment feed = let same : category b ≡ Blank = ap category feed ∙ category-feed in cc

-- a letter is a printing byte
pub letter_is_printing : (b : ℕ) → category b ≡ Letter → IsPrinting b
unfolding category
letter_is_printing b letter = (grind (arith, nat_tests), grind (arith, nat_tests))
