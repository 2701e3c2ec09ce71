-- Plain text: each of its bytes is a token, and so the tokens from a place on are those of its plain text and those
-- behind it.
use Rattle.std.proofs.Common.{◌≡◌, ℕ, zero, suc, ◌+◌, ◌<◌, ◌≤◌, Bool, true, false, List, [], ◌∷◌, ◌++◌, length, get_or, inl, inr, ⊎_elim, refl, sym, ap, ◌∙◌, subst, arith}
use Rattle.std.specs.Prelude.{nat_lt, if◌then◌else◌}
use Rattle.std.proofs.lemmas.Bool.Decides.{nat_tests}
use Rattle.std.proofs.Math.Bridge.{le_prop}
use Rattle.std.proofs.str.Laws.{order}
use mathlib.Core.Logic.{∥∥₁_elim}
use Rattle.job_lex.specs.declared.category.Category.TheVariants.{Comment, Blank, Letter, Other}
use Rattle.job_lex.specs.declared.token.TokKind.{TokKind}
use Rattle.job_lex.specs.declared.token.TokKind.TheVariants.{Space, Char}
use Rattle.job_lex.specs.declared.token.Tok.{Tok}
use Rattle.job_lex.specs.Category.{category}
use Rattle.job_lex.specs.Tokens.{category_at, IsGap, HasEmptyLine, IsOfKind, IsToken, Adjoin}
use Rattle.job_lex.specs.Ahead.{TokensFrom, TokensFrom-prop}
use Rattle.job_lex.specs.PlainTokens.{IsText, IsBlank, IsPlain, ArePlain, plain_tok, plain_toks}
use Rattle.job_lex.proofs.Ahead.{behind, first_is}
use Rattle.job_lex.proofs.Once.{extends}

-- a byte that stands for itself is past the blanks
letter_is_large : (b : ℕ) → category b ≡ Letter → nat_lt 32 b ≡ true
unfolding category
letter_is_large b letter = grind (arith, nat_tests)

other_is_large : (b : ℕ) → category b ≡ Other → nat_lt 32 b ≡ true
unfolding category
other_is_large b other = grind (arith, nat_tests)

text_is_large : (b : ℕ) → IsText b → nat_lt 32 b ≡ true
text_is_large b text = ⊎_elim (letter_is_large b) (other_is_large b) text

blank_is_small : (b : ℕ) → IsBlank b → nat_lt 32 b ≡ false
unfolding category
blank_is_small b blank = grind (arith, nat_tests)

text_is_no_blank : (b : ℕ) → IsText b → category b ≡ Blank → ⊥
text_is_no_blank b text blank = ⊎_elim (λ letter. cc) (λ other. cc) text

text_is_no_comment : (b : ℕ) → IsText b → category b ≡ Comment → ⊥
text_is_no_comment b text comment = ⊎_elim (λ letter. cc) (λ other. cc) text

-- a byte that stands for itself is a Char
is_char : (bytes : List ℕ) (place : ℕ) → place < length bytes → IsText (get_or bytes place 0) → IsOfKind bytes place (place + 1) Char
is_char bytes place inside text =
    ⊎_elim
    (λ letter. inl (record { one = refl; within = omega arith; is_cat = letter }))
    (λ other. inr (record { one = refl; within = omega arith; is_cat = other }))
    text

-- a blank with such a byte behind it is a gap
lone_gap : (bytes : List ℕ) (place : ℕ) → place + 1 < length bytes → IsBlank (get_or bytes place 0) → IsText (get_or bytes (place + 1) 0) → IsGap bytes place (place + 1)
lone_gap bytes place inside blank next = record {
  some = omega arith;
  within = omega arith;
  each = λ k after before. let same : place ≡ k = omega arith in inl (subst (λ (at : ℕ). category_at bytes at ≡ Blank) same blank);
  no_blank_behind = λ _. text_is_no_blank _ next;
  no_comment_behind = λ _ comment. ⊎_elim
      (λ less. let same : comment.percent ≡ place = omega (arith, comment.after_start) in let is : category_at bytes place ≡ Comment = ap (category_at bytes) (sym same) ∙ comment.begins in cc)
      (λ at_least. let same : comment.percent ≡ place + 1 = omega (arith, comment.before_place) in text_is_no_comment _ next (ap (category_at bytes) (sym same) ∙ comment.begins))
      (order comment.percent (place + 1));
}

no_empty_line : (bytes : List ℕ) (place : ℕ) → HasEmptyLine bytes place (place + 1) → ⊥
no_empty_line bytes place line = omega (arith, line.after_start, line.ordered, line.before_end)

is_space : (bytes : List ℕ) (place : ℕ) → place + 1 < length bytes → IsBlank (get_or bytes place 0) → IsText (get_or bytes (place + 1) 0) → IsOfKind bytes place (place + 1) Space
is_space bytes place inside blank next = (lone_gap bytes place inside blank next, no_empty_line bytes place, blank)

abbrev kind_by : Bool → TokKind
kind_by large = if large then Char else Space

-- a byte of plain text is a token
pub plain_is_token : (bytes : List ℕ) (place : ℕ) → IsPlain bytes place → IsToken bytes (plain_tok bytes place)
plain_is_token bytes place plain =
    let inside = plain.inside in
    ⊎_elim
    (λ text. subst (λ (large : Bool). IsOfKind bytes place (place + 1) (kind_by large)) (sym (text_is_large _ text)) (is_char bytes place (omega arith) text))
    (λ both. subst (λ (large : Bool). IsOfKind bytes place (place + 1) (kind_by large)) (sym (blank_is_small _ both.0)) (is_space bytes place inside both.0 both.1))
    plain.pair

-- tokens adjoin where they are those of plain text
pub plain_adjoin : (bytes : List ℕ) (from count to : ℕ) → from + count ≡ to → ArePlain bytes from to → Adjoin bytes from (plain_toks bytes from count) to
unfolding plain_toks
plain_adjoin bytes from zero to ends plain = omega arith
plain_adjoin bytes from (suc count) to ends plain = (
  refl,
  plain_is_token bytes from (plain from (omega arith) (omega arith)),
  plain_adjoin bytes (from + 1) count to (omega arith) (λ k after before. plain k (omega arith) before),
)

-- where tokens lie ahead, they do behind plain text
pub behind_plain : (bytes : List ℕ) (from count to : ℕ) → from + count ≡ to → ArePlain bytes from to → TokensFrom bytes from → TokensFrom bytes to
behind_plain bytes from zero to ends plain before = let same : from ≡ to = omega arith in subst (TokensFrom bytes) same before
behind_plain bytes from (suc count) to ends plain before =
    let first = plain from (omega arith) (omega arith) in
    let inside = first.inside in
    behind_plain bytes (from + 1) count to (omega arith) (λ k after before. plain k (omega arith) before)
    (behind bytes from (plain_tok bytes from) before (omega arith) refl (plain_is_token bytes from first))

same_toks : (bytes : List ℕ) (from to : ℕ) → from ≡ to → (before : TokensFrom bytes from) (more : TokensFrom bytes to) → before.toks ≡ more.toks
same_toks bytes from to same before =
    subst (λ (at : ℕ). (more : TokensFrom bytes at) → before.toks ≡ more.toks) same
    (λ more. ap (λ (ahead : TokensFrom bytes from). ahead.toks) (TokensFrom-prop bytes from before more))

-- and they are those of the plain text, and those behind it
pub plain_is : (bytes : List ℕ) (from count to : ℕ) → from + count ≡ to → ArePlain bytes from to → (before : TokensFrom bytes from) (more : TokensFrom bytes to) → before.toks ≡ plain_toks bytes from count ++ more.toks
unfolding plain_toks
plain_is bytes from zero to ends plain before more =
    same_toks bytes from to (omega arith) before more
plain_is bytes from (suc count) to ends plain before more =
    let first = plain from (omega arith) (omega arith) in
    let inside = first.inside in
    let token = plain_is_token bytes from first in
    let middle : TokensFrom bytes (from + 1) = behind bytes from (plain_tok bytes from) before (omega arith) refl token in
    first_is bytes from (plain_tok bytes from) before middle refl token
    ∙ ap (λ (toks : List Tok). plain_tok bytes from ∷ toks) (plain_is bytes (from + 1) count to (omega arith) (λ k after before. plain k (omega arith) before) middle more)

-- a place where tokens lie ahead is in the file or at its end
adjoin_inside : (bytes : List ℕ) (place : ℕ) (toks : List Tok) → Adjoin bytes place toks (length bytes) → place ≤ length bytes
adjoin_inside bytes place [] adjoin = omega (arith, adjoin)
adjoin_inside bytes place (tok ∷ toks) adjoin = let range = extends bytes tok.from tok.to tok.kind adjoin.1 in omega (arith, adjoin.0, range.some, range.within)

pub ahead_inside : (bytes : List ℕ) (place : ℕ) → TokensFrom bytes place → place ≤ length bytes
ahead_inside bytes place ahead = ∥∥₁_elim ahead.reach le_prop (λ adjoin. adjoin_inside bytes place ahead.toks adjoin)
