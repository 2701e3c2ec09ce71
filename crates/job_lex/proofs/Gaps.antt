-- What the loops over a gap keep: a front of a gap, and what stands in a line so far.
use Rattle.std.proofs.Common.{◌≡◌, ℕ, ◌<◌, ◌≤◌, ◌⊎◌, Bool, true, false, List, length, get_or, ⊎_elim, arith, sym, ap, ◌∙◌}
use Rattle.job_lex.specs.declared.category.Category.TheVariants.{Blank, Comment}
use Rattle.std.proofs.str.Laws.{order}
use Rattle.job_lex.specs.Category.{category}
use Rattle.job_lex.specs.Tokens.{category_at, HasNoLineFeed, IsInComment, IsGap, IsInLine, HasEmptyLine}
use Rattle.job_lex.proofs.Bytes.{category-feed, comment_is_no_feed}

-- a comment that began in the gap has not ended before the place
pub record IsOpen (bytes : List ℕ) (from place : ℕ) : Type 0 where
  pub percent : ℕ
  pub after_start : from ≤ percent
  pub before_place : percent < place
  pub begins : category_at bytes percent ≡ Comment
  pub goes_on : HasNoLineFeed bytes percent place

-- the bytes from one place to before another are blanks and comments, and if a comment has not ended
-- there, then the line feed that ends it stands next, or the file ends
pub record IsFront (bytes : List ℕ) (from to : ℕ) : Type 0 where
  pub ordered : from ≤ to
  pub within : to ≤ length bytes
  pub each : (k : ℕ) → from ≤ k → k < to → (category_at bytes k ≡ Blank) ⊎ IsInComment bytes from k
  pub ends : to < length bytes → (get_or bytes to 0 ≡ 10 → ⊥) → IsOpen bytes from to → ⊥

-- a line feed stands there, and behind it only tabs, carriage returns and spaces
pub record IsAfterLine (bytes : List ℕ) (from to : ℕ) : Type 0 where
  pub feed : ℕ
  pub after_start : from ≤ feed
  pub before_end : feed < to
  pub ends : get_or bytes feed 0 ≡ 10
  pub between : (k : ℕ) → feed < k → k < to → IsInLine (get_or bytes k 0)

-- no two line feeds so far have an empty line between them, and whether an empty line may go on here
pub record LineState (bytes : List ℕ) (from to : ℕ) (after_line : Bool) : Type 0 where
  pub none : HasEmptyLine bytes from to → ⊥
  pub is_after : after_line ≡ true → IsAfterLine bytes from to
  pub is_not_after : after_line ≡ false → IsAfterLine bytes from to → ⊥

-- a front is a gap where it is no longer and the byte behind it begins neither a blank nor a comment
pub IsGap-from_front : (bytes : List ℕ) (from to : ℕ) → IsFront bytes from to → to < length bytes → (category_at bytes from ≡ Blank) ⊎ (category_at bytes from ≡ Comment) → (category_at bytes to ≡ Blank → ⊥) → (category_at bytes to ≡ Comment → ⊥) → IsGap bytes from to
IsGap-from_front bytes from to front inside begins no_blank no_comment = record {
  some = ⊎_elim (λ less. less) (λ at_most. let same : to ≡ from = omega (arith, front.ordered) in absurd (⊎_elim (λ blank. no_blank (ap (category_at bytes) same ∙ blank)) (λ comment. no_comment (ap (category_at bytes) same ∙ comment)) begins)) (order from to);
  within = front.within;
  each = front.each;
  no_blank_behind = λ _. no_blank;
  no_comment_behind = λ _ comment. ⊎_elim
      (λ less. front.ends inside (λ feed. no_blank (ap category feed ∙ category-feed)) (record { percent = comment.percent; after_start = comment.after_start; before_place = less; begins = comment.begins; goes_on = comment.goes_on }))
      (λ at_most. let same : comment.percent ≡ to = omega (arith, comment.before_place) in no_comment (ap (category_at bytes) (sym same) ∙ comment.begins))
      (order comment.percent to);
}

-- a line that begins with `%` has that byte at least before its line feed
pub comment_goes_on : (bytes : List ℕ) (from to : ℕ) → category_at bytes from ≡ Comment → from < length bytes → from ≤ to → (to < length bytes → get_or bytes to 0 ≡ 10) → from < to
comment_goes_on bytes from to comment inside after found =
    ⊎_elim
    (λ less. less)
    (λ at_most. let same : to ≡ from = omega arith in absurd (comment_is_no_feed _ comment (ap (λ (k : ℕ). get_or bytes k 0) (sym same) ∙ found (omega arith))))
    (order from to)
