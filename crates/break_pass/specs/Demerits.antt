-- What a line costs, a sum of four terms (TeX: The Program, section 859).
--     badness_demerits       for its badness
--     penalty_demerits       for the penalty of the break that ends it
--     hyphen_demerits        for hyphens at both of its ends, or at the one before the last line
--     AreSmall               the parameters that are added as they are fit their type
--     demerits_of            all together; the classes of two lines in a row are the fourth
use Rattle.std.specs.Prelude.{ℕ, ◌≤◌, ◌^◌, ℤ, pos, ◌+ℤ◌, ◌*ℤ◌, neg_ℤ, nat_le, int_lt, unsigned_abs, if◌then◌else◌}
use Rattle.micro_num.specs.declared.params.Params.{Params}
use Rattle.line_break.specs.Tables.{adjacent}
use Rattle.break_rule.specs.Places.{eject}
use Rattle.break_pass.specs.declared.place.BreakKind.{BreakKind}
use Rattle.break_pass.specs.declared.place.BreakKind.TheVariants.{Discretionary, End}

abbrev pub squared : ℤ → ℤ
squared x = x *ℤ x

-- The square is cut off at 10^8.
abbrev pub badness_demerits : ℤ → ℕ → ℤ
badness_demerits linepenalty badness =
    if nat_le 10000 (unsigned_abs (linepenalty +ℤ pos badness)) then pos (10 ^ 8) else squared (linepenalty +ℤ pos badness)

-- The penalty that forces a break costs nothing.
abbrev pub penalty_demerits : ℤ → ℤ
penalty_demerits penalty =
    if int_lt (pos 0) penalty then squared penalty
    else (if int_lt eject penalty then neg_ℤ (squared penalty) else pos 0)

abbrev pub hyphen_demerits : Params → BreakKind → BreakKind → ℤ
hyphen_demerits params Discretionary Discretionary = params.doublehyphendemerits
hyphen_demerits params Discretionary End = params.finalhyphendemerits
hyphen_demerits params _ _ = pos 0

-- Of a line from a break of a kind, after a line of a class, with a badness and a class, to a break of a penalty and a kind.
unfoldable pub demerits_of : Params → BreakKind → ℕ → ℕ → ℕ → ℤ → BreakKind → ℤ
demerits_of params before earlier badness class penalty to =
    badness_demerits params.linepenalty badness +ℤ penalty_demerits penalty
    +ℤ adjacent params.adjdemerits earlier class +ℤ hyphen_demerits params before to

-- the parameters that are added as they are fit their type
pub record AreSmall (params : Params) : Type 0 where
  pub classes : unsigned_abs params.adjdemerits ≤ 2 ^ 31
  pub doubles : unsigned_abs params.doublehyphendemerits ≤ 2 ^ 31
  pub finals : unsigned_abs params.finalhyphendemerits ≤ 2 ^ 31
