-- The step of expansion that a character takes (pdfTeX manual).
use Rattle.std.specs.Prelude.{◌≡◌, ◌≢◌, refl, ℕ, ◌%◌, if◌then◌else◌, int_lt, ℤ, pos, negsuc, neg_ℤ, ◌*ℤ◌, ◌≤ℤ◌, unsigned_abs, Option, Some, None}
use Rattle.std.proofs.Common.{lit≤}
use Rattle.micro_num.specs.Rounding.{rounded}
use Rattle.font_stock.specs.declared.expand.Expand.{Expand}

-- the multiple of `step` that is nearest to a number; halfway it is the one away from zero
abbrev pub nearest_multiple : ℤ → ℤ → ℤ
nearest_multiple n step = rounded n step *ℤ step

-- how far a line's ratio of thousandths may expand at all: by the stretch where it isn't negative, else by the
-- shrink
abbrev pub limit_of : Expand → ℤ → ℕ
limit_of expand ratio = if int_lt ratio (pos 0) then expand.shrink else expand.stretch

-- the step at a ratio, of a character with this share in the expansion
abbrev pub step_at : Expand → ℕ → ℤ → ℤ
step_at expand factor ratio =
    nearest_multiple (rounded (ratio *ℤ pos factor *ℤ pos (limit_of expand ratio)) (pos 1000000)) (pos expand.step)

-- the step of a font that may not be expanded is 0
unfoldable pub step_of : Option Expand → ℕ → ℤ → ℤ
step_of None factor ratio = pos 0
step_of (Some expand) factor ratio = step_at expand factor ratio

-- a font may be expanded by a step: within the limits, and a whole number of steps. 0, which leaves the font as
-- it is, is among them
pub record IsStepOf (expand : Expand) (step : ℤ) : Type 0 where
  pub low : neg_ℤ (pos expand.shrink) ≤ℤ step
  pub high : step ≤ℤ pos expand.stretch
  pub whole : unsigned_abs step % expand.step ≡ 0

-- a font has an instance at a step: one that it may be expanded by, other than 0
pub record IsInstanceOf (expand : Expand) (step : ℤ) : Type 0 where
  pub step_of : IsStepOf expand step
  pub other : step ≢ pos 0

-- 20 thousandths each way, in steps of 4
abbrev pub twenty_by_four : Expand
twenty_by_four = record {
  stretch = 20;
  shrink = 20;
  step = 4;
  limits = record {
    stretch_fits = lit≤ tt;
    shrink_fits = lit≤ tt;
    step_starts = lit≤ tt;
    step_fits = lit≤ tt;
    stretch_whole = refl;
    shrink_whole = refl;
    few = lit≤ tt;
  };
}

-- a character with a full share takes 8 at a ratio of 300, -8 at -300, all at 1000, 4 at 100 and none at 30; one with
-- half a share takes 4 at 300
pub third : step_of (Some twenty_by_four) 1000 (pos 300) ≡ pos 8
unfolding step_of
third = refl

pub third_shrunk : step_of (Some twenty_by_four) 1000 (negsuc 299) ≡ negsuc 7
unfolding step_of
third_shrunk = refl

pub whole_limit : step_of (Some twenty_by_four) 1000 (pos 1000) ≡ pos 20
unfolding step_of
whole_limit = refl

pub tenth : step_of (Some twenty_by_four) 1000 (pos 100) ≡ pos 4
unfolding step_of
tenth = refl

pub too_little : step_of (Some twenty_by_four) 1000 (pos 30) ≡ pos 0
unfolding step_of
too_little = refl

pub half_a_share : step_of (Some twenty_by_four) 500 (pos 300) ≡ pos 4
unfolding step_of
half_a_share = refl
