-- Lines worked out by hand, in a font at 10 points whose characters are all half a size wide, with
-- a space of a quarter of the size between words. It may be 20 thousandths wider or narrower, in
-- steps of 1.
use Rattle.std.specs.Prelude.{◌≡◌, refl, ℕ, ℤ, pos, negsuc, List, [], ◌∷◌, replicate, Some, None, true}
use Rattle.std.proofs.Common.{lit≤}
use Rattle.micro_num.specs.declared.glue.Glue.{Glue}
use Rattle.micro_num.specs.Scaling.{scaled, halvings, halvings_within}
use Rattle.micro_num.specs.Expansion.{thousandths_of, expanded, width_at}
use Rattle.tfm_read.specs.declared.character.CharInfo.{CharInfo}
use Rattle.font_stock.specs.declared.expand.Expand.{Expand}
use Rattle.font_stock.specs.declared.font.Font.{Font}
use Rattle.font_stock.specs.Fonts.{stretch_at, shrink_at}
use Rattle.font_stock.specs.Steps.{step_of}
use Rattle.break_rule.specs.declared.line.Piece.TheVariants.{Glyph, Space, FontMove}
use Rattle.break_rule.specs.declared.line.LineIn.{LineIn}
use Rattle.break_rule.specs.Adding.{plus, sums_of_glue, sums_of_glyph, sums_of_kern}
use Rattle.instance_core.specs.declared.page.Placed.{Placed}
use Rattle.hpack_two.specs.declared.glue.GlueSet.{GlueSet}
use Rattle.hpack_two.specs.declared.glue.GlueSet.TheVariants.{Stretched}
use Rattle.hpack_two.specs.Widths.{added, ratio_of, chosen_step, advance_of, kern_width, natural}
use Rattle.hpack_two.specs.Glue.{set_of, given, shift_at}
use Rattle.hpack_two.specs.Lines.{setting_of, x_behind, glyphs_behind, glyphs_of}

abbrev pub word_space : Glue
word_space =
    record {
      width = pos 163840;
      stretch = pos 81920;
      order = 0;
      shrink = pos 40960;
      order_exists = lit≤ tt;
    }

-- two spaces that share a scaled point are shifted by one together, not by one each
abbrev by_one : GlueSet
by_one = Stretched 0 (pos 1) (pos 163840)

pub a_shift_is_rounded_once
    : shift_at by_one (given by_one (Space word_space ∷ Space word_space ∷ [])) ≡ pos 1
unfolding shift_at given
a_shift_is_rounded_once = refl

abbrev pub twenty_by_one : Expand
twenty_by_one = record {
  stretch = 20;
  shrink = 20;
  step = 1;
  limits = record {
    stretch_fits = lit≤ tt;
    shrink_fits = lit≤ tt;
    step_starts = lit≤ tt;
    step_fits = lit≤ tt;
    stretch_whole = refl;
    shrink_whole = refl;
    few = lit≤ tt;
  };
}

abbrev pub half_wide : CharInfo
half_wide =
    record { exists = true; width = pos 524288; height = pos 524288; depth = pos 0; program = None }

-- such a font, with these shares of its characters in its expansion
pub record IsHalfWide (factors : List ℕ) (font : Font) : Type 0 where
  pub size : font.size ≡ pos 655360
  pub chars : font.tfm.chars ≡ replicate 256 half_wide
  pub ef : font.codes.ef ≡ factors
  pub expand : font.expand ≡ Some twenty_by_one

abbrev pub o_kern_v : LineIn
o_kern_v =
    record {
      pieces = Glyph 0 111 ∷ FontMove 0 111 (negsuc 65535) (negsuc 40959) ∷ Glyph 0 118 ∷ [];
      expand = true;
    }

abbrev pub at_step : ℤ → ℤ → ℤ → ℕ → Placed
at_step step advance x code =
    record { x = x; cell = record { font = 0; step = step }; code = code; advance = advance }

-- a kern is expanded with the glyph before it
pub wide_kern : (font : Font) → IsHalfWide (replicate 256 1000) font
    → glyphs_of (font ∷ []) o_kern_v (pos 626686) (pos 0)
    ≡ at_step (pos 20) (pos 334233) (pos 0) 111
    ∷ at_step (pos 20) (pos 334233) (pos 292453) 118 ∷ []
unfolding glyphs_of setting_of glyphs_behind x_behind sums_of_kern added ratio_of chosen_step advance_of kern_width natural set_of given shift_at plus sums_of_glue sums_of_glyph step_of stretch_at shrink_at width_at expanded thousandths_of scaled halvings halvings_within
wide_kern font is = rw (is.size, is.chars, is.ef, is.expand) refl
