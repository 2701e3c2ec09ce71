-- A shape that is read has at most 1024 lines, and its lengths are bounded.
use Rattle.std.proofs.Common.{ℕ, zero, suc, ◌+◌, ◌^◌, ◌<◌, ◌≤◌, List, [], ◌∷◌, length, arith}
use Rattle.std.specs.Prelude.{ℤ, pos, negsuc, nat_le, All, unsigned_abs}
use Rattle.std.proofs.lemmas.Bool.{leb-true}
use Rattle.std.proofs.lemmas.Int.{ints}
use Rattle.std.proofs.lemmas.List.{length-append}
use Rattle.std.proofs.lemmas.List.Elements.{All-nil, All-push}
use Rattle.micro_num.specs.declared.shape.ShapeLine.{ShapeLine}
use Rattle.micro_num.specs.Shape.{IsShapeLine}
use Rattle.job_reading.specs.declared.token.Token.{Token}
use Rattle.job_reading.specs.Bounds.{IsLength}
use Rattle.job_reading.specs.Reading.{place, equals}
use Rattle.job_reading.specs.Repeats.{times}
use Rattle.job_reading.specs.Numbers.{number}
use Rattle.job_reading.specs.Lengths.{dimension}
use Rattle.job_text.specs.Shapes.{shape_line, shape_of, shape}
use Rattle.job_text.specs.Fits.{ShapeFits}
use Rattle.job_reading.proofs.Keeping.{OnRead, OnRead-bind, OnRead-then, OnRead-if}
use Rattle.job_reading.proofs.Bounds.{dimension_bounded}

pub no_shape_fits : ShapeFits []
no_shape_fits = record { few = omega arith; lines = All-nil IsShapeLine }

small : (size : ℤ) → IsLength size → unsigned_abs size < 2 ^ 30
small (pos n) is = omega (arith, ints, is.high)
small (negsuc n) is = omega (arith, ints, is.low)

-- so many lines at most, all of them bounded
record LinesFit (most : ℕ) (shape : List ShapeLine) : Type 0 where
  few : length shape ≤ most
  lines : All IsShapeLine shape

line_fits : (end most : ℕ) (lines : List ShapeLine) (toks : List Token) → LinesFit most lines → OnRead (LinesFit (suc most)) (shape_line end lines toks)
unfolding shape_line
line_fits end most lines toks fits =
    OnRead-then IsLength (LinesFit (suc most)) (dimension end toks) _ (dimension_bounded end toks) (λ indent one.
    OnRead-then IsLength (LinesFit (suc most)) (dimension end indent.1) _ (dimension_bounded end indent.1) (λ width other. record {
      few = omega (arith, fits.few, length-append lines (record { indent = indent.0; width = width.0 } ∷ []));
      lines = All-push IsShapeLine lines (record { indent = indent.0; width = width.0 }) fits.lines (record { indent = small indent.0 one; width = small width.0 other });
    }))

lines_fit : (end count : ℕ) (lines : List ShapeLine) (toks : List Token) (before : ℕ) → before + count ≤ 1024 → LinesFit before lines → OnRead ShapeFits (times count (shape_line end) lines toks)
lines_fit end zero lines toks before few fits = record { few = omega (arith, fits.few); lines = fits.lines }
lines_fit end (suc count) lines toks before few fits =
    OnRead-then (LinesFit (suc before)) ShapeFits (shape_line end lines toks) _ (line_fits end before lines toks fits) (λ x more. lines_fit end count x.0 x.1 (suc before) (omega arith) more)

shape_of_fits : (end first : ℕ) (count : ℤ) (toks : List Token) → OnRead ShapeFits (shape_of end first count toks)
shape_of_fits end first (pos count) toks =
    OnRead-if ShapeFits (nat_le count 1024) _ _ (λ few. lines_fit end count [] toks 0 (omega (arith, leb-true count 1024 few)) (record { few = omega arith; lines = All-nil IsShapeLine })) (λ many. tt)
shape_of_fits end first (negsuc count) toks = no_shape_fits

pub shape_fits : (end : ℕ) (toks : List Token) → OnRead ShapeFits (shape end toks)
unfolding shape
shape_fits end toks = OnRead-bind ShapeFits (number end (equals toks)) _ (λ count. shape_of_fits end (place end (equals toks)) count.0 count.1)
