-- How the glue of a line is set (TeX: The Program, sections 625, 656 to 660 and 664).
--     set_of          which order stretches, or that all shrinks, for what a line lacks
--     given_by        what a glue counts for where glue is set so
--     given           what the glues among some pieces count for
--     shift_at        how far glue that counts for so much moves what is behind it, rounded once
use Rattle.std.specs.Prelude.{ℤ, pos, neg_ℤ, ◌+ℤ◌, ◌*ℤ◌, int_lt, int_le, Bool, not, if◌then◌else◌, List, fold}
use Rattle.std.specs.Ordering.{int_eq}
use Rattle.micro_num.specs.declared.glue.Glue.{Glue}
use Rattle.micro_num.specs.Rounding.{rounded}
use Rattle.break_rule.specs.declared.line.Piece.{Piece}
use Rattle.break_rule.specs.declared.line.Piece.TheVariants.{Space}
use Rattle.break_rule.specs.declared.sums.Sums.{Sums}
use Rattle.break_rule.specs.Adding.{where_order}
use Rattle.hpack_two.specs.declared.glue.GlueSet.{GlueSet}
use Rattle.hpack_two.specs.declared.glue.GlueSet.TheVariants.{Natural, Stretched, Shrunk, ShrunkInFull}

abbrev pub is_some : ℤ → Bool
is_some n = not (int_eq n (pos 0))

-- the greatest order of which a line has any stretch at all makes up for what it lacks
abbrev pub stretched : ℤ → Sums → GlueSet
stretched lacking sums =
    if is_some sums.filll then Stretched 3 lacking sums.filll
    else (if is_some sums.fill then Stretched 2 lacking sums.fill
    else (if is_some sums.fil then Stretched 1 lacking sums.fil
    else (if is_some sums.finite then Stretched 0 lacking sums.finite else Natural)))

-- glue that can't shrink by all that is too much shrinks by what it can
abbrev pub shrunk : ℤ → Sums → GlueSet
shrunk surplus sums =
    if int_eq sums.shrink (pos 0) then Natural
    else (if int_le surplus sums.shrink then Shrunk surplus sums.shrink else ShrunkInFull)

unfoldable pub set_of : ℤ → Sums → GlueSet
set_of lacking sums =
    if int_lt (pos 0) lacking then stretched lacking sums
    else (if int_lt lacking (pos 0) then shrunk (neg_ℤ lacking) sums else Natural)

abbrev pub given_by : GlueSet → Glue → ℤ
given_by Natural glue = pos 0
given_by (Stretched order lacking total) glue = where_order order glue
given_by (Shrunk surplus total) glue = glue.shrink
given_by ShrunkInFull glue = glue.shrink

abbrev pub given_of : GlueSet → Piece → ℤ
given_of set (Space glue) = given_by set glue
given_of set _ = pos 0

abbrev pub with_given : GlueSet → ℤ → Piece → ℤ
with_given set before piece = before +ℤ given_of set piece

unfoldable pub given : GlueSet → List Piece → ℤ
given set pieces = fold (with_given set) (pos 0) pieces

-- of what a line lacks or has too much, the part that the glue before has of all of it
unfoldable pub shift_at : GlueSet → ℤ → ℤ
shift_at Natural before = pos 0
shift_at (Stretched order lacking total) before = rounded (lacking *ℤ before) total
shift_at (Shrunk surplus total) before = neg_ℤ (rounded (surplus *ℤ before) total)
shift_at ShrunkInFull before = neg_ℤ before
