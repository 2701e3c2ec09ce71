-- A page of set lines, one below the other (TeX: The Program, section 679).
--     next_baseline params above line    where a line stands below the lines above
--     stacked params above lines         the lines on their baselines
--     is_stackable placed                a line's baseline and its lowest point are places
--     first_past params lines            the first line, from 1, where one of them isn't
--     page_of params lines               the page
--     AnswersPage params lines result    what an answer says
use Rattle.std.specs.Prelude.{◌≡◌, ℕ, Bool, not, ◌&&◌, int_lt, List, [], ◌∷◌, map, fold, if◌then◌else◌, ℤ, pos, negsuc, ◌+ℤ◌, ◌-ℤ◌, Option, Some, None, Result, Ok, Err, ⊤, true, Vec}
use Rattle.std.specs.declared.alloc.Global.{Global}
use Rattle.std.specs.Int.{int_max}
use Rattle.std.specs.List.{position_from, last_or, AllByRecursion}
use Rattle.micro_num.specs.declared.params.Params.{Params}
use Rattle.instance_core.specs.declared.page.Packed.{Packed}
use Rattle.instance_core.specs.declared.page.PageLine.{PageLine}
use Rattle.instance_core.specs.declared.page.Page.{Page}
use Rattle.dvi_write.specs.declared.stack_fault.StackFault.{StackFault}
use Rattle.dvi_write.specs.declared.stack_fault.StackFault.TheVariants.{OutOfRange, NoMemory}

-- the space between a line of this depth and one of this height: what baselineskip leaves of it, or lineskip where
-- that is below lineskiplimit. Natural widths alone count
abbrev pub gap : Params → ℤ → ℤ → ℤ
gap params depth height =
    if int_lt ((params.baselineskip.width -ℤ depth) -ℤ height) params.lineskiplimit
    then params.lineskip.width
    else ((params.baselineskip.width -ℤ depth) -ℤ height)

-- the first line is as far down as it is high
abbrev pub next_baseline : Params → Option PageLine → Packed → ℤ
next_baseline params None line = line.height
next_baseline params (Some above) line =
    above.baseline +ℤ above.line.depth +ℤ gap params above.line.depth line.height +ℤ line.height

abbrev pub on_baseline : Params → Option PageLine → Packed → PageLine
on_baseline params above line = record { baseline = next_baseline params above line; line = line }

abbrev pub stacked : Params → Option PageLine → List Packed → List PageLine
stacked params above [] = []
stacked params above (l ∷ ls) = on_baseline params above l ∷ stacked params (Some (on_baseline params above l)) ls

abbrev pub lowest : PageLine → ℤ
lowest placed = placed.baseline +ℤ placed.line.depth

-- within 2^30 - 1 of the page's top
abbrev pub is_place : ℤ → Bool
is_place z = not (int_lt z (negsuc 1073741822)) && not (int_lt (pos 1073741823) z)

abbrev pub is_stackable : PageLine → Bool
is_stackable placed = is_place placed.baseline && is_place (lowest placed)

abbrev pub first_past : Params → List Packed → Option ℕ
first_past params lines = position_from (λ placed. not (is_stackable placed)) 1 (stacked params None lines)

abbrev pub extent_of : Option PageLine → ℤ
extent_of None = pos 0
extent_of (Some placed) = lowest placed

-- the extent is the lowest point of the last line, and the width that of the widest line, at least 0
abbrev pub page_of : Params → List Packed → Page
page_of params lines = record {
  lines = stacked params None lines;
  extent = extent_of (last_or None (stacked params None lines));
  width = fold int_max (pos 0) (map (λ (line : Packed). line.width) lines);
}

abbrev pub AnswersPage : Params → List Packed → Result Page StackFault → Type 0
AnswersPage params lines (Ok page) = (page ≡ page_of params lines) × (first_past params lines ≡ None)
AnswersPage params lines (Err (OutOfRange line)) = first_past params lines ≡ Some line
AnswersPage params lines (Err NoMemory) = ⊤

-- the same of the lines alone
abbrev pub AnswersLines : Params → List Packed → Result (Vec PageLine Global) StackFault → Type 0
AnswersLines params lines (Ok placed) =
    (placed.items ≡ stacked params None lines) × AllByRecursion (λ line. is_stackable line ≡ true) placed.items × (first_past params lines ≡ None)
AnswersLines params lines (Err (OutOfRange line)) = first_past params lines ≡ Some line
AnswersLines params lines (Err NoMemory) = ⊤
