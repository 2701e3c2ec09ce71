-- The lines of a list, set one after another.
--     line-good, line-bad     what the answer of one line says
--     next-line               one line more is set
--     still-good              none of one line more is refused
--     fault-of-lines          the fault of a line is that of all
--     lines-good              when no break is left the lines are all
--     answer-good             lines of which none is refused are the answer
use Rattle.std.proofs.Common.{◌≡◌, ◌⊎◌, inl, inr, ℕ, suc, ◌+◌, ◌<◌, refl, ap, sym, ◌∙◌, arith, add-one, drop-cons, Bool, true, false, cond, List, [], ◌∷◌, ◌++◌, append_assoc, append-nil, length, drop, Option, Some, None, Result, Ok, Err}
use Rattle.std.specs.Prelude.{slice_index_or}
use Rattle.std.specs.List.{position_from}
use Rattle.hlist_build.specs.declared.fault.ParFault.{ParFault}
use Rattle.hlist_build.specs.declared.fault.ParFault.TheVariants.{OutOfRange, NoMemory}
use Rattle.break_rule.specs.Fits.{Rule}
use Rattle.break_rule.specs.declared.line.From.{From}
use Rattle.break_rule.specs.declared.line.From.TheVariants.{After}
use Rattle.instance_core.specs.declared.page.Packed.{Packed}
use Rattle.para_workers.specs.SetPar.{first_refused, is_refused, line_in_range, lines_in_range, out_of_range_or, set_line_between, set_lines}

-- an answer is as wanted, or want of memory
abbrev pub Gives : (T : Type 0) → Result T ParFault → Result T ParFault → Type 0
Gives T answer wanted = (answer ≡ wanted) ⊎ (answer ≡ Err NoMemory)

-- ---- one line

pub line-good : (rule : Rule) (number : ℕ) (from : From) (to : ℕ) (line : Packed)
    → Gives Packed (Ok line) (line_in_range rule number from to)
    → (line ≡ set_line_between rule number from to) × (is_refused line ≡ false)
unfolding line_in_range
line-good rule number from to line (inr is) = absurd (cc)
line-good rule number from to line (inl is) = either (set_line_between rule number from to) (is_refused (set_line_between rule number from to)) refl is
  where
    either : (set : Packed) (refused : Bool) → is_refused set ≡ refused → Ok line ≡ cond refused (Err (OutOfRange number)) (Ok set)
        → (line ≡ set) × (is_refused line ≡ false)
    either set true known is = absurd (cc)
    either set false known is =
        let same : line ≡ set = cc in
        (same, ap is_refused same ∙ known)

pub line-bad : (rule : Rule) (number : ℕ) (from : From) (to : ℕ) (fault : ParFault)
    → Gives Packed (Err fault) (line_in_range rule number from to)
    → ((fault ≡ OutOfRange number) × (is_refused (set_line_between rule number from to) ≡ true)) ⊎ (fault ≡ NoMemory)
unfolding line_in_range
line-bad rule number from to fault (inr is) = inr (cc)
line-bad rule number from to fault (inl is) = inl (either (set_line_between rule number from to) (is_refused (set_line_between rule number from to)) refl is)
  where
    either : (set : Packed) (refused : Bool) → is_refused set ≡ refused → Err fault ≡ cond refused (Err (OutOfRange number)) (Ok set)
        → (fault ≡ OutOfRange number) × (is_refused set ≡ true)
    either set true known is = (cc, known)
    either set false known is = absurd (cc)

-- ---- the first that is refused

position-behind : {K : Type 0} (test : K → Bool) (start : ℕ) (xs ys : List K) → position_from test start xs ≡ None
    → position_from test start (xs ++ ys) ≡ position_from test (start + length xs) ys
position-behind test start [] ys none = ap (λ n. position_from test n ys) (omega arith)
position-behind test start (x ∷ xs) ys none =
    turn (test x) (position_from test (start + 1) xs) (position_from test (start + 1) (xs ++ ys)) (position_from test (start + length (x ∷ xs)) ys)
    (λ rest. position-behind test (start + 1) xs ys rest ∙ ap (λ n. position_from test n ys) (omega arith)) none
  where
    turn : (b : Bool) (rest all wanted : Option ℕ) → (rest ≡ None → all ≡ wanted) → cond b (Some start) rest ≡ None → cond b (Some start) all ≡ wanted
    turn true rest all wanted more is = absurd (cc)
    turn false rest all wanted more is = more is

pub still-good : (lines : List Packed) (line : Packed) → first_refused lines ≡ None → is_refused line ≡ false → first_refused (lines ++ line ∷ []) ≡ None
still-good lines line good fine =
    position-behind is_refused 1 lines (line ∷ []) good ∙ ap (λ b. cond b (Some (1 + length lines)) None) fine

refused-here : (lines rest : List Packed) (line : Packed) → first_refused lines ≡ None → is_refused line ≡ true
    → first_refused (lines ++ line ∷ rest) ≡ Some (1 + length lines)
refused-here lines rest line good refused =
    position-behind is_refused 1 lines (line ∷ rest) good
    ∙ ap (λ b. cond b (Some (1 + length lines)) (position_from is_refused (1 + length lines + 1) rest)) refused

-- ---- one line after another

pub next-break : (breaks : List ℕ) (index : ℕ) → index < length breaks → drop index breaks ≡ slice_index_or breaks index 0 ∷ drop (index + 1) breaks
next-break breaks index inside = rw add-one (drop-cons breaks index 0 inside)

-- the lines so far, and those to come
pub line-is : (rule : Rule) (index : ℕ) (from : From) (to : ℕ) (lines whole : List Packed) (breaks : List ℕ)
    → drop index breaks ≡ to ∷ drop (index + 1) breaks
    → lines ++ set_lines rule (index + 1) from (drop index breaks) ≡ whole
    → lines ++ set_line_between rule (index + 1) from to ∷ set_lines rule (index + 1 + 1) (After to) (drop (index + 1) breaks) ≡ whole
unfolding set_lines
line-is rule index from to lines whole breaks front all = ap (λ bs. lines ++ set_lines rule (index + 1) from bs) (sym front) ∙ all

pub next-line : (rule : Rule) (index : ℕ) (from : From) (to : ℕ) (lines whole : List Packed) (line : Packed) (breaks : List ℕ)
    → drop index breaks ≡ to ∷ drop (index + 1) breaks
    → lines ++ set_lines rule (index + 1) from (drop index breaks) ≡ whole
    → line ≡ set_line_between rule (index + 1) from to
    → (lines ++ line ∷ []) ++ set_lines rule (index + 1 + 1) (After to) (drop (index + 1) breaks) ≡ whole
next-line rule index from to lines whole line breaks front all is =
    append_assoc lines (line ∷ []) (set_lines rule (index + 1 + 1) (After to) (drop (index + 1) breaks))
    ∙ ap (λ l. lines ++ l ∷ set_lines rule (index + 1 + 1) (After to) (drop (index + 1) breaks)) is
    ∙ line-is rule index from to lines whole breaks front all

pub fault-of-lines : (rule : Rule) (index : ℕ) (from : From) (to : ℕ) (lines whole : List Packed) (breaks : List ℕ) (fault : ParFault)
    → drop index breaks ≡ to ∷ drop (index + 1) breaks
    → lines ++ set_lines rule (index + 1) from (drop index breaks) ≡ whole
    → length lines ≡ index → first_refused lines ≡ None
    → Gives Packed (Err fault) (line_in_range rule (index + 1) from to)
    → Gives (List Packed) (Err fault) (lines_in_range whole)
unfolding lines_in_range
fault-of-lines rule index from to lines whole breaks fault front all count good answer =
    either (line-bad rule (index + 1) from to fault answer)
  where
    rest : List Packed
    rest = set_lines rule (index + 1 + 1) (After to) (drop (index + 1) breaks)

    either : ((fault ≡ OutOfRange (index + 1)) × (is_refused (set_line_between rule (index + 1) from to) ≡ true)) ⊎ (fault ≡ NoMemory)
        → Gives (List Packed) (Err fault) (lines_in_range whole)
    either (inr none) = inr (ap (λ e. Err e) none)
    either (inl out) =
        let first : first_refused whole ≡ Some (index + 1) =
        ap first_refused (sym (line-is rule index from to lines whole breaks front all))
        ∙ refused-here lines rest (set_line_between rule (index + 1) from to) good out.1 ∙ ap (λ n. Some n) (omega (arith, count)) in
        inl (ap (λ e. Err e) out.0 ∙ sym (ap (λ o. out_of_range_or o (Ok whole)) first))

pub lines-good : (rule : Rule) (index : ℕ) (from : From) (lines whole : List Packed) (breaks : List ℕ)
    → drop index breaks ≡ []
    → lines ++ set_lines rule (index + 1) from (drop index breaks) ≡ whole
    → lines ≡ whole
unfolding set_lines
lines-good rule index from lines whole breaks none all =
    sym (append-nil lines) ∙ ap (λ bs. lines ++ set_lines rule (index + 1) from bs) (sym none) ∙ all

pub answer-good : (lines whole : List Packed) → lines ≡ whole → first_refused lines ≡ None → Ok lines ≡ lines_in_range whole
unfolding lines_in_range
answer-good lines whole same good =
    ap (λ l. Ok l) same ∙ sym (ap (λ o. out_of_range_or o (Ok whole)) (ap first_refused (sym same) ∙ good))

-- there are as many lines as breaks
pub count-lines : (rule : Rule) (number : ℕ) (from : From) (breaks : List ℕ) → length (set_lines rule number from breaks) ≡ length breaks
unfolding set_lines
count-lines rule number from [] = refl
count-lines rule number from (to ∷ breaks) = ap suc (count-lines rule (number + 1) (After to) breaks)
