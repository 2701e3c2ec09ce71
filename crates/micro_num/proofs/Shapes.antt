-- The lines of a paragraph.
--     line_at-group     all lines of one group are alike: a line is that of its group's number
--     line_at-shape     a line of a shape is read at its place, or the shape's last
--     line_at-fits      the end of a line is within ±(2^31 - 1) sp
--     group_of-next     the group of the next line follows from the group of a line
use Rattle.std.proofs.Common.{◌≡◌, ℕ, ◌+◌, ◌-◌, ◌<◌, ◌≤◌, ◌^◌, min, refl, ap, sym, ◌∙◌, arith, ◌⊎◌, inl, inr, Bool, true, false, Option, Some, None, List, [], ◌∷◌, length, slice_index_or, All, ℤ, pos, ◌+ℤ◌, ◌-ℤ◌, ◌≤ℤ◌}
use Rattle.std.specs.Prelude.{int_lt, unsigned_abs, if◌then◌else◌}
use Rattle.std.specs.Int.{int_max}
use Rattle.std.proofs.lemmas.Bool.{cases_lt}
use Rattle.std.proofs.lemmas.List.{get_or_default}
use Rattle.std.proofs.lemmas.List.Elements.{All-get_or}
use Rattle.std.specs.Ordering.{int_eq}
use Rattle.std.proofs.lemmas.Bool.Decides.{nat_tests, Decides-int_eq}
use Rattle.std.proofs.lemmas.Int.{ints}
use Rattle.micro_num.specs.declared.params.Params.{Params}
use Rattle.micro_num.specs.declared.shape.ShapeLine.{ShapeLine}
use Rattle.micro_num.specs.Shape.{IsShapeLine, hangs, hung_line, line_at, last_special, open_group, at_most, group_of}

at_most-next : (most : Option ℕ) (n : ℕ) → at_most most (n + 1) ≡ at_most most (at_most most n + 1)
at_most-next None n = refl
at_most-next (Some most) n = omega arith

-- the group of the next line follows from the group of a line
pub group_of-next : (params : Params) (shape : List ShapeLine) (line : ℕ)
    → group_of params shape (line + 1) ≡ at_most (open_group params shape) (group_of params shape line + 1)
unfolding group_of
group_of-next params shape line = at_most-next (open_group params shape) line

-- all lines past the last special one hang alike
hangs-alike : (params : Params) (line : ℕ) → unsigned_abs params.hangafter < line
    → hangs params line ≡ hangs params (unsigned_abs params.hangafter + 1)
hangs-alike params line past = grind (arith, nat_tests)

hung_line-alike : (params : Params) (line : ℕ) → unsigned_abs params.hangafter < line
    → hung_line params line ≡ hung_line params (unsigned_abs params.hangafter + 1)
unfolding hung_line
hung_line-alike params line past = rw (hangs-alike params line past) refl

minus_none : (n : ℤ) → n -ℤ pos 0 ≡ n
minus_none n = omega (arith, ints)

either : Bool → ℤ → ℤ → ShapeLine
either b h hsize = if b then (record { indent = int_max h (pos 0); width = hsize -ℤ pos (unsigned_abs h) }) else (record { indent = pos 0; width = hsize })

not_hung : (h hsize : ℤ) → h ≡ pos 0 → (b : Bool) → either b h hsize ≡ record { indent = pos 0; width = hsize }
unfolding either
not_hung h hsize none true = rw none (λ i. record { indent = pos 0; width = minus_none hsize i })
not_hung h hsize none false = refl

none_hangs : (params : Params) (line : ℕ) → params.hangindent ≡ pos 0 → hung_line params line ≡ record { indent = pos 0; width = params.hsize }
unfolding hung_line either
none_hangs params line none =
    let by : (b : Bool) → either b params.hangindent params.hsize ≡ record { indent = pos 0; width = params.hsize } = not_hung params.hangindent params.hsize none in
    by (hangs params line)

hung_line-capped : (params : Params) (line : ℕ) (b : Bool) → int_eq params.hangindent (pos 0) ≡ b
    → hung_line params (min line ((if b then 0 else unsigned_abs params.hangafter) + 1)) ≡ hung_line params line
hung_line-capped params line true none =
    let is_zero : params.hangindent ≡ pos 0 = (Decides-int_eq _ _).0 none in
    none_hangs params _ is_zero ∙ sym (none_hangs params line is_zero)
hung_line-capped params line false some =
    elim (cases_lt (unsigned_abs params.hangafter) line) [
      | inl past ↦ (let cap : min line (unsigned_abs params.hangafter + 1) ≡ unsigned_abs params.hangafter + 1 = omega arith in ap (hung_line params) cap ∙ sym (hung_line-alike params line past))
      | inr near ↦ (let same : min line (unsigned_abs params.hangafter + 1) ≡ line = omega arith in ap (hung_line params) same)
    ]

-- a line of a shape is the one at its place, or the shape's last
pub line_at-shape : (params : Params) (shape : List ShapeLine) (line place : ℕ) (other : ShapeLine)
    → 0 < length shape → 1 ≤ line → place ≡ min line (length shape) - 1
    → slice_index_or shape place other ≡ line_at params shape line
unfolding line_at
line_at-shape params [] line place other some positive is_place = absurd (omega arith)
line_at-shape params (first ∷ lines) line place other some positive is_place =
    let inside : place < length (first ∷ lines) = omega arith in
    rw (← is_place) (get_or_default (first ∷ lines) place other first inside)

-- a line past the last special one is like the first past it
line_at-capped : (params : Params) (shape : List ShapeLine) (line : ℕ)
    → line_at params shape (min line (last_special params shape + 1)) ≡ line_at params shape line
unfolding line_at last_special
line_at-capped params [] line = hung_line-capped params line (int_eq params.hangindent (pos 0)) refl
line_at-capped params (first ∷ lines) line =
    let same : min (min line (length lines + 1)) (length (first ∷ lines)) - 1 ≡ min line (length (first ∷ lines)) - 1 = omega arith in
    ap (λ place. slice_index_or (first ∷ lines) place first) same

-- all lines of one group are alike: each is the line of its group's number
pub line_at-group : (params : Params) (shape : List ShapeLine) (line : ℕ) → line_at params shape (group_of params shape line) ≡ line_at params shape line
unfolding group_of open_group
line_at-group params shape line =
    elim (int_eq params.looseness (pos 0)) as (λ b. line_at params shape (at_most (if b then Some (last_special params shape + 1) else None) line) ≡ line_at params shape line)
    [ true ↦ line_at-capped params shape line | false ↦ refl ]

-- where the settings and the shape are as a job may ask, so is each line, and its end is within ±(2^31 - 1) sp
pub record LineFits (line : ShapeLine) : Type 0 where
  pub width : unsigned_abs line.width < 2 ^ 31
  pub end : unsigned_abs (line.indent +ℤ line.width) < 2 ^ 31

greater_by : (h : ℤ) (b : Bool) → int_lt (pos 0) h ≡ b → ((int_max h (pos 0) ≡ h) × (pos 0 ≤ℤ h)) ⊎ (int_max h (pos 0) ≡ pos 0)
greater_by h true above = inl (rw above refl, grind (arith, ints))
greater_by h false below = inr (rw below refl)

greater_of : (h : ℤ) → ((int_max h (pos 0) ≡ h) × (pos 0 ≤ℤ h)) ⊎ (int_max h (pos 0) ≡ pos 0)
greater_of h = greater_by h (int_lt (pos 0) h) refl

end_of : (h hsize indent : ℤ) → ((indent ≡ h) × (pos 0 ≤ℤ h)) ⊎ (indent ≡ pos 0) → unsigned_abs hsize < 2 ^ 30 → unsigned_abs h < 2 ^ 30
    → unsigned_abs (indent +ℤ (hsize -ℤ pos (unsigned_abs h))) < 2 ^ 31
end_of h hsize indent (inl (is_h, above)) small near = omega (arith, ints)
end_of h hsize indent (inr is_none) small near = omega (arith, ints)

hung_line-fits : (h hsize : ℤ) (b : Bool) → unsigned_abs hsize < 2 ^ 30 → unsigned_abs h < 2 ^ 30 → LineFits (either b h hsize)
unfolding either
hung_line-fits h hsize true small near = record { width = omega (arith, ints); end = end_of h hsize _ (greater_of h) small near }
hung_line-fits h hsize false small near = record { width = omega (arith, ints); end = omega (arith, ints) }

pub line_at-fits : (params : Params) (shape : List ShapeLine) (line : ℕ)
    → unsigned_abs params.hsize < 2 ^ 30 → unsigned_abs params.hangindent < 2 ^ 30 → All IsShapeLine shape
    → LineFits (line_at params shape line)
unfolding line_at hung_line either
line_at-fits params [] line small near fit = hung_line-fits params.hangindent params.hsize (hangs params line) small near
line_at-fits params (first ∷ lines) line small near fit =
    let place : min line (length (first ∷ lines)) - 1 < length (first ∷ lines) = omega arith in
    let one : IsShapeLine (slice_index_or (first ∷ lines) (min line (length (first ∷ lines)) - 1) first) = All-get_or IsShapeLine (first ∷ lines) _ first place fit in
    record { width = omega (arith, one.width); end = omega (arith, ints, one.indent, one.width) }
