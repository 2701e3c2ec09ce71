-- The first byte is at least 1, so what `parse` reads has no plus and no leading zero.
use Rattle.std.proofs.Common.{◌≡◌, ◌∙◌, sym, ap, arith, ◌≤◌, ◌<◌, ◌^◌, List, ℕ}
use Rattle.std.specs.Prelude.{slice_get, Some, None}
use Rattle.std.specs.Str.Parse.{IsNumeral, digits_value, without_leading_plus}
use Rattle.micro_words.proofs.Numerals.{no_first, low_first, read, unread}
use Rattle.micro_words.proofs.numeral.number_up_to.Goals as goal

pub returns-in_err-first : goal.returns-in_err-first
returns-in_err-first c =
    let none : slice_get c.args.text.now 0 ≡ None
    = ap (λ (text : List ℕ). slice_get text 0) (sym c.as_bytes.ensures.value) ∙ sym c.in_err-first.ensures.value in
    c.from_residual.ensures ∙ no_first c.args.most c.args.text.now none

pub returns-then-first-lt-LEAST_FIRST : goal.returns-then-first-lt-LEAST_FIRST
returns-then-first-lt-LEAST_FIRST c =
    let is : slice_get c.args.text.now 0 ≡ Some c.in_ok-first.field-0.now
    = ap (λ (text : List ℕ). slice_get text 0) (sym c.as_bytes.ensures.value) ∙ sym c.in_ok-first.ensures.value in
    low_first c.args.most c.in_ok-first.field-0.now c.args.text.now is c.if-first-lt-LEAST_FIRST.true

pub returns-in-Ok : goal.returns-in-Ok
returns-in-Ok c =
    let is : slice_get c.args.text.now 0 ≡ Some c.in_ok-first.field-0.now
    = ap (λ (text : List ℕ). slice_get text 0) (sym c.as_bytes.ensures.value) ∙ sym c.in_ok-first.ensures.value in
    let le : 49 ≤ c.in_ok-first.field-0.now = omega arith in
    let numeral : IsNumeral 10 (without_leading_plus c.args.text.now) = c.in-Ok.ensures.value.0.0.0 in
    let value : digits_value 10 (without_leading_plus c.args.text.now) ≡ c.in-Ok.number = sym c.in-Ok.ensures.value.0.1 in
    c.up_to.ensures ∙ read c.args.most c.in_ok-first.field-0.now c.in-Ok.number c.args.text.now is le numeral value

pub returns-in-Err : goal.returns-in-Err
returns-in-Err c =
    let is : slice_get c.args.text.now 0 ≡ Some c.in_ok-first.field-0.now
    = ap (λ (text : List ℕ). slice_get text 0) (sym c.as_bytes.ensures.value) ∙ sym c.in_ok-first.ensures.value in
    let le : 49 ≤ c.in_ok-first.field-0.now = omega arith in
    let few : c.args.most < 2 ^ 32 = omega arith in
    let never : IsNumeral 10 (without_leading_plus c.args.text.now)
    × (digits_value 10 (without_leading_plus c.args.text.now) < 2 ^ 32) → ⊥ = c.in-Err.ensures.value.0 in
    unread c.args.most c.in_ok-first.field-0.now c.args.text.now few is le never
