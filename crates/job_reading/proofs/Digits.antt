-- Digits at the front: their value up to a limit, and how many tokens stand behind them.
use Rattle.std.proofs.Common.{◌≡◌, ℕ, suc, take, append_assoc, ◌++◌, ◌-◌, ◌+◌, ◌*◌, ◌^◌, ◌<◌, ◌≤◌, true, false, cond, List, [], ◌∷◌, length, sym, ap, ◌∙◌, subst, arith}
use Rattle.std.specs.Prelude.{min, All}
use Rattle.std.proofs.Math.ListN.{set}
use Rattle.std.proofs.lemmas.List.{take_more_set}
use Rattle.std.proofs.lemmas.List.Elements.{All-push}
use Rattle.micro_num.specs.Decimals.{IsDigit, halves_of, decimal_fraction}
use Rattle.job_reading.specs.declared.token.Token.{Token}
use Rattle.job_reading.specs.Lexemes.{is_digit, digit_value}
use Rattle.job_reading.specs.Lengths.{begins_with_digit}
use Rattle.job_reading.specs.Numbers.{digits, decimal_from, behind_digits}

-- a value past the limit stays past it, whatever digits follow
decimal_from-min : (limit value : ℕ) (more : List ℕ) → min (decimal_from (min value limit) more) limit ≡ min (decimal_from value more) limit
decimal_from-min limit value [] = omega arith
decimal_from-min limit value (digit ∷ more) =
    sym (decimal_from-min limit (10 * min value limit + digit) more)
    ∙ ap (λ (n : ℕ). min (decimal_from n more) limit) (let same : min (10 * min value limit + digit) limit ≡ min (10 * value + digit) limit = omega arith in same)
    ∙ decimal_from-min limit (10 * value + digit) more

pub decimal_from-capped : (capped value digit : ℕ) (more : List ℕ) → capped ≡ min (10 * value + digit) (2 ^ 31) → min (decimal_from capped more) (2 ^ 31) ≡ min (decimal_from value (digit ∷ more)) (2 ^ 31)
decimal_from-capped capped value digit more is = ap (λ (n : ℕ). min (decimal_from n more) (2 ^ 31)) is ∙ decimal_from-min (2 ^ 31) (10 * value + digit) more

pub behind_digits_within : (toks : List Token) → length (behind_digits toks) ≤ length toks
behind_digits_within [] = omega arith
behind_digits_within (tok ∷ toks) = elim (is_digit tok.lexeme) as (λ b. length (cond b (behind_digits toks) (tok ∷ toks)) ≤ length (tok ∷ toks)) [ true ↦ omega (arith, behind_digits_within toks) | false ↦ omega arith ]

-- one more digit goes to the end of those kept
pub decimals_step : (kept : List ℕ) (count digit : ℕ) (more : List ℕ) → length kept ≡ 17 → count < 17 → take (count + 1) (set kept count digit) ++ take (17 - (count + 1)) more ≡ take count kept ++ take (17 - count) (digit ∷ more)
decimals_step kept count digit more room less =
    let inside : count < length kept = omega arith in
    let one_more : 17 - count ≡ suc (17 - (count + 1)) = omega arith in
    ap (λ (front : List ℕ). front ++ take (17 - (count + 1)) more) (take_more_set kept count digit inside)
    ∙ append_assoc (take count kept) (digit ∷ []) (take (17 - (count + 1)) more)
    ∙ ap (λ (n : ℕ). take count kept ++ take n (digit ∷ more)) (sym one_more)

pub decimals_are_digits : (kept : List ℕ) (count digit : ℕ) → count < length kept → digit < 10 → All IsDigit (take count kept) → All IsDigit (take (count + 1) (set kept count digit))
decimals_are_digits kept count digit inside small all = subst (All IsDigit) (sym (take_more_set kept count digit inside)) (All-push IsDigit (take count kept) digit all small)

-- the digits of a list that begins with one
pub digits-cons : (toks : List Token) (tok : Token) (tail : List Token) (digit : ℕ) → toks ≡ tok ∷ tail → is_digit tok.lexeme ≡ true → digit ≡ digit_value tok.lexeme → digits toks ≡ digit ∷ digits tail
digits-cons toks tok tail digit is begins value =
    ap digits is ∙ ap (λ b. cond b (digit_value tok.lexeme ∷ digits tail) []) begins ∙ ap (λ (d : ℕ). d ∷ digits tail) (sym value)

pub behind_digits-cons : (toks : List Token) (tok : Token) (tail : List Token) → toks ≡ tok ∷ tail → is_digit tok.lexeme ≡ true → behind_digits toks ≡ behind_digits tail
behind_digits-cons toks tok tail is begins = ap behind_digits is ∙ ap (λ b. cond b (behind_digits tail) (tok ∷ tail)) begins

-- where a digit stands at the front, fewer tokens stand behind the digits
pub behind_digits_shorter : (toks : List Token) → begins_with_digit toks ≡ true → length (behind_digits toks) < length toks
behind_digits_shorter [] begins = cc
behind_digits_shorter (tok ∷ toks) begins = rw begins (omega (arith, behind_digits_within toks))

halves_small : (ds : List ℕ) → All IsDigit ds → halves_of ds < 131072
halves_small [] all = omega arith
halves_small (d ∷ ds) all =
    let first : d < 10 = all 0 0 (omega arith) in
    let rest : halves_of ds < 131072 = halves_small ds (λ k e inside. all (suc k) e (omega arith)) in
    omega arith

-- a decimal fraction is at most 1
pub decimal_fraction_small : (ds : List ℕ) → All IsDigit ds → decimal_fraction ds ≤ 65536
decimal_fraction_small ds all = omega (arith, halves_small ds all)

pub ruleset digit_rules = (decimal_from-capped, behind_digits_within, behind_digits_shorter)
