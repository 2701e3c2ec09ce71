-- Reading one thing after another. This is the crate's own.
use Rattle.std.specs.Prelude.{◌≡◌, ◌≤◌, ℕ, zero, suc, Bool, List, [], ◌∷◌, length, Ok, if◌then◌else◌}
use Rattle.job_reading.specs.declared.token.Token.{Token}
use Rattle.job_reading.specs.declared.token.Lexeme.{Lexeme}
use Rattle.job_reading.specs.Reading.{Reading, ◌>>=◌}

-- The rule step is carried out at one token after another, each time with what was read so far, up to a
-- token that stops it or to the end of the file. As each step takes a token, fuel for each token suffices.
abbrev pub repeat : {A : Type 0} → (Lexeme → Bool) → (A → Token → List Token → Reading A) → ℕ → A → List Token → Reading A
repeat stops step zero state toks = Ok (state, toks)
repeat stops step (suc fuel) state [] = Ok (state, [])
repeat stops step (suc fuel) state (tok ∷ toks) =
    if stops tok.lexeme then Ok (state, tok ∷ toks)
    else (step state tok toks >>= λ x. repeat stops step fuel x.0 x.1)

-- as far as such a token, or to the end of the file
abbrev pub read_until : {A : Type 0} → (Lexeme → Bool) → (A → Token → List Token → Reading A) → A → List Token → Reading A
read_until stops step state toks = repeat stops step (length toks) state toks

-- What the whole reads is what is read from here on, with what was read so far.
pub data GoesOn {A : Type 0} (stops : Lexeme → Bool) (step : A → Token → List Token → Reading A) (state : A) (left : List Token) (whole : Reading A) : Type 0 where
  goes_on_from : (fuel : ℕ) → length left ≤ fuel → repeat stops step fuel state left ≡ whole → GoesOn stops step state left whole

-- The rule step is carried out so many times.
abbrev pub times : {A : Type 0} → ℕ → (A → List Token → Reading A) → A → List Token → Reading A
times zero step state toks = Ok (state, toks)
times (suc count) step state toks = step state toks >>= λ x. times count step x.0 x.1
