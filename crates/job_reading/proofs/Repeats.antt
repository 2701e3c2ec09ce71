-- One turn of a loop that reads one thing after another, and its end.
use Rattle.std.proofs.Common.{◌≡◌, ℕ, zero, suc, ◌-◌, ◌<◌, ◌≤◌, Bool, true, false, cond, List, [], ◌∷◌, length, Result, Ok, Err, refl, sym, ap, ◌∙◌, arith}
use Rattle.job_reading.specs.declared.token.Token.{Token}
use Rattle.job_reading.specs.declared.token.Lexeme.{Lexeme}
use Rattle.job_reading.specs.declared.fault.Fault.{Fault}
use Rattle.job_reading.specs.declared.fault.JobFault.{JobFault}
use Rattle.job_reading.specs.declared.fault.JobFault.TheVariants.{At, NoMemory}
use Rattle.job_reading.specs.Reading.{Reading, ◌>>=◌, IsFaultOf}
use Rattle.job_reading.specs.Repeats.{repeat, GoesOn, goes_on_from, times}

-- a token that doesn't stop the loop is stepped at
record Turn {A : Type 0} (stops : Lexeme → Bool) (step : A → Token → List Token → Reading A) (fuel : ℕ) (state : A) (left : List Token) (tok : Token) (tail : List Token) : Type 0 where
  less : ℕ
  enough : length tail ≤ less
  is : repeat stops step fuel state left ≡ (step state tok tail >>= λ x. repeat stops step less x.0 x.1)

turn : {A : Type 0} (stops : Lexeme → Bool) (step : A → Token → List Token → Reading A) (fuel : ℕ) (state : A) (left : List Token) (tok : Token) (tail : List Token) → left ≡ tok ∷ tail → length left ≤ fuel → stops tok.lexeme ≡ false → Turn stops step fuel state left tok tail
turn stops step zero state left tok tail begins enough goes_on = absurd (omega (arith, ap length begins))
turn stops step (suc fuel) state left tok tail begins enough goes_on = record {
  less = fuel;
  enough = omega (arith, ap length begins);
  is = ap (repeat stops step (suc fuel) state) begins ∙ ap (λ b. cond b (Ok (state, tok ∷ tail)) (step state tok tail >>= λ x. repeat stops step fuel x.0 x.1)) goes_on;
}

pub repeat_goes : {A : Type 0} (stops : Lexeme → Bool) (step : A → Token → List Token → Reading A) (state : A) (left : List Token) (tok : Token) (tail : List Token) (next : A) (behind : List Token) (whole : Reading A) → GoesOn stops step state left whole → left ≡ tok ∷ tail → stops tok.lexeme ≡ false → step state tok tail ≡ Ok (next, behind) → length behind ≤ length tail → GoesOn stops step next behind whole
repeat_goes stops step state left tok tail next behind whole (goes_on_from fuel enough is) begins goes_on read shorter =
    let one = turn stops step fuel state left tok tail begins enough goes_on in
    goes_on_from one.less (omega (arith, one.enough)) (ap (λ r. r >>= λ x. repeat stops step one.less x.0 x.1) (sym read) ∙ sym one.is ∙ is)

pub repeat_fails : {A : Type 0} (stops : Lexeme → Bool) (step : A → Token → List Token → Reading A) (state : A) (left : List Token) (tok : Token) (tail : List Token) (fault : Fault) (whole : Reading A) → GoesOn stops step state left whole → left ≡ tok ∷ tail → stops tok.lexeme ≡ false → step state tok tail ≡ Err fault → whole ≡ Err fault
repeat_fails stops step state left tok tail fault whole (goes_on_from fuel enough is) begins goes_on read =
    let one = turn stops step fuel state left tok tail begins enough goes_on in
    sym is ∙ one.is ∙ ap (λ r. r >>= λ x. repeat stops step one.less x.0 x.1) read

none_left : {A : Type 0} (stops : Lexeme → Bool) (step : A → Token → List Token → Reading A) (fuel : ℕ) (state : A) → repeat stops step fuel state [] ≡ Ok (state, [])
none_left stops step zero state = refl
none_left stops step (suc fuel) state = refl

pub repeat_ends : {A : Type 0} (stops : Lexeme → Bool) (step : A → Token → List Token → Reading A) (state : A) (left : List Token) (whole : Reading A) → GoesOn stops step state left whole → left ≡ [] → whole ≡ Ok (state, left)
repeat_ends stops step state left whole (goes_on_from fuel enough is) ends =
    sym is ∙ ap (repeat stops step fuel state) ends ∙ none_left stops step fuel state ∙ ap (λ (toks : List Token). Ok (state, toks)) (sym ends)

pub repeat_stops : {A : Type 0} (stops : Lexeme → Bool) (step : A → Token → List Token → Reading A) (state : A) (left : List Token) (tok : Token) (tail : List Token) (whole : Reading A) → GoesOn stops step state left whole → left ≡ tok ∷ tail → stops tok.lexeme ≡ true → whole ≡ Ok (state, left)
repeat_stops stops step state left tok tail whole (goes_on_from zero enough is) begins stop = absurd (omega (arith, ap length begins))
repeat_stops stops step state left tok tail whole (goes_on_from (suc fuel) enough is) begins stop =
    sym is ∙ ap (repeat stops step (suc fuel) state) begins ∙ ap (λ b. cond b (Ok (state, tok ∷ tail)) (step state tok tail >>= λ x. repeat stops step fuel x.0 x.1)) stop ∙ ap (λ (toks : List Token). Ok (state, toks)) (sym begins)

-- one of so many turns
pub times_goes : {A : Type 0} (step : A → List Token → Reading A) (count : ℕ) (state : A) (toks : List Token) (next : A) (behind : List Token) → 0 < count → step state toks ≡ Ok (next, behind) → times (count - 1) step next behind ≡ times count step state toks
times_goes step zero state toks next behind some read = absurd (omega arith)
times_goes step (suc count) state toks next behind some read =
    ap (λ (n : ℕ). times n step next behind) (let same : suc count - 1 ≡ count = omega arith in same)
    ∙ ap (λ r. r >>= λ x. times count step x.0 x.1) (sym read)

pub times_fails : {A : Type 0} (step : A → List Token → Reading A) (count : ℕ) (state : A) (toks : List Token) (fault : Fault) → 0 < count → step state toks ≡ Err fault → times count step state toks ≡ Err fault
times_fails step zero state toks fault some read = absurd (omega arith)
times_fails step (suc count) state toks fault some read = ap (λ r. r >>= λ x. times count step x.0 x.1) read

-- a call's fault is passed on where it is the fault of the whole; want of memory is passed on as it is
pub pass_on : {Y W : Type 0} (e : JobFault) (reading : Result Y Fault) (whole : Result W Fault) → IsFaultOf e reading → ((fault : Fault) → reading ≡ Err fault → whole ≡ Err fault) → IsFaultOf e whole
pass_on (At offset kind) reading whole given passes = passes (record { offset = offset; kind = kind }) given
pass_on NoMemory reading whole given passes = tt
