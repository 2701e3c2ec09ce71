-- What is true of whatever a rule reads.
use Rattle.std.proofs.Common.{◌≡◌, ℕ, zero, suc, Bool, true, false, cond, List, [], ◌∷◌, Result, Ok, Err, refl, subst}
use Rattle.job_reading.specs.declared.token.Token.{Token}
use Rattle.job_reading.specs.declared.token.Lexeme.{Lexeme}
use Rattle.job_reading.specs.declared.fault.Fault.{Fault}
use Rattle.job_reading.specs.Reading.{Reading, ◌>>=◌}
use Rattle.job_reading.specs.Repeats.{repeat}

-- P of the value that is read
abbrev pub OnRead : {A : Type 0} → (A → Type 0) → Reading A → Type 0
OnRead P (Ok x) = P x.0
OnRead P (Err e) = Unit {0}

-- whatever the first rule reads, the second keeps P
pub OnRead-bind : {A B : Type 0} (P : B → Type 0) (r : Result A Fault) (f : A → Reading B) → ((a : A) → OnRead P (f a)) → OnRead P (r >>= f)
OnRead-bind P (Ok x) f keeps = keeps x
OnRead-bind P (Err e) f keeps = tt

-- the second rule keeps Q of what the first reads with P
pub OnRead-then : {A B : Type 0} (P : A → Type 0) (Q : B → Type 0) (r : Reading A) (f : A × List Token → Reading B) → OnRead P r → ((x : A × List Token) → P x.0 → OnRead Q (f x)) → OnRead Q (r >>= f)
OnRead-then P Q (Ok x) f holds keeps = keeps x holds
OnRead-then P Q (Err e) f holds keeps = tt

pub OnRead-cond : {A : Type 0} (P : A → Type 0) (b : Bool) (x y : Reading A) → OnRead P x → OnRead P y → OnRead P (cond b x y)
OnRead-cond P true x y one other = one
OnRead-cond P false x y one other = other

-- each rule is read under what the condition says
pub OnRead-if : {A : Type 0} (P : A → Type 0) (b : Bool) (x y : Reading A) → (b ≡ true → OnRead P x) → (b ≡ false → OnRead P y) → OnRead P (cond b x y)
OnRead-if P true x y one other = one refl
OnRead-if P false x y one other = other refl

-- a loop keeps what each of its steps keeps
pub OnRead-repeat : {A : Type 0} (P : A → Type 0) (stops : Lexeme → Bool) (step : A → Token → List Token → Reading A) → ((s : A) (tok : Token) (toks : List Token) → P s → OnRead P (step s tok toks)) → (fuel : ℕ) (s : A) (toks : List Token) → P s → OnRead P (repeat stops step fuel s toks)
OnRead-repeat P stops step keeps zero s toks holds = holds
OnRead-repeat P stops step keeps (suc fuel) s [] holds = holds
OnRead-repeat P stops step keeps (suc fuel) s (tok ∷ toks) holds =
    OnRead-cond P (stops tok.lexeme) (Ok (s, tok ∷ toks)) (step s tok toks >>= λ x. repeat stops step fuel x.0 x.1) holds
    (OnRead-then P P (step s tok toks) (λ x. repeat stops step fuel x.0 x.1) (keeps s tok toks holds) (λ x h. OnRead-repeat P stops step keeps fuel x.0 x.1 h))

-- what was read has P
pub OnRead-of : {A : Type 0} (P : A → Type 0) (r : Reading A) (x : A) (rest : List Token) → OnRead P r → r ≡ Ok (x, rest) → P x
OnRead-of P r x rest holds is = subst (OnRead P) is holds
