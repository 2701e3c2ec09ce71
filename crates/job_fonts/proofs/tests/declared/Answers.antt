use Rattle.std.proofs.Common.{◌≡◌, ℕ, Bool, true, false, ◌&&◌, refl, arith, List, [], ◌∷◌, sym, subst, All}
use Rattle.std.proofs.lemmas.List.Elements.{All-cons, All-nil}
use Rattle.job_text.specs.Fits.{IsFileName, is_file_byte}
use Rattle.job_fonts.proofs.tests.declared.Goals as goal

abbrev are_file_bytes : List ℕ → Bool
are_file_bytes [] = true
are_file_bytes (code ∷ codes) = is_file_byte code && are_file_bytes codes

both : (a b : Bool) → (a && b) ≡ true → (a ≡ true) × (b ≡ true)
both true b e = (refl, e)
both false b e = absurd cc

each : (codes : List ℕ) → are_file_bytes codes ≡ true → All (λ code. is_file_byte code ≡ true) codes
each [] e = All-nil (λ code. is_file_byte code ≡ true)
each (code ∷ codes) e =
    let parts = both (is_file_byte code) (are_file_bytes codes) e in
    All-cons (λ code. is_file_byte code ≡ true) code codes parts.0 (each codes parts.1)

is_name : IsFileName (116 ∷ 105 ∷ 110 ∷ 121 ∷ 49 ∷ 48 ∷ [])
is_name = record {
  some = omega arith;
  short = omega arith;
  bytes = each (116 ∷ 105 ∷ 110 ∷ 121 ∷ 49 ∷ 48 ∷ []) refl;
}

pub returns-clause-name : goal.returns-clause-name
returns-clause-name c = subst IsFileName (sym c.in_ok-from_slice.ensures) is_name
