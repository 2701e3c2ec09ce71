use Rattle.std.proofs.Common.{◌≡◌, ◌++◌, ◌∷◌, [], ℕ, List, All, sym, subst}
use Rattle.std.proofs.lemmas.List.Quantifiers.{all_pairs_push}
use Rattle.std.specs.Prelude.{◌≢◌}
use Rattle.outside_io.specs.Reading.{NamesDiffer}
use Rattle.conformance.proofs.documents.put_file.Goals as goal

-- a file whose name none of the others has
named_apart : (files all : List (List ℕ × List ℕ)) (name bytes : List ℕ)
    → NamesDiffer files → All (λ (file : List ℕ × List ℕ). file.0 ≢ name) files
    → all ≡ files ++ (name, bytes) ∷ [] → NamesDiffer all
named_apart files all name bytes differ apart is =
    subst NamesDiffer (sym is)
    (all_pairs_push (λ (file other : List ℕ × List ℕ). file.0 ≢ other.0) files (name, bytes) differ
    (λ k d within. apart k d within))

pub returns : goal.returns
returns c =
    let P : List ℕ → Type 0 = λ n. All (λ (file : List ℕ × List ℕ). file.0 ≢ n) c.args.files.now in
    named_apart c.args.files.now c.push.new.self c.args.name c.args.bytes c.requires
    (subst P c.as_slice-2.ensures
    (subst (λ files. All (λ (file : List ℕ × List ℕ). file.0 ≢ c.as_slice-2.result.now) files) c.as_slice.ensures
    (c.has_name.ensures c.if-has_name.false)))
    c.in_ok-push.ensures.ok
