-- One character more among those of the font.
--     more_characters
use Rattle.std.proofs.Common.{◌≡◌, ◌∙◌, ℕ, ◌+◌, ap, sym, List, [], ◌∷◌, ◌++◌, append_assoc, replicate}
use Rattle.std.specs.List.{concat}
use Rattle.std.proofs.lemmas.List.{replicate_more}
use Rattle.std.proofs.lemmas.List.Folds.{concat-append}
use Rattle.micro_words.specs.Fonts.{character}

pub more_characters : (front : List ℕ) (k : ℕ)
    → (front ++ concat (replicate k character)) ++ character ≡ front ++ concat (replicate (k + 1) character)
more_characters front k =
    append_assoc front (concat (replicate k character)) character
    ∙ ap (λ (bytes : List ℕ). front ++ bytes)
    (sym (concat-append (replicate k character) (character ∷ [])) ∙ ap concat (replicate_more k character))
