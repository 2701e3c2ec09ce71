-- Each turn puts one more character.
use Rattle.std.proofs.Common.{◌≡◌, ◌∙◌, ◌++◌, ap, sym, append_assoc, arith, replicate, List, ℕ}
use Rattle.std.specs.List.{concat}
use Rattle.micro_words.specs.Fonts.{lengths, header, character, dimensions, parameters, tiny10}
use Rattle.micro_words.proofs.Fonts.{more_characters}
use Rattle.micro_words.proofs.font.gen_font.Goals as goal

pub loop-character-preserved : goal.loop-character-preserved
loop-character-preserved c =
    let k = c.loop-character._character in
    c.in_ok-extend_from_slice-2.ensures.items
    ∙ ap (λ (bytes : List ℕ). bytes ++ character) c.loop-character.invariant
    ∙ more_characters (lengths ++ header) k

pub returns : goal.returns
unfolding tiny10
returns c =
    let all : c.loop-character._character ≡ 94 = omega arith in
    c.in_ok-extend_from_slice-3.ensures.items
    ∙ ap (λ (bytes : List ℕ). bytes ++ (dimensions ++ parameters)) c.loop-character.invariant
    ∙ ap (λ (k : ℕ). lengths ++ header ++ concat (replicate k character) ++ (dimensions ++ parameters)) all
    ∙ sym (append_assoc (lengths ++ header ++ concat (replicate 94 character)) dimensions parameters)
