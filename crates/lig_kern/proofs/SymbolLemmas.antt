-- Lists of symbols and their glyphs.
use Rattle.std.proofs.Common.{◌≡◌, ℕ, ◌+◌, ◌<◌, List, ◌∷◌, ◌++◌, length, get_or, take, drop, refl, ap, sym, ◌∙◌, append_assoc, add-one, drop-cons}
use Rattle.std.proofs.Math.Seq.{take-add, drop-drop}
use Rattle.std.proofs.lemmas.List.Elements.{filter_map-append}
use Rattle.lig_kern.specs.Running.{code_symbols, character_at}
use Rattle.lig_kern.specs.Symbols.{glyph_of, glyphs_of}
use Rattle.lig_kern.specs.declared.glyph.Glyph.{Glyph}
use Rattle.lig_kern.specs.declared.symbols.Symbol.{Symbol}

pub glyphs_of-append : (xs ys : List Symbol) → glyphs_of (xs ++ ys) ≡ glyphs_of xs ++ glyphs_of ys
glyphs_of-append xs ys = filter_map-append glyph_of xs ys

-- to pass over one symbol and then over others
pub pass-more : (done : List Glyph) (ahead : List Symbol) (left more : ℕ) → left ≡ 1 + more
    → (done ++ glyphs_of (take 1 ahead)) ++ glyphs_of (take more (drop 1 ahead)) ≡ done ++ glyphs_of (take left ahead)
pass-more done ahead left more e =
    append_assoc done (glyphs_of (take 1 ahead)) (glyphs_of (take more (drop 1 ahead)))
    ∙ ap (λ (l : List Glyph). done ++ l)
    (sym (glyphs_of-append (take 1 ahead) (take more (drop 1 ahead)))
    ∙ ap glyphs_of (sym (take-add 1 more ahead) ∙ ap (λ (n : ℕ). take n ahead) (sym e)))

pub drop-more : (ahead : List Symbol) (left more : ℕ) → left ≡ 1 + more → drop more (drop 1 ahead) ≡ drop left ahead
drop-more ahead left more e = drop-drop more 1 ahead ∙ ap (λ (n : ℕ). drop n ahead) (sym e)

-- the symbols of the codes from a place on begin with that of the code there
pub code_symbols-at : (codes : List ℕ) (others : List Symbol) (at after : ℕ) → after ≡ at + 1 → at < length codes
    → code_symbols at (drop at codes) others
    ≡ character_at (get_or codes at 0) at ∷ code_symbols after (drop after codes) others
code_symbols-at codes others at after e below =
    rw (e, add-one, drop-cons codes at 0 below, add-one) refl
