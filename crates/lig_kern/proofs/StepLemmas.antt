-- One step more in what is reached.
use Rattle.std.proofs.Common.{◌≡◌, ℕ, ◌+◌, List, ◌∷◌, ◌++◌, sym, ap, ◌∙◌}
use Rattle.tfm_read.specs.declared.tfm.Tfm.{Tfm}
use Rattle.lig_kern.specs.Rewriting.{move_at, Reached, goes_on}
use Rattle.lig_kern.specs.Symbols.{glyphs_of}
use Rattle.lig_kern.specs.declared.glyph.Glyph.{Glyph}
use Rattle.lig_kern.specs.declared.symbols.Symbol.{Symbol}
use Rattle.lig_kern.proofs.SymbolLemmas.{glyphs_of-append}

pub reached-on : (tfm : Tfm) (start : List Symbol) (acted : ℕ) (before ahead : List Symbol) (current : Symbol) (rest : List Symbol)
    (acts : ℕ) (new : List Symbol) → Reached tfm start acted before ahead → ahead ≡ current ∷ rest
    → acts ≡ (move_at tfm current rest).acts → new ≡ (move_at tfm current rest).ahead
    → Reached tfm start (acted + acts) (before ++ (move_at tfm current rest).passed) new
reached-on tfm start acted before ahead current rest acts new r split e f =
    rw (e, f) (goes_on acted before current rest (rw split at r))

pub glyphs-on : (done more : List Glyph) (before passed : List Symbol) → done ≡ glyphs_of before → more ≡ done ++ glyphs_of passed
    → more ≡ glyphs_of (before ++ passed)
glyphs-on done more before passed e f =
    f ∙ ap (λ (l : List Glyph). l ++ glyphs_of passed) e ∙ sym (glyphs_of-append before passed)
