-- Runs on which no word acts, so that their glyphs are their characters (TFM description, "lig_kern").
use Rattle.std.specs.Prelude.{◌≡◌, ℕ, Bool, true, not, ◌&&◌, is_some, List, [], ◌∷◌, Option, Some, None}
use Rattle.tfm_read.specs.declared.tfm.Tfm.{Tfm}
use Rattle.lig_kern.specs.Programs.{program_of, character_program, word_between}
use Rattle.lig_kern.specs.Running.{AllExist, start_of}
use Rattle.lig_kern.specs.Symbols.{code_of}
use Rattle.lig_kern.specs.declared.symbols.Symbol.{Symbol}

-- whether a word of the program of one code's character acts before another code
abbrev pub acts_at : Tfm → (code follower : ℕ) → Bool
acts_at tfm code follower = is_some (word_between tfm.ligs (character_program tfm code) (Some follower))

-- whether no word acts between any two neighbours of a list, nor of a program before its first symbol
abbrev pub is_quiet : Tfm → Option ℕ → List Symbol → Bool
is_quiet tfm program [] = true
is_quiet tfm program (symbol ∷ symbols) =
    not (is_some (word_between tfm.ligs program (code_of symbol.kind)))
    && is_quiet tfm (program_of tfm symbol.kind) symbols

-- the font has a character for each code, and no word acts on the run
pub record IsPlain (tfm : Tfm) (codes : List ℕ) (left right : Bool) : Type 0 where
  pub exist : AllExist tfm.chars codes
  pub quiet : is_quiet tfm None (start_of tfm codes left right) ≡ true
