-- How a run ends, as a function that computes: the first missing code, or else the list is rewritten
-- step by step until its end or until more words have acted than may (TFM description, "lig_kern").
use Rattle.std.specs.Prelude.{ℕ, zero, suc, ◌+◌, ◌-◌, ◌*◌, true, false, Bool, nat_lt, if◌then◌else◌, List, [], ◌∷◌, ◌++◌, length, option_map, Option, Some, None, Result, Ok, Err}
use Rattle.tfm_read.specs.Ranges.{exists_at}
use Rattle.tfm_read.specs.declared.character.CharInfo.{CharInfo}
use Rattle.tfm_read.specs.declared.tfm.Tfm.{Tfm}
use Rattle.lig_kern.specs.Rewriting.{move_at}
use Rattle.lig_kern.specs.Running.{limit_of, start_of}
use Rattle.lig_kern.specs.Symbols.{glyphs_of}
use Rattle.lig_kern.specs.declared.fault.LigFault.{LigFault}
use Rattle.lig_kern.specs.declared.fault.LigFault.TheVariants.{TooManySteps, Missing}
use Rattle.lig_kern.specs.declared.glyph.Glyph.{Glyph}
use Rattle.lig_kern.specs.declared.symbols.Symbol.{Symbol}

-- the first code, counted from `at` on, for which the font has no character
unfoldable pub missing_from : List CharInfo → ℕ → List ℕ → Option ℕ
missing_from chars at [] = None
missing_from chars at (code ∷ codes) =
    if exists_at chars code then missing_from chars (at + 1) codes else Some at

-- The glyphs of the symbols from the cursor on, where at most so many words may act, in fewer than
-- `steps` steps. None where more words act.
unfoldable pub rewritten : ℕ → Tfm → ℕ → List Symbol → Option (List Glyph)
rewritten zero tfm left ahead = None
rewritten (suc steps) tfm left [] = Some []
rewritten (suc steps) tfm left (current ∷ rest) =
    elim (nat_lt left (move_at tfm current rest).acts) as (λ _. Option (List Glyph)) [
      | true ↦ None
      | false ↦
          option_map (λ glyphs. glyphs_of (move_at tfm current rest).passed ++ glyphs)
          (rewritten steps tfm (left - (move_at tfm current rest).acts) (move_at tfm current rest).ahead)
    ]

-- Steps enough: one in which no word acts leaves one symbol fewer ahead, and one in which a word acts
-- leaves at most one more.
unfoldable pub enough : ℕ → List Symbol → ℕ
enough limit start = length start + 2 * limit + 1

abbrev pub by_end : Option (List Glyph) → Result (List Glyph) LigFault
by_end None = Err TooManySteps
by_end (Some glyphs) = Ok glyphs

abbrev pub by_missing : Option ℕ → Option (List Glyph) → Result (List Glyph) LigFault
by_missing (Some index) end = Err (Missing index)
by_missing None end = by_end end

-- how a run ends, where memory suffices
unfoldable pub outcome : Tfm → List ℕ → (left right : Bool) → Result (List Glyph) LigFault
outcome tfm codes left right =
    let start = start_of tfm codes left right in
    by_missing (missing_from tfm.chars 0 codes)
    (rewritten (enough (limit_of codes) start) tfm (limit_of codes) start)
