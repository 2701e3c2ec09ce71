-- What holds of the glyphs of each run, by the rules of the rewriting (TFM description, "lig_kern").
use Rattle.std.specs.Prelude.{◌≡◌, ℕ, ◌+◌, ◌<◌, ◌≤◌, ◌⊎◌, ⊤, true, List, [], ◌∷◌, length, All}
use Rattle.std.specs.List.{Contains}
use Rattle.micro_num.specs.Scaling.{IsFixWord}
use Rattle.tfm_read.specs.Ranges.{exists_at}
use Rattle.tfm_read.specs.declared.tfm.Tfm.{Tfm}
use Rattle.lig_kern.specs.Running.{limit_of}
use Rattle.lig_kern.specs.declared.glyph.Glyph.{Glyph}
use Rattle.lig_kern.specs.declared.glyph.Glyph.TheVariants.{Char, Lig, Kern}
use Rattle.lig_kern.specs.declared.symbols.Symbol.{Symbol}

-- the glyphs, kerns left out, cover the codes from `from` to before `end` by adjoining intervals
abbrev pub Cuts : ℕ → ℕ → List Glyph → Type 0
Cuts from end [] = from ≡ end
Cuts from end (Char code at ∷ glyphs) = (at ≡ from) × Cuts (from + 1) end glyphs
Cuts from end (Lig code start stop ∷ glyphs) = (start ≡ from) × (start ≤ stop) × Cuts stop end glyphs
Cuts from end (Kern fix ∷ glyphs) = Cuts from end glyphs

-- a glyph isn't a kern
abbrev pub NotKern : Glyph → Type 0
NotKern (Kern fix) = ⊥
NotKern (Char code at) = ⊤
NotKern (Lig code from to) = ⊤

-- the list doesn't begin with a kern
abbrev pub NoKernFirst : List Glyph → Type 0
NoKernFirst [] = ⊤
NoKernFirst (glyph ∷ glyphs) = NotKern glyph

-- no two kerns stand side by side
abbrev pub KernsApart : List Glyph → Type 0
KernsApart [] = ⊤
KernsApart (Kern fix ∷ glyphs) = NoKernFirst glyphs × KernsApart glyphs
KernsApart (Char code at ∷ glyphs) = KernsApart glyphs
KernsApart (Lig code from to ∷ glyphs) = KernsApart glyphs

-- the glyphs of codes on which no program acts, from number `at` on
abbrev pub characters : ℕ → List ℕ → List Glyph
characters at [] = []
characters at (code ∷ codes) = Char code at ∷ characters (at + 1) codes

-- a glyph is the font's: the font has its character, or has its kern among its kerns
abbrev pub IsOfFont : Tfm → Glyph → Type 0
IsOfFont tfm (Char code at) = exists_at tfm.chars code ≡ true
IsOfFont tfm (Lig code from to) = exists_at tfm.chars code ≡ true
IsOfFont tfm (Kern fix) = Contains tfm.kerns fix × IsFixWord fix

-- how many glyphs a run of codes gives at most: each code, two boundaries, and one for each word that
-- acts
abbrev pub most_glyphs : List ℕ → ℕ
most_glyphs codes = length codes + 2 + limit_of codes

-- what holds of the glyphs of each run of codes
pub record Lawful (tfm : Tfm) (codes : List ℕ) (glyphs : List Glyph) : Type 0 where
  pub own : All (IsOfFont tfm) glyphs
  pub few : length glyphs ≤ most_glyphs codes
  pub cuts : Cuts 0 (length codes) glyphs
  pub kerns_apart : KernsApart glyphs

-- a symbol covers a code
abbrev pub Covers : ℕ → Symbol → Type 0
Covers code symbol = (symbol.from ≤ code) × (code < symbol.to)

-- some of the symbols covers a code
abbrev pub AnyCovers : ℕ → List Symbol → Type 0
AnyCovers code [] = ⊥
AnyCovers code (symbol ∷ symbols) = Covers code symbol ⊎ AnyCovers code symbols
