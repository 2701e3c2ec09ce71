-- No two kerns stand side by side: between two kerns there is the symbol that the second one follows.
--
--     IsInner kind      not a left boundary and not a kern
--     Opens before ahead       the symbols from the cursor on are inner ones, but for a left boundary at
--                              the head of the whole list
--     Sound before ahead       that, and the kerns before the cursor stand apart
use Rattle.std.proofs.Common.{◌≡◌, ℕ, zero, suc, ◌+◌, Bool, true, false, List, [], ◌∷◌, ◌++◌, take, drop, refl, sym, append_assoc, append-nil, inl, inr, ◌⊎◌}
use Rattle.std.specs.Prelude.{Option, Some, None, ℤ, nat_le, if◌then◌else◌, ⊤}
use Rattle.tfm_read.specs.declared.ligature.LigWord.{LigWord}
use Rattle.tfm_read.specs.declared.tfm.Tfm.{Tfm}
use Rattle.lig_kern.specs.Covering.{NotKern, KernsApart}
use Rattle.lig_kern.specs.Programs.{program_of, acting_word}
use Rattle.lig_kern.specs.Rewriting.{Move, Reached, begins, goes_on, kept, ligature_between, with_ligature, puts_ligature, puts_kern, kern_of, kern_after, operation_of, move_by, move_at}
use Rattle.lig_kern.specs.Running.{left_symbols, right_symbols, code_symbols, start_of}
use Rattle.lig_kern.specs.Symbols.{glyphs_of}
use Rattle.lig_kern.specs.declared.glyph.Glyph.{Glyph}
use Rattle.lig_kern.specs.declared.glyph.Glyph.TheVariants.{Char, Lig, Kern}
use Rattle.lig_kern.specs.declared.symbols.SymbolKind.{SymbolKind}
use Rattle.lig_kern.specs.declared.symbols.SymbolKind.TheVariants.{LeftBoundary, RightBoundary, Character, Ligature, FontKern}
use Rattle.lig_kern.specs.declared.symbols.Symbol.{Symbol}
use Rattle.lig_kern.proofs.SymbolLemmas.{glyphs_of-append}

abbrev IsInner : SymbolKind → Type 0
IsInner LeftBoundary = ⊥
IsInner (RightBoundary code) = ⊤
IsInner (Character code) = ⊤
IsInner (Ligature code) = ⊤
IsInner (FontKern fix) = ⊥

abbrev AllInner : List Symbol → Type 0
AllInner [] = ⊤
AllInner (symbol ∷ symbols) = IsInner symbol.kind × AllInner symbols

abbrev IsLeft : SymbolKind → Type 0
IsLeft LeftBoundary = ⊤
IsLeft (RightBoundary code) = ⊥
IsLeft (Character code) = ⊥
IsLeft (Ligature code) = ⊥
IsLeft (FontKern fix) = ⊥

abbrev Opens : List Symbol → List Symbol → Type 0
Opens before [] = ⊤
Opens before (symbol ∷ symbols) = (IsInner symbol.kind ⊎ (IsLeft symbol.kind × (before ≡ []))) × AllInner symbols

record Sound (before ahead : List Symbol) : Type 0 where
  opens : Opens before ahead
  apart : KernsApart (glyphs_of before)

-- a glyph that is no kern may follow, and a kern may follow such a glyph
apart-more : (glyphs : List Glyph) (glyph : Glyph) → KernsApart glyphs → NotKern glyph → KernsApart (glyphs ++ glyph ∷ [])
apart-more [] (Char code at) p q = tt
apart-more [] (Lig code from to) p q = tt
apart-more [] (Kern fix) p q = absurd q
apart-more (Char code at ∷ glyphs) glyph p q = apart-more glyphs glyph p q
apart-more (Lig code from to ∷ glyphs) glyph p q = apart-more glyphs glyph p q
apart-more (Kern fix ∷ []) glyph p q = (q, apart-more [] glyph tt q)
apart-more (Kern fix ∷ next ∷ glyphs) glyph p q = (p.0, apart-more (next ∷ glyphs) glyph p.1 q)

apart-kern : (glyphs : List Glyph) (glyph : Glyph) (fix : ℤ) → KernsApart glyphs → NotKern glyph
    → KernsApart (glyphs ++ glyph ∷ Kern fix ∷ [])
apart-kern [] (Char code at) fix p q = (tt, tt)
apart-kern [] (Lig code from to) fix p q = (tt, tt)
apart-kern [] (Kern other) fix p q = absurd q
apart-kern (Char code at ∷ glyphs) glyph fix p q = apart-kern glyphs glyph fix p q
apart-kern (Lig code from to ∷ glyphs) glyph fix p q = apart-kern glyphs glyph fix p q
apart-kern (Kern other ∷ []) glyph fix p q = (q, apart-kern [] glyph fix tt q)
apart-kern (Kern other ∷ next ∷ glyphs) glyph fix p q = (p.0, apart-kern (next ∷ glyphs) glyph fix p.1 q)

-- an inner symbol or the left boundary may be passed
pass-kind : (kind : SymbolKind) (from to : ℕ) (before : List Symbol) → IsInner kind ⊎ (IsLeft kind × (before ≡ []))
    → KernsApart (glyphs_of before) → KernsApart (glyphs_of before ++ glyphs_of (record { kind = kind; from = from; to = to } ∷ []))
pass-kind LeftBoundary from to before which p = rw append-nil p
pass-kind (RightBoundary code) from to before which p = rw append-nil p
pass-kind (Character code) from to before which p = apart-more (glyphs_of before) (Char code from) p tt
pass-kind (Ligature code) from to before which p = apart-more (glyphs_of before) (Lig code from to) p tt
pass-kind (FontKern fix) from to before which p = elim which [ inl inner ↦ absurd inner | inr left ↦ absurd left.0 ]

inner-opens : (before ahead : List Symbol) → AllInner ahead → Opens before ahead
inner-opens before [] all = tt
inner-opens before (symbol ∷ symbols) all = (inl all.0, all.1)

pass-sound : (before : List Symbol) (symbol : Symbol) (rest : List Symbol) → Sound before (symbol ∷ rest)
    → Sound (before ++ symbol ∷ []) rest
pass-sound before symbol rest p = record {
  opens = inner-opens (before ++ symbol ∷ []) rest p.opens.1;
  apart = rw (glyphs_of-append before (symbol ∷ [])) (pass-kind symbol.kind symbol.from symbol.to before p.opens.0 p.apart);
}

-- any number of symbols may be passed
pass-all : (n : ℕ) (before ahead : List Symbol) → Sound before ahead → Sound (before ++ take n ahead) (drop n ahead)
pass-all zero before ahead p = rw (append-nil before) p
pass-all (suc n) before [] p = rw (append-nil before) p
pass-all (suc n) before (symbol ∷ rest) p =
    rw (sym (append_assoc before (symbol ∷ []) (take n rest)))
    (pass-all n (before ++ symbol ∷ []) rest (pass-sound before symbol rest p))

kept-inner : (keeps : Bool) (symbol : Symbol) (rest : List Symbol) → AllInner (symbol ∷ rest) → AllInner (kept keeps symbol rest)
kept-inner true symbol rest p = p
kept-inner false symbol rest p = p.1

ligature-opens : (keeps : Bool) (before : List Symbol) (current : Symbol) (tail : List Symbol)
    → IsInner current.kind ⊎ (IsLeft current.kind × (before ≡ [])) → AllInner tail → Opens before (kept keeps current tail)
ligature-opens true before current tail which all = (which, all)
ligature-opens false before current tail which all = inner-opens before tail all

-- a kern may follow a symbol that has a program
kern-kind : (tfm : Tfm) (kind next : SymbolKind) (from to : ℕ) (fix : ℤ) (word : LigWord) (before : List Symbol)
    → acting_word tfm kind next ≡ Some word → IsInner kind ⊎ (IsLeft kind × (before ≡ []))
    → KernsApart (glyphs_of before)
    → KernsApart (glyphs_of before
    ++ glyphs_of (record { kind = kind; from = from; to = to } ∷ record { kind = FontKern fix; from = to; to = to } ∷ []))
unfolding program_of
kern-kind tfm LeftBoundary next from to fix word before acts which p =
    elim which [ inl inner ↦ absurd inner | inr left ↦ rw left.1 (tt, tt) ]
kern-kind tfm (RightBoundary code) next from to fix word before acts which p = cc
kern-kind tfm (Character code) next from to fix word before acts which p = apart-kern (glyphs_of before) (Char code from) fix p tt
kern-kind tfm (Ligature code) next from to fix word before acts which p = apart-kern (glyphs_of before) (Lig code from to) fix p tt
kern-kind tfm (FontKern other) next from to fix word before acts which p = cc

abbrev SoundAfter : List Symbol → Move → Type 0
SoundAfter before move = Sound (before ++ move.passed) move.ahead

if-sound : (b : Bool) (before : List Symbol) (x y : Move) → SoundAfter before x → SoundAfter before y
    → SoundAfter before (if b then x else y)
if-sound true before x y p q = p
if-sound false before x y p q = q

move_by-sound : (tfm : Tfm) (word : Option LigWord) (before : List Symbol) (current follower : Symbol) (rest : List Symbol)
    → acting_word tfm current.kind follower.kind ≡ word → Sound before (current ∷ follower ∷ rest)
    → SoundAfter before (move_by tfm.kerns word current follower rest)
move_by-sound tfm None before current follower rest acts p = pass-sound before current (follower ∷ rest) p
move_by-sound tfm (Some word) before current follower rest acts p =
    let fix = kern_of tfm.kerns word in
    let op = operation_of word.op in
    let new = ligature_between op word.rest current follower in
    let kern : SoundAfter before (puts_kern fix current (follower ∷ rest)) = record {
      opens = inner-opens _ (follower ∷ rest) p.opens.1;
      apart = rw (glyphs_of-append before (current ∷ kern_after current fix ∷ []))
          (kern-kind tfm current.kind follower.kind current.from current.to fix word before acts p.opens.0 p.apart);
    } in
    let tail : AllInner (new ∷ kept op.keeps_next follower rest) = (tt, kept-inner op.keeps_next follower rest p.opens.1) in
    let all : Sound before (with_ligature op word.rest current follower rest) = record {
      opens = ligature-opens op.keeps_current before current (new ∷ kept op.keeps_next follower rest) p.opens.0 tail;
      apart = p.apart;
    } in
    if-sound (nat_le 128 word.op) before
    (puts_kern fix current (follower ∷ rest))
    (puts_ligature op word.rest current follower rest)
    kern
    (pass-all op.passes before (with_ligature op word.rest current follower rest) all)

move_at-sound : (tfm : Tfm) (before : List Symbol) (current : Symbol) (rest : List Symbol) → Sound before (current ∷ rest)
    → SoundAfter before (move_at tfm current rest)
move_at-sound tfm before current [] p = pass-sound before current [] p
move_at-sound tfm before current (follower ∷ rest) p = move_by-sound tfm _ before current follower rest refl p

reached-sound : (tfm : Tfm) (start : List Symbol) (acted : ℕ) (before ahead : List Symbol) → Opens [] start
    → Reached tfm start acted before ahead → Sound before ahead
reached-sound tfm start acted before ahead p begins = record { opens = p; apart = tt }
reached-sound tfm start acted before ahead p (goes_on old passed current rest r) =
    move_at-sound tfm passed current rest (reached-sound tfm start old passed (current ∷ rest) p r)

right-inner : (right : Bool) (boundary : Option ℕ) (n : ℕ) → AllInner (right_symbols right boundary n [])
right-inner true (Some code) n = (tt, tt)
right-inner true None n = tt
right-inner false boundary n = tt

codes-inner : (codes : List ℕ) (at : ℕ) (others : List Symbol) → AllInner others → AllInner (code_symbols at codes others)
codes-inner [] at others p = p
codes-inner (code ∷ codes) at others p = (tt, codes-inner codes (at + 1) others p)

left-opens : (left : Bool) (program : Option ℕ) (others : List Symbol) → AllInner others → Opens [] (left_symbols left program others)
left-opens true (Some place) others p = (inr (tt, refl), p)
left-opens true None others p = inner-opens [] others p
left-opens false program others p = inner-opens [] others p

-- the kerns of an end stand apart
pub ends-apart : (tfm : Tfm) (codes : List ℕ) (left right : Bool) (acted : ℕ) (symbols : List Symbol)
    → Reached tfm (start_of tfm codes left right) acted symbols [] → KernsApart (glyphs_of symbols)
ends-apart tfm codes left right acted symbols r =
    (reached-sound tfm (start_of tfm codes left right) acted symbols []
    (left-opens left tfm.left _ (codes-inner codes 0 _ (right-inner right tfm.right _))) r).apart
