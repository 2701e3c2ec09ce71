-- The symbols of each state adjoin, so the glyphs of a run cover its codes.
--
--     Fits symbol             what the symbol covers is as its kind has it
--     Adjoins from end xs     the symbols cover the codes from `from` to before `end`, one after another
use Rattle.std.proofs.Common.{◌≡◌, ℕ, ◌+◌, ◌≤◌, Bool, true, false, List, [], ◌∷◌, ◌++◌, length, refl, ap, sym, ◌∙◌, append_assoc, append-nil, take-append-drop, arith}
use Rattle.std.specs.Prelude.{Option, Some, None, ℤ, nat_le, if◌then◌else◌}
use Rattle.tfm_read.specs.declared.ligature.LigWord.{LigWord}
use Rattle.tfm_read.specs.declared.tfm.Tfm.{Tfm}
use Rattle.lig_kern.specs.Covering.{Cuts}
use Rattle.lig_kern.specs.Programs.{acting_word}
use Rattle.lig_kern.specs.Rewriting.{Move, Reached, begins, goes_on, with_ligature, puts_ligature, puts_kern, kern_of, operation_of, move_by, move_at}
use Rattle.lig_kern.specs.Running.{left_symbols, right_symbols, code_symbols, start_of}
use Rattle.lig_kern.specs.Symbols.{glyphs_of}
use Rattle.lig_kern.specs.declared.operation.Operation.{Operation}
use Rattle.lig_kern.specs.declared.symbols.SymbolKind.{SymbolKind}
use Rattle.lig_kern.specs.declared.symbols.SymbolKind.TheVariants.{LeftBoundary, RightBoundary, Character, Ligature, FontKern}
use Rattle.lig_kern.specs.declared.symbols.Symbol.{Symbol}

abbrev Fits : SymbolKind → ℕ → ℕ → Type 0
Fits LeftBoundary from to = to ≡ from
Fits (RightBoundary code) from to = to ≡ from
Fits (Character code) from to = to ≡ from + 1
Fits (Ligature code) from to = from ≤ to
Fits (FontKern fix) from to = to ≡ from

abbrev Adjoins : ℕ → ℕ → List Symbol → Type 0
Adjoins from end [] = from ≡ end
Adjoins from end (symbol ∷ symbols) =
    (symbol.from ≡ from) × Fits symbol.kind symbol.from symbol.to × Adjoins symbol.to end symbols

Fits-≤ : (kind : SymbolKind) (from to : ℕ) → Fits kind from to → from ≤ to
Fits-≤ LeftBoundary from to fits = omega arith
Fits-≤ (RightBoundary code) from to fits = omega arith
Fits-≤ (Character code) from to fits = omega arith
Fits-≤ (Ligature code) from to fits = fits
Fits-≤ (FontKern fix) from to fits = omega arith

Adjoins-append : (from middle end : ℕ) (xs ys : List Symbol) → Adjoins from middle xs → Adjoins middle end ys → Adjoins from end (xs ++ ys)
Adjoins-append from middle end [] ys p q = rw p q
Adjoins-append from middle end (x ∷ xs) ys p q = (p.0, p.1, Adjoins-append x.to middle end xs ys p.2 q)

Adjoins-split : (from end : ℕ) (xs ys : List Symbol) → Adjoins from end (xs ++ ys)
    → (middle : ℕ) × Adjoins from middle xs × Adjoins middle end ys
Adjoins-split from end [] ys p = (from, refl, p)
Adjoins-split from end (x ∷ xs) ys p =
    let (middle, q, r) = Adjoins-split x.to end xs ys p.2 in (middle, (p.0, p.1, q), r)

-- a symbol's glyph cuts as the symbol does
cuts-first : (kind : SymbolKind) (from to start end : ℕ) (rest : List Symbol) → from ≡ start → Fits kind from to
    → Cuts to end (glyphs_of rest) → Cuts start end (glyphs_of (record { kind = kind; from = from; to = to } ∷ rest))
cuts-first LeftBoundary from to start end rest e fits cuts = rw (sym (fits ∙ e)) cuts
cuts-first (RightBoundary code) from to start end rest e fits cuts = rw (sym (fits ∙ e)) cuts
cuts-first (Character code) from to start end rest e fits cuts = (e, rw (ap (λ (n : ℕ). n + 1) (sym e) ∙ sym fits) cuts)
cuts-first (Ligature code) from to start end rest e fits cuts = (e, fits, cuts)
cuts-first (FontKern fix) from to start end rest e fits cuts = rw (sym (fits ∙ e)) cuts

pub cuts-of : (from end : ℕ) (symbols : List Symbol) → Adjoins from end symbols → Cuts from end (glyphs_of symbols)
cuts-of from end [] p = p
cuts-of from end (x ∷ xs) p = cuts-first x.kind x.from x.to from end xs p.0 p.1 (cuts-of x.to end xs p.2)

-- a ligature in place of two symbols
ligature-adjoins : (keeps_current keeps_next : Bool) (passes code from end : ℕ) (current follower : Symbol) (rest : List Symbol)
    → Adjoins from end (current ∷ follower ∷ rest)
    → Adjoins from end (with_ligature (record { passes = passes; keeps_current = keeps_current; keeps_next = keeps_next }) code current follower rest)
ligature-adjoins false false passes code from end current follower rest p =
    let a = Fits-≤ current.kind current.from current.to p.1 in
    let b = Fits-≤ follower.kind follower.from follower.to p.2.1 in
    let meet = p.2.0 in
    (p.0, omega (arith, a, b, meet), p.2.2)
ligature-adjoins false true passes code from end current follower rest p =
    (p.0, Fits-≤ current.kind current.from current.to p.1, p.2)
ligature-adjoins true false passes code from end current follower rest p =
    (p.0, p.1, (p.2.0, Fits-≤ follower.kind follower.from follower.to p.2.1, p.2.2))
ligature-adjoins true true passes code from end current follower rest p =
    (p.0, p.1, (refl, omega arith, p.2))

-- after a move the symbols adjoin as before
abbrev whole : Move → List Symbol
whole move = move.passed ++ move.ahead

if-adjoins : (b : Bool) (from end : ℕ) (x y : Move) → Adjoins from end (whole x) → Adjoins from end (whole y)
    → Adjoins from end (whole (if b then x else y))
if-adjoins true from end x y p q = p
if-adjoins false from end x y p q = q

puts_ligature-adjoins : (op : Operation) (code from end : ℕ) (current follower : Symbol) (rest : List Symbol)
    → Adjoins from end (current ∷ follower ∷ rest) → Adjoins from end (whole (puts_ligature op code current follower rest))
puts_ligature-adjoins op code from end current follower rest p =
    rw (take-append-drop op.passes (with_ligature op code current follower rest))
    (ligature-adjoins op.keeps_current op.keeps_next op.passes code from end current follower rest p)

move_by-adjoins : (kerns : List ℤ) (word : Option LigWord) (from end : ℕ) (current follower : Symbol) (rest : List Symbol)
    → Adjoins from end (current ∷ follower ∷ rest) → Adjoins from end (whole (move_by kerns word current follower rest))
move_by-adjoins kerns None from end current follower rest p = p
move_by-adjoins kerns (Some word) from end current follower rest p =
    if-adjoins (nat_le 128 word.op) from end
    (puts_kern (kern_of kerns word) current (follower ∷ rest))
    (puts_ligature (operation_of word.op) word.rest current follower rest)
    (p.0, p.1, (refl, refl, p.2))
    (puts_ligature-adjoins (operation_of word.op) word.rest from end current follower rest p)

move_at-adjoins : (tfm : Tfm) (from end : ℕ) (current : Symbol) (rest : List Symbol)
    → Adjoins from end (current ∷ rest) → Adjoins from end (whole (move_at tfm current rest))
move_at-adjoins tfm from end current [] p = p
move_at-adjoins tfm from end current (follower ∷ rest) p =
    move_by-adjoins tfm.kerns (acting_word tfm current.kind follower.kind) from end current follower rest p

-- the symbols of each state adjoin
reached-adjoins : (tfm : Tfm) (start : List Symbol) (end acted : ℕ) (before ahead : List Symbol)
    → Adjoins 0 end start → Reached tfm start acted before ahead → Adjoins 0 end (before ++ ahead)
reached-adjoins tfm start end acted before ahead p begins = p
reached-adjoins tfm start end acted before ahead p (goes_on old passed current rest r) =
    let (middle, q, s) = Adjoins-split 0 end passed (current ∷ rest) (reached-adjoins tfm start end old passed (current ∷ rest) p r) in
    let move = move_at tfm current rest in
    rw (append_assoc passed move.passed move.ahead)
    (Adjoins-append 0 middle end passed (whole move) q (move_at-adjoins tfm middle end current rest s))

right-adjoins : (right : Bool) (boundary : Option ℕ) (n : ℕ) → Adjoins n n (right_symbols right boundary n [])
right-adjoins true (Some code) n = (refl, refl, refl)
right-adjoins true None n = refl
right-adjoins false boundary n = refl

codes-adjoin : (codes : List ℕ) (at end : ℕ) (others : List Symbol) → at + length codes ≡ end → Adjoins end end others
    → Adjoins at end (code_symbols at codes others)
codes-adjoin [] at end others e p = let there : at ≡ end = omega arith in rw there p
codes-adjoin (code ∷ codes) at end others e p =
    (refl, refl, codes-adjoin codes (at + 1) end others (omega arith) p)

left-adjoins : (left : Bool) (program : Option ℕ) (end : ℕ) (others : List Symbol) → Adjoins 0 end others
    → Adjoins 0 end (left_symbols left program others)
left-adjoins true (Some place) end others p = (refl, refl, p)
left-adjoins true None end others p = p
left-adjoins false program end others p = p

start-adjoins : (tfm : Tfm) (codes : List ℕ) (left right : Bool) → Adjoins 0 (length codes) (start_of tfm codes left right)
start-adjoins tfm codes left right =
    left-adjoins left tfm.left (length codes) _
    (codes-adjoin codes 0 (length codes) _ (omega arith) (right-adjoins right tfm.right (length codes)))

-- the glyphs of an end cover the codes
pub ends-cut : (tfm : Tfm) (codes : List ℕ) (left right : Bool) (acted : ℕ) (symbols : List Symbol)
    → Reached tfm (start_of tfm codes left right) acted symbols [] → Cuts 0 (length codes) (glyphs_of symbols)
ends-cut tfm codes left right acted symbols r =
    let all = reached-adjoins tfm (start_of tfm codes left right) (length codes) acted symbols [] (start-adjoins tfm codes left right) r in
    cuts-of 0 (length codes) symbols (rw append-nil at all)

-- two symbols side by side: each ends where it begins or later, and the one begins where the other ends
pub record Meet (current follower : Symbol) : Type 0 where
  pub first : current.from ≤ current.to
  pub place : follower.from ≡ current.to
  pub second : follower.from ≤ follower.to

-- neighbours of each state meet
pub reached-meet : (tfm : Tfm) (codes : List ℕ) (left right : Bool) (acted : ℕ) (before : List Symbol) (current follower : Symbol)
    (rest : List Symbol) → Reached tfm (start_of tfm codes left right) acted before (current ∷ follower ∷ rest)
    → Meet current follower
reached-meet tfm codes left right acted before current follower rest r =
    let all = reached-adjoins tfm (start_of tfm codes left right) (length codes) acted before (current ∷ follower ∷ rest) (start-adjoins tfm codes left right) r in
    let (middle, front, back) = Adjoins-split 0 (length codes) before (current ∷ follower ∷ rest) all in
    record {
      first = Fits-≤ current.kind current.from current.to back.1;
      place = back.2.0;
      second = Fits-≤ follower.kind follower.from follower.to back.2.1;
    }
