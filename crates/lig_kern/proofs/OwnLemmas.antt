-- The symbols of each state are the font's, and there are few of them.
--
--     Acts ligs word         the word stands among these and has a skip of at most 128
--     Own tfm kind           the font has the symbol's character, or its kern among its kerns
--     AllOwn tfm symbols     each symbol is the font's
use Rattle.std.proofs.Common.{◌≡◌, ℕ, zero, suc, ◌+◌, ◌-◌, ◌*◌, ◌<◌, ◌≤◌, Bool, true, false, ◌&&◌, cond, List, [], ◌∷◌, ◌++◌, length, get_or, refl, subst, append_assoc, append-nil, take-append-drop, length-append, arith, All}
use Rattle.std.specs.List.{Contains}
use Rattle.std.specs.Prelude.{Option, Some, None, Result, Ok, Err, IfOk, ℤ, pos, nat_le, ⊤}
use Rattle.std.proofs.lemmas.Bool.{leb-true}
use Rattle.std.proofs.lemmas.Bool.Decides.{nat_tests}
use Rattle.std.proofs.lemmas.List.Elements.{All-nil, All-cons, Contains-get_or}
use Rattle.micro_num.specs.Scaling.{IsFixWord}
use Rattle.tfm_read.specs.Ranges.{exists_at, LigFits}
use Rattle.tfm_read.specs.declared.ligature.LigWord.{LigWord}
use Rattle.tfm_read.specs.declared.tfm.Tfm.{Tfm}
use Rattle.lig_kern.specs.Covering.{IsOfFont, Lawful, most_glyphs}
use Rattle.lig_kern.specs.Programs.{acting_word, word_between, walk, acts_before}
use Rattle.lig_kern.specs.Rewriting.{Move, Reached, begins, goes_on, kept, ligature_between, with_ligature, puts_ligature, puts_kern, kern_of, operation_of, move_by, move_at}
use Rattle.lig_kern.specs.Running.{left_symbols, right_symbols, code_symbols, start_of, AllExist, IsRun, Answers}
use Rattle.lig_kern.specs.Symbols.{glyphs_of}
use Rattle.lig_kern.specs.declared.fault.LigFault.{LigFault}
use Rattle.lig_kern.specs.declared.glyph.Glyph.{Glyph}
use Rattle.lig_kern.specs.declared.operation.Operation.{Operation}
use Rattle.lig_kern.specs.declared.symbols.SymbolKind.{SymbolKind}
use Rattle.lig_kern.specs.declared.symbols.SymbolKind.TheVariants.{LeftBoundary, RightBoundary, Character, Ligature, FontKern}
use Rattle.lig_kern.specs.declared.symbols.Symbol.{Symbol}
use Rattle.lig_kern.proofs.CoverLemmas.{ends-cut}
use Rattle.lig_kern.proofs.KernLemmas.{ends-apart}

-- ---- the word that acts is one of the font's

pub record Acts (ligs : List LigWord) (word : LigWord) : Type 0 where
  pub place : ℕ
  pub below : place < length ligs
  pub same : (d : LigWord) → get_or ligs place d ≡ word
  pub may : word.skip ≤ 128

acts-later : (first : LigWord) (ligs : List LigWord) (word : LigWord) → Acts ligs word → Acts (first ∷ ligs) word
acts-later first ligs word acts =
    let below = acts.below in
    record { place = suc acts.place; below = omega (arith, below); same = acts.same; may = acts.may }

both-first : (a b : Bool) → (a && b) ≡ true → a ≡ true
both-first true b e = refl
both-first false b e = absurd cc

acts-here : (code : ℕ) (first : LigWord) (ligs : List LigWord) (word : LigWord) (acts ends : Bool) → acts_before first code ≡ acts
    → cond acts (Some first) (cond ends None (walk code first.skip ligs)) ≡ Some word
    → (walk code first.skip ligs ≡ Some word → Acts ligs word) → Acts (first ∷ ligs) word
acts-here code first ligs word true ends test e later =
    let same : first ≡ word = cc in
    let may : first.skip ≤ 128 = leb-true _ _ (both-first _ _ test) in
    record {
      place = 0;
      below = omega arith;
      same = λ d. same;
      may = subst (λ (w : LigWord). w.skip ≤ 128) same may;
    }
acts-here code first ligs word false true test e later = absurd cc
acts-here code first ligs word false false test e later = acts-later first ligs word (later e)

walk-acts : (code passed : ℕ) (ligs : List LigWord) (word : LigWord) → walk code passed ligs ≡ Some word → Acts ligs word
unfolding walk
walk-acts code passed [] word e = absurd cc
walk-acts code (suc passed) (first ∷ ligs) word e = acts-later first ligs word (walk-acts code passed ligs word e)
walk-acts code zero (first ∷ ligs) word e =
    acts-here code first ligs word (acts_before first code) (nat_le 128 first.skip) refl e
    (λ later. walk-acts code first.skip ligs word later)

between-acts : (ligs : List LigWord) (place code : Option ℕ) (word : LigWord) → word_between ligs place code ≡ Some word → Acts ligs word
between-acts ligs None code word e = absurd cc
between-acts ligs (Some place) None word e = absurd cc
between-acts ligs (Some place) (Some code) word e = walk-acts code place ligs word e

word-fits : (tfm : Tfm) (word : LigWord) (acts : Acts tfm.ligs word)
    → LigFits tfm.chars tfm.right (length tfm.kerns) (length tfm.ligs) acts.place word
word-fits tfm word acts =
    subst (λ (w : LigWord). LigFits tfm.chars tfm.right (length tfm.kerns) (length tfm.ligs) acts.place w)
    (acts.same word) (tfm.ligs_fit acts.place word acts.below)

-- ---- the symbols are the font's

abbrev Own : Tfm → SymbolKind → Type 0
Own tfm LeftBoundary = ⊤
Own tfm (RightBoundary code) = ⊤
Own tfm (Character code) = exists_at tfm.chars code ≡ true
Own tfm (Ligature code) = exists_at tfm.chars code ≡ true
Own tfm (FontKern fix) = Contains tfm.kerns fix × IsFixWord fix

abbrev AllOwn : Tfm → List Symbol → Type 0
AllOwn tfm [] = ⊤
AllOwn tfm (symbol ∷ symbols) = Own tfm symbol.kind × AllOwn tfm symbols

own-append : (tfm : Tfm) (xs ys : List Symbol) → AllOwn tfm xs → AllOwn tfm ys → AllOwn tfm (xs ++ ys)
own-append tfm [] ys p q = q
own-append tfm (x ∷ xs) ys p q = (p.0, own-append tfm xs ys p.1 q)

own-front : (tfm : Tfm) (xs ys : List Symbol) → AllOwn tfm (xs ++ ys) → AllOwn tfm xs
own-front tfm [] ys p = tt
own-front tfm (x ∷ xs) ys p = (p.0, own-front tfm xs ys p.1)

own-back : (tfm : Tfm) (xs ys : List Symbol) → AllOwn tfm (xs ++ ys) → AllOwn tfm ys
own-back tfm [] ys p = p
own-back tfm (x ∷ xs) ys p = own-back tfm xs ys p.1

own-kept : (tfm : Tfm) (keeps : Bool) (symbol : Symbol) (ahead : List Symbol) → Own tfm symbol.kind → AllOwn tfm ahead
    → AllOwn tfm (kept keeps symbol ahead)
own-kept tfm true symbol ahead p q = (p, q)
own-kept tfm false symbol ahead p q = q

-- a move, and what holds of the symbols after it
abbrev whole : Move → List Symbol
whole move = move.passed ++ move.ahead

own-kern : (tfm : Tfm) (word : LigWord) → Acts tfm.ligs word → 128 ≤ word.op
    → Contains tfm.kerns (kern_of tfm.kerns word) × IsFixWord (kern_of tfm.kerns word)
own-kern tfm word acts kern =
    let below = (word-fits tfm word acts).kern acts.may kern in (
      Contains-get_or tfm.kerns (256 * (word.op - 128) + word.rest) (pos 0) below,
      tfm.kerns_fit (256 * (word.op - 128) + word.rest) (pos 0) below,
    )

own-ligature : (tfm : Tfm) (op : Operation) (code : ℕ) (current follower : Symbol) (rest : List Symbol) → exists_at tfm.chars code ≡ true
    → AllOwn tfm (current ∷ follower ∷ rest) → AllOwn tfm (whole (puts_ligature op code current follower rest))
own-ligature tfm op code current follower rest there p =
    let inner = own-kept tfm op.keeps_next follower rest p.1.0 p.1.1 in
    rw (take-append-drop op.passes (with_ligature op code current follower rest))
    (own-kept tfm op.keeps_current current (ligature_between op code current follower ∷ kept op.keeps_next follower rest)
    p.0 (there, inner))

own-by : (tfm : Tfm) (word : LigWord) (current follower : Symbol) (rest : List Symbol) (kern : Bool) → nat_le 128 word.op ≡ kern
    → Acts tfm.ligs word → AllOwn tfm (current ∷ follower ∷ rest)
    → AllOwn tfm (whole (cond kern (puts_kern (kern_of tfm.kerns word) current (follower ∷ rest))
    (puts_ligature (operation_of word.op) word.rest current follower rest)))
own-by tfm word current follower rest true e acts p = (p.0, (own-kern tfm word acts (leb-true _ _ e), p.1))
own-by tfm word current follower rest false e acts p =
    let below : word.op < 128 = grind (arith, nat_tests) in
    own-ligature tfm (operation_of word.op) word.rest current follower rest
    ((word-fits tfm word acts).ligature acts.may below) p

own-move_by : (tfm : Tfm) (word : Option LigWord) (current follower : Symbol) (rest : List Symbol)
    → ((w : LigWord) → word ≡ Some w → Acts tfm.ligs w) → AllOwn tfm (current ∷ follower ∷ rest)
    → AllOwn tfm (whole (move_by tfm.kerns word current follower rest))
own-move_by tfm None current follower rest acts p = p
own-move_by tfm (Some word) current follower rest acts p =
    own-by tfm word current follower rest (nat_le 128 word.op) refl (acts word refl) p

own-move : (tfm : Tfm) (current : Symbol) (rest : List Symbol) → AllOwn tfm (current ∷ rest)
    → AllOwn tfm (whole (move_at tfm current rest))
own-move tfm current [] p = p
own-move tfm current (follower ∷ rest) p =
    own-move_by tfm (acting_word tfm current.kind follower.kind) current follower rest
    (λ w e. between-acts tfm.ligs _ _ w e) p

reached-own : (tfm : Tfm) (start : List Symbol) (acted : ℕ) (before ahead : List Symbol) → AllOwn tfm start
    → Reached tfm start acted before ahead → AllOwn tfm (before ++ ahead)
reached-own tfm start acted before ahead p begins = p
reached-own tfm start acted before ahead p (goes_on old passed current rest r) =
    let all = reached-own tfm start old passed (current ∷ rest) p r in
    let move = move_at tfm current rest in
    rw (append_assoc passed move.passed move.ahead)
    (own-append tfm passed (whole move) (own-front tfm passed (current ∷ rest) all)
    (own-move tfm current rest (own-back tfm passed (current ∷ rest) all)))

own-right : (tfm : Tfm) (right : Bool) (boundary : Option ℕ) (n : ℕ) → AllOwn tfm (right_symbols right boundary n [])
own-right tfm true (Some code) n = (tt, tt)
own-right tfm true None n = tt
own-right tfm false boundary n = tt

own-codes : (tfm : Tfm) (codes : List ℕ) (at : ℕ) (others : List Symbol)
    → ((k : ℕ) → k < length codes → exists_at tfm.chars (get_or codes k 0) ≡ true) → AllOwn tfm others
    → AllOwn tfm (code_symbols at codes others)
own-codes tfm [] at others exist p = p
own-codes tfm (code ∷ codes) at others exist p =
    (exist 0 (omega arith), own-codes tfm codes (at + 1) others (λ k below. exist (suc k) (omega arith)) p)

own-left : (tfm : Tfm) (left : Bool) (program : Option ℕ) (others : List Symbol) → AllOwn tfm others
    → AllOwn tfm (left_symbols left program others)
own-left tfm true (Some place) others p = (tt, p)
own-left tfm true None others p = p
own-left tfm false program others p = p

own-start : (tfm : Tfm) (codes : List ℕ) (left right : Bool) → AllExist tfm.chars codes → AllOwn tfm (start_of tfm codes left right)
own-start tfm codes left right exist =
    own-left tfm left tfm.left _ (own-codes tfm codes 0 _ exist (own-right tfm right tfm.right (length codes)))

-- the glyphs of symbols that are the font's are the font's
glyph-own : (tfm : Tfm) (kind : SymbolKind) (from to : ℕ) (rest : List Symbol) → Own tfm kind
    → All (IsOfFont tfm) (glyphs_of rest) → All (IsOfFont tfm) (glyphs_of (record { kind = kind; from = from; to = to } ∷ rest))
glyph-own tfm LeftBoundary from to rest own all = all
glyph-own tfm (RightBoundary code) from to rest own all = all
glyph-own tfm (Character code) from to rest own all = All-cons (IsOfFont tfm) _ _ own all
glyph-own tfm (Ligature code) from to rest own all = All-cons (IsOfFont tfm) _ _ own all
glyph-own tfm (FontKern fix) from to rest own all = All-cons (IsOfFont tfm) _ _ own all

glyphs-own : (tfm : Tfm) (symbols : List Symbol) → AllOwn tfm symbols → All (IsOfFont tfm) (glyphs_of symbols)
glyphs-own tfm [] p = All-nil (IsOfFont tfm)
glyphs-own tfm (symbol ∷ symbols) p =
    glyph-own tfm symbol.kind symbol.from symbol.to symbols p.0 (glyphs-own tfm symbols p.1)

-- ---- the symbols are few

kept-few : (keeps : Bool) (symbol : Symbol) (ahead : List Symbol) → length (kept keeps symbol ahead) ≤ length ahead + 1
kept-few true symbol ahead = omega arith
kept-few false symbol ahead = omega arith

-- a move has at most one symbol more than before for each word that acts
abbrev Few : List Symbol → Move → Type 0
Few rest move = length (whole move) ≤ length rest + 1 + move.acts

ligature-few : (op : Operation) (code : ℕ) (current follower : Symbol) (rest : List Symbol)
    → Few (follower ∷ rest) (puts_ligature op code current follower rest)
ligature-few op code current follower rest =
    let tail = kept op.keeps_next follower rest in
    let new = ligature_between op code current follower in
    let inner : length tail ≤ length rest + 1 = kept-few op.keeps_next follower rest in
    let outer : length (with_ligature op code current follower rest) ≤ length (new ∷ tail) + 1 =
    kept-few op.keeps_current current (new ∷ tail) in
    rw (take-append-drop op.passes (with_ligature op code current follower rest)) (omega (arith, inner, outer))

if-few : (b : Bool) (rest : List Symbol) (x y : Move) → Few rest x → Few rest y → Few rest (cond b x y)
if-few true rest x y p q = p
if-few false rest x y p q = q

move_by-few : (kerns : List ℤ) (word : Option LigWord) (current follower : Symbol) (rest : List Symbol)
    → Few (follower ∷ rest) (move_by kerns word current follower rest)
move_by-few kerns None current follower rest = omega arith
move_by-few kerns (Some word) current follower rest =
    if-few (nat_le 128 word.op) (follower ∷ rest)
    (puts_kern (kern_of kerns word) current (follower ∷ rest))
    (puts_ligature (operation_of word.op) word.rest current follower rest)
    (omega arith)
    (ligature-few (operation_of word.op) word.rest current follower rest)

move-few : (tfm : Tfm) (current : Symbol) (rest : List Symbol) → Few rest (move_at tfm current rest)
move-few tfm current [] = omega arith
move-few tfm current (follower ∷ rest) =
    move_by-few tfm.kerns (acting_word tfm current.kind follower.kind) current follower rest

reached-few : (tfm : Tfm) (start : List Symbol) (acted : ℕ) (before ahead : List Symbol)
    → Reached tfm start acted before ahead → length (before ++ ahead) ≤ length start + acted
reached-few tfm start acted before ahead begins = omega arith
reached-few tfm start acted before ahead (goes_on old passed current rest r) =
    let move = move_at tfm current rest in
    let earlier = reached-few tfm start old passed (current ∷ rest) r in
    let few = move-few tfm current rest in
    let split = length-append passed (current ∷ rest) in
    let joined = length-append passed (whole move) in
    rw (append_assoc passed move.passed move.ahead) (omega (arith, earlier, few, split, joined))

right-few : (right : Bool) (boundary : Option ℕ) (n : ℕ) → length (right_symbols right boundary n []) ≤ 1
right-few true (Some code) n = omega arith
right-few true None n = omega arith
right-few false boundary n = omega arith

codes-few : (codes : List ℕ) (at : ℕ) (others : List Symbol) → length (code_symbols at codes others) ≡ length codes + length others
codes-few [] at others = omega arith
codes-few (code ∷ codes) at others = let rest = codes-few codes (at + 1) others in omega (arith, rest)

left-few : (left : Bool) (program : Option ℕ) (others : List Symbol) → length (left_symbols left program others) ≤ length others + 1
left-few true (Some place) others = omega arith
left-few true None others = omega arith
left-few false program others = omega arith

start-few : (tfm : Tfm) (codes : List ℕ) (left right : Bool) → length (start_of tfm codes left right) ≤ length codes + 2
start-few tfm codes left right =
    let end = right_symbols right tfm.right (length codes) [] in
    let one = right-few right tfm.right (length codes) in
    let middle = codes-few codes 0 end in
    let more = left-few left tfm.left (code_symbols 0 codes end) in
    omega (arith, one, middle, more)

glyph-few : (kind : SymbolKind) (from to : ℕ) (rest : List Symbol) (n : ℕ) → length (glyphs_of rest) ≤ n
    → length (glyphs_of (record { kind = kind; from = from; to = to } ∷ rest)) ≤ n + 1
glyph-few LeftBoundary from to rest n few = omega (arith, few)
glyph-few (RightBoundary code) from to rest n few = omega (arith, few)
glyph-few (Character code) from to rest n few = omega (arith, few)
glyph-few (Ligature code) from to rest n few = omega (arith, few)
glyph-few (FontKern fix) from to rest n few = omega (arith, few)

glyphs-few : (symbols : List Symbol) → length (glyphs_of symbols) ≤ length symbols
glyphs-few [] = omega arith
glyphs-few (symbol ∷ symbols) =
    let few = glyph-few symbol.kind symbol.from symbol.to symbols (length symbols) (glyphs-few symbols) in
    omega (arith, few)

-- ---- the glyphs of a run

pub run-lawful : (tfm : Tfm) (codes : List ℕ) (left right : Bool) (glyphs : List Glyph) → IsRun tfm codes left right glyphs
    → Lawful tfm codes glyphs
run-lawful tfm codes left right glyphs run =
    let ends = run.ends in
    let start = start_of tfm codes left right in
    let all = reached-own tfm start ends.acted ends.symbols [] (own-start tfm codes left right run.exist) ends.ends in
    let own = glyphs-own tfm ends.symbols (own-front tfm ends.symbols [] all) in
    let size : length ends.symbols ≤ length start + ends.acted =
    rw (append-nil ends.symbols) at (reached-few tfm start ends.acted ends.symbols [] ends.ends) in
    let within = ends.within in
    let short = start-few tfm codes left right in
    let thin = glyphs-few ends.symbols in
    let few : length (glyphs_of ends.symbols) ≤ most_glyphs codes = omega (arith, size, within, short, thin) in
    subst (λ (g : List Glyph). Lawful tfm codes g) ends.gives (record {
      own = own;
      few = few;
      cuts = ends-cut tfm codes left right ends.acted ends.symbols ends.ends;
      kerns_apart = ends-apart tfm codes left right ends.acted ends.symbols ends.ends;
    })

pub answers-lawful : (tfm : Tfm) (codes : List ℕ) (left right : Bool) (result : Result (List Glyph) LigFault)
    → Answers tfm codes left right result → IfOk result (Lawful tfm codes)
answers-lawful tfm codes left right (Ok glyphs) answer = run-lawful tfm codes left right glyphs answer
answers-lawful tfm codes left right (Err fault) answer = tt
