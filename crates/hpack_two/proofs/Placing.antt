-- Glyphs that get their places, piece by piece.
--     Places           what is kept of the pieces so far
--     places-pass      one more piece that is no glyph
--     glyph-here       the glyph of a piece is the first that has no place
--     places-glyph     one more glyph
--     out-here         or it doesn't stand
--     places-none, places-all    before the first piece, and behind the last
--     placed-step      the glyphs behind a piece are those of the piece and those behind it
--     out-none         glyphs that stand have none that doesn't
--     out-first        the first that doesn't
use Rattle.std.proofs.Common.{◌≡◌, ℕ, zero, suc, ◌+◌, ◌<◌, ◌≤◌, refl, ap, sym, ◌∙◌, subst, arith, ℤ, true, false, cond, List, [], ◌∷◌, ◌++◌, append_assoc, append-nil, length, take, drop, get_or, set as put, Some, None}
use Rattle.std.proofs.lemmas.Grind.{take-set_at}
use Rattle.std.proofs.lemmas.List.{drop-set-lt, drop_all, length-set, length-take-le, take-append-drop}
use Rattle.std.specs.Prelude.{slice_get, unwrap_or}
use Rattle.std.specs.List.{position_from, AllByRecursion}
use Rattle.font_stock.specs.declared.font.Font.{Font}
use Rattle.break_rule.specs.declared.line.Piece.{Piece}
use Rattle.break_rule.specs.declared.line.Piece.TheVariants.{Glyph, Space, Move, FontMove}
use Rattle.instance_core.specs.declared.page.Placed.{Placed}
use Rattle.hpack_two.specs.Lines.{Setting, chosen_of, all_chosen, with_step, placed_at, x_behind, is_glyph, glyph_behind, glyphs_behind, is_out, first_out}
use Rattle.hpack_two.specs.Widths.{chosen_step}
use Rattle.hpack_two.proofs.Fonts.{some-is}

take-next : {X : Type 0} (xs : List X) (i : ℕ) (x : X) → slice_get xs i ≡ Some x → take (suc i) xs ≡ take i xs ++ x ∷ []
take-next [] i x is = absurd (cc)
take-next (y ∷ ys) zero x is = ap (λ z. z ∷ []) (some-is y x is)
take-next (y ∷ ys) (suc i) x is = ap (λ rest. y ∷ rest) (take-next ys i x is)

drop-next : {X : Type 0} (xs : List X) (i : ℕ) (x : X) → slice_get xs i ≡ Some x → drop i xs ≡ x ∷ drop (suc i) xs
drop-next [] i x is = absurd (cc)
drop-next (y ∷ ys) zero x is = ap (λ z. z ∷ ys) (some-is y x is)
drop-next (y ∷ ys) (suc i) x is = drop-next ys i x is

pub placed-step : (set : Setting) (pieces : List Piece) (i : ℕ) (piece : Piece) → slice_get pieces i ≡ Some piece
    → glyphs_behind set (take i pieces) (drop i pieces)
    ≡ glyph_behind set (take i pieces) piece ++ glyphs_behind set (take (i + 1) pieces) (drop (i + 1) pieces)
unfolding glyphs_behind
placed-step set pieces i piece is =
    let one : suc i ≡ i + 1 = omega arith in
    ap (glyphs_behind set (take i pieces)) (drop-next pieces i piece is)
    ∙ ap (λ before. glyph_behind set (take i pieces) piece ++ glyphs_behind set before (drop (suc i) pieces)) (sym (take-next pieces i piece is))
    ∙ ap (λ (n : ℕ). glyph_behind set (take i pieces) piece ++ glyphs_behind set (take n pieces) (drop n pieces)) one

abbrev pub Stand : List Placed → Type 0
Stand glyphs = AllByRecursion (λ glyph. is_out glyph ≡ false) glyphs

pub Stand-push : (glyphs : List Placed) (glyph : Placed) → Stand glyphs → is_out glyph ≡ false → Stand (glyphs ++ glyph ∷ [])
Stand-push [] glyph all here = (here, tt)
Stand-push (g ∷ glyphs) glyph all here = (all.0, Stand-push glyphs glyph all.1 here)

out-from : (glyphs : List Placed) (start : ℕ) → Stand glyphs → position_from is_out start glyphs ≡ None
out-from [] start all = refl
out-from (g ∷ glyphs) start all =
    ap (λ b. cond b (Some start) (position_from is_out (start + 1) glyphs)) all.0 ∙ out-from glyphs (start + 1) all.1

pub out-none : (glyphs : List Placed) → Stand glyphs → first_out glyphs ≡ None
out-none glyphs all = out-from glyphs 0 all

out-at : (glyphs : List Placed) (glyph : Placed) (rest : List Placed) (start : ℕ) → Stand glyphs → is_out glyph ≡ true
    → position_from is_out start (glyphs ++ glyph ∷ rest) ≡ Some (start + length glyphs)
out-at [] glyph rest start all out =
    ap (λ b. cond b (Some start) (position_from is_out (start + 1) rest)) out ∙ ap Some (omega arith)
out-at (g ∷ glyphs) glyph rest start all out =
    ap (λ b. cond b (Some start) (position_from is_out (start + 1) (glyphs ++ glyph ∷ rest))) all.0
    ∙ out-at glyphs glyph rest (start + 1) all.1 out ∙ ap Some (omega arith)

pub out-first : (glyphs : List Placed) (glyph : Placed) (rest : List Placed) → Stand glyphs → is_out glyph ≡ true
    → first_out (glyphs ++ glyph ∷ rest) ≡ Some (length glyphs)
out-first glyphs glyph rest all out = out-at glyphs glyph rest 0 all out ∙ ap Some (omega arith)

-- ---- piece by piece

-- the first glyphs stand at their places, and the others have none yet
pub record Places (set : Setting) (pieces : List Piece) (i glyph : ℕ) (glyphs : List Placed) : Type 0 where
  pub done : take glyph glyphs ++ glyphs_behind set (take i pieces) (drop i pieces) ≡ glyphs_behind set [] pieces
  pub rest : drop glyph glyphs ≡ all_chosen set.stock set.ratio (drop i pieces)
  pub stand : Stand (take glyph glyphs)
  pub inside : glyph ≤ length glyphs

no-glyph : (set : Setting) (before : List Piece) (piece : Piece) → is_glyph piece ≡ false → glyph_behind set before piece ≡ []
no-glyph set before (Glyph font code) is = absurd (cc)
no-glyph set before (Space glue) is = refl
no-glyph set before (Move width) is = refl
no-glyph set before (FontMove font code fix width) is = refl

none-chosen : (stock : List Font) (ratio : ℤ) (piece : Piece) → is_glyph piece ≡ false → chosen_of stock ratio piece ≡ []
none-chosen stock ratio (Glyph font code) is = absurd (cc)
none-chosen stock ratio (Space glue) is = refl
none-chosen stock ratio (Move width) is = refl
none-chosen stock ratio (FontMove font code fix width) is = refl

chosen-step : (stock : List Font) (ratio : ℤ) (pieces : List Piece) (i : ℕ) (piece : Piece) → slice_get pieces i ≡ Some piece
    → all_chosen stock ratio (drop i pieces) ≡ chosen_of stock ratio piece ++ all_chosen stock ratio (drop (i + 1) pieces)
unfolding all_chosen
chosen-step stock ratio pieces i piece is =
    let one : suc i ≡ i + 1 = omega arith in
    ap (all_chosen stock ratio) (drop-next pieces i piece is)
    ∙ ap (λ (n : ℕ). chosen_of stock ratio piece ++ all_chosen stock ratio (drop n pieces)) one

-- a piece that is no glyph
pub places-pass : (set : Setting) (pieces : List Piece) (i glyph : ℕ) (glyphs : List Placed) (piece : Piece) → slice_get pieces i ≡ Some piece
    → is_glyph piece ≡ false → Places set pieces i glyph glyphs → Places set pieces (i + 1) glyph glyphs
places-pass set pieces i glyph glyphs piece is other kept =
    let behind = glyphs_behind set (take (i + 1) pieces) (drop (i + 1) pieces) in
    let none : glyphs_behind set (take i pieces) (drop i pieces) ≡ behind =
    placed-step set pieces i piece is ∙ ap (λ (gs : List Placed). gs ++ behind) (no-glyph set (take i pieces) piece other) in
    record {
      done = ap (λ (gs : List Placed). take glyph glyphs ++ gs) (sym none) ∙ kept.done;
      rest =
          kept.rest ∙ chosen-step set.stock set.ratio pieces i piece is
          ∙ ap (λ (gs : List Placed). gs ++ all_chosen set.stock set.ratio (drop (i + 1) pieces)) (none-chosen set.stock set.ratio piece other);
      stand = kept.stand;
      inside = kept.inside;
    }

-- the glyph that has no place yet is that of the piece
pub glyph-here : (set : Setting) (pieces : List Piece) (i font code glyph : ℕ) (glyphs : List Placed) → slice_get pieces i ≡ Some (Glyph font code)
    → Places set pieces i glyph glyphs
    → drop glyph glyphs ≡ with_step set.stock (chosen_step set.stock set.ratio font code) font code ∷ all_chosen set.stock set.ratio (drop (i + 1) pieces)
glyph-here set pieces i font code glyph glyphs is kept = kept.rest ∙ chosen-step set.stock set.ratio pieces i (Glyph font code) is

pub inside-here : {X : Type 0} (xs : List X) (n : ℕ) (x : X) (rest : List X) → drop n xs ≡ x ∷ rest → n < length xs
inside-here [] zero x rest is = absurd (cc)
inside-here [] (suc n) x rest is = absurd (cc)
inside-here (y ∷ ys) zero x rest is = omega arith
inside-here (y ∷ ys) (suc n) x rest is = omega (arith, inside-here ys n x rest is)

-- what is read there is that glyph
pub read-here : (glyphs : List Placed) (glyph : ℕ) (own old : Placed) (rest : List Placed) → drop glyph glyphs ≡ own ∷ rest
    → old ≡ get_or glyphs glyph old → old ≡ own
read-here [] zero own old rest is read = absurd (cc)
read-here [] (suc n) own old rest is read = absurd (cc)
read-here (g ∷ glyphs) zero own old rest is read = read ∙ ap (λ (gs : List Placed). unwrap_or (slice_get gs 0) g) is
read-here (g ∷ glyphs) (suc n) own old rest is read = read-here glyphs n own old rest is read

-- a glyph, which is given its place
pub places-glyph : (set : Setting) (pieces : List Piece) (i font code glyph : ℕ) (glyphs : List Placed) (new : Placed)
    → slice_get pieces i ≡ Some (Glyph font code) → Places set pieces i glyph glyphs
    → new ≡ placed_at (x_behind set (take i pieces)) (with_step set.stock (chosen_step set.stock set.ratio font code) font code)
    → is_out new ≡ false → Places set pieces (i + 1) (glyph + 1) (put glyphs glyph new)
places-glyph set pieces i font code glyph glyphs new is kept new_is stands =
    let piece : Piece = Glyph font code in
    let behind = glyphs_behind set (take (i + 1) pieces) (drop (i + 1) pieces) in
    let here = glyph-here set pieces i font code glyph glyphs is kept in
    let inside = inside-here glyphs glyph _ _ here in
    let one : suc glyph ≡ glyph + 1 = omega arith in
    let now : take (glyph + 1) (put glyphs glyph new) ≡ take glyph glyphs ++ new ∷ [] = take-set_at glyphs glyph (glyph + 1) new refl inside in
    record {
      done =
          ap (λ (gs : List Placed). gs ++ behind) now
          ∙ append_assoc (take glyph glyphs) (new ∷ []) behind
          ∙ ap (λ (g : Placed). take glyph glyphs ++ g ∷ behind) new_is
          ∙ ap (λ (gs : List Placed). take glyph glyphs ++ gs) (sym (placed-step set pieces i piece is))
          ∙ kept.done;
      rest =
          drop-set-lt (glyph + 1) glyphs glyph new (omega arith)
          ∙ ap (λ (n : ℕ). drop n glyphs) (sym one)
          ∙ drop-more glyphs glyph _ _ here;
      stand = subst Stand (sym now) (Stand-push (take glyph glyphs) new kept.stand stands);
      inside = rw (length-set glyphs glyph new) (omega (arith, inside));
    }
  where
    drop-more : (xs : List Placed) (n : ℕ) (x : Placed) (rest : List Placed) → drop n xs ≡ x ∷ rest → drop (suc n) xs ≡ rest
    drop-more [] zero x rest is = absurd (cc)
    drop-more [] (suc n) x rest is = absurd (cc)
    drop-more (y ∷ ys) zero x rest is = ap (λ (gs : List Placed). drop 1 gs) is
    drop-more (y ∷ ys) (suc n) x rest is = drop-more ys n x rest is

-- the first glyph that doesn't stand
pub out-here : (set : Setting) (pieces : List Piece) (i font code glyph : ℕ) (glyphs : List Placed) → slice_get pieces i ≡ Some (Glyph font code)
    → Places set pieces i glyph glyphs
    → is_out (placed_at (x_behind set (take i pieces)) (with_step set.stock (chosen_step set.stock set.ratio font code) font code)) ≡ true
    → first_out (glyphs_behind set [] pieces) ≡ Some glyph
out-here set pieces i font code glyph glyphs is kept out =
    let placed = placed_at (x_behind set (take i pieces)) (with_step set.stock (chosen_step set.stock set.ratio font code) font code) in
    let behind = glyphs_behind set (take (i + 1) pieces) (drop (i + 1) pieces) in
    ap first_out (sym kept.done ∙ ap (λ (gs : List Placed). take glyph glyphs ++ gs) (placed-step set pieces i (Glyph font code) is))
    ∙ out-first (take glyph glyphs) placed behind kept.stand out
    ∙ ap Some (length-take-le glyph glyphs kept.inside)

-- before the first piece
pub places-none : (set : Setting) (pieces : List Piece) (glyphs : List Placed) → glyphs ≡ all_chosen set.stock set.ratio pieces → Places set pieces 0 0 glyphs
places-none set pieces glyphs is = record { done = refl; rest = is; stand = tt; inside = omega arith }

-- behind the last
pub places-all : (set : Setting) (pieces : List Piece) (i glyph : ℕ) (glyphs : List Placed) → length pieces ≤ i → Places set pieces i glyph glyphs
    → (glyphs ≡ glyphs_behind set [] pieces) × (first_out (glyphs_behind set [] pieces) ≡ None)
unfolding all_chosen glyphs_behind
places-all set pieces i glyph glyphs past kept =
    let none : drop i pieces ≡ [] = drop_all i pieces past in
    let over : drop glyph glyphs ≡ [] = kept.rest ∙ ap (all_chosen set.stock set.ratio) none in
    let all : take glyph glyphs ≡ glyphs =
    sym (append-nil (take glyph glyphs)) ∙ ap (λ (gs : List Placed). take glyph glyphs ++ gs) (sym over) ∙ take-append-drop glyph glyphs in
    let same : glyphs ≡ glyphs_behind set [] pieces =
    sym all
    ∙ sym (append-nil (take glyph glyphs))
    ∙ ap (λ (ps : List Piece). take glyph glyphs ++ glyphs_behind set (take i pieces) ps) (sym none)
    ∙ kept.done in
    (same, ap first_out (sym same) ∙ out-none glyphs (subst Stand all kept.stand))
