-- Glyphs that get their steps and widths, piece by piece.
--     Keeps            what is kept of the pieces so far
--     keeps-none, asked-none   before the first piece
--     keeps-next, asked-next   one more piece
--     asked-glyph, asked-other   what a piece asks for
--     room-next        there is room for it
--     keeps-all, asked-all   behind the last
use Rattle.std.proofs.Common.{◌≡◌, ℕ, ◌+◌, ◌*◌, ◌^◌, ◌≤◌, refl, ap, sym, ◌∙◌, subst, arith, List, [], ◌∷◌, ◌++◌, append-nil, take, length, Some, ℤ, pos, ◌+ℤ◌}
use Rattle.std.specs.Prelude.{slice_get, count_by, unsigned_abs, vec_capacity, vec_len, Vec}
use Rattle.std.proofs.lemmas.Grind.{flat_map-append}
use Rattle.std.proofs.lemmas.List.{take_all}
use Rattle.font_stock.specs.declared.font.Font.{Font}
use Rattle.break_rule.specs.declared.line.Piece.{Piece}
use Rattle.break_rule.specs.declared.line.Piece.TheVariants.{Glyph, Space, Move, FontMove}
use Rattle.instance_core.specs.declared.cell.Cell.{Cell}
use Rattle.instance_core.specs.declared.font.BaseFont.{BaseFont}
use Rattle.instance_core.specs.declared.page.Placed.{Placed}
use Rattle.instance_core.specs.Cells.{in_cell_order, cell_at}
use Rattle.hpack_two.specs.declared.glyphs.Chosen.{Chosen}
use Rattle.hpack_two.specs.Answers.{touched_with}
use Rattle.std.specs.declared.alloc.Global.{Global}
use Rattle.hpack_two.specs.Choosing.{AreChosen, room_for}
use Rattle.hpack_two.specs.Lines.{chosen_of, all_chosen, is_glyph, higher, deeper, height_of_line, depth_of_line, stepped, stepped_cell}
use Rattle.hpack_two.specs.Widths.{natural, natural_of, chosen_step}
use Rattle.hpack_two.proofs.Cells.{touched-more}
use Rattle.hpack_two.proofs.Lists.{length-chosen, glyphs-before}
use Rattle.hpack_two.proofs.NextPieces.{natural-next, chosen-next, height-next, depth-next}

pub record Keeps (stock : List Font) (ratio : ℤ) (pieces : List Piece) (index : ℕ) (chosen : Chosen) : Type 0 where
  pub glyphs : chosen.glyphs.items ≡ all_chosen stock ratio (take index pieces)
  pub natural_is : chosen.natural ≡ natural stock ratio (take index pieces)
  pub height : chosen.height ≡ height_of_line stock (take index pieces)
  pub depth : chosen.depth ≡ depth_of_line stock (take index pieces)
  pub near : unsigned_abs chosen.natural ≤ index * 2 ^ 33
  pub room : count_by is_glyph pieces ≤ vec_capacity chosen.glyphs

-- the cells that were asked for the pieces so far
abbrev pub asked_in : List Font → ℤ → List Piece → List BaseFont → List Cell → ℕ → List Cell
asked_in stock ratio pieces bases before index = touched_with bases (stepped (all_chosen stock ratio (take index pieces))) before

-- what a piece makes of what was kept
pub record IsNext (stock : List Font) (ratio : ℤ) (piece : Piece) (old new : Chosen) : Type 0 where
  pub glyphs : new.glyphs.items ≡ old.glyphs.items ++ chosen_of stock ratio piece
  pub capacity : vec_capacity new.glyphs ≡ vec_capacity old.glyphs
  pub natural_is : new.natural ≡ old.natural +ℤ natural_of stock ratio piece
  pub near : unsigned_abs new.natural ≤ unsigned_abs old.natural + 2 ^ 33
  pub height : new.height ≡ higher stock old.height piece
  pub depth : new.depth ≡ deeper stock old.depth piece

pub keeps-none : (stock : List Font) (ratio : ℤ) (pieces : List Piece) (chosen : Chosen) → chosen.glyphs.items ≡ [] → chosen.natural ≡ pos 0
    → chosen.height ≡ pos 0 → chosen.depth ≡ pos 0 → count_by is_glyph pieces ≤ vec_capacity chosen.glyphs → Keeps stock ratio pieces 0 chosen
unfolding all_chosen natural height_of_line depth_of_line
keeps-none stock ratio pieces chosen glyphs natural_is height depth room =
    record { glyphs = glyphs; natural_is = natural_is; height = height; depth = depth; near = rw natural_is (omega arith); room = room }

pub keeps-next : (stock : List Font) (ratio : ℤ) (pieces : List Piece) (i : ℕ) (piece : Piece) (old new : Chosen)
    → slice_get pieces i ≡ Some piece → Keeps stock ratio pieces i old → IsNext stock ratio piece old new → Keeps stock ratio pieces (i + 1) new
keeps-next stock ratio pieces i piece old new is kept next = record {
  glyphs = next.glyphs ∙ ap (λ gs. gs ++ chosen_of stock ratio piece) kept.glyphs ∙ sym (chosen-next stock ratio pieces i piece is);
  natural_is = next.natural_is ∙ ap (λ v. v +ℤ natural_of stock ratio piece) kept.natural_is ∙ sym (natural-next stock ratio pieces i piece is);
  height = next.height ∙ ap (λ v. higher stock v piece) kept.height ∙ sym (height-next stock pieces i piece is);
  depth = next.depth ∙ ap (λ v. deeper stock v piece) kept.depth ∙ sym (depth-next stock pieces i piece is);
  near = omega (arith, next.near, kept.near);
  room = subst (λ (n : ℕ). count_by is_glyph pieces ≤ n) (sym next.capacity) kept.room;
}

pub stepped-append : (xs ys : List Placed) → stepped (xs ++ ys) ≡ stepped xs ++ stepped ys
unfolding stepped
stepped-append xs ys = flat_map-append (λ (glyph : Placed). stepped_cell glyph.cell) xs ys

-- there is room for the glyph of the next piece
pub room-next : (stock : List Font) (ratio : ℤ) (pieces : List Piece) (i : ℕ) (piece : Piece) (chosen : Chosen) → slice_get pieces i ≡ Some piece
    → Keeps stock ratio pieces i chosen → room_for piece (vec_len chosen.glyphs) (vec_capacity chosen.glyphs)
room-next stock ratio pieces i (Glyph font code) chosen is kept =
    let long : length chosen.glyphs.items ≡ count_by is_glyph (take i pieces) = ap length kept.glyphs ∙ length-chosen stock ratio (take i pieces) in
    omega (arith, chosen.glyphs.ok.0, long, glyphs-before pieces i font code is, kept.room)
room-next stock ratio pieces i (Space glue) chosen is kept = tt
room-next stock ratio pieces i (Move width) chosen is kept = tt
room-next stock ratio pieces i (FontMove font code fix width) chosen is kept = tt

pub empty-vec : (room : Vec Placed Global) → vec_len room ≡ 0 → room.items ≡ []
empty-vec room none = no-items room.items (omega (arith, room.ok.0, none))
  where
    no-items : (xs : List Placed) → length xs ≡ 0 → xs ≡ []
    no-items [] none = refl
    no-items (x ∷ xs) none = absurd (omega (arith, none))

-- a glyph is asked for where it is expanded, and nothing else is
pub asked-glyph : (stock : List Font) (ratio : ℤ) (piece : Piece) (font code : ℕ) (bases : List BaseFont) (before : List Cell)
    → piece ≡ Glyph font code
    → touched_with bases (stepped_cell (cell_at font (chosen_step stock ratio font code))) before
    ≡ touched_with bases (stepped (chosen_of stock ratio piece)) before
unfolding stepped
asked-glyph stock ratio piece font code bases before is =
    ap (λ (cells : List Cell). touched_with bases cells before)
    (sym (append-nil (stepped_cell (cell_at font (chosen_step stock ratio font code))))
    ∙ ap (λ (p : Piece). stepped (chosen_of stock ratio p)) (sym is))

pub asked-other : (stock : List Font) (ratio : ℤ) (piece : Piece) (bases : List BaseFont) (before : List Cell)
    → chosen_of stock ratio piece ≡ [] → before ≡ in_cell_order bases before → before ≡ touched_with bases (stepped (chosen_of stock ratio piece)) before
unfolding stepped
asked-other stock ratio piece bases before none is =
    is ∙ ap (λ (glyphs : List Placed). touched_with bases (stepped glyphs) before) (sym none)

pub asked-next : (stock : List Font) (ratio : ℤ) (pieces : List Piece) (i : ℕ) (piece : Piece) (bases : List BaseFont) (before old new : List Cell)
    → slice_get pieces i ≡ Some piece → old ≡ asked_in stock ratio pieces bases before i
    → new ≡ touched_with bases (stepped (chosen_of stock ratio piece)) old → new ≡ asked_in stock ratio pieces bases before (i + 1)
asked-next stock ratio pieces i piece bases before old new is kept next =
    let so_far = all_chosen stock ratio (take i pieces) in
    let own = chosen_of stock ratio piece in
    next
    ∙ ap (touched_with bases (stepped own)) kept
    ∙ touched-more bases (stepped so_far) (stepped own) before
    ∙ ap (λ (cells : List Cell). touched_with bases cells before) (sym (stepped-append so_far own) ∙ ap stepped (sym (chosen-next stock ratio pieces i piece is)))

pub asked-none : (stock : List Font) (ratio : ℤ) (pieces : List Piece) (bases : List BaseFont) (before : List Cell)
    → before ≡ in_cell_order bases before → before ≡ asked_in stock ratio pieces bases before 0
unfolding stepped all_chosen
asked-none stock ratio pieces bases before is = is

pub asked-all : (stock : List Font) (ratio : ℤ) (pieces : List Piece) (bases : List BaseFont) (before : List Cell) (i : ℕ) → length pieces ≤ i
    → asked_in stock ratio pieces bases before i ≡ touched_with bases (stepped (all_chosen stock ratio pieces)) before
asked-all stock ratio pieces bases before i past =
    ap (λ (ps : List Piece). touched_with bases (stepped (all_chosen stock ratio ps)) before) (take_all i pieces past)

pub keeps-all : (stock : List Font) (ratio : ℤ) (pieces : List Piece) (i : ℕ) (chosen : Chosen) → length pieces ≤ i → i ≤ 131076
    → Keeps stock ratio pieces i chosen → AreChosen stock ratio pieces chosen
keeps-all stock ratio pieces i chosen past few kept =
    let all : take i pieces ≡ pieces = take_all i pieces past in
    record {
      glyphs = kept.glyphs ∙ ap (all_chosen stock ratio) all;
      natural_is = kept.natural_is ∙ ap (natural stock ratio) all;
      height = kept.height ∙ ap (height_of_line stock) all;
      depth = kept.depth ∙ ap (depth_of_line stock) all;
      near = omega (arith, few, kept.near);
    }
