-- What a seat keeps beside its view, after each step.
use Rattle.std.proofs.Common.{◌≡◌, ◌≢◌, ℕ, ◌+◌, ◌<◌, ◌≤◌, refl, ap, sym, ◌∙◌, subst, arith, Bool, true, false, cond, List, [], ◌∷◌, ◌++◌, length, get_or, replicate, ◌*◌, eqb, Option, Some, None, All, IfSome}
use Rattle.std.proofs.lemmas.List.Elements.{All-push, All-append, All-nil}
use lib.ListN.{length-replicate}
use Rattle.atomic_table.specs.Table.{Me}
use Rattle.instance_core.specs.declared.font.BaseFont.{BaseFont}
use Rattle.instance_core.specs.Cells.{cells_of}
use Rattle.instance_table.specs.declared.view.Building.{Building}
use Rattle.instance_table.specs.declared.view.Claimed.{Claimed}
use Rattle.instance_table.specs.declared.view.View.{View}
use Rattle.instance_table.specs.Places.{cell_count, word_count}
use Rattle.instance_table.specs.Rule.{Rule}
use Rattle.instance_table.specs.Seats.{IsSat}
use Rattle.instance_table.specs.Steps.{first_view, after_split, split_off, looked, lost, won, stored, published, has_read, drew, joined_with, with_ready}
use Rattle.instance_table.proofs.AllSteps.{blank_rule, zeros_are_zero}

pub count_is : (bases : List BaseFont) (cells : ℕ) → cells ≡ length (cells_of bases) → cell_count bases ≡ cells
unfolding cell_count
count_is bases cells e = sym e

pub word_count_is : (bases copy : List BaseFont) (cells : ℕ) (words : List ℕ) → cells ≡ length (cells_of bases) → copy ≡ bases
    → words ≡ replicate (1 + 257 * cells) 0 → length words ≡ word_count copy
word_count_is bases copy cells words count same are =
    ap length are ∙ (length-replicate (1 + 257 * cells) 0 ∙ ap (λ k. 1 + 257 * k) (sym (ap cell_count same ∙ count_is bases cells count)))

pub zero_words : (bases copy : List BaseFont) (draws cells : ℕ) (words : List ℕ) → draws < 4294967296 → cells ≡ length (cells_of bases)
    → copy ≡ bases → words ≡ replicate (1 + 257 * cells) 0 → Rule copy draws words (first_view copy draws ∷ [])
zero_words bases copy draws cells words few count same are =
    blank_rule copy draws words few (word_count_is bases copy cells words count same are) (λ k. ap (λ ws. get_or ws k 0) are ∙ zeros_are_zero (1 + 257 * cells) k)

more_ready : (v : View) (cell word : ℕ) → cell < cell_count v.bases → All (λ c. c < cell_count v.bases) v.ready
    → All (λ c. c < cell_count v.bases) (with_ready cell word v.ready)
more_ready v cell word below each = by_test (eqb word 1)
  where
    by_test : (b : Bool) → All (λ c. c < cell_count v.bases) (cond b (v.ready ++ cell ∷ []) v.ready)
    by_test true = All-push (λ c. c < cell_count v.bases) v.ready cell each below
    by_test false = each

module _ (me me' : Me ℕ View) (number made : ℕ) (building : Option Building) (claims : List Claimed) (room : ℕ) where
  -- a seat whose view is this one
  seated : (w : View) (made' : ℕ) (building' : Option Building) (claims' : List Claimed) → me'.0 ≡ w
      → IsSat (w, me'.1) number made' building' claims' room → IsSat me' number made' building' claims' room
  seated w made' building' claims' is sat = subst (λ (x : View). IsSat (x, me'.1) number made' building' claims' room) (sym is) sat

  pub sat_split : IsSat me number made building claims room → me' ≡ (after_split me.0, me.1) → me.0.number ≡ 0
      → IsSat me' number (made + 1) building claims room
  sat_split sat is first = subst (λ (x : Me ℕ View). IsSat x number (made + 1) building claims room) (sym is) record {
    no_slot = sat.no_slot;
    live = sat.live;
    number_same = sat.number_same;
    made_same = λ e. ap (λ k. k + 1) (sat.made_same e);
    building_same = sat.building_same;
    claims_same = sat.claims_same;
    room_for_all = sat.room_for_all;
    builds_cell = sat.builds_cell;
    ready_cells = sat.ready_cells;
  }

  module _ (sat : IsSat me number made building claims room) (slots : me'.1 ≡ me.1) where
    pub sat_looked : (cell word : ℕ) → me'.0 ≡ looked me.0 cell word → cell < cell_count me.0.bases → IsSat me' number made building claims room
    sat_looked cell word is below = seated (looked me.0 cell word) made building claims is record {
      no_slot = slots ∙ sat.no_slot;
      live = sat.live;
      number_same = sat.number_same;
      made_same = sat.made_same;
      building_same = sat.building_same;
      claims_same = sat.claims_same;
      room_for_all = sat.room_for_all;
      builds_cell = sat.builds_cell;
      ready_cells = more_ready me.0 cell word below sat.ready_cells;
    }

    pub sat_lost : (cell word : ℕ) → me'.0 ≡ lost me.0 cell word → cell < cell_count me.0.bases → IsSat me' number made building claims room
    sat_lost cell word is below = seated (lost me.0 cell word) made building claims is record {
      no_slot = slots ∙ sat.no_slot;
      live = sat.live;
      number_same = sat.number_same;
      made_same = sat.made_same;
      building_same = sat.building_same;
      claims_same = sat.claims_same;
      room_for_all = sat.room_for_all;
      builds_cell = sat.builds_cell;
      ready_cells = more_ready me.0 cell word below sat.ready_cells;
    }

    pub sat_won : (cell : ℕ) → me'.0 ≡ won me.0 cell → cell < cell_count me.0.bases
        → IsSat me' number made (Some (record { cell = cell; stored = 0 })) (claims ++ (record { cell = cell; number = number }) ∷ []) room
    sat_won cell is below = seated (won me.0 cell) made (Some (record { cell = cell; stored = 0 })) (claims ++ (record { cell = cell; number = number }) ∷ []) is record {
      no_slot = slots ∙ sat.no_slot;
      live = sat.live;
      number_same = sat.number_same;
      made_same = sat.made_same;
      building_same = refl;
      claims_same =
          let same : record { cell = cell; number = number } ≡ record { cell = cell; number = me.0.number } =
          ap {B = Claimed} (λ (k : ℕ). record { cell = cell; number = k }) sat.number_same in
          ap (λ es. es ++ (record { cell = cell; number = number }) ∷ []) sat.claims_same ∙ ap (λ (e : Claimed). me.0.claims ++ e ∷ []) same;
      room_for_all = sat.room_for_all;
      builds_cell = (below, omega arith);
      ready_cells = sat.ready_cells;
    }

    pub sat_stored : (b : Building) → me.0.building ≡ Some b → b.stored < 256 → me'.0 ≡ stored me.0 b
        → IsSat me' number made (Some (record { cell = b.cell; stored = b.stored + 1 })) claims room
    sat_stored b builds more is = seated (stored me.0 b) made (Some (record { cell = b.cell; stored = b.stored + 1 })) claims is record {
      no_slot = slots ∙ sat.no_slot;
      live = sat.live;
      number_same = sat.number_same;
      made_same = sat.made_same;
      building_same = refl;
      claims_same = sat.claims_same;
      room_for_all = sat.room_for_all;
      builds_cell = (
        (subst (λ (x : Option Building). IfSome x (λ y. (y.cell < cell_count me.0.bases) × (y.stored ≤ 256))) builds sat.builds_cell).0,
        omega arith,
      );
      ready_cells = sat.ready_cells;
    }

    pub sat_published : (b : Building) → me.0.building ≡ Some b → me'.0 ≡ published me.0 b.cell → IsSat me' number made None claims room
    sat_published b builds is = seated (published me.0 b.cell) made None claims is record {
      no_slot = slots ∙ sat.no_slot;
      live = sat.live;
      number_same = sat.number_same;
      made_same = sat.made_same;
      building_same = refl;
      claims_same = sat.claims_same;
      room_for_all = sat.room_for_all;
      builds_cell = tt;
      ready_cells = All-push (λ c. c < cell_count me.0.bases) me.0.ready b.cell sat.ready_cells
          (subst (λ (x : Option Building). IfSome x (λ y. (y.cell < cell_count me.0.bases) × (y.stored ≤ 256))) builds sat.builds_cell).0;
    }

    pub sat_read : (cell code word : ℕ) → me'.0 ≡ has_read me.0 cell code word → IsSat me' number made building claims room
    sat_read cell code word is = seated (has_read me.0 cell code word) made building claims is record {
      no_slot = slots ∙ sat.no_slot;
      live = sat.live;
      number_same = sat.number_same;
      made_same = sat.made_same;
      building_same = sat.building_same;
      claims_same = sat.claims_same;
      room_for_all = sat.room_for_all;
      builds_cell = sat.builds_cell;
      ready_cells = sat.ready_cells;
    }

    pub sat_drew : (word : ℕ) → me'.0 ≡ drew me.0 word → IsSat me' number made building claims room
    sat_drew word is = seated (drew me.0 word) made building claims is record {
      no_slot = slots ∙ sat.no_slot;
      live = sat.live;
      number_same = sat.number_same;
      made_same = sat.made_same;
      building_same = sat.building_same;
      claims_same = sat.claims_same;
      room_for_all = sat.room_for_all;
      builds_cell = sat.builds_cell;
      ready_cells = sat.ready_cells;
    }

pub sat_first : (me : Me ℕ View) (bases : List BaseFont) (draws room : ℕ) (claims : List Claimed) → me ≡ (first_view bases draws, []) → claims ≡ []
    → cell_count bases ≤ room → IsSat me 0 1 None claims room
sat_first me bases draws room claims is none_yet big = subst (λ (x : Me ℕ View). IsSat x 0 1 None claims room) (sym is) record {
  no_slot = refl;
  live = refl;
  number_same = refl;
  made_same = λ e. refl;
  building_same = refl;
  claims_same = none_yet;
  room_for_all = big;
  builds_cell = tt;
  ready_cells = All-nil (λ c. c < cell_count bases);
}

pub sat_new : (me : Me ℕ View) (v : View) (number room : ℕ) (claims : List Claimed) → me ≡ (split_off v, []) → number ≡ v.made → claims ≡ []
    → cell_count v.bases ≤ room → IsSat me number 0 None claims room
sat_new me v number room claims is same none_yet big = subst (λ (x : Me ℕ View). IsSat x number 0 None claims room) (sym is) record {
  no_slot = refl;
  live = refl;
  number_same = same;
  made_same = λ e. refl;
  building_same = refl;
  claims_same = none_yet;
  room_for_all = big;
  builds_cell = tt;
  ready_cells = All-nil (λ c. c < cell_count v.bases);
}

pub sat_joined : (me me' : Me ℕ View) (w : View) (number made room room' : ℕ) (building : Option Building) (claims claims' claims'' : List Claimed)
    → IsSat me number made building claims room → me' ≡ (joined_with me.0 w, me.1) → w.bases ≡ me.0.bases
    → All (λ c. c < cell_count w.bases) w.ready → claims' ≡ w.claims → claims'' ≡ claims ++ claims' → room' ≡ room
    → IsSat me' number made building claims'' room'
sat_joined me me' w number made room room' building claims claims' claims'' sat is same ready theirs all as_big =
    subst (λ (x : Me ℕ View). IsSat x number made building claims'' room') (sym is) record {
      no_slot = sat.no_slot;
      live = sat.live;
      number_same = sat.number_same;
      made_same = sat.made_same;
      building_same = sat.building_same;
      claims_same = all ∙ (ap (λ es. es ++ claims') sat.claims_same ∙ ap (λ es. me.0.claims ++ es) theirs);
      room_for_all = let big = sat.room_for_all in omega arith;
      builds_cell = sat.builds_cell;
      ready_cells = All-append (λ c. c < cell_count me.0.bases) me.0.ready w.ready sat.ready_cells
          (subst (λ (bs : List BaseFont). All (λ c. c < cell_count bs) w.ready) same ready);
    }
