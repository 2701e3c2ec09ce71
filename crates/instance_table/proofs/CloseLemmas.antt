-- The receipt of a table, from the note of who claimed each cell.
use Rattle.std.proofs.Common.{◌≡◌, ℕ, ◌+◌, ◌<◌, ◌≤◌, refl, ap, sym, ◌∙◌, subst, arith, List, [], ◌∷◌, ◌++◌, append-nil, pos, map, length, get_or, ltb, Option, None, Some, All}
use Rattle.std.specs.List.{slice_get}
use Rattle.std.proofs.lemmas.Option.{get_or_from_slice_get}
use Rattle.std.proofs.lemmas.List.{map-append}
use Rattle.std.proofs.lemmas.List.Elements.{All-same, All-map}
use Rattle.instance_core.specs.declared.font.BaseFont.{BaseFont}
use Rattle.instance_core.specs.declared.page.Owner.{Owner}
use Rattle.instance_core.specs.declared.cell.Cell.{Cell}
use Rattle.instance_core.specs.Bases.{IsBase}
use Rattle.instance_core.specs.Cells.{cells_of, cell_at}
use Rattle.instance_table.specs.declared.view.Claimed.{Claimed}
use Rattle.instance_table.specs.declared.view.View.{View}
use Rattle.instance_table.specs.Closing.{IsAlone, IsNoted, Closes, claims_below, owner_of, owners_of, named, named_below}
use Rattle.instance_table.specs.Places.{cell_count, cell_of_number, state}
use Rattle.instance_table.specs.Rule.{Rule, claims_in}
use Rattle.instance_table.specs.Seats.{Standing}
use Rattle.instance_table.specs.Steps.{IsSeat}
use Rattle.instance_table.specs.Totals.{one_if}
use Rattle.instance_table.proofs.AloneLemmas.{claims_once, seen_claimed, claimed_seen, seen_below, claims_made, ends, are_drawn}
use Rattle.instance_table.proofs.CellOrder.{cells_are}
use Rattle.instance_table.proofs.OwnerLemmas.{one_more, named_below-is, All-claims_below}
use Rattle.instance_table.proofs.TotalLemmas.{one_if-small}

pub cell_is : (bases : List BaseFont) (n : ℕ) (cell : Cell) → slice_get (cells_of bases) n ≡ Some cell → cell_of_number bases n ≡ cell
unfolding cell_of_number
cell_is bases n cell found = get_or_from_slice_get (cells_of bases) n cell (cell_at 0 (pos 0)) found

-- one cell more of a note
listed-more : (bases : List BaseFont) (builders : List (Option ℕ)) (cell : ℕ)
    → owners_of bases (named_below builders (cell + 1))
    ≡ owners_of bases (named_below builders cell) ++ owners_of bases (named cell (get_or builders cell None))
listed-more bases builders cell =
    ap (λ k. owners_of bases (named_below builders k)) (one_more cell)
    ∙ map-append (owner_of bases) (named_below builders cell) (named cell (get_or builders cell None))

pub listed-some : (bases : List BaseFont) (builders : List (Option ℕ)) (n : ℕ) (cell : Cell) (worker : ℕ) → slice_get (cells_of bases) n ≡ Some cell
    → get_or builders n None ≡ Some worker
    → owners_of bases (named_below builders n) ++ (record { cell = cell; worker = worker }) ∷ [] ≡ owners_of bases (named_below builders (n + 1))
listed-some bases builders n cell worker found is =
    ap {B = List Owner} (λ (c : Cell). owners_of bases (named_below builders n) ++ (record { cell = c; worker = worker }) ∷ []) (sym (cell_is bases n cell found))
    ∙ sym (listed-more bases builders n ∙ ap (λ o. owners_of bases (named_below builders n) ++ owners_of bases (named n o)) is)

pub listed-none : (bases : List BaseFont) (builders : List (Option ℕ)) (n : ℕ) → get_or builders n None ≡ None
    → owners_of bases (named_below builders n) ≡ owners_of bases (named_below builders (n + 1))
listed-none bases builders n is =
    sym (append-nil (owners_of bases (named_below builders n)))
    ∙ sym (listed-more bases builders n ∙ ap (λ o. owners_of bases (named_below builders n) ++ owners_of bases (named n o)) is)

pub closes : (t : Standing) (words : List ℕ) (views : List View) (seat : ℕ) (v : View) → Rule t.bases t.draws words views → IsSeat views seat v
    → v.number ≡ 0 → v.building ≡ None → IsAlone v → All IsBase t.bases
    → (builders : List (Option ℕ)) (claims : List Claimed) (owners : List Owner) (made : ℕ) → claims ≡ v.claims → made ≡ v.made
    → IsNoted builders claims → length builders ≡ cell_count t.bases → owners ≡ owners_of t.bases (named_below builders (length builders))
    → Closes t v (record { owners = owners; bases = t.bases; seats = made })
closes t words views seat v r at first free alone each builders claims owners made same count noted long listed =
    let noted' : IsNoted builders v.claims = subst (IsNoted builders) same noted in
    let few : (cell : ℕ) → cell < length builders → claims_in cell v.claims ≤ 1 =
    λ cell small.
    let once = claims_once t words views seat v r at first free alone cell (omega arith) in
    let little = one_if-small (ltb 0 (state words cell)) in omega arith in
    let is : owners ≡ owners_of t.bases (claims_below v.claims (cell_count t.bases)) =
    listed ∙ (ap (owners_of t.bases) (named_below-is builders v.claims (length builders) noted' (omega arith) few)
    ∙ ap (λ n. owners_of t.bases (claims_below v.claims n)) long) in
    let theirs = All-map (λ (o : Owner). o.worker < made) (owner_of t.bases) (claims_below v.claims (cell_count t.bases))
    (All-claims_below (λ (e : Claimed). e.number < made) v.claims (cell_count t.bases)
    (subst (λ (k : ℕ). All (λ (e : Claimed). e.number < k) v.claims) (sym count) (claims_made t words views seat v r at first free alone))) in record {
      owners = is;
      cells = ap (map (λ (o : Owner). o.cell)) is
          ∙ cells_are t.bases each v.seen v.claims (seen_below t words views seat v r at first free alone)
          (seen_claimed t words views seat v r at first free alone) (claimed_seen t words views seat v r at first free alone);
      workers = All-same (λ (o : Owner). o.worker < made) owners _ is theirs;
      bases = refl;
      seats = count;
      drawn = are_drawn t words views seat v r at first free alone;
      last = ends t words views seat v r at first free alone;
    }
