use Rattle.std.proofs.Common.{◌≡◌, ℕ, None, sym, ap, subst, ◌∙◌, arith}
use Rattle.std.proofs.lemmas.Result.{err_from_is_err_and}
use Rattle.tfm_read.specs.declared.lengths.Places.{Places}
use Rattle.tfm_read.specs.Characters.{AreChars}
use Rattle.tfm_read.specs.Checks.{char_check, table_check, characters_fault}
use Rattle.tfm_read.specs.Entries.{first_of}
use Rattle.tfm_read.specs.Lengths.{code_count, places_of}
use Rattle.tfm_read.proofs.Answering.{answers_whole}
use Rattle.tfm_read.proofs.CharTables.{chars_read, moved, moved_check, characters_none, fault_in_chars, fault_in_widths, fault_in_heights, fault_in_depths, fault_in_italics}
use Rattle.tfm_read.proofs.Parts.{parts_within}
use Rattle.tfm_read.proofs.characters.read_characters.Goals as goal

pub returns-in_err-indices : goal.returns-in_err-indices
returns-in_err-indices c =
    let p = err_from_is_err_and c.from_residual.result c.from_residual.ensures.1 in
    rw (p.1, p.2)
    (answers_whole _ (AreChars c.args.bytes.now c.args.lengths.now) c.in_err-indices.field-0.0 (first_of (char_check c.args.bytes.now c.args.lengths.now c.places-places.result.chars) (code_count c.args.lengths.now)) (characters_fault c.args.bytes.now c.args.lengths.now)
    (λ fault here. fault_in_chars c.args.bytes.now c.args.lengths.now fault (sym (ap (λ (p : Places). first_of (char_check c.args.bytes.now c.args.lengths.now p.chars) (code_count c.args.lengths.now)) c.places-places.ensures) ∙ here)) c.in_err-indices.ensures)

pub read_table-requires-clause-within : goal.read_table-requires-clause-within
read_table-requires-clause-within c =
    let within = parts_within c.args.lengths.now in
    omega (arith, within.widths, ap (λ (p : Places). p.widths) c.places-places.ensures, c.from.ensures, c.requires.within)

pub read_table-requires-clause-few : goal.read_table-requires-clause-few
read_table-requires-clause-few c =
    let within = parts_within c.args.lengths.now in
    omega (arith, within.widths, ap (λ (p : Places). p.widths) c.places-places.ensures, c.from.ensures, c.requires.end)

pub returns-in_err-read_table : goal.returns-in_err-read_table
returns-in_err-read_table c =
    let p = err_from_is_err_and c.from_residual-in_err-read_table.result c.from_residual-in_err-read_table.ensures.1 in
    let chars_none : first_of (char_check c.args.bytes.now c.args.lengths.now (places_of c.args.lengths.now).chars) (code_count c.args.lengths.now) ≡ None =
    subst (λ (p : ℕ). first_of (char_check c.args.bytes.now c.args.lengths.now p) (code_count c.args.lengths.now) ≡ None) (ap (λ (p : Places). p.chars) c.places-places.ensures) c.in_ok-indices.ensures.0 in
    rw (p.1, p.2)
    (answers_whole _ (AreChars c.args.bytes.now c.args.lengths.now) c.in_err-read_table.field-0.0 (first_of (table_check c.args.bytes.now c.places-places.result.widths) c.from.result) (characters_fault c.args.bytes.now c.args.lengths.now)
    (λ fault here. fault_in_widths c.args.bytes.now c.args.lengths.now fault chars_none (sym (moved_check c.args.bytes.now _ _ _ _ (ap (λ (p : Places). p.widths) c.places-places.ensures) c.from.ensures) ∙ here)) c.in_err-read_table.ensures)

pub read_table-requires-2-clause-within : goal.read_table-requires-2-clause-within
read_table-requires-2-clause-within c =
    let within = parts_within c.args.lengths.now in
    omega (arith, within.heights, ap (λ (p : Places). p.heights) c.places-places.ensures, c.from-2.ensures, c.requires.within)

pub read_table-requires-2-clause-few : goal.read_table-requires-2-clause-few
read_table-requires-2-clause-few c =
    let within = parts_within c.args.lengths.now in
    omega (arith, within.heights, ap (λ (p : Places). p.heights) c.places-places.ensures, c.from-2.ensures, c.requires.end)

pub returns-in_err-read_table-2 : goal.returns-in_err-read_table-2
returns-in_err-read_table-2 c =
    let p = err_from_is_err_and c.from_residual-in_err-read_table-2.result c.from_residual-in_err-read_table-2.ensures.1 in
    let chars_none : first_of (char_check c.args.bytes.now c.args.lengths.now (places_of c.args.lengths.now).chars) (code_count c.args.lengths.now) ≡ None =
    subst (λ (p : ℕ). first_of (char_check c.args.bytes.now c.args.lengths.now p) (code_count c.args.lengths.now) ≡ None) (ap (λ (p : Places). p.chars) c.places-places.ensures) c.in_ok-indices.ensures.0 in
    let widths = moved c.args.bytes.now c.places-places.result.widths (places_of c.args.lengths.now).widths c.from.result c.args.lengths.now.widths c.read_table.new.table (ap (λ (p : Places). p.widths) c.places-places.ensures) c.from.ensures c.in_ok-read_table.ensures in
    rw (p.1, p.2)
    (answers_whole _ (AreChars c.args.bytes.now c.args.lengths.now) c.in_err-read_table-2.field-0.0 (first_of (table_check c.args.bytes.now c.places-places.result.heights) c.from-2.result) (characters_fault c.args.bytes.now c.args.lengths.now)
    (λ fault here. fault_in_heights c.args.bytes.now c.args.lengths.now fault chars_none widths.0 (sym (moved_check c.args.bytes.now _ _ _ _ (ap (λ (p : Places). p.heights) c.places-places.ensures) c.from-2.ensures) ∙ here)) c.in_err-read_table-2.ensures)

pub read_table-requires-3-clause-within : goal.read_table-requires-3-clause-within
read_table-requires-3-clause-within c =
    let within = parts_within c.args.lengths.now in
    omega (arith, within.depths, ap (λ (p : Places). p.depths) c.places-places.ensures, c.from-3.ensures, c.requires.within)

pub read_table-requires-3-clause-few : goal.read_table-requires-3-clause-few
read_table-requires-3-clause-few c =
    let within = parts_within c.args.lengths.now in
    omega (arith, within.depths, ap (λ (p : Places). p.depths) c.places-places.ensures, c.from-3.ensures, c.requires.end)

pub returns-in_err-read_table-3 : goal.returns-in_err-read_table-3
returns-in_err-read_table-3 c =
    let p = err_from_is_err_and c.from_residual-in_err-read_table-3.result c.from_residual-in_err-read_table-3.ensures.1 in
    let chars_none : first_of (char_check c.args.bytes.now c.args.lengths.now (places_of c.args.lengths.now).chars) (code_count c.args.lengths.now) ≡ None =
    subst (λ (p : ℕ). first_of (char_check c.args.bytes.now c.args.lengths.now p) (code_count c.args.lengths.now) ≡ None) (ap (λ (p : Places). p.chars) c.places-places.ensures) c.in_ok-indices.ensures.0 in
    let widths = moved c.args.bytes.now c.places-places.result.widths (places_of c.args.lengths.now).widths c.from.result c.args.lengths.now.widths c.read_table.new.table (ap (λ (p : Places). p.widths) c.places-places.ensures) c.from.ensures c.in_ok-read_table.ensures in
    let heights = moved c.args.bytes.now c.places-places.result.heights (places_of c.args.lengths.now).heights c.from-2.result c.args.lengths.now.heights c.read_table-2.new.table (ap (λ (p : Places). p.heights) c.places-places.ensures) c.from-2.ensures c.in_ok-read_table-2.ensures in
    rw (p.1, p.2)
    (answers_whole _ (AreChars c.args.bytes.now c.args.lengths.now) c.in_err-read_table-3.field-0.0 (first_of (table_check c.args.bytes.now c.places-places.result.depths) c.from-3.result) (characters_fault c.args.bytes.now c.args.lengths.now)
    (λ fault here. fault_in_depths c.args.bytes.now c.args.lengths.now fault chars_none widths.0 heights.0 (sym (moved_check c.args.bytes.now _ _ _ _ (ap (λ (p : Places). p.depths) c.places-places.ensures) c.from-3.ensures) ∙ here)) c.in_err-read_table-3.ensures)

pub read_table-requires-4-clause-within : goal.read_table-requires-4-clause-within
read_table-requires-4-clause-within c =
    let within = parts_within c.args.lengths.now in
    omega (arith, within.italics, ap (λ (p : Places). p.italics) c.places-places.ensures, c.from-4.ensures, c.requires.within)

pub read_table-requires-4-clause-few : goal.read_table-requires-4-clause-few
read_table-requires-4-clause-few c =
    let within = parts_within c.args.lengths.now in
    omega (arith, within.italics, ap (λ (p : Places). p.italics) c.places-places.ensures, c.from-4.ensures, c.requires.end)

pub returns-in_err-read_table-4 : goal.returns-in_err-read_table-4
returns-in_err-read_table-4 c =
    let p = err_from_is_err_and c.from_residual-in_err-read_table-4.result c.from_residual-in_err-read_table-4.ensures.1 in
    let chars_none : first_of (char_check c.args.bytes.now c.args.lengths.now (places_of c.args.lengths.now).chars) (code_count c.args.lengths.now) ≡ None =
    subst (λ (p : ℕ). first_of (char_check c.args.bytes.now c.args.lengths.now p) (code_count c.args.lengths.now) ≡ None) (ap (λ (p : Places). p.chars) c.places-places.ensures) c.in_ok-indices.ensures.0 in
    let widths = moved c.args.bytes.now c.places-places.result.widths (places_of c.args.lengths.now).widths c.from.result c.args.lengths.now.widths c.read_table.new.table (ap (λ (p : Places). p.widths) c.places-places.ensures) c.from.ensures c.in_ok-read_table.ensures in
    let heights = moved c.args.bytes.now c.places-places.result.heights (places_of c.args.lengths.now).heights c.from-2.result c.args.lengths.now.heights c.read_table-2.new.table (ap (λ (p : Places). p.heights) c.places-places.ensures) c.from-2.ensures c.in_ok-read_table-2.ensures in
    let depths = moved c.args.bytes.now c.places-places.result.depths (places_of c.args.lengths.now).depths c.from-3.result c.args.lengths.now.depths c.read_table-3.new.table (ap (λ (p : Places). p.depths) c.places-places.ensures) c.from-3.ensures c.in_ok-read_table-3.ensures in
    rw (p.1, p.2)
    (answers_whole _ (AreChars c.args.bytes.now c.args.lengths.now) c.in_err-read_table-4.field-0.0 (first_of (table_check c.args.bytes.now c.places-places.result.italics) c.from-4.result) (characters_fault c.args.bytes.now c.args.lengths.now)
    (λ fault here. fault_in_italics c.args.bytes.now c.args.lengths.now fault chars_none widths.0 heights.0 depths.0 (sym (moved_check c.args.bytes.now _ _ _ _ (ap (λ (p : Places). p.italics) c.places-places.ensures) c.from-4.ensures) ∙ here)) c.in_err-read_table-4.ensures)

pub returns : goal.returns
returns c =
    let chars_none : first_of (char_check c.args.bytes.now c.args.lengths.now (places_of c.args.lengths.now).chars) (code_count c.args.lengths.now) ≡ None =
    subst (λ (p : ℕ). first_of (char_check c.args.bytes.now c.args.lengths.now p) (code_count c.args.lengths.now) ≡ None) (ap (λ (p : Places). p.chars) c.places-places.ensures) c.in_ok-indices.ensures.0 in
    let widths = moved c.args.bytes.now c.places-places.result.widths (places_of c.args.lengths.now).widths c.from.result c.args.lengths.now.widths c.read_table.new.table (ap (λ (p : Places). p.widths) c.places-places.ensures) c.from.ensures c.in_ok-read_table.ensures in
    let heights = moved c.args.bytes.now c.places-places.result.heights (places_of c.args.lengths.now).heights c.from-2.result c.args.lengths.now.heights c.read_table-2.new.table (ap (λ (p : Places). p.heights) c.places-places.ensures) c.from-2.ensures c.in_ok-read_table-2.ensures in
    let depths = moved c.args.bytes.now c.places-places.result.depths (places_of c.args.lengths.now).depths c.from-3.result c.args.lengths.now.depths c.read_table-3.new.table (ap (λ (p : Places). p.depths) c.places-places.ensures) c.from-3.ensures c.in_ok-read_table-3.ensures in
    let italics = moved c.args.bytes.now c.places-places.result.italics (places_of c.args.lengths.now).italics c.from-4.result c.args.lengths.now.italics c.read_table-4.new.table (ap (λ (p : Places). p.italics) c.places-places.ensures) c.from-4.ensures c.in_ok-read_table-4.ensures in (
      characters_none c.args.bytes.now c.args.lengths.now chars_none widths.0 heights.0 depths.0 italics.0,
      chars_read c.args.bytes.now (λ i. omega (arith, c.type_inv.bytes i)) c.args.lengths.now _ c.in_ok-indices.indices c.in_ok-characters.field-0
          (record {
            width_len = omega (arith, c.read_table.auto.table, c.no_sizes-widths.ensures);
            height_len = omega (arith, c.read_table-2.auto.table, c.no_sizes-heights.ensures);
            depth_len = omega (arith, c.read_table-3.auto.table, c.no_sizes-depths.ensures);
            widths = widths.1;
            heights = heights.1;
            depths = depths.1;
          })
          c.in_ok-indices.ensures.1 c.in_ok-characters.ensures,
    )
