-- The characters that the char_info words and the tables of sizes make are those of the file.
use Rattle.std.proofs.Common.{◌≡◌, ℕ, ◌+◌, ◌-◌, ◌<◌, Bool, true, false, ◌&&◌, cond, eqb, ltb, leb, List, Option, Some, None, length, get_or, ℤ, refl, ap, subst, ◌∙◌, arith}
use Rattle.std.proofs.lemmas.Bool.{ltb-true}
use Rattle.tfm_read.specs.declared.character.CharInfo.{CharInfo}
use Rattle.tfm_read.specs.declared.indices.Indices.{Indices}
use Rattle.tfm_read.specs.declared.indices.Tables.{Tables}
use Rattle.tfm_read.specs.declared.lengths.Lengths.{Lengths}
use Rattle.tfm_read.specs.Characters.{AreIndices, AreChars, are_within, has_program, char_by, char_of, chars_of, indices_in, indices_of, no_indices}
use Rattle.tfm_read.specs.Entries.{entries, first_of}
use Rattle.tfm_read.specs.Checks.{Fault, char_check, table_check, characters_fault}
use Rattle.tfm_read.specs.Lengths.{code_count, places_of}
use Rattle.micro_num.specs.Scaling.{IsFixWord}
use Rattle.tfm_read.specs.Ranges.{CharFits, IsPlaceIn, no_char}
use Rattle.tfm_read.specs.Sizes.{IsTable}
use Rattle.tfm_read.specs.Words.{word_of}
use Rattle.tfm_read.proofs.Entries.{entries_same, length-entries, get_or-entries}
use Rattle.tfm_read.proofs.FixWords.{byte_fits, zero_fits}

-- each index is a byte
record AreBytes (i : Indices) : Type 0 where
  pub width : i.width < 256
  pub height : i.height < 256
  pub depth : i.depth < 256

in_are_bytes : (bytes : List ℕ) → ((i : ℕ) → get_or bytes i 0 < 256) → (place : ℕ) → AreBytes (indices_in (word_of bytes place))
unfolding indices_in
in_are_bytes bytes fits place = record {
  width = byte_fits bytes fits place 0;
  height = omega (arith, byte_fits bytes fits place 1);
  depth = omega (arith, byte_fits bytes fits place 1);
}

are_bytes : (bytes : List ℕ) → ((i : ℕ) → get_or bytes i 0 < 256) → (l : Lengths) (code : ℕ) → AreBytes (indices_of bytes l code)
unfolding indices_of
are_bytes bytes fits l code =
    elim (leb l.first_code code && leb code l.last_code) as (λ b. AreBytes (cond b (indices_in (word_of bytes ((places_of l).chars + (code - l.first_code)))) no_indices)) [
      | true ↦ in_are_bytes bytes fits ((places_of l).chars + (code - l.first_code))
      | false ↦ record { width = omega arith; height = omega arith; depth = omega arith }
    ]

both : (a b : Bool) → (a && b) ≡ true → (a ≡ true) × (b ≡ true)
both true b e = (refl, e)
both false b e = absurd cc

-- where the tests say so, each index is in its table
record AreIn (l : Lengths) (i : Indices) : Type 0 where
  pub width : i.width < l.widths
  pub height : i.height < l.heights
  pub depth : i.depth < l.depths
  pub program : IsPlaceIn l.ligs i.program

program_in : (l : Lengths) (program : Option ℕ) → has_program l program ≡ true → IsPlaceIn l.ligs program
program_in l None e p is = absurd cc
program_in l (Some place) e p is = let same : place ≡ p = cc in omega (arith, ltb-true _ _ e)

are_in : (l : Lengths) (i : Indices) → are_within l i ≡ true → AreIn l i
are_in l i e =
    let four = both (ltb i.width l.widths && ltb i.height l.heights && ltb i.depth l.depths && ltb i.italic l.italics) (has_program l i.program) e in
    let three = both (ltb i.width l.widths && ltb i.height l.heights && ltb i.depth l.depths) (ltb i.italic l.italics) four.0 in
    let two = both (ltb i.width l.widths && ltb i.height l.heights) (ltb i.depth l.depths) three.0 in
    let one = both (ltb i.width l.widths) (ltb i.height l.heights) two.0 in
    record {
      width = ltb-true _ _ one.0;
      height = ltb-true _ _ one.1;
      depth = ltb-true _ _ two.1;
      program = program_in l i.program four.1;
    }

-- the tables hold the sizes of a file
pub record AreTables (bytes : List ℕ) (l : Lengths) (tables : Tables) : Type 0 where
  pub width_len : length tables.widths ≡ 256
  pub height_len : length tables.heights ≡ 256
  pub depth_len : length tables.depths ≡ 256
  pub widths : IsTable bytes (places_of l).widths l.widths tables.widths
  pub heights : IsTable bytes (places_of l).heights l.heights tables.heights
  pub depths : IsTable bytes (places_of l).depths l.depths tables.depths

no_char_fits : (n : ℕ) → CharFits n no_char
no_char_fits n = record { width = zero_fits; height = zero_fits; depth = zero_fits; program = λ p e. absurd cc; missing = λ e. refl }

-- equal sizes make equal characters
same_char : (b : Bool) (w w' h h' d d' : ℤ) (program : Option ℕ) → w ≡ w' → h ≡ h' → d ≡ d'
    → cond b no_char (record { exists = true; width = w; height = h; depth = d; program = program })
    ≡ cond b no_char (record { exists = true; width = w'; height = h'; depth = d'; program = program })
same_char b w w' h h' d d' program ew eh ed = rw (ew, eh, ed) refl

char_fits : (b : Bool) (n : ℕ) (w h d : ℤ) (program : Option ℕ) → IsFixWord w → IsFixWord h → IsFixWord d → IsPlaceIn n program
    → CharFits n (cond b no_char (record { exists = true; width = w; height = h; depth = d; program = program }))
char_fits true n w h d program fw fh fd fp = no_char_fits n
char_fits false n w h d program fw fh fd fp =
    record { width = fw; height = fh; depth = fd; program = fp; missing = λ e. absurd cc }

char_read : (bytes : List ℕ) → ((i : ℕ) → get_or bytes i 0 < 256) → (l : Lengths) (tables : Tables) (code : ℕ) → AreTables bytes l tables → are_within l (indices_of bytes l code) ≡ true
    → (char_by tables (indices_of bytes l code) ≡ char_of bytes l code) × CharFits l.ligs (char_by tables (indices_of bytes l code))
unfolding char_of
char_read bytes fits l tables code told within =
    let i : Indices = indices_of bytes l code in
    let small : AreBytes (indices_of bytes l code) = are_bytes bytes fits l code in
    let is_in : AreIn l (indices_of bytes l code) = are_in l (indices_of bytes l code) within in
    let w = told.widths (indices_of bytes l code).width is_in.width (omega (arith, small.width, told.width_len)) in
    let h = told.heights (indices_of bytes l code).height is_in.height (omega (arith, small.height, told.height_len)) in
    let d = told.depths (indices_of bytes l code).depth is_in.depth (omega (arith, small.depth, told.depth_len)) in (
      same_char (eqb (indices_of bytes l code).width 0) _ _ _ _ _ _ (indices_of bytes l code).program w.0 h.0 d.0,
      char_fits (eqb (indices_of bytes l code).width 0) l.ligs _ _ _ (indices_of bytes l code).program w.1 h.1 d.1 is_in.program,
    )

pub chars_read : (bytes : List ℕ) → ((i : ℕ) → get_or bytes i 0 < 256) → (l : Lengths) (tables : Tables) (indices : List Indices) (chars : List CharInfo) → AreTables bytes l tables → AreIndices bytes l indices
    → chars ≡ entries (λ code. char_by tables (get_or indices code no_indices)) 256 → AreChars bytes l chars
unfolding chars_of
chars_read bytes fits l tables indices chars told at made =
    let each : (code : ℕ) → code < 256 → (char_by tables (get_or indices code no_indices) ≡ char_of bytes l code) × CharFits l.ligs (char_by tables (get_or indices code no_indices)) =
    λ code lt. rw (at code lt).0 (char_read bytes fits l tables code told (at code lt).1) in (
      made ∙ entries_same (λ code. char_by tables (get_or indices code no_indices)) (char_of bytes l) 256 (λ code lt. (each code lt).0),
      λ code d lt.
          let below : code < 256 = omega (arith, ap length made, length-entries (λ code. char_by tables (get_or indices code no_indices)) 256) in
          rw (made, get_or-entries (λ code. char_by tables (get_or indices code no_indices)) 256 code d below) (each code below).1,
    )

-- what was read of a table whose place and length are told otherwise
pub moved : (bytes : List ℕ) (p p' n n' : ℕ) (table : List ℤ) → p ≡ p' → n ≡ n' → (first_of (table_check bytes p) n ≡ None) × IsTable bytes p n table
    → (first_of (table_check bytes p') n' ≡ None) × IsTable bytes p' n' table
moved bytes p p' n n' table ep en read =
    subst (λ (q : ℕ). (first_of (table_check bytes q) n' ≡ None) × IsTable bytes q n' table) ep
    (subst (λ (m : ℕ). (first_of (table_check bytes p) m ≡ None) × IsTable bytes p m table) en read)

pub moved_check : (bytes : List ℕ) (p p' n n' : ℕ) → p ≡ p' → n ≡ n' → first_of (table_check bytes p) n ≡ first_of (table_check bytes p') n'
moved_check bytes p p' n n' ep en = rw (ep, en) refl

-- the first fault among the characters is that of the first part that has one
pub characters_none : (bytes : List ℕ) (l : Lengths) → first_of (char_check bytes l (places_of l).chars) (code_count l) ≡ None
    → first_of (table_check bytes (places_of l).widths) l.widths ≡ None
    → first_of (table_check bytes (places_of l).heights) l.heights ≡ None
    → first_of (table_check bytes (places_of l).depths) l.depths ≡ None
    → first_of (table_check bytes (places_of l).italics) l.italics ≡ None
    → characters_fault bytes l ≡ None
unfolding characters_fault
characters_none bytes l c w h d i = rw (c, w, h, d, i) refl

pub fault_in_chars : (bytes : List ℕ) (l : Lengths) (fault : Fault) → first_of (char_check bytes l (places_of l).chars) (code_count l) ≡ Some fault → characters_fault bytes l ≡ Some fault
unfolding characters_fault
fault_in_chars bytes l fault here = rw here refl

pub fault_in_widths : (bytes : List ℕ) (l : Lengths) (fault : Fault) → first_of (char_check bytes l (places_of l).chars) (code_count l) ≡ None
    → first_of (table_check bytes (places_of l).widths) l.widths ≡ Some fault → characters_fault bytes l ≡ Some fault
unfolding characters_fault
fault_in_widths bytes l fault c here = rw (c, here) refl

pub fault_in_heights : (bytes : List ℕ) (l : Lengths) (fault : Fault) → first_of (char_check bytes l (places_of l).chars) (code_count l) ≡ None
    → first_of (table_check bytes (places_of l).widths) l.widths ≡ None
    → first_of (table_check bytes (places_of l).heights) l.heights ≡ Some fault → characters_fault bytes l ≡ Some fault
unfolding characters_fault
fault_in_heights bytes l fault c w here = rw (c, w, here) refl

pub fault_in_depths : (bytes : List ℕ) (l : Lengths) (fault : Fault) → first_of (char_check bytes l (places_of l).chars) (code_count l) ≡ None
    → first_of (table_check bytes (places_of l).widths) l.widths ≡ None
    → first_of (table_check bytes (places_of l).heights) l.heights ≡ None
    → first_of (table_check bytes (places_of l).depths) l.depths ≡ Some fault → characters_fault bytes l ≡ Some fault
unfolding characters_fault
fault_in_depths bytes l fault c w h here = rw (c, w, h, here) refl

pub fault_in_italics : (bytes : List ℕ) (l : Lengths) (fault : Fault) → first_of (char_check bytes l (places_of l).chars) (code_count l) ≡ None
    → first_of (table_check bytes (places_of l).widths) l.widths ≡ None
    → first_of (table_check bytes (places_of l).heights) l.heights ≡ None
    → first_of (table_check bytes (places_of l).depths) l.depths ≡ None
    → first_of (table_check bytes (places_of l).italics) l.italics ≡ Some fault → characters_fault bytes l ≡ Some fault
unfolding characters_fault
fault_in_italics bytes l fault c w h d here = rw (c, w, h, d, here) refl
