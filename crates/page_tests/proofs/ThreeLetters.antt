-- Copies of the page of three letters are writable, and use few cells.
use Rattle.std.proofs.Common.{◌≡◌, ℕ, zero, suc, ◌*◌, ◌≤◌, List, [], ◌∷◌, length, All, refl, arith, rules}
use Rattle.std.specs.Prelude.{replicate}
use Rattle.std.proofs.lemmas.List.Elements.{All-from_recursion, All-replicate}
use Rattle.std.proofs.lemmas.Int.{ints}
use Rattle.instance_core.specs.declared.page.Page.{Page}
use Rattle.renumber.specs.Uses.{cells_of_pages, first_uses}
use Rattle.dvi_write.specs.declared.row.FontRow.{FontRow}
use Rattle.dvi_write.specs.Document.{row_of, instance_name}
use Rattle.dvi_write.specs.Worked.{letter, three_letters, tiny10}
use Rattle.dvi_write.specs.Writable.{IsDefinable, IsGlyphWritable, IsLineWritable, IsWritable}
use Rattle.renumber.proofs.FewUses.{first_uses-fewer}

definable : IsDefinable (tiny10 ∷ []) (letter 0 97).cell
unfolding row_of instance_name
definable = record { has_row = omega arith; name = omega arith }

writable : IsWritable (tiny10 ∷ []) three_letters
writable =
    All-from_recursion (IsLineWritable (tiny10 ∷ [])) three_letters.lines (
      record {
        baseline = record { low = omega (arith, ints); high = omega (arith, ints) };
        glyphs = All-from_recursion (IsGlyphWritable (tiny10 ∷ [])) (letter 0 97 ∷ letter 327680 98 ∷ letter 655360 99 ∷ []) (
          record { left = search rules; right = search rules; font = definable },
          (
            record { left = search rules; right = search rules; font = definable },
            (record { left = search rules; right = search rules; font = definable }, tt),
          ),
        );
      },
      tt,
    )

pub copies_writable : (rows : List FontRow) (pages : List Page) (count : ℕ) → rows ≡ tiny10 ∷ [] → pages ≡ replicate count three_letters
    → All (IsWritable rows) pages
copies_writable rows pages count r p = rw (r, p) (All-replicate (IsWritable (tiny10 ∷ [])) count three_letters writable)

cells_of_copies : (count : ℕ) → length (cells_of_pages (replicate count three_letters)) ≡ count * 3
cells_of_copies zero = refl
cells_of_copies (suc count) = omega (arith, cells_of_copies count)

pub copies_few : (pages : List Page) (count : ℕ) → pages ≡ replicate count three_letters
    → length (first_uses (cells_of_pages pages)) ≤ count * 3
copies_few pages count p =
    rw p (omega (arith, first_uses-fewer (cells_of_pages (replicate count three_letters)), cells_of_copies count))
