-- The lines that tell how paragraphs are broken (this project's own).
--     places_text places      places, each behind a space
--     breaks_head             the number of the paragraph, of its pass, and its total
--     breaks_line             the line of a paragraph, by what the pass gives that is taken
use Rattle.std.specs.Prelude.{ℕ, ℤ, List, ◌++◌, codes, flat_map}
use Rattle.std.specs.Fmt.{decimal, signed_decimal}
use Rattle.line_break.specs.Taken.{Taken}

abbrev pub places_text : List ℕ → List ℕ
places_text places = flat_map (λ place. codes " " ++ decimal place) places

abbrev pub breaks_head : ℕ → ℕ → ℤ → List ℕ
breaks_head paragraph pass total =
    codes "paragraph " ++ (decimal paragraph ++ (codes " pass " ++ (decimal pass
    ++ (codes " total " ++ (signed_decimal total ++ codes " breaks")))))

unfoldable pub breaks_line : ℕ → Taken → List ℕ
breaks_line paragraph taken =
    breaks_head paragraph taken.number taken.total
    ++ (places_text taken.breaks ++ codes "\n")
