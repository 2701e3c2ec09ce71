-- The worked example of Liang's thesis, hy-phen-ation.
use Rattle.std.proofs.Common.{◌≡◌, ℕ, List, [], ◌∷◌, false, refl, pos, length, ◌+◌}
use Rattle.liang_hyph.specs.Places.{places_of}
use Rattle.liang_hyph.specs.declared.source.Pattern.{Pattern}

abbrev plain : (letters values : List ℕ) → length values ≡ length letters + 1 → Pattern
plain letters values e = record { letters = letters; values = values; start = false; end = false; one_value_more = e }

-- hy3ph he2n hena4 hen5at 1na n2at 1tio 2io
abbrev given : List Pattern
given =
    plain (104 ∷ 121 ∷ 112 ∷ 104 ∷ []) (0 ∷ 0 ∷ 3 ∷ 0 ∷ 0 ∷ []) refl
    ∷ plain (104 ∷ 101 ∷ 110 ∷ []) (0 ∷ 0 ∷ 2 ∷ 0 ∷ []) refl
    ∷ plain (104 ∷ 101 ∷ 110 ∷ 97 ∷ []) (0 ∷ 0 ∷ 0 ∷ 0 ∷ 4 ∷ []) refl
    ∷ plain (104 ∷ 101 ∷ 110 ∷ 97 ∷ 116 ∷ []) (0 ∷ 0 ∷ 0 ∷ 5 ∷ 0 ∷ 0 ∷ []) refl
    ∷ plain (110 ∷ 97 ∷ []) (1 ∷ 0 ∷ 0 ∷ []) refl
    ∷ plain (110 ∷ 97 ∷ 116 ∷ []) (0 ∷ 2 ∷ 0 ∷ 0 ∷ []) refl
    ∷ plain (116 ∷ 105 ∷ 111 ∷ []) (1 ∷ 0 ∷ 0 ∷ 0 ∷ []) refl
    ∷ plain (105 ∷ 111 ∷ []) (2 ∷ 0 ∷ 0 ∷ []) refl
    ∷ []

hyphenation : places_of given [] (104 ∷ 121 ∷ 112 ∷ 104 ∷ 101 ∷ 110 ∷ 97 ∷ 116 ∷ 105 ∷ 111 ∷ 110 ∷ []) (pos 2) (pos 3) ≡ 2 ∷ 6 ∷ []
hyphenation = refl
