-- What small words and paragraphs become, by computing.
use Rattle.std.specs.Prelude.{◌≡◌, ℕ, ◌+◌, ℤ, refl, List, [], ◌∷◌, ◌++◌, length, take, Option, Some, None, pos, negsuc, false}
use Rattle.std.proofs.Common.{lit≤, ap, sym, ◌∙◌, arith}
use Rattle.font_stock.specs.Fonts.{hyphen_of}
use Rattle.font_stock.specs.declared.font.Font.{Font}
use Rattle.liang_hyph.specs.declared.source.Exception.{Exception}
use Rattle.liang_hyph.specs.declared.source.Pattern.{Pattern}
use Rattle.tfm_read.specs.Entries.{entries}
use Rattle.tfm_read.specs.declared.tfm.Tfm.{Tfm}
use Rattle.tfm_read.proofs.SampleFonts.{lig10, tiny10, half_char}
use Rattle.lig_kern.specs.Outcome.{outcome, rewritten, enough, missing_from}
use Rattle.lig_kern.specs.Programs.{program_of, walk}
use Rattle.lig_kern.specs.Rewriting.{operation_of}
use Rattle.micro_num.specs.Plain.{plain_params, plain_tables, fil}
use Rattle.hlist.specs.declared.item.Item.{Item}
use Rattle.hlist.specs.declared.item.Item.TheVariants.{Char, Lig, FontKern, Glue, Penalty, Disc}
use Rattle.hlist.specs.declared.item.Sub.TheVariants.{Char as sub_char, Lig as sub_lig, FontKern as sub_kern}
use Rattle.hlist_runs.specs.Runs.{run_subs, subs_of}
use Rattle.hlist_hyph.specs.Hyphenated.{Places, front, front_count, hyphenated_from, hyphenated_items, lower_word, places_by, word_items}
use Rattle.hlist_hyph.specs.Pieces.{Hyphening, first_inside, run_of, joint, pieces}
use Rattle.hlist_hyph.specs.Words.{passed, word_length, is_closed, first_font, word_of, word_of_font, word_with}
use Rattle.hlist_hyph.specs.declared.word.Word.{Word}
use Rattle.hlist_hyph.proofs.LoopLemmas.{front-is, front-count-is, word_items-is}

-- a word in a font at 10pt with the hyphen, code 45
abbrev at_ten_points : Tfm → List ℕ → Hyphening
at_ten_points tfm places = record { number = 0; tfm = tfm; size = pos 655360; hyphen = 45; places = places }

-- `office`, whose ligature ffi has the code 14
abbrev office : List Item → List Item
office rest = Char 0 111 ∷ Lig 0 14 (102 ∷ 102 ∷ 105 ∷ []) ∷ Char 0 99 ∷ Char 0 101 ∷ rest

-- of-f-ice: the first place inside the ligature alone counts
pub of_fice : pieces (at_ten_points lig10 (2 ∷ 3 ∷ [])) 0 false (office [])
    ≡ Char 0 111
    ∷ Disc (record {
      pre = sub_char 0 102 ∷ sub_char 0 45 ∷ [];
      post = sub_lig 0 12 (102 ∷ 105 ∷ []) ∷ [];
      whole = sub_lig 0 14 (102 ∷ 102 ∷ 105 ∷ []) ∷ [];
    })
    ∷ Char 0 99 ∷ Char 0 101 ∷ []
unfolding pieces joint first_inside run_of run_subs subs_of outcome rewritten enough missing_from program_of walk operation_of lig10 half_char entries
of_fice = refl

-- what ends a paragraph
abbrev ending : List Item
ending = Penalty (pos 10000) ∷ Glue fil ∷ []

-- it is a word of four items that a penalty ends
pub office_is_a_word : word_with plain_tables 0 (Some 45) (office ending)
    ≡ Some (record { number = 0; hyphen = 45; count = 4 })
unfolding word_length is_closed
office_is_a_word = refl

-- at the end of a list it isn't hyphenated
pub no_word_at_the_end : word_with plain_tables 0 (Some 45) (office []) ≡ None
unfolding word_length is_closed
no_word_at_the_end = refl

-- hy-phen-ation
abbrev hyphenation : List Item → List Item
hyphenation rest =
    Char 0 104 ∷ Char 0 121 ∷ Char 0 112 ∷ Char 0 104 ∷ Char 0 101 ∷ Char 0 110
    ∷ Char 0 97 ∷ Char 0 116 ∷ Char 0 105 ∷ Char 0 111 ∷ Char 0 110 ∷ rest

abbrev bare_hyphen : Item
bare_hyphen = Disc (record { pre = sub_char 0 45 ∷ []; post = []; whole = [] })

pub hy_phen_ation : pieces (at_ten_points tiny10 (2 ∷ 6 ∷ [])) 0 false (hyphenation [])
    ≡ Char 0 104 ∷ Char 0 121 ∷ bare_hyphen ∷ Char 0 112 ∷ Char 0 104 ∷ Char 0 101 ∷ Char 0 110 ∷ bare_hyphen
    ∷ Char 0 97 ∷ Char 0 116 ∷ Char 0 105 ∷ Char 0 111 ∷ Char 0 110 ∷ []
unfolding pieces joint first_inside run_of run_subs subs_of outcome rewritten enough missing_from program_of walk operation_of tiny10 half_char entries
hy_phen_ation = refl

-- o-v: the kern between the two stands in the discretionary alone
pub o_v : pieces (at_ten_points lig10 (1 ∷ [])) 0 false (Char 0 111 ∷ FontKern (negsuc 40959) None ∷ Char 0 118 ∷ [])
    ≡ Char 0 111
    ∷ Disc (record { pre = sub_char 0 45 ∷ []; post = []; whole = sub_kern (negsuc 40959) None ∷ [] })
    ∷ Char 0 118 ∷ []
unfolding pieces joint first_inside run_of run_subs subs_of outcome rewritten enough missing_from program_of walk operation_of lig10 half_char entries
o_v = refl

-- ---- paragraphs of two words, of which the second follows a glue

-- the space of tiny10 and lig10 at 10pt
abbrev space : Item
space = Glue (record { width = pos 163840; stretch = pos 81920; order = 0; shrink = pos 40960; order_exists = lit≤ tt })

-- a font at 10pt whose hyphen character is the hyphen
pub record IsAtTenPoints (tfm : Tfm) (font : Font) : Type 0 where
  pub metrics : font.tfm ≡ tfm
  pub size : font.size ≡ pos 655360
  pub hyphen : font.codes.hyphen ≡ pos 45

-- what follows a glue that a word stands behind
behind-glue : (stock : List Font) (places : Places) (items made rest : List Item) (word : Word)
    → 0 ≡ passed plain_tables items → Some word ≡ word_of plain_tables stock items
    → word_items plain_tables stock places word (take word.count items) ≡ made
    → hyphenated_from plain_tables stock places word.count items ≡ rest
    → front plain_tables stock places items ++ hyphenated_from plain_tables stock places (front_count plain_tables stock items) items
    ≡ made ++ rest
behind-glue stock places items made rest word none found becomes left =
    let is = front-is plain_tables stock places items items 0 (Some word) none refl found in
    let count : 0 + word.count ≡ front_count plain_tables stock items =
    front-count-is plain_tables stock items items 0 (Some word) none refl found in
    let counted : front_count plain_tables stock items ≡ word.count = omega (arith, count) in
    ap (λ (l : List Item). l ++ hyphenated_from plain_tables stock places (front_count plain_tables stock items) items) (is ∙ becomes)
    ∙ ap (λ (n : ℕ). made ++ hyphenated_from plain_tables stock places n items) counted
    ∙ ap (λ (l : List Item). made ++ l) left

-- a word of so many items in the one font of a stock
abbrev word_of_items : ℕ → Word
word_of_items count = record { number = 0; hyphen = 45; count = count }

word-found : (tfm : Tfm) (font : Font) (items : List Item) (word : Option Word) → IsAtTenPoints tfm font
    → hyphen_of tfm (pos 45) ≡ Some 45 → first_font items ≡ Some 0 → word_with plain_tables 0 (Some 45) items ≡ word
    → word ≡ word_of plain_tables (font ∷ []) items
unfolding word_of
word-found tfm font items word at own first is =
    sym (ap (λ (n : Option ℕ). word_of_font plain_tables (font ∷ []) n items) first
    ∙ ap (λ (t : Tfm). word_with plain_tables 0 (hyphen_of t font.codes.hyphen) items) at.metrics
    ∙ ap (λ (h : ℤ). word_with plain_tables 0 (hyphen_of tfm h) items) at.hyphen
    ∙ ap (λ (h : Option ℕ). word_with plain_tables 0 h items) own
    ∙ is)

-- its items, where it has these places
word-becomes : (tfm : Tfm) (font : Font) (places : Places) (count : ℕ) (items : List Item) (found : List ℕ) → IsAtTenPoints tfm font
    → found ≡ places (lower_word plain_tables items)
    → word_items plain_tables (font ∷ []) places (word_of_items count) items ≡ pieces (at_ten_points tfm found) 0 false items
word-becomes tfm font places count items found at is =
    word_items-is plain_tables (font ∷ []) places (word_of_items count) items font found refl is
    ∙ ap (λ (t : Tfm). pieces (record { number = 0; tfm = t; size = font.size; hyphen = 45; places = found }) 0 false items) at.metrics
    ∙ ap (λ (z : ℤ). pieces (record { number = 0; tfm = tfm; size = z; hyphen = 45; places = found }) 0 false items) at.size

-- `an office` with of-f-ice
abbrev of_f_ice : Exception
of_f_ice = record { letters = 111 ∷ 102 ∷ 102 ∷ 105 ∷ 99 ∷ 101 ∷ []; places = 2 ∷ 3 ∷ [] }

abbrev exceptions_alone : Places
exceptions_alone = places_by [] (of_f_ice ∷ []) plain_params

places_of_office : 2 ∷ 3 ∷ [] ≡ exceptions_alone (lower_word plain_tables (office []))
unfolding plain_params
places_of_office = refl

lig10_has_a_hyphen : hyphen_of lig10 (pos 45) ≡ Some 45
unfolding lig10 half_char entries
lig10_has_a_hyphen = refl

no_search_before_office : 0 ≡ passed plain_tables (office ending)
unfolding passed
no_search_before_office = refl

behind_office : (stock : List Font) (places : Places) → hyphenated_from plain_tables stock places 4 (office ending) ≡ ending
unfolding hyphenated_from front front_count passed word_of
behind_office stock places = refl

pub an_office : (font : Font) → IsAtTenPoints lig10 font
    → hyphenated_items plain_tables (font ∷ []) exceptions_alone (Char 0 97 ∷ Char 0 110 ∷ space ∷ office ending)
    ≡ Char 0 97 ∷ Char 0 110 ∷ space ∷ Char 0 111
    ∷ Disc (record {
      pre = sub_char 0 102 ∷ sub_char 0 45 ∷ [];
      post = sub_lig 0 12 (102 ∷ 105 ∷ []) ∷ [];
      whole = sub_lig 0 14 (102 ∷ 102 ∷ 105 ∷ []) ∷ [];
    })
    ∷ Char 0 99 ∷ Char 0 101 ∷ Penalty (pos 10000) ∷ Glue fil ∷ []
unfolding hyphenated_from
an_office font at =
    ap (λ (l : List Item). Char 0 97 ∷ Char 0 110 ∷ space ∷ l)
    (behind-glue (font ∷ []) exceptions_alone (office ending) _ ending (word_of_items 4) no_search_before_office
    (word-found lig10 font (office ending) (Some (word_of_items 4)) at lig10_has_a_hyphen refl office_is_a_word)
    (word-becomes lig10 font exceptions_alone 4 (office []) (2 ∷ 3 ∷ []) at places_of_office ∙ of_fice)
    (behind_office (font ∷ []) exceptions_alone))

-- `a hyphenation` with the patterns hy3ph he2n hena4 hen5at 1na n2at 1tio 2io
abbrev pattern : (letters values : List ℕ) → length values ≡ length letters + 1 → Pattern
pattern letters values e = record { letters = letters; values = values; start = false; end = false; one_value_more = e }

abbrev patterns_alone : Places
patterns_alone = places_by (
    pattern (104 ∷ 121 ∷ 112 ∷ 104 ∷ []) (0 ∷ 0 ∷ 3 ∷ 0 ∷ 0 ∷ []) refl
    ∷ pattern (104 ∷ 101 ∷ 110 ∷ []) (0 ∷ 0 ∷ 2 ∷ 0 ∷ []) refl
    ∷ pattern (104 ∷ 101 ∷ 110 ∷ 97 ∷ []) (0 ∷ 0 ∷ 0 ∷ 0 ∷ 4 ∷ []) refl
    ∷ pattern (104 ∷ 101 ∷ 110 ∷ 97 ∷ 116 ∷ []) (0 ∷ 0 ∷ 0 ∷ 5 ∷ 0 ∷ 0 ∷ []) refl
    ∷ pattern (110 ∷ 97 ∷ []) (1 ∷ 0 ∷ 0 ∷ []) refl
    ∷ pattern (110 ∷ 97 ∷ 116 ∷ []) (0 ∷ 2 ∷ 0 ∷ 0 ∷ []) refl
    ∷ pattern (116 ∷ 105 ∷ 111 ∷ []) (1 ∷ 0 ∷ 0 ∷ 0 ∷ []) refl
    ∷ pattern (105 ∷ 111 ∷ []) (2 ∷ 0 ∷ 0 ∷ []) refl
    ∷ []) [] plain_params

lower_hyphenation : lower_word plain_tables (hyphenation []) ≡ 104 ∷ 121 ∷ 112 ∷ 104 ∷ 101 ∷ 110 ∷ 97 ∷ 116 ∷ 105 ∷ 111 ∷ 110 ∷ []
lower_hyphenation = refl

two_places : patterns_alone (104 ∷ 121 ∷ 112 ∷ 104 ∷ 101 ∷ 110 ∷ 97 ∷ 116 ∷ 105 ∷ 111 ∷ 110 ∷ []) ≡ 2 ∷ 6 ∷ []
unfolding plain_params
two_places = refl

tiny10_has_a_hyphen : hyphen_of tiny10 (pos 45) ≡ Some 45
unfolding tiny10 half_char entries
tiny10_has_a_hyphen = refl

no_search_before_hyphenation : 0 ≡ passed plain_tables (hyphenation ending)
unfolding passed
no_search_before_hyphenation = refl

hyphenation_is_a_word : word_with plain_tables 0 (Some 45) (hyphenation ending) ≡ Some (word_of_items 11)
unfolding word_length is_closed
hyphenation_is_a_word = refl

behind_hyphenation : (stock : List Font) (places : Places) → hyphenated_from plain_tables stock places 11 (hyphenation ending) ≡ ending
unfolding hyphenated_from front front_count passed word_of
behind_hyphenation stock places = refl

pub a_hyphenation : (font : Font) → IsAtTenPoints tiny10 font
    → hyphenated_items plain_tables (font ∷ []) patterns_alone (Char 0 97 ∷ space ∷ hyphenation ending)
    ≡ Char 0 97 ∷ space
    ∷ Char 0 104 ∷ Char 0 121 ∷ bare_hyphen ∷ Char 0 112 ∷ Char 0 104 ∷ Char 0 101 ∷ Char 0 110 ∷ bare_hyphen
    ∷ Char 0 97 ∷ Char 0 116 ∷ Char 0 105 ∷ Char 0 111 ∷ Char 0 110 ∷ Penalty (pos 10000) ∷ Glue fil ∷ []
unfolding hyphenated_from
a_hyphenation font at =
    ap (λ (l : List Item). Char 0 97 ∷ space ∷ l)
    (behind-glue (font ∷ []) patterns_alone (hyphenation ending) _ ending (word_of_items 11) no_search_before_hyphenation
    (word-found tiny10 font (hyphenation ending) (Some (word_of_items 11)) at tiny10_has_a_hyphen refl hyphenation_is_a_word)
    (word-becomes tiny10 font patterns_alone 11 (hyphenation []) (2 ∷ 6 ∷ []) at
    (sym (ap patterns_alone lower_hyphenation ∙ two_places)) ∙ hy_phen_ation)
    (behind_hyphenation (font ∷ []) patterns_alone))
