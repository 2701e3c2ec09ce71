-- The hyphenated form of a list: each word that follows a glue as its pieces (TeX: The Program, sections 891 to 918).
use Rattle.std.specs.Prelude.{ℕ, zero, suc, ◌+◌, Bool, true, false, if◌then◌else◌, List, [], ◌∷◌, ◌++◌, map, take, drop, Option, Some, None, slice_get}
use Rattle.std.specs.List.{flat_map}
use Rattle.font_stock.specs.declared.font.Font.{Font}
use Rattle.liang_hyph.specs.Places.{places_of}
use Rattle.liang_hyph.specs.Table.{PatternTable, places_read}
use Rattle.liang_hyph.specs.declared.source.Exception.{Exception}
use Rattle.liang_hyph.specs.declared.source.Pattern.{Pattern}
use Rattle.micro_num.specs.declared.params.Params.{Params}
use Rattle.micro_num.specs.declared.tables.Tables.{Tables}
use Rattle.hlist.specs.declared.item.Item.{Item}
use Rattle.hlist.specs.declared.item.Item.TheVariants.{Glue}
use Rattle.hlist_hyph.specs.Pieces.{Hyphening, pieces}
use Rattle.hlist_hyph.specs.Words.{letters, lower, passed, word_of}
use Rattle.hlist_hyph.specs.declared.word.Word.{Word}

-- where a word of lower-case letters may be hyphenated
abbrev pub Places : Type 0
Places = List ℕ → List ℕ

-- the places that are read off a table of patterns and exceptions, with the margins of a paragraph
abbrev pub places_in : PatternTable → Params → Places
places_in table params word = places_read table word params.lefthyphenmin params.righthyphenmin

-- the places that patterns and exceptions give, with these margins
abbrev pub places_by : List Pattern → List Exception → Params → Places
places_by patterns exceptions params word = places_of patterns exceptions word params.lefthyphenmin params.righthyphenmin

-- the lower-case letters of some items
abbrev pub lower_word : Tables → List Item → List ℕ
lower_word tables items = map (lower tables) (flat_map letters items)

-- the items of a word in a font, hyphenated
abbrev pub in_font : Tables → Places → Word → Option Font → List Item → List Item
in_font tables places word None items = items
in_font tables places word (Some font) items =
    pieces (record {
      number = word.number;
      tfm = font.tfm;
      size = font.size;
      hyphen = word.hyphen;
      places = places (lower_word tables items);
    }) 0 false items

unfoldable pub word_items : Tables → List Font → Places → Word → List Item → List Item
word_items tables stock places word items = in_font tables places word (slice_get stock word.number) items

-- the items of a word that others begin with, if they begin with one
abbrev pub by_word : Tables → List Font → Places → Option Word → List Item → List Item
by_word tables stock places None items = []
by_word tables stock places (Some word) items = word_items tables stock places word (take word.count items)

abbrev pub count_of : Option Word → ℕ
count_of None = 0
count_of (Some word) = word.count

-- what a glue is followed by up to the end of its word: what the search passes, and the word, hyphenated
unfoldable pub front : Tables → List Font → Places → List Item → List Item
front tables stock places items =
    let rest = drop (passed tables items) items in
    take (passed tables items) items ++ by_word tables stock places (word_of tables stock rest) rest

-- how many items these were before
unfoldable pub front_count : Tables → List Font → List Item → ℕ
front_count tables stock items =
    passed tables items + count_of (word_of tables stock (drop (passed tables items) items))

abbrev pub is_glue : Item → Bool
is_glue (Glue glue) = true
is_glue _ = false

-- the hyphenated form of items of which the first so many already stand there
unfoldable pub hyphenated_from : Tables → List Font → Places → ℕ → List Item → List Item
hyphenated_from tables stock places done [] = []
hyphenated_from tables stock places (suc done) (item ∷ items) = hyphenated_from tables stock places done items
hyphenated_from tables stock places zero (item ∷ items) =
    if is_glue item then
    item ∷ (front tables stock places items
    ++ hyphenated_from tables stock places (front_count tables stock items) items)
    else item ∷ hyphenated_from tables stock places zero items

-- the hyphenated form of the items of a list
abbrev pub hyphenated_items : Tables → List Font → Places → List Item → List Item
hyphenated_items tables stock places items = hyphenated_from tables stock places 0 items
