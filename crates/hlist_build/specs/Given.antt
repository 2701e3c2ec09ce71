-- What each part of a paragraph gives, and the concatenation of it (TeX: The Program, parts 46 and 47).
use Rattle.std.specs.Prelude.{ℕ, pos, Bool, true, false, if◌then◌else◌, List, [], ◌∷◌, ◌++◌, Option, Some, None, Result, Ok, Err}
use Rattle.font_stock.specs.declared.font.Font.{Font}
use Rattle.micro_num.specs.declared.paragraph.PartAt.{PartAt}
use Rattle.micro_num.specs.declared.params.Params.{Params}
use Rattle.micro_num.specs.declared.part.Part.{Part}
use Rattle.micro_num.specs.declared.part.Part.TheVariants.{Char, Space, Normal, Tie, Kern, Skip, Penalty, Hyphen, Disc, Font as font_part}
use Rattle.micro_num.specs.declared.tables.Tables.{Tables}
use Rattle.hlist_build.specs.Parts.{goes_on, factor_before}
use Rattle.hlist_build.specs.Runs.{run_in, disc_in, hyphen_in}
use Rattle.hlist_build.specs.Spaces.{space_at, current_before}
use Rattle.hlist_build.specs.declared.current.Current.{Current}
use Rattle.hlist_build.specs.declared.fault.ParFault.{ParFault}
use Rattle.hlist.specs.declared.item.Item.{Item}
use Rattle.hlist.specs.declared.item.Item.TheVariants.{Kern as item_kern, Glue, Penalty as item_penalty}

-- items behind others, where there are such
abbrev pub behind : List Item → Result (List Item) ParFault → Result (List Item) ParFault
behind items (Ok more) = Ok (items ++ more)
behind items (Err fault) = Err fault

-- what two neighbours give: the first fault, or both in a row
abbrev pub joined : Result (List Item) ParFault → Result (List Item) ParFault → Result (List Item) ParFault
joined (Ok items) rest = behind items rest
joined (Err fault) rest = Err fault

-- what a space, a normal space and a tie give in the current font, and nothing where there is none
abbrev pub space_in : Params → Option Current → ℕ → Result (List Item) ParFault
space_in params None factor = Ok []
space_in params (Some current) factor = Ok (Glue (space_at params current factor) ∷ [])

abbrev pub normal_in : Option Current → Result (List Item) ParFault
normal_in None = Ok []
normal_in (Some current) = Ok (Glue current.normal ∷ [])

abbrev pub tie_in : Option Current → Result (List Item) ParFault
tie_in None = Ok []
tie_in (Some current) = Ok (item_penalty (pos 10000) ∷ Glue current.normal ∷ [])

-- what one part gives by itself, in a current font and at a space factor; a Char gives nothing so
unfoldable pub single : Params → List Font → Option Current → ℕ → ℕ → Part → Result (List Item) ParFault
single params stock current factor offset (Char code) = Ok []
single params stock current factor offset Space = space_in params current factor
single params stock current factor offset Normal = normal_in current
single params stock current factor offset Tie = tie_in current
single params stock current factor offset (Kern width) = Ok (item_kern width ∷ [])
single params stock current factor offset (Skip glue) = Ok (Glue glue ∷ [])
single params stock current factor offset (Penalty value) = Ok (item_penalty value ∷ [])
single params stock current factor offset Hyphen =
    hyphen_in stock current
single params stock current factor offset (Disc lists) =
    disc_in stock current offset lists
single params stock current factor offset (font_part number) = Ok []

-- What a part gives that stands between others: the first Char of a run gives the items of the run, and the
-- others of it nothing.
abbrev pub given_at : Part → Bool → Result (List Item) ParFault → Result (List Item) ParFault → Result (List Item) ParFault
given_at (Char code) true run alone = Ok []
given_at (Char code) false run alone = run
given_at _ mid run alone = alone

unfoldable pub given : Params → Tables → List Font → List PartAt → PartAt → List PartAt → Result (List Item) ParFault
given params tables stock before one after =
    let current = current_before params stock before in
    given_at one.part (goes_on before)
    (run_in stock current (one ∷ after))
    (single params stock current (factor_before tables before) one.offset one.part)

-- what all parts give behind those before them: the concatenation, or the first fault
unfoldable pub given_behind : Params → Tables → List Font → List PartAt → List PartAt → Result (List Item) ParFault
given_behind params tables stock before [] = Ok []
given_behind params tables stock before (one ∷ after) =
    joined (given params tables stock before one after)
    (given_behind params tables stock (before ++ one ∷ []) after)
