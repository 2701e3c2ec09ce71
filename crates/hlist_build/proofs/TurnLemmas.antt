-- One turn of the loop over the parts of a paragraph: `before` is done, `rest` is ahead.
use Rattle.std.proofs.Common.{◌≡◌, ℕ, zero, suc, ◌+◌, ◌-◌, ◌<◌, ◌≤◌, Bool, true, false, List, [], ◌∷◌, ◌++◌, length, take, drop, get_or, refl, ap, sym, subst, ◌∙◌, append-nil, arith}
use Rattle.std.specs.Prelude.{Option, Some, None, Result, Ok, Err, option_and_then, is_some}
use Rattle.std.proofs.lemmas.List.{drop-drop, take_more, drop_more, take_all, length-drop, get_or_default}
use Rattle.font_stock.specs.declared.font.Font.{Font}
use Rattle.micro_num.specs.declared.paragraph.PartAt.{PartAt}
use Rattle.micro_num.specs.declared.params.Params.{Params}
use Rattle.micro_num.specs.declared.part.Part.{Part}
use Rattle.micro_num.specs.declared.part.Part.TheVariants.{Char, Space, Normal, Tie, Kern, Skip, Penalty, Hyphen, Disc, Font as font_part}
use Rattle.micro_num.specs.declared.tables.Tables.{Tables}
use Rattle.hlist.specs.declared.item.Item.{Item}
use Rattle.hlist_build.specs.Counts.{part_weight, part_count}
use Rattle.hlist_build.specs.Given.{behind, joined, single, given_behind}
use Rattle.hlist_build.specs.Parts.{code_of, codes_of, run_codes, goes_on, font_after, font_before, factor_from, factor_before}
use Rattle.hlist_build.specs.Runs.{run_in}
use Rattle.hlist_build.specs.Spaces.{current_in, current_before}
use Rattle.hlist_build.specs.declared.current.Current.{Current}
use Rattle.hlist_build.specs.declared.fault.ParFault.{ParFault}
use Rattle.hlist_build.proofs.CountLemmas.{part_count-turn}
use Rattle.hlist_build.proofs.PartLemmas.{at, behind-turn, behind-fault, fold-push, goes_on-push, font-push, factor-append, run-ends, run-parts, run-font_before, run-turn, single-turn, not_char}

-- ---- what is done and what is ahead, by numbers

pub take-run : (parts : List PartAt) (i n : ℕ) → take (i + n) parts ≡ take i parts ++ take n (drop i parts)
take-run parts zero n = ap (λ k. take k parts) (omega arith)
take-run [] (suc i) n = take_all (suc i + n) [] (omega arith) ∙ sym (take_all n [] (omega arith))
take-run (one ∷ parts) (suc i) n =
    let next : suc i + n ≡ suc (i + n) = omega arith in
    ap (λ k. take k (one ∷ parts)) next ∙ ap (λ l. one ∷ l) (take-run parts i n)

pub drop-run : (parts : List PartAt) (i n : ℕ) → drop (i + n) parts ≡ drop n (drop i parts)
drop-run parts i n = sym (drop-drop n i parts)

-- the part at the place reached, and those behind it
pub ahead : (parts : List PartAt) (i : ℕ) (d : PartAt) → i < length parts → drop i parts ≡ get_or parts i d ∷ drop (i + 1) parts
ahead parts i d lt = drop_more parts i d lt

pub char-ahead : (parts : List PartAt) (i : ℕ) (d : PartAt) (code : ℕ) → i < length parts → (get_or parts i d).part ≡ Char code
    → drop i parts ≡ at (get_or parts i d).offset (Char code) ∷ drop (i + 1) parts
char-ahead parts i d code lt is =
    drop_more parts i d lt ∙ ap (λ part. at (get_or parts i d).offset part ∷ drop (i + 1) parts) is

-- ---- a run

not-on : (before rest after : List PartAt) (offset code : ℕ) (on : Bool) → goes_on before ≡ on → rest ≡ at offset (Char code) ∷ after
    → (goes_on before ≡ true → run_codes rest ≡ []) → on ≡ false
unfolding run_codes
not-on before rest after offset code false is first fresh = refl
not-on before rest after offset code true is first fresh =
    let none : run_codes (at offset (Char code) ∷ after) ≡ [] = subst (λ l. run_codes l ≡ []) first (fresh is) in
    absurd cc

pub run-next : (params : Params) (tables : Tables) (stock : List Font) (before rest after : List PartAt) (offset code : ℕ)
    (list made : List Item) (whole : Result (List Item) ParFault) → rest ≡ at offset (Char code) ∷ after
    → (goes_on before ≡ true → run_codes rest ≡ [])
    → behind list (run_in stock (current_before params stock before) rest) ≡ Ok made
    → behind list (given_behind params tables stock before rest) ≡ whole
    → behind made (given_behind params tables stock (before ++ take (length (run_codes rest)) rest) (drop (length (run_codes rest)) rest)) ≡ whole
run-next params tables stock before rest after offset code list made whole first fresh put so_far =
    let off = not-on before rest after offset code (goes_on before) refl first fresh in
    let turn = rw (← first) at (run-turn params tables stock before offset code after off) in
    behind-turn list made (run_in stock (current_before params stock before) rest) _ whole put
    (ap (λ r. behind list r) (sym turn) ∙ so_far)

pub run-fails : (params : Params) (tables : Tables) (stock : List Font) (before rest after : List PartAt) (offset code : ℕ)
    (list : List Item) (whole : Result (List Item) ParFault) (fault : ParFault) → rest ≡ at offset (Char code) ∷ after
    → (goes_on before ≡ true → run_codes rest ≡ [])
    → run_in stock (current_before params stock before) rest ≡ Err fault
    → behind list (given_behind params tables stock before rest) ≡ whole → whole ≡ Err fault
run-fails params tables stock before rest after offset code list whole fault first fresh is so_far =
    let off = not-on before rest after offset code (goes_on before) refl first fresh in
    let turn = rw (← first) at (run-turn params tables stock before offset code after off) in
    behind-fault list (run_in stock (current_before params stock before) rest) _ whole fault is
    (ap (λ r. behind list r) (sym turn) ∙ so_far)

pub run-current : (params : Params) (stock : List Font) (before rest : List PartAt)
    → current_before params stock (before ++ take (length (run_codes rest)) rest) ≡ current_before params stock before
run-current params stock before rest = ap (option_and_then (current_in params stock)) (run-font_before before rest)

pub run-factor : (tables : Tables) (before rest : List PartAt)
    → factor_before tables (before ++ take (length (run_codes rest)) rest) ≡ factor_from tables (factor_before tables before) (run_codes rest)
run-factor tables before rest =
    factor-append tables before (take (length (run_codes rest)) rest)
    ∙ ap (factor_from tables (factor_before tables before)) (run-parts rest)

-- ---- any other part

pub single-next : (params : Params) (tables : Tables) (stock : List Font) (before rest after : List PartAt) (one : PartAt)
    (list made : List Item) (whole : Result (List Item) ParFault) → rest ≡ one ∷ after → code_of one.part ≡ None
    → behind list (single params stock (current_before params stock before) (factor_before tables before) one.offset one.part) ≡ Ok made
    → behind list (given_behind params tables stock before rest) ≡ whole
    → behind made (given_behind params tables stock (before ++ one ∷ []) after) ≡ whole
single-next params tables stock before rest after one list made whole first none put so_far =
    let turn = single-turn params tables stock before one after none in
    behind-turn list made _ _ whole put
    (ap (λ r. behind list r) (sym turn) ∙ ap (λ l. behind list (given_behind params tables stock before l)) (sym first) ∙ so_far)

pub single-fails : (params : Params) (tables : Tables) (stock : List Font) (before rest after : List PartAt) (one : PartAt)
    (list : List Item) (whole : Result (List Item) ParFault) (fault : ParFault) → rest ≡ one ∷ after → code_of one.part ≡ None
    → single params stock (current_before params stock before) (factor_before tables before) one.offset one.part ≡ Err fault
    → behind list (given_behind params tables stock before rest) ≡ whole → whole ≡ Err fault
single-fails params tables stock before rest after one list whole fault first none is so_far =
    let turn = single-turn params tables stock before one after none in
    behind-fault list _ _ whole fault is
    (ap (λ r. behind list r) (sym turn) ∙ ap (λ l. behind list (given_behind params tables stock before l)) (sym first) ∙ so_far)

-- a part that isn't a Char changes no space factor
pub single-factor : (tables : Tables) (before : List PartAt) (one : PartAt) → code_of one.part ≡ None
    → factor_before tables (before ++ one ∷ []) ≡ factor_before tables before
single-factor tables before one none =
    factor-append tables before (one ∷ []) ∙ ap (factor_from tables (factor_before tables before)) (no-codes one.offset one.part none)
  where
    no-codes : (offset : ℕ) (part : Part) → code_of part ≡ None → codes_of (at offset part ∷ []) ≡ []
    no-codes offset (Char code) none = absurd cc
    no-codes offset _ none = refl

-- nor does it go on with a run
pub single-fresh : (before after : List PartAt) (one : PartAt) → code_of one.part ≡ None → goes_on (before ++ one ∷ []) ≡ true
    → run_codes after ≡ []
single-fresh before after one none on =
    let off : goes_on (before ++ one ∷ []) ≡ false = goes_on-push before one ∙ ap (λ code. is_some code) none in
    absurd cc

pub not-font : (part : Part) (font : Option ℕ) → ((number : ℕ) → part ≡ font_part number → ⊥) → font_after font part ≡ font
not-font (font_part number) font other = absurd (other number refl)
not-font _ font other = refl

pub single-current : (params : Params) (stock : List Font) (before : List PartAt) (one : PartAt)
    → ((number : ℕ) → one.part ≡ font_part number → ⊥)
    → current_before params stock (before ++ one ∷ []) ≡ current_before params stock before
single-current params stock before one other =
    ap (option_and_then (current_in params stock)) (font-push before one ∙ not-font one.part (font_before before) other)

-- ---- a font

pub font-current : (params : Params) (stock : List Font) (before : List PartAt) (one : PartAt) (number : ℕ) (current : Current)
    → one.part ≡ font_part number → current_in params stock number ≡ Some current
    → current_before params stock (before ++ one ∷ []) ≡ Some current
font-current params stock before one number current is found =
    ap (option_and_then (current_in params stock)) (font-push before one ∙ ap (font_after (font_before before)) is) ∙ found

pub font-code : (part : Part) (number : ℕ) → part ≡ font_part number → code_of part ≡ None
font-code part number is = ap code_of is

pub font-next : (params : Params) (tables : Tables) (stock : List Font) (before rest after : List PartAt) (one : PartAt) (number : ℕ)
    (list : List Item) (whole : Result (List Item) ParFault) → rest ≡ one ∷ after → one.part ≡ font_part number
    → behind list (given_behind params tables stock before rest) ≡ whole
    → behind list (given_behind params tables stock (before ++ one ∷ []) after) ≡ whole
unfolding single
font-next params tables stock before rest after one number list whole first is so_far =
    single-next params tables stock before rest after one list list whole first (font-code one.part number is)
    (ap (λ part. behind list (single params stock (current_before params stock before) (factor_before tables before) one.offset part)) is
    ∙ ap Ok (append-nil list))
    so_far

-- what all parts give is an Ok or an Err, whatever stands before it
pub fault-of : (old : List Item) (given : Result (List Item) ParFault) (fault : ParFault) → behind old given ≡ Err fault → given ≡ Err fault
fault-of old (Ok items) fault is = absurd cc
fault-of old (Err other) fault is = is

pub all-done : (params : Params) (tables : Tables) (stock : List Font) (before rest : List PartAt) (list : List Item)
    (whole : Result (List Item) ParFault) → rest ≡ [] → behind list (given_behind params tables stock before rest) ≡ whole → whole ≡ Ok list
unfolding given_behind
all-done params tables stock before rest list whole none so_far =
    sym so_far ∙ ap (λ l. behind list (given_behind params tables stock before l)) none ∙ ap Ok (append-nil list)

-- the part at the place reached, by its kind
pub no-code : (parts : List PartAt) (i : ℕ) (one e : PartAt) → i < length parts → one ≡ get_or parts i one
    → ((code : ℕ) → (get_or parts i e).part ≡ Char code → ⊥) → code_of (get_or parts i one).part ≡ None
no-code parts i one e lt is other =
    not_char (get_or parts i one).part
    (λ code char. other code (ap (λ (at : PartAt). at.part) (get_or_default parts i e one lt) ∙ char))

pub no-font : (parts : List PartAt) (i : ℕ) (one e : PartAt) → i < length parts → one ≡ get_or parts i one
    → ((number : ℕ) → (get_or parts i e).part ≡ font_part number → ⊥) → (number : ℕ) → (get_or parts i one).part ≡ font_part number → ⊥
no-font parts i one e lt is other number font =
    other number (ap (λ (at : PartAt). at.part) (get_or_default parts i e one lt) ∙ font)

-- ---- the turns of the loop, by numbers

module _ (params : Params) (tables : Tables) (stock : List Font) (parts : List PartAt) (i : ℕ) (d : PartAt) (lt : i < length parts) where
  -- what is put into the list where a run begins, and the list behind it
  pub run-moves : (code n : ℕ) (list made : List Item) (whole : Result (List Item) ParFault) → (get_or parts i d).part ≡ Char code
      → n ≡ length (run_codes (drop i parts)) → (goes_on (take i parts) ≡ true → run_codes (drop i parts) ≡ [])
      → behind list (run_in stock (current_before params stock (take i parts)) (drop i parts)) ≡ Ok made
      → behind list (given_behind params tables stock (take i parts) (drop i parts)) ≡ whole
      → behind made (given_behind params tables stock (take (i + n) parts) (drop (i + n) parts)) ≡ whole
  run-moves code n list made whole is count fresh put so_far =
      rw (take-run parts i n, drop-run parts i n, count)
      (run-next params tables stock (take i parts) (drop i parts) (drop (i + 1) parts) (get_or parts i d).offset code list made whole
      (char-ahead parts i d code lt is) fresh put so_far)

  pub run-stops : (code : ℕ) (old list : List Item) (fault : ParFault) → (get_or parts i d).part ≡ Char code
      → (goes_on (take i parts) ≡ true → run_codes (drop i parts) ≡ [])
      → behind list (given_behind params tables stock (take i parts) (drop i parts)) ≡ behind old (given_behind params tables stock [] parts)
      → run_in stock (current_before params stock (take i parts)) (drop i parts) ≡ Err fault
      → given_behind params tables stock [] parts ≡ Err fault
  run-stops code old list fault is fresh so_far wrong =
      fault-of old _ fault
      (run-fails params tables stock (take i parts) (drop i parts) (drop (i + 1) parts) (get_or parts i d).offset code list _ fault
      (char-ahead parts i d code lt is) fresh wrong so_far)

  pub single-moves : (list made : List Item) (whole : Result (List Item) ParFault) → code_of (get_or parts i d).part ≡ None
      → behind list (single params stock (current_before params stock (take i parts)) (factor_before tables (take i parts))
      (get_or parts i d).offset (get_or parts i d).part) ≡ Ok made
      → behind list (given_behind params tables stock (take i parts) (drop i parts)) ≡ whole
      → behind made (given_behind params tables stock (take (i + 1) parts) (drop (i + 1) parts)) ≡ whole
  single-moves list made whole none put so_far =
      rw (take_more parts i d lt)
      (single-next params tables stock (take i parts) (drop i parts) (drop (i + 1) parts) (get_or parts i d) list made whole
      (ahead parts i d lt) none put so_far)

  pub single-stops : (old list : List Item) (fault : ParFault) → code_of (get_or parts i d).part ≡ None
      → behind list (given_behind params tables stock (take i parts) (drop i parts)) ≡ behind old (given_behind params tables stock [] parts)
      → single params stock (current_before params stock (take i parts)) (factor_before tables (take i parts))
      (get_or parts i d).offset (get_or parts i d).part ≡ Err fault
      → given_behind params tables stock [] parts ≡ Err fault
  single-stops old list fault none so_far wrong =
      fault-of old _ fault
      (single-fails params tables stock (take i parts) (drop i parts) (drop (i + 1) parts) (get_or parts i d) list _ fault
      (ahead parts i d lt) none wrong so_far)

  pub font-moves : (number : ℕ) (list : List Item) (whole : Result (List Item) ParFault) → (get_or parts i d).part ≡ font_part number
      → behind list (given_behind params tables stock (take i parts) (drop i parts)) ≡ whole
      → behind list (given_behind params tables stock (take (i + 1) parts) (drop (i + 1) parts)) ≡ whole
  font-moves number list whole is so_far =
      rw (take_more parts i d lt)
      (font-next params tables stock (take i parts) (drop i parts) (drop (i + 1) parts) (get_or parts i d) number list whole
      (ahead parts i d lt) is so_far)

  -- the parts done go on with no run, in the same font and at the same space factor
  pub keeps-current : ((number : ℕ) → (get_or parts i d).part ≡ font_part number → ⊥)
      → current_before params stock (take (i + 1) parts) ≡ current_before params stock (take i parts)
  keeps-current other =
      ap (current_before params stock) (take_more parts i d lt) ∙ single-current params stock (take i parts) (get_or parts i d) other

  pub keeps-factor : code_of (get_or parts i d).part ≡ None
      → factor_before tables (take (i + 1) parts) ≡ factor_before tables (take i parts)
  keeps-factor none =
      ap (factor_before tables) (take_more parts i d lt) ∙ single-factor tables (take i parts) (get_or parts i d) none

  pub ends-run : code_of (get_or parts i d).part ≡ None → goes_on (take (i + 1) parts) ≡ true → run_codes (drop (i + 1) parts) ≡ []
  ends-run none on =
      single-fresh (take i parts) (drop (i + 1) parts) (get_or parts i d) none
      (sym (ap (λ before. goes_on before) (take_more parts i d lt)) ∙ on)

  pub sets-current : (number : ℕ) (current : Current) → (get_or parts i d).part ≡ font_part number
      → current_in params stock number ≡ Some current → current_before params stock (take (i + 1) parts) ≡ Some current
  sets-current number current is found =
      ap (current_before params stock) (take_more parts i d lt)
      ∙ font-current params stock (take i parts) (get_or parts i d) number current is found

  pub run-begins : (code : ℕ) → (get_or parts i d).part ≡ Char code → 1 ≤ length (run_codes (drop i parts))
  unfolding run_codes
  run-begins code is = rw (char-ahead parts i d code lt is) (omega arith)

-- the parts from number i on, as a slice of them
pub slice-rest : (parts : List PartAt) (i : ℕ) → take (length parts - i) (drop i parts) ≡ drop i parts
slice-rest parts i = take_all (length parts - i) (drop i parts) (omega (arith, length-drop i parts))

pub length-le-count : (parts : List PartAt) → length parts ≤ part_count parts
unfolding part_count
length-le-count [] = omega arith
length-le-count (one ∷ parts) =
    omega (arith, length-le-count parts, weighs one.part, part_count-turn (one ∷ parts) 0 one (omega arith))
  where
    weighs : (part : Part) → 1 ≤ part_weight part
    weighs (Disc lists) = omega arith
    weighs _ = omega arith

pub font-of : (current x : Current) (number n : ℕ) → current.font ≡ number → number < n → Some current ≡ Some x → x.font < n
font-of current x number n own lt is =
    let same : current ≡ x = cc in
    subst (λ (one : Current). one.font < n) same (subst (λ (k : ℕ). k < n) (sym own) lt)
