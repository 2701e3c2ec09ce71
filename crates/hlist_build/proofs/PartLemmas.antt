-- What parts give, part by part and run by run.
use Rattle.std.proofs.Common.{◌≡◌, ℕ, zero, suc, ◌+◌, ◌<◌, ◌≤◌, Bool, true, false, List, [], ◌∷◌, ◌++◌, length, take, drop, get_or, refl, ap, sym, ◌∙◌, append_assoc, append-nil, arith}
use Rattle.std.specs.Prelude.{Option, Some, None, Result, Ok, Err, fold, is_some, filter_map}
use Rattle.std.proofs.lemmas.List.{at_drop_more, at_drop_all}
use Rattle.font_stock.specs.declared.font.Font.{Font}
use Rattle.micro_num.specs.declared.paragraph.PartAt.{PartAt}
use Rattle.micro_num.specs.declared.params.Params.{Params}
use Rattle.micro_num.specs.declared.part.Part.{Part}
use Rattle.micro_num.specs.declared.part.Part.TheVariants.{Char, Space, Normal, Tie, Kern, Skip, Penalty, Hyphen, Disc, Font as font_part}
use Rattle.micro_num.specs.declared.tables.Tables.{Tables}
use Rattle.hlist_build.specs.Given.{behind, joined, single, given_at, given, given_behind}
use Rattle.hlist_build.specs.Parts.{code_of, codes_of, begun_by, run_codes, goes_on, font_after, font_before, factor_from, factor_before}
use Rattle.hlist_build.specs.Runs.{run_in}
use Rattle.hlist_build.specs.Spaces.{current_before}
use Rattle.hlist_build.specs.declared.fault.ParFault.{ParFault}
use Rattle.hlist.specs.declared.item.Item.{Item}

-- ---- lists of what parts give

pub behind-nothing : (r : Result (List Item) ParFault) → behind [] r ≡ r
behind-nothing (Ok items) = refl
behind-nothing (Err fault) = refl

-- what one part gives is in the list, and the rest follows
pub behind-turn : (list made : List Item) (g r whole : Result (List Item) ParFault) → behind list g ≡ Ok made
    → behind list (joined g r) ≡ whole → behind made r ≡ whole
behind-turn list made (Ok more) (Ok rest) whole put so_far =
    let same : list ++ more ≡ made = cc in
    ap (λ l. Ok (l ++ rest)) (sym same) ∙ ap (λ l. Ok l) (append_assoc list more rest) ∙ so_far
behind-turn list made (Ok more) (Err fault) whole put so_far = so_far
behind-turn list made (Err fault) r whole put so_far = absurd cc

pub behind-fault : (list : List Item) (g r whole : Result (List Item) ParFault) (fault : ParFault) → g ≡ Err fault
    → behind list (joined g r) ≡ whole → whole ≡ Err fault
behind-fault list (Ok more) r whole fault is so_far = absurd cc
behind-fault list (Err other) r whole fault is so_far = sym so_far ∙ is

-- ---- folds over the parts before

pub fold-push : {A B : Type 0} (f : B → A → B) (a : B) (xs : List A) (y : A) → fold f a (xs ++ y ∷ []) ≡ f (fold f a xs) y
fold-push f a [] y = refl
fold-push f a (x ∷ xs) y = fold-push f (f a x) xs y

pub fold-both : {A B : Type 0} (f : B → A → B) (a : B) (xs ys : List A) → fold f a (xs ++ ys) ≡ fold f (fold f a xs) ys
fold-both f a [] ys = refl
fold-both f a (x ∷ xs) ys = fold-both f (f a x) xs ys

pub goes_on-push : (before : List PartAt) (one : PartAt) → goes_on (before ++ one ∷ []) ≡ is_some (code_of one.part)
goes_on-push before one = fold-push (λ last next. is_some (code_of next.part)) false before one

pub font-push : (before : List PartAt) (one : PartAt) → font_before (before ++ one ∷ []) ≡ font_after (font_before before) one.part
font-push before one = fold-push (λ font next. font_after font next.part) None before one

codes-at : (offset : ℕ) (part : Part) (before after : List PartAt) → codes_of (before ++ after) ≡ codes_of before ++ codes_of after
    → codes_of (record { offset = offset; part = part } ∷ before ++ after)
    ≡ codes_of (record { offset = offset; part = part } ∷ before) ++ codes_of after
codes-at offset (Char code) before after same = ap (λ codes. code ∷ codes) same
codes-at offset _ before after same = same

pub codes-append : (before after : List PartAt) → codes_of (before ++ after) ≡ codes_of before ++ codes_of after
codes-append [] after = refl
codes-append (one ∷ before) after = codes-at one.offset one.part before after (codes-append before after)

pub factor-append : (tables : Tables) (before after : List PartAt) → factor_before tables (before ++ after)
    ≡ factor_from tables (factor_before tables before) (codes_of after)
factor-append tables before after =
    ap (λ codes. factor_from tables 1000 codes) (codes-append before after)
    ∙ fold-both _ 1000 (codes_of before) (codes_of after)

-- ---- runs

abbrev pub at : ℕ → Part → PartAt
at offset part = record { offset = offset; part = part }

-- a run ends where it is said to
ends-at : (offset : ℕ) (part : Part) (parts : List PartAt) → run_codes (drop (length (run_codes parts)) parts) ≡ []
    → run_codes (drop (length (begun_by (code_of part) (run_codes parts))) (at offset part ∷ parts)) ≡ []
unfolding run_codes
ends-at offset (Char code) parts rest = rest
ends-at offset _ parts rest = refl

pub run-ends : (parts : List PartAt) → run_codes (drop (length (run_codes parts)) parts) ≡ []
unfolding run_codes
run-ends [] = refl
run-ends (one ∷ parts) = ends-at one.offset one.part parts (run-ends parts)

-- the codes of a run's parts are the run's codes
parts-at : (offset : ℕ) (part : Part) (parts : List PartAt) → codes_of (take (length (run_codes parts)) parts) ≡ run_codes parts
    → codes_of (take (length (begun_by (code_of part) (run_codes parts))) (at offset part ∷ parts))
    ≡ begun_by (code_of part) (run_codes parts)
unfolding run_codes
parts-at offset (Char code) parts rest = ap (λ codes. code ∷ codes) rest
parts-at offset _ parts rest = refl

pub run-parts : (parts : List PartAt) → codes_of (take (length (run_codes parts)) parts) ≡ run_codes parts
unfolding run_codes
run-parts [] = refl
run-parts (one ∷ parts) = parts-at one.offset one.part parts (run-parts parts)

-- a run is no longer than the parts
long-at : (offset : ℕ) (part : Part) (parts : List PartAt) → length (run_codes parts) ≤ length parts
    → length (begun_by (code_of part) (run_codes parts)) ≤ 1 + length parts
unfolding run_codes
long-at offset (Char code) parts rest = omega (arith, rest)
long-at offset _ parts rest = omega arith

pub run-le : (parts : List PartAt) → length (run_codes parts) ≤ length parts
unfolding run_codes
run-le [] = omega arith
run-le (one ∷ parts) = let here = long-at one.offset one.part parts (run-le parts) in omega (arith, here)

-- a run names no font
font-at : (font : Option ℕ) (offset : ℕ) (part : Part) (parts : List PartAt)
    → fold (λ font next. font_after font next.part) font (take (length (run_codes parts)) parts) ≡ font
    → fold (λ font next. font_after font next.part) font
    (take (length (begun_by (code_of part) (run_codes parts))) (at offset part ∷ parts)) ≡ font
unfolding run_codes
font-at font offset (Char code) parts rest = rest
font-at font offset _ parts rest = refl

pub run-font : (font : Option ℕ) (parts : List PartAt)
    → fold (λ font next. font_after font next.part) font (take (length (run_codes parts)) parts) ≡ font
unfolding run_codes
run-font font [] = refl
run-font font (one ∷ parts) = font-at font one.offset one.part parts (run-font font parts)

pub run-font_before : (before parts : List PartAt) → font_before (before ++ take (length (run_codes parts)) parts) ≡ font_before before
run-font_before before parts =
    fold-both (λ font next. font_after font next.part) None before (take (length (run_codes parts)) parts)
    ∙ run-font (font_before before) parts

-- the parts of a run that goes on give nothing
goes-at : (params : Params) (tables : Tables) (stock : List Font) (before : List PartAt) (offset : ℕ) (part : Part) (parts : List PartAt)
    → goes_on before ≡ true
    → ((front : List PartAt) → goes_on front ≡ true → given_behind params tables stock front parts
    ≡ given_behind params tables stock (front ++ take (length (run_codes parts)) parts) (drop (length (run_codes parts)) parts))
    → given_behind params tables stock before (at offset part ∷ parts)
    ≡ given_behind params tables stock
    (before ++ take (length (begun_by (code_of part) (run_codes parts))) (at offset part ∷ parts))
    (drop (length (begun_by (code_of part) (run_codes parts))) (at offset part ∷ parts))
unfolding run_codes given_behind given
goes-at params tables stock before offset (Char code) parts on rest =
    ap (λ mid. joined (given_at (Char code) mid (run_in stock (current_before params stock before) (at offset (Char code) ∷ parts)) (single params stock (current_before params stock before) (factor_before tables before) offset (Char code)))
    (given_behind params tables stock (before ++ at offset (Char code) ∷ []) parts)) on
    ∙ behind-nothing (given_behind params tables stock (before ++ at offset (Char code) ∷ []) parts)
    ∙ rest (before ++ at offset (Char code) ∷ []) (goes_on-push before (at offset (Char code)))
    ∙ ap (λ front. given_behind params tables stock front (drop (length (run_codes parts)) parts))
    (append_assoc before (at offset (Char code) ∷ []) (take (length (run_codes parts)) parts))
goes-at params tables stock before offset part parts on rest =
    ap (λ front. given_behind params tables stock front (at offset part ∷ parts)) (sym (append-nil before))

pub run-goes_on : (params : Params) (tables : Tables) (stock : List Font) (before parts : List PartAt) → goes_on before ≡ true
    → given_behind params tables stock before parts
    ≡ given_behind params tables stock (before ++ take (length (run_codes parts)) parts) (drop (length (run_codes parts)) parts)
unfolding run_codes given_behind given
run-goes_on params tables stock before [] on = refl
run-goes_on params tables stock before (one ∷ parts) on =
    goes-at params tables stock before one.offset one.part parts on (λ front on. run-goes_on params tables stock front parts on)

-- ---- the turns of a loop over parts, `before` done and `rest` ahead

-- the first part of a run gives the run, and the rest of it nothing
pub run-turn : (params : Params) (tables : Tables) (stock : List Font) (before : List PartAt) (offset code : ℕ) (after : List PartAt)
    → goes_on before ≡ false
    → given_behind params tables stock before (at offset (Char code) ∷ after)
    ≡ joined (run_in stock (current_before params stock before) (at offset (Char code) ∷ after))
    (given_behind params tables stock
    (before ++ take (length (run_codes (at offset (Char code) ∷ after))) (at offset (Char code) ∷ after))
    (drop (length (run_codes (at offset (Char code) ∷ after))) (at offset (Char code) ∷ after)))
unfolding run_codes given_behind given
run-turn params tables stock before offset code after off =
    let one : PartAt = at offset (Char code) in
    let current = current_before params stock before in
    ap (λ mid. joined (given_at (Char code) mid (run_in stock current (one ∷ after)) (single params stock current (factor_before tables before) offset (Char code)))
    (given_behind params tables stock (before ++ one ∷ []) after)) off
    ∙ ap (λ rest. joined (run_in stock current (one ∷ after)) rest)
    (run-goes_on params tables stock (before ++ one ∷ []) after (goes_on-push before one)
    ∙ ap (λ front. given_behind params tables stock front (drop (length (run_codes after)) after))
    (append_assoc before (one ∷ []) (take (length (run_codes after)) after)))

-- any other part gives what it gives by itself
pub single-turn : (params : Params) (tables : Tables) (stock : List Font) (before : List PartAt) (one : PartAt) (after : List PartAt)
    → code_of one.part ≡ None
    → given_behind params tables stock before (one ∷ after)
    ≡ joined (single params stock (current_before params stock before) (factor_before tables before) one.offset one.part)
    (given_behind params tables stock (before ++ one ∷ []) after)
unfolding given_behind given
single-turn params tables stock before one after = turn-at one.part
  where
    turn-at : (part : Part) → code_of part ≡ None
        → joined (given_at part (goes_on before) (run_in stock (current_before params stock before) (at one.offset part ∷ after)) (single params stock (current_before params stock before) (factor_before tables before) one.offset part)) (given_behind params tables stock (before ++ at one.offset part ∷ []) after)
        ≡ joined (single params stock (current_before params stock before) (factor_before tables before) one.offset part) (given_behind params tables stock (before ++ at one.offset part ∷ []) after)
    turn-at (Char code) none = absurd cc
    turn-at _ none = refl

-- ---- the codes of a run, one after another

pub run_codes-turn : (parts : List PartAt) (i : ℕ) (one : PartAt) (code : ℕ) → i < length parts → one ≡ get_or parts i one
    → one.part ≡ Char code → run_codes (drop i parts) ≡ (code ∷ []) ++ run_codes (drop (i + 1) parts)
unfolding run_codes
run_codes-turn parts i one code lt is char =
    at_drop_more run_codes parts i one lt
    ∙ ap (λ next. begun_by (code_of next.part) (run_codes (drop (i + 1) parts))) (sym is)
    ∙ ap (λ part. begun_by (code_of part) (run_codes (drop (i + 1) parts))) char

pub run_codes-stop : (parts : List PartAt) (i : ℕ) (one : PartAt) → i < length parts → one ≡ get_or parts i one
    → code_of one.part ≡ None → run_codes (drop i parts) ≡ []
unfolding run_codes
run_codes-stop parts i one lt is none =
    at_drop_more run_codes parts i one lt
    ∙ ap (λ next. begun_by (code_of next.part) (run_codes (drop (i + 1) parts))) (sym is)
    ∙ ap (λ code. begun_by code (run_codes (drop (i + 1) parts))) none

pub run_codes-end : (parts : List PartAt) (i : ℕ) → length parts ≤ i → run_codes (drop i parts) ≡ []
unfolding run_codes
run_codes-end parts i le = at_drop_all run_codes parts i le

pub not_char : (part : Part) → ((code : ℕ) → part ≡ Char code → ⊥) → code_of part ≡ None
not_char (Char code) other = absurd (other code refl)
not_char _ other = refl
