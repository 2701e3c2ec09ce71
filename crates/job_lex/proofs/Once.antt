-- A token that begins at a place is the only one there, and no token begins at a fault or at the end.
use Rattle.std.proofs.Common.{◌≡◌, ℕ, ◌+◌, ◌<◌, ◌≤◌, List, [], ◌∷◌, length, ⊎_elim, refl, sym, ap, ◌∙◌, subst, arith}
use Rattle.std.proofs.str.Laws.{order}
use Rattle.job_lex.specs.declared.category.Category.{Category}
use Rattle.job_lex.specs.declared.category.Category.TheVariants.{Escape, BeginGroup, EndGroup, Active, Comment, Blank, Letter, Other, Special, Invalid}
use Rattle.job_lex.specs.declared.token.TokKind.{TokKind}
use Rattle.job_lex.specs.declared.token.TokKind.TheVariants.{Par, Space, Skip, Word, Symbol, Open, Close, Tie, Char}
use Rattle.job_lex.specs.declared.token.Tok.{Tok}
use Rattle.job_lex.specs.declared.fault.LexFaultKind.{LexFaultKind}
use Rattle.job_lex.specs.declared.fault.LexFaultKind.TheVariants.{BadByte, LoneBackslash, SpecialByte}
use Rattle.job_lex.specs.Tokens.{category_at, IsGap, IsWord, IsSymbol, HasEmptyLine, IsOfKind, Adjoin, AreTokens, IsStop, IsFirstFault}
use Rattle.job_lex.proofs.Bytes.{letter_is_printing}

-- what begins with a byte of each category
data Group : Type 0 where
  gap : Group
  command : Group
  begin : Group
  end : Group
  tie : Group
  char : Group
  nothing : Group

group_of : Category → Group
group_of Escape = command
group_of BeginGroup = begin
group_of EndGroup = end
group_of Active = tie
group_of Comment = gap
group_of Blank = gap
group_of Letter = char
group_of Other = char
group_of Special = nothing
group_of Invalid = nothing

group_of_kind : TokKind → Group
group_of_kind Par = gap
group_of_kind Space = gap
group_of_kind Skip = gap
group_of_kind Word = command
group_of_kind Symbol = command
group_of_kind Open = begin
group_of_kind Close = end
group_of_kind Tie = tie
group_of_kind Char = char

-- a gap begins with a blank or a comment
gap_begins : (bytes : List ℕ) (from to : ℕ) → IsGap bytes from to → group_of (category_at bytes from) ≡ gap
unfolding group_of
gap_begins bytes from to is =
    ⊎_elim
    (λ blank. ap group_of blank)
    (λ comment. let same : comment.percent ≡ from = omega (arith, comment.after_start, comment.before_place) in ap group_of (ap (category_at bytes) (sym same) ∙ comment.begins))
    (is.each from (omega arith) is.some)

-- the first byte of a token shows the group of its kind
group_is : (bytes : List ℕ) (from to : ℕ) (kind : TokKind) → IsOfKind bytes from to kind → group_of (category_at bytes from) ≡ group_of_kind kind
unfolding group_of group_of_kind
group_is bytes from to Par is = gap_begins bytes from to is.0
group_is bytes from to Space is = gap_begins bytes from to is.0
group_is bytes from to Skip is = gap_begins bytes from to is.0
group_is bytes from to Word is = ap group_of is.escape
group_is bytes from to Symbol is = ap group_of is.escape
group_is bytes from to Open is = ap group_of is.is_cat
group_is bytes from to Close is = ap group_of is.is_cat
group_is bytes from to Tie is = ap group_of is.is_cat
group_is bytes from to Char is = ⊎_elim (λ letter. ap group_of letter.is_cat) (λ other. ap group_of other.is_cat) is

-- a token has a byte, and lies in the file
pub record Extends (bytes : List ℕ) (from to : ℕ) : Type 0 where
  pub some : from < to
  pub within : to ≤ length bytes

pub extends : (bytes : List ℕ) (from to : ℕ) (kind : TokKind) → IsOfKind bytes from to kind → Extends bytes from to
extends bytes from to Par is = record { some = is.0.some; within = is.0.within }
extends bytes from to Space is = record { some = is.0.some; within = is.0.within }
extends bytes from to Skip is = record { some = is.0.some; within = is.0.within }
extends bytes from to Word is = record { some = omega (arith, is.some); within = is.within }
extends bytes from to Symbol is = record { some = omega (arith, is.two); within = is.within }
extends bytes from to Open is = record { some = omega (arith, is.one); within = is.within }
extends bytes from to Close is = record { some = omega (arith, is.one); within = is.within }
extends bytes from to Tie is = record { some = omega (arith, is.one); within = is.within }
extends bytes from to Char is = ⊎_elim (λ one. record { some = omega (arith, one.one); within = one.within }) (λ one. record { some = omega (arith, one.one); within = one.within }) is

-- of two gaps from one place none is shorter
gap_no_shorter : (bytes : List ℕ) (from a b : ℕ) → IsGap bytes from a → IsGap bytes from b → a < b → ⊥
gap_no_shorter bytes from a b short long less =
    let inside : a < length bytes = omega (arith, long.within) in
    ⊎_elim (short.no_blank_behind inside) (short.no_comment_behind inside) (long.each a (omega (arith, short.some)) less)

gap_ends_once : (bytes : List ℕ) (from a b : ℕ) → IsGap bytes from a → IsGap bytes from b → a ≡ b
gap_ends_once bytes from a b one other =
    ⊎_elim (λ less. absurd (gap_no_shorter bytes from a b one other less))
    (λ at_least. ⊎_elim (λ less. absurd (gap_no_shorter bytes from b a other one less)) (λ at_most. omega arith) (order b a))
    (order a b)

word_no_shorter : (bytes : List ℕ) (from a b : ℕ) → IsWord bytes from a → IsWord bytes from b → a < b → ⊥
word_no_shorter bytes from a b short long less = short.no_letter_behind (omega (arith, long.within)) (long.letters a (omega (arith, short.some)) less)

word_ends_once : (bytes : List ℕ) (from a b : ℕ) → IsWord bytes from a → IsWord bytes from b → a ≡ b
word_ends_once bytes from a b one other =
    ⊎_elim (λ less. absurd (word_no_shorter bytes from a b one other less))
    (λ at_least. ⊎_elim (λ less. absurd (word_no_shorter bytes from b a other one less)) (λ at_most. omega arith) (order b a))
    (order a b)

-- a word and a symbol differ in their second byte
word_no_symbol : (bytes : List ℕ) (from a b : ℕ) → IsWord bytes from a → IsSymbol bytes from b → ⊥
word_no_symbol bytes from a b word symbol = symbol.no_letter (word.letters (from + 1) (omega arith) word.some)

-- a gap of one kind is none of another
pub record Same (kind other : TokKind) (a b : ℕ) : Type 0 where
  pub kinds : kind ≡ other
  pub ends : a ≡ b

empty_line_at : (bytes : List ℕ) (from a b : ℕ) → a ≡ b → HasEmptyLine bytes from a → HasEmptyLine bytes from b
empty_line_at bytes from a b same has = subst (HasEmptyLine bytes from) same has

char_ends : (bytes : List ℕ) (from to : ℕ) → IsOfKind bytes from to Char → to ≡ from + 1
char_ends bytes from to is = ⊎_elim (λ letter. letter.one) (λ other. other.one) is

pub once : (bytes : List ℕ) (from a b : ℕ) (kind other : TokKind) → IsOfKind bytes from a kind → IsOfKind bytes from b other → Same kind other a b
unfolding group_of_kind
once bytes from a b Par Par one two = record { kinds = refl; ends = gap_ends_once bytes from a b one.0 two.0 }
once bytes from a b Par Space one two = absurd (two.1 (empty_line_at bytes from a b (gap_ends_once bytes from a b one.0 two.0) one.1))
once bytes from a b Par Skip one two = absurd (two.1 (empty_line_at bytes from a b (gap_ends_once bytes from a b one.0 two.0) one.1))
once bytes from a b Space Par one two = absurd (one.1 (empty_line_at bytes from b a (gap_ends_once bytes from b a two.0 one.0) two.1))
once bytes from a b Space Space one two = record { kinds = refl; ends = gap_ends_once bytes from a b one.0 two.0 }
once bytes from a b Space Skip one two = absurd (two.2 one.2)
once bytes from a b Skip Par one two = absurd (one.1 (empty_line_at bytes from b a (gap_ends_once bytes from b a two.0 one.0) two.1))
once bytes from a b Skip Space one two = absurd (one.2 two.2)
once bytes from a b Skip Skip one two = record { kinds = refl; ends = gap_ends_once bytes from a b one.0 two.0 }
once bytes from a b Word Word one two = record { kinds = refl; ends = word_ends_once bytes from a b one two }
once bytes from a b Word Symbol one two = absurd (word_no_symbol bytes from a b one two)
once bytes from a b Symbol Word one two = absurd (word_no_symbol bytes from b a two one)
once bytes from a b Symbol Symbol one two = record { kinds = refl; ends = one.two ∙ sym two.two }
once bytes from a b Open Open one two = record { kinds = refl; ends = one.one ∙ sym two.one }
once bytes from a b Close Close one two = record { kinds = refl; ends = one.one ∙ sym two.one }
once bytes from a b Tie Tie one two = record { kinds = refl; ends = one.one ∙ sym two.one }
once bytes from a b Char Char one two = record { kinds = refl; ends = char_ends bytes from a one ∙ sym (char_ends bytes from b two) }
once bytes from a b kind other one two = let same : group_of_kind kind ≡ group_of_kind other = sym (group_is bytes from a kind one) ∙ group_is bytes from b other two in absurd (cc)

-- no token begins at a byte of no group
no_token : (bytes : List ℕ) (from to : ℕ) (kind : TokKind) → group_of (category_at bytes from) ≡ nothing → IsOfKind bytes from to kind → ⊥
unfolding group_of_kind
no_token bytes from to kind none is =
    let same : group_of_kind kind ≡ nothing = sym (group_is bytes from to kind is) ∙ none in
    elim kind as (λ k. group_of_kind k ≡ nothing → ⊥) [ Par ↦ λ e. cc | Space ↦ λ e. cc | Skip ↦ λ e. cc | Word ↦ λ e. cc | Symbol ↦ λ e. cc | Open ↦ λ e. cc | Close ↦ λ e. cc | Tie ↦ λ e. cc | Char ↦ λ e. cc ] same

-- no token begins at a fault
pub no_token_at_stop : (bytes : List ℕ) (from to : ℕ) (fault : LexFaultKind) (kind : TokKind) → IsStop bytes from fault → IsOfKind bytes from to kind → ⊥
unfolding group_of group_of_kind
no_token_at_stop bytes from to BadByte kind stop is = no_token bytes from to kind (ap group_of stop.1) is
no_token_at_stop bytes from to SpecialByte kind stop is = no_token bytes from to kind (ap group_of stop.1) is
no_token_at_stop bytes from to LoneBackslash Word stop is = stop.2 (omega (arith, is.some, is.within)) (letter_is_printing _ (is.letters (from + 1) (omega arith) is.some))
no_token_at_stop bytes from to LoneBackslash Symbol stop is = stop.2 (omega (arith, is.two, is.within)) is.printing
no_token_at_stop bytes from to LoneBackslash kind stop is = let same : group_of_kind kind ≡ command = sym (group_is bytes from to kind is) ∙ ap group_of stop.1 in cc

-- a place has one fault at most
pub one_fault : (bytes : List ℕ) (place : ℕ) (fault other : LexFaultKind) → IsStop bytes place fault → IsStop bytes place other → fault ≡ other
one_fault bytes place BadByte BadByte one two = refl
one_fault bytes place LoneBackslash LoneBackslash one two = refl
one_fault bytes place SpecialByte SpecialByte one two = refl
one_fault bytes place BadByte LoneBackslash one two = cc
one_fault bytes place BadByte SpecialByte one two = cc
one_fault bytes place LoneBackslash BadByte one two = cc
one_fault bytes place LoneBackslash SpecialByte one two = cc
one_fault bytes place SpecialByte BadByte one two = cc
one_fault bytes place SpecialByte LoneBackslash one two = cc

-- where the tokens end: at the end of the file or at a fault
pub data IsLast (bytes : List ℕ) (place : ℕ) : Type 0 where
  whole : place ≡ length bytes → IsLast bytes place
  fault : (kind : LexFaultKind) → IsStop bytes place kind → IsLast bytes place

pub no_token_at_last : (bytes : List ℕ) (from to : ℕ) (kind : TokKind) → IsLast bytes from → IsOfKind bytes from to kind → ⊥
no_token_at_last bytes from to kind (whole at_end) is = let range = extends bytes from to kind is in omega (arith, range.some, range.within)
no_token_at_last bytes from to kind (fault cause stop) is = no_token_at_stop bytes from to cause kind stop is

tok_is : (a b : Tok) → a.kind ≡ b.kind → a.from ≡ b.from → a.to ≡ b.to → a ≡ b
tok_is a b kinds froms tos = λ i. record { kind = kinds i; from = froms i; to = tos i }

-- lists of adjoining tokens from one place that go as far as tokens do are one list, to one place
pub Adjoin-once : (bytes : List ℕ) (from : ℕ) (toks others : List Tok) (a b : ℕ) → Adjoin bytes from toks a → Adjoin bytes from others b → IsLast bytes a → IsLast bytes b → (toks ≡ others) × (a ≡ b)
Adjoin-once bytes from [] [] a b one two last last' = (refl, sym one ∙ two)
Adjoin-once bytes from [] (tok ∷ others) a b one two last last' = absurd (no_token_at_last bytes tok.from tok.to tok.kind (subst (IsLast bytes) (sym one ∙ sym two.0) last) two.1)
Adjoin-once bytes from (tok ∷ toks) [] a b one two last last' = absurd (no_token_at_last bytes tok.from tok.to tok.kind (subst (IsLast bytes) (sym two ∙ sym one.0) last') one.1)
Adjoin-once bytes from (tok ∷ toks) (tok' ∷ others) a b one two last last' =
    let begins : tok.from ≡ tok'.from = one.0 ∙ sym two.0 in
    let same = once bytes tok'.from tok.to tok'.to tok.kind tok'.kind (subst (λ (from : ℕ). IsOfKind bytes from tok.to tok.kind) begins one.1) two.1 in
    let rest = Adjoin-once bytes tok'.to toks others a b (subst (λ (from : ℕ). Adjoin bytes from toks a) same.ends one.2) two.2 last last' in
    ((λ i. tok_is tok tok' same.kinds begins same.ends i ∷ rest.0 i), rest.1)

-- a fault lies in the file
stop_is_inside : (bytes : List ℕ) (place : ℕ) (kind : LexFaultKind) → IsStop bytes place kind → place < length bytes
stop_is_inside bytes place BadByte stop = stop.0
stop_is_inside bytes place LoneBackslash stop = stop.0
stop_is_inside bytes place SpecialByte stop = stop.0

pub AreTokens-once : (bytes : List ℕ) (toks others : List Tok) → AreTokens bytes toks → AreTokens bytes others → toks ≡ others
AreTokens-once bytes toks others one two = (Adjoin-once bytes 0 toks others _ _ one two (whole refl) (whole refl)).0

-- tokens up to a fault are no tokens of the whole file
pub tokens_or_fault : (bytes : List ℕ) (toks before : List Tok) (place : ℕ) (kind : LexFaultKind) → AreTokens bytes toks → Adjoin bytes 0 before place → IsStop bytes place kind → ⊥
tokens_or_fault bytes toks before place kind are before_it stop =
    let same = (Adjoin-once bytes 0 toks before _ _ are before_it (whole refl) (fault kind stop)).1 in
    omega (arith, same, stop_is_inside bytes place kind stop)

pub first_fault-once : (bytes : List ℕ) (place other : ℕ) (kind another : LexFaultKind) → IsFirstFault bytes place kind → IsFirstFault bytes other another → (place ≡ other) × (kind ≡ another)
first_fault-once bytes place other kind another one two =
    let same = (Adjoin-once bytes 0 _ _ _ _ one.adjoin two.adjoin (fault kind one.stop) (fault another two.stop)).1 in
    (same, one_fault bytes other kind another (subst (λ (at : ℕ). IsStop bytes at kind) same one.stop) two.stop)
