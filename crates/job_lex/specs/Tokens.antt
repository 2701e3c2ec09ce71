-- The tokens of a job: what each kind is, the lists of adjoining tokens, and where no token begins. The job
-- language is this project's own, after the way in which TeX reads a file (TeX: The Program, sections 303 to 356).
use Rattle.std.specs.Prelude.{◌≡◌, ◌≢◌, ℕ, ◌+◌, ◌<◌, ◌≤◌, ◌⊎◌, List, [], ◌∷◌, length, slice_index, slice_range}
use Rattle.job_lex.specs.declared.category.Category.{Category}
use Rattle.job_lex.specs.declared.category.Category.TheVariants.{Escape, BeginGroup, EndGroup, Active, Comment, Blank, Letter, Other, Special, Invalid}
use Rattle.job_lex.specs.declared.token.TokKind.{TokKind}
use Rattle.job_lex.specs.declared.token.TokKind.TheVariants.{Par, Space, Skip, Word, Symbol, Open, Close, Tie, Char}
use Rattle.job_lex.specs.declared.token.Tok.{Tok}
use Rattle.job_lex.specs.declared.fault.LexFaultKind.{LexFaultKind}
use Rattle.job_lex.specs.declared.fault.LexFaultKind.TheVariants.{BadByte, LoneBackslash, SpecialByte}
use Rattle.job_lex.specs.Category.{category}

-- the number of a fault among the faults of a job
abbrev pub fault_number : LexFaultKind → ℕ
fault_number BadByte = 16
fault_number LoneBackslash = 17
fault_number SpecialByte = 18

-- the category of the byte at a place
abbrev pub category_at : List ℕ → ℕ → Category
category_at bytes place = category (slice_index bytes place)

-- the text of a token
abbrev pub text_of : List ℕ → Tok → List ℕ
text_of bytes tok = slice_range bytes tok.from tok.to

-- no line feed stands from one place to before another
abbrev pub HasNoLineFeed : List ℕ → ℕ → ℕ → Type 0
HasNoLineFeed bytes from to = (k : ℕ) → from ≤ k → k < to → slice_index bytes k ≢ 10

-- The place is in a comment that begins in the gap: a comment is `%` and all up to and including the
-- next line feed, or to the end of the file.
pub record IsInComment (bytes : List ℕ) (from place : ℕ) : Type 0 where
  pub percent : ℕ
  pub after_start : from ≤ percent
  pub before_place : percent ≤ place
  pub begins : category_at bytes percent ≡ Comment
  pub goes_on : HasNoLineFeed bytes percent place

-- The bytes are a gap, a maximal run of blanks and comments: each is a blank or in a comment, and the
-- byte behind them is neither.
pub record IsGap (bytes : List ℕ) (from to : ℕ) : Type 0 where
  pub some : from < to
  pub within : to ≤ length bytes
  pub each : (k : ℕ) → from ≤ k → k < to → (category_at bytes k ≡ Blank) ⊎ IsInComment bytes from k
  pub no_blank_behind : to < length bytes → category_at bytes to ≢ Blank
  pub no_comment_behind : to < length bytes → ¬ IsInComment bytes from to

-- tab, carriage return and space
abbrev pub IsInLine : ℕ → Type 0
IsInLine b = (b ≡ 9) ⊎ (b ≡ 13) ⊎ (b ≡ 32)

-- two line feeds stand there with only tabs, carriage returns and spaces between them
pub record HasEmptyLine (bytes : List ℕ) (from to : ℕ) : Type 0 where
  pub first : ℕ
  pub second : ℕ
  pub after_start : from ≤ first
  pub ordered : first < second
  pub before_end : second < to
  pub first_ends : slice_index bytes first ≡ 10
  pub second_ends : slice_index bytes second ≡ 10
  pub between : (k : ℕ) → first < k → k < second → IsInLine (slice_index bytes k)

-- a backslash and a maximal run of one or more letters
pub record IsWord (bytes : List ℕ) (from to : ℕ) : Type 0 where
  pub some : from + 1 < to
  pub within : to ≤ length bytes
  pub escape : category_at bytes from ≡ Escape
  pub letters : (k : ℕ) → from < k → k < to → category_at bytes k ≡ Letter
  pub no_letter_behind : to < length bytes → category_at bytes to ≢ Letter

-- a printing ASCII byte
abbrev pub IsPrinting : ℕ → Type 0
IsPrinting b = (32 ≤ b) × (b ≤ 126)

-- a backslash and one printing ASCII byte that is no letter
pub record IsSymbol (bytes : List ℕ) (from to : ℕ) : Type 0 where
  pub two : to ≡ from + 2
  pub within : to ≤ length bytes
  pub escape : category_at bytes from ≡ Escape
  pub printing : IsPrinting (slice_index bytes (from + 1))
  pub no_letter : category_at bytes (from + 1) ≢ Letter

-- one byte of a category
pub record IsOne (bytes : List ℕ) (from to : ℕ) (cat : Category) : Type 0 where
  pub one : to ≡ from + 1
  pub within : to ≤ length bytes
  pub is_cat : category_at bytes from ≡ cat

-- the bytes are a token of the kind
abbrev pub IsOfKind : List ℕ → ℕ → ℕ → TokKind → Type 0
IsOfKind bytes from to Par = IsGap bytes from to × HasEmptyLine bytes from to
IsOfKind bytes from to Space = IsGap bytes from to × (¬ HasEmptyLine bytes from to) × (category_at bytes from ≡ Blank)
IsOfKind bytes from to Skip = IsGap bytes from to × (¬ HasEmptyLine bytes from to) × (category_at bytes from ≢ Blank)
IsOfKind bytes from to Word = IsWord bytes from to
IsOfKind bytes from to Symbol = IsSymbol bytes from to
IsOfKind bytes from to Open = IsOne bytes from to BeginGroup
IsOfKind bytes from to Close = IsOne bytes from to EndGroup
IsOfKind bytes from to Tie = IsOne bytes from to Active
IsOfKind bytes from to Char = IsOne bytes from to Letter ⊎ IsOne bytes from to Other

-- the token's bytes are of its kind
abbrev pub IsToken : List ℕ → Tok → Type 0
IsToken bytes tok = IsOfKind bytes tok.from tok.to tok.kind

-- tokens that adjoin from one place to another
abbrev pub Adjoin : List ℕ → ℕ → List Tok → ℕ → Type 0
Adjoin bytes from [] to = from ≡ to
Adjoin bytes from (tok ∷ toks) to = (tok.from ≡ from) × IsToken bytes tok × Adjoin bytes tok.to toks to

-- the tokens adjoin and cover the bytes
abbrev pub AreTokens : List ℕ → List Tok → Type 0
AreTokens bytes toks = Adjoin bytes 0 toks (length bytes)

-- no token begins at the place, for this cause
abbrev pub IsStop : List ℕ → ℕ → LexFaultKind → Type 0
IsStop bytes place BadByte = (place < length bytes) × (category_at bytes place ≡ Invalid)
IsStop bytes place LoneBackslash = (place < length bytes) × (category_at bytes place ≡ Escape) × (place + 1 < length bytes → ¬ IsPrinting (slice_index bytes (place + 1)))
IsStop bytes place SpecialByte = (place < length bytes) × (category_at bytes place ≡ Special)

-- some tokens adjoin and cover the bytes before a place
pub record IsCovered (bytes : List ℕ) (place : ℕ) : Type 0 where
  pub toks : List Tok
  pub adjoin : Adjoin bytes 0 toks place

-- the file has tokens
abbrev pub HasTokens : List ℕ → Type 0
HasTokens bytes = IsCovered bytes (length bytes)

-- Tokens cover what stands before the place, and none begins there. So it is the first such place
-- outside comments.
pub record IsFirstFault (bytes : List ℕ) (place : ℕ) (kind : LexFaultKind) : Type 0 where
  pub before : List Tok
  pub adjoin : Adjoin bytes 0 before place
  pub stop : IsStop bytes place kind

-- the kinds of gaps
abbrev pub IsGapKind : TokKind → Type 0
IsGapKind kind = (kind ≡ Par) ⊎ (kind ≡ Space) ⊎ (kind ≡ Skip)

-- no two neighbours are both gaps
abbrev pub GapsStandApart : List Tok → Type 0
GapsStandApart [] = Unit {0}
GapsStandApart (tok ∷ []) = Unit {0}
GapsStandApart (tok ∷ next ∷ toks) = (¬ (IsGapKind tok.kind × IsGapKind next.kind)) × GapsStandApart (next ∷ toks)
