-- The tokens of plain text are tokens of the grammar, of which none is left out.
use Rattle.std.proofs.Common.{◌≡◌, ℕ, zero, suc, ◌+◌, Bool, true, false, List, ◌∷◌, ◌++◌, get_or, refl, sym, ap, ◌∙◌}
use Rattle.std.specs.Prelude.{nat_lt, if◌then◌else◌}
use Rattle.job_lex.specs.declared.token.Tok.{Tok}
use Rattle.job_lex.specs.declared.token.TokKind.TheVariants.{Char as char_kind, Space as space_kind}
use Rattle.job_lex.specs.PlainTokens.{plain_toks}
use Rattle.job_reading.specs.declared.token.Token.{Token}
use Rattle.job_reading.specs.declared.token.Lexeme.TheVariants.{Char, Space}
use Rattle.job_reading.specs.GrammarTokens.{grammar_from}
use Rattle.job_reading.specs.PlainTokens.{plain_token, plain_tokens}

abbrev tok_by : ℕ → Bool → Tok
tok_by place large = record { kind = if large then char_kind else space_kind; from = place; to = place + 1 }

abbrev token_by : List ℕ → ℕ → Bool → Token
token_by bytes place large = record { lexeme = if large then Char (get_or bytes place 0) else Space; from = place; to = place + 1 }

-- one such token is kept
first_is : (bytes : List ℕ) (place : ℕ) (large : Bool) (toks : List Tok) → grammar_from bytes false (tok_by place large ∷ toks) ≡ token_by bytes place large ∷ grammar_from bytes false toks
first_is bytes place true toks = refl
first_is bytes place false toks = refl

pub grammar_plain : (bytes : List ℕ) (place count : ℕ) (toks : List Tok) → grammar_from bytes false (plain_toks bytes place count ++ toks) ≡ plain_tokens bytes place count ++ grammar_from bytes false toks
unfolding plain_toks plain_tokens
grammar_plain bytes place zero toks = refl
grammar_plain bytes place (suc count) toks =
    first_is bytes place (nat_lt 32 (get_or bytes place 0)) (plain_toks bytes (place + 1) count ++ toks)
    ∙ ap (λ (more : List Token). plain_token bytes place ∷ more) (grammar_plain bytes (place + 1) count toks)

-- the same, where a Space may be left out in no place, in the words of a call
pub left_plain : (file : List ℕ) (swallows : Bool) (before : List Tok) (text behind_file : List ℕ) (place count : ℕ) (behind : List Tok) → swallows ≡ false → text ≡ file → behind_file ≡ file → before ≡ plain_toks file place count ++ behind → grammar_from file swallows before ≡ plain_tokens text place count ++ grammar_from behind_file false behind
left_plain file swallows before text behind_file place count behind kept text_is file_is is =
    ap (λ (b : Bool). grammar_from file b before) kept
    ∙ ap (grammar_from file false) is
    ∙ grammar_plain file place count behind
    ∙ ap (λ (f : List ℕ). plain_tokens f place count ++ grammar_from file false behind) (sym text_is)
    ∙ ap (λ (f : List ℕ). plain_tokens text place count ++ grammar_from f false behind) (sym file_is)
