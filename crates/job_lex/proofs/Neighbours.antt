-- What is true of adjoining tokens as a list: their texts join to the source, and gaps stand apart.
use Rattle.std.proofs.Common.{◌≡◌, ℕ, ◌<◌, List, [], ◌∷◌, ◌++◌, length, drop, ⊎_elim, refl, sym, ap, ◌∙◌, subst, arith}
use Rattle.std.specs.List.{flat_map}
use Rattle.std.proofs.lemmas.List.Folds.{drop_split}
use Rattle.job_lex.specs.declared.token.TokKind.{TokKind}
use Rattle.job_lex.specs.declared.token.TokKind.TheVariants.{Par, Space, Skip}
use Rattle.job_lex.specs.declared.token.Tok.{Tok}
use Rattle.job_lex.specs.Tokens.{text_of, IsGap, IsOfKind, Adjoin, IsGapKind, GapsStandApart}
use Rattle.job_lex.proofs.Once.{extends}

drop-all : (bytes : List ℕ) → drop (length bytes) bytes ≡ []
drop-all [] = refl
drop-all (b ∷ bytes) = drop-all bytes

-- the texts of tokens up to the end of the file are the rest of the source
pub texts-rest : (bytes : List ℕ) (from : ℕ) (toks : List Tok) → Adjoin bytes from toks (length bytes) → flat_map (text_of bytes) toks ≡ drop from bytes
texts-rest bytes from [] adjoin = sym (ap (λ (k : ℕ). drop k bytes) adjoin ∙ drop-all bytes)
texts-rest bytes from (tok ∷ toks) adjoin =
    let range = extends bytes tok.from tok.to tok.kind adjoin.1 in
    ap (λ (rest : List ℕ). text_of bytes tok ++ rest) (texts-rest bytes tok.to toks adjoin.2)
    ∙ sym (drop_split bytes tok.from tok.to (omega (arith, range.some)))
    ∙ ap (λ (k : ℕ). drop k bytes) adjoin.0

is_gap : (bytes : List ℕ) (from to : ℕ) (kind : TokKind) → IsGapKind kind → IsOfKind bytes from to kind → IsGap bytes from to
is_gap bytes from to Par gap is = is.0
is_gap bytes from to Space gap is = is.0
is_gap bytes from to Skip gap is = is.0
is_gap bytes from to kind gap is = absurd (⊎_elim (λ par. cc) (λ others. ⊎_elim (λ space. cc) (λ skip. cc) others) gap)

-- what follows a gap is no gap
gap_no_gap : (bytes : List ℕ) (from to end : ℕ) → IsGap bytes from to → IsGap bytes to end → ⊥
gap_no_gap bytes from to end one two =
    let inside : to < length bytes = omega (arith, two.some, two.within) in
    ⊎_elim (one.no_blank_behind inside)
    (λ comment. one.no_comment_behind inside (record { percent = comment.percent; after_start = omega (arith, one.some, comment.after_start); before_place = comment.before_place; begins = comment.begins; goes_on = comment.goes_on }))
    (two.each to (omega arith) two.some)

pub gaps-apart : (bytes : List ℕ) (from : ℕ) (toks : List Tok) (to : ℕ) → Adjoin bytes from toks to → GapsStandApart toks
gaps-apart bytes from [] to adjoin = tt
gaps-apart bytes from (tok ∷ []) to adjoin = tt
gaps-apart bytes from (tok ∷ next ∷ toks) to adjoin = (
  λ both. gap_no_gap bytes tok.from tok.to next.to (is_gap bytes tok.from tok.to tok.kind both.0 adjoin.1) (subst (λ (at : ℕ). IsGap bytes at next.to) adjoin.2.0 (is_gap bytes next.from next.to next.kind both.1 adjoin.2.1)),
  gaps-apart bytes tok.to (next ∷ toks) to adjoin.2,
)
