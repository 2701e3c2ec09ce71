-- What the answers of a run say of one another.
use Rattle.std.proofs.Common.{◌≡◌, ℕ, ◌<◌, ◌⊎◌, Bool, true, false, List, refl, ap, sym, ◌∙◌, arith, inl, inr}
use Rattle.std.specs.Prelude.{Result, Ok, Err}
use Rattle.std.proofs.lemmas.Bool.Decides.{leb_tells}
use Rattle.tfm_read.specs.declared.character.CharInfo.{CharInfo}
use Rattle.tfm_read.specs.declared.tfm.Tfm.{Tfm}
use Rattle.lig_kern.specs.Running.{start_of, limit_of, AllExist, IsFirstMissing, IsRun, PassesLimit, Answers, ComesTo}
use Rattle.lig_kern.specs.declared.fault.LigFault.{LigFault}
use Rattle.lig_kern.specs.declared.fault.LigFault.TheVariants.{TooManySteps, Missing, NoMemory}
use Rattle.lig_kern.specs.declared.glyph.Glyph.{Glyph}
use Rattle.lig_kern.proofs.EndLemmas.{glyphs-unique, ends-or_past}

-- the end of the rewriting is the answer of the run
pub answers-of : (tfm : Tfm) (codes : List ℕ) (left right : Bool) (result : Result (List Glyph) LigFault)
    → AllExist tfm.chars codes → ComesTo tfm (start_of tfm codes left right) (limit_of codes) result
    → Answers tfm codes left right result
answers-of tfm codes left right (Ok glyphs) exist ends = record { exist = exist; ends = ends }
answers-of tfm codes left right (Err TooManySteps) exist past = record { exist = exist; past = past }
answers-of tfm codes left right (Err (Missing index)) exist missing = absurd missing
answers-of tfm codes left right (Err NoMemory) exist free = tt

-- a code that isn't there is none of those that all are
pub none-missing : (chars : List CharInfo) (codes : List ℕ) (index : ℕ) → AllExist chars codes → IsFirstMissing chars codes index → ⊥
none-missing chars codes index exist first =
    let clash : true ≡ false = sym (exist index first.within) ∙ first.missing in cc

earlier-exists : (chars : List CharInfo) (codes : List ℕ) (i j : ℕ) → IsFirstMissing chars codes i → IsFirstMissing chars codes j → i < j → ⊥
earlier-exists chars codes i j p q below =
    let clash : true ≡ false = sym (q.before i below) ∙ p.missing in cc

-- there is one first
pub first-unique : (chars : List CharInfo) (codes : List ℕ) (i j : ℕ) → IsFirstMissing chars codes i → IsFirstMissing chars codes j → i ≡ j
first-unique chars codes i j p q =
    elim (leb_tells i j) [
      | inl le ↦ elim (leb_tells j i) [
        | inl ge ↦ omega arith
        | inr lt ↦ absurd (earlier-exists chars codes i j p q lt.1)
      ]
      | inr lt ↦ absurd (earlier-exists chars codes j i q p lt.1)
    ]

-- where a run comes to its end, the answer is its glyphs
pub only-glyphs : (tfm : Tfm) (codes : List ℕ) (left right : Bool) (result : Result (List Glyph) LigFault)
    → Answers tfm codes left right result → (glyphs : List Glyph) → IsRun tfm codes left right glyphs
    → (result ≡ Ok glyphs) ⊎ (result ≡ Err NoMemory)
only-glyphs tfm codes left right (Ok others) answer glyphs run =
    inl (ap Ok (glyphs-unique tfm _ _ glyphs others run.ends answer.ends))
only-glyphs tfm codes left right (Err TooManySteps) answer glyphs run =
    absurd (ends-or_past tfm _ _ glyphs run.ends answer.past)
only-glyphs tfm codes left right (Err (Missing index)) answer glyphs run =
    absurd (none-missing tfm.chars codes index run.exist answer)
only-glyphs tfm codes left right (Err NoMemory) answer glyphs run = inr refl

-- where more words act than the limit, the answer says so
pub only-past : (tfm : Tfm) (codes : List ℕ) (left right : Bool) (result : Result (List Glyph) LigFault)
    → Answers tfm codes left right result → PassesLimit tfm codes left right
    → (result ≡ Err TooManySteps) ⊎ (result ≡ Err NoMemory)
only-past tfm codes left right (Ok glyphs) answer run =
    absurd (ends-or_past tfm _ _ glyphs answer.ends run.past)
only-past tfm codes left right (Err TooManySteps) answer run = inl refl
only-past tfm codes left right (Err (Missing index)) answer run =
    absurd (none-missing tfm.chars codes index run.exist answer)
only-past tfm codes left right (Err NoMemory) answer run = inr refl
