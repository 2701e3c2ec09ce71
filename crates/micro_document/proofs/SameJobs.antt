-- Jobs that say the same are the same.
use Rattle.std.proofs.Common.{◌≡◌, ◌+◌, List, [], ◌∷◌, length, map, All, Option, Some, None, refl, ap}
use Rattle.std.specs.Option.{option_map}
use Rattle.std.proofs.Props.{props}
use mathlib.Core.HLevel.{is_prop→PathP}
use Rattle.font_stock.specs.Ranges.{IsHang, IsFactor, AreLimits}
use Rattle.font_stock.specs.declared.codes.FontCodes.{FontCodes}
use Rattle.font_stock.specs.declared.expand.Expand.{Expand}
use Rattle.liang_hyph.specs.declared.source.Pattern.{Pattern}
use Rattle.job_text.specs.Answers.{Said, said_of}
use Rattle.job_text.specs.Fonts.{Codes, Limits, Font, codes_of, limits_of, font_of}
use Rattle.job_text.specs.Hyphenation.{pattern_text}
use Rattle.job_text.specs.declared.font_decl.FontDecl.{FontDecl}
use Rattle.job_text.specs.declared.job.Job.{Job}

same_codes : (a b : FontCodes) → codes_of a ≡ codes_of b → a ≡ b
same_codes a b e =
    let left = ap (λ (c : Codes). c.left) e in
    let right = ap (λ (c : Codes). c.right) e in
    let factors = ap (λ (c : Codes). c.factors) e in
    λ i. record {
      left = left i;
      right = right i;
      ef = factors i;
      hyphen = (e i).hyphen;
      left_fits = is_prop→PathP (λ j. All IsHang (left j)) (λ j. hlevel props) a.left_fits b.left_fits i;
      right_fits = is_prop→PathP (λ j. All IsHang (right j)) (λ j. hlevel props) a.right_fits b.right_fits i;
      ef_fits = is_prop→PathP (λ j. All IsFactor (factors j)) (λ j. hlevel props) a.ef_fits b.ef_fits i;
    }

same_limits : (a b : Expand) → limits_of a ≡ limits_of b → a ≡ b
same_limits a b e = λ i. record {
  stretch = (e i).stretch;
  shrink = (e i).shrink;
  step = (e i).step;
  limits = is_prop→PathP (λ j. AreLimits (e j).stretch (e j).shrink (e j).step) (λ j. hlevel props) a.limits b.limits i;
}

one_limits : (a b : Limits) → Some a ≡ Some b → a ≡ b
one_limits a b e = cc

same_expand : (a b : Option Expand) → option_map limits_of a ≡ option_map limits_of b → a ≡ b
same_expand None None e = refl
same_expand None (Some b) e = absurd cc
same_expand (Some a) None e = absurd cc
same_expand (Some a) (Some b) e = ap Some (same_limits a b (one_limits (limits_of a) (limits_of b) e))

same_decl : (a b : FontDecl) → font_of a ≡ font_of b → a ≡ b
same_decl a b e =
    let codes = same_codes a.codes b.codes (ap (λ (f : Font). f.codes) e) in
    let expand = same_expand a.expand b.expand (ap (λ (f : Font). f.expand) e) in
    λ i. record { name = (e i).name; size = (e i).size; codes = codes i; expand = expand i }

same_pattern : (a b : Pattern) → pattern_text a ≡ pattern_text b → a ≡ b
same_pattern a b e = λ i. record {
  letters = (e i).letters;
  values = (e i).values;
  start = (e i).start;
  end = (e i).end;
  one_value_more = is_prop→PathP (λ j. length (e j).values ≡ length (e j).letters + 1) (λ j. hlevel props) a.one_value_more b.one_value_more i;
}

head_same : {A : Type 0} (a b : A) (x y : List A) → a ∷ x ≡ b ∷ y → a ≡ b
head_same a b x y e = cc

tail_same : {A : Type 0} (a b : A) (x y : List A) → a ∷ x ≡ b ∷ y → x ≡ y
tail_same a b x y e = cc

-- lists with the same images under a function that keeps elements apart
same_elements : {A B : Type 0} (f : A → B) → ((a b : A) → f a ≡ f b → a ≡ b) → (xs ys : List A) → map f xs ≡ map f ys → xs ≡ ys
same_elements f apart [] [] e = refl
same_elements f apart [] (y ∷ ys) e = absurd cc
same_elements f apart (x ∷ xs) [] e = absurd cc
same_elements f apart (x ∷ xs) (y ∷ ys) e =
    let first = apart x y (head_same (f x) (f y) (map f xs) (map f ys) e) in
    let rest = same_elements f apart xs ys (tail_same (f x) (f y) (map f xs) (map f ys) e) in
    λ i. first i ∷ rest i

pub same_job : (a b : Job) → said_of a ≡ said_of b → a ≡ b
same_job a b e =
    let fonts = same_elements font_of same_decl a.fonts b.fonts (ap (λ (s : Said). s.fonts) e) in
    let patterns = same_elements pattern_text same_pattern a.patterns b.patterns (ap (λ (s : Said). s.patterns) e) in
    λ i. record {
      fonts = fonts i;
      tables = (e i).tables;
      patterns = patterns i;
      exceptions = (e i).exceptions;
      pars = (e i).pars;
    }
