-- The parts of plain text, one after another.
use Rattle.std.proofs.Common.{◌≡◌, ℕ, suc, ◌+◌, ◌-◌, ◌<◌, List, [], ◌∷◌, ◌++◌, refl, sym, ap, ◌∙◌, append_assoc, arith}
use Rattle.micro_num.specs.declared.paragraph.PartAt.{PartAt}
use Rattle.job_text.specs.PlainParts.{part_at, plain_parts}

pub append-nil : (parts : List PartAt) → parts ++ [] ≡ parts
append-nil [] = refl
append-nil (one ∷ parts) = ap (λ (more : List PartAt). one ∷ more) (append-nil parts)

first_part : (bytes : List ℕ) (place count less : ℕ) → count ≡ suc less → plain_parts bytes place count ≡ part_at bytes place ∷ plain_parts bytes (place + 1) less
unfolding plain_parts
first_part bytes place count less is = ap (plain_parts bytes place) is

-- at first all is left
pub parts_begin : (bytes : List ℕ) (place left count : ℕ) (done parts : List PartAt) → left ≡ count → done ≡ parts → done ++ plain_parts bytes place left ≡ parts ++ plain_parts bytes place count
parts_begin bytes place left count done parts all same =
    ap (λ (n : ℕ). done ++ plain_parts bytes place n) all
    ∙ ap (λ (list : List PartAt). list ++ plain_parts bytes place count) same

-- one more part of what is left is done
pub parts_step : (bytes : List ℕ) (place end : ℕ) (done next whole : List PartAt) → place < end → done ++ plain_parts bytes place (end - place) ≡ whole → next ≡ done ++ part_at bytes place ∷ [] → next ++ plain_parts bytes (place + 1) (end - (place + 1)) ≡ whole
parts_step bytes place end done next whole before is pushed =
    ap (λ (parts : List PartAt). parts ++ plain_parts bytes (place + 1) (end - (place + 1))) pushed
    ∙ append_assoc done (part_at bytes place ∷ []) (plain_parts bytes (place + 1) (end - (place + 1)))
    ∙ sym (ap (λ (parts : List PartAt). done ++ parts) (first_part bytes place (end - place) (end - (place + 1)) (omega arith)))
    ∙ is

-- where nothing is left, all is done
pub parts_end : (bytes : List ℕ) (place left : ℕ) (done whole : List PartAt) → left ≡ 0 → done ++ plain_parts bytes place left ≡ whole → done ≡ whole
unfolding plain_parts
parts_end bytes place left done whole none is = sym (append-nil done) ∙ sym (ap (λ (n : ℕ). done ++ plain_parts bytes place n) none) ∙ is
