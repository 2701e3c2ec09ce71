-- Texts written one after another, and lines of messages.
--     texts_none, texts_more, texts_all, texts_part     texts
--     says_fixed, not_fixed, says_made, says_lost       a message
use Rattle.std.proofs.Common.{◌≡◌, ℕ, ◌+◌, ◌^◌, ◌<◌, List, [], ◌∷◌, ◌++◌, length, drop, get_or, add-one, refl, sym, ◌∙◌, ap, arith, append_assoc, append-nil, subst, length-append, drop-cons}
use Rattle.std.proofs.Common.{true, false, Option, Some, None, inl, inr}
use Rattle.std.specs.List.{concat}
use Rattle.std.specs.Prelude.{is_some}
use Rattle.std.specs.Io.KnownBytes.{Appends}
use Rattle.std.proofs.KnownBytes.{Appends-nil, Appends-trans}
use Rattle.outside_io.specs.Counts.{RisesBy}
use Rattle.outside_io.specs.Writing.{AppendsPrefix}
use Rattle.outside_io.specs.States.{SinkState}
use Rattle.micro_texts.specs.Messages.{fixed_of, message_of}
use Rattle.micro_texts.specs.declared.answer.Answer.{Answer}
use Rattle.micro_texts.specs.declared.answer.Answer.TheVariants.{Done, Job, Font, Par, DviTooLong, BadWords, Absent, ReadFault, OutFault, TalkFault, NoMemory, FileTooLong}
use Rattle.pdfmicro_run.specs.Ran.{IsMessage, SaysAnswer, Talks, TalksPart}

-- a front of the texts was written, each in one call, and the others are to come
pub record TextsSaid (texts left : List (List ℕ)) (old new : SinkState) : Type 0 where
  pub said : List (List ℕ)
  pub split : said ++ left ≡ texts
  pub appends : Appends old.written new.written (concat said)
  pub rises : RisesBy (length said) old.calls new.calls

pub texts_none : (texts left : List (List ℕ)) (old : SinkState) → left ≡ texts → old.calls < 2 ^ 64 → TextsSaid texts left old old
texts_none texts left old all fits = record {
  said = [];
  split = all;
  appends = Appends-nil old.written;
  rises = omega arith;
}

concat_append : (a b : List (List ℕ)) → concat (a ++ b) ≡ concat a ++ concat b
concat_append [] b = refl
concat_append (x ∷ a) b = ap (λ z. x ++ z) (concat_append a b) ∙ sym (append_assoc x (concat a) (concat b))

concat_last : (said : List (List ℕ)) (text : List ℕ) → concat (said ++ text ∷ []) ≡ concat said ++ text
concat_last said text = concat_append said (text ∷ []) ∙ ap (λ z. concat said ++ z) (append-nil text)

pub texts_more : (texts left behind : List (List ℕ)) (text : List ℕ) (old mid new : SinkState) → left ≡ text ∷ behind → TextsSaid texts left old mid → Appends mid.written new.written text → RisesBy 1 mid.calls new.calls
    → TextsSaid texts behind old new
texts_more texts left behind text old mid new cut t appends rises =
    let P : List ℕ → Type 0 = Appends old.written new.written in
    record {
      said = t.said ++ text ∷ [];
      split = append_assoc t.said (text ∷ []) behind ∙ ap (λ z. t.said ++ z) (sym cut) ∙ t.split;
      appends = subst P (sym (concat_last t.said text)) (Appends-trans old.written mid.written new.written (concat t.said) text t.appends appends);
      rises = omega (arith, t.rises, rises, length-append t.said (text ∷ []));
    }

pub texts_all : (texts left : List (List ℕ)) (old new : SinkState) → left ≡ [] → TextsSaid texts left old new → Talks texts old new
texts_all texts left old new none t =
    let all : t.said ≡ texts = sym (append-nil t.said) ∙ ap (λ z. t.said ++ z) (sym none) ∙ t.split in
    let P : List (List ℕ) → Type 0 = λ s. Talks s old new in
    subst P all (t.appends, t.rises)

pub texts_part : (texts left behind : List (List ℕ)) (text : List ℕ) (old mid new : SinkState) → left ≡ text ∷ behind → TextsSaid texts left old mid → AppendsPrefix mid.written new.written text → RisesBy 1 mid.calls new.calls
    → TalksPart texts old new
texts_part texts left behind text old mid new cut t (front, back, whole, appends) rises =
    let split : t.said ++ (text ∷ behind) ≡ texts = ap (λ z. t.said ++ z) (sym cut) ∙ t.split in
    let lengths : length t.said + length (text ∷ behind) ≡ length texts = sym (length-append t.said (text ∷ behind)) ∙ ap length split in (
      (
        concat t.said ++ front,
        back ++ concat behind,
        append_assoc (concat t.said) front (back ++ concat behind) ∙ ap (λ z. concat t.said ++ z) (sym (append_assoc front back (concat behind)) ∙ ap (λ z. z ++ concat behind) whole)
            ∙ sym (concat_append t.said (text ∷ behind)) ∙ ap concat split,
        Appends-trans old.written mid.written new.written (concat t.said) front t.appends appends,
      ),
      (length t.said + 1, omega (arith, lengths), omega (arith, t.rises, rises)),
    )

-- there is a text where one was written, or was to be
pub some_text : (texts left behind : List (List ℕ)) (text : List ℕ) (old mid : SinkState) → left ≡ text ∷ behind → TextsSaid texts left old mid → 0 < length texts
some_text texts left behind text old mid cut t =
    let split : t.said ++ (text ∷ behind) ≡ texts = ap (λ z. t.said ++ z) (sym cut) ∙ t.split in
    let lengths : length t.said + length (text ∷ behind) ≡ length texts = sym (length-append t.said (text ∷ behind)) ∙ ap length split in
    omega (arith, lengths)

-- the texts from a place on
pub texts_split : (items : List (List ℕ)) (place : ℕ) (text : List ℕ) → place < length items → text ≡ get_or items place text → drop place items ≡ text ∷ drop (place + 1) items
texts_split items place text inside is =
    let split : drop place items ≡ get_or items place text ∷ drop (place + 1) items = rw (add-one, drop-cons items place text) in
    split ∙ ap (λ t. t ∷ drop (place + 1) items) (sym is)

-- ---- a message

pub message_fixed : (answer : Answer) (name line : List ℕ) → fixed_of answer ≡ Some line → message_of answer name ≡ Some line
message_fixed BadWords name line e = e
message_fixed OutFault name line e = e
message_fixed NoMemory name line e = e
message_fixed Done name line e = absurd cc
message_fixed (Job offset kind) name line e = absurd cc
message_fixed (Font font kind word) name line e = absurd cc
message_fixed (Par at) name line e = absurd cc
message_fixed (DviTooLong bytes) name line e = absurd cc
message_fixed (Absent file) name line e = absurd cc
message_fixed (ReadFault file) name line e = absurd cc
message_fixed TalkFault name line e = absurd cc
message_fixed (FileTooLong file) name line e = absurd cc

-- the message of an answer whose line is fixed
pub says_fixed : (answer : Answer) (name : List ℕ) (old new : SinkState) (line : Option (List ℕ)) → fixed_of answer ≡ line → is_some line ≡ true → IsMessage line old new → SaysAnswer answer name old new answer
says_fixed answer name old new None e some is = absurd cc
says_fixed answer name old new (Some line) e some is =
    let P : Option (List ℕ) → Type 0 = λ o. IsMessage o old new in
    inl (refl, subst P (sym (message_fixed answer name line e)) is)

-- where the line isn't fixed, nothing was said yet
pub not_fixed : (line : Option (List ℕ)) (old mid : SinkState) → is_some line ≡ false → IsMessage line old mid → mid ≡ old
not_fixed None old mid none is = is
not_fixed (Some line) old mid none is = absurd cc

no_line : (line : Option (List ℕ)) → is_some line ≡ false → line ≡ None
no_line None none = refl
no_line (Some line) none = absurd cc

pub says_made : (answer : Answer) (name : List ℕ) (old mid new : SinkState) (line : Option (List ℕ)) → mid ≡ old → line ≡ message_of answer name → IsMessage line mid new → SaysAnswer answer name old new answer
says_made answer name old mid new line same e is =
    let P : SinkState → Type 0 = λ s. IsMessage line s new in
    let Q : Option (List ℕ) → Type 0 = λ o. IsMessage o old new in
    inl (refl, subst Q e (subst P same is))

pub says_lost : (answer : Answer) (name : List ℕ) (old mid new : SinkState) → mid ≡ old → is_some (fixed_of answer) ≡ false → IsMessage (fixed_of NoMemory) mid new → SaysAnswer answer name old new NoMemory
says_lost answer name old mid new same none is =
    let P : SinkState → Type 0 = λ s. IsMessage (fixed_of NoMemory) s new in
    inr (refl, no_line (fixed_of answer) none, subst P same is)
