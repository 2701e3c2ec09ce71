-- Bytes written in pieces: what was written so far, and what one more piece makes of it.
use Rattle.std.proofs.Common.{◌≡◌, ℕ, ◌+◌, ◌-◌, ◌^◌, ◌<◌, min, List, [], ◌++◌, length, take, drop, refl, sym, ◌∙◌, ap, arith, append_assoc, length-drop}
use Rattle.std.proofs.lemmas.List.{take-append-drop}
use Rattle.std.specs.Io.KnownBytes.{Appends}
use Rattle.std.proofs.KnownBytes.{Appends-nil, Appends-trans}
use Rattle.outside_io.specs.Counts.{RisesBy}
use Rattle.outside_io.specs.Writing.{AppendsPrefix}
use Rattle.outside_io.specs.States.{SinkState}
use Rattle.pdfmicro_run.specs.Ran.{pieces, WritesPart}

-- a front was written, in as many calls as it has pieces, and the rest is to come
pub record Fronts (bytes rest : List ℕ) (old new : SinkState) : Type 0 where
  pub front : List ℕ
  pub calls : ℕ
  pub split : front ++ rest ≡ bytes
  pub appends : Appends old.written new.written front
  pub counted : calls + pieces (length rest) ≡ pieces (length bytes)
  pub rises : RisesBy calls old.calls new.calls

pub fronts_none : (bytes : List ℕ) (old : SinkState) → old.calls < 2 ^ 64 → Fronts bytes bytes old old
fronts_none bytes old fits = record {
  front = [];
  calls = 0;
  split = refl;
  appends = Appends-nil old.written;
  counted = omega arith;
  rises = omega arith;
}

-- one more call for a rest that isn't empty
one_piece : (rest next : ℕ) → 0 < rest → next ≡ rest - min rest 16384 → pieces rest ≡ 1 + pieces next
one_piece rest next some e = omega arith

pub fronts_more : (bytes rest piece next : List ℕ) (n : ℕ) (old mid new : SinkState) → Fronts bytes rest old mid → 0 < length rest → n ≡ min (length rest) 16384 → piece ≡ take n rest → next ≡ drop n rest → Appends mid.written new.written piece → RisesBy 1 mid.calls new.calls → Fronts bytes next old new
fronts_more bytes rest piece next n old mid new f some size piece_is next_is appends rises =
    let len : length next ≡ length rest - min (length rest) 16384 = ap length next_is ∙ length-drop n rest ∙ ap (λ k. length rest - k) size in
    let whole : piece ++ next ≡ rest = ap (λ z. z ++ next) piece_is ∙ ap (λ z. take n rest ++ z) next_is ∙ take-append-drop n rest in
    record {
      front = f.front ++ piece;
      calls = f.calls + 1;
      split = append_assoc f.front piece next ∙ ap (λ z. f.front ++ z) whole ∙ f.split;
      appends = Appends-trans old.written mid.written new.written f.front piece f.appends appends;
      counted = omega (arith, f.counted, one_piece (length rest) (length next) some len);
      rises = omega (arith, f.rises, rises);
    }

pub fronts_part : (bytes rest piece next : List ℕ) (n : ℕ) (old mid new : SinkState) → Fronts bytes rest old mid → 0 < length rest → n ≡ min (length rest) 16384 → piece ≡ take n rest → next ≡ drop n rest → AppendsPrefix mid.written new.written piece → RisesBy 1 mid.calls new.calls → WritesPart bytes old new
fronts_part bytes rest piece next n old mid new f some size piece_is next_is (part, left, cut, appends) rises =
    let len : length next ≡ length rest - min (length rest) 16384 = ap length next_is ∙ length-drop n rest ∙ ap (λ k. length rest - k) size in
    let whole : piece ++ next ≡ rest = ap (λ z. z ++ next) piece_is ∙ ap (λ z. take n rest ++ z) next_is ∙ take-append-drop n rest in (
      (
        f.front ++ part,
        left ++ next,
        append_assoc f.front part (left ++ next) ∙ ap (λ z. f.front ++ z) (sym (append_assoc part left next) ∙ ap (λ z. z ++ next) cut ∙ whole) ∙ f.split,
        Appends-trans old.written mid.written new.written f.front part f.appends appends,
      ),
      (f.calls + 1, omega (arith, f.counted, one_piece (length rest) (length next) some len), omega (arith, f.rises, rises)),
    )
