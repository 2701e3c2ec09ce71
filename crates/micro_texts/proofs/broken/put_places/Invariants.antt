-- The places so far stand behind the text.
use Rattle.std.proofs.Common.{◌≡◌, ◌++◌, string_bytes, take}
use Rattle.micro_texts.specs.Breaks.{places_text}
use Rattle.micro_texts.proofs.broken.put_places.Given as goal

abbrev pub invariant-loop-place : goal.invariant-loop-place
invariant-loop-place l =
    string_bytes l.text ≡ string_bytes l.fn.text ++ places_text (take l.place-index l.places)
