-- What the writer took of the rest moves over to the front.
use Rattle.std.proofs.Common.{◌≡◌, ℕ, ◌-◌, List, ◌++◌, length, take, drop, ap, ◌∙◌, append_assoc, take-append-drop}
use Rattle.std.proofs.lemmas.List.{take_rest}
use Rattle.std.proofs.KnownBytes.{Appends-trans}
use Rattle.outside_io.proofs.stdio.write_through.Goals as goal

moves_front : (front rest bytes : List ℕ) (n : ℕ) → front ++ rest ≡ bytes
    → (front ++ take n rest) ++ take (length rest - n) (drop n rest) ≡ bytes
moves_front front rest bytes n whole =
    ap (λ l. (front ++ take n rest) ++ l) (take_rest rest n) ∙ append_assoc front (take n rest) (drop n rest)
    ∙ ap (λ l. front ++ l) (take-append-drop n rest) ∙ whole

pub loop-rest-preserved : goal.loop-rest-preserved
loop-rest-preserved g c =
    let (front, whole, appended) = c.loop-rest.invariant in
    let rest = c.loop-rest.rest.now in
    let n = c.in-Ok.count in
    (front ++ take n rest, moves_front front rest _ n whole, Appends-trans _ _ _ _ _ appended c.in-Ok.ensures.bytes)
