use Rattle.std.proofs.Common.{◌≡◌, ◌+◌, ◌-◌, ◌%◌, [], ◌∷◌, ◌++◌, ap, ◌∙◌, arith, append_assoc, take, replicate}
use Rattle.std.proofs.lemmas.List.{take-replicate}
use Rattle.byteorder.specs.Endian.{big_bytes}
use Rattle.dvi_write.specs.Commands.{spell}
use Rattle.dvi_write.specs.Document.{filling}
use Rattle.dvi_write.specs.Writing.{end_bytes}
use Rattle.dvi_write.proofs.Grown.{then_put, and_put}
use Rattle.dvi_write.proofs.file.put_end.Goals as goal

pub returns : goal.returns
unfolding end_bytes spell
returns c =
    let two = and_put c.args.out.now c.put.new.self c.put_place.new.out (249 ∷ []) (big_bytes 4 c.args.post) c.in_ok-put.ensures c.in_ok-put_place.ensures in
    let three = and_put c.args.out.now c.put_place.new.out c.put-2.new.self _ (2 ∷ []) two c.in_ok-put-2.ensures in
    let count : 7 - (c.length.result % 4 + 9) % 4 ≡ filling c.args.out.now.length = omega (arith, c.length.ensures) in
    then_put c.put-3.result c.args.out.now c.put-2.new.self c.put-3.new.self _ (take (7 - (c.length.result % 4 + 9) % 4) (replicate 7 223)) _ three c.put-3.ensures
    (append_assoc (249 ∷ big_bytes 4 c.args.post) (2 ∷ []) _
    ∙ ap (λ xs. (249 ∷ big_bytes 4 c.args.post) ++ 2 ∷ xs) (take-replicate (7 - (c.length.result % 4 + 9) % 4) 7 223 (omega arith) ∙ ap (λ n. replicate n 223) count))
