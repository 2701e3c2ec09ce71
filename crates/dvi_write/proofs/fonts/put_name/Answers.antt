use Rattle.std.proofs.Common.{◌≡◌, ◌+◌, [], ◌∷◌, ◌++◌, ap, arith, length, length-append}
use Rattle.dvi_write.proofs.Grown.{then_put, and_put}
use Rattle.dvi_write.proofs.fonts.put_name.Goals as goal

pub returns : goal.returns
returns c =
    let count : length c.args.name.now + length c.args.sign.now + length c.args.digits.now ≡ length (c.args.name.now ++ c.args.sign.now ++ c.args.digits.now) =
    omega (arith, length-append c.args.name.now c.args.sign.now, length-append (c.args.name.now ++ c.args.sign.now) c.args.digits.now) in
    let two = and_put c.args.out.now c.put.new.self c.put-2.new.self (0 ∷ (length c.args.name.now + length c.args.sign.now + length c.args.digits.now) ∷ []) c.args.name.now c.in_ok-put.ensures c.in_ok-put-2.ensures in
    let three = and_put c.args.out.now c.put-2.new.self c.put-3.new.self _ c.args.sign.now two c.in_ok-put-3.ensures in
    then_put c.put-4.result c.args.out.now c.put-3.new.self c.put-4.new.self _ c.args.digits.now _ three c.put-4.ensures
    (ap (λ n. (0 ∷ n ∷ []) ++ c.args.name.now ++ c.args.sign.now ++ c.args.digits.now) count)
