use Rattle.std.proofs.Common.{[], ◌∷◌, ◌++◌, ap, ◌∙◌, min, length, rules, FitsSigned, w32}
use Rattle.std.proofs.lemmas.Int.{to_z-of_z}
use Rattle.byteorder.specs.Endian.{big_bytes}
use Rattle.dvi_write.specs.Commands.{spell, pointer, signed_bytes, numbers}
use Rattle.dvi_write.specs.Document.{unit, greatest_extent, greatest_width}
use Rattle.dvi_write.specs.Output.{grown}
use Rattle.dvi_write.specs.Writing.{post_bytes}
use Rattle.dvi_write.proofs.Grown.{then_put, and_put, regroup}
use Rattle.dvi_write.proofs.file.put_post.Goals as goal

pub returns : goal.returns
unfolding post_bytes spell
returns c =
    let fits_extent : FitsSigned w32 c.greatest_extent.result = search rules in
    let fits_width : FitsSigned w32 c.greatest_width.result = search rules in
    let extent = simp to_z-of_z at c.in_ok-put_signed.ensures in
    let width = simp to_z-of_z at c.in_ok-put_signed-2.ensures in
    let two = and_put c.args.out.now c.put.new.self c.put_pointer.new.out (248 ∷ []) (pointer c.args.last) c.in_ok-put.ensures c.in_ok-put_pointer.ensures in
    let three = and_put c.args.out.now c.put_pointer.new.out c.put_unit.new.out _ (numbers unit) two c.in_ok-put_unit.ensures in
    let four = and_put c.args.out.now c.put_unit.new.out c.put_signed.new.out _ (signed_bytes 4 (greatest_extent c.args.pages.now)) three
    (extent ∙ ap (λ z. grown c.put_unit.new.out (signed_bytes 4 z)) c.greatest_extent.ensures) in
    let five = and_put c.args.out.now c.put_signed.new.out c.put_signed-2.new.out _ (signed_bytes 4 (greatest_width c.args.pages.now)) four
    (width ∙ ap (λ z. grown c.put_signed.new.out (signed_bytes 4 z)) c.greatest_width.ensures) in
    then_put c.put_counts.result c.args.out.now c.put_signed-2.new.out c.put_counts.new.out _
    (big_bytes 2 (min (length c.args.pages.now) 1) ++ big_bytes 2 (length c.args.pages.now)) _ five c.put_counts.ensures
    (regroup (248 ∷ []) (pointer c.args.last) (numbers unit) (signed_bytes 4 (greatest_extent c.args.pages.now)) (signed_bytes 4 (greatest_width c.args.pages.now))
    (big_bytes 2 (min (length c.args.pages.now) 1)) (big_bytes 2 (length c.args.pages.now)))
