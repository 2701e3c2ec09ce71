use Rattle.std.proofs.Common.{◌++◌, refl, rules, FitsSigned, w32}
use Rattle.std.proofs.lemmas.Int.{to_z-of_z}
use Rattle.byteorder.specs.Endian.{big_bytes}
use Rattle.dvi_write.specs.Commands.{signed_bytes}
use Rattle.dvi_write.proofs.Grown.{then_put, and_put}
use Rattle.dvi_write.proofs.fonts.put_sizes.Goals as goal

pub returns : goal.returns
returns c =
    let fits_size : FitsSigned w32 c.args.row.now.size = search rules in
    let fits_design : FitsSigned w32 c.args.row.now.design = search rules in
    let size = simp to_z-of_z at c.in_ok-put_signed.ensures in
    let design = simp to_z-of_z at c.put_signed-2.ensures in
    then_put c.put_signed-2.result c.args.out.now c.put_signed.new.out c.put_signed-2.new.out
    (big_bytes 4 c.args.row.now.checksum ++ signed_bytes 4 c.args.row.now.size) (signed_bytes 4 c.args.row.now.design) _
    (and_put c.args.out.now c.put_number.new.out c.put_signed.new.out (big_bytes 4 c.args.row.now.checksum) (signed_bytes 4 c.args.row.now.size)
    c.in_ok-put_number.ensures size)
    design refl
