use Rattle.std.proofs.Common.{◌++◌, refl}
use Rattle.byteorder.specs.Endian.{big_bytes}
use Rattle.dvi_write.proofs.Grown.{then_put, and_put}
use Rattle.dvi_write.proofs.file.put_unit.Goals as goal

pub returns : goal.returns
returns c =
    then_put c.put_number-3.result c.args.out.now c.put_number-2.new.out c.put_number-3.new.out
    (big_bytes 4 25400000 ++ big_bytes 4 473628672) (big_bytes 4 1000) _
    (and_put c.args.out.now c.put_number.new.out c.put_number-2.new.out (big_bytes 4 25400000) (big_bytes 4 473628672)
    c.in_ok-put_number.ensures c.in_ok-put_number-2.ensures)
    c.put_number-3.ensures refl
