use Rattle.std.proofs.Common.{arith, sym}
use Rattle.instance_core.proofs.Steps.{place_of-above, place_of-uneven_above, place_of-past_above, place_of-zero}
use Rattle.instance_core.proofs.font.BaseFont.place_above.Goals as goal

pub returns-then-size-eq0 : goal.returns-then-size-eq0
returns-then-size-eq0 c = sym (place_of-zero c.args.self.now c.args.size c.requires (omega arith))

pub returns-then-size-step-ne0 : goal.returns-then-size-step-ne0
returns-then-size-step-ne0 c = sym (place_of-uneven_above c.args.self.now c.args.size c.requires (omega arith))

pub returns-then-size-self : goal.returns-then-size-self
returns-then-size-self c = sym (place_of-past_above c.args.self.now c.args.size c.requires (omega arith))

pub returns : goal.returns
returns c = sym (place_of-above c.args.self.now c.args.size c.requires (omega arith) (omega arith) (omega arith))
