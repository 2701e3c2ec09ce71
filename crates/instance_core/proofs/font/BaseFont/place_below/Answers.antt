use Rattle.std.proofs.Common.{arith, sym}
use Rattle.instance_core.proofs.Steps.{place_of-below, place_of-uneven_below, place_of-past_below}
use Rattle.instance_core.proofs.font.BaseFont.place_below.Goals as goal

pub returns-then-size-step-ne0 : goal.returns-then-size-step-ne0
returns-then-size-step-ne0 c = sym (place_of-uneven_below c.args.self.now c.args.size c.requires.base c.requires.some (omega arith))

pub returns-then-size-shrink : goal.returns-then-size-shrink
returns-then-size-shrink c = sym (place_of-past_below c.args.self.now c.args.size c.requires.some (omega arith))

pub returns : goal.returns
returns c = sym (place_of-below c.args.self.now c.args.size c.requires.base c.requires.some (omega arith) (omega arith))
