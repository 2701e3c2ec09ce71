use Rattle.std.proofs.Common.{◌-◌, ◌+◌, ◌*◌, ◌/◌, ◌<◌, arith, sym, ◌∙◌, ap, pos, Some, w32}
use Rattle.std.proofs.Math.Nat.{div-le_self}
use Rattle.std.proofs.lemmas.Int.{to_z_pos}
use Rattle.std.proofs.lemmas.Option.{slice_get-get_or}
use Rattle.micro_num.proofs.Signs.{minus_stored}
use Rattle.instance_core.proofs.Steps.{steps_of-below, steps_of-above, narrows, widens, place_above}
use Rattle.instance_core.proofs.font.BaseFont.step_at.Goals as goal

pub overflow_add-result : goal.overflow_add-result
overflow_add-result c = omega (arith, place_above c.args.self.now c.args.place c.requires.within (omega arith), div-le_self c.args.self.now.stretch c.args.self.now.step)

pub overflow_mul-result-else-place-narrower : goal.overflow_mul-result-else-place-narrower
overflow_mul-result-else-place-narrower c =
    omega (arith, widens c.args.self.now (c.args.place - c.args.self.now.shrink / c.args.self.now.step + 1) c.requires.base (place_above c.args.self.now c.args.place c.requires.within (omega arith)))

pub overflow_cast-result-else-place-narrower : goal.overflow_cast-result-else-place-narrower
overflow_cast-result-else-place-narrower c =
    omega (arith, widens c.args.self.now (c.args.place - c.args.self.now.shrink / c.args.self.now.step + 1) c.requires.base (place_above c.args.self.now c.args.place c.requires.within (omega arith)))

pub returns-then-place-narrower : goal.returns-then-place-narrower
returns-then-place-narrower c =
    let within : c.args.place < c.args.self.now.shrink / c.args.self.now.step = omega arith in
    slice_get-get_or _ c.args.place (pos 0) c.requires.within
    ∙ ap Some (steps_of-below c.args.self.now c.args.place (pos 0) within
    ∙ sym (minus_stored w32 (c.args.self.now.shrink - c.args.place * c.args.self.now.step) (omega (arith, narrows c.args.self.now c.args.place c.requires.base within))))

pub returns-else-place-narrower : goal.returns-else-place-narrower
returns-else-place-narrower c =
    let top = place_above c.args.self.now c.args.place c.requires.within (omega arith) in
    let wide = widens c.args.self.now (c.args.place - c.args.self.now.shrink / c.args.self.now.step + 1) c.requires.base top in
    slice_get-get_or _ c.args.place (pos 0) c.requires.within
    ∙ ap Some (steps_of-above c.args.self.now c.args.place (pos 0) (omega arith) (omega (arith, top))
    ∙ sym (to_z_pos w32 _ (omega (arith, wide))))
