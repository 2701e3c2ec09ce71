use Rattle.std.proofs.Common.{rules, ◌≡◌, ◌+◌, ◌-◌, ◌<◌, ◌++◌, [], ◌∷◌, ap, ◌∙◌}
use Rattle.micro_num.specs.declared.part.Part.{Part}
use Rattle.job_text.specs.PlainParts.{part_at}
use Rattle.job_text.proofs.PlainParts.{parts_step, parts_end}
use Rattle.job_text.proofs.plain.with_plain.Goals as goal

pub loop-place-preserved : goal.loop-place-preserved
loop-place-preserved c =
    let bytes = c.args.text.bytes.now in
    let end = c.args.text.from + c.args.text.count in
    let before : c.loop-place.place < end = search rules in
    let pushed : c.push_reserved.new.self.items ≡ c.loop-place.list.items ++ part_at bytes c.loop-place.place ∷ [] =
    c.push_reserved.ensures.items ∙ ap (λ (p : Part). c.loop-place.list.items ++ record { offset = c.loop-place.place; part = p } ∷ []) c.byte_part.ensures in
    record {
      parts = parts_step bytes c.loop-place.place end c.loop-place.list.items c.push_reserved.new.self.items _ before c.loop-place.invariant.parts pushed;
      room = search rules;
    }

pub returns : goal.returns
returns c =
    let end = c.args.text.from + c.args.text.count in
    let none : end - c.loop-place.place ≡ 0 = search rules in
    c.from_vec.ensures ∙ parts_end c.args.text.bytes.now c.loop-place.place (end - c.loop-place.place) c.loop-place.list.items _ none c.loop-place.invariant.parts
