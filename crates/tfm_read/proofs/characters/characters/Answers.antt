use Rattle.std.proofs.Common.{◌<◌, length, get_or, rules, sym, ap, ◌∙◌}
use Rattle.std.proofs.lemmas.List.{get_or_default}
use Rattle.tfm_read.specs.Characters.{char_by, no_indices}
use Rattle.tfm_read.proofs.Entries.{entries_none, entries_push}
use Rattle.tfm_read.proofs.characters.characters.Goals as goal

pub loop-code-init : goal.loop-code-init
loop-code-init c = c.in_ok-chars.ensures.items ∙ sym (entries_none (λ code. char_by c.args.tables.now (get_or c.args.indices.now code no_indices)))

pub loop-code-preserved : goal.loop-code-preserved
loop-code-preserved c =
    let within : c.loop-code.code < length c.args.indices.now = search rules in
    c.in_ok-push.ensures.items
    ∙ entries_push (λ code. char_by c.args.tables.now (get_or c.args.indices.now code no_indices)) c.loop-code.code c.loop-code.chars.items c.char_by.result c.loop-code.invariant
    (c.char_by.ensures ∙ ap (char_by c.args.tables.now) (get_or_default c.args.indices.now c.loop-code.code _ no_indices within))
