use Rattle.std.proofs.Common.{refl}
use Rattle.std.specs.Fmt.{digits}
use Rattle.renumber.specs.Uses.{first_uses}
use Rattle.dvi_write.specs.Commands.{spell, spell_all}
use Rattle.dvi_write.specs.Document.{dvi, document, unfilled, body, page_commands, last_bop, set_code, select, define, number_at, row_of, instance_name, right, down}
use Rattle.dvi_write.proofs.worked.no_page_is_72_bytes.Goals as goal

pub returns : goal.returns
unfolding dvi document unfilled body page_commands last_bop set_code select define number_at row_of instance_name right down spell spell_all first_uses digits
returns c = refl
