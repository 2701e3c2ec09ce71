use Rattle.tfm_read.proofs.OneFont.{is_found, is_only, is_refused, is_fault}
use Rattle.tfm_read.proofs.reading.read_tfm.Goals as goal

pub returns-clause-found : goal.returns-clause-found
returns-clause-found c = is_found c.args.bytes.now c.read_font.result c.read_font.ensures

pub returns-clause-only : goal.returns-clause-only
returns-clause-only c = is_only c.args.bytes.now c.read_font.result c.read_font.ensures

pub returns-clause-refused : goal.returns-clause-refused
returns-clause-refused c = is_refused c.args.bytes.now c.read_font.result c.read_font.ensures

pub returns-clause-fault : goal.returns-clause-fault
returns-clause-fault c = is_fault c.args.bytes.now c.read_font.result c.read_font.ensures
