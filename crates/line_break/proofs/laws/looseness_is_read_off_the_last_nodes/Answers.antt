use Rattle.line_break.proofs.Loosening.{looseness_of_nodes}
use Rattle.line_break.proofs.laws.looseness_is_read_off_the_last_nodes.Goals as goal

pub returns : goal.returns
returns c = λ q looseness ended single. looseness_of_nodes q ended single looseness
