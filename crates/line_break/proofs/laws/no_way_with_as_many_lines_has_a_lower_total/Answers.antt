use Rattle.line_break.proofs.Loosening.{as_many_lines}
use Rattle.line_break.proofs.laws.no_way_with_as_many_lines_has_a_lower_total.Goals as goal

pub returns : goal.returns
returns c = λ q looseness b w ended single. as_many_lines q ended single looseness b w
