use Rattle.line_break.proofs.OpenWays.{ways_place, ways_bound}
use Rattle.line_break.proofs.MadeOfLines.{made_of_lines}
use Rattle.line_break.proofs.laws.ways_are_made_of_lines.Goals as goal

pub returns-clause-lines : goal.returns-clause-lines
returns-clause-lines c = made_of_lines

pub returns-clause-place : goal.returns-clause-place
returns-clause-place c = ways_place

pub returns-clause-bound : goal.returns-clause-bound
returns-clause-bound c = ways_bound
