use Rattle.line_break.proofs.table.Table.+lives.Given as goal

abbrev pub decreases-lives : goal.decreases-lives
decreases-lives l = l.to
