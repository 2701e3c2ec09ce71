use Rattle.std.proofs.Common.{refl}
use Rattle.line_break.specs.Pass.{order}
use Rattle.line_break.specs.Tables.{pass_of}
use Rattle.line_break.specs.Ways.{start, extended, dies, lives, stands, open_ways, records, is_last, rescued, lines_to, ways}
use Rattle.line_break.specs.Best.{preference, to_the_end, best, best_of_group}
use Rattle.line_break.specs.Taken.{actual_looseness, is_taken, way_of, breaks_of, first_taken}
use Rattle.line_break.proofs.worked.looseness_asks_for_more_lines.Goals as goal

pub returns-clause-more : goal.returns-clause-more
unfolding order pass_of start extended dies lives stands open_ways records is_last rescued lines_to ways preference to_the_end best best_of_group actual_looseness is_taken way_of breaks_of first_taken
returns-clause-more c = refl

pub returns-clause-two_more : goal.returns-clause-two_more
unfolding order pass_of start extended dies lives stands open_ways records is_last rescued lines_to ways preference to_the_end best best_of_group actual_looseness is_taken way_of breaks_of first_taken
returns-clause-two_more c = refl

pub returns-clause-fewer : goal.returns-clause-fewer
unfolding order pass_of start extended dies lives stands open_ways records is_last rescued lines_to ways preference to_the_end best best_of_group actual_looseness is_taken way_of breaks_of first_taken
returns-clause-fewer c = refl
