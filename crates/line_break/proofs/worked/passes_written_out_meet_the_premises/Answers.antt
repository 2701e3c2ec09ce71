use Rattle.std.proofs.Common.{zero, suc, refl, arith}
use Rattle.line_break.specs.Pass.{order}
use Rattle.line_break.specs.Tables.{pass_of}
use Rattle.line_break.specs.Ways.{start, extended, dies, lives, stands, open_ways, records, is_last, rescued, lines_to, ways, open_to, is_rescued}
use Rattle.line_break.proofs.TableLemmas.{almost_blind}
use Rattle.line_break.proofs.worked.passes_written_out_meet_the_premises.Goals as goal

pub returns-clause-blind : goal.returns-clause-blind
returns-clause-blind c = almost_blind

pub returns-clause-ended : goal.returns-clause-ended
unfolding pass_of
returns-clause-ended c = refl

pub returns-clause-single : goal.returns-clause-single
unfolding pass_of
returns-clause-single c = refl

pub returns-clause-quiet : goal.returns-clause-quiet
unfolding pass_of order start extended dies lives stands open_ways records is_last rescued lines_to ways open_to is_rescued
returns-clause-quiet c zero h = refl
returns-clause-quiet c (suc zero) h = refl
returns-clause-quiet c (suc (suc zero)) h = refl
returns-clause-quiet c (suc (suc (suc zero))) h = refl
returns-clause-quiet c (suc (suc (suc (suc place)))) h = absurd (omega arith)

pub returns-clause-rescued : goal.returns-clause-rescued
unfolding pass_of order start extended dies lives stands open_ways records is_last rescued lines_to ways open_to is_rescued
returns-clause-rescued c = refl
