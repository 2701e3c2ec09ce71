-- The page of the lines, or the first that is past its bounds.
use Rattle.std.proofs.Common.{inl}
use Rattle.para_workers.proofs.WholePages.{page-good, page-past}
use Rattle.para_workers.proofs.page.page.Goals as goal

pub returns-in-Ok : goal.returns-in-Ok
returns-in-Ok c = inl (rw c.into_vec.ensures at (page-good c.args.params.now _ _ c.in-Ok.ensures.0 c.in-Ok.ensures.1))

pub returns-in-Err-OutOfRange : goal.returns-in-Err-OutOfRange
returns-in-Err-OutOfRange c =
    let past = rw c.in-Err-OutOfRange.field-0-is at c.in-Err-OutOfRange.ensures in
    inl (page-past c.args.params.now c.args.lines c.in-Err-OutOfRange.line (rw c.into_vec.ensures at past))
