-- A run has one list of glyphs.
use Rattle.lig_kern.proofs.EndLemmas.{glyphs-unique}
use Rattle.lig_kern.proofs.laws.one_run.Goals as goal

pub returns : goal.returns
returns c = λ tfm codes left right a b x y. glyphs-unique tfm _ _ b a y.ends x.ends
