-- What a job that workers set comes to.
--     SetsJob wanted result      the pages, or the first paragraph that has none, but for want of
--                                memory
--     Owns fonts wanted owners   the instances that have owners are those which the pages use, if
--                                each paragraph has one
--     IsOwnedBy workers owner    an instance was built by one of the workers
use Rattle.std.specs.Prelude.{◌≡◌, ⊤, ℕ, ◌≤◌, List, map, Result, Ok, Err}
use Rattle.instance_core.specs.declared.font.BaseFont.{BaseFont}
use Rattle.instance_core.specs.declared.page.Owner.{Owner}
use Rattle.instance_core.specs.declared.page.Page.{Page}
use Rattle.para_workers.specs.declared.fault.ParAt.{ParAt}
use Rattle.para_workers.specs.declared.fault.SetFault.{SetFault}
use Rattle.para_workers.specs.declared.fault.SetFault.TheVariants.{Par as par_fault, NoMemory}
use Rattle.renumber.specs.Uses.{used}
use Rattle.para_threads.specs.declared.workers.SetJob.{SetJob}

abbrev pub SetsJob : Result (List Page) ParAt → Result SetJob SetFault → Type 0
SetsJob wanted (Ok set) = wanted ≡ Ok set.pages
SetsJob wanted (Err (par_fault at)) = wanted ≡ Err at
SetsJob wanted (Err NoMemory) = ⊤

abbrev pub Owns : List BaseFont → Result (List Page) ParAt → List Owner → Type 0
Owns fonts (Ok pages) owners = map (λ (owner : Owner). owner.cell) owners ≡ used fonts pages
Owns fonts (Err at) owners = ⊤

-- workers are numbered from 1
pub record IsOwnedBy (workers : ℕ) (owner : Owner) : Type 0 where
  pub some : 1 ≤ owner.worker
  pub few : owner.worker ≤ workers
