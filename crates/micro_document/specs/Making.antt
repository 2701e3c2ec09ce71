-- What is made of an output before it is written.
--     IsReceipt               a closed table in which the used instances were built
--     IsBuiltBy workers       one in which so many workers built them
--     AreBuilt                there is a receipt where there are instances
--     IsMade output made      the output's bytes, texts and instances
--     IsMadeBy workers made   no other than so many workers built instances
--     Makes outcome result    the outcome's output was made, or its fault is the answer
--     Settles outcome result  it is so, or memory ran out
--     SettlesSome D result    it is so of an outcome that there is
use Rattle.std.specs.Prelude.{◌≡◌, ◌⊎◌, ⊤, ℕ, ◌+◌, map, All, IfSome, Option, Some, None}
use Rattle.std.specs.Prelude.{Result, Ok, Err}
use Rattle.instance_core.specs.declared.page.Owner.{Owner}
use Rattle.instance_table.specs.declared.closing.Closed.{Closed}
use Rattle.para_threads.specs.SetJobs.{IsOwnedBy}
use Rattle.micro_texts.specs.declared.answer.Answer.{Answer}
use Rattle.micro_texts.specs.declared.answer.Answer.TheVariants.{NoMemory}
use Rattle.micro_document.specs.declared.made.Made.{Made}
use Rattle.micro_document.specs.Outcome.{Instances, Output, Outcome}
use Rattle.micro_document.specs.Outcome.Outcome.{Refuses, Gives}

-- the table was of these fonts, and its owners are the used instances, each once, and no other
pub record IsReceipt (instances : Instances) (closed : Closed) : Type 0 where
  pub bases : closed.bases ≡ instances.fonts
  pub cells : map (λ (owner : Owner). owner.cell) closed.owners ≡ instances.used

-- each worker had a seat, numbered from 1, and seat 0 was the table's own
pub record IsBuiltBy (workers : ℕ) (closed : Closed) : Type 0 where
  pub seats : closed.seats ≡ workers + 1
  pub owners : All (IsOwnedBy workers) closed.owners

abbrev pub AreBuilt : Option Instances → Option Closed → Type 0
AreBuilt None None = ⊤
AreBuilt (Some instances) (Some closed) = IsReceipt instances closed
AreBuilt _ _ = ⊥

pub record IsMade (output : Output) (made : Made) : Type 0 where
  pub out : made.out ≡ output.out
  pub talk : made.talk ≡ output.talk
  pub built : AreBuilt output.instances made.closed

abbrev pub IsMadeBy : ℕ → Made → Type 0
IsMadeBy workers made = IfSome made.closed (IsBuiltBy workers)

abbrev pub Makes : Outcome → Result Made Answer → Type 0
Makes (Gives output) (Ok made) = IsMade output made
Makes (Refuses fault) (Err answer) = answer ≡ fault
Makes _ _ = ⊥

-- or memory ran out
abbrev pub Settles : Outcome → Result Made Answer → Type 0
Settles outcome result = Makes outcome result ⊎ (result ≡ Err NoMemory)

abbrev pub SettlesSome : (Outcome → Type 0) → Result Made Answer → Type 0
SettlesSome D result =
    ((outcome : Outcome) × D outcome × Makes outcome result) ⊎ (result ≡ Err NoMemory)
