-- What a document is: what it comes to, given the bytes of its files that were read so far.
--     Instances         the fonts of a document, and which of their instances its pages use
--     Output            what is written, and the instances of what is set
--     Outcome           the next file that is wanted, the first fault, or the output
--     Document          which outcomes there are for the bytes of files 0, 1 and so on
--     behind D bytes    the document of the files behind one that was read
--     AtMostOne D       no bytes have two outcomes
-- No shelf, sink, worker or memory is named here.
use Rattle.std.specs.Prelude.{◌≡◌, ℕ, List, ◌∷◌, Option}
use Rattle.instance_core.specs.declared.cell.Cell.{Cell}
use Rattle.instance_core.specs.declared.font.BaseFont.{BaseFont}
use Rattle.micro_texts.specs.declared.answer.Answer.{Answer}

-- the fonts in the order of their declaration, and the expanded instances in cell order
pub record Instances : Type 0 where
  pub fonts : List BaseFont
  pub used : List Cell

-- the bytes for the output, the texts for talk, each of them one write, and the instances of pages,
-- where any are set
pub record Output : Type 0 where
  pub out : List ℕ
  pub talk : List (List ℕ)
  pub instances : Option Instances

pub data Outcome : Type 0 where
  Wants : (name : List ℕ) → Outcome
  Refuses : (fault : Answer) → Outcome
  Gives : (output : Output) → Outcome

abbrev pub Document : Type 1
Document = List (List ℕ) → Outcome → Type 0

abbrev pub behind : Document → List ℕ → Document
behind D bytes reads outcome = D (bytes ∷ reads) outcome

abbrev pub AtMostOne : Document → Type 0
AtMostOne D = (reads : List (List ℕ)) (a b : Outcome) → D reads a → D reads b → a ≡ b
