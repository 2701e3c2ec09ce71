use Rattle.outside_io.proofs.memory_shelf.MemShelf.answer.Goals as goal

pub returns-in-None-clause-told : goal.returns-in-None-clause-told
returns-in-None-clause-told c = λ bytes found. c.in-None.ensures bytes (rw c.as_bytes.ensures.value found)
