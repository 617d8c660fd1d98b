use native.Mathlib.Omega.{arith}
use Rattle.reader.specs.Window.{joins}
use Rattle.reader.proofs.join.Goals as goal

-- how many bytes of the part are joined on: as many as are there, no more than there is room for, and all where there is more room
pub returns : goal.returns
returns c =
    let a = c.args in
    joins a.line a.held.now a.part.now a.bytes.now _ _ _ _ _ c.told-bytes c.requires (omega arith) (omega arith) (λ l. omega arith) c.word-n.ensures c.word.ensures
