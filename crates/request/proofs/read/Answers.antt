use borrow.Author.Rules.{rules}
use Rattle.request.specs.Reads.{numbers_read}
use Rattle.request.proofs.read.Goals as goal

pub returns-in-Basic : goal.returns-in-Basic
returns-in-Basic c =
    numbers_read c.args.s.now c.decide-shape.result.0 _ (search rules) c.if-s-ne-REQUEST.false c.decide-shape.ensures.numbers
    (rw c.in-Basic.is c.read_basic.ensures)
