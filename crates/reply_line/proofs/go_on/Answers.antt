use Rattle.std.proofs.Common.{arith}
use Rattle.turns.specs.Said.{reads_few}
use Rattle.reply_line.proofs.go_on.Goals as goal

-- Where more is read, what is held leaves room for it.
pub read-requires : goal.read-requires
read-requires g c =
    let few = reads_few c.requires.text (rw c.in-Read.is at c.next.ensures) in
    omega (arith, few, c.requires.held, c.next.auto.buf)
