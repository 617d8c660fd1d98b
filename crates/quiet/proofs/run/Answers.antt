use Rattle.std.proofs.Common.{arith}
use Rattle.quiet_turns.specs.Said.{reads_few}
use Rattle.quiet.specs.Within.{turn_within}
use Rattle.quiet.proofs.run.Goals as goal

-- What is said stands in the buffer.
pub finish-requires : goal.finish-requires
finish-requires g c =
    turn_within c.loop.watch _ _ c.turn-act.result (omega (arith, c.requires.text)) (omega arith) c.turn-act.ensures

-- A turn that reads on holds few bytes.
pub loop-preserved : goal.loop-preserved
loop-preserved g c = reads_few c.loop.watch _ _ (rw c.in-Read.is at c.turn-act.ensures)
