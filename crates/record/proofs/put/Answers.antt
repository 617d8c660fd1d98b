use native.Mathlib.Omega.{arith}
use Rattle.record.specs.Found.{record_put}
use Rattle.record.proofs.put.Goals as goal

pub returns : goal.returns
returns c =
    record_put c.args.seconds c.args.datagram.now _ _ _ _ _ _ _ (omega arith) c.to_be_bytes.ensures c.word-e.ensures c.word.ensures
