use native.Mathlib.Omega.{arith}
use Rattle.reader.specs.Arrays.{filled, filled_one}
use Rattle.reader.proofs.padded.Goals as goal

pub returns-then-s-eq1 : goal.returns-then-s-eq1
returns-then-s-eq1 g c = filled_one _ _ _ _ c.if-s-eq1.true (omega arith) c.byte.ensures

pub returns-else-s-eq1 : goal.returns-else-s-eq1
returns-else-s-eq1 g c = (filled _ _ _ _ c.requires c.word.ensures).1
