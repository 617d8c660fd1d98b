use Rattle.std.proofs.Common.{sym, ◌∙◌}
use Rattle.sum.specs.Sums.{sum_turn, sum_done}
use Rattle.sum.proofs.few.Goals as goal

pub loop-b-preserved : goal.loop-b-preserved
loop-b-preserved c = sum_turn _ _ _ (c.loop-b-test.true) ∙ c.loop-b.invariant

pub returns : goal.returns
returns c = sym (sum_done _ _ _ c.loop-b-test.false) ∙ c.loop-b.invariant
