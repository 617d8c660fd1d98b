use mathlib.Core.Path.{sym, ◌∙◌}
use Rattle.sum.specs.Folds.{low_four}
use Rattle.sum.proofs.half.Goals as goal

pub returns : goal.returns
returns c = c.number.ensures ∙ sym (low_four c.args.i c.args.s.now)
