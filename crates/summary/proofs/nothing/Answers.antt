use mathlib.Core.Path.{refl}
use Rattle.summary.specs.Summary.{how_many, counts_from}
use Rattle.summary.proofs.nothing.Goals as goal

pub returns : goal.returns
unfolding counts_from how_many
returns c = refl
