use mathlib.Core.Path.{refl}
use Rattle.reader.specs.Reader.{pad}
use Rattle.reader.proofs.fresh.Goals as goal

pub returns : goal.returns
unfolding pad
returns c = refl
