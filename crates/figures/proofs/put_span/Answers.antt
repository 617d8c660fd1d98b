use mathlib.Core.Path.{sym}
use lib.Seq.{length-take-le}
use native.Mathlib.Omega.{arith}
use Rattle.figures.specs.Ways.{span_aside}
use Rattle.figures.proofs.put_span.Goals as goal

pub slice_bounds-aside-end : goal.slice_bounds-aside-end
slice_bounds-aside-end c = (span_aside c.args.seconds (omega arith) c.span-n.ensures).2

pub slice_bounds-word-end : goal.slice_bounds-word-end
slice_bounds-word-end c = sym (length-take-le _ _ (span_aside c.args.seconds (omega arith) c.span-n.ensures).2)

pub returns : goal.returns
returns c = rw (span_aside c.args.seconds (omega arith) c.span-n.ensures).1 at c.word.ensures
