use Rattle.bench_lines.specs.Shown.{closed_said_lem, shown_of}
use Rattle.bench_lines.proofs.closed.Goals as goal

pub returns : goal.returns
returns c = record { value = c.given.ensures; says = shown_of c.given.ensures (closed_said_lem c.args.f c.args.or) }
