use Rattle.bench_lines.specs.Shown.{fed_said_lem, shown_of}
use Rattle.bench_lines.proofs.fed.Goals as goal

pub returns : goal.returns
returns c = record { value = c.given.ensures; says = shown_of c.given.ensures (fed_said_lem c.args.f c.args.or) }
