use Rattle.bench_lines.specs.Shown.{done_said, shown_of}
use Rattle.bench_lines.proofs.done.Goals as goal

pub returns : goal.returns
returns c = record { value = c.plain.ensures; says = shown_of c.plain.ensures done_said }
