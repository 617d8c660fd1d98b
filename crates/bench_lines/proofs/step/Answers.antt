use Rattle.std.specs.Prelude.{Some, None}
use Rattle.bench_lines.specs.Shown.{step_said, shown_of}
use Rattle.bench_lines.proofs.step.Goals as goal

pub returns-in-None : goal.returns-in-None
returns-in-None c = rw c.in-None.is (record { value = c.plain.ensures; says = shown_of c.plain.ensures (step_said None) })

pub returns-in-Some : goal.returns-in-Some
returns-in-Some c = rw c.in-Some.is (record { value = c.plain-in-Some.ensures; says = shown_of c.plain-in-Some.ensures (step_said (Some c.in-Some.x)) })
