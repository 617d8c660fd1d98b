use borrow.Author.Tests.{lt-ltb, le-ltb}
use Rattle.bench_lines.specs.Shown.{held_shown_lem}
use Rattle.bench_lines.proofs.show.Goals as goal

pub returns-then-len-lt67 : goal.returns-then-len-lt67
returns-then-len-lt67 c = let w = held_shown_lem c.args.h (rw (lt-ltb _ _ c.if-len-lt67.true)) in record { value = w.0; h_value = w.1 }

pub returns-else-len-lt67 : goal.returns-else-len-lt67
returns-else-len-lt67 c = let w = held_shown_lem c.args.h (rw (le-ltb _ _ c.if-len-lt67.false)) in record { value = w.0; h_value = w.1 }
