use Rattle.lent.specs.Behind.{puts_append, puts_none, puts_same}
use Rattle.bench_capture.specs.Pieces.{head_of, next_said, mark_of}
use Rattle.bench_capture.proofs.say.Goals as goal

pub returns-in-Nothing : goal.returns-in-Nothing
returns-in-Nothing c =
    puts_append (puts_same (head_of c.args.h c.front.ensures) c.put-e.ensures) (rw c.in-Nothing.is (puts_none _ _))

pub returns-in-Counted : goal.returns-in-Counted
returns-in-Counted c =
    puts_append (puts_same (head_of c.args.h c.front.ensures) c.put-e.ensures) (rw c.in-Counted.is c.summary.ensures)

pub returns-in-Next : goal.returns-in-Next
returns-in-Next c =
    puts_append (puts_same (head_of c.args.h c.front.ensures) c.put-e.ensures)
    (rw c.in-Next.is (puts_append c.run-f.ensures (puts_same (next_said _) c.put.ensures)))

pub returns-in-All : goal.returns-in-All
returns-in-All c =
    puts_append (puts_same (head_of c.args.h c.front.ensures) c.put-e.ensures)
    (rw c.in-All.is (puts_append c.run-f-in-All.ensures (puts_append c.summary-g.ensures (puts_same (mark_of c.in-All.m c.mark.ensures) c.put-in-All.ensures))))
