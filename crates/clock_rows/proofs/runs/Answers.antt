use Rattle.lent.specs.Behind.{puts_append, puts_next, puts_none}
use Rattle.clock_rows.specs.Times.{near_same}
use Rattle.clock_rows.proofs.runs.Goals as goal

pub returns : goal.returns
returns c =
    let z = c in
    let y = z in
    let x = y in
    let w = x in
    let v = w in
    let a = v in
    let e = near_same a.args.z a.requires in
    puts_next v.word-a.ensures (puts_append (rw e at w.decimal-b.ensures) (puts_next x.word-c.ensures (puts_next (rw (y.second_at.ensures, e) at y.put_time-d.ensures) (puts_next z.word.ensures (puts_none _ _)))))
