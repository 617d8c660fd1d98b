use Rattle.std.proofs.Common.{length-take-le, arith}
use Rattle.clock_rows.specs.Whole.{turn_ends}
use Rattle.clock.proofs.print.Goals as goal

-- A row ends behind at most its room, and what is told of a line has room.
pub slice_bounds-out-end : goal.slice_bounds-out-end
slice_bounds-out-end c =
    let l = c.loop-i in
    let w = turn_ends c.args.text.now l.i l.out l.at l.err (omega arith) (omega arith) (omega arith) c.turn-t.ensures in
    omega arith

pub slice_bounds-write_all-end : goal.slice_bounds-write_all-end
slice_bounds-write_all-end c =
    let l = c.loop-i in
    let w = turn_ends c.args.text.now l.i l.out l.at l.err (omega arith) (omega arith) (omega arith) c.turn-t.ensures in
    let e = length-take-le c.turn-t.result.at c.turn-t.new.out (omega arith) in
    omega (arith, e)

pub slice_bounds-err-end : goal.slice_bounds-err-end
slice_bounds-err-end c =
    let l = c.loop-i in
    let w = turn_ends c.args.text.now l.i l.out l.at l.err (omega arith) (omega arith) (omega arith) c.turn-t.ensures in
    omega arith

pub slice_bounds-write_all-end-then-t-gt0 : goal.slice_bounds-write_all-end-then-t-gt0
slice_bounds-write_all-end-then-t-gt0 c =
    let l = c.loop-i in
    let w = turn_ends c.args.text.now l.i l.out l.at l.err (omega arith) (omega arith) (omega arith) c.turn-t.ensures in
    let e = length-take-le c.turn-t.result.told c.turn-t.new.err (omega arith) in
    omega (arith, e)
