use lib.ListN.{length}
use native.Mathlib.Omega.{arith}
use Rattle.items.specs.Pour.{Pours}
use Rattle.turns.specs.Turn.{poured_by}
use Rattle.turns.specs.Next.{take_least, next_writes, next_done, next_reads}
use Rattle.turns.proofs.next.Goals as goal

pub returns-then-wrote-gt0 : goal.returns-then-wrote-gt0
returns-then-wrote-gt0 c =
    let held : let a = c.args in
    Pours (poured_by a.line a.turn a.buf.now (length a.out.now)) a.turn.at a.out.now c.pour-poured.result c.pour-poured.new.out = let a = c.args in
    rw (c.min-e.ensures, take_least a.turn.end a.buf.now) at c.pour-poured.ensures in
    next_writes _ _ _ _ (held) _ c.min-e.ensures c.if-wrote-gt0.true

pub returns-then-closed : goal.returns-then-closed
returns-then-closed c =
    let held : let a = c.args in
    Pours (poured_by a.line a.turn a.buf.now (length a.out.now)) a.turn.at a.out.now c.pour-poured.result c.pour-poured.new.out = let a = c.args in
    rw (c.min-e.ensures, take_least a.turn.end a.buf.now) at c.pour-poured.ensures in
    next_done _ _ _ _ (held) (omega arith) c.if-closed.true

pub returns : goal.returns
returns c =
    let held : let a = c.args in
    Pours (poured_by a.line a.turn a.buf.now (length a.out.now)) a.turn.at a.out.now c.pour-poured.result c.pour-poured.new.out = let a = c.args in
    rw (c.min-e.ensures, take_least a.turn.end a.buf.now) at c.pour-poured.ensures in
    next_reads _ _ _ _ (held) _ c.min-e.ensures (omega arith) c.if-closed.false c.keep-held.ensures
