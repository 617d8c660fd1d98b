use Prim.Native.Nat.{◌+◌, ◌≤◌, ◌<◌}
use mathlib.Core.Path.{◌≡◌}
use lib.ListN.{length}
use native.Mathlib.Omega.{arith}
use Rattle.lent.specs.Puts.{no_room}
use Rattle.stream.specs.Stream.{reading}
use Rattle.text.specs.Decimal.{decimal_some}
use Rattle.printed.specs.Text.{line_of}
use Rattle.printed.specs.Length.{line_short}
use Rattle.printed.specs.Over.{head_put, bytes_put, line_put}
use Rattle.printed.proofs.short_line.Goals as goal

pub returns-then-out-size : goal.returns-then-out-size
returns-then-out-size c =
    let a = c.args in
    no_room (line_of (reading a.number a.s.now)) a.out.now a.at (omega (arith, line_short a.number a.s.now (omega arith), c.short_length-size.ensures))

pub returns-then-out-size-2 : goal.returns-then-out-size-2
returns-then-out-size-2 c =
    let a = c.args in
    no_room (line_of (reading a.number a.s.now)) a.out.now a.at (omega (arith, line_short a.number a.s.now (omega arith), c.short_length-size.ensures))

pub put_head-h-requires : goal.put_head-h-requires
put_head-h-requires c =
    let fit : c.args.at + length (line_of (reading c.args.number c.args.s.now)) ≤ length c.args.out.now = let a = c.args in
    omega (arith, line_short a.number a.s.now (omega arith), c.short_length-size.ensures) in
    let a = c.args in
    (c.requires.0, c.requires.1, omega (arith, fit, line_short a.number a.s.now (omega arith), decimal_some 19 (length a.s.now)))

pub put_bytes-e-requires : goal.put_bytes-e-requires
put_bytes-e-requires c =
    let fit : c.args.at + length (line_of (reading c.args.number c.args.s.now)) ≤ length c.args.out.now = let a = c.args in
    omega (arith, line_short a.number a.s.now (omega arith), c.short_length-size.ensures) in
    let a = c.args in
    omega (arith, (head_put a.number a.s.now a.out.now a.at (fit) c.put_head-h.ensures).0)

pub bounds-out-e : goal.bounds-out-e
bounds-out-e c =
    let fit : c.args.at + length (line_of (reading c.args.number c.args.s.now)) ≤ length c.args.out.now = let a = c.args in
    omega (arith, line_short a.number a.s.now (omega arith), c.short_length-size.ensures) in
    let bytes : (c.put_bytes-e.result < length c.put_bytes-e.new.out) × (length c.put_bytes-e.new.out ≡ length c.args.out.now) = let a = c.args in
    bytes_put a.number a.s.now a.out.now a.at (fit) c.put_head-h.ensures c.put_bytes-e.ensures in
    (bytes).0

pub returns : goal.returns
returns c =
    let fit : c.args.at + length (line_of (reading c.args.number c.args.s.now)) ≤ length c.args.out.now = let a = c.args in
    omega (arith, line_short a.number a.s.now (omega arith), c.short_length-size.ensures) in
    let a = c.args in
    line_put a.number a.s.now a.out.now a.at (fit) c.put_head-h.ensures c.put_bytes-e.ensures
