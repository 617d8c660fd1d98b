use Prim.Native.Nat.{◌+◌, ◌≤◌, ◌<◌}
use mathlib.Core.Path.{◌≡◌}
use lib.ListN.{length, take}
use native.Mathlib.Omega.{arith}
use Rattle.lent.specs.Puts.{Puts, no_room}
use Rattle.stream.specs.Stream.{reading}
use Rattle.printed.specs.Text.{head_of, line_of}
use Rattle.printed.specs.Over.{head_aside, line_parts, bytes_put, line_put}
use Rattle.printed.proofs.long_line.Goals as goal

pub returns-then-out-at-2 : goal.returns-then-out-at-2
returns-then-out-at-2 c =
    let head : (c.long_head-size.result ≡ length (head_of c.args.number (length c.args.s.now)))
    × (take c.long_head-size.result c.long_head-size.new.out ≡ head_of c.args.number (length c.args.s.now))
    × (c.long_head-size.result ≤ length c.long_head-size.new.out) = let a = c.args in
    head_aside a.number (length a.s.now) (omega arith) c.long_head-size.ensures in
    let a = c.args in
    no_room (line_of (reading a.number a.s.now)) a.out.now a.at (omega (arith, line_parts a.number a.s.now, (head).0))

pub returns-then-out-at-3 : goal.returns-then-out-at-3
returns-then-out-at-3 c =
    let head : (c.long_head-size.result ≡ length (head_of c.args.number (length c.args.s.now)))
    × (take c.long_head-size.result c.long_head-size.new.out ≡ head_of c.args.number (length c.args.s.now))
    × (c.long_head-size.result ≤ length c.long_head-size.new.out) = let a = c.args in
    head_aside a.number (length a.s.now) (omega arith) c.long_head-size.ensures in
    let a = c.args in
    no_room (line_of (reading a.number a.s.now)) a.out.now a.at (omega (arith, line_parts a.number a.s.now, (head).0))

pub bounds-out-e : goal.bounds-out-e
bounds-out-e c =
    let head : (c.long_head-size.result ≡ length (head_of c.args.number (length c.args.s.now)))
    × (take c.long_head-size.result c.long_head-size.new.out ≡ head_of c.args.number (length c.args.s.now))
    × (c.long_head-size.result ≤ length c.long_head-size.new.out) = let a = c.args in
    head_aside a.number (length a.s.now) (omega arith) c.long_head-size.ensures in
    let fit : let a = c.args in
    a.at + length (line_of (reading a.number a.s.now)) ≤ length a.out.now = let a = c.args in
    omega (arith, line_parts a.number a.s.now, (head).0) in
    let headed : let a = c.args in
    Puts (head_of a.number (length a.s.now)) a.out.now a.at c.word-h.result c.word-h.new.out = rw (head).1 at c.word-h.ensures in
    let bytes : (c.put_bytes-e.result < length c.put_bytes-e.new.out) × (length c.put_bytes-e.new.out ≡ length c.args.out.now) = let a = c.args in
    bytes_put a.number a.s.now a.out.now a.at (fit) (headed) c.put_bytes-e.ensures in
    (bytes).0

pub returns : goal.returns
returns c =
    let head : (c.long_head-size.result ≡ length (head_of c.args.number (length c.args.s.now)))
    × (take c.long_head-size.result c.long_head-size.new.out ≡ head_of c.args.number (length c.args.s.now))
    × (c.long_head-size.result ≤ length c.long_head-size.new.out) = let a = c.args in
    head_aside a.number (length a.s.now) (omega arith) c.long_head-size.ensures in
    let fit : let a = c.args in
    a.at + length (line_of (reading a.number a.s.now)) ≤ length a.out.now = let a = c.args in
    omega (arith, line_parts a.number a.s.now, (head).0) in
    let headed : let a = c.args in
    Puts (head_of a.number (length a.s.now)) a.out.now a.at c.word-h.result c.word-h.new.out = rw (head).1 at c.word-h.ensures in
    let a = c.args in
    line_put a.number a.s.now a.out.now a.at (fit) (headed) c.put_bytes-e.ensures
