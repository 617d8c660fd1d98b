use Prim.Native.Nat.{◌≤◌, ◌<◌}
use mathlib.Core.Path.{◌≡◌}
use lib.ListN.{length}
use borrow.Author.Rules.{rules, length_unmapped}
use native.Mathlib.Omega.{arith}
use Rattle.extent.specs.Line.{cap_of}
use Rattle.reader.specs.Claims.{holds_in, held_over}
use Rattle.reader.proofs.holds.Goals as goal

pub returns-then-n-limit : goal.returns-then-n-limit
returns-then-n-limit c =
    let a = c.args in
    let g : length a.h.bytes ≡ 67 = search (length_unmapped, rules) in
    let t : a.h.len ≤ cap_of a.line = omega arith in
    holds_in a.line a.h g t

pub returns-else-n-limit : goal.returns-else-n-limit
returns-else-n-limit c =
    let a = c.args in
    let t : cap_of a.line < a.h.len = omega arith in
    rw (held_over a.line a.h t)
