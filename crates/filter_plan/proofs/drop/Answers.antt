use Prim.Native.Nat.{◌+◌, ◌-◌}
use mathlib.Core.Path.{◌≡◌, ◌∙◌}
use native.Mathlib.Omega.{arith}
use Rattle.filter_plan.specs.Table.{dropped}
use Rattle.filter_plan.specs.Tables.{entries_64}
use Rattle.filter_plan.specs.Dropped.{moved_up, table_dropped}
use Rattle.filter_plan.proofs.drop.Goals as goal

pub returns : goal.returns
returns c =
    let t = c.args.t.now in
    let k = c.args.k in
    let is = c.requires.0 in
    let h = c.requires.1 in
    let n = t.count - (k + 1) in
    let e : k + n ≡ t.count - 1 = omega arith in
    let w = c.copy_within.ensures in
    let q : dropped (t.count - 1) c.copy_within.new.self ≡ dropped k t.entries =
    rw (w.after, ← e) (moved_up t.entries k n (omega (arith, entries_64 t is))) in
    table_dropped t is k (t.count - 1) h (omega arith) c.copy_within.new.self (w.len ∙ entries_64 t is) q
