use Prim.Native.Nat.{ℕ, ◌+◌, ◌-◌, ◌≤◌}
use mathlib.Core.Path.{◌≡◌, sym, ap, ◌∙◌}
use mathlib.Core.Bool.{Bool}
use mathlib.Core.List.{List}
use Rattle.std.specs.Prelude.{Option}
use lib.ListN.{length, take, drop, length-drop}
use lib.Seq.{take_all}
use native.Mathlib.Omega.{arith}
use Rattle.stream.specs.Stream.{stands}
use Rattle.extent.specs.declared.Line.TheVariants.{Request}
use Rattle.line.specs.declared.Item.{Item}
use Rattle.line.specs.Rule.{item_at}
use Rattle.line.specs.Said.{said_at}
use Rattle.line.specs.Says.{stands_at}
use Rattle.quiet_run.specs.Scanning.{stops_waiting, stops_loud, goes_on_lem}
use Rattle.quiet_run.proofs.scan.Goals as goal

-- what the rule said of the bytes from a place on is what stands there
stood : (closed : Bool) (s : List ℕ) (at : ℕ) (r x : Option Item) → said_at r ≡ item_at Request closed (take (length s - at) (drop at s)) → r ≡ x
    → item_at Request closed (drop at s) ≡ said_at x
stood closed s at r x e h =
    sym (rw h at (e ∙ ap (item_at Request closed) (take_all (length s - at) (drop at s) (omega (arith, length-drop at s)))))

-- an item has a byte, and its bytes are there
sized : (closed : Bool) (s : List ℕ) (at k m : ℕ) → item_at Request closed (drop at s) ≡ stands k m → (1 ≤ m) × (at + m ≤ length s)
sized closed s at k m e = let w = stands_at Request closed (drop at s) k m e in (w.2, omega (arith, w.2, w.3, length-drop at s))

pub overflow_add-e : goal.overflow_add-e
overflow_add-e c = omega (arith, sized c.args.closed c.args.run.now c.loop-number.at _ _ (stood _ _ c.loop-number.at _ _ c.item_at.ensures c.in-Some.is))

pub slice_bounds-quiet-end : goal.slice_bounds-quiet-end
slice_bounds-quiet-end c =
    omega (arith, sized c.args.closed c.args.run.now c.loop-number.at _ _ (stood _ _ c.loop-number.at _ _ c.item_at.ensures c.in-Some.is))

pub returns-then-not-quiet : goal.returns-then-not-quiet
returns-then-not-quiet c =
    stops_loud c.loop-number.invariant _ _ (stood _ _ c.loop-number.at _ _ c.item_at.ensures c.in-Some.is) (sym c.quiet.ensures ∙ c.if-not-quiet.true)

pub loop-number-smaller : goal.loop-number-smaller
loop-number-smaller c =
    omega (arith, sized c.args.closed c.args.run.now c.loop-number.at _ _ (stood _ _ c.loop-number.at _ _ c.item_at.ensures c.in-Some.is))

pub loop-number-preserved : goal.loop-number-preserved
loop-number-preserved c =
    goes_on_lem c.loop-number.invariant _ _ (stood _ _ c.loop-number.at _ _ c.item_at.ensures c.in-Some.is) (sym c.quiet.ensures ∙ c.if-not-quiet.false)

pub returns : goal.returns
returns c = stops_waiting c.loop-number.invariant (stood _ _ c.loop-number.at _ _ c.item_at.ensures c.in_default.is)
