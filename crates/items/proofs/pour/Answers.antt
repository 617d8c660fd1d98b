use Prim.Native.Nat.{ℕ, ◌+◌, ◌-◌, ◌≤◌}
use mathlib.Core.Path.{◌≡◌, sym, ap, ◌∙◌}
use mathlib.Core.Bool.{Bool}
use Rattle.std.specs.Prelude.{Option}
use mathlib.Core.List.{List}
use lib.ListN.{length, take, drop, length-drop}
use lib.Seq.{take_all}
use native.Mathlib.Omega.{arith}
use Rattle.stream.specs.Stream.{stands}
use Rattle.extent.specs.declared.Line.{Line}
use Rattle.line.specs.declared.Item.{Item}
use Rattle.line.specs.Rule.{item_at}
use Rattle.line.specs.Said.{said_at}
use Rattle.line.specs.Says.{stands_at}
use Rattle.items.specs.Pouring.{pouring_starts, stops_end, stops_waiting, stops_full, goes_on_lem}
use Rattle.items.proofs.pour.Goals as goal

-- what the rule said of the bytes from a place on is what stands there
stood : (on : Line) (closed : Bool) (s : List ℕ) (at : ℕ) (r x : Option Item) → said_at r ≡ item_at on closed (take (length s - at) (drop at s)) → r ≡ x
    → item_at on closed (drop at s) ≡ said_at x
stood on closed s at r x e h =
    sym (rw h at (e ∙ ap (item_at on closed) (take_all (length s - at) (drop at s) (omega (arith, length-drop at s)))))

-- an item has a byte, and its bytes are there
sized : (on : Line) (closed : Bool) (s : List ℕ) (at k m : ℕ) → item_at on closed (drop at s) ≡ stands k m → (1 ≤ m) × (at + m ≤ length s)
sized on closed s at k m e = let w = stands_at on closed (drop at s) k m e in (w.2, omega (arith, w.2, w.3, length-drop at s))

pub loop-at-init : goal.loop-at-init
loop-at-init c = pouring_starts

pub returns-in_default : goal.returns-in_default
returns-in_default c = stops_waiting c.loop-at.invariant (stood _ _ _ c.loop-at.at _ _ c.item_at.ensures c.in_default.is)

pub overflow_add-e : goal.overflow_add-e
overflow_add-e c =
    let a = c.args in
    omega (arith, sized a.line a.closed a.s.now c.loop-at.at _ _ (stood _ _ _ c.loop-at.at _ _ c.item_at.ensures c.in-Some.is))

pub slice_bounds-put_line-end : goal.slice_bounds-put_line-end
slice_bounds-put_line-end c =
    let a = c.args in
    omega (arith, sized a.line a.closed a.s.now c.loop-at.at _ _ (stood _ _ _ c.loop-at.at _ _ c.item_at.ensures c.in-Some.is))

pub returns-then-next-w : goal.returns-then-next-w
returns-then-next-w c =
    stops_full c.loop-at.invariant _ _ (stood _ _ _ c.loop-at.at _ _ c.item_at.ensures c.in-Some.is) c.put_line-next.ensures c.if-next-w.true

pub loop-at-smaller : goal.loop-at-smaller
loop-at-smaller c =
    let a = c.args in
    omega (arith, sized a.line a.closed a.s.now c.loop-at.at _ _ (stood _ _ _ c.loop-at.at _ _ c.item_at.ensures c.in-Some.is))

pub loop-at-preserved : goal.loop-at-preserved
loop-at-preserved c =
    goes_on_lem c.loop-at.invariant _ _ (stood _ _ _ c.loop-at.at _ _ c.item_at.ensures c.in-Some.is) c.put_line-next.ensures c.if-next-w.false

pub returns : goal.returns
returns c = stops_end c.loop-at.invariant c.loop-at-test.false
