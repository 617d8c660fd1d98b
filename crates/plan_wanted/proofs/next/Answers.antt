use mathlib.Core.Path.{◌≡◌, sym, ◌∙◌}
use mathlib.Core.Bool.{true, false}
use lib.ListN.{get_or}
use native.Mathlib.Omega.{arith}
use borrow.Author.Rules.{rules}
use Rattle.plan_wanted.specs.Places.{is_kind, ahead_on, ahead_here, ahead_end}
use Rattle.plan_wanted.proofs.next.Goals as goal

pub returns-then-is_kind : goal.returns-then-is_kind
returns-then-is_kind c =
    let a = c.args in
    let i = c.loop-i.i in
    let e : is_kind a.blank (get_or a.s.now i 0) ≡ true = sym c.is_kind.ensures ∙ c.if-is_kind.true in
    (omega (arith, c.loop-i.invariant, ahead_here (is_kind a.blank) a.s.now i (search rules) e), omega arith)

pub loop-i-preserved : goal.loop-i-preserved
loop-i-preserved c =
    let a = c.args in
    let i = c.loop-i.i in
    let e : is_kind a.blank (get_or a.s.now i 0) ≡ false = sym c.is_kind.ensures ∙ c.if-is_kind.false in
    omega (arith, c.loop-i.invariant, ahead_on (is_kind a.blank) a.s.now i (search rules) e)

pub returns : goal.returns
returns c =
    let a = c.args in
    (omega (arith, c.requires, c.loop-i.auto.i-end, c.loop-i.invariant, ahead_end (is_kind a.blank) a.s.now c.loop-i.i (search rules)), omega arith)
