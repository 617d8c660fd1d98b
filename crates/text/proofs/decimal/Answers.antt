use Prim.Native.Nat.{ℕ}
use mathlib.Core.Path.{◌≡◌, refl, sym, ap, ◌∙◌}
use mathlib.Core.List.{List}
use lib.ListN.{length, length-set}
use native.Mathlib.Omega.{arith}
use Rattle.text.specs.Text.{decimal_of}
use Rattle.text.specs.Digits.{last_digits, decimal_last}
use Rattle.lent.specs.Puts.{over, over_none, room}
use Rattle.text.specs.Spell.{spell}
use Rattle.text.proofs.decimal.Goals as goal

pub loop-i-init : goal.loop-i-init
loop-i-init c =
    let a = c.args in
    let e : c.places-k.result ≡ length (decimal_of a.n) = c.places-k.ensures in
    (e, omega arith, refl, ap (λ (t : List ℕ). over t a.out.now a.at) (rw e (sym (decimal_last 20 a.n))))

pub loop-i-preserved : goal.loop-i-preserved
loop-i-preserved c =
    let l = c.loop-i in
    let i = l.invariant in
    (i.0, i.1, simp length-set i.2, spell l.i l.rest l.out c.args.at c.loop-i-test.true (omega arith) ∙ i.3)

pub returns : goal.returns
unfolding last_digits
returns c =
    let a = c.args in
    let l = c.loop-i in
    let e : l.i ≡ 0 = omega arith in
    let p : over (last_digits 0 l.rest) l.out a.at ≡ over (decimal_of a.n) a.out.now a.at = rw e at l.invariant.3 in
    room (decimal_of a.n) a.out.now l.out a.at _ (omega arith) (omega arith) (sym (over_none l.out a.at) ∙ p)
