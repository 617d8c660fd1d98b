use mathlib.Core.Path.{◌≡◌, refl, sym, ◌∙◌}
use lib.ListN.{length, length-set}
use lib.Seq.{take-length}
use native.Mathlib.Omega.{arith}
use Rattle.lent.specs.Puts.{over_none, room}
use Rattle.printed.specs.Text.{hexes}
use Rattle.printed.specs.Length.{hexes_length}
use Rattle.printed.specs.Over.{hex_turn}
use Rattle.printed.proofs.put_bytes.Goals as goal

pub loop-i-init : goal.loop-i-init
unfolding hexes
loop-i-init c =
    let a = c.args in
    (omega arith, c.requires, refl, sym (over_none a.out.now a.at))

pub loop-i-preserved : goal.loop-i-preserved
loop-i-preserved c =
    let a = c.args in
    let l = c.loop-i in (
      omega arith,
      l.invariant.1,
      simp (length-set, length-set) l.invariant.2,
      hex_turn a.s.now a.out.now l.out a.at l.i _ _ (omega arith) l.invariant.1 l.invariant.3 c.high_digit.ensures c.low_digit.ensures,
    )

pub returns : goal.returns
returns c =
    let a = c.args in
    let l = c.loop-i in
    let e : l.i ≡ length a.s.now = omega arith in
    let n = hexes_length a.s.now in
    room (hexes a.s.now) a.out.now l.out a.at _ (omega arith) (omega arith) (l.invariant.3 ∙ rw (e, take-length a.s.now))
