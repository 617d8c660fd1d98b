use native.Mathlib.Omega.{arith}
use Rattle.std.proofs.Common.{pow-suc}
use Rattle.text.specs.Decimal.{decimal_places}
use Rattle.text.specs.Digits.{decimal_one}
use Rattle.text.proofs.places.Goals as goal

pub returns-in-Some : goal.returns-in-Some
returns-in-Some c =
    let s = c.in-Some in
    let e = s.ensures in
    omega (arith, decimal_places 20 s.k c.args.n (omega (arith, e.bound)) (λ h. e.power_le) (rw pow-suc (omega (arith, e.next_power_gt))))

pub returns-in-None : goal.returns-in-None
returns-in-None c = rw (decimal_one c.args.n (omega (arith, c.in-None.ensures.none)))
