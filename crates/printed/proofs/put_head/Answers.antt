use Prim.Native.Nat.{◌+◌, ◌/◌, ◌%◌}
use mathlib.Core.Path.{refl}
use mathlib.Core.List.{[], ◌∷◌}
use native.Mathlib.Numerals.{add-one, add-two, add-three, add-four}
use Rattle.lent.specs.Puts.{stored}
use Rattle.printed.specs.Text.{blank}
use Rattle.printed.specs.Over.{head_one, head_two}
use native.Mathlib.Omega.{arith}
use Rattle.printed.proofs.put_head.Goals as goal

pub returns-then-n-lt10 : goal.returns-then-n-lt10
returns-then-n-lt10 c =
    let a = c.args in
    rw (head_one a.number a.n (omega arith) c.if-n-lt10.true, add-one, add-two, add-three)
    (stored ((48 + a.number) ∷ blank ∷ (48 + a.n) ∷ blank ∷ []) a.out.now a.at (a.at + 4) (omega arith) refl)

pub returns : goal.returns
returns c =
    let a = c.args in
    rw (head_two a.number a.n (omega arith) c.if-n-lt10.false (omega arith), add-one, add-two, add-three, add-four)
    (stored ((48 + a.number) ∷ blank ∷ (48 + a.n / 10) ∷ (48 + a.n % 10) ∷ blank ∷ []) a.out.now a.at (a.at + 5) (omega arith) refl)
