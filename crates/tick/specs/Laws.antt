-- What an age says: a clock that has gone on by k ticks, past its end or not, gives the age k; one that has gone back by k, all but k of a whole round.
use Rattle.std.specs.Prelude.{◌≡◌, ℕ, ◌+◌, ◌-◌, ◌%◌, ◌^◌, ◌<◌, refl}
use Rattle.std.proofs.Common.{arith}
use Rattle.tick.specs.Age.{age_of}

pub age_gone : (tick k : ℕ) → tick < 2 ^ 32 → k < 2 ^ 32 → age_of ((tick + k) % 2 ^ 32) tick ≡ k
age_gone tick k ht hk = omega arith

pub age_back : (clock k : ℕ) → 0 < k → clock + k < 2 ^ 32 → age_of clock (clock + k) ≡ 2 ^ 32 - k
age_back clock k hk h = omega arith

-- asked ten ticks before the end, it is 30 ticks old at tick 20; asked at tick 100, by a clock that shows 99 it is as old as anything can be
pub worked : (age_of 20 4294967286 ≡ 30) × (age_of 99 100 ≡ 4294967295)
worked = (refl, refl)
