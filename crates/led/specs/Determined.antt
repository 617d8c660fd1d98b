-- What is said of a part tells the answers apart, so that the contract leaves no choice.
use Rattle.std.specs.Prelude.{ℕ, Option, Some, None, ◌≡◌, refl}
use Rattle.led.specs.Led.{said_part}

pub part_one : (x y : Option ℕ) → said_part x ≡ said_part y → x ≡ y
part_one (Some m) (Some n) e = cc
part_one (Some m) None e = cc
part_one None (Some n) e = cc
part_one None None e = refl
