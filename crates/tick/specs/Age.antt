-- Document 02, W-205: "the tick (32 bits, given by the caller, running round past its end)".
use Rattle.std.specs.Prelude.{ℕ, ◌+◌, ◌-◌, ◌%◌, ◌^◌, Bool, nat_lt}

-- "Age is the tick now less the tick asked, taken round the end, so a clock that has gone back gives a great age."
abbrev pub age_of : ℕ → ℕ → ℕ
age_of clock tick = (clock + 2 ^ 32 - tick) % 2 ^ 32

-- "older than a limit": as old as the limit is not older
abbrev pub is_over : ℕ → ℕ → ℕ → Bool
is_over clock tick limit = nat_lt limit (age_of clock tick)
