-- Documents 01 and 02, "Refusals, by number": which numbers there are.
use Rattle.std.specs.Prelude.{ℕ, ◌+◌, Bool, ◌||◌, eqb, leb}

abbrev pub last_number : ℕ
last_number = 22

-- whether a number is that of no refusal
abbrev pub is_unlisted : ℕ → Bool
is_unlisted n = eqb n 0 || leb (last_number + 1) n
