-- Times as another language hands them in and is handed them: a flag, and a number beside it.
use Rattle.std.specs.Prelude.{ℕ, Option, Some, None, eqb}
use Rattle.refusal.specs.Test.{pick}

-- a flag of 0 says that there is none, every other that there is one
abbrev pub time_in : ℕ → ℕ → Option ℕ
time_in has t = pick (eqb has 0) None (Some t)

-- whether there is one, and it
abbrev pub time_is : Option ℕ → ℕ
time_is None = 0
time_is (Some t) = 1

abbrev pub time_no : Option ℕ → ℕ
time_no None = 0
time_no (Some t) = t
