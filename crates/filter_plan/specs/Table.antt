-- The filters as the code has them: 64 places, of which the first hold them and the others hold none.
use Rattle.std.specs.Prelude.{ℕ, zero, suc, ◌-◌, ◌≤◌, ◌≡◌, List, [], ◌∷◌, ◌++◌, length, take, replicate}
use Rattle.refusal.specs.Test.{pick}
use Rattle.filter_asked.specs.declared.Filter.{Filter}
use Rattle.filter_plan.specs.declared.Filters.{Filters}
use Rattle.filter_plan.specs.Filters.{is_of}
use Rattle.filter_plan.specs.Plan.{Went, Run, run}

abbrev pub none : Filter
none = record { address = 0; instance = 0; mask = 0 }

abbrev pub table_of : List Filter → Filters
table_of l = record { entries = l ++ replicate (64 - length l) none; count = length l }

abbrev pub left_by : Run → Went × Filters
left_by (run l w) = (w, table_of l)

-- what the functions inside keep: such a table is of its own list
abbrev pub list_of : Filters → List Filter
list_of t = take t.count t.entries

abbrev pub IsTable : Filters → Type 0
IsTable t = (t.count ≤ 64) × (t ≡ table_of (list_of t))

-- the place of the entry of an address and an instance, or how many entries there are
unfoldable pub place_of : ℕ → ℕ → List Filter → ℕ
place_of a i [] = 0
place_of a i (g ∷ l) = pick (is_of a i g) 0 (suc (place_of a i l))

-- the list without the entry at a place
unfoldable pub dropped : ℕ → List Filter → List Filter
dropped k [] = []
dropped zero (g ∷ l) = l
dropped (suc k) (g ∷ l) = g ∷ dropped k l
