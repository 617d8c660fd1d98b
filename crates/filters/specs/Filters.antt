-- Document 01, "Four orders in reply data": "Filters (to 32): a mode byte, then k entries of address, instance, mask high, mask
-- low; k is 0 to 15."
use Rattle.std.specs.Prelude.{ℕ, ◌+◌, ◌*◌, ◌/◌, List, [], ◌∷◌, leb, ltb, eqb, length, get_or}
use Rattle.refusal.specs.Answer.{Answer, full, demand}
use Rattle.order.specs.Order.{high_first, number_in}
use Rattle.filters.specs.declared.Filters.{Filters}
use Rattle.filters.specs.declared.Filter.{Filter}

-- the bytes of an entry, and the most entries
abbrev pub entry_size : ℕ
entry_size = 4

abbrev pub entries_most : ℕ
entries_most = 15

-- k, of a size 1 + 4k
abbrev pub count_in : List ℕ → ℕ
count_in s = length s / entry_size

-- 11 where the size is not "1 + 4k with k at most 15"
abbrev pub sized : {A : Type 0} → List ℕ → Answer A → Answer A
sized s x = demand (eqb (length s) (1 + entry_size * count_in s)) 11 (demand (leb (count_in s) entries_most) 11 x)

-- the mode and k
abbrev pub filters_of : List ℕ → Answer Filters
filters_of s = sized s (full (record { mode = get_or s 0 0; entries = count_in s }))

-- the four bytes from a place on
abbrev pub entry_at : List ℕ → ℕ → Filter
entry_at s at = record {
  address = get_or s at 0;
  instance = get_or s (at + 1) 0;
  mask = number_in high_first 2 (get_or s (at + 2) 0 ∷ get_or s (at + 3) 0 ∷ []);
}

-- entry i; "filter entry numbered k or more (from 0)" is 12
abbrev pub entry_in : List ℕ → ℕ → Answer Filter
entry_in s i = demand (ltb i (count_in s)) 12 (full (entry_at s (1 + entry_size * i)))

abbrev pub entry_of : List ℕ → ℕ → Answer Filter
entry_of s i = sized s (entry_in s i)
