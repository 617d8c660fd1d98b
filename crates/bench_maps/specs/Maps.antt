-- docs/BENCH.md, "Reply data": the answers, case by case.
use Rattle.std.specs.Prelude.{ℕ, List, [], ◌∷◌, Result, Ok, Err}
use Rattle.refusal.specs.Refusals.{number_of}
use Rattle.refusal.specs.declared.Refusal.{Refusal}
use Rattle.text.specs.Text.{decimal_of}
use Rattle.words.specs.Words.{text}
use Rattle.filters.specs.declared.Filters.{Filters}
use Rattle.filters.specs.declared.Filter.{Filter}
use Rattle.bench_maps.specs.declared.Data.{Data}
use Rattle.bench_maps.specs.declared.Data.TheVariants.{Number, Bits16, Bits32, Bits64, Count, Lowest as a·Lowest, Filters as a·Filters, Filter as a·Filter}

-- "`bits N`"
abbrev pub bits_texts : Result ℕ Refusal → List (List ℕ)
bits_texts (Ok n) = text "0 bits " ∷ decimal_of n ∷ []
bits_texts (Err k) = decimal_of (number_of k) ∷ []

-- "`lowest N`"
abbrev pub lowest_texts : Result ℕ Refusal → List (List ℕ)
lowest_texts (Ok n) = text "0 lowest " ∷ decimal_of n ∷ []
lowest_texts (Err k) = decimal_of (number_of k) ∷ []

-- "`mode N entries N`"
abbrev pub filters_texts : Result Filters Refusal → List (List ℕ)
filters_texts (Ok f) = text "0 mode " ∷ decimal_of f.mode ∷ text " entries " ∷ decimal_of f.entries ∷ []
filters_texts (Err k) = decimal_of (number_of k) ∷ []

-- "`address N instance N mask N`"
abbrev pub entry_texts : Result Filter Refusal → List (List ℕ)
entry_texts (Ok f) =
    text "0 address " ∷ decimal_of f.address ∷ text " instance " ∷ decimal_of f.instance ∷ text " mask " ∷ decimal_of f.mask ∷ []
entry_texts (Err k) = decimal_of (number_of k) ∷ []

-- the answer of a call: `number N`, `count N`, or as above
abbrev pub data_texts : Data → List (List ℕ)
data_texts (Number n) = text "0 number " ∷ decimal_of n ∷ []
data_texts (Bits16 m) = bits_texts m
data_texts (Bits32 m) = bits_texts m
data_texts (Bits64 m) = bits_texts m
data_texts (Count n) = text "0 count " ∷ decimal_of n ∷ []
data_texts (a·Lowest l) = lowest_texts l
data_texts (a·Filters f) = filters_texts f
data_texts (a·Filter f) = entry_texts f
