-- The answers by value, as the code has them, and that they say the texts of docs/BENCH.md.
use Rattle.std.specs.Prelude.{ℕ, ◌≡◌, refl, List, Result, Ok, Err}
use Rattle.std.proofs.Common.{ap, ◌∙◌}
use Rattle.refusal.specs.Refusals.{number_of}
use Rattle.refusal.specs.declared.Refusal.{Refusal}
use Rattle.words.specs.Words.{before, word_in, text}
use Rattle.bench_say.specs.Pieces.{pieces_texts, three}
use Rattle.bench_say.specs.declared.Pieces.{Pieces}
use Rattle.filters.specs.declared.Filters.{Filters}
use Rattle.filters.specs.declared.Filter.{Filter}
use Rattle.bench_maps.specs.declared.Data.{Data}
use Rattle.bench_maps.specs.declared.Data.TheVariants.{Number, Bits16, Bits32, Bits64, Count, Lowest as a·Lowest, Filters as a·Filters, Filter as a·Filter}
use Rattle.bench_maps.specs.Maps.{bits_texts, lowest_texts, filters_texts, entry_texts, data_texts}

abbrev pub names : List ℕ
names = text "0 number ,0 bits ,0 count ,0 lowest ,0 mode , entries ,0 address , instance , mask "

-- a number behind the name of a kind, or a refusal
abbrev pub numbered_pieces : ℕ → Result ℕ Refusal → Pieces
numbered_pieces k (Ok n) = three k n 0 0 0 0
numbered_pieces k (Err r) = three 4 (number_of r) 0 0 0 0

abbrev pub filters_pieces : Result Filters Refusal → Pieces
filters_pieces (Ok f) = three 0x42 f.mode 0x52 f.entries 0 0
filters_pieces (Err k) = three 4 (number_of k) 0 0 0 0

abbrev pub entry_pieces : Result Filter Refusal → Pieces
entry_pieces (Ok f) = three 0x62 f.address 0x72 f.instance 0x82 f.mask
entry_pieces (Err k) = three 4 (number_of k) 0 0 0 0

abbrev pub data_pieces : Data → Pieces
data_pieces (Number n) = three 0x02 n 0 0 0 0
data_pieces (Bits16 m) = numbered_pieces 0x12 m
data_pieces (Bits32 m) = numbered_pieces 0x12 m
data_pieces (Bits64 m) = numbered_pieces 0x12 m
data_pieces (Count n) = three 0x22 n 0 0 0 0
data_pieces (a·Lowest l) = numbered_pieces 0x32 l
data_pieces (a·Filters f) = filters_pieces f
data_pieces (a·Filter f) = entry_pieces f

bits_said : (m : Result ℕ Refusal) → pieces_texts names (numbered_pieces 0x12 m) ≡ bits_texts m
unfolding before word_in
bits_said (Ok n) = refl
bits_said (Err k) = refl

lowest_said : (l : Result ℕ Refusal) → pieces_texts names (numbered_pieces 0x32 l) ≡ lowest_texts l
unfolding before word_in
lowest_said (Ok n) = refl
lowest_said (Err k) = refl

filters_said : (f : Result Filters Refusal) → pieces_texts names (filters_pieces f) ≡ filters_texts f
unfolding before word_in
filters_said (Ok f) = refl
filters_said (Err k) = refl

entry_said : (f : Result Filter Refusal) → pieces_texts names (entry_pieces f) ≡ entry_texts f
unfolding before word_in
entry_said (Ok f) = refl
entry_said (Err k) = refl

data_said : (d : Data) → pieces_texts names (data_pieces d) ≡ data_texts d
unfolding before word_in
data_said (Number n) = refl
data_said (Bits16 m) = bits_said m
data_said (Bits32 m) = bits_said m
data_said (Bits64 m) = bits_said m
data_said (Count n) = refl
data_said (a·Lowest l) = lowest_said l
data_said (a·Filters f) = filters_said f
data_said (a·Filter f) = entry_said f

-- what a function answers that has these by value
pub data_of : (d : Data) {p : Pieces} → p ≡ data_pieces d → pieces_texts names p ≡ data_texts d
data_of d {p} e = ap (pieces_texts names) e ∙ data_said d
