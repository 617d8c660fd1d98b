-- The answers to lines that are no calls by value, as the code has them, and that they say the texts of docs/BENCH.md.
use Rattle.std.specs.Prelude.{ℕ, Result, Ok, Err, ◌≡◌, refl, List}
use Rattle.std.proofs.Common.{ap, ◌∙◌}
use Rattle.words.specs.Words.{before, word_in, text}
use Rattle.bench_say.specs.Pieces.{pieces_texts, three}
use Rattle.bench_calls.specs.Called.{refused_texts}
use Rattle.bench_calls.specs.declared.Call.{Call}
use Rattle.bench_calls.specs.declared.Fault.{Fault}
use Rattle.bench_calls.specs.declared.Fault.TheVariants.{NoSuchCall, NotAByte, WrongGroups, WrongBytes}

abbrev pub names : List ℕ
names = text "? no such call,? not a byte,? wrong number of groups,? wrong number of bytes"

abbrev pub fault_kind : Result Call Fault → ℕ
fault_kind (Err NoSuchCall) = 0x01
fault_kind (Err NotAByte) = 0x11
fault_kind (Err WrongGroups) = 0x21
fault_kind (Err WrongBytes) = 0x31
fault_kind (Ok c) = 0

fault_said : (c : Result Call Fault) → pieces_texts names (three (fault_kind c) 0 0 0 0 0) ≡ refused_texts c
unfolding before word_in
fault_said (Err NoSuchCall) = refl
fault_said (Err NotAByte) = refl
fault_said (Err WrongGroups) = refl
fault_said (Err WrongBytes) = refl
fault_said (Ok c) = refl

pub fault_of : (c : Result Call Fault) {k : ℕ} → k ≡ fault_kind c → pieces_texts names (three k 0 0 0 0 0) ≡ refused_texts c
fault_of c {k} e = ap (λ (x : ℕ). pieces_texts names (three x 0 0 0 0 0)) e ∙ fault_said c
