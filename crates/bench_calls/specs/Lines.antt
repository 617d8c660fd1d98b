-- A line's call from what its parts were found to be.
use Rattle.std.specs.Prelude.{ℕ, Option, Result, Err, ◌+◌, ◌-◌, ◌≡◌, List, take, drop}
use Rattle.std.proofs.Common.{eq-eqb, ne_eqb}
use Rattle.words.specs.Words.{before}
use Rattle.bench_words.specs.Words.{blanks}
use Rattle.bench_words.specs.Groups.{Reads}
use Rattle.bench_words.specs.declared.Groups.{Groups}
use Rattle.bench_calls.specs.Table.{row_of}
use Rattle.bench_calls.specs.Called.{parsed_call, Calls}
use Rattle.bench_calls.specs.declared.Call.{Call}
use Rattle.bench_calls.specs.declared.Fault.{Fault}
use Rattle.bench_calls.specs.declared.Fault.TheVariants.{NoSuchCall}

module _ (line bytes : List ℕ) (a e row : ℕ) (p : a ≡ blanks line) (q : e ≡ a + before 32 (drop a line)) (w : row ≡ row_of (take (e - a) (drop a line))) where
  pub calls_none : row ≡ 0 → Calls line bytes (Err NoSuchCall) bytes
  calls_none z = record { says = rw (← p, ← q, ← w, eq-eqb row 0 z); leaves = rw (← p, ← q, ← w, eq-eqb row 0 z) }

  pub calls_parsed : (row ≡ 0 → ⊥) → (x : Option Groups) (r : Result Call Fault) (bytes' : List ℕ) → Reads line e bytes x bytes' → r ≡ parsed_call row x → Calls line bytes r bytes'
  calls_parsed n x r bytes' h f = record {
    says = rw (← p, ← q, ← w, ne_eqb row 0 n, ← h.says) f;
    leaves = rw (← p, ← q, ← w, ne_eqb row 0 n) h.leaves;
  }
