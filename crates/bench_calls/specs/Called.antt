-- docs/BENCH.md, "What is no call": what a line with a word in it calls. "The first row that applies is given."
use Rattle.std.specs.Prelude.{ℕ, Option, Some, None, Result, Ok, Err, ◌+◌, ◌-◌, ◌/◌, ◌%◌, ◌≡◌, List, [], ◌∷◌, ◌++◌, length, take, drop, eqb, ltb}
use Rattle.std.proofs.Common.{sym, ◌∙◌}
use Rattle.refusal.specs.Test.{pick}
use Rattle.words.specs.Words.{text, before}
use Rattle.bench_words.specs.Words.{blanks}
use Rattle.bench_words.specs.Groups.{taken_of, kept_of, parsed_of}
use Rattle.bench_words.specs.declared.Groups.{Groups}
use Rattle.bench_calls.specs.Table.{row_of}
use Rattle.bench_calls.specs.declared.Call.{Call}
use Rattle.bench_calls.specs.declared.Fault.{Fault}
use Rattle.bench_calls.specs.declared.Fault.TheVariants.{NoSuchCall, NotAByte, WrongGroups, WrongBytes}

-- the name is the first word: where it begins, where it ends, and its row in the table
abbrev pub name_start : List ℕ → ℕ
name_start line = blanks line

abbrev pub name_end : List ℕ → ℕ
name_end line = name_start line + before 32 (drop (name_start line) line)

abbrev pub row_named : List ℕ → ℕ
row_named line = row_of (take (name_end line - name_start line) (drop (name_start line) line))

-- the digits of a row
abbrev pub call_in : ℕ → ℕ
call_in row = row / 0x10_000_000_000_000

abbrev pub groups_in : ℕ → ℕ
groups_in row = row / 0x1_000_000_000_000 % 16

abbrev pub least_in : ℕ → ℕ
least_in row = row / 0x1_000_000_000 % 0x1000

abbrev pub most_in : ℕ → ℕ
most_in row = row / 0x1_000_000 % 0x1000

abbrev pub second_in : ℕ → ℕ
second_in row = row / 0x1000 % 0x1000

abbrev pub third_in : ℕ → ℕ
third_in row = row % 0x1000

-- "another number of groups than the call has", "a group of another size than the call says"; else the call
abbrev pub measured_of : ℕ → Groups → Result Call Fault
measured_of row g =
    pick (eqb (groups_in row) g.count)
    (pick (ltb g.a (least_in row)) (Err WrongBytes)
    (pick (ltb (most_in row) g.a) (Err WrongBytes)
    (pick (ltb g.b g.a) (Err WrongBytes)
    (pick (ltb (second_in row) (g.b - g.a)) (Err WrongBytes)
    (pick (ltb g.c g.b) (Err WrongBytes)
    (pick (ltb (third_in row) (g.c - g.b)) (Err WrongBytes)
    (Ok (record { number = call_in row; groups = g }))))))))
    (Err WrongGroups)

-- "a word behind the name that is neither a byte nor `/`"
abbrev pub parsed_call : ℕ → Option Groups → Result Call Fault
parsed_call row None = Err NotAByte
parsed_call row (Some g) = measured_of row g

-- "an unknown name"; no bytes are read behind one
abbrev pub called_of : ℕ → List ℕ → Result Call Fault
called_of room line = pick (eqb (row_named line) 0) (Err NoSuchCall) (parsed_call (row_named line) (parsed_of (taken_of room line (name_end line))))

abbrev pub kept_by : ℕ → List ℕ → List ℕ
kept_by room line = pick (eqb (row_named line) 0) [] (kept_of (taken_of room line (name_end line)))

pub record Calls (line bytes : List ℕ) (r : Result Call Fault) (bytes' : List ℕ) : Type 0 where
  pub says : r ≡ called_of (length bytes) line
  pub leaves : bytes' ≡ kept_by (length bytes) line ++ drop (length (kept_by (length bytes) line)) bytes

-- it leaves no choice
pub calls_one : {line bytes p q : List ℕ} {r s : Result Call Fault} → Calls line bytes r p → Calls line bytes s q → (r ≡ s) × (p ≡ q)
calls_one a b = (a.says ∙ sym b.says, a.leaves ∙ sym b.leaves)

-- the answers
abbrev pub refused_texts : Result Call Fault → List (List ℕ)
refused_texts (Err NoSuchCall) = text "? no such call" ∷ []
refused_texts (Err NotAByte) = text "? not a byte" ∷ []
refused_texts (Err WrongGroups) = text "? wrong number of groups" ∷ []
refused_texts (Err WrongBytes) = text "? wrong number of bytes" ∷ []
refused_texts (Ok c) = []
