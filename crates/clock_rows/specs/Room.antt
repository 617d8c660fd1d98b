-- How long a row can be.
use Rattle.std.specs.Prelude.{ℕ, ◌≤◌, ◌≡◌, refl, Bool, true, false, List, [], ◌∷◌, length, eqb, ℤ, pos, nat_abs}
use Rattle.std.proofs.Common.{length-append, arith}
use Rattle.std.specs.Int.Signed.{lt_z}
use Rattle.refusal.specs.Test.{pick}
use Rattle.refusal.specs.Answer.{Answer, refused, full}
use Rattle.words.specs.Words.{text}
use Rattle.text.specs.Text.{decimal_of}
use Rattle.text.specs.Decimal.{decimal_most}
use Rattle.calendar.specs.Calendar.{time_text}
use Rattle.calendar.specs.Back.{time_length}
use Rattle.signed.specs.Signed.{signed_texts}
use Rattle.clock_day.specs.Day.{Day, idle, second}
use Rattle.clock_told.specs.Told.{refused_texts}
use Rattle.clock_told.specs.Bytes.{bytes_of, bytes_append, refusal_most, refused_most}
use Rattle.clock_rows.specs.Rows.{second_at, runs_texts, clock_texts, answered, answer_texts, row_texts, told_texts}
use Rattle.clock_rows.specs.Times.{accepted_most}

-- LENGTHS
signed_most : (z : ℤ) → length (bytes_of (signed_texts z)) ≤ 21
unfolding bytes_of signed_texts
signed_most z = go (lt_z z (pos 0))
  where
    go : (t : Bool) → length (bytes_of (pick t (text "-" ∷ decimal_of (nat_abs z) ∷ []) (decimal_of (nat_abs z) ∷ []))) ≤ 21
    go true = simp length-append (omega (arith, decimal_most 20 (nat_abs z)))
    go false = simp length-append (omega (arith, decimal_most 20 (nat_abs z)))

runs_most : (m : ℕ) (z : ℤ) → length (bytes_of (runs_texts m z)) ≤ 47
unfolding bytes_of
runs_most m z =
    omega (arith, signed_most z, time_length (second_at m z), bytes_append (signed_texts z) (text "," ∷ time_text (second_at m z) ∷ text "," ∷ []))

clock_most : (l : List ℕ) → length l ≤ 30 → length (bytes_of (clock_texts l)) ≤ 31
unfolding bytes_of
clock_most l h = simp length-append (omega arith)

-- a row has no more than 128 bytes
answer_most_lem : (m : ℕ) (l : List ℕ) (x : Answer Day) → answered m l ≡ x → length (bytes_of (answer_texts m l x)) ≤ 78
unfolding answer_texts bytes_of
answer_most_lem m l (full (second z)) e =
    omega (arith, bytes_append (runs_texts m z) (clock_texts l), runs_most m z, clock_most l (accepted_most m l (second z) e))
answer_most_lem m l (full idle) e = omega (arith, clock_most l (accepted_most m l idle e))
answer_most_lem m l (refused k) e = simp length-append (omega (arith, (refusal_most k).0))

pub row_most : (m n : ℕ) (l : List ℕ) → length (bytes_of (row_texts m n l)) ≤ 128
unfolding row_texts bytes_of
row_most m n l = go (eqb (length l) 0)
  where
    ts : List (List ℕ)
    ts = answer_texts m l (answered m l)

    go : (t : Bool) → length (bytes_of (pick t [] (decimal_of n ∷ text "," ∷ ts))) ≤ 128
    go true = omega arith
    go false = simp length-append (omega (arith, decimal_most 20 n, answer_most_lem m l (answered m l) refl))

-- and what is told of a line no more than 256
pub told_most : (m n : ℕ) (l : List ℕ) → length (bytes_of (told_texts m n l)) ≤ 256
unfolding told_texts bytes_of
told_most m n l = go (eqb (length l) 0)
  where
    go : (t : Bool) → length (bytes_of (pick t [] (refused_texts n (answered m l)))) ≤ 256
    go true = omega arith
    go false = refused_most n (answered m l)
