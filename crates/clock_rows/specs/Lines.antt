-- What is put of a line, by what the code has found; and a line by its places in the text.
use Rattle.std.specs.Prelude.{ℕ, zero, suc, ◌+◌, ◌-◌, ◌≤◌, ◌<◌, ◌≡◌, get_or, take, drop}
use Rattle.std.proofs.Math.Path.{refl}
use Rattle.std.proofs.Common.{sym, ap, ap₂, ◌∙◌, length-take, drop_of_length-le, eq-eqb, ne_eqb, lt-ltb, le-ltb, arith}
use mathlib.Core.List.{List, [], ◌∷◌}
use Rattle.std.proofs.Math.ListN.{length}
use Rattle.refusal.specs.Answer.{Answer}
use Rattle.lent.specs.Puts.{Puts}
use Rattle.lent.specs.All.{PutsAll}
use Rattle.lent.specs.Behind.{puts_next, puts_none}
use Rattle.words.specs.Words.{text, before, first_in}
use Rattle.words.specs.Places.{until_within}
use Rattle.text.specs.Text.{decimal_of}
use Rattle.clock_day.specs.Day.{Day}
use Rattle.clock_told.specs.Told.{refused_texts}
use Rattle.clock_rows.specs.declared.Step.{Step}
use Rattle.clock_rows.specs.Rows.{length_of, answered, answer_texts, row_texts, told_texts, Put, line_at, next_at, Turned}

-- THE END of a line
module _ (l : List ℕ) where
  pub no_byte : length l ≡ 0 → (length l ≡ length_of l) × (length l ≤ length l)
  unfolding length_of
  no_byte h = (h ∙ go l h, omega arith)
    where
      go : (l : List ℕ) → length l ≡ 0 → 0 ≡ length_of l
      go [] h = refl
      go (c ∷ l) h = absurd (omega arith)

  pub return_last : get_or l (length l - 1) 0 ≡ 13 → (length l - 1 ≡ length_of l) × (length l - 1 ≤ length l)
  unfolding length_of
  return_last e = (rw (eq-eqb (get_or l (length l - 1) 0) 13 e), omega arith)

  pub other_last : (get_or l (length l - 1) 0 ≡ 13 → ⊥) → (length l ≡ length_of l) × (length l ≤ length l)
  unfolding length_of
  other_last h = (rw (ne_eqb (get_or l (length l - 1) 0) 13 h), omega arith)

-- A LINE
nothing : (m n : ℕ) (l : List ℕ) → length l ≡ 0 → (row_texts m n l ≡ []) × (told_texts m n l ≡ [])
unfolding row_texts told_texts
nothing m n l h = (rw (eq-eqb (length l) 0 h), rw (eq-eqb (length l) 0 h))

pub passed : (m : ℕ) (l : List ℕ) (behind n : ℕ) (out : List ℕ) (at : ℕ) (err : List ℕ) → length l ≡ 0
    → Put m l behind n out at err (record { next = behind; at = at; told = 0 }) out err
passed m l behind n out at err h =
    let e = nothing m n l h in
    record { next = refl; row = rw e.0 (puts_none out at); told = rw e.1 (puts_none err 0) }

module _ (m n : ℕ) (l : List ℕ) (h : length l ≡ 0 → ⊥) where
  pub row_puts : {x : Answer Day} {out o p q : List ℕ} {at a b r : ℕ} → x ≡ answered m l → Puts (decimal_of n) out at a o → Puts (text ",") o a b p
      → PutsAll (answer_texts m l x) p b r q → PutsAll (row_texts m n l) out at r q
  unfolding row_texts
  row_puts {x} e f g k = rw (ne_eqb (length l) 0 h, ← e) (puts_next f (puts_next g k))

  pub told_puts : {x : Answer Day} {err p : List ℕ} {r : ℕ} → x ≡ answered m l → PutsAll (refused_texts n x) err 0 r p → PutsAll (told_texts m n l) err 0 r p
  unfolding told_texts
  told_puts {x} e f = rw (ne_eqb (length l) 0 h, ← e) f

-- A TURN. Behind the end there is no line
pub no_line : (m : ℕ) (s : List ℕ) (i n : ℕ) (out : List ℕ) (at : ℕ) (err : List ℕ) → length s ≤ i
    → Turned m s i n out at err (record { next = i; at = at; told = 0 }) out err
unfolding length_of before
no_line m s i n out at err h =
    let d : drop i s ≡ [] = drop_of_length-le s h in
    rw (d, le-ltb i (length s) h) (passed m [] i n out at err refl)

-- a line from its place to its end
take_less : (a b : ℕ) (l : List ℕ) → a ≤ b → take a (take b l) ≡ take a l
take_less zero b l h = refl
take_less (suc a) zero l h = absurd (omega arith)
take_less (suc a) (suc b) [] h = refl
take_less (suc a) (suc b) (c ∷ l) h = ap (λ (r : List ℕ). c ∷ r) (take_less a b l (omega arith))

module _ (s : List ℕ) (i e : ℕ) (h : i < length s) (q : e ≡ i + before 10 (drop i s)) where
  pub end_most : (i ≤ e) × (e ≤ length s)
  end_most = until_within 10 s i e (omega arith) q

  pub next_line : e + 1 ≡ next_at s i
  next_line = rw (lt-ltb i (length s) h) (omega arith)

  whole_first : take (e - i) (drop i s) ≡ first_in 10 (drop i s)
  whole_first = let m : e - i ≡ before 10 (drop i s) = omega arith in ap (λ (n : ℕ). take n (drop i s)) m

  module _ (k : ℕ) (l : k ≤ length (take (e - i) (drop i s))) where
    part_most_lem : k ≤ e - i
    part_most_lem = omega (arith, simp length-take at l)

    pub part_end : i + k ≤ length s
    part_end = omega (arith, part_most_lem, end_most.0, end_most.1)

    pub part_line : k ≡ length_of (take (e - i) (drop i s)) → take (i + k - i) (drop i s) ≡ line_at s i
    part_line p =
        let m : i + k - i ≡ k = omega arith in
        ap (λ (n : ℕ). take n (drop i s)) m
        ∙ sym (take_less k (e - i) (drop i s) part_most_lem)
        ∙ ap₂ (λ (n : ℕ) (r : List ℕ). take n r) (p ∙ ap length_of whole_first) whole_first

-- and what it puts, said another way
pub put_same : {m : ℕ} {l k : List ℕ} {behind after n : ℕ} {out : List ℕ} {at : ℕ} {err : List ℕ} {r : Step} {o e : List ℕ}
    → l ≡ k → behind ≡ after → Put m l behind n out at err r o e → Put m k after n out at err r o e
put_same p q t = rw (p, q) at t
