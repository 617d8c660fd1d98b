-- Laws of the exclusive-or of two numbers that the library has not: it may be regrouped, of four in the middle too, and only equal numbers cancel.
use Rattle.std.specs.Prelude.{ℕ, zero, suc, ◌+◌, ◌/◌, ◌%◌, ◌≤◌, ◌<◌, ◌≡◌, refl, Bool, true, false, eqb}
use Rattle.std.proofs.Common.{sym, ap, ◌∙◌, eqb-true, eq-eqb, ne_eqb, arith}
use Rattle.std.proofs.lemmas.Bool.{eqb-false}
use Rattle.std.specs.Int.Bits.{bit_xor, xor_zero_l, xor_zero_r, xor_self, xor_add_and}
use Rattle.std.proofs.lemmas.Nat.{xor_shr, xor_mod, xor_comm, and_le_l, and_le_r}

xor_half : (a b : ℕ) → bit_xor a b / 2 ≡ bit_xor (a / 2) (b / 2)
xor_half a b = xor_shr a b 1

xor_odd : (a b : ℕ) → bit_xor a b % 2 ≡ bit_xor (a % 2) (b % 2)
xor_odd a b = xor_mod a b 1

-- of three odd-or-even marks
differ_assoc : (a b c : ℕ) → a < 2 → b < 2 → c < 2 → bit_xor (bit_xor a b) c ≡ bit_xor a (bit_xor b c)
differ_assoc zero b c ha hb hc = rw (xor_zero_l b, xor_zero_l (bit_xor b c))
differ_assoc (suc zero) zero c ha hb hc = rw (xor_zero_r 1, xor_zero_l c)
differ_assoc (suc zero) (suc zero) zero ha hb hc = refl
differ_assoc (suc zero) (suc zero) (suc zero) ha hb hc = refl
differ_assoc (suc (suc a)) b c ha hb hc = absurd (omega arith)
differ_assoc (suc zero) (suc (suc b)) c ha hb hc = absurd (omega arith)
differ_assoc (suc zero) (suc zero) (suc (suc c)) ha hb hc = absurd (omega arith)

-- a number is its half and its odd mark
split : (x y : ℕ) → x / 2 ≡ y / 2 → x % 2 ≡ y % 2 → x ≡ y
split x y h o = omega arith

assoc_below : (n a b c : ℕ) → a ≤ n → b ≤ n → c ≤ n → bit_xor (bit_xor a b) c ≡ bit_xor a (bit_xor b c)
assoc_below zero a b c ha hb hc =
    let ea : a ≡ 0 = omega arith in
    let eb : b ≡ 0 = omega arith in
    let ec : c ≡ 0 = omega arith in
    rw (ea, eb, ec)
assoc_below (suc n) a b c ha hb hc =
    split (bit_xor (bit_xor a b) c) (bit_xor a (bit_xor b c))
    (rw (xor_half (bit_xor a b) c, xor_half a b, xor_half a (bit_xor b c), xor_half b c)
    (assoc_below n (a / 2) (b / 2) (c / 2) (omega arith) (omega arith) (omega arith)))
    (rw (xor_odd (bit_xor a b) c, xor_odd a b, xor_odd a (bit_xor b c), xor_odd b c)
    (differ_assoc (a % 2) (b % 2) (c % 2) (omega arith) (omega arith) (omega arith)))

pub xor_assoc : (a b c : ℕ) → bit_xor (bit_xor a b) c ≡ bit_xor a (bit_xor b c)
xor_assoc a b c = assoc_below (a + b + c) a b c (omega arith) (omega arith) (omega arith)

pub xor_cancel : (a b : ℕ) → bit_xor a b ≡ 0 → a ≡ b
xor_cancel a b e = omega (arith, xor_add_and a b, and_le_l a b, and_le_r a b)

-- of four, the middle two exchanged
pub xor_medial : (a b c d : ℕ) → bit_xor (bit_xor a b) (bit_xor c d) ≡ bit_xor (bit_xor a c) (bit_xor b d)
xor_medial a b c d =
    xor_assoc a b (bit_xor c d)
    ∙ ap (bit_xor a) (sym (xor_assoc b c d) ∙ ap (λ (x : ℕ). bit_xor x d) (xor_comm b c) ∙ xor_assoc c b d)
    ∙ sym (xor_assoc a c (bit_xor b d))

-- two numbers are equal exactly where theirs is 0
pub xor_none : (a b : ℕ) → eqb (bit_xor a b) 0 ≡ eqb a b
xor_none a b = go (eqb a b) refl
  where
    go : (t : Bool) → eqb a b ≡ t → eqb (bit_xor a b) 0 ≡ t
    go true e = eq-eqb (bit_xor a b) 0 (rw (eqb-true a b e) (xor_self b))
    go false e = ne_eqb (bit_xor a b) 0 (λ z. eqb-false a b e (xor_cancel a b z))
