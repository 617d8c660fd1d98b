-- A part at the front of a run, found and not found.
use Rattle.std.specs.Prelude.{ℕ, ◌+◌, ◌≤◌, ◌<◌, ◌≡◌, Bool, true, false, List, [], ◌∷◌, length, get_or, drop, leb}
use Rattle.std.proofs.Common.{sym, get_or-drop, le-leb, leb-true, arith}
use Rattle.std.proofs.lemmas.Bool.{lt-leb}
use Rattle.refusal.specs.Test.{clash}
use Rattle.refusal.specs.Answer.{refused, full, demand, demand_elim, full_one}
use Rattle.order.specs.Order.{high_first, number_in}
use Rattle.led.specs.Led.{length_in, part_at}

pub follows : (s : List ℕ) (n : ℕ) → n ≡ length_in s → 2 ≤ length s → 2 + n ≤ length s → full n ≡ part_at s
unfolding part_at
follows s n e h k = rw (le-leb 2 (length s) h, ← e, le-leb (2 + n) (length s) k)

pub cut_length : (s : List ℕ) → length s < 2 → refused 15 ≡ part_at s
unfolding part_at
cut_length s h = rw (lt-leb 2 (length s) h)

pub cut_part : (s : List ℕ) → 2 ≤ length s → length s < 2 + length_in s → refused 15 ≡ part_at s
unfolding part_at
cut_part s h k = rw (le-leb 2 (length s) h, lt-leb (2 + length_in s) (length s) k)

-- what a part that is there has
pub part_there : (s : List ℕ) (n : ℕ) → part_at s ≡ full n → (n ≡ length_in s) × (2 + n ≤ length s)
unfolding part_at
part_there s n =
    demand_elim (leb 2 (length s)) 15
    (λ h. demand_elim (leb (2 + length_in s) (length s)) 15
    (λ k e.
    let q : length_in s ≡ n = full_one e in
    (sym q, omega (arith, leb-true (2 + length_in s) (length s) k))))

-- and a part is refused with 15 only
pub part_15 : (s : List ℕ) (k : ℕ) → part_at s ≡ refused k → k ≡ 15
unfolding part_at
part_15 s k = go (leb 2 (length s)) (leb (2 + length_in s) (length s))
  where
    go : (a b : Bool) → demand a 15 (demand b 15 (full (length_in s))) ≡ refused k → k ≡ 15
    go true true e = clash (cc)
    go true false e = cc
    go false b e = cc

-- the length at a place, by its two bytes
pub length_at : (s : List ℕ) (at x : ℕ) → x ≡ number_in high_first 2 (get_or s at 0 ∷ get_or s (at + 1) 0 ∷ []) → x ≡ length_in (drop at s)
length_at s at x e =
    let z : at + 0 ≡ at = omega arith in
    rw (get_or-drop at s 0 0, get_or-drop at s 1 0, z) e
