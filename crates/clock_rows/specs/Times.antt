-- What is known of a line whose clock is accepted: its length, and the second at which it runs, as one since 1970.
use Rattle.std.specs.Prelude.{ℕ, suc, ◌+◌, ◌≤◌, ◌<◌, ◌≡◌, refl, Bool, true, false, List, length, T, ltb, ℤ, pos, negsuc, nat_abs, ◌+ℤ◌}
use Rattle.std.proofs.Common.{ap, ap₂, ◌∙◌, ltb-true, Fits, SFits, to_z, of_z, arith}
use Rattle.std.proofs.Math.IntN.{sub_ℕ}
use Rattle.std.specs.Int.Signed.{non_neg}
use Rattle.std.specs.Int.{w32, w64}
use Rattle.std.proofs.lemmas.Int.{to_z_pos, to_z-of_z}
use Rattle.refusal.specs.Test.{pick, clash}
use Rattle.refusal.specs.Answer.{Answer, refused, full, demand_elim}
use Rattle.signed.specs.Sizes.{wide, wide_fits}
use Rattle.clock_text.specs.declared.Clock.{Clock}
use Rattle.clock_text.specs.Clock.{is_text, clock_in, in_range, read_clock}
use Rattle.clock_text.specs.Forms.{text_size, size_most}
use Rattle.clocks.specs.Runs.{Lies, from_midnight, before_midnight, second_lies}
use Rattle.clock_day.specs.declared.Given.{Given}
use Rattle.clock_day.specs.Day.{is_given, runs_on, second_of, Day, idle, second, on_day}
use Rattle.clock_asked.specs.Asked.{given_of}
use Rattle.clock_asked.specs.Claims.{given_between}
use Rattle.clock_rows.specs.Rows.{is_long, answered, second_at}

-- ACCEPTED. A text that is read, and a clock that is on a day
read_elim : {P : Type 0} (a : Bool) (l : List ℕ) {c : Clock} → (is_text a l ≡ true → in_range c ≡ true → P) → read_clock a l ≡ full c → P
unfolding read_clock
read_elim {P} a l {c} f h =
    demand_elim (is_text a l) 21
    (λ p q.
    demand_elim (in_range (clock_in l)) 22
    (λ r s. let e : clock_in l ≡ c = cc in f p (rw e at r))
    q)
    h

day_elim : {P : Type 0} (g : Given) (x : Answer Clock) {d : Day}
    → ((c : Clock) → x ≡ full c → is_given g ≡ true → pick (runs_on c g) (second (second_of c)) idle ≡ d → P) → on_day g x ≡ full d → P
unfolding on_day
day_elim g (refused k) f h = clash (cc)
day_elim g (full c) f h = demand_elim (is_given g) 22 (λ p q. f c refl p (cc)) h

-- it has 30 bytes at most
pub accepted_most : (m : ℕ) (l : List ℕ) (d : Day) → answered m l ≡ full d → length l ≤ 30
unfolding answered
accepted_most m l d h = day_elim (given_of m) (read_clock (is_long l) l) (λ c p q r. read_elim (is_long l) l (λ s t. size_most (text_size (is_long l) l s)) p) h

-- THE SECOND lies in the day before, in the day or in the day behind (`second_lies` of crate clocks)
-- a midnight with two days before it and two behind it, and such a second
pub record Near (m : ℕ) (z : ℤ) : Type 0 where
  pub early : 172800 ≤ m
  pub late : m + 172800 < 4294967296
  pub near : Lies z

pub runs_near : (m : ℕ) (l : List ℕ) (z : ℤ) → m < 4294967296 → answered m l ≡ full (second z) → Near m z
unfolding answered
runs_near m l z h e =
    day_elim (given_of m) (read_clock (is_long l) l)
    (λ c p q r.
    let b = given_between m h q in
    record {
      early = b.0;
      late = b.1;
      near = read_elim (is_long l) l (λ s t. seconds c (runs_on c (given_of m)) r (second_lies c t)) p;
    })
    e
  where
    seconds : (c : Clock) (t : Bool) → pick t (second (second_of c)) idle ≡ second z → Lies (second_of c) → Lies z
    seconds c true p s = let q : second_of c ≡ z = cc in rw q at s
    seconds c false p s = clash (cc)

-- the second is a number of 32 bits with its sign
lies_fits : {z : ℤ} → Lies z → SFits w32 z
lies_fits (from_midnight n h) = record { sfits = omega arith }
lies_fits (before_midnight n h) = record { sfits = omega arith }

pub near_same : {m : ℕ} (z : ℤ) → Near m z → to_z w32 (of_z w32 z) ≡ z
near_same z h = to_z-of_z w32 z (lies_fits h.near)

-- and the sum one of 32 bits
sum_there : (m : ℕ) (z : ℤ) → Near m z → T (non_neg (pos m +ℤ z)) × Fits w32 (nat_abs (pos m +ℤ z))
sum_there m z h = go h.near h.early h.late
  where
    less : (n : ℕ) → n ≤ 86398 → 172800 ≤ m → m + 172800 < 4294967296 → (t : Bool) → ltb m (suc n) ≡ t → T (non_neg (sub_ℕ m (suc n))) × Fits w32 (nat_abs (sub_ℕ m (suc n)))
    less n k e l true q = absurd (omega (arith, ltb-true m (suc n) q))
    less n k e l false q = rw q (tt, record { fits = omega arith })

    go : {z : ℤ} → Lies z → 172800 ≤ m → m + 172800 < 4294967296 → T (non_neg (pos m +ℤ z)) × Fits w32 (nat_abs (pos m +ℤ z))
    go (from_midnight n k) e l = (tt, record { fits = omega arith })
    go (before_midnight n k) e l = less n k e l (ltb m (suc n)) refl

plain_fits : (x : ℤ) → T (non_neg x) → Fits w32 (nat_abs x) → SFits w64 x
plain_fits (pos n) t f = record { sfits = omega (arith, f.fits) }
plain_fits (negsuc n) t f = absurd t

module _ (m : ℕ) (z : ℤ) (f : SFits w32 z) (h : Near m z) where
  sum_same : to_z w64 m +ℤ wide z ≡ pos m +ℤ z
  sum_same = ap₂ (λ (x y : ℤ). x +ℤ y) (to_z_pos w64 m (omega (arith, h.late))) (to_z-of_z w64 (to_z w32 (of_z w32 z)) (wide_fits z f) ∙ to_z-of_z w32 z f)

  pub sum_fits : SFits w64 (to_z w64 m +ℤ wide z)
  sum_fits = rw sum_same (plain_fits (pos m +ℤ z) (sum_there m z h).0 (sum_there m z h).1)

  sum_whole : to_z w64 (of_z w64 (to_z w64 m +ℤ wide z)) ≡ pos m +ℤ z
  sum_whole = to_z-of_z w64 (to_z w64 m +ℤ wide z) sum_fits ∙ sum_same

  pub sum_size : T (non_neg (to_z w64 (of_z w64 (to_z w64 m +ℤ wide z)))) × Fits w32 (nat_abs (to_z w64 (of_z w64 (to_z w64 m +ℤ wide z))))
  sum_size = rw sum_whole (sum_there m z h)

  pub sum_second : nat_abs (to_z w64 (of_z w64 (to_z w64 m +ℤ wide z))) ≡ second_at m z
  sum_second = ap nat_abs sum_whole
