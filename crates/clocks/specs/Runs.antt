-- "say whether it runs that day and at which second from midnight": when a clock runs, at which second, and what is refused.
use Rattle.std.specs.Prelude.{ℕ, zero, suc, ◌+◌, ◌-◌, ◌≤◌, ◌≡◌, Bool, not, ◌&&◌, ◌||◌, List, ◌⊎◌, ◌↔◌, eqb, ltb, ℤ, pos, negsuc, neg_ℤ, ◌+ℤ◌}
use Rattle.std.proofs.Math.Path.{refl}
use Rattle.std.proofs.Math.Bool.{true, false}
use Rattle.std.proofs.Common.{inl, inr, eqb-true, eq-eqb, arith}
use Rattle.std.proofs.Math.IntN.{sub_ℕ, -ℤ-+ℤ_cancel}
use Rattle.refusal.specs.Test.{pick, both_left, both_right, clash}
use Rattle.refusal.specs.Answer.{Answer, refused, full}
use Rattle.maps.specs.Bit.{bit}
use Rattle.clock_text.specs.declared.Time.{Time}
use Rattle.clock_text.specs.declared.Clock.{Clock}
use Rattle.clock_text.specs.declared.Offset.{Offset}
use Rattle.clock_text.specs.declared.Offset.TheVariants.{Absent, Later, Earlier}
use Rattle.clock_text.specs.Clock.{is_time, is_none, is_offset, is_text, in_range, clock_in, read_clock}
use Rattle.clock_day.specs.declared.Given.{Given}
use Rattle.clock_day.specs.Day.{is_given, is_free, is_free_year, runs_on, seconds_in, shift, second_of, idle, second, on_day, runs_at}
use Rattle.clocks.specs.Read.{or_true, in_ranges, time_range}

-- A CLOCK RUNS exactly if it is not switched off, the bit of the weekday stands, and day, month and year are each 00 or the date's
pub record Runs (c : Clock) (g : Given) : Type 0 where
  pub on : bit c.weekdays 7 ≡ 0
  pub weekday : bit c.weekdays g.weekday ≡ 1
  pub day : (c.day ≡ 0) ⊎ (c.day ≡ g.day)
  pub month : (c.month ≡ 0) ⊎ (c.month ≡ g.month)
  pub year : (c.year ≡ 0) ⊎ (2000 + c.year ≡ g.year)

-- a test of two, of which one holds
free : (x y z : ℕ) → (eqb x 0 || eqb y z ≡ true) ↔ ((x ≡ 0) ⊎ (y ≡ z))
free x y z = (there (eqb x 0) refl, from)
  where
    there : (t : Bool) → eqb x 0 ≡ t → t || eqb y z ≡ true → (x ≡ 0) ⊎ (y ≡ z)
    there true e f = inl (eqb-true x 0 e)
    there false e f = inr (eqb-true y z f)

    from : (x ≡ 0) ⊎ (y ≡ z) → eqb x 0 || eqb y z ≡ true
    from (inl e) = rw (eq-eqb x 0 e)
    from (inr e) = rw (eq-eqb y z e) (or_true (eqb x 0))

pub runs_when : (c : Clock) (g : Given) → (runs_on c g ≡ true) ↔ Runs c g
unfolding runs_on
runs_when c g = (there, from)
  where
    off : Bool
    off = eqb (bit c.weekdays 7) 0

    days : Bool
    days = eqb (bit c.weekdays g.weekday) 1

    there : runs_on c g ≡ true → Runs c g
    there e =
        let d : Bool = is_free c.day g.day in
        let m : Bool = is_free c.month g.month in
        let y : Bool = is_free_year c.year g.year in
        let k = both_left (((off && days) && d) && m) y e in
        let j = both_left ((off && days) && d) m k in
        let i = both_left (off && days) d j in
        record {
          on = eqb-true (bit c.weekdays 7) 0 (both_left off days i);
          weekday = eqb-true (bit c.weekdays g.weekday) 1 (both_right off days i);
          day = (free c.day c.day g.day).0 (both_right (off && days) d j);
          month = (free c.month c.month g.month).0 (both_right ((off && days) && d) m k);
          year = (free c.year (2000 + c.year) g.year).0 (both_right (((off && days) && d) && m) y e);
        }

    from : Runs c g → runs_on c g ≡ true
    from r =
        rw (
          eq-eqb (bit c.weekdays 7) 0 r.on,
          eq-eqb (bit c.weekdays g.weekday) 1 r.weekday,
          (free c.day c.day g.day).1 r.day,
          (free c.month c.month g.month).1 r.month,
          (free c.year (2000 + c.year) g.year).1 r.year,
        )

-- THE ANSWER, exactly
module _ (g : Given) where
  runs_of : (x : Answer Clock) (z : ℤ) → on_day g x ≡ full (second z) → (c : Clock) × ((x ≡ full c) × (is_given g ≡ true) × (runs_on c g ≡ true) × (z ≡ second_of c))
  unfolding on_day
  runs_of (refused k) z e = clash (cc)
  runs_of (full c) z e = go (is_given g) refl (runs_on c g) refl e
    where
      go : (x : Bool) → is_given g ≡ x → (y : Bool) → runs_on c g ≡ y → pick x (full (pick y (second (second_of c)) idle)) (refused 22) ≡ full (second z)
          → (d : Clock) × ((full c ≡ full d) × (is_given g ≡ true) × (runs_on d g ≡ true) × (z ≡ second_of d))
      go true p true q f = (c, (refl, p, q, cc))
      go true p false q f = clash (cc)
      go false p y q f = clash (cc)

  idle_of : (x : Answer Clock) → on_day g x ≡ full idle → (c : Clock) × ((x ≡ full c) × (is_given g ≡ true) × (runs_on c g ≡ false))
  unfolding on_day
  idle_of (refused k) e = clash (cc)
  idle_of (full c) e = go (is_given g) refl (runs_on c g) refl e
    where
      go : (x : Bool) → is_given g ≡ x → (y : Bool) → runs_on c g ≡ y → pick x (full (pick y (second (second_of c)) idle)) (refused 22) ≡ full idle
          → (d : Clock) × ((full c ≡ full d) × (is_given g ≡ true) × (runs_on d g ≡ false))
      go true p true q f = clash (cc)
      go true p false q f = (c, (refl, p, q))
      go false p y q f = clash (cc)

  module _ (a : Bool) (s : List ℕ) where
    pub runs_exactly : (z : ℤ) → (runs_at a g s ≡ full (second z)) ↔ ((c : Clock) × ((read_clock a s ≡ full c) × (is_given g ≡ true) × (runs_on c g ≡ true) × (z ≡ second_of c)))
    unfolding on_day
    runs_exactly z = (runs_of (read_clock a s) z, from)
      where
        from : (c : Clock) × ((read_clock a s ≡ full c) × (is_given g ≡ true) × (runs_on c g ≡ true) × (z ≡ second_of c)) → runs_at a g s ≡ full (second z)
        from (c, (e, h, r, f)) = rw (e, h, r, f)

    pub idle_exactly : (runs_at a g s ≡ full idle) ↔ ((c : Clock) × ((read_clock a s ≡ full c) × (is_given g ≡ true) × (runs_on c g ≡ false)))
    unfolding on_day
    idle_exactly = (idle_of (read_clock a s), from)
      where
        from : (c : Clock) × ((read_clock a s ≡ full c) × (is_given g ≡ true) × (runs_on c g ≡ false)) → runs_at a g s ≡ full idle
        from (c, (e, h, r)) = rw (e, h, r)

    -- "21 text not of this form, 22 a field out of range, in that order": 21 exactly if the text has not the form, whatever the date is, and else 22
    -- exactly if a field of the clock is out of range, or the date or the weekday is
    pub refused_21 : is_text a s ≡ false → (read_clock a s ≡ refused 21) × (runs_at a g s ≡ refused 21)
    unfolding read_clock on_day
    refused_21 e = (rw e, rw e)

    pub refused_22 : is_text a s ≡ true → in_range (clock_in s) && is_given g ≡ false → runs_at a g s ≡ refused 22
    unfolding read_clock on_day
    refused_22 e = go (in_range (clock_in s)) refl (is_given g) refl
      where
        go : (x : Bool) → in_range (clock_in s) ≡ x → (y : Bool) → is_given g ≡ y → x && y ≡ false → runs_at a g s ≡ refused 22
        go true p true q f = clash (cc)
        go true p false q f = rw (e, p, q)
        go false p y q f = rw (e, p)

    pub answered : is_text a s ≡ true → in_range (clock_in s) && is_given g ≡ true → runs_at a g s ≡ full (pick (runs_on (clock_in s) g) (second (second_of (clock_in s))) idle)
    unfolding read_clock on_day
    answered e f = rw (e, both_left (in_range (clock_in s)) (is_given g) f, both_right (in_range (clock_in s)) (is_given g) f)

-- THE SECOND is the time plus the offset, below 0 and past 86,399 as it is
pub second_absent : (c : Clock) → c.offset ≡ Absent → second_of c ≡ pos (seconds_in c.time)
unfolding second_of
second_absent c e =
    let z : seconds_in c.time + 0 ≡ seconds_in c.time = omega arith in
    rw (e, z)

module _ (c : Clock) (t : Time) where
  pub second_later : c.offset ≡ Later t → second_of c ≡ pos (seconds_in c.time + seconds_in t)
  unfolding second_of
  second_later e = rw e

  pub second_earlier : c.offset ≡ Earlier t → second_of c +ℤ pos (seconds_in t) ≡ pos (seconds_in c.time)
  unfolding second_of
  second_earlier e = rw e (-ℤ-+ℤ_cancel (pos (seconds_in c.time)) (pos (seconds_in t)))

-- of a clock in range it lies from -86,399 to 172,798
pub data Lies : ℤ → Type 0 where
  from_midnight : (n : ℕ) → n ≤ 172798 → Lies (pos n)
  before_midnight : (n : ℕ) → n ≤ 86398 → Lies (negsuc n)

time_most : (t : Time) → is_time t ≡ true → seconds_in t ≤ 86399
time_most t e = let r = time_range t e in omega (arith, r.0.0, r.0.1, r.1)

sub_lies : (m n : ℕ) → m ≤ 86399 → n ≤ 86399 → Lies (sub_ℕ m n)
sub_lies m n h l = go (ltb m n) refl
  where
    go : (t : Bool) → ltb m n ≡ t → Lies (sub_ℕ m n)
    go true e = rw e (before_midnight (n - suc m) (omega arith))
    go false e = rw e (from_midnight (m - n) (omega arith))

less_lies : (m n : ℕ) → m ≤ 86399 → n ≤ 86399 → Lies (pos m +ℤ neg_ℤ (pos n))
less_lies m zero h l = from_midnight (m + 0) (omega arith)
less_lies m (suc n) h l = sub_lies m (suc n) h l

pub second_lies : (c : Clock) → in_range c ≡ true → Lies (second_of c)
unfolding second_of
second_lies c e = let r = in_ranges c e in go c.offset r.offset (time_most c.time r.time)
  where
    go : (o : Offset) → is_offset o ≡ true → seconds_in c.time ≤ 86399 → Lies (pos (seconds_in c.time) +ℤ shift o)
    go Absent f h = from_midnight (seconds_in c.time + 0) (omega arith)
    go (Later t) f h = from_midnight (seconds_in c.time + seconds_in t) (omega (arith, time_most t f))
    go (Earlier t) f h = less_lies (seconds_in c.time) (seconds_in t) h (time_most t (both_left (is_time t) (not (is_none t)) f))
