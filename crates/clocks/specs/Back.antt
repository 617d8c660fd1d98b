-- "Write clocks back too, and get the same text": both round trips.
use Rattle.std.specs.Prelude.{ℕ, Result, Ok, ◌<◌, ◌≤◌, ◌≡◌, refl, Bool, List, ◌++◌, length, drop}
use Rattle.std.proofs.Common.{sym, ap}
use Rattle.refusal.specs.Answer.{full, demand_elim, full_one}
use Rattle.refusal.specs.declared.Refusal.{Refusal}
use Rattle.frame.specs.Written.{Written, written_whole}
use Rattle.clock_text.specs.declared.Clock.{Clock}
use Rattle.clock_text.specs.Clock.{in_range, read_clock, text_of}
use Rattle.clock_write.specs.Writing.{write_clock}
use Rattle.clocks.specs.Read.{is_astronomical, IsClock, read_exactly}

-- a text that was read is the one that is written
pub read_write : (a : Bool) (s : List ℕ) (c : Clock) → read_clock a s ≡ full c → write_clock c ≡ full s
unfolding write_clock
read_write a s c e = go ((read_exactly a s c).0 e)
  where
    go : IsClock c × (s ≡ text_of c) × (is_astronomical c ≡ a) → write_clock c ≡ full s
    go (h, f, k) = rw h.ranges (ap full (sym f))

-- into a buffer that is long enough, and what lies behind the text stays
pub written_back : (a : Bool) (s : List ℕ) (c : Clock) {out p : List ℕ} {r : Result ℕ Refusal} → read_clock a s ≡ full c → Written (write_clock c) out r p → length s ≤ length out
    → (r ≡ Ok (length s)) × (p ≡ s ++ drop (length s) out)
written_back a s c e w h = written_whole (rw (read_write a s c e) at w) h

-- a text that was written reads as the clock, whose weekdays are a byte
pub write_read : (c : Clock) (s : List ℕ) → c.weekdays < 256 → write_clock c ≡ full s → read_clock (is_astronomical c) s ≡ full c
unfolding write_clock
write_read c s h = demand_elim (in_range c) 22 (λ r e. (read_exactly (is_astronomical c) s c).1 (record { ranges = r; byte = h }, sym (full_one e), refl))
