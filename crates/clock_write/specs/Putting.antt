-- A clock's text put part by part, and what the writer then answers.
use Rattle.std.specs.Prelude.{ℕ, Ok, Err, ◌+◌, ◌≤◌, ◌<◌, ◌≡◌, refl, Bool, true, List, [], ◌∷◌, ◌++◌}
use Rattle.std.proofs.Common.{sym, ◌∙◌, arith}
use Rattle.std.proofs.Math.Bool.{false}
use Rattle.std.proofs.Math.ListN.{length, length-append}
use Rattle.std.proofs.Math.Dec.{leb}
use borrow.Author.Tests.{lt-leb}
use Rattle.lent.specs.Puts.{Puts, fits, over_none}
use Rattle.lent.specs.Over.{puts_room, puts_length, puts_then}
use Rattle.frame.specs.Written.{Written, refuses, passes, put_written}
use Rattle.refusal.specs.declared.Refusal.TheVariants.{NoRoom, OutOfRange}
use Rattle.clock_text.specs.declared.Time.{Time}
use Rattle.clock_text.specs.declared.Clock.{Clock}
use Rattle.clock_text.specs.declared.Offset.{Offset}
use Rattle.clock_text.specs.declared.Offset.TheVariants.{Absent, Later, Earlier}
use Rattle.clock_text.specs.Clock.{in_range, time_text, days_text, date_text, offset_text, text_of}
use Rattle.clock_write.specs.Writing.{write_clock}

-- OFFSETS. None is put by putting nothing, and another by its front and its time
pub puts_nothing : (out : List ℕ) (at : ℕ) → Puts [] out at at out
puts_nothing out at = go (fits [] out at) refl
  where
    zero_more : at ≡ at + 0
    zero_more = omega arith

    go : (x : Bool) → fits [] out at ≡ x → Puts [] out at at out
    go true e = record { says = rw e zero_more; leaves = rw e (sym (over_none out at)) }
    go false e = record { says = rw e; leaves = rw e }

pub puts_absent : {o : Offset} {out : List ℕ} {at : ℕ} → o ≡ Absent → Puts (offset_text o) out at at out
puts_absent {out = out} {at = at} e = rw e (puts_nothing out at)

pub puts_later : {o : Offset} (t : Time) {out p q : List ℕ} {at m r : ℕ} → o ≡ Later t → at + length (offset_text o) ≤ length out
    → Puts (32 ∷ []) out at m p → Puts (time_text t) p m r q → Puts (offset_text o) out at r q
puts_later t {out = out} {at = at} e h a b =
    let f : at + 9 ≤ length out = rw e at h in
    rw e (puts_then {t = 32 ∷ []} {u = time_text t} (omega arith) a b)

pub puts_earlier : {o : Offset} (t : Time) {out p q : List ℕ} {at m r : ℕ} → o ≡ Earlier t → at + length (offset_text o) ≤ length out
    → Puts (32 ∷ 45 ∷ []) out at m p → Puts (time_text t) p m r q → Puts (offset_text o) out at r q
puts_earlier t {out = out} {at = at} e h a b =
    let f : at + 10 ≤ length out = rw e at h in
    rw e (puts_then {t = 32 ∷ 45 ∷ []} {u = time_text t} (omega arith) a b)

-- THE TEXT. It has 20 bytes and those of its offset
pub text_length : (c : Clock) → length (text_of c) ≡ 20 + length (offset_text c.offset)
unfolding text_of
text_length c = omega arith

pub offset_most : (o : Offset) → length (offset_text o) ≤ 10
offset_most Absent = omega arith
offset_most (Later t) = omega arith
offset_most (Earlier t) = omega arith

module _ (c : Clock) (out : List ℕ) where
  pub out_of_range_lem : in_range c ≡ false → Written (write_clock c) out (Err OutOfRange) out
  unfolding write_clock
  out_of_range_lem e = refuses out (rw e)

  pub no_room : in_range c ≡ true → length out < 20 + length (offset_text c.offset) → Written (write_clock c) out (Err NoRoom) out
  unfolding write_clock
  no_room e h =
      let t : leb (length (text_of c)) (length out) ≡ false = lt-leb (length (text_of c)) (length out) (omega (arith, text_length c)) in
      record { says = rw (e, t); leaves = rw (e, t) }

  -- the parts in front of the offset
  module _ {p q r : List ℕ} {i j k : ℕ} (h : 20 + length (offset_text c.offset) ≤ length out)
      (a : Puts (time_text c.time) out 0 i p) (b : Puts (days_text c.weekdays) p i j q) (d : Puts (date_text c) q j k r) where
    pub placed : (k ≡ 20) × (length r ≡ length out)
    placed =
        let x = puts_room {t = time_text c.time} {out = out} {at = 0} (omega arith) a in
        let y = puts_room {t = days_text c.weekdays} {out = p} {at = i} (omega (arith, x.0, puts_length a)) b in
        let z = puts_room {t = date_text c} {out = q} {at = j} (omega (arith, x.0, y.0, puts_length a, puts_length b)) d in
        (omega (arith, x.0, y.0, z.0), puts_length d ∙ puts_length b ∙ puts_length a)

    pub has_room : k + length (offset_text c.offset) ≤ length r
    has_room = omega (arith, placed.0, placed.1)

    pub written : {s : List ℕ} {e : ℕ} → in_range c ≡ true → Puts (offset_text c.offset) r k e s → Written (write_clock c) out (Ok e) s
    unfolding write_clock text_of
    written {s} {e} f o =
        let x = puts_room {t = time_text c.time} {out = out} {at = 0} (omega arith) a in
        let y = puts_room {t = days_text c.weekdays} {out = p} {at = i} (omega (arith, x.0, puts_length a)) b in
        let m : j + length (date_text c) + length (offset_text c.offset) ≤ length q = omega (arith, x.0, y.0, puts_length a, puts_length b) in
        let behind = puts_then {t = date_text c} {u = offset_text c.offset} m d o in
        let n : i + length (days_text c.weekdays) + length (date_text c ++ offset_text c.offset) ≤ length p =
        omega (arith, x.0, puts_length a, length-append (date_text c) (offset_text c.offset)) in
        let days = puts_then {t = days_text c.weekdays} n b behind in
        let l : 0 + length (time_text c.time) + length (days_text c.weekdays ++ date_text c ++ offset_text c.offset) ≤ length out =
        omega (arith, length-append (date_text c) (offset_text c.offset)) in
        let whole = puts_then {t = time_text c.time} l a days in
        passes (rw f) (put_written (omega (arith, text_length c)) whole)
