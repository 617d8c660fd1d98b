-- What stands at the front of a run, told by its part and its datagram; and what a good record has.
use Rattle.std.specs.Int.{to_be_bytes, w32}
use Rattle.std.specs.Prelude.{ℕ, ◌+◌, ◌-◌, ◌/◌, ◌%◌, ◌≤◌, ◌<◌, ◌≡◌, List, [], ◌∷◌, ◌++◌, get_or, drop, leb}
use Rattle.std.proofs.Math.Path.{refl, ap}
use Rattle.std.proofs.Common.{sym, ◌∙◌, length-append, length-take, length-drop, drop-drop, get_or-drop, arith}
use Rattle.std.proofs.Math.ListN.{length, take}
use borrow.Author.Tests.{le-leb, lt-leb, leb-true}
use Rattle.refusal.specs.Test.{clash}
use Rattle.refusal.specs.Answer.{Answer, refused, full, demand_elim, full_one}
use Rattle.order.specs.Order.{high_first, number_in}
use Rattle.event.specs.Reading.{Told, read_event}
use Rattle.led.specs.Led.{length_in, part_at}
use Rattle.led.specs.Cut.{part_there}
use Rattle.lent.specs.Puts.{Puts, no_room}
use Rattle.lent.specs.Over.{puts_then}
use Rattle.order.specs.Big.{big_bytes}
use Rattle.order.specs.Native.{be_four}
use Rattle.order.specs.Numbers.{length_big}
use Rattle.record.specs.Record.{record_bytes, record_size, Entry, seconds_in, datagram_in, with_event, with_part, record_at, standing}

-- how many bytes a record takes
pub record_length : (t : ℕ) (d : List ℕ) → length (record_bytes t d) ≡ record_size d
record_length t d = simp length-append (omega (arith, length_big 2 (4 + length d), length_big 4 t))

module _ (w : ℕ) (s : List ℕ) where
  -- no part
  pub no_part : {k : ℕ} → part_at s ≡ refused k → record_at w s ≡ refused 15
  unfolding record_at
  no_part e = rw e

  -- a part, and how it goes on
  pub too_short : (n : ℕ) → part_at s ≡ full n → n < 4 → record_at w s ≡ refused 15
  unfolding record_at
  too_short n e h = rw (e, lt-leb 4 n h)

  pub with_part_lem : (n : ℕ) → part_at s ≡ full n → 4 ≤ n → record_at w s ≡ with_event (read_event w (datagram_in n s)) n s
  unfolding record_at
  with_part_lem n e h = rw (e, le-leb 4 n h)

  -- what a good record has: its length, its bytes, its seconds, its datagram, and the event that this says
  pub record Holds (r : Entry) : Type 0 where
    pub size : length_in s ≡ 4 + length r.datagram
    pub fits : record_size r.datagram ≤ length s
    pub time : r.seconds ≡ seconds_in s
    pub part : r.datagram ≡ take (length r.datagram) (drop 6 s)
    pub reads : read_event w r.datagram ≡ full r.event

  pub holds : (r : Entry) → record_at w s ≡ full r → Holds r
  unfolding record_at
  holds r e = parted (part_at s) refl e
    where
      evented : (n : ℕ) → n ≡ length_in s → 2 + n ≤ length s → 4 ≤ n → (a : Answer Told) → read_event w (datagram_in n s) ≡ a
          → with_event a n s ≡ full r → Holds r
      evented n q f h (refused k) g x = clash (cc)
      evented n q f h (full t) g x =
          let y : record { seconds = seconds_in s; datagram = datagram_in n s; event = t } ≡ r = full_one x in
          let l : length (datagram_in n s) ≡ n - 4 = simp (length-take, length-drop) (omega arith) in
          rw (← y)
          (record {
            size = omega (arith, q, l);
            fits = omega (arith, l);
            time = refl;
            part = ap (λ (m : ℕ). take m (drop 6 s)) (sym l);
            reads = g;
          })

      parted : (a : Answer ℕ) → part_at s ≡ a → with_part a w s ≡ full r → Holds r
      parted (refused k) q x = clash (cc)
      parted (full n) q x =
          let f = part_there s n q in
          demand_elim (leb 4 n) 15 (λ h. evented n f.0 f.1 (leb-true 4 n h) (read_event w (datagram_in n s)) refl) x

-- A RECORD AT A PLACE of a run: its seconds, by their four bytes
pub seconds_from : (s : List ℕ) (at x : ℕ)
    → x ≡ number_in high_first 4 (get_or s (at + 2) 0 ∷ get_or s (at + 3) 0 ∷ get_or s (at + 4) 0 ∷ get_or s (at + 5) 0 ∷ [])
    → x ≡ seconds_in (drop at s)
seconds_from s at x e = rw (get_or-drop at s 2 0, get_or-drop at s 3 0, get_or-drop at s 4 0, get_or-drop at s 5 0) e

-- its datagram, as that part of the run
pub part_from : (s : List ℕ) (at n : ℕ) → 4 ≤ n → take (at + 2 + n - (at + 6)) (drop (at + 6) s) ≡ datagram_in n (drop at s)
part_from s at n h = let e : at + 2 + n - (at + 6) ≡ n - 4 = omega arith in rw (e, drop-drop 6 at s)

-- and what stands there, by what the datagram says
module _ (w : ℕ) (s : List ℕ) (at n : ℕ) (four : 4 ≤ n) where
  said_part_lem : {a : Answer Told} → a ≡ read_event w (take (at + 2 + n - (at + 6)) (drop (at + 6) s)) → read_event w (datagram_in n (drop at s)) ≡ a
  said_part_lem r = ap (read_event w) (sym (part_from s at n four)) ∙ sym r

  pub part_bad : {k : ℕ} → refused k ≡ read_event w (take (at + 2 + n - (at + 6)) (drop (at + 6) s))
      → refused 15 ≡ standing at (with_event (read_event w (datagram_in n (drop at s))) n (drop at s))
  part_bad r = rw (said_part_lem r)

  pub part_good : (e : Told) (t : ℕ) → full e ≡ read_event w (take (at + 2 + n - (at + 6)) (drop (at + 6) s)) → at + 2 + n ≤ length s
      → t ≡ seconds_in (drop at s)
      → full (record { seconds = t; event = e; next = at + 2 + n }) ≡ standing at (with_event (read_event w (datagram_in n (drop at s))) n (drop at s))
  part_good e t r room f =
      let l : length (datagram_in n (drop at s)) ≡ n - 4 = simp (length-take, length-drop) (omega arith) in
      let u : at + 2 + n ≡ at + record_size (datagram_in n (drop at s)) = omega (arith, l) in
      rw (said_part_lem r) (ap full (λ i. record { seconds = f i; event = e; next = u i }))

-- where a record has no room, and where it is put in two steps
pub record_room : (t : ℕ) (d out : List ℕ) (at : ℕ) → length out < at + record_size d → Puts (record_bytes t d) out at at out
record_room t d out at h = no_room (record_bytes t d) out at (omega (arith, record_length t d))

pub record_put : (t : ℕ) (d out o o' s : List ℕ) (at m r : ℕ) → at + record_size d ≤ length out → s ≡ to_be_bytes w32 t
    → Puts ((4 + length d) / 256 % 256 ∷ (4 + length d) % 256 ∷ get_or s 0 0 ∷ get_or s 1 0 ∷ get_or s 2 0 ∷ get_or s 3 0 ∷ []) out at m o
    → Puts d o m r o' → Puts (record_bytes t d) out at r o'
record_put t d out o o' s at m r h e p q =
    let f : Puts (big_bytes 2 (4 + length d) ++ big_bytes 4 t) out at m o = rw (e, be_four t) at p in
    puts_then {t = big_bytes 2 (4 + length d) ++ big_bytes 4 t} {u = d} {out = out} {o = o} {o' = o'} {at = at} {m = m} {r = r} (omega arith) f q
