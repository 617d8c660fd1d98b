-- The records at the front of some bytes, one by one: what every walk over a capture uses.
use Prim.Native.Nat.{ℕ, zero, suc, ◌+◌, ◌≤◌, ◌<◌}
use Rattle.std.specs.Prelude.{Option, Some, ◌≡◌, true, List, [], ◌∷◌, ◌++◌, length, drop}
use Rattle.std.proofs.Math.Path.{refl}
use Rattle.std.proofs.Common.{sym, ap, ◌∙◌, length-drop, take_all, take_at, arith}
use Rattle.refusal.specs.Test.{clash}
use Rattle.refusal.specs.Answer.{Answer, refused, full, demand_elim, full_one}
use Rattle.record.specs.Record.{Entry, record_size, record_at}
use Rattle.record.specs.Found.{holds}
use Rattle.summary.specs.Summary.{last_from, not_before}
use Rattle.capture.specs.Capture.{in_time, next_at, records_up_to, records_from, sizes_of, at_most}

-- a record that comes next is a record, not before the one that it follows
pub next_is : (w : ℕ) (last : Option ℕ) (s : List ℕ) (r : Entry) → next_at w last s ≡ full r → (record_at w s ≡ full r) × (not_before last r.seconds ≡ true)
unfolding next_at
next_is w last s r e = go (record_at w s) refl e
  where
    go : (a : Answer Entry) → record_at w s ≡ a → in_time last a ≡ full r → (record_at w s ≡ full r) × (not_before last r.seconds ≡ true)
    go (refused k) q x = clash (cc)
    go (full t) q x = demand_elim (not_before last t.seconds) 15 (λ h y. let z : t ≡ r = full_one y in (q ∙ ap full z, rw z at h)) x

-- and one that is not before comes next
pub is_next : (w : ℕ) (last : Option ℕ) (s : List ℕ) (r : Entry) → record_at w s ≡ full r → not_before last r.seconds ≡ true → next_at w last s ≡ full r
unfolding next_at
is_next w last s r e h = rw (e, h)

pub next_fits : (w : ℕ) (last : Option ℕ) (s : List ℕ) (r : Entry) → next_at w last s ≡ full r → record_size r.datagram ≤ length s
next_fits w last s r e = (holds w s r (next_is w last s r e).0).fits

module _ (w : ℕ) where
  up_to_none : (n : ℕ) (last : Option ℕ) (s : List ℕ) (k : ℕ) → next_at w last s ≡ refused k → records_up_to w n last s ≡ []
  unfolding records_up_to
  up_to_none zero last s k e = refl
  up_to_none (suc n) last s k e = rw e

  up_to_next : (n : ℕ) (last : Option ℕ) (s : List ℕ) (r : Entry) → next_at w last s ≡ full r
      → records_up_to w (suc n) last s ≡ r ∷ records_up_to w n (Some r.seconds) (drop (record_size r.datagram) s)
  unfolding records_up_to
  up_to_next n last s r e = rw e

  -- in an empty run stands none
  pub none_empty : (last : Option ℕ) (s : List ℕ) → length s < 6 → (a : Answer Entry) → next_at w last s ≡ a → (n : ℕ) → records_up_to w n last s ≡ []
  none_empty last s h (refused k) e n = up_to_none n last s k e
  none_empty last s h (full r) e n = absurd (omega (arith, next_fits w last s r e))

  -- how many records are looked for does not matter, where they are as many as bytes
  either : (n m : ℕ) (last : Option ℕ) (s : List ℕ) (a : Answer Entry) → next_at w last s ≡ a
      → ((t : Option ℕ) (z : List ℕ) → length z < length s → records_up_to w n t z ≡ records_up_to w m t z)
      → records_up_to w (suc n) last s ≡ records_up_to w (suc m) last s
  either n m last s (refused k) e again = up_to_none (suc n) last s k e ∙ sym (up_to_none (suc m) last s k e)
  either n m last s (full r) e again =
      let f = next_fits w last s r e in
      up_to_next n last s r e
      ∙ ap (λ (l : List Entry). r ∷ l) (again (Some r.seconds) (drop (record_size r.datagram) s) (simp length-drop (omega arith)))
      ∙ sym (up_to_next m last s r e)

  enough : (n m : ℕ) (last : Option ℕ) (s : List ℕ) → length s ≤ n → length s ≤ m → records_up_to w n last s ≡ records_up_to w m last s
  enough zero zero last s hn hm = refl
  enough zero (suc m) last s hn hm =
      none_empty last s (omega arith) (next_at w last s) refl zero ∙ sym (none_empty last s (omega arith) (next_at w last s) refl (suc m))
  enough (suc n) zero last s hn hm =
      none_empty last s (omega arith) (next_at w last s) refl (suc n) ∙ sym (none_empty last s (omega arith) (next_at w last s) refl zero)
  enough (suc n) (suc m) last s hn hm = either n m last s (next_at w last s) refl (λ t z l. enough n m t z (omega arith) (omega arith))

  -- where no good record comes next there is none, and else the one that comes next is the first
  pub records_stop : (last : Option ℕ) (s : List ℕ) (k : ℕ) → next_at w last s ≡ refused k → records_from w last s ≡ []
  records_stop last s k e = up_to_none (length s) last s k e

  pub records_end : (last : Option ℕ) (s : List ℕ) → length s < 6 → records_from w last s ≡ []
  records_end last s h = none_empty last s h (next_at w last s) refl (length s)

  pub records_next : (last : Option ℕ) (s : List ℕ) (r : Entry) → next_at w last s ≡ full r
      → records_from w last s ≡ r ∷ records_from w (Some r.seconds) (drop (record_size r.datagram) s)
  records_next last [] r e = absurd (omega (arith, next_fits w last [] r e))
  records_next last (b ∷ s) r e =
      let z : List ℕ = drop (record_size r.datagram) (b ∷ s) in
      let l : length z ≤ length s = simp length-drop (omega arith) in
      up_to_next (length s) last (b ∷ s) r e
      ∙ ap (λ (l : List Entry). r ∷ l) (enough (length s) (length z) (Some r.seconds) z l (omega arith))

  -- the two ways that a walk can begin
  pub records_cases : {P : Type 0} (last : Option ℕ) (s : List ℕ)
      → ((r : Entry) → next_at w last s ≡ full r → records_from w last s ≡ r ∷ records_from w (Some r.seconds) (drop (record_size r.datagram) s) → P)
      → (records_from w last s ≡ [] → P) → P
  records_cases {P} last s some none = go (next_at w last s) refl
    where
      go : (a : Answer Entry) → next_at w last s ≡ a → P
      go (refused k) e = none (records_stop last s k e)
      go (full r) e = some r e (records_next last s r e)

-- records and their sizes and last seconds
pub sizes_append : (rs qs : List Entry) → sizes_of (rs ++ qs) ≡ sizes_of rs + sizes_of qs
sizes_append [] qs = omega arith
sizes_append (r ∷ rs) qs = omega (arith, sizes_append rs qs)

pub last_append : (t : Option ℕ) (rs qs : List Entry) → last_from t (rs ++ qs) ≡ last_from (last_from t rs) qs
last_append t [] qs = refl
last_append t (r ∷ rs) qs = last_append (Some r.seconds) rs qs

-- the first n of some records: all where they are no more, and those of a front that has so many
pub at_most_all : (n : ℕ) (rs : List Entry) → length rs ≤ n → at_most n rs ≡ rs
unfolding at_most
at_most_all n rs h = take_all n rs h

pub at_most_front : (n : ℕ) (rs qs : List Entry) → length rs ≡ n → at_most n (rs ++ qs) ≡ rs
unfolding at_most
at_most_front n rs qs h = take_at rs qs n h
