-- The definitions of a capture, told by what the code has found: its front, what stands at a place, and what is answered.
use Rattle.std.specs.Prelude.{Option, Some, None, ok_or, ℕ, min, ◌+◌, ◌-◌, ◌≤◌, ◌<◌, ◌≡◌, not, drop, leb, eqb}
use Rattle.std.proofs.Math.Path.{refl, sym, ap}
use Rattle.std.proofs.Common.{◌∙◌, length-drop, drop-drop, drop_at, length-take-le}
use Rattle.std.proofs.Math.Bool.{true, false}
use mathlib.Core.List.{List, [], ◌++◌}
use Rattle.std.proofs.Math.ListN.{length, take}
use Rattle.std.proofs.lemmas.List.{take_min}
use Rattle.std.proofs.Math.Seq.{take-take, take-add}
use borrow.Author.Tests.{le-leb, lt-leb, leb-true, eq-eqb, ne_eqb}
use native.Mathlib.Omega.{arith}
use Rattle.refusal.specs.Test.{clash}
use Rattle.refusal.specs.declared.Refusal.TheVariants.{BadRecord}
use Rattle.refusal.specs.Answer.{Answer, refused, full, demand_elim, full_one, said_of}
use Rattle.frame.specs.Frame.{byte}
use Rattle.event.specs.declared.Layout.{Layout}
use Rattle.event.specs.Layout.{width_of}
use Rattle.event.specs.Reading.{said_event}
use Rattle.record.specs.declared.Stored.{Stored}
use Rattle.record.specs.Record.{Entry, record_size, record_at, Stood, stood_at, standing, said_stored, said_standing}
use Rattle.record.specs.Found.{holds}
use Rattle.summary.specs.Summary.{not_before}
use Rattle.capture.specs.declared.Mark.{Mark}
use Rattle.capture.specs.declared.Kept.{Kept}
use Rattle.capture.specs.Capture.{is_version, layout_by, version_in, with_claim, front_of, in_time, next_at, walked, start, opened_all, opened}
use Rattle.capture.specs.Capture.{counted_by, counted, prefixed, first_records, kept, entry_in, entry_at, step_at, part_of, start_of, datagram_at, datagram_start}

-- THE FRONT
module _ (b : List ℕ) (u : ℕ) where
  pub version_none : length b < 1 → refused 15 ≡ version_in b u
  unfolding version_in
  version_none h = rw (lt-leb 1 (length b) h)

  pub version_unused : 1 ≤ length b → u < 1 → refused 15 ≡ version_in b u
  unfolding version_in
  version_unused h k = rw (le-leb 1 (length b) h, lt-leb 1 u k)

  pub version_unknown : 1 ≤ length b → 1 ≤ u → is_version (byte 0 b) ≡ false → refused 14 ≡ version_in b u
  unfolding version_in
  version_unknown h k e = rw (le-leb 1 (length b) h, le-leb 1 u k, e)

  pub version_known : (l : Layout) → 1 ≤ length b → 1 ≤ u → is_version (byte 0 b) ≡ true → l ≡ layout_by (byte 0 b) → full l ≡ version_in b u
  unfolding version_in
  version_known l h k e f = rw (le-leb 1 (length b) h, le-leb 1 u k, e, f)

  pub version_there : (l : Layout) → version_in b u ≡ full l → (1 ≤ length b) × (1 ≤ u) × (is_version (byte 0 b) ≡ true) × (layout_by (byte 0 b) ≡ l)
  unfolding version_in
  version_there l =
      demand_elim (leb 1 (length b)) 15
      (λ h. demand_elim (leb 1 u) 15
      (λ k. demand_elim (is_version (byte 0 b)) 14
      (λ e f. (leb-true 1 (length b) h, leb-true 1 u k, e, full_one f))))

  pub front_refused : (k : ℕ) → version_in b u ≡ refused k → refused k ≡ front_of b u
  front_refused k e = rw e

  pub front_claim : (l : Layout) → version_in b u ≡ full l → length b < u → refused 15 ≡ front_of b u
  front_claim l e h = rw (e, lt-leb u (length b) h)

  pub front_full : (l : Layout) → version_in b u ≡ full l → u ≤ length b → full l ≡ front_of b u
  front_full l e h = rw (e, le-leb u (length b) h)

  pub front_there : (l : Layout) → front_of b u ≡ full l → (version_in b u ≡ full l) × (u ≤ length b)
  front_there l e = go (version_in b u) refl e
    where
      go : (a : Answer Layout) → version_in b u ≡ a → with_claim a b u ≡ full l → (version_in b u ≡ full l) × (u ≤ length b)
      go (refused k) q x = clash (cc)
      go (full j) q x = demand_elim (leb u (length b)) 15 (λ h f. (q ∙ ap full (full_one f), leb-true u (length b) h)) x

  -- so many bytes are in use, and one of them at least
  pub front_used : (l : Layout) → front_of b u ≡ full l → (1 ≤ u) × (u ≤ length b) × (length (take u b) ≡ u)
  front_used l e =
      let f = front_there l e in
      let v = version_there l f.0 in
      (v.1, f.1, length-take-le u b f.1)

-- WHAT STANDS AT A PLACE, by what the code has found there
pub record Stands (a : Answer Entry) (at : ℕ) (x : Stored) : Type 0 where
  pub entry : Entry
  pub is : a ≡ full entry
  pub time : x.seconds ≡ entry.seconds
  pub says : said_event x.event ≡ entry.event
  pub next : x.next ≡ at + record_size entry.datagram

pub stands : (a : Answer Entry) (at : ℕ) (x : Stored) → full (said_stored x) ≡ standing at a → Stands a at x
stands (refused k) at x e = clash (cc)
stands (full r) at x e =
    let f : said_stored x ≡ stood_at at r = full_one e in
    record { entry = r; is = refl; time = ap (λ (s : Stood). s.seconds) f; says = ap (λ (s : Stood). s.event) f; next = ap (λ (s : Stood). s.next) f }

pub stands_bad : (a : Answer Entry) (at k : ℕ) → refused k ≡ standing at a → a ≡ refused k
stands_bad (refused j) at k e = let z : j ≡ k = cc in ap refused z
stands_bad (full r) at k e = clash (cc)

-- a record that comes next, or does not
module _ (w at : ℕ) (last : Option ℕ) (s : List ℕ) where
  pub follow_bad : (k : ℕ) → refused k ≡ standing at (record_at w s) → refused k ≡ standing at (next_at w last s)
  unfolding next_at
  follow_bad k e = go (record_at w s) e
    where
      go : (a : Answer Entry) → refused k ≡ standing at a → refused k ≡ standing at (in_time last a)
      go (refused j) q = q
      go (full r) q = clash (cc)

  pub follow_good : (x : Stored) → full (said_stored x) ≡ standing at (record_at w s) → not_before last x.seconds ≡ true
      → full (said_stored x) ≡ standing at (next_at w last s)
  unfolding next_at
  follow_good x e h =
      let z = stands (record_at w s) at x e in
      let t : not_before last z.entry.seconds ≡ true = rw z.time at h in
      e ∙ rw (z.is, t)

  pub follow_late : (x : Stored) → full (said_stored x) ≡ standing at (record_at w s) → not_before last x.seconds ≡ false
      → refused 15 ≡ standing at (next_at w last s)
  unfolding next_at
  follow_late x e h =
      let z = stands (record_at w s) at x e in
      let t : not_before last z.entry.seconds ≡ false = rw z.time at h in
      rw (z.is, t)

-- OPENING, COUNTING, THE PREFIX, by the front
module _ (b : List ℕ) (u : ℕ) where
  pub opened_refused : (k : ℕ) → front_of b u ≡ refused k → refused k ≡ opened b u
  unfolding opened
  opened_refused k e = rw e

  pub opened_by : (l : Layout) → front_of b u ≡ full l → opened b u ≡ opened_all (width_of l) (take u b)
  unfolding opened
  opened_by l e = rw e

  pub opened_short : (l : Layout) (m : Mark) → front_of b u ≡ full l → m ≡ walked (width_of l) (take u b) start → m.used < u → refused 15 ≡ opened b u
  unfolding opened_all
  opened_short l m e f h =
      let n = (front_used b u l e).2 in
      let g : (walked (width_of l) (take u b) start).used < length (take u b) = omega (arith, n, h, ap (λ (m : Mark). m.used) f) in
      sym (opened_by l e ∙ rw (lt-leb (length (take u b)) (walked (width_of l) (take u b) start).used g))

  pub opened_open : (l : Layout) (m : Mark) → front_of b u ≡ full l → m ≡ walked (width_of l) (take u b) start → u ≤ m.used → full m ≡ opened b u
  unfolding opened_all
  opened_open l m e f h =
      let n = (front_used b u l e).2 in
      let g : length (take u b) ≤ (walked (width_of l) (take u b) start).used = omega (arith, n, h, ap (λ (m : Mark). m.used) f) in
      sym (opened_by l e ∙ rw (le-leb (length (take u b)) (walked (width_of l) (take u b) start).used g, f))

  pub counted_refused : (k : ℕ) → front_of b u ≡ refused k → counted b u ≡ refused k
  unfolding counted
  counted_refused k e = rw e

  pub counted_by_lem : (l : Layout) → front_of b u ≡ full l → counted b u ≡ counted_by (full l) b u
  unfolding counted
  counted_by_lem l e = rw e

  pub prefixed_refused : (k : ℕ) → version_in b u ≡ refused k → prefixed b u ≡ refused k
  unfolding prefixed
  prefixed_refused k e = rw e

  pub prefixed_by : (l : Layout) → version_in b u ≡ full l → prefixed b u ≡ full (kept (first_records (width_of l) (take u b)))
  unfolding prefixed
  prefixed_by l e = rw e

  -- bytes claimed beyond the end count as not there
  pub prefix_there : (l : Layout) (k : Kept) → version_in b u ≡ full l → k ≡ kept (first_records (width_of l) (take (min u (length b)) b)) → full k ≡ prefixed b u
  prefix_there l k e f = sym (prefixed_by l e ∙ ap (λ (s : List ℕ). full (kept (first_records (width_of l) s))) (sym (take_min u b)) ∙ ap full (sym f))

-- A STEP, by the front
module _ (b : List ℕ) (u p : ℕ) where
  pub step_refused : (k : ℕ) → front_of b u ≡ refused k → refused k ≡ step_at b u p
  unfolding entry_at
  step_refused k e = rw e

  pub step_end : (l : Layout) → front_of b u ≡ full l → p ≡ u → refused 12 ≡ step_at b u p
  unfolding entry_at
  step_end l e h = rw (e, eq-eqb p u h)

  pub step_zero : (l : Layout) → front_of b u ≡ full l → (p ≡ u → ⊥) → p < 1 → refused 15 ≡ step_at b u p
  unfolding entry_at
  step_zero l e h k = rw (e, ne_eqb p u h, lt-leb 1 p k)

  pub step_at_lem : (l : Layout) → front_of b u ≡ full l → (p ≡ u → ⊥) → 1 ≤ p → standing p (record_at (width_of l) (drop p (take u b))) ≡ step_at b u p
  unfolding entry_at
  step_at_lem l e h k = rw (e, ne_eqb p u h, le-leb 1 p k)

  -- what is answered of what stands there, none being 15
  pub said_or : (o : Option Stored) → said_of said_stored (ok_or o BadRecord) ≡ said_standing o
  said_or (Some x) = refl
  said_or None = refl

  -- the record of a step is a record of the bytes in use
  pub entry_there : (r : Entry) → entry_at b u p ≡ full r
      → (p + record_size r.datagram ≤ length b) × (take (length r.datagram) (drop (p + 6) b) ≡ r.datagram)
  unfolding entry_at
  entry_there r e = go (front_of b u) refl e
    where
      inner : (i n : ℕ) → i + n ≤ u → u ≤ length b → take n (drop i (take u b)) ≡ take n (drop i b)
      inner i n h k =
          let q : i + (u - i) ≡ u = omega arith in
          let f : take u b ≡ take i b ++ take (u - i) (drop i b) = sym (ap (λ (m : ℕ). take m b) q) ∙ take-add i (u - i) b in
          ap (λ (l : List ℕ). take n (drop i l)) f
          ∙ ap (take n) (drop_at (take i b) (take (u - i) (drop i b)) i (length-take-le i b (omega arith)))
          ∙ take-take n (u - i) (drop i b) (omega arith)

      go : (a : Answer Layout) → front_of b u ≡ a → entry_in a b u p ≡ full r
          → (p + record_size r.datagram ≤ length b) × (take (length r.datagram) (drop (p + 6) b) ≡ r.datagram)
      go (refused k) q x = clash (cc)
      go (full l) q x =
          let f = front_used b u l q in
          demand_elim (not (eqb p u)) 12
          (λ h₁₂. demand_elim (leb 1 p) 15
          (λ h₁₅ y.
          let t = holds (width_of l) (drop p (take u b)) r y in
          let room : p + record_size r.datagram ≤ u = omega (arith, t.fits, length-drop p (take u b), f) in (
            omega arith,
            sym (inner (p + 6) (length r.datagram) (omega arith) f.1)
                ∙ ap (take (length r.datagram)) (sym (drop-drop 6 p (take u b)))
                ∙ sym t.part,
          )))
          x

  -- its datagram is that part of the buffer
  pub part_there : (x : Stored) → full (said_stored x) ≡ step_at b u p
      → (p + 6 ≤ x.next) × (x.next ≤ length b) × (take (x.next - (p + 6)) (drop (p + 6) b) ≡ datagram_at b u p) × (datagram_start b u p ≡ p + 6)
  part_there x e =
      let z = stands (entry_at b u p) p x e in
      let r : Entry = z.entry in
      let f = entry_there r z.is in
      let n : x.next - (p + 6) ≡ length r.datagram = omega (arith, z.next) in (
        omega (arith, z.next),
        omega (arith, z.next, f.0),
        ap (λ (m : ℕ). take m (drop (p + 6) b)) n ∙ f.1 ∙ sym (ap part_of z.is),
        ap (λ (a : Answer Entry). start_of a p) z.is,
      )

  pub part_none : (k : ℕ) → refused k ≡ step_at b u p → (datagram_at b u p ≡ []) × (datagram_start b u p ≡ 0)
  part_none k e =
      let q = stands_bad (entry_at b u p) p k e in
      (ap part_of q, ap (λ (a : Answer Entry). start_of a p) q)
