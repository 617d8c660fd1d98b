-- What is judged of an append, told by what the code has found.
use Rattle.std.specs.Prelude.{ℕ, Result, Ok, Err, Some, ◌+◌, ◌≤◌, ◌<◌, ◌≡◌, true, false, List, [], length, take, set, leb}
use Rattle.std.proofs.Math.Path.{refl}
use Rattle.std.proofs.Common.{sym, ap, ◌∙◌, arith}
use Rattle.std.proofs.Math.Seq.{set_split}
use borrow.Author.Tests.{le-leb, lt-leb, leb-true}
use Rattle.refusal.specs.Test.{clash}
use Rattle.refusal.specs.Refusals.{number_of}
use Rattle.refusal.specs.declared.Refusal.{Refusal}
use Rattle.refusal.specs.declared.Refusal.TheVariants.{NoRoom, UnknownVersion, EarlierTime}
use Rattle.refusal.specs.Answer.{Answer, refused, full, demand_elim, full_one, said}
use Rattle.lent.specs.Puts.{over, Puts}
use Rattle.lent.specs.Over.{puts_room}
use Rattle.event_type.specs.declared.EventType.{EventType}
use Rattle.event_type.specs.Types.{kind_number, type_number}
use Rattle.event.specs.declared.Layout.{Layout}
use Rattle.event.specs.Layout.{width_of}
use Rattle.event.specs.Reading.{Told, read_event}
use Rattle.record.specs.Record.{record_bytes, record_size}
use Rattle.record.specs.Found.{record_length}
use Rattle.summary.specs.declared.Summary.{Summary}
use Rattle.summary.specs.Summary.{not_before, one_more}
use Rattle.capture.specs.declared.Mark.{Mark}
use Rattle.capture.specs.declared.Kept.{Kept}
use Rattle.capture.specs.Capture.{is_version, front_of, walked, start, opened_all, opened_in, opened, kept}
use Rattle.capture.specs.Says.{front_there, front_used, version_there}
use Rattle.capture.specs.Tally.{in_room}
use Rattle.append.specs.declared.Appended.{Appended}
use Rattle.append.specs.Append.{emptied, Empties, room_for, on_event, on_front, verdict, verdict_at, AppendsAt, Appends}

-- WHAT IS JUDGED BEFORE THE COUNTS, whatever the summary: the type of the event, which is then counted, or the refusal
abbrev pub then_counted : Answer EventType → Summary → ℕ → Answer Summary
then_counted (full k) x t = one_more x t (type_number k)
then_counted (refused k) x t = refused k

pub record Judges (b : List ℕ) (m : Mark) (t : ℕ) (d : List ℕ) (r : Result EventType Refusal) : Type 0 where
  pub says : (x : Summary) → verdict_at b m x t d ≡ then_counted (said r) x t

module _ (room : ℕ) (m : Mark) (x : Summary) (t n k : ℕ) where
  -- what was admitted has room
  pub room_there : (y : Summary) → room_for room m x t n k ≡ full y → m.used + (6 + n) ≤ room
  unfolding room_for
  room_there y =
      demand_elim (not_before m.last t) 16
      (λ e. demand_elim (leb (m.used + (6 + n)) room) 8
      (λ h q. leb-true (m.used + (6 + n)) room h))

-- the ways that it goes
module _ (b : List ℕ) (m : Mark) (t : ℕ) (d : List ℕ) where
  pub front_refuses : (k : Refusal) → front_of b m.used ≡ refused (number_of k) → Judges b m t d (Err k)
  unfolding verdict_at
  front_refuses k e = record { says = λ x. rw e }

  pub event_refuses : (l : Layout) (k : Refusal) → front_of b m.used ≡ full l → read_event (width_of l) d ≡ refused (number_of k) → Judges b m t d (Err k)
  unfolding verdict_at
  event_refuses l k e f = record { says = λ x. rw (e, f) }

  pub late : (l : Layout) (e : Told) → front_of b m.used ≡ full l → read_event (width_of l) d ≡ full e → not_before m.last t ≡ false
      → Judges b m t d (Err EarlierTime)
  unfolding verdict_at room_for
  late l e f g h = record { says = λ x. rw (f, g, h) }

  pub no_room : (l : Layout) (e : Told) → front_of b m.used ≡ full l → read_event (width_of l) d ≡ full e → not_before m.last t ≡ true
      → leb (m.used + (6 + length d)) (length b) ≡ false → Judges b m t d (Err NoRoom)
  unfolding verdict_at room_for
  no_room l e f g h i = record { says = λ x. rw (f, g, h, i) }

  pub admitted : (l : Layout) (e : Told) (j : EventType) → front_of b m.used ≡ full l → read_event (width_of l) d ≡ full e → not_before m.last t ≡ true
      → leb (m.used + (6 + length d)) (length b) ≡ true → kind_number e.kind ≡ type_number j → Judges b m t d (Ok j)
  unfolding verdict_at room_for
  admitted l e j f g h i q = record { says = λ x. rw (f, g, h, i, q) }

module _ (b : List ℕ) (m : Mark) (x : Summary) (t : ℕ) (d : List ℕ) where
  -- a verdict that is no refusal: the layout, the event, and the room
  pub verdict_there : {P : Type 0} (y : Summary) → verdict_at b m x t d ≡ full y
      → ((l : Layout) (e : Told) → front_of b m.used ≡ full l → read_event (width_of l) d ≡ full e
      → room_for (length b) m x t (length d) (kind_number e.kind) ≡ full y → P) → P
  unfolding verdict_at
  verdict_there {P} y q some = fronted (front_of b m.used) refl q
    where
      evented : (l : Layout) → front_of b m.used ≡ full l → (a : Answer Told) → read_event (width_of l) d ≡ a → on_event a b m x t d ≡ full y → P
      evented l f (refused k) g z = clash (cc)
      evented l f (full e) g z = some l e f g z

      fronted : (a : Answer Layout) → front_of b m.used ≡ a → on_front a b m x t d ≡ full y → P
      fronted (refused k) f z = clash (cc)
      fronted (full l) f z = evented l f (read_event (width_of l) d) refl z

  pub verdict_room : (y : Summary) → verdict_at b m x t d ≡ full y → m.used + record_size d ≤ length b
  verdict_room y q = verdict_there y q (λ l e f g z. room_there (length b) m x t (length d) (kind_number e.kind) y z)

  -- the contract, the two ways that it goes
  pub at_refused : (k : Refusal) → verdict_at b m x t d ≡ refused (number_of k) → AppendsAt (verdict_at b m x t d) b m t d (Err k) b
  at_refused k e = rw e (record { says = refl; leaves = refl })

  pub at_in : (y : Summary) (r : ℕ) (b' : List ℕ) → verdict_at b m x t d ≡ full y → Puts (record_bytes t d) b m.used r b'
      → AppendsAt (verdict_at b m x t d) b m t d (Ok (record { mark = record { used = r; last = Some t }; summary = y })) b'
  at_in y r b' e p =
      let h = verdict_room y e in
      let q = puts_room (omega (arith, record_length t d)) p in
      let u : r ≡ m.used + record_size d = omega (arith, q.0, record_length t d) in
      rw e (record { says = ap full (λ i. record { mark = record { used = u i; last = Some t }; summary = y }); leaves = q.1 })

-- what is judged, and then counted
module _ (b : List ℕ) (m : Mark) (x : Summary) (t : ℕ) (d : List ℕ) where
  pub judged_refused : (k : Refusal) → Judges b m t d (Err k) → verdict_at b m x t d ≡ refused (number_of k)
  judged_refused k j = j.says x

  pub judged_counts : (k : EventType) {a : Answer Summary} → Judges b m t d (Ok k) → a ≡ one_more x t (type_number k) → verdict_at b m x t d ≡ a
  judged_counts k j e = j.says x ∙ sym e

-- BY THE LETTER. A mark that opening hands out has the bytes in use
pub opened_there : {P : Type 0} (b : List ℕ) (u : ℕ) (m : Mark) → opened b u ≡ full m
    → ((l : Layout) → front_of b u ≡ full l → opened_all (width_of l) (take u b) ≡ full m → P) → P
unfolding opened
opened_there {P} b u m q some = go (front_of b u) refl q
  where
    go : (a : Answer Layout) → front_of b u ≡ a → opened_in a b u ≡ full m → P
    go (refused k) f z = clash (cc)
    go (full l) f z = some l f z

pub opened_all_lem : (w : ℕ) (s : List ℕ) (m : Mark) → opened_all w s ≡ full m → (length s ≤ (walked w s start).used) × (walked w s start ≡ m)
unfolding opened_all
opened_all_lem w s m =
    demand_elim (leb (length s) (walked w s start).used) 15
    (λ h e. (leb-true (length s) (walked w s start).used h, full_one e))

pub opened_used : (b : List ℕ) (u : ℕ) (m : Mark) → opened b u ≡ full m → m.used ≡ u
opened_used b u m q =
    opened_there b u m q
    (λ l f z.
    let n = front_used b u l f in
    let o = opened_all_lem (width_of l) (take u b) m z in
    omega (arith, n, o.0, ap (λ (m : Mark). m.used) o.1, in_room (width_of l) (take u b) (omega (arith, n))))

-- an append by such a mark is judged as one by the letter
pub marked : (b : List ℕ) (u : ℕ) (m : Mark) (x : Summary) (t : ℕ) (d : List ℕ) → opened b u ≡ full m → verdict_at b m x t d ≡ verdict b u x t d
unfolding verdict_at verdict
marked b u m x t d q =
    opened_there b u m q
    (λ l f z.
    let e = opened_used b u m q in
    let v = version_there b u l (front_there b u l f).0 in
    rw (q, e, f, v.3))

-- the contract, the two ways that it goes; what an append by a mark answers, without the mark's last seconds
abbrev pub in_use : Result Kept Refusal → Result Appended Refusal
in_use (Ok k) = Ok (record { used = k.mark.used; summary = k.summary })
in_use (Err k) = Err k

module _ (b : List ℕ) (u : ℕ) (x : Summary) (t : ℕ) (d : List ℕ) where
  pub letter_refused : (k : Refusal) → opened b u ≡ refused (number_of k) → Appends (verdict b u x t d) b u t d (Err k) b
  unfolding verdict
  letter_refused k e = rw e (record { says = refl; leaves = refl })

  pub letter_marked : (m : Mark) (r : Result Kept Refusal) (b' : List ℕ) → opened b u ≡ full m → AppendsAt (verdict_at b m x t d) b m t d r b'
      → Appends (verdict b u x t d) b u t d (in_use r) b'
  letter_marked m r b' q p = go (verdict b u x t d) (sym (marked b u m x t d q))
    where
      e : m.used ≡ u
      e = opened_used b u m q

      turned : (v : Answer Summary) (r : Result Kept Refusal) → AppendsAt v b m t d r b' → Appends v b u t d (in_use r) b'
      turned (refused k) (Err j) a = let s = a.says in let n : number_of j ≡ k = cc in record { says = ap refused n; leaves = a.leaves }
      turned (refused k) (Ok z) a = clash (let s = a.says in cc)
      turned (full y) (Err j) a = clash (let s = a.says in cc)
      turned (full y) (Ok z) a =
          let s = full_one a.says in
          let n : z.mark.used ≡ u + record_size d = ap (λ (k : Kept). k.mark.used) s ∙ ap (λ (n : ℕ). n + record_size d) e in
          record {
            says = ap full (λ i. record { used = n i; summary = (s i).summary });
            leaves = a.leaves ∙ ap (over (record_bytes t d) b) e;
          }

      go : (v : Answer Summary) → v ≡ verdict_at b m x t d → Appends v b u t d (in_use r) b'
      go v f = turned v r (rw f p)

-- EMPTYING, the three ways that it goes
module _ (b : List ℕ) (v : ℕ) where
  pub empty_none : length b < 1 → Empties (emptied b v) b v (Err NoRoom) b
  unfolding emptied
  empty_none h = rw (lt-leb 1 (length b) h) (record { says = refl; leaves = refl })

  pub empty_unknown : 1 ≤ length b → is_version v ≡ false → Empties (emptied b v) b v (Err UnknownVersion) b
  unfolding emptied
  empty_unknown h f = rw (le-leb 1 (length b) h, f) (record { says = refl; leaves = refl })

  pub empty_well : (k : Kept) → 1 ≤ length b → is_version v ≡ true → k ≡ kept [] → Empties (emptied b v) b v (Ok k) (set b 0 v)
  unfolding emptied
  empty_well k h f e = rw (le-leb 1 (length b) h, f, e) (record { says = refl; leaves = set_split b 0 v (omega arith) })
