-- A walk on its way: the records that it passed, and those that are left.
use Rattle.std.specs.Prelude.{Option, Some, None, ℕ, ◌+◌, ◌≤◌, ◌<◌, ◌≡◌, List, [], ◌∷◌, ◌++◌, length, drop, ltb, Bool, true, false}
use Rattle.std.proofs.Math.Path.{refl, ap}
use Rattle.std.proofs.Common.{sym, ◌∙◌, append_assoc, append-nil, length-append, length-drop, drop-drop, ltb-true, ltb-false, arith}
use Rattle.refusal.specs.Answer.{Answer, refused, full, full_one}
use Rattle.refusal.specs.Test.{clash}
use Rattle.record.specs.Record.{Entry, record_size}
use Rattle.summary.specs.declared.Summary.{Summary}
use Rattle.summary.specs.Summary.{last_from, counted_in, most, type_of, one_more}
use Rattle.summary.specs.OneMore.{one_more_lem, no_more, last_snoc}
use Rattle.capture.specs.Capture.{next_at, records_from, sizes_of, walked, records_in, at_most, first_records, kept}
use Rattle.capture.specs.Walk.{next_fits, records_next, records_end, sizes_append, at_most_all, at_most_front}
use Rattle.event_type.specs.Types.{kind_number, type_number}
use Rattle.event.specs.Reading.{Told}
use Rattle.record.specs.declared.Stored.{Stored}
use Rattle.capture.specs.Says.{Stands}

-- from place a and seconds l on, the walk over s is at a place behind a record of these seconds
pub record Reached (w : ℕ) (s : List ℕ) (a : ℕ) (l : Option ℕ) (at : ℕ) (last : Option ℕ) : Type 0 where
  pub done : List Entry
  pub left : records_from w l (drop a s) ≡ done ++ records_from w last (drop at s)
  pub place : at ≡ a + sizes_of done
  pub time : last ≡ last_from l done
  pub room : at ≤ length s

module _ {w : ℕ} {s : List ℕ} {a : ℕ} {l : Option ℕ} where
  pub reached_starts : a ≤ length s → Reached w s a l a l
  reached_starts h = record { done = []; left = refl; place = omega arith; time = refl; room = h }

  pub reached_next : {at : ℕ} {last : Option ℕ} → Reached w s a l at last → (r : Entry) → next_at w last (drop at s) ≡ full r
      → Reached w s a l (at + record_size r.datagram) (Some r.seconds)
  reached_next {at} {last} p r e =
      let f = next_fits w last (drop at s) r e in
      let n : ℕ = record_size r.datagram in
      record {
        done = p.done ++ (r ∷ []);
        left =
            p.left
            ∙ ap (λ (x : List Entry). p.done ++ x) (records_next w last (drop at s) r e)
            ∙ sym (append_assoc p.done (r ∷ []) (records_from w (Some r.seconds) (drop n (drop at s))))
            ∙ ap (λ (x : List ℕ). (p.done ++ (r ∷ [])) ++ records_from w (Some r.seconds) x) (drop-drop n at s);
        place = omega (arith, p.place, sizes_append p.done (r ∷ []));
        time = sym (last_snoc l p.done r);
        room = omega (arith, length-drop at s, p.room);
      }

  -- where no record is left, what was walked is all
  pub reached_all : {at : ℕ} {last : Option ℕ} (p : Reached w s a l at last) → records_from w last (drop at s) ≡ [] → records_from w l (drop a s) ≡ p.done
  reached_all {at} {last} p e = p.left ∙ ap (λ (x : List Entry). p.done ++ x) e ∙ append-nil p.done

  pub reached_stops : {at : ℕ} {last : Option ℕ} → Reached w s a l at last → records_from w last (drop at s) ≡ []
      → record { used = at; last = last } ≡ walked w s (record { used = a; last = l })
  reached_stops {at} {last} p e =
      let q = reached_all p e in
      let u : at ≡ a + sizes_of (records_from w l (drop a s)) = rw q p.place in
      let t : last ≡ last_from l (records_from w l (drop a s)) = rw q p.time in
      λ i. record { used = u i; last = t i }

pub reached_end : (w : ℕ) (s : List ℕ) (at : ℕ) (last : Option ℕ) → length s ≤ at → records_from w last (drop at s) ≡ []
reached_end w s at last h = records_end w last (drop at s) (omega (arith, length-drop at s))

-- a walk that counts, from behind the version byte
pub record Tallied (w : ℕ) (s : List ℕ) (at : ℕ) (x : Summary) : Type 0 where
  pub done : List Entry
  pub left : records_in w s ≡ done ++ records_from w x.last (drop at s)
  pub place : at ≡ 1 + sizes_of done
  pub room : at ≤ length s
  pub sum : x ≡ counted_in done
  pub few : length done ≤ most

module _ {w : ℕ} {s : List ℕ} where
  pub way : {at : ℕ} {x : Summary} → Tallied w s at x → Reached w s 1 None at x.last
  way p = record { done = p.done; left = p.left; place = p.place; time = ap (λ (x : Summary). x.last) p.sum; room = p.room }

  pub tallied_starts : {x : Summary} → 1 ≤ length s → x ≡ counted_in [] → Tallied w s 1 x
  tallied_starts {x} h e =
      record {
        done = [];
        left = ap (λ (l : Option ℕ). records_from w l (drop 1 s)) (ap (λ (x : Summary). None) e ∙ sym (ap (λ (x : Summary). x.last) e));
        place = refl;
        room = h;
        sum = e;
        few = omega arith;
      }

  -- one more record, counted or not
  pub tallied_next : {at : ℕ} {x : Summary} → Tallied w s at x → (r : Entry) → next_at w x.last (drop at s) ≡ full r → (y : Summary)
      → one_more x r.seconds (type_of r) ≡ full y → Tallied w s (at + record_size r.datagram) y
  unfolding reached_next way
  tallied_next {at} {x} p r e y q = go (ltb (length p.done) most) refl
    where
      more : one_more (counted_in p.done) r.seconds (type_of r) ≡ full y
      more = ap (λ (x : Summary). one_more x r.seconds (type_of r)) (sym p.sum) ∙ q

      go : (t : Bool) → ltb (length p.done) most ≡ t → Tallied w s (at + record_size r.datagram) y
      go false h = clash (let z = no_more p.done r (ltb-false (length p.done) most h) in cc)
      go true h =
          let few = ltb-true (length p.done) most h in
          let z = reached_next (way p) r e in
          let f : counted_in (p.done ++ (r ∷ [])) ≡ y = full_one (sym (one_more_lem p.done r few) ∙ more) in
          let t : Some r.seconds ≡ y.last = sym (last_snoc None p.done r) ∙ ap (λ (x : Summary). x.last) f in
          record {
            done = p.done ++ (r ∷ []);
            left = z.left ∙ ap (λ (l : Option ℕ). (p.done ++ (r ∷ [])) ++ records_from w l (drop (at + record_size r.datagram) s)) t;
            place = z.place;
            room = z.room;
            sum = sym f;
            few = omega (arith, few, length-append p.done (r ∷ []));
          }

  pub tallied_full : {at : ℕ} {x : Summary} (p : Tallied w s at x) (r : Entry) (k : ℕ)
      → one_more x r.seconds (type_of r) ≡ refused k → most ≤ length p.done
  tallied_full {at} {x} p r k q = go (ltb (length p.done) most) refl
    where
      more : one_more (counted_in p.done) r.seconds (type_of r) ≡ refused k
      more = ap (λ (x : Summary). one_more x r.seconds (type_of r)) (sym p.sum) ∙ q

      go : (t : Bool) → ltb (length p.done) most ≡ t → most ≤ length p.done
      go false h = ltb-false (length p.done) most h
      go true h = clash (let z = one_more_lem p.done r (ltb-true (length p.done) most h) in cc)

  -- what was counted is what is kept
  kept_done : {at : ℕ} {x : Summary} (p : Tallied w s at x) → first_records w s ≡ p.done
      → record { mark = record { used = at; last = x.last }; summary = x } ≡ kept (first_records w s)
  kept_done {at} {x} p e =
      let u : at ≡ 1 + sizes_of (first_records w s) = p.place ∙ ap (λ (l : List Entry). 1 + sizes_of l) (sym e) in
      let t : x ≡ counted_in (first_records w s) = p.sum ∙ ap counted_in (sym e) in
      λ i. record { mark = record { used = u i; last = (t i).last }; summary = t i }

  pub tallied_stops : {at : ℕ} {x : Summary} → Tallied w s at x → records_from w x.last (drop at s) ≡ []
      → record { mark = record { used = at; last = x.last }; summary = x } ≡ kept (first_records w s)
  unfolding way
  tallied_stops p e = kept_done p (ap (at_most most) (reached_all (way p) e) ∙ at_most_all most p.done p.few)

  pub tallied_most : {at : ℕ} {x : Summary} (p : Tallied w s at x) → most ≤ length p.done
      → record { mark = record { used = at; last = x.last }; summary = x } ≡ kept (first_records w s)
  tallied_most {at} {x} p h =
      kept_done p
      (ap (at_most most) p.left ∙ at_most_front most p.done (records_from w x.last (drop at s)) (omega (arith, p.few)))

-- what is counted, by what the code has found
more_by : {e : Answer Entry} {at : ℕ} {y : Stored} (z : Stands e at y) (x : Summary) (a : Answer Summary)
    → one_more x y.seconds (type_number y.event.kind) ≡ a → one_more x z.entry.seconds (type_of z.entry) ≡ a
more_by {e} {at} {y} z x a q =
    let k : type_number y.event.kind ≡ type_of z.entry = ap (λ (t : Told). kind_number t.kind) z.says in
    ap (λ (t : ℕ). one_more x t (type_of z.entry)) (sym z.time) ∙ ap (one_more x y.seconds) (sym k) ∙ q

-- what the code has found at the place that was reached, and what it makes of it
module _ {w : ℕ} {s : List ℕ} where
  pub reached_step : {a at : ℕ} {l last : Option ℕ} {x : Stored} → Reached w s a l at last → Stands (next_at w last (drop at s)) at x
      → Reached w s a l x.next (Some x.seconds)
  reached_step {a} {at} {l} {last} {x} p z = rw (z.next, z.time) (reached_next p z.entry z.is)

  -- it lies behind the place, and is there
  pub step_room : {a at : ℕ} {l last : Option ℕ} {x : Stored} → Reached w s a l at last → Stands (next_at w last (drop at s)) at x
      → (at < x.next) × (x.next ≤ length s)
  step_room {a} {at} {l} {last} {x} p z =
      let f = next_fits w last (drop at s) z.entry z.is in
      (omega (arith, z.next), omega (arith, z.next, f, length-drop at s, p.room))

  pub tallied_counts : {at : ℕ} {x r : Summary} {y : Stored} → Tallied w s at x → (z : Stands (next_at w x.last (drop at s)) at y)
      → full r ≡ one_more x y.seconds (type_number y.event.kind) → Tallied w s y.next r
  tallied_counts {at} {x} {r} {y} p z e = rw z.next (tallied_next p z.entry z.is r (more_by z x (full r) (sym e)))

  pub tallied_over : {at : ℕ} {x : Summary} {y : Stored} {k : ℕ} → Tallied w s at x → (z : Stands (next_at w x.last (drop at s)) at y)
      → refused k ≡ one_more x y.seconds (type_number y.event.kind)
      → record { mark = record { used = at; last = x.last }; summary = x } ≡ kept (first_records w s)
  tallied_over {at} {x} {y} {k} p z e = tallied_most p (tallied_full p z.entry k (more_by z x (refused k) (sym e)))
