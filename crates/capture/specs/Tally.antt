-- A walk that goes on where a count ended, and what the two say of the whole.
use Rattle.std.specs.Prelude.{Option, Some, None, ℕ, zero, suc, ◌+◌, ◌≤◌, ◌<◌, ◌≡◌, Bool, true, false, List, [], ◌∷◌, ◌++◌, take, drop, leb}
use Rattle.std.proofs.Math.Path.{refl}
use Rattle.std.proofs.Common.{sym, ap, ◌∙◌, length-drop, take-append-drop, drop-drop, le-leb, leb-true, leb-false, arith}
use Rattle.std.proofs.Math.ListN.{length}
use Rattle.std.proofs.lemmas.Bool.{lt-leb}
use Rattle.refusal.specs.Answer.{refused, full}
use Rattle.record.specs.Record.{Entry, record_size}
use Rattle.summary.specs.Summary.{last_from, counted_in, most}
use Rattle.capture.specs.declared.Mark.{Mark}
use Rattle.capture.specs.declared.Kept.{Kept}
use Rattle.capture.specs.Capture.{records_from, sizes_of, behind, walked, start, records_in, counted_all, at_most, first_records, kept}
use Rattle.capture.specs.Walk.{next_fits, records_cases, sizes_append, last_append, at_most_all}

-- good records are bytes that are there
pub sizes_fit : (w : ℕ) (last : Option ℕ) (s : List ℕ) → sizes_of (records_from w last s) ≤ length s
sizes_fit w last s = go (suc (length s)) last s (omega arith)
  where
    go : (n : ℕ) (last : Option ℕ) (s : List ℕ) → length s < n → sizes_of (records_from w last s) ≤ length s
    go zero last s h = absurd (omega arith)
    go (suc n) last s h =
        records_cases w last s
        (λ r e q.
        let f = next_fits w last s r e in
        let z : List ℕ = drop (record_size r.datagram) s in
        omega (arith, ap sizes_of q, f, length-drop (record_size r.datagram) s, go n (Some r.seconds) z (simp length-drop (omega arith))))
        (λ q. omega (arith, ap sizes_of q))

pub in_room : (w : ℕ) (s : List ℕ) → 1 ≤ length s → (walked w s start).used ≤ length s
in_room w s h = omega (arith, sizes_fit w None (drop 1 s), length-drop 1 s)

-- behind the first n records stand the others
pub records_behind : (w n : ℕ) (last : Option ℕ) (s : List ℕ)
    → records_from w (last_from last (at_most n (records_from w last s))) (drop (sizes_of (at_most n (records_from w last s))) s)
    ≡ drop n (records_from w last s)
unfolding at_most
records_behind w zero last s = refl
records_behind w (suc n) last s =
    records_cases w last s
    (λ r e q.
    rw q
    (ap (records_from w (last_from (Some r.seconds) (take n (records_from w (Some r.seconds) (drop (record_size r.datagram) s)))))
    (sym (drop-drop (sizes_of (take n (records_from w (Some r.seconds) (drop (record_size r.datagram) s)))) (record_size r.datagram) s))
    ∙ records_behind w n (Some r.seconds) (drop (record_size r.datagram) s)))
    (λ q. rw q q)

-- so a walk from there ends where a walk from the start does
pub behind_append : (m : Mark) (rs qs : List Entry) → behind (behind m rs) qs ≡ behind m (rs ++ qs)
behind_append m rs qs =
    let u : m.used + sizes_of rs + sizes_of qs ≡ m.used + sizes_of (rs ++ qs) = omega (arith, sizes_append rs qs) in
    let t = sym (last_append m.last rs qs) in
    λ i. record { used = u i; last = t i }

at_most_rest : (n : ℕ) (rs : List Entry) → at_most n rs ++ drop n rs ≡ rs
unfolding at_most
at_most_rest n rs = take-append-drop n rs

pub walk_on : (w n : ℕ) (s : List ℕ) → walked w s (behind start (at_most n (records_in w s))) ≡ walked w s start
walk_on w n s =
    let rs = records_in w s in
    let a : List Entry = at_most n rs in
    ap (λ (z : List ℕ). behind (behind start a) (records_from w (last_from None a) z)) (sym (drop-drop (sizes_of a) 1 s))
    ∙ ap (behind (behind start a)) (records_behind w n None (drop 1 s))
    ∙ behind_append start a (drop n rs)
    ∙ ap (behind start) (at_most_rest n rs)

-- fewer records take fewer bytes
pub sizes_most : (n : ℕ) (rs : List Entry) → sizes_of (at_most n rs) ≤ sizes_of rs
unfolding at_most
sizes_most n rs =
    omega (arith, ap sizes_of (take-append-drop n rs), sizes_append (take n rs) (drop n rs))

pub sizes_fewer : (n : ℕ) (rs : List Entry) → n < length rs → sizes_of (at_most n rs) < sizes_of rs
unfolding at_most
sizes_fewer n [] h = absurd (omega arith)
sizes_fewer zero (r ∷ rs) h = omega arith
sizes_fewer (suc n) (r ∷ rs) h = omega (arith, sizes_fewer n rs (omega arith))

-- what was counted ends in the bytes
pub tally_room : (w : ℕ) (s : List ℕ) (k : Kept) → 1 ≤ length s → k ≡ kept (first_records w s) → k.mark.used ≤ length s
tally_room w s k one e = omega (arith, ap (λ (x : Kept). x.mark.used) e, sizes_most most (records_in w s), in_room w s one)

-- COUNTING, by what was counted and where the walk ended
module _ (w : ℕ) (s : List ℕ) (k : Kept) (m : Mark) (one : 1 ≤ length s) (tallied : k ≡ kept (first_records w s)) (ends : m ≡ walked w s k.mark) where
  end : m ≡ walked w s start
  end = ends ∙ ap (λ (x : Kept). walked w s x.mark) tallied ∙ walk_on w most s

  pub count_short : m.used < length s → refused 15 ≡ counted_all w s
  unfolding counted_all
  count_short h =
      let g : (walked w s start).used < length s = rw end at h in
      rw (lt-leb (length s) (walked w s start).used g)

  used_first : k.mark.used ≡ 1 + sizes_of (first_records w s)
  used_first = ap (λ (x : Kept). x.mark.used) tallied

  pub count_over : length s ≤ m.used → k.mark.used < length s → refused 8 ≡ counted_all w s
  unfolding counted_all
  count_over h f = go (leb (length (records_in w s)) most) refl
    where
      g : length s ≤ (walked w s start).used
      g = rw end at h

      go : (t : Bool) → leb (length (records_in w s)) most ≡ t → refused 8 ≡ counted_all w s
      go true e =
          let a = at_most_all most (records_in w s) (leb-true (length (records_in w s)) most e) in
          absurd (omega (arith, g, f, used_first, ap sizes_of a))
      go false e = rw (le-leb (length s) (walked w s start).used g, e)

  pub count_well : length s ≤ m.used → length s ≤ k.mark.used → full k.summary ≡ counted_all w s
  unfolding counted_all
  count_well h f = go (leb (length (records_in w s)) most) refl
    where
      g : length s ≤ (walked w s start).used
      g = rw end at h

      go : (t : Bool) → leb (length (records_in w s)) most ≡ t → full k.summary ≡ counted_all w s
      go true e =
          let a = at_most_all most (records_in w s) (leb-true (length (records_in w s)) most e) in
          let x : k.summary ≡ counted_in (records_in w s) = ap (λ (x : Kept). x.summary) tallied ∙ ap counted_in a in
          rw (le-leb (length s) (walked w s start).used g, e, x)
      go false e =
          absurd
          (omega (arith, used_first, f, in_room w s one, sizes_fewer most (records_in w s) (leb-false (length (records_in w s)) most e)))
