-- What a torn write left: the longest good capture at the front is found, whatever follows it.
use Rattle.std.specs.Prelude.{Option, None, ℕ, ◌+◌, ◌-◌, ◌≤◌, ◌<◌, ◌≡◌, refl, List, [], ◌∷◌, ◌++◌, length, take, drop}
use Rattle.std.proofs.Common.{sym, ap, ◌∙◌, append_assoc, append-nil, length-append, length-take, take-append-drop, take_at, take-take, drop_at, drop-cons, get_or-take, arith}
use Rattle.std.proofs.Math.Seq.{take-append-add}
use Rattle.refusal.specs.Test.{clash}
use Rattle.refusal.specs.Answer.{Answer, refused, full, full_one}
use Rattle.sum.specs.Bytes.{Bytes, bytes_take, bytes_drop}
use Rattle.frame.specs.Frame.{byte, listed, listed_take}
use Rattle.event.specs.declared.Layout.{Layout}
use Rattle.event.specs.Layout.{width_of}
use Rattle.record.specs.Record.{Entry, record_bytes, record_size}
use Rattle.record.specs.Found.{holds, record_length}
use Rattle.order.specs.Order.{high_first, number_in}
use Rattle.order.specs.Big.{big_bytes}
use Rattle.order.specs.Numbers.{length_big, number_of_bytes}
use Rattle.led.specs.Led.{length_in}
use Rattle.summary.specs.declared.Summary.{Summary}
use Rattle.summary.specs.Summary.{last_from, most}
use Rattle.capture.specs.declared.Kept.{Kept}
use Rattle.capture.specs.Capture.{layout_by, version_in, records_from, records_in, sizes_of}
use Rattle.capture.specs.Capture.{opened, counted, at_most, first_records, kept, kept_in, prefixed}
use Rattle.capture.specs.Walk.{next_is, records_cases, sizes_append, at_most_all}
use Rattle.capture.specs.Says.{prefixed_by}
use Rattle.year.specs.Good.{bytes_of, length_bytes, bytes_of_append, good_split, records_found, found_good, found_bytes}
use Rattle.year.specs.Whole.{width_in, records_of, Versioned, version_of_lem, version_is, Whole, whole_used, whole_versioned, whole_records, whole_opened}
use Rattle.year.specs.Whole.{whole_counted, counted_whole}

-- the first n of some records, and others behind them
at_most_split : (n : ℕ) (rs : List Entry) → (length (at_most n rs) ≤ n) × (qs : List Entry) × (rs ≡ at_most n rs ++ qs)
unfolding at_most
at_most_split n rs = (simp length-take (omega arith), drop n rs, sym (take-append-drop n rs))

-- among the first n are those of a front that has no more
at_most_more : (n : ℕ) (rs qs : List Entry) → length rs ≤ n → (ps : List Entry) × (at_most n (rs ++ qs) ≡ rs ++ ps)
unfolding at_most
at_most_more n rs qs h =
    let e : n ≡ length rs + (n - length rs) = omega arith in
    (take (n - length rs) qs, ap (λ (k : ℕ). take k (rs ++ qs)) e ∙ take-append-add rs qs (n - length rs))

-- some bytes with a version byte in front: it, and the bytes behind it
version_first : (b : List ℕ) (u : ℕ) → Versioned b u → take u b ≡ byte 0 b ∷ drop 1 (take u b)
version_first b u v =
    let l : 1 ≤ length (take u b) = simp length-take (omega (arith, v.byte_there, v.byte_used)) in
    drop-cons (take u b) 0 0 l ∙ ap (λ (x : ℕ). x ∷ drop 1 (take u b)) (get_or-take u b 0 0 v.byte_used)

-- what stands at the front of the first u bytes is so many of all
front_bytes : (b x y : List ℕ) (u n : ℕ) → length x ≡ n → take u b ≡ x ++ y → (n ≤ u) × (n ≤ length b) × (take n b ≡ x)
front_bytes b x y u n l e =
    let k : take n (take u b) ≡ x = ap (take n) e ∙ take_at x y n l in
    let m : length (take u b) ≡ length x + length y = ap length e ∙ length-append x y in
    let h : n ≤ u = omega (arith, length-take u b) in
    (h, omega (arith, length-take u b), sym (take-take n u b h) ∙ k)

-- the first records of a whole capture make one
pub whole_first : {b : List ℕ} {u : ℕ} (rs qs : List Entry) → Whole b u (rs ++ qs) → Whole b (1 + sizes_of rs) rs
whole_first {b} {u} rs qs c =
    let f =
    front_bytes b (byte 0 b ∷ bytes_of rs) (bytes_of qs) u (1 + sizes_of rs) (omega (arith, length_bytes rs))
    (c.bytes ∙ ap (λ (l : List ℕ). byte 0 b ∷ l) (bytes_of_append rs qs)) in
    record { known = c.known; there = f.1; bytes = f.2; good = (good_split (width_in b) None rs qs c.good).0 }

-- the records that are found in some bytes with a whole capture at their front: its own, and then those that stand behind it
pub whole_more : {b : List ℕ} {n : ℕ} {rs : List Entry} (u : ℕ) → Whole b n rs → n ≤ u
    → records_of b u ≡ rs ++ records_from (width_in b) (last_from None rs) (drop n (take u b))
whole_more {b} {n} {rs} u c h =
    let y : List ℕ = drop n (take u b) in
    let e : take u b ≡ (byte 0 b ∷ bytes_of rs) ++ y =
    sym (take-append-drop n (take u b)) ∙ ap (λ (l : List ℕ). l ++ y) (take-take n u b h ∙ c.bytes) in
    ap (records_in (width_in b)) e ∙ records_found (width_in b) None rs y c.good

-- what is kept of some bytes with a version byte
prefix_kept : (b : List ℕ) (u : ℕ) → Versioned b u → prefixed b u ≡ full (kept (at_most most (records_of b u)))
prefix_kept b u v = prefixed_by b u (layout_by (byte 0 b)) (version_of_lem b u v)

kept_prefix : (b : List ℕ) (u : ℕ) {k : Kept} → prefixed b u ≡ full k → Versioned b u × (k ≡ kept (at_most most (records_of b u)))
unfolding prefixed
kept_prefix b u {k} e = go (version_in b u) refl e
  where
    go : (a : Answer Layout) → version_in b u ≡ a → kept_in a b u ≡ full k → Versioned b u × (k ≡ kept (at_most most (records_of b u)))
    go (refused j) q x = clash (cc)
    go (full l) q x =
        let v = version_is b u q in
        (v.0, sym (full_one x) ∙ ap (λ (l : Layout). kept (first_records (width_of l) (take u b))) v.1)

-- where more bytes are in use than a whole capture has
longer : {b : List ℕ} {n : ℕ} {rs : List Entry} (u : ℕ) → Whole b n rs → n ≤ u → Versioned b u
longer u c h =
    let v = whole_versioned c in
    record { byte_there = v.byte_there; byte_used = omega (arith, v.byte_used); known = v.known }

-- THE LONGEST GOOD CAPTURE is one, with its mark and its summary
module _ (b : List ℕ) (u : ℕ) (bytes : Bytes b) where
  first_whole : Versioned b u → (rs qs : List Entry) → records_of b u ≡ rs ++ qs → Whole b (1 + sizes_of rs) rs
  first_whole v rs qs e =
      let t : List ℕ = drop 1 (take u b) in
      let bt : Bytes t = bytes_drop 1 (take u b) (bytes_take u b bytes) in
      let z : List ℕ = drop (sizes_of (records_of b u)) t in
      let a : t ≡ bytes_of rs ++ (bytes_of qs ++ z) =
      found_bytes (width_in b) None t bt ∙ ap (λ (l : List Entry). bytes_of l ++ z) e
      ∙ ap (λ (l : List ℕ). l ++ z) (bytes_of_append rs qs) ∙ append_assoc (bytes_of rs) (bytes_of qs) z in
      let f =
      front_bytes b (byte 0 b ∷ bytes_of rs) (bytes_of qs ++ z) u (1 + sizes_of rs) (omega (arith, length_bytes rs))
      (version_first b u v ∙ ap (λ (l : List ℕ). byte 0 b ∷ l) a) in
      record {
        known = v.known;
        there = f.1;
        bytes = f.2;
        good = (good_split (width_in b) None rs qs (rw e at (found_good (width_in b) None t bt))).0;
      }

  pub prefix_whole : {k : Kept} → prefixed b u ≡ full k → (opened b k.mark.used ≡ full k.mark) × (counted b k.mark.used ≡ full k.summary)
  prefix_whole {k} e =
      let v = kept_prefix b u e in
      let a = at_most_split most (records_of b u) in
      let c = first_whole v.0 (at_most most (records_of b u)) a.1 a.2 in
      rw v.1 (whole_opened c, whole_counted c a.0)

  -- WHATEVER FOLLOWS A GOOD CAPTURE, it is found: the prefix is no shorter, and its first records are those of the capture
  pub prefix_finds : (n : ℕ) {x : Summary} → counted b n ≡ full x → n ≤ u
      → (k : Kept) × (prefixed b u ≡ full k) × (n ≤ k.mark.used)
      × (qs : List Entry) × (records_of b k.mark.used ≡ records_of b n ++ qs)
  prefix_finds n {x} e h =
      let c = counted_whole b n bytes e in
      let rs : List Entry = records_of b n in
      let v = longer u c.0 h in
      let more : List Entry = records_from (width_in b) (last_from None rs) (drop n (take u b)) in
      let a = at_most_split most (records_of b u) in
      let w = first_whole v (at_most most (records_of b u)) a.1 a.2 in
      let m = at_most_more most rs more c.1 in
      let f : at_most most (records_of b u) ≡ rs ++ m.0 = ap (at_most most) (whole_more u c.0 h) ∙ m.1 in (
        kept (at_most most (records_of b u)),
        prefix_kept b u v,
        omega (arith, whole_used c.0, ap sizes_of f, sizes_append rs m.0),
        m.0,
        whole_records w ∙ f,
      )

-- A TORN RECORD is none: of the first bytes of a record, short of all, no record is read
length_torn : (t : ℕ) (d y : List ℕ) (k : ℕ) → length d < 65532 → 2 ≤ k → length_in (take k (record_bytes t d ++ y)) ≡ 4 + length d
length_torn t d y k hd h =
    let n : ℕ = 4 + length d in
    let x : List ℕ = record_bytes t d ++ y in
    let lx : length x ≡ 6 + length d + length y = length-append (record_bytes t d) y ∙ omega (arith, record_length t d) in
    let two : x ≡ big_bytes 2 n ++ ((big_bytes 4 t ++ d) ++ y) = append_assoc (big_bytes 2 n) (big_bytes 4 t ++ d) y in
    let l : listed 0 2 (take k x) ≡ big_bytes 2 n =
    sym (listed_take 0 2 (take k x) (simp length-take (omega arith)))
    ∙ take-take 2 k x h ∙ ap (take 2) two ∙ take_at (big_bytes 2 n) ((big_bytes 4 t ++ d) ++ y) 2 (length_big 2 n) in
    ap (number_in high_first 2) l ∙ number_of_bytes 2 n (omega arith)

torn_none : (w : ℕ) (last : Option ℕ) (t : ℕ) (d y : List ℕ) (k : ℕ) → length d < 65532 → k < record_size d
    → records_from w last (take k (record_bytes t d ++ y)) ≡ []
torn_none w last t d y k hd hk =
    let s : List ℕ = take k (record_bytes t d ++ y) in
    let l : length s ≤ k = simp length-take (omega arith) in
    records_cases w last s
    (λ r e q.
    let h = holds w s r (next_is w last s r e).0 in
    let f = h.fits in
    absurd (omega (arith, h.size, length_torn t d y k hd (omega arith))))
    (λ q. q)

-- A CAPTURE CUT INSIDE ITS LAST RECORD loses that record only
pub torn_last : {b : List ℕ} {n : ℕ} (u : ℕ) (rs : List Entry) (r : Entry) → Whole b n (rs ++ (r ∷ [])) → length rs ≤ most
    → 1 + sizes_of rs ≤ u → u < n → prefixed b u ≡ full (kept rs)
torn_last {b} {n} u rs r c few h k =
    let p : ℕ = 1 + sizes_of rs in
    let x : List ℕ = byte 0 b ∷ bytes_of rs in
    let y : List ℕ = bytes_of (r ∷ []) in
    let a = whole_first rs (r ∷ []) c in
    let g = (good_split (width_in b) None rs (r ∷ []) c.good).1.0 in
    let e : take n b ≡ x ++ y = c.bytes ∙ ap (λ (l : List ℕ). byte 0 b ∷ l) (bytes_of_append rs (r ∷ [])) in
    let j : u ≡ length x + (u - p) = omega (arith, length_bytes rs) in
    let f : take u b ≡ x ++ take (u - p) y =
    sym (take-take u n b (omega arith)) ∙ ap (take u) e ∙ ap (λ (i : ℕ). take i (x ++ y)) j ∙ take-append-add x y (u - p) in
    let d : drop p (take u b) ≡ take (u - p) y = ap (drop p) f ∙ drop_at x (take (u - p) y) p (omega (arith, length_bytes rs)) in
    let z : records_of b u ≡ rs =
    whole_more u a h
    ∙ ap (λ (l : List ℕ). rs ++ records_from (width_in b) (last_from None rs) l) d
    ∙ ap (λ (l : List Entry). rs ++ l)
    (torn_none (width_in b) (last_from None rs) r.seconds r.datagram [] (u - p) g.room
    (omega (arith, whole_used c, sizes_append rs (r ∷ []))))
    ∙ append-nil rs in
    prefix_kept b u (longer u a h) ∙ ap (λ (l : List Entry). full (kept l)) (ap (at_most most) z ∙ at_most_all most rs few)
