-- Whole captures: the version byte, and then the bytes of good records. The records of a capture determine its bytes, and its bytes its
-- records; and each record is read at its place.
use Prim.Native.Nat.{ℕ, ◌+◌, ◌-◌, ◌≤◌}
use Rattle.std.specs.Prelude.{None, ◌≡◌, true, length, get_or, leb}
use Rattle.std.proofs.Math.Path.{refl, sym, ap}
use Rattle.std.proofs.Common.{◌∙◌, length-append, length-drop, drop_of_length-le, take_at, drop-cons, length-take-le, get_or-take, arith}
use mathlib.Core.List.{List, [], ◌∷◌, ◌++◌, append-nil}
use Rattle.std.proofs.Math.ListN.{take, drop}
use Rattle.std.proofs.Math.Seq.{drop_at}
use borrow.Author.Tests.{le-leb, leb-true, ne_eqb}
use Rattle.refusal.specs.Test.{clash}
use Rattle.refusal.specs.Answer.{Answer, refused, full, demand_elim, full_one}
use Rattle.sum.specs.Bytes.{Bytes, bytes_take, bytes_drop}
use Rattle.frame.specs.Frame.{byte}
use Rattle.event.specs.declared.Layout.{Layout}
use Rattle.event.specs.Layout.{width_of}
use Rattle.record.specs.Record.{Entry, record_at}
use Rattle.summary.specs.declared.Summary.{Summary}
use Rattle.summary.specs.Summary.{last_from, counted_in, most}
use Rattle.capture.specs.declared.Mark.{Mark}
use Rattle.capture.specs.Capture.{is_version, layout_by, version_in, front_of, records_from, sizes_of, behind, walked, start, records_in}
use Rattle.capture.specs.Capture.{opened_all, opened_in, opened, counted_all, counted_by, counted, entry_at}
use Rattle.capture.specs.Walk.{next_is, records_end, sizes_append}
use Rattle.capture.specs.Says.{version_known, version_there, front_full, front_there}
use Rattle.year.specs.Good.{bytes_of, length_bytes, bytes_of_append, Good, good_split, next_put, records_found, found_good, found_bytes}

-- how many target bytes a buffer's version byte says, and the records of its bytes in use
abbrev pub width_by : ℕ → ℕ
width_by v = width_of (layout_by v)

abbrev pub width_in : List ℕ → ℕ
width_in b = width_by (byte 0 b)

abbrev pub records_of : List ℕ → ℕ → List Entry
records_of b u = records_in (width_in b) (take u b)

-- THE FRONT of a buffer with a version byte, of which so many bytes are in use
pub record Versioned (b : List ℕ) (u : ℕ) : Type 0 where
  pub byte_there : 1 ≤ length b
  pub byte_used : 1 ≤ u
  pub known : is_version (byte 0 b) ≡ true

pub version_of_lem : (b : List ℕ) (u : ℕ) → Versioned b u → version_in b u ≡ full (layout_by (byte 0 b))
version_of_lem b u v = sym (version_known b u (layout_by (byte 0 b)) v.byte_there v.byte_used v.known refl)

pub version_is : (b : List ℕ) (u : ℕ) {l : Layout} → version_in b u ≡ full l → Versioned b u × (l ≡ layout_by (byte 0 b))
version_is b u {l} e =
    let f = version_there b u l e in
    (record { byte_there = f.0; byte_used = f.1; known = f.2 }, sym f.3)

pub front_is : (b : List ℕ) (u : ℕ) {l : Layout} → front_of b u ≡ full l → Versioned b u × (u ≤ length b) × (l ≡ layout_by (byte 0 b))
front_is b u {l} e =
    let f = front_there b u l e in
    let v = version_is b u f.0 in
    (v.0, f.1, v.1)

-- A WHOLE CAPTURE of some records, in the first bytes of a buffer: the version byte, and then the bytes of records that are good
pub record Whole (b : List ℕ) (u : ℕ) (rs : List Entry) : Type 0 where
  pub known : is_version (byte 0 b) ≡ true
  pub there : u ≤ length b
  pub bytes : take u b ≡ byte 0 b ∷ bytes_of rs
  pub good : Good (width_in b) None rs

module _ {b : List ℕ} {u : ℕ} {rs : List Entry} (c : Whole b u rs) where
  pub whole_used : u ≡ 1 + sizes_of rs
  whole_used = sym (length-take-le u b c.there) ∙ ap length c.bytes ∙ omega (arith, length_bytes rs)

  pub whole_versioned : Versioned b u
  whole_versioned = record { byte_there = omega (arith, whole_used, c.there); byte_used = omega (arith, whole_used); known = c.known }

  pub whole_front : front_of b u ≡ full (layout_by (byte 0 b))
  whole_front = sym (front_full b u (layout_by (byte 0 b)) (version_of_lem b u whole_versioned) c.there)

  -- its records are those that are found in it
  pub whole_records : records_of b u ≡ rs
  whole_records =
      ap (records_from (width_in b) None) (ap (drop 1) c.bytes ∙ sym (append-nil (bytes_of rs)))
      ∙ records_found (width_in b) None rs [] c.good
      ∙ ap (λ (l : List Entry). rs ++ l) (records_end (width_in b) (last_from None rs) [] (omega arith))
      ∙ append-nil rs

  whole_walked : walked (width_in b) (take u b) start ≡ behind start rs
  whole_walked = ap (behind start) whole_records

  whole_end : leb (length (take u b)) (walked (width_in b) (take u b) start).used ≡ true
  whole_end =
      le-leb (length (take u b)) (walked (width_in b) (take u b) start).used
      (omega (arith, length-take-le u b c.there, whole_used, ap (λ (m : Mark). m.used) whole_walked))

  -- it opens, and its mark stands behind its last record
  pub whole_opened : opened b u ≡ full (behind start rs)
  unfolding opened opened_all
  whole_opened = rw (whole_front, whole_end, whole_walked)

  -- and it is counted, where its records are not too many
  pub whole_counted : length rs ≤ most → counted b u ≡ full (counted_in rs)
  unfolding counted counted_all
  whole_counted h = rw (whole_front, whole_end, whole_records, le-leb (length rs) most h)

  -- record by record: each is read at its place, behind those before it
  pub whole_entry : (ps qs : List Entry) (r : Entry) → rs ≡ ps ++ (r ∷ qs) → entry_at b u (1 + sizes_of ps) ≡ full r
  unfolding entry_at
  whole_entry ps qs r e =
      let p : ℕ = 1 + sizes_of ps in
      let x : List ℕ = bytes_of (r ∷ qs) in
      let n : sizes_of rs ≡ sizes_of ps + sizes_of (r ∷ qs) = ap sizes_of e ∙ sizes_append ps (r ∷ qs) in
      let t : take u b ≡ (byte 0 b ∷ bytes_of ps) ++ x = c.bytes ∙ ap (λ (l : List ℕ). byte 0 b ∷ l) (ap bytes_of e ∙ bytes_of_append ps (r ∷ qs)) in
      let d : drop p (take u b) ≡ x = ap (drop p) t ∙ drop_at (byte 0 b ∷ bytes_of ps) x p (omega (arith, length_bytes ps)) in
      let g = (good_split (width_in b) None ps (r ∷ qs) (rw e at c.good)).1.0 in
      let a : record_at (width_in b) x ≡ full r =
      (next_is (width_in b) (last_from None ps) x r (next_put (width_in b) (last_from None ps) r (bytes_of qs) g)).0 in
      rw (whole_front, ne_eqb p u (λ z. omega (arith, whole_used, n)), le-leb 1 p (omega arith), d, a)

-- SOME BYTES that open are a whole capture of the records that are found in them, and their mark is behind these
module _ (b : List ℕ) (u : ℕ) (bytes : Bytes b) where
  found_whole : Versioned b u → u ≤ length b → length (take u b) ≤ (walked (width_in b) (take u b) start).used → Whole b u (records_of b u)
  found_whole v h k =
      let s : List ℕ = take u b in
      let l : length s ≡ u = length-take-le u b h in
      let d : drop 0 s ≡ get_or s 0 0 ∷ drop 1 s = drop-cons s 0 0 (omega (arith, v.byte_used)) in
      let f : get_or s 0 0 ≡ byte 0 b = get_or-take u b 0 0 v.byte_used in
      let t : List ℕ = drop 1 s in
      let rs : List Entry = records_of b u in
      let n : length t ≡ u - 1 = length-drop 1 s ∙ omega (arith, l) in
      record {
        known = v.known;
        there = h;
        bytes =
            d ∙ ap (λ (x : ℕ). x ∷ t) f
            ∙ ap (λ (x : List ℕ). byte 0 b ∷ x)
            (found_bytes (width_in b) None t (bytes_drop 1 s (bytes_take u b bytes))
            ∙ ap (λ (x : List ℕ). bytes_of rs ++ x) (drop_of_length-le t {i = sizes_of rs} (omega (arith, n, l, k)))
            ∙ append-nil (bytes_of rs));
        good = found_good (width_in b) None t (bytes_drop 1 s (bytes_take u b bytes));
      }

  pub opened_whole : {m : Mark} → opened b u ≡ full m → Whole b u (records_of b u) × (m ≡ behind start (records_of b u))
  unfolding opened opened_all
  opened_whole {m} e = go (front_of b u) refl e
    where
      go : (a : Answer Layout) → front_of b u ≡ a → opened_in a b u ≡ full m → Whole b u (records_of b u) × (m ≡ behind start (records_of b u))
      go (refused k) q x = clash (cc)
      go (full l) q x =
          let f = front_is b u q in
          demand_elim (leb (length (take u b)) (walked (width_in b) (take u b) start).used) 15
          (λ h y. (found_whole f.0 f.1 (leb-true (length (take u b)) (walked (width_in b) (take u b) start).used h), sym (full_one y)))
          (rw f.2 at x)

  pub counted_whole : {x : Summary} → counted b u ≡ full x → Whole b u (records_of b u) × (length (records_of b u) ≤ most) × (x ≡ counted_in (records_of b u))
  unfolding counted counted_all
  counted_whole {x} e = go (front_of b u) refl e
    where
      go : (a : Answer Layout) → front_of b u ≡ a → counted_by a b u ≡ full x
          → Whole b u (records_of b u) × (length (records_of b u) ≤ most) × (x ≡ counted_in (records_of b u))
      go (refused k) q y = clash (cc)
      go (full l) q y =
          let f = front_is b u q in
          demand_elim (leb (length (take u b)) (walked (width_in b) (take u b) start).used) 15
          (λ h. demand_elim (leb (length (records_of b u)) most) 8
          (λ n z. (
            found_whole f.0 f.1 (leb-true (length (take u b)) (walked (width_in b) (take u b) start).used h),
            leb-true (length (records_of b u)) most n,
            sym (full_one z),
          )))
          (rw f.2 at y)

-- conversely a version and good records make a capture, whatever stands behind them
pub makes_whole : (v : ℕ) (rs : List Entry) (s : List ℕ) → is_version v ≡ true → Good (width_by v) None rs
    → Whole ((v ∷ bytes_of rs) ++ s) (1 + sizes_of rs) rs
makes_whole v rs s h g =
    record {
      known = h;
      there = omega (arith, length-append (bytes_of rs) s, length_bytes rs);
      bytes = take_at (v ∷ bytes_of rs) s (1 + sizes_of rs) (omega (arith, length_bytes rs));
      good = g;
    }

pub made_opens : (v : ℕ) (rs : List Entry) (s : List ℕ) → is_version v ≡ true → Good (width_by v) None rs
    → opened ((v ∷ bytes_of rs) ++ s) (1 + sizes_of rs) ≡ full (behind start rs)
made_opens v rs s h g = whole_opened (makes_whole v rs s h g)

-- what was stored is read back: a capture's record at its place, behind those before it
pub record_read : (b : List ℕ) (u : ℕ) {m : Mark} (ps qs : List Entry) (r : Entry) → Bytes b → opened b u ≡ full m → records_of b u ≡ ps ++ (r ∷ qs)
    → entry_at b u (1 + sizes_of ps) ≡ full r
record_read b u ps qs r h e f = whole_entry (opened_whole b u h e).0 ps qs r f

-- what stands behind the bytes in use does not matter
pub whole_stays : {b b' : List ℕ} {u : ℕ} {rs : List Entry} → Whole b u rs → take u b' ≡ take u b → u ≤ length b' → Whole b' u rs
whole_stays {b} {b'} {u} {rs} c e h =
    let k = (whole_versioned c).byte_used in
    let v : byte 0 b' ≡ byte 0 b = sym (get_or-take u b' 0 0 k) ∙ ap (byte 0) e ∙ get_or-take u b 0 0 k in
    record {
      known = ap is_version v ∙ c.known;
      there = h;
      bytes = e ∙ c.bytes ∙ ap (λ (w : ℕ). w ∷ bytes_of rs) (sym v);
      good = rw v c.good;
    }

-- THE RECORDS OF A CAPTURE determine its bytes
pub one_bytes : {b b' : List ℕ} {u u' : ℕ} {rs : List Entry} → Whole b u rs → Whole b' u' rs → byte 0 b ≡ byte 0 b' → take u b ≡ take u' b'
one_bytes {rs = rs} c d e = c.bytes ∙ ap (λ (v : ℕ). v ∷ bytes_of rs) e ∙ sym d.bytes

-- and its bytes its records
pub one_records : {b b' : List ℕ} {u u' : ℕ} {rs qs : List Entry} → Whole b u rs → Whole b' u' qs → take u b ≡ take u' b' → rs ≡ qs
one_records {b} {b'} {u} {u'} c d e =
    let v : byte 0 b ≡ byte 0 b' = ap (byte 0) (sym c.bytes ∙ e ∙ d.bytes) in
    sym (whole_records c) ∙ ap (records_in (width_in b)) e ∙ ap (λ (v : ℕ). records_in (width_by v) (take u' b')) v ∙ whole_records d
