-- Bytes cut in two: the records in front, what is left, and how it goes on with the others.
use Rattle.std.specs.Prelude.{ℕ, zero, suc, ◌+◌, ◌-◌, ◌≤◌, ◌<◌, ◌≡◌, ◌&&◌, ◌||◌, List, [], ◌∷◌, ◌++◌, get_or, take, drop, Option, Some}
use Rattle.std.proofs.Math.Path.{refl}
use Rattle.std.proofs.Common.{sym, ap, ◌∙◌, length-append, length-drop, drop-drop, arith}
use Rattle.std.proofs.Math.Bool.{Bool, true, false}
use Rattle.std.proofs.Math.ListN.{length, get_or-append}
use Rattle.std.proofs.lemmas.List.{take-append-le, drop-append-le}
use Rattle.std.proofs.Math.Dec.{leb, ltb}
use borrow.Author.Tests.{le-leb, lt-leb, leb-true, leb-false, ltb-true, ltb-false, lt-ltb, le-ltb}
use Rattle.refusal.specs.Test.{clash, both_left, both_right, not_both}
use Rattle.refusal.specs.Answer.{Answer, refused, full}
use Rattle.frame.specs.Frame.{listed}
use Rattle.order.specs.Order.{high_first, number_in}
use Rattle.event.specs.Reading.{Told, read_event}
use Rattle.event.specs.Fits.{read_fits}
use Rattle.led.specs.Led.{length_in, part_at}
use Rattle.led.specs.Cut.{follows}
use Rattle.record.specs.Record.{Entry, record_size, seconds_in, datagram_in, with_event, record_at}
use Rattle.record.specs.Found.{Holds, holds, with_part_lem}
use Rattle.summary.specs.Summary.{last_from}
use Rattle.capture.specs.Capture.{next_at, records_from, sizes_of}
use Rattle.capture.specs.Walk.{next_is, is_next, next_fits, records_next, records_cases}
use Rattle.by_parts.specs.Parts.{longest_rest, is_settled}

-- ONE RECORD. What stands in the first bytes stands there whatever follows
listed_front : (i n : ℕ) (s p : List ℕ) → i + n ≤ length s → listed i n (s ++ p) ≡ listed i n s
listed_front i zero s p h = refl
listed_front i (suc n) s p h =
    let a : get_or (s ++ p) i 0 ≡ get_or s i 0 = get_or-append s p 0 i (omega arith) in
    let b = listed_front (suc i) n s p (omega arith) in
    rw (a, b)

length_front : (s p : List ℕ) → 2 ≤ length s → length_in (s ++ p) ≡ length_in s
length_front s p h = ap (number_in high_first 2) (listed_front 0 2 s p (omega arith))

-- a record is there where its length, its seconds, its bytes and its event are
is_record : (w : ℕ) (s : List ℕ) (r : Entry) → Holds w s r → record_at w s ≡ full r
is_record w s r h =
    let n : ℕ = 4 + length r.datagram in
    let p : part_at s ≡ full n = sym (follows s n (sym h.size) (omega (arith, h.fits)) (omega (arith, h.fits))) in
    let m : n - 4 ≡ length r.datagram = omega arith in
    let d : datagram_in n s ≡ r.datagram = ap (λ (k : ℕ). take k (drop 6 s)) m ∙ sym h.part in
    let t : seconds_in s ≡ r.seconds = sym h.time in
    with_part_lem w s n p (omega arith)
    ∙ ap (λ (a : Answer Told). with_event a n s) (ap (read_event w) d ∙ h.reads)
    ∙ ap full (λ i. record { seconds = t i; datagram = d i; event = r.event })

module _ (w : ℕ) (s p : List ℕ) (r : Entry) where
  pub record_more : record_at w s ≡ full r → record_at w (s ++ p) ≡ full r
  record_more e =
      let h = holds w s r e in
      let f = h.fits in
      is_record w (s ++ p) r
      (record {
        size = length_front s p (omega (arith, f)) ∙ h.size;
        fits = omega (arith, f, length-append s p);
        time = h.time ∙ ap (number_in high_first 4) (sym (listed_front 2 4 s p (omega (arith, f))));
        part =
            h.part
            ∙ sym (take-append-le (length r.datagram) (drop 6 s) p (omega (arith, f, length-drop 6 s)))
            ∙ ap (take (length r.datagram)) (sym (drop-append-le 6 s p (omega (arith, f))));
        reads = h.reads;
      })

  pub record_less : record_at w (s ++ p) ≡ full r → record_size r.datagram ≤ length s → record_at w s ≡ full r
  record_less e f =
      let h = holds w (s ++ p) r e in
      is_record w s r
      (record {
        size = sym (length_front s p (omega (arith, f))) ∙ h.size;
        fits = f;
        time = h.time ∙ ap (number_in high_first 4) (listed_front 2 4 s p (omega (arith, f)));
        part =
            h.part
            ∙ ap (take (length r.datagram)) (drop-append-le 6 s p (omega (arith, f)))
            ∙ take-append-le (length r.datagram) (drop 6 s) p (omega (arith, f, length-drop 6 s));
        reads = h.reads;
      })

pub next_more : (w : ℕ) (last : Option ℕ) (s p : List ℕ) (r : Entry) → next_at w last s ≡ full r → next_at w last (s ++ p) ≡ full r
next_more w last s p r e =
    let h = next_is w last s r e in
    is_next w last (s ++ p) r (record_more w s p r h.0) h.1

-- WHAT IS SETTLED, AND WHAT IS NOT. A length is there
or_left : (a b : Bool) → a ≡ true → (a || b) ≡ true
or_left true b e = refl
or_left false b e = clash (cc)

or_right : (a b : Bool) → b ≡ true → (a || b) ≡ true
or_right true b e = refl
or_right false b e = e

or_cases : {P : Type 0} (a b : Bool) → (a || b) ≡ true → (a ≡ true → P) → (b ≡ true → P) → P
or_cases true b e f g = f refl
or_cases false b e f g = g e

or_none : (a b : Bool) → (a || b) ≡ false → (a ≡ false) × (b ≡ false)
or_none true b e = clash (cc)
or_none false b e = (refl, e)

module _ (w : ℕ) (s : List ℕ) where
  -- it is too great for a record, or the record is there whole
  pub settled_cases : {P : Type 0} → is_settled w s ≡ true → (2 ≤ length s → longest_rest w < length_in s → P) → (2 + length_in s ≤ length s → P) → P
  unfolding is_settled
  settled_cases e f g =
      let a : Bool = leb 2 (length s) in
      let x : Bool = ltb (longest_rest w) (length_in s) in
      let y : Bool = leb (2 + length_in s) (length s) in
      let h : 2 ≤ length s = leb-true 2 (length s) (both_left a (x || y) e) in
      or_cases x y (both_right a (x || y) e) (λ t. f h (ltb-true (longest_rest w) (length_in s) t)) (λ t. g (leb-true (2 + length_in s) (length s) t))

  pub too_great : 2 ≤ length s → longest_rest w < length_in s → is_settled w s ≡ true
  unfolding is_settled
  too_great h k = rw (le-leb 2 (length s) h, lt-ltb (longest_rest w) (length_in s) k)

  pub all_there : 2 + length_in s ≤ length s → is_settled w s ≡ true
  unfolding is_settled
  all_there h = rw (le-leb 2 (length s) (omega arith), le-leb (2 + length_in s) (length s) h) (or_right (ltb (longest_rest w) (length_in s)) true refl)

  -- fewer bytes than a length, or than the record, which is not too long
  pub unsettled_short : length s < 2 → is_settled w s ≡ false
  unfolding is_settled
  unsettled_short h = rw (lt-leb 2 (length s) h)

  pub unsettled_part : 2 ≤ length s → length_in s ≤ longest_rest w → length s < 2 + length_in s → is_settled w s ≡ false
  unfolding is_settled
  unsettled_part h k m = rw (le-leb 2 (length s) h, le-ltb (longest_rest w) (length_in s) k, lt-leb (2 + length_in s) (length s) m)

  pub unsettled_cases : {P : Type 0} → is_settled w s ≡ false → (length s < 2 → P) → (length_in s ≤ longest_rest w → length s < 2 + length_in s → P) → P
  unfolding is_settled
  unsettled_cases {P} e f g = go (leb 2 (length s)) refl e
    where
      go : (a : Bool) → leb 2 (length s) ≡ a → (a && (ltb (longest_rest w) (length_in s) || leb (2 + length_in s) (length s))) ≡ false → P
      go false q x = f (leb-false 2 (length s) q)
      go true q x =
          let n = or_none (ltb (longest_rest w) (length_in s)) (leb (2 + length_in s) (length s)) x in
          g (ltb-false (longest_rest w) (length_in s) n.0) (leb-false (2 + length_in s) (length s) n.1)

  -- WHAT IS HELD: one record less a byte
  pub unsettled_few : is_settled w s ≡ false → length s ≤ 1 + longest_rest w
  unsettled_few e = unsettled_cases e (λ h. omega arith) (λ h k. omega arith)

-- a record that comes is not too long
rest_fits : (w : ℕ) (last : Option ℕ) (s : List ℕ) (r : Entry) → next_at w last s ≡ full r → (length_in s ≡ 4 + length r.datagram) × (length_in s ≤ longest_rest w)
rest_fits w last s r e =
    let h = holds w s r (next_is w last s r e).0 in
    let f = read_fits w r.datagram r.event h.reads in
    (h.size, omega (arith, h.size, f.0, f.1))

-- what tells nothing begins no record
pub unsettled_none : (w : ℕ) (last : Option ℕ) (s : List ℕ) → is_settled w s ≡ false → records_from w last s ≡ []
unsettled_none w last s f =
    records_cases w last s (λ r e q. not_both (all_there w s (omega (arith, (rest_fits w last s r e).0, next_fits w last s r e))) f) (λ q. q)

-- what is settled stays so
module _ (w : ℕ) (s p : List ℕ) (e : is_settled w s ≡ true) where
  pub settled_more : is_settled w (s ++ p) ≡ true
  settled_more =
      let l = length-append s p in
      settled_cases w s e (λ h k. too_great w (s ++ p) (omega (arith, l)) (omega (arith, k, length_front s p h)))
      (λ h. all_there w (s ++ p) (omega (arith, l, h, length_front s p (omega (arith, h)))))

  -- and a record that it tells to be bad, or none, stays so too
  pub bad_stays : (last : Option ℕ) {k : ℕ} → next_at w last s ≡ refused k → records_from w last (s ++ p) ≡ []
  bad_stays last {k} q =
      records_cases w last (s ++ p)
      (λ r x y.
      let f = rest_fits w last (s ++ p) r x in
      let h = next_is w last (s ++ p) r x in
      settled_cases w s e (λ a b. absurd (omega (arith, b, f.1, length_front s p a)))
      (λ a.
      let z : next_at w last s ≡ full r =
      is_next w last s r (record_less w s p r h.0 (omega (arith, a, f.0, length_front s p (omega (arith, a))))) h.1 in
      clash (cc)))
      (λ z. z)

-- RECORDS, AND WHAT IS LEFT: those of bytes cut in two are those of the front, then those of what it leaves with the others behind
abbrev pub CutAt : ℕ → Option ℕ → List ℕ → List ℕ → List Entry → Type 0
CutAt w last s p rs = records_from w last (s ++ p) ≡ rs ++ records_from w (last_from last rs) (drop (sizes_of rs) s ++ p)

cut_some : (w : ℕ) (last : Option ℕ) (s p : List ℕ) (r : Entry) (rs : List Entry) → next_at w last s ≡ full r
    → CutAt w (Some r.seconds) (drop (record_size r.datagram) s) p rs → CutAt w last s p (r ∷ rs)
cut_some w last s p r rs e again =
    let k : ℕ = record_size r.datagram in
    records_next w last (s ++ p) r (next_more w last s p r e)
    ∙ ap (λ (l : List ℕ). r ∷ records_from w (Some r.seconds) l) (drop-append-le k s p (next_fits w last s r e))
    ∙ ap (λ (l : List Entry). r ∷ l) again
    ∙ ap (λ (l : List ℕ). r ∷ (rs ++ records_from w (last_from (Some r.seconds) rs) (l ++ p))) (drop-drop (sizes_of rs) k s)

cut_to : (n w : ℕ) (last : Option ℕ) (s p : List ℕ) → length s ≤ n → CutAt w last s p (records_from w last s)
cut_to zero w last s p h = records_cases w last s (λ r e q. absurd (omega (arith, next_fits w last s r e))) (λ q. rw q refl)
cut_to (suc n) w last s p h =
    records_cases w last s
    (λ r e q.
    let z : List ℕ = drop (record_size r.datagram) s in
    rw q (cut_some w last s p r (records_from w (Some r.seconds) z) e (cut_to n w (Some r.seconds) z p (simp length-drop (omega (arith, next_fits w last s r e))))))
    (λ q. rw q refl)

pub records_cut : (w : ℕ) (last : Option ℕ) (s p : List ℕ) → CutAt w last s p (records_from w last s)
records_cut w last s p = cut_to (length s) w last s p (omega arith)
