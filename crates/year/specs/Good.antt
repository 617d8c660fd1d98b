-- Records that can stand one behind the other, and their bytes: each tells the other.
use Rattle.std.specs.Prelude.{Option, Some, ℕ, zero, suc, ◌+◌, ◌<◌, ◌≡◌, refl, true, List, [], ◌∷◌, ◌++◌, length, drop}
use Rattle.std.proofs.Common.{sym, ap, ◌∙◌, append_assoc, length-append, length-drop, drop_at, drop-drop, arith}
use Rattle.refusal.specs.Answer.{full}
use Rattle.sum.specs.Bytes.{Bytes, bytes_take, bytes_drop}
use Rattle.frame.specs.Frame.{listed, listed_take, length_listed}
use Rattle.order.specs.Numbers.{number_below}
use Rattle.event.specs.Reading.{read_event}
use Rattle.record.specs.Record.{Entry, record_bytes, record_size}
use Rattle.record.specs.Found.{holds, record_length}
use Rattle.record.specs.Again.{read_put, put_read}
use Rattle.summary.specs.Summary.{last_from, not_before}
use Rattle.capture.specs.Capture.{next_at, records_from, sizes_of}
use Rattle.capture.specs.Walk.{next_is, is_next, next_fits, records_next, records_cases}

-- the bytes of some records, one behind the other
abbrev pub bytes_of : List Entry → List ℕ
bytes_of [] = []
bytes_of (r ∷ rs) = record_bytes r.seconds r.datagram ++ bytes_of rs

pub length_bytes : (rs : List Entry) → length (bytes_of rs) ≡ sizes_of rs
length_bytes [] = refl
length_bytes (r ∷ rs) =
    length-append (record_bytes r.seconds r.datagram) (bytes_of rs)
    ∙ omega (arith, record_length r.seconds r.datagram, length_bytes rs)

pub bytes_of_append : (rs qs : List Entry) → bytes_of (rs ++ qs) ≡ bytes_of rs ++ bytes_of qs
bytes_of_append [] qs = refl
bytes_of_append (r ∷ rs) qs =
    ap (λ (l : List ℕ). record_bytes r.seconds r.datagram ++ l) (bytes_of_append rs qs)
    ∙ sym (append_assoc (record_bytes r.seconds r.datagram) (bytes_of rs) (bytes_of qs))

-- what a record has that can stand behind one of these seconds: seconds in 32 bits, a datagram whose length has room, and that its layout
-- takes, and it is not before the one that it follows
pub record Fits (w : ℕ) (last : Option ℕ) (r : Entry) : Type 0 where
  pub short : r.seconds < 4294967296
  pub room : length r.datagram < 65532
  pub reads : read_event w r.datagram ≡ full r.event
  pub later : not_before last r.seconds ≡ true

-- records that can stand one behind the other, the first behind one of these seconds
abbrev pub Good : ℕ → Option ℕ → List Entry → Type 0
Good w last [] = Unit {0}
Good w last (r ∷ rs) = Fits w last r × Good w (Some r.seconds) rs

-- the first of them, and the others behind the last of those
pub good_split : (w : ℕ) (last : Option ℕ) (rs qs : List Entry) → Good w last (rs ++ qs) → Good w last rs × Good w (last_from last rs) qs
good_split w last [] qs g = (tt, g)
good_split w last (r ∷ rs) qs g = let h = good_split w (Some r.seconds) rs qs g.1 in ((g.0, h.0), h.1)

pub good_append : (w : ℕ) (last : Option ℕ) (rs qs : List Entry) → Good w last rs → Good w (last_from last rs) qs → Good w last (rs ++ qs)
good_append w last [] qs g h = h
good_append w last (r ∷ rs) qs g h = (g.0, good_append w (Some r.seconds) rs qs g.1 h)

-- one that was put is the next, whatever stands behind it
pub next_put : (w : ℕ) (last : Option ℕ) (r : Entry) (s : List ℕ) → Fits w last r → next_at w last (record_bytes r.seconds r.datagram ++ s) ≡ full r
next_put w last r s f =
    is_next w last (record_bytes r.seconds r.datagram ++ s) r
    (read_put w r.seconds r.datagram r.event s f.short f.room f.reads) f.later

-- GOOD RECORDS ARE FOUND in their bytes, whatever stands behind them, and then those that stand there
pub records_found : (w : ℕ) (last : Option ℕ) (rs : List Entry) (s : List ℕ) → Good w last rs
    → records_from w last (bytes_of rs ++ s) ≡ rs ++ records_from w (last_from last rs) s
records_found w last [] s g = refl
records_found w last (r ∷ rs) s g =
    let x : List ℕ = record_bytes r.seconds r.datagram in
    let z : List ℕ = bytes_of rs ++ s in
    ap (records_from w last) (append_assoc x (bytes_of rs) s)
    ∙ records_next w last (x ++ z) r (next_put w last r z g.0)
    ∙ ap (λ (l : List ℕ). r ∷ records_from w (Some r.seconds) l) (drop_at x z (record_size r.datagram) (record_length r.seconds r.datagram))
    ∙ ap (λ (l : List Entry). r ∷ l) (records_found w (Some r.seconds) rs s g.1)

-- what comes next in some bytes can stand there
pub next_good : (w : ℕ) (last : Option ℕ) (s : List ℕ) (r : Entry) → Bytes s → next_at w last s ≡ full r → Fits w last r
next_good w last s r b e =
    let n = next_is w last s r e in
    let h = holds w s r n.0 in
    let l = h.fits in
    let two : Bytes (listed 0 2 s) = rw (listed_take 0 2 s (omega arith)) at (bytes_take 2 (drop 0 s) (bytes_drop 0 s b)) in
    let four : Bytes (listed 2 4 s) = rw (listed_take 2 4 s (omega arith)) at (bytes_take 4 (drop 2 s) (bytes_drop 2 s b)) in
    record {
      short = omega (arith, h.time, number_below 4 (listed 2 4 s) (length_listed 2 4 s) four);
      room = omega (arith, h.size, number_below 2 (listed 0 2 s) (length_listed 0 2 s) two);
      reads = h.reads;
      later = n.1;
    }

-- THE RECORDS THAT ARE FOUND in some bytes are good
pub found_good : (w : ℕ) (last : Option ℕ) (s : List ℕ) → Bytes s → Good w last (records_from w last s)
found_good w last s b = go (suc (length s)) last s b (omega arith)
  where
    go : (n : ℕ) (last : Option ℕ) (s : List ℕ) → Bytes s → length s < n → Good w last (records_from w last s)
    go zero last s b h = absurd (omega arith)
    go (suc n) last s b h =
        records_cases w last s
        (λ r e q.
        let f = next_fits w last s r e in
        let k : ℕ = record_size r.datagram in
        rw q (next_good w last s r b e, go n (Some r.seconds) (drop k s) (bytes_drop k s b) (simp length-drop (omega arith))))
        (λ q. rw q tt)

-- and their bytes are the front of these
pub found_bytes : (w : ℕ) (last : Option ℕ) (s : List ℕ) → Bytes s
    → s ≡ bytes_of (records_from w last s) ++ drop (sizes_of (records_from w last s)) s
found_bytes w last s b = go (suc (length s)) last s b (omega arith)
  where
    go : (n : ℕ) (last : Option ℕ) (s : List ℕ) → Bytes s → length s < n
        → s ≡ bytes_of (records_from w last s) ++ drop (sizes_of (records_from w last s)) s
    go zero last s b h = absurd (omega arith)
    go (suc n) last s b h =
        records_cases w last s
        (λ r e q.
        let f = next_fits w last s r e in
        let k : ℕ = record_size r.datagram in
        let x : List ℕ = record_bytes r.seconds r.datagram in
        let qs : List Entry = records_from w (Some r.seconds) (drop k s) in
        let a : s ≡ x ++ drop k s = put_read w s r b (next_is w last s r e).0 in
        let c : drop k s ≡ bytes_of qs ++ drop (sizes_of qs) (drop k s) = go n (Some r.seconds) (drop k s) (bytes_drop k s b) (simp length-drop (omega arith)) in
        a ∙ ap (λ (l : List ℕ). x ++ l) (c ∙ ap (λ (l : List ℕ). bytes_of qs ++ l) (drop-drop (sizes_of qs) k s))
        ∙ sym (append_assoc x (bytes_of qs) (drop (k + sizes_of qs) s))
        ∙ ap (λ (l : List Entry). bytes_of l ++ drop (sizes_of l) s) (sym q))
        (λ q. ap (λ (l : List Entry). bytes_of l ++ drop (sizes_of l) s) (sym q))
