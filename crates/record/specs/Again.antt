-- A record that was put is read back, whatever stands behind it; and a record that was read is the bytes of what it told.
use Rattle.std.specs.Prelude.{ℕ, ◌+◌, ◌-◌, ◌<◌, ◌≡◌, List, ◌++◌, length, take, drop}
use Rattle.std.proofs.Common.{sym, ap, ◌∙◌, append_assoc, length-append, take-append-drop, take_at, drop_at, take-add, drop-drop, arith}
use Rattle.refusal.specs.Answer.{Answer, full}
use Rattle.sum.specs.Bytes.{Bytes, bytes_take, bytes_drop}
use Rattle.frame.specs.Frame.{listed, listed_take, length_listed}
use Rattle.order.specs.Order.{high_first, number_in}
use Rattle.order.specs.Big.{big_bytes}
use Rattle.order.specs.Numbers.{length_big, number_of_bytes, bytes_of_number}
use Rattle.event.specs.Reading.{Told, read_event}
use Rattle.led.specs.Led.{length_in, part_at}
use Rattle.led.specs.Cut.{follows}
use Rattle.record.specs.Found.{record_length, with_part_lem, holds}
use Rattle.record.specs.Record.{record_bytes, record_size, Entry, seconds_in, datagram_in, with_event, record_at}

regroup : (a b c d : List ℕ) → (a ++ (b ++ c)) ++ d ≡ a ++ (b ++ (c ++ d))
regroup a b c d = simp append_assoc

-- what can stand in a record: seconds in 32 bits, a datagram that the layout takes, of which the length has room
pub read_put : (w t : ℕ) (d : List ℕ) (e : Told) (s : List ℕ) → t < 4294967296 → length d < 65532 → read_event w d ≡ full e
    → record_at w (record_bytes t d ++ s) ≡ full (record { seconds = t; datagram = d; event = e })
read_put w t d e s ht hd r =
    let x : List ℕ = record_bytes t d ++ s in
    let n : ℕ = 4 + length d in
    let lx : length x ≡ 6 + length d + length s = length-append (record_bytes t d) s ∙ omega (arith, record_length t d) in
    let two : x ≡ big_bytes 2 n ++ (big_bytes 4 t ++ d ++ s) = regroup (big_bytes 2 n) (big_bytes 4 t) d s in
    let l2 : listed 0 2 x ≡ big_bytes 2 n = sym (listed_take 0 2 x (omega arith)) ∙ ap (take 2) two ∙ take_at (big_bytes 2 n) (big_bytes 4 t ++ d ++ s) 2 (length_big 2 n) in
    let ln : length_in x ≡ n = ap (number_in high_first 2) l2 ∙ number_of_bytes 2 n (omega arith) in
    let d2 : drop 2 x ≡ big_bytes 4 t ++ d ++ s = ap (drop 2) two ∙ drop_at (big_bytes 2 n) (big_bytes 4 t ++ d ++ s) 2 (length_big 2 n) in
    let l4 : listed 2 4 x ≡ big_bytes 4 t = sym (listed_take 2 4 x (omega arith)) ∙ ap (take 4) d2 ∙ take_at (big_bytes 4 t) (d ++ s) 4 (length_big 4 t) in
    let lt : seconds_in x ≡ t = ap (number_in high_first 4) l4 ∙ number_of_bytes 4 t (omega arith) in
    let d6 : drop 6 x ≡ d ++ s = sym (drop-drop 4 2 x) ∙ ap (drop 4) d2 ∙ drop_at (big_bytes 4 t) (d ++ s) 4 (length_big 4 t) in
    let dg : datagram_in n x ≡ d = ap (take (n - 4)) d6 ∙ take_at d s (n - 4) (omega arith) in
    let p : part_at x ≡ full n = sym (follows x n (sym ln) (omega arith) (omega arith)) in
    with_part_lem w x n p (omega arith)
    ∙ ap (λ (a : Answer Told). with_event a n x) (ap (read_event w) dg ∙ r)
    ∙ ap full (λ i. record { seconds = lt i; datagram = dg i; event = e })

-- a record that was read is the bytes of what it told
pub put_read : (w : ℕ) (s : List ℕ) (r : Entry) → Bytes s → record_at w s ≡ full r
    → (s ≡ record_bytes r.seconds r.datagram ++ drop (record_size r.datagram) s)
put_read w s r b e =
    let h = holds w s r e in
    let d : List ℕ = r.datagram in
    let l = h.fits in
    let two : big_bytes 2 (4 + length d) ≡ take 2 s =
    ap (big_bytes 2) (sym h.size)
    ∙ bytes_of_number 2 (listed 0 2 s) (length_listed 0 2 s) (rw (listed_take 0 2 s (omega arith)) at (bytes_take 2 (drop 0 s) (bytes_drop 0 s b)))
    ∙ sym (listed_take 0 2 s (omega arith)) in
    let four : big_bytes 4 r.seconds ≡ take 4 (drop 2 s) =
    ap (big_bytes 4) h.time
    ∙ bytes_of_number 4 (listed 2 4 s) (length_listed 2 4 s) (rw (listed_take 2 4 s (omega arith)) at (bytes_take 4 (drop 2 s) (bytes_drop 2 s b)))
    ∙ sym (listed_take 2 4 s (omega arith)) in
    let six : take 2 s ++ take 4 (drop 2 s) ≡ take 6 s = sym (take-add 2 4 s) in
    let all : take 6 s ++ take (length d) (drop 6 s) ≡ take (6 + length d) s = sym (take-add 6 (length d) s) in
    sym (take-append-drop (record_size d) s)
    ∙ ap (λ (l : List ℕ). l ++ drop (record_size d) s)
    (sym all ∙ ap (λ (l : List ℕ). take 6 s ++ l) (sym h.part) ∙ ap (λ (l : List ℕ). l ++ d) (sym six)
    ∙ append_assoc (take 2 s) (take 4 (drop 2 s)) d
    ∙ ap (λ (l : List ℕ). take 2 s ++ l) (ap (λ (l : List ℕ). l ++ d) (sym four))
    ∙ ap (λ (l : List ℕ). l ++ (big_bytes 4 r.seconds ++ d)) (sym two))
