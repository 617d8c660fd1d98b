-- Texts that have room, as one run of bytes; and how many bytes are told of a line.
use Rattle.std.specs.Prelude.{ℕ, ◌+◌, ◌≤◌, ◌≡◌, Bool, true, false, List, [], ◌∷◌, ◌++◌, length, take, drop, eqb}
use Rattle.std.proofs.Common.{sym, ◌∙◌, length-append, take_at, length-take-le, le-leb, ne_eqb, arith}
use Rattle.refusal.specs.Test.{pick}
use Rattle.refusal.specs.Refusals.{number_of, number_one}
use Rattle.refusal.specs.declared.Refusal.{Refusal}
use Rattle.refusal.specs.declared.Refusal.TheVariants.{NotAClock}
use Rattle.refusal.specs.Answer.{Answer, refused, full}
use Rattle.lent.specs.Puts.{fits, over, over_none}
use Rattle.lent.specs.All.{place_all, buffer_all, PutsAll}
use Rattle.lent.specs.Over.{over_length, over_append}
use Rattle.words.specs.Words.{text}
use Rattle.text.specs.Decimal.{decimal_most}
use Rattle.clock_day.specs.Day.{Day}
use Rattle.clock_told.specs.Told.{refusal_text, not_a_clock, out_of_range, reason_text, refused_texts}

-- the bytes of texts, one behind the other
unfoldable pub bytes_of : List (List ℕ) → List ℕ
bytes_of [] = []
bytes_of (t ∷ ts) = t ++ bytes_of ts

-- texts that have room are put as one run
whole : (ts : List (List ℕ)) (out : List ℕ) (at : ℕ) → at + length (bytes_of ts) ≤ length out
    → (place_all ts out at ≡ at + length (bytes_of ts)) × (buffer_all ts out at ≡ over (bytes_of ts) out at)
unfolding bytes_of place_all buffer_all
whole [] out at h = (omega arith, sym (over_none out at))
whole (t ∷ ts) out at h =
    let n : length (t ++ bytes_of ts) ≡ length t + length (bytes_of ts) = length-append t (bytes_of ts) in
    let e : fits t out at ≡ true = le-leb (at + length t) (length out) (omega arith) in
    let l : length (over t out at) ≡ length out = over_length t out at (omega arith) in
    let r = whole ts (over t out at) (at + length t) (omega arith) in
    rw e (omega (arith, r.0), r.1 ∙ over_append t (bytes_of ts) out at (omega arith))

-- what then stands in front of the place behind them
pub over_front : (t out : List ℕ) (at : ℕ) → at ≤ length out → take (at + length t) (over t out at) ≡ take at out ++ t
over_front t out at h =
    let l : length (take at out ++ t) ≡ at + length t = length-append (take at out) t ∙ rw (length-take-le at out h) in
    take_at (take at out ++ t) (drop (at + length t) out) (at + length t) l

pub puts_bytes : {ts : List (List ℕ)} {out o : List ℕ} {at r : ℕ} → at + length (bytes_of ts) ≤ length out → PutsAll ts out at r o
    → (r ≡ at + length (bytes_of ts)) × (take r o ≡ take at out ++ bytes_of ts)
puts_bytes {ts} {out} {o} {at} {r} h p =
    let w = whole ts out at h in
    let a : r ≡ at + length (bytes_of ts) = p.says ∙ w.0 in
    let b : o ≡ over (bytes_of ts) out at = p.leaves ∙ w.1 in
    (a, rw (a, b) (over_front (bytes_of ts) out at (omega arith)))

-- a refusal that is not 21
pub other_number : (k : Refusal) → (k ≡ NotAClock → ⊥) → eqb (number_of k) 21 ≡ false
other_number k h = ne_eqb (number_of k) 21 (λ e. h (number_one k NotAClock e))

-- LENGTHS
pub bytes_append : (ts us : List (List ℕ)) → length (bytes_of (ts ++ us)) ≡ length (bytes_of ts) + length (bytes_of us)
unfolding bytes_of
bytes_append [] us = omega arith
bytes_append (t ∷ ts) us = simp length-append (omega (arith, bytes_append ts us))

pub refusal_most : (k : ℕ) → (length (refusal_text k) ≤ 15) × (length (reason_text k) ≤ 120)
refusal_most k = go (eqb k 21)
  where
    go : (t : Bool) → (length (pick t (text "21 NOT_A_CLOCK") (text "22 OUT_OF_RANGE")) ≤ 15) × (length (pick t not_a_clock out_of_range) ≤ 120)
    go true = (omega arith, omega arith)
    go false = (omega arith, omega arith)

-- no more than 256 bytes are told of a line
pub refused_most : (n : ℕ) (x : Answer Day) → length (bytes_of (refused_texts n x)) ≤ 256
unfolding refused_texts bytes_of
refused_most n (full d) = omega arith
refused_most n (refused k) = simp length-append (omega (arith, decimal_most 20 n, (refusal_most k).0, (refusal_most k).1))
