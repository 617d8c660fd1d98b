-- A text that is put in steps, made aside: in a buffer that has room for it.
use Rattle.std.specs.Prelude.{ℕ, ◌+◌, ◌/◌, ◌≤◌, ◌≡◌, refl, List, [], ◌∷◌, ◌++◌, length, take, drop}
use Rattle.std.proofs.Common.{sym, length-append, arith}
use Rattle.std.proofs.Math.Seq.{take-append_seam}
use Rattle.lent.specs.Puts.{place_after, buffer_after, Puts, over_none, room}
use Rattle.lent.specs.All.{place_all, buffer_all, PutsAll}
use Rattle.lent.specs.Over.{puts_room, puts_length, puts_then}
use Rattle.text.specs.Decimal.{decimal_most}
use Rattle.figures.specs.Figures.{whole, span_texts, span_text}

-- where all have room, texts put one behind the other are the whole of them put
pub all_room : (ts : List (List ℕ)) {out o : List ℕ} {at r : ℕ} → at + length (whole ts) ≤ length out → PutsAll ts out at r o → Puts (whole ts) out at r o
unfolding place_all buffer_all
all_room [] {out} {o} {at} {r} h p = room [] out o at r h (omega (arith, p.says)) (rw p.leaves (sym (over_none out at)))
all_room (t ∷ ts) {out} {o} {at} {r} h p =
    let l : length (t ++ whole ts) ≡ length t + length (whole ts) = length-append t (whole ts) in
    let q : Puts t out at (place_after t out at) (buffer_after t out at) = record { says = refl; leaves = refl } in
    let a = puts_room {t = t} {out = out} (omega arith) q in
    let k = puts_length q in
    puts_then {t = t} (omega arith) q (all_room ts (omega (arith, a.0)) (record { says = p.says; leaves = p.leaves }))

-- a text put at the start of a buffer that has room for it stands there
pub aside : (t : List ℕ) {out o : List ℕ} {r : ℕ} → length t ≤ length out → Puts t out 0 r o → (r ≡ length t) × (take r o ≡ t) × (r ≤ length o)
aside t {out} {o} {r} h p =
    let a = puts_room {t = t} {out = out} (omega arith) p in
    let e : r ≡ length t = omega (arith, a.0) in
    (e, rw (e, a.1) (take-append_seam t (drop (0 + length t) out)), omega (arith, puts_length p))

-- a span has 29 bytes at most
pub span_most : (s : ℕ) → length (span_text s) ≤ 29
span_most s = simp length-append (omega (arith, decimal_most 20 (s / 3600)))

-- so a span is made aside
pub span_aside : (s : ℕ) {out o : List ℕ} {r : ℕ} → length out ≡ 29 → PutsAll (span_texts s) out 0 r o
    → (r ≡ length (span_text s)) × (take r o ≡ span_text s) × (r ≤ length o)
span_aside s n p =
    let m = span_most s in
    aside (span_text s) (omega arith) (all_room (span_texts s) (omega arith) p)
