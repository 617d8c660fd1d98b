-- A text put over a buffer behind another is both put at once.
use Rattle.std.specs.Prelude.{ℕ, ◌+◌, ◌≤◌, ◌<◌, ◌≡◌, refl, Bool, true, false, List, [], ◌∷◌, ◌++◌, length, take, drop, set}
use Rattle.std.proofs.Common.{ap, ◌∙◌, append_assoc, length-append, length-take, length-drop, take_at, drop-drop, length-take-le, le-leb, leb-true, arith}
use Rattle.std.proofs.Math.Seq.{drop-append-add}
use Rattle.refusal.specs.Test.{pick}
use Rattle.lent.specs.Puts.{fits, over, Puts, room, stored}

pub over_length : (t out : List ℕ) (at : ℕ) → at + length t ≤ length out → length (over t out at) ≡ length out
over_length t out at h = simp (length-append, length-take, length-drop) (omega arith)

pub over_append : (t u out : List ℕ) (at : ℕ) → at + length t + length u ≤ length out → over u (over t out at) (at + length t) ≡ over (t ++ u) out at
over_append t u out at h =
    let front : List ℕ = take at out ++ t in
    let l : length front ≡ at + length t = length-append (take at out) t ∙ rw (length-take-le at out (omega arith)) in
    let a : take (at + length t) (over t out at) ≡ front = take_at front (drop (at + length t) out) (at + length t) l in
    let b : drop (at + length t + length u) (over t out at) ≡ drop (at + length t + length u) out =
    rw (← l, drop-append-add front (drop (length front) out) (length u), drop-drop (length u) (length front) out) in
    let c : at + length (t ++ u) ≡ at + length t + length u = omega (arith, length-append t u) in
    rw (a, b, c) (simp append_assoc)

-- where a text has room, the place behind it and the buffer with it
pub puts_room : {t out out' : List ℕ} {at r : ℕ} → at + length t ≤ length out → Puts t out at r out' → (r ≡ at + length t) × (out' ≡ over t out at)
puts_room {t} {out} {out'} {at} {r} h p =
    let e : fits t out at ≡ true = le-leb (at + length t) (length out) h in
    (p.says ∙ rw e, p.leaves ∙ rw e)

-- the buffer keeps its length
pub puts_length : {t out out' : List ℕ} {at r : ℕ} → Puts t out at r out' → length out' ≡ length out
puts_length {t} {out} {out'} {at} p = ap length p.leaves ∙ go (fits t out at) refl
  where
    go : (x : Bool) → fits t out at ≡ x → length (pick x (over t out at) out) ≡ length out
    go true e = over_length t out at (leb-true (at + length t) (length out) e)
    go false e = refl

-- a text put, and another behind it
pub puts_then : {t u out o o' : List ℕ} {at m r : ℕ} → at + length t + length u ≤ length out → Puts t out at m o → Puts u o m r o' → Puts (t ++ u) out at r o'
puts_then {t} {u} {out} {o} {o'} {at} {m} {r} h p q =
    let a = puts_room {t = t} {out = out} (omega arith) p in
    let l = puts_length p in
    let b = puts_room {t = u} {out = o} (omega (arith, a.0)) q in
    room (t ++ u) out o' at r (omega (arith, length-append t u)) (omega (arith, length-append t u, a.0, b.0))
    (b.1 ∙ rw (a.0, a.1) (over_append t u out at h))

-- a byte stored
pub puts_byte : (x : ℕ) (out : List ℕ) (at : ℕ) → at < length out → Puts (x ∷ []) out at (at + 1) (set out at x)
puts_byte x out at h = stored (x ∷ []) out at (at + 1) (omega arith) refl
