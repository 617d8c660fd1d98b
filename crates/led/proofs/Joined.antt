-- A run is cut into what it was joined of, and only such a run is whole.
use Rattle.std.specs.Prelude.{ℕ, zero, suc, ◌+◌, ◌≤◌, ◌<◌, ◌≡◌, refl, List, [], ◌∷◌, ◌++◌, length, take, drop}
use Rattle.std.proofs.Common.{sym, ap, ◌∙◌, length-drop, length-append, take-append-drop, take_at, drop_at, drop-drop, length-take-le, arith}
use Rattle.refusal.specs.Test.{clash}
use Rattle.refusal.specs.Answer.{full, full_one}
use Rattle.sum.specs.Bytes.{Bytes, bytes_take, bytes_drop}
use Rattle.frame.specs.Frame.{listed, listed_take, length_listed}
use Rattle.order.specs.Order.{high_first, number_in}
use Rattle.order.specs.Big.{big_bytes}
use Rattle.order.specs.Numbers.{length_big, number_of_bytes, bytes_of_number}
use Rattle.led.specs.Led.{length_in, part_at, with_part, parts_up_to, parts_of}
use Rattle.led.specs.Cut.{follows, part_there}
use Rattle.led.proofs.Parts.{parts_end, parts_next, with_full, up_to_cases}
use Rattle.led.specs.Joined.{joined, Short}

part_joined : (p s : List ℕ) → length p < 65536 → part_at (big_bytes 2 (length p) ++ (p ++ s)) ≡ full (length p)
part_joined p s h =
    let n : ℕ = length p in
    let x : List ℕ = big_bytes 2 n ++ (p ++ s) in
    let l : length x ≡ 2 + n + length s = length-append (big_bytes 2 n) (p ++ s) ∙ omega (arith, length_big 2 n, length-append p s) in
    let two : listed 0 2 x ≡ big_bytes 2 n = sym (listed_take 0 2 x (omega arith)) ∙ take_at (big_bytes 2 n) (p ++ s) 2 (length_big 2 n) in
    let k : length_in x ≡ n = ap (number_in high_first 2) two ∙ number_of_bytes 2 n (omega arith) in
    sym (follows x n (sym k) (omega arith) (omega arith))

pub cut_joined : (ps : List (List ℕ)) → Short ps → parts_of (joined ps) ≡ full ps
unfolding joined
cut_joined [] h = parts_end [] refl
cut_joined (p ∷ ps) h =
    let n : ℕ = length p in
    let s : List ℕ = big_bytes 2 n ++ (p ++ joined ps) in
    let d : drop 2 s ≡ p ++ joined ps = drop_at (big_bytes 2 n) (p ++ joined ps) 2 (length_big 2 n) in
    let t : take n (drop 2 s) ≡ p = ap (take n) d ∙ take_at p (joined ps) n refl in
    let r : drop (2 + n) s ≡ joined ps = sym (drop-drop n 2 s) ∙ ap (drop n) d ∙ drop_at p (joined ps) n refl in
    parts_next s n (part_joined p (joined ps) h.0)
    ∙ ap (λ (z : List ℕ). with_part (take n (drop 2 s)) (parts_of z)) r
    ∙ ap (with_part (take n (drop 2 s))) (cut_joined ps h.1)
    ∙ ap (λ (q : List ℕ). full (q ∷ ps)) t

none : (s : List ℕ) → length s ≡ 0 → [] ≡ s
none [] h = refl
none (b ∷ s) h = absurd (omega arith)

up_to_joined : (n : ℕ) (s : List ℕ) (ps : List (List ℕ)) → Bytes s → length s ≤ n → parts_up_to n s ≡ full ps → joined ps ≡ s
unfolding parts_up_to joined
up_to_joined zero s ps b l e = let z : ps ≡ [] = sym (full_one e) in rw z (none s (omega arith))
up_to_joined (suc n) s ps b l e =
    up_to_cases n s
    (λ h f. let z : ps ≡ [] = full_one (sym e ∙ f) in rw z (none s h))
    (λ k g f. clash (cc))
    (λ m g f.
    with_full (take m (drop 2 s)) (parts_up_to n (drop (2 + m) s)) ps
    (λ qs h z.
    let there = part_there s m g in
    let p : List ℕ = take m (drop 2 s) in
    let k : length p ≡ m = length-take-le m (drop 2 s) (omega (arith, there.1, length-drop 2 s)) in
    let two : big_bytes 2 (length p) ≡ take 2 s =
    ap (big_bytes 2) (k ∙ there.0)
    ∙ bytes_of_number 2 (listed 0 2 s) (length_listed 0 2 s) (rw (listed_take 0 2 s (omega (arith, there.1))) at (bytes_take 2 (drop 0 s) (bytes_drop 0 s b)))
    ∙ sym (listed_take 0 2 s (omega (arith, there.1))) in
    let rest : joined qs ≡ drop m (drop 2 s) =
    up_to_joined n (drop (2 + m) s) qs (bytes_drop (2 + m) s b) (omega (arith, there.1, length-drop (2 + m) s)) h ∙ sym (drop-drop m 2 s) in
    ap joined z
    ∙ ap (λ (q : List ℕ). big_bytes 2 (length p) ++ (p ++ q)) rest
    ∙ ap (λ (q : List ℕ). big_bytes 2 (length p) ++ q) (take-append-drop m (drop 2 s))
    ∙ ap (λ (q : List ℕ). q ++ drop 2 s) two
    ∙ take-append-drop 2 s)
    (sym f ∙ e))

-- a run that was cut is its parts joined
pub joined_cut : (s : List ℕ) (ps : List (List ℕ)) → Bytes s → parts_of s ≡ full ps → joined ps ≡ s
joined_cut s ps b e = up_to_joined (length s) s ps b (omega arith) e
