-- The line of an item put in steps: what stands in front of its bytes, these in hexadecimal, a line feed.
use Rattle.std.specs.Prelude.{ℕ, suc, ◌+◌, ◌*◌, ◌/◌, ◌%◌, ◌≤◌, ◌<◌, ◌≡◌, refl, List, [], ◌∷◌, ◌++◌, length, get_or, take, drop, set}
use Rattle.std.proofs.Common.{sym, ap, ◌∙◌, append_assoc, length-append, take-suc, length-take-le, add-one, arith}
use Rattle.std.proofs.Math.Seq.{take-append_seam}
use Rattle.std.proofs.lemmas.List.Edits.{sets-eq}
use Rattle.text.specs.Text.{digit, hex_of, decimal_of}
use Rattle.lent.specs.Puts.{over, Puts}
use Rattle.lent.specs.Over.{over_length, over_append, puts_room, puts_length, puts_then, puts_byte}
use Rattle.text.specs.Decimal.{decimal_most}
use Rattle.stream.specs.Stream.{reading}
use Rattle.text.specs.Digits.{decimal_one, decimal_two}
use Rattle.printed.specs.Text.{blank, line_feed, hexes, head_of, head_most, line_of}
use Rattle.printed.specs.Length.{hexes_length, head_most_lem}

pub hexes_append : (s t : List ℕ) → hexes (s ++ t) ≡ hexes s ++ hexes t
unfolding hexes
hexes_append [] t = refl
hexes_append (b ∷ s) t = ap (λ (l : List ℕ). hex_of b ++ l) (hexes_append s t)

-- a line is what stands in front of the bytes, and then these
line_head : (k : ℕ) (s : List ℕ) → head_of k (length s) ++ (hexes s ++ (line_feed ∷ [])) ≡ line_of (reading k s)
line_head k s = simp append_assoc

-- what stands in front, where the number has one digit and the count one, or two
pub head_one : (k n : ℕ) → k < 10 → n < 10 → head_of k n ≡ (48 + k) ∷ blank ∷ (48 + n) ∷ blank ∷ []
head_one k n h l = rw (decimal_one k h, decimal_one n l)

pub head_two : (k n : ℕ) → k < 10 → 10 ≤ n → n < 100 → head_of k n ≡ (48 + k) ∷ blank ∷ (48 + n / 10) ∷ (48 + n % 10) ∷ blank ∷ []
head_two k n h g l = rw (decimal_one k h, decimal_two n g l)

-- one byte more in hexadecimal, its two digits stored behind those before it
pub hexes_take : (s : List ℕ) (i : ℕ) → i < length s → hexes (take (suc i) s) ≡ hexes (take i s) ++ hex_of (get_or s i 0)
unfolding hexes
hexes_take s i h = ap hexes (take-suc s i 0 h) ∙ hexes_append (take i s) (get_or s i 0 ∷ [])

pub hex_turn : (s out out' : List ℕ) (at i x y : ℕ) → i < length s → at + 2 * length s ≤ length out → out' ≡ over (hexes (take i s)) out at
    → x ≡ digit (get_or s i 0 / 16) → y ≡ digit (get_or s i 0 % 16)
    → set (set out' (at + 2 * i) x) (at + 2 * i + 1) y ≡ over (hexes (take (i + 1) s)) out at
hex_turn s out out' at i x y h room e ex ey =
    let b : ℕ = get_or s i 0 in
    let l : length (hexes (take i s)) ≡ 2 * i = hexes_length (take i s) ∙ rw (length-take-le i s (omega arith)) in
    let o : over (hex_of b) (over (hexes (take i s)) out at) (at + length (hexes (take i s))) ≡ over (hexes (take i s) ++ hex_of b) out at =
    over_append (hexes (take i s)) (hex_of b) out at (omega arith) in
    rw (add-one, add-one, ex, ey, e, hexes_take s i h)
    (sets-eq (hex_of b) (over (hexes (take i s)) out at) (at + 2 * i) (omega (arith, over_length (hexes (take i s)) out at (omega arith))) ∙ rw (← l) o)

-- what stands in front of the bytes, put in four steps into a buffer that has room for two numbers of 20 digits
pub head_puts : (k n : ℕ) {out o o' o'' p : List ℕ} {a b c r : ℕ} → head_most ≤ length out
    → Puts (decimal_of k) out 0 a o → Puts (blank ∷ []) o a b o' → Puts (decimal_of n) o' b c o'' → Puts (blank ∷ []) o'' c r p → Puts (head_of k n) out 0 r p
head_puts k n {out} {o} {o'} {o''} h first then third last =
    let x = puts_room {t = decimal_of k} {out = out} (omega (arith, decimal_most 20 k)) first in
    let y = puts_room {t = blank ∷ []} {out = o} (omega (arith, decimal_most 20 k, x.0, puts_length first)) then in
    let m : length (decimal_of k) ≤ 20 = decimal_most 20 k in
    let w : length (decimal_of n) ≤ 20 = decimal_most 20 n in
    let l = puts_length first in
    let l' = puts_length then in
    puts_then {t = decimal_of k} (omega (arith, length-append (decimal_of n) (blank ∷ []))) first
    (puts_then {t = blank ∷ []} (omega (arith, x.0, length-append (decimal_of n) (blank ∷ []))) then
    (puts_then {t = decimal_of n} (omega (arith, x.0, y.0)) third last))

-- and then it stands at the buffer's start
pub head_aside : (k n : ℕ) {out o : List ℕ} {r : ℕ} → head_most ≤ length out → Puts (head_of k n) out 0 r o
    → (r ≡ length (head_of k n)) × (take r o ≡ head_of k n) × (r ≤ length o)
head_aside k n {out} {o} {r} h p =
    let m = head_most_lem k n in
    let a = puts_room {t = head_of k n} {out = out} (omega arith) p in
    let e : r ≡ length (head_of k n) = omega (arith, a.0) in
    (e, rw (e, a.1) (take-append_seam (head_of k n) (drop (0 + length (head_of k n)) out)), omega (arith, puts_length p))

-- a line put in three steps: what stands in front of the bytes, the bytes, the line feed
pub line_parts : (k : ℕ) (s : List ℕ) → length (line_of (reading k s)) ≡ length (head_of k (length s)) + 2 * length s + 1
line_parts k s = sym (ap length (line_head k s)) ∙ simp (length-append, hexes_length) (omega arith)

module _ (k : ℕ) (s out : List ℕ) (at : ℕ) (fit : at + length (line_of (reading k s)) ≤ length out) where
  pub head_put : {o : List ℕ} {h : ℕ} → Puts (head_of k (length s)) out at h o → (h + 2 * length s < length o) × (length o ≡ length out)
  head_put p =
      let l = line_parts k s in
      let e = puts_length p in
      (omega (arith, (puts_room {t = head_of k (length s)} {out = out} {at = at} (omega arith) p).0), e)

  pub bytes_put : {o o' : List ℕ} {h e : ℕ} → Puts (head_of k (length s)) out at h o → Puts (hexes s) o h e o' → (e < length o') × (length o' ≡ length out)
  bytes_put {o} {o'} {h} {e} p q =
      let l = hexes_length s in
      let a = head_put p in
      let b = puts_room {t = hexes s} {out = o} {at = h} (omega arith) q in
      let c = puts_length q in
      (omega (arith, b.0), omega arith)

  pub line_put : {o o' : List ℕ} {h e : ℕ} → Puts (head_of k (length s)) out at h o → Puts (hexes s) o h e o'
      → Puts (line_of (reading k s)) out at (e + 1) (set o' e line_feed)
  line_put {o} {o'} {h} {e} p q =
      let l = line_parts k s in
      let a = head_put p in
      rw (← line_head k s)
      (puts_then {t = head_of k (length s)} (omega (arith, hexes_length s, length-append (hexes s) (line_feed ∷ []))) p
      (puts_then {t = hexes s} (omega (arith, hexes_length s)) q (puts_byte line_feed o' e (bytes_put p q).0)))
