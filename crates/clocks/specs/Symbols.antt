-- Digits and symbols: what stands where a form has one, what it says, and how it is written.
use Rattle.std.specs.Prelude.{ℕ, ◌+◌, ◌-◌, ◌*◌, ◌/◌, ◌%◌, ◌≤◌, ◌<◌, ◌≡◌, refl, Bool, true, false, ◌&&◌, ◌||◌, List, [], ◌∷◌, get_or, drop, leb, ltb}
use Rattle.std.proofs.Common.{sym, ◌∙◌, le-leb, lt-ltb, le-ltb, leb-true, ltb-true, ltb-false, eqb-true, arith}
use Rattle.std.proofs.lemmas.Bool.{lt-leb}
use Rattle.refusal.specs.Test.{pick, both_left, both_right}
use Rattle.text.specs.Text.{digit, hex_of}
use Rattle.calendar.specs.Calendar.{figure, two}
use Rattle.clock_text.specs.Clock.{stands, symbol_of, number_in, byte_in}
use Rattle.clock_text.specs.Forms.{number_at, byte_at}

-- DIGITS. What stands for `0`
digit_range : (c : ℕ) → stands 48 c ≡ true → (48 ≤ c) × (c ≤ 57)
unfolding stands
digit_range c e = (leb-true 48 c (both_left (leb 48 c) (leb c 57) e), leb-true c 57 (both_right (leb 48 c) (leb c 57) e))

symbol_digit : (c : ℕ) → 48 ≤ c → c ≤ 57 → symbol_of c ≡ c - 48
symbol_digit c h l = rw (le-leb 48 c h, le-leb c 57 l)

pub figure_stands : (n : ℕ) → stands 48 (figure n) ≡ true
unfolding stands
figure_stands n = rw (le-leb 48 (figure n) (omega arith), le-leb (figure n) 57 (omega arith))

figure_says : (n : ℕ) → symbol_of (figure n) ≡ n % 10
figure_says n = symbol_digit (figure n) (omega arith) (omega arith) ∙ omega arith

-- two of them, written from the number that they say
pub two_says : (n : ℕ) (s : List ℕ) → n ≤ 99 → number_in (figure (n / 10) ∷ figure n ∷ s) ≡ n
unfolding number_in
two_says n s h = rw (figure_says (n / 10), figure_says n) (omega arith)

pub two_stand : (s : List ℕ) (i : ℕ) → stands 48 (get_or s i 0) ≡ true → stands 48 (get_or s (i + 1) 0) ≡ true
    → two (number_in (drop i s)) ≡ get_or s i 0 ∷ get_or s (i + 1) 0 ∷ []
two_stand s i p q =
    let a = digit_range (get_or s i 0) p in
    let b = digit_range (get_or s (i + 1) 0) q in
    let e : number_in (drop i s) ≡ (get_or s i 0 - 48) * 10 + (get_or s (i + 1) 0 - 48) =
    sym (number_at s i) ∙ rw (symbol_digit (get_or s i 0) a.0 a.1, symbol_digit (get_or s (i + 1) 0) b.0 b.1) in
    let x : figure (number_in (drop i s) / 10) ≡ get_or s i 0 = omega arith in
    let y : figure (number_in (drop i s)) ≡ get_or s (i + 1) 0 = omega arith in
    rw (x, y)

-- SYMBOLS. What stands for `F`: a digit or a letter
pub data Symbol (c : ℕ) : Type 0 where
  number : 48 ≤ c → c ≤ 57 → Symbol c
  letter : 65 ≤ c → c ≤ 70 → Symbol c

symbol_kind : (c : ℕ) → stands 70 c ≡ true → Symbol c
unfolding stands
symbol_kind c e = go (leb 48 c && leb c 57) refl e
  where
    go : (t : Bool) → leb 48 c && leb c 57 ≡ t → t || (leb 65 c && leb c 70) ≡ true → Symbol c
    go true f g = number (leb-true 48 c (both_left (leb 48 c) (leb c 57) f)) (leb-true c 57 (both_right (leb 48 c) (leb c 57) f))
    go false f g = letter (leb-true 65 c (both_left (leb 65 c) (leb c 70) g)) (leb-true c 70 (both_right (leb 65 c) (leb c 70) g))

symbol_letter : (c : ℕ) → 65 ≤ c → c ≤ 70 → symbol_of c ≡ c - 55
symbol_letter c h l =
    let m : 57 < c = omega arith in
    let k : 48 ≤ c = omega arith in
    rw (le-leb 48 c k, lt-leb c 57 m, le-leb 65 c h, le-leb c 70 l)

symbol_back : (c : ℕ) → Symbol c → (symbol_of c < 16) × (digit (symbol_of c) ≡ c)
symbol_back c (number h l) =
    let e = symbol_digit c h l in
    let m : c - 48 < 10 = omega arith in
    let d : 48 + (c - 48) ≡ c = omega arith in
    rw e (omega arith, rw (lt-ltb (c - 48) 10 m) d)
symbol_back c (letter h l) =
    let e = symbol_letter c h l in
    let m : 10 ≤ c - 55 = omega arith in
    let d : 55 + (c - 55) ≡ c = omega arith in
    rw e (omega arith, rw (le-ltb (c - 55) 10 m) d)

-- a number below 16, written
digit_kind : (n : ℕ) → n < 16 → (stands 70 (digit n) ≡ true) × (symbol_of (digit n) ≡ n)
unfolding stands
digit_kind n h = go (ltb n 10) refl
  where
    go : (t : Bool) → ltb n 10 ≡ t → (stands 70 (pick t (48 + n) (55 + n)) ≡ true) × (symbol_of (pick t (48 + n) (55 + n)) ≡ n)
    go true e =
        let l : n < 10 = ltb-true n 10 e in
        let a : 48 ≤ 48 + n = omega arith in
        let b : 48 + n ≤ 57 = omega arith in
        (rw (le-leb 48 (48 + n) a, le-leb (48 + n) 57 b), symbol_digit (48 + n) a b ∙ omega arith)
    go false e =
        let l : 10 ≤ n = ltb-false n 10 e in
        let a : 65 ≤ 55 + n = omega arith in
        let b : 55 + n ≤ 70 = omega arith in
        let k : 48 ≤ 55 + n = omega arith in
        let m : 57 < 55 + n = omega arith in
        (rw (le-leb 48 (55 + n) k, lt-leb (55 + n) 57 m, le-leb 65 (55 + n) a, le-leb (55 + n) 70 b), symbol_letter (55 + n) a b ∙ omega arith)

pub hex_stands : (w : ℕ) → w < 256 → (stands 70 (digit (w / 16)) ≡ true) × (stands 70 (digit (w % 16)) ≡ true)
hex_stands w h = ((digit_kind (w / 16) (omega arith)).0, (digit_kind (w % 16) (omega arith)).0)

pub hex_says : (w : ℕ) (s : List ℕ) → w < 256 → byte_in (digit (w / 16) ∷ digit (w % 16) ∷ s) ≡ w
unfolding byte_in
hex_says w s h = rw ((digit_kind (w / 16) (omega arith)).1, (digit_kind (w % 16) (omega arith)).1) (omega arith)

pub hex_stand : (s : List ℕ) (i : ℕ) → stands 70 (get_or s i 0) ≡ true → stands 70 (get_or s (i + 1) 0) ≡ true
    → (byte_in (drop i s) < 256) × (hex_of (byte_in (drop i s)) ≡ get_or s i 0 ∷ get_or s (i + 1) 0 ∷ [])
hex_stand s i p q =
    let a = symbol_back (get_or s i 0) (symbol_kind (get_or s i 0) p) in
    let b = symbol_back (get_or s (i + 1) 0) (symbol_kind (get_or s (i + 1) 0) q) in
    let e : byte_in (drop i s) ≡ symbol_of (get_or s i 0) * 16 + symbol_of (get_or s (i + 1) 0) = sym (byte_at s i) in
    let x : byte_in (drop i s) / 16 ≡ symbol_of (get_or s i 0) = omega (arith, a.0, b.0) in
    let y : byte_in (drop i s) % 16 ≡ symbol_of (get_or s (i + 1) 0) = omega (arith, a.0, b.0) in
    (omega (arith, a.0, b.0), rw (x, y, a.1, b.1))

-- what stands for another byte is that byte
pub colon : (c : ℕ) → stands 58 c ≡ true → c ≡ 58
unfolding stands
colon c e = eqb-true c 58 e

pub slash : (c : ℕ) → stands 47 c ≡ true → c ≡ 47
unfolding stands
slash c e = eqb-true c 47 e

pub blank : (c : ℕ) → stands 32 c ≡ true → c ≡ 32
unfolding stands
blank c e = eqb-true c 32 e

pub minus : (c : ℕ) → stands 45 c ≡ true → c ≡ 45
unfolding stands
minus c e = eqb-true c 45 e
