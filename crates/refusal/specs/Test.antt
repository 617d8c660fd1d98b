-- A choice by a test, and what is known where a test came out one way.
use Rattle.std.specs.Prelude.{ℕ, ◌≡◌, refl, Bool, true, false, ◌&&◌}
use Rattle.std.proofs.Common.{le-leb, le-ltb, lt-ltb, eq-eqb, ne_eqb, arith}
use Rattle.std.proofs.lemmas.Bool.{lt-leb}

-- the first where the test holds, else the second
abbrev pub pick : {A : Type 0} → Bool → A → A → A
pick true a b = a
pick false a b = b

-- a test as a number
abbrev pub flag : Bool → ℕ
flag true = 1
flag false = 0

-- a test's value from what is known of its numbers: for `search (tests, needs)`
pub ruleset tests = (le-leb, lt-leb, le-ltb, lt-ltb, eq-eqb, ne_eqb)

pub pick_elim : {A : Type 0} {P : Type 0} (t : Bool) {x y i : A} → (t ≡ true → x ≡ i → P) → (t ≡ false → y ≡ i → P) → pick t x y ≡ i → P
pick_elim true f g e = f refl e
pick_elim false f g e = g refl e

-- what contradicts itself shows anything: `clash (cc)`, where the equations at hand make 0 of 1
pub clash : {P : Type 0} → ◌≡◌ {A = ℕ} 0 1 → P
clash e = absurd (omega arith)

-- no test comes out both ways
pub not_both : {P : Type 0} {t : Bool} → t ≡ true → t ≡ false → P
not_both e f = clash (cc)

-- both tests of a pair, and one of two
pub both_left : (a b : Bool) → a && b ≡ true → a ≡ true
both_left true b e = refl
both_left false b e = e

pub both_right : (a b : Bool) → a && b ≡ true → b ≡ true
both_right true b e = e
both_right false b e = clash (cc)
