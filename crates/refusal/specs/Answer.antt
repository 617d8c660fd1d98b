-- Document 01, "Refusals, by number": "Given exactly when" and "The lowest number that applies is given, everywhere."
use Rattle.std.specs.Prelude.{ℕ, ◌≡◌, refl, Bool, true, false, Result, Ok, Err}
use Rattle.std.proofs.Common.{sym, ap, ◌∙◌}
use Rattle.refusal.specs.Test.{pick, clash}
use Rattle.refusal.specs.Refusals.{number_of, number_one}
use Rattle.refusal.specs.declared.Refusal.{Refusal}

-- what a call answers: a refusal, by its number, or a full answer
pub data Answer (A : Type 0) : Type 0 where
  refused : ℕ → Answer A
  full : A → Answer A

-- whether an answer is no refusal
abbrev pub is_full : {A : Type 0} → Answer A → Bool
is_full (refused k) = false
is_full (full x) = true

-- refusal k unless the test holds. A definition makes its demands in the order of their numbers, so the lowest that applies is given
abbrev pub demand : {A : Type 0} → Bool → ℕ → Answer A → Answer A
demand t k x = pick t x (refused k)

-- a full answer met each demand
pub demand_elim : {A : Type 0} {P : Type 0} (t : Bool) (k : ℕ) {x : Answer A} {v : A} → (t ≡ true → x ≡ full v → P) → demand t k x ≡ full v → P
demand_elim true k f e = f refl e
demand_elim false k f e = clash (cc)

-- two full answers that are equal are full of the same, and no full answer is a refusal
pub full_one : {A : Type 0} {v w : A} → full v ≡ full w → v ≡ w
full_one e = cc

-- A contract `said r ≡ v` leaves no choice where `said` tells the answers apart: any two results that it allows are equal. `said_one` below
-- is that law of `said`, and `said_of_one` (SaidOf.antt) that of `said_of`
pub determined : {X A : Type 0} (said : X → Answer A) → ((x y : X) → said x ≡ said y → x ≡ y) → {v : Answer A} (x y : X) → said x ≡ v → said y ≡ v → x ≡ y
determined said one x y p q = one x y (p ∙ sym q)

-- what an answer says, told by a look at which answer it is
pub told : {X A : Type 0} (said : X → Answer A) {v : Answer A} (x : X) {y : X} → said x ≡ v → x ≡ y → v ≡ said y
told said x e f = sym e ∙ ap said f

-- what a function's answer says, of what it holds: "document 01's number and values for each case"
abbrev pub said_of : {A B : Type 0} → (A → B) → Result A Refusal → Answer B
said_of f (Err r) = refused (number_of r)
said_of f (Ok x) = full (f x)

-- and of what it holds as it stands
abbrev pub said : {A : Type 0} → Result A Refusal → Answer A
said (Err r) = refused (number_of r)
said (Ok x) = full x

refused_one : {A : Type 0} {j k : ℕ} → ◌≡◌ {A = Answer A} (refused j) (refused k) → j ≡ k
refused_one e = cc

pub said_one : {A : Type 0} (x y : Result A Refusal) → said x ≡ said y → x ≡ y
said_one (Err r) (Err s) e = ap Err (number_one r s (refused_one e))
said_one (Err r) (Ok y) e = cc
said_one (Ok x) (Err s) e = cc
said_one (Ok x) (Ok y) e = ap Ok (full_one e)
