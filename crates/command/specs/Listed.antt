-- Which colour types are listed, by their numbers, and how many bytes of colour data one has.
use Rattle.std.specs.Prelude.{ℕ, ◌≤◌, ◌<◌, ◌≡◌, Bool, List, [], ◌∷◌, ltb}
use Rattle.std.proofs.Math.Path.{refl}
use Rattle.std.proofs.Math.Bool.{true, false}
use Rattle.std.proofs.Math.Dec.{eqb}
use Rattle.std.proofs.Common.{ltb-true, eqb-true, ne_eqb, arith}
use Rattle.refusal.specs.Test.{pick, clash}
use Rattle.command.specs.Count.{count_below}
use Rattle.command.specs.Colours.{xy_type, tc_type, rgbwaf_type, widths_of, total, data_bytes, is_type}

-- what holds of the three lists of channels and of none, holds of each type's
module _ (P : ℕ → List ℕ → Type 0) (xy : P xy_type (2 ∷ 2 ∷ [])) (tc : P tc_type (2 ∷ []))
    (rgbwaf : P rgbwaf_type (1 ∷ 1 ∷ 1 ∷ 1 ∷ 1 ∷ 1 ∷ [])) (none : (k : ℕ) → P k []) where
  pub by_type : (k : ℕ) → P k (widths_of k)
  unfolding widths_of
  by_type k = go (eqb k xy_type) refl (eqb k tc_type) refl (eqb k rgbwaf_type) refl
    where
      go : (a : Bool) → eqb k xy_type ≡ a → (b : Bool) → eqb k tc_type ≡ b → (c : Bool) → eqb k rgbwaf_type ≡ c
          → P k (pick a (2 ∷ 2 ∷ []) (pick b (2 ∷ []) (pick c (1 ∷ 1 ∷ 1 ∷ 1 ∷ 1 ∷ 1 ∷ []) [])))
      go true e b f c g = rw (eqb-true k xy_type e) xy
      go false e true f c g = rw (eqb-true k tc_type f) tc
      go false e false f true g = rw (eqb-true k rgbwaf_type g) rgbwaf
      go false e false f false g = none k

-- "XY 0x10", "TC 0x20", "RGBWAF 0x80": these are listed, and no other
pub data Listed : ℕ → Type 0 where
  xy : Listed xy_type
  tc : Listed tc_type
  rgbwaf : Listed rgbwaf_type

pub listed_types : (k : ℕ) → is_type k ≡ true → Listed k
unfolding data_bytes
listed_types = by_type (λ k ws. ltb 0 (total ws) ≡ true → Listed k) (λ e. xy) (λ e. tc) (λ e. rgbwaf) (λ k e. clash (cc))

pub types_listed : {k : ℕ} → Listed k → is_type k ≡ true
unfolding data_bytes widths_of
types_listed xy = refl
types_listed tc = refl
types_listed rgbwaf = refl

-- by their numbers, so that no definition of them slips together with the code: these three are, and they are all below 256
pub type_numbers : (is_type 0x10 ≡ true) × (is_type 0x20 ≡ true) × (is_type 0x80 ≡ true) × (count_below is_type 256 ≡ 3)
unfolding data_bytes widths_of count_below
type_numbers = (refl, refl, refl, refl)

-- a listed type is a byte and has 2 to 6 bytes of data
pub type_bytes : (k : ℕ) → is_type k ≡ true → (k < 256) × (2 ≤ data_bytes k) × (data_bytes k ≤ 6)
unfolding data_bytes
type_bytes k e =
    by_type (λ k ws. 0 < total ws → (k < 256) × (2 ≤ total ws) × (total ws ≤ 6)) (λ h. (omega arith, omega arith, omega arith))
    (λ h. (omega arith, omega arith, omega arith)) (λ h. (omega arith, omega arith, omega arith)) (λ k h. absurd (omega arith)) k
    (ltb-true 0 (data_bytes k) e)

-- every other number is none
pub not_listed : (k : ℕ) → (k ≡ xy_type → ⊥) → (k ≡ tc_type → ⊥) → (k ≡ rgbwaf_type → ⊥) → 0 ≡ data_bytes k
unfolding data_bytes widths_of
not_listed k a b c = rw (ne_eqb k xy_type a, ne_eqb k tc_type b, ne_eqb k rgbwaf_type c)

-- no number has more
pub bytes_most : (k : ℕ) → data_bytes k ≤ 6
unfolding data_bytes
bytes_most k = by_type (λ k ws. total ws ≤ 6) (omega arith) (omega arith) (omega arith) (λ k. omega arith) k
