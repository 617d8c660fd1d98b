-- Whose events count, and that for each of the three types the seasons' counts add up to the corridor's.
use Rattle.std.specs.Prelude.{ℕ, zero, suc, ◌+◌, ◌<◌, ◌≡◌, refl, Bool, true, false, ◌&&◌, List, [], ◌∷◌, eqb, Option, Some, None}
use Rattle.std.proofs.Common.{ap, eqb-true, eq-eqb, arith}
use Rattle.refusal.specs.Test.{pick, clash, both_left, both_right}
use Rattle.event.specs.declared.Mac.{Mac}
use Rattle.event.specs.Reading.{Told}
use Rattle.record.specs.Record.{Entry}
use Rattle.summary.specs.Summary.{type_of}
use Rattle.season.specs.declared.Corridor.{Corridor}
use Rattle.season.specs.declared.Boundaries.{Boundaries}
use Rattle.season.specs.Season.{is_mac, is_instance, is_of, season_of}
use Rattle.season.specs.Ways.{season_small}
use Rattle.seasons.specs.Seasons.{is_type, is_in, how_many}

-- AN EVENT IS OF A CORRIDOR exactly if its MAC address, its target and its instance are the corridor's
pub record Is (c : Corridor) (e : Told) : Type 0 where
  pub mac : c.mac ≡ e.mac
  pub target : c.target ≡ e.target
  pub instance : Some c.instance ≡ e.instance

-- the last of some tests, that two numbers are the same, and the tests before it
last_same : (t : Bool) (x y : ℕ) → t && eqb x y ≡ true → (t ≡ true) × (x ≡ y)
last_same t x y h = (both_left t (eqb x y) h, eqb-true x y (both_right t (eqb x y) h))

mac_is : (m k : Mac) → is_mac m k ≡ true → m ≡ k
mac_is m k h =
    let t₁ : Bool = eqb m.0 k.0 && eqb m.1 k.1 in
    let t₂ : Bool = t₁ && eqb m.2 k.2 in
    let t₃ : Bool = t₂ && eqb m.3 k.3 in
    let t₄ : Bool = t₃ && eqb m.4 k.4 in
    let e₅ = last_same t₄ m.5 k.5 h in
    let e₄ = last_same t₃ m.4 k.4 e₅.0 in
    let e₃ = last_same t₂ m.3 k.3 e₄.0 in
    let e₂ = last_same t₁ m.2 k.2 e₃.0 in
    let e₁ = last_same (eqb m.0 k.0) m.1 k.1 e₂.0 in
    let e₀ = eqb-true m.0 k.0 e₁.0 in
    λ i. record { 0 = e₀ i; 1 = e₁.1 i; 2 = e₂.1 i; 3 = e₃.1 i; 4 = e₄.1 i; 5 = e₅.1 i }

instance_is_lem : (i : ℕ) (x : Option ℕ) → is_instance i x ≡ true → Some i ≡ x
instance_is_lem i (Some j) h = ap Some (eqb-true i j h)
instance_is_lem i None h = clash (cc)

pub of_is : (c : Corridor) (e : Told) → is_of c e ≡ true → Is c e
unfolding is_of
of_is c e h =
    let t : Bool = is_mac c.mac e.mac && eqb c.target e.target in
    let m = last_same (is_mac c.mac e.mac) c.target e.target (both_left t (is_instance c.instance e.instance) h) in
    record {
      mac = mac_is c.mac e.mac m.0;
      target = m.1;
      instance = instance_is_lem c.instance e.instance (both_right t (is_instance c.instance e.instance) h);
    }

itself : (x : ℕ) → eqb x x ≡ true
itself x = eq-eqb x x refl

pub is_of_lem : (c : Corridor) (e : Told) → Is c e → is_of c e ≡ true
unfolding is_of
is_of_lem c e h =
    let m = c.mac in
    rw (
      ← h.mac,
      ← h.target,
      ← h.instance,
      itself m.0,
      itself m.1,
      itself m.2,
      itself m.3,
      itself m.4,
      itself m.5,
      itself c.target,
      itself c.instance,
    )

-- THE SEASONS ADD UP, for any type
one_added : (m : ℕ) → m < 4 → (t e : Bool)
    → pick (t && (eqb m 0 && e)) 1 0 + (pick (t && (eqb m 1 && e)) 1 0 + (pick (t && (eqb m 2 && e)) 1 0 + pick (t && (eqb m 3 && e)) 1 0)) ≡ pick (t && e) 1 0
one_added m h false e = refl
one_added zero h true true = refl
one_added zero h true false = refl
one_added (suc zero) h true true = refl
one_added (suc zero) h true false = refl
one_added (suc (suc zero)) h true true = refl
one_added (suc (suc zero)) h true false = refl
one_added (suc (suc (suc zero))) h true true = refl
one_added (suc (suc (suc zero))) h true false = refl
one_added (suc (suc (suc (suc m)))) h true e = absurd (omega arith)

pub counts_add : (c : Corridor) (b : Boundaries) (k : ℕ) (rs : List Entry)
    → how_many (is_in c b 0 k) rs + how_many (is_in c b 1 k) rs + how_many (is_in c b 2 k) rs + how_many (is_in c b 3 k) rs ≡ how_many (is_type c k) rs
unfolding how_many
counts_add c b k [] = refl
counts_add c b k (r ∷ rs) =
    omega
    (arith, one_added (season_of b r.seconds) (season_small b r.seconds) (is_of c r.event) (eqb (type_of r) k), counts_add c b k rs)
