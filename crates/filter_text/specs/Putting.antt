-- The types of a mask put one after the other.
use Prim.Native.Nat.{ℕ, suc, ◌+◌, ◌-◌, ◌<◌, ◌≤◌}
use Rattle.std.specs.Prelude.{◌≡◌, Bool, true, false, List, [], ◌++◌}
use Rattle.std.proofs.Common.{add-one}
use native.Mathlib.Omega.{arith}
use Rattle.filter_asked.specs.Asked.{is_named}
use Rattle.filter_text.specs.Told.{next_texts, behind_texts, types_from}

-- the types from t on, as they are put behind none or some
abbrev pub left_from : ℕ → Bool → ℕ → List (List ℕ)
left_from mask some t = behind_texts some (types_from mask t (16 - t))

-- one more that the mask names, one that it does not, and the end
module _ (mask : ℕ) (some : Bool) (t : ℕ) where
  pub type_named : t < 16 → is_named mask t ≡ true → left_from mask some t ≡ next_texts some t ++ left_from mask true (t + 1)
  unfolding behind_texts types_from
  type_named h e =
      let m : 16 - t ≡ suc (16 - (t + 1)) = omega arith in
      rw (m, e, add-one)

  pub type_passed : t < 16 → is_named mask t ≡ false → left_from mask some t ≡ left_from mask some (t + 1)
  unfolding behind_texts types_from
  type_passed h e =
      let m : 16 - t ≡ suc (16 - (t + 1)) = omega arith in
      rw (m, e, add-one)

  pub type_end : 16 ≤ t → left_from mask some t ≡ []
  unfolding behind_texts types_from
  type_end h =
      let m : 16 - t ≡ 0 = omega arith in
      rw m
