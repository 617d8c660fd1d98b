-- How a number is read digit by digit.
use Rattle.std.specs.Prelude.{ℕ, Option, Some, None, ◌+◌, ◌-◌, ◌*◌, ◌≤◌, ◌<◌, ◌≡◌, Bool, ◌&&◌, List, [], ◌∷◌, length, drop, leb}
use Rattle.std.proofs.Math.Path.{refl}
use Rattle.std.proofs.Math.Bool.{true, false}
use Rattle.std.proofs.Math.ListN.{get_or}
use Rattle.std.proofs.Common.{drop_of_length-le, add-one}
use Rattle.std.proofs.Math.Seq.{drop-cons}
use borrow.Author.Tests.{lt-ltb, le-ltb, le-leb, lt-leb}
use native.Mathlib.Omega.{arith}
use Rattle.refusal.specs.Test.{pick}
use Rattle.text.specs.Decimal.{value_from}
use Rattle.asked.specs.Asked.{is_digit, all_digits, number_of}

-- the number that the digits left say, where those in front of them say n
unfoldable pub rest_of : ℕ → ℕ → List ℕ → Option ℕ
rest_of most n s = pick (all_digits s && leb (value_from n s) most) (Some (value_from n s)) None

pub number_some : (most : ℕ) (s : List ℕ) → 0 < length s → rest_of most 0 s ≡ number_of most s
unfolding rest_of number_of
number_some most s h = rw (lt-ltb 0 (length s) h)

pub number_none : (most : ℕ) (s : List ℕ) → length s ≡ 0 → None ≡ number_of most s
unfolding number_of
number_none most s h =
    let l : length s ≤ 0 = omega arith in
    rw (le-ltb 0 (length s) l)

-- digits more make no number less
value_rise : (n : ℕ) (s : List ℕ) → n ≤ value_from n s
unfolding value_from
value_rise n [] = omega arith
value_rise n (c ∷ s) = omega (arith, value_rise (n * 10 + (c - 48)) s)

module _ (most n : ℕ) (s : List ℕ) where
  pub rest_over : most < n → None ≡ rest_of most n s
  unfolding rest_of
  rest_over h =
      let l : most < value_from n s = omega (arith, value_rise n s) in
      rw (lt-leb (value_from n s) most l) (go (all_digits s))
    where
      go : (t : Bool) → None ≡ pick (t && false) (Some (value_from n s)) None
      go true = refl
      go false = refl

  module _ (i : ℕ) where
    pub rest_done : length s ≤ i → n ≤ most → Some n ≡ rest_of most n (drop i s)
    unfolding rest_of all_digits value_from
    rest_done h l = rw (drop_of_length-le s h, le-leb n most l)

    pub rest_other : i < length s → is_digit (get_or s i 0) ≡ false → None ≡ rest_of most n (drop i s)
    unfolding rest_of all_digits
    rest_other h e = rw (drop-cons s i 0 h, e)

    pub rest_turn : i < length s → is_digit (get_or s i 0) ≡ true → rest_of most n (drop i s) ≡ rest_of most (n * 10 + (get_or s i 0 - 48)) (drop (i + 1) s)
    unfolding rest_of all_digits value_from
    rest_turn h e = rw (add-one, drop-cons s i 0 h, e)
