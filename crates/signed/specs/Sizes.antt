-- A signed number of 32 bits as the code has it: taken to 64 bits, and put with and without a `-`.
use Rattle.std.specs.Prelude.{ℕ, ◌≡◌, List, ℤ, pos, nat_abs}
use Rattle.std.proofs.Common.{ap, ◌∙◌, SFits, to_z, of_z, arith}
use Rattle.std.proofs.Math.Bool.{true, false}
use Rattle.std.specs.Int.Signed.{lt_z}
use mir.Syntax.{w32, w64}
use Rattle.std.proofs.lemmas.Int.{to_z-of_z}
use Rattle.lent.specs.Puts.{Puts}
use Rattle.lent.specs.All.{PutsAll}
use Rattle.lent.specs.Behind.{puts_none, puts_next}
use Rattle.words.specs.Words.{text}
use Rattle.text.specs.Text.{decimal_of}
use Rattle.signed.specs.Signed.{signed_texts}

-- the number at 64 bits
abbrev pub wide : ℤ → ℤ
wide z = to_z w64 (of_z w64 (to_z w32 (of_z w32 z)))

module _ (z : ℤ) (f : SFits w32 z) where
  pub wide_fits : SFits w64 (to_z w32 (of_z w32 z))
  wide_fits = rw (to_z-of_z w32 z f) (record { sfits = omega (arith, f.sfits) })

  -- PUT, behind a `-` and alone
  module _ {n : ℕ} (e : n ≡ nat_abs (to_z w32 (of_z w32 z))) where
    size_same : n ≡ nat_abs z
    size_same = e ∙ ap nat_abs (to_z-of_z w32 z f)

    pub puts_below : {at m r : ℕ} {out o p : List ℕ} → lt_z (to_z w32 (of_z w32 z)) (pos 0) ≡ true → Puts (text "-") out at m o → Puts (decimal_of n) o m r p
        → PutsAll (signed_texts z) out at r p
    unfolding signed_texts
    puts_below {r = r} {p = p} h a b =
        let g : lt_z z (pos 0) ≡ true = rw (to_z-of_z w32 z f) at h in
        rw (g, ← size_same) (puts_next a (puts_next b (puts_none p r)))

    pub puts_above : {at r : ℕ} {out p : List ℕ} → lt_z (to_z w32 (of_z w32 z)) (pos 0) ≡ false → Puts (decimal_of n) out at r p → PutsAll (signed_texts z) out at r p
    unfolding signed_texts
    puts_above {r = r} {p = p} h b =
        let g : lt_z z (pos 0) ≡ false = rw (to_z-of_z w32 z f) at h in
        rw (g, ← size_same) (puts_next b (puts_none p r))
