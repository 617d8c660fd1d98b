-- A signed number as text: its digits, with a `-` in front where it is below 0.
use Rattle.std.specs.Prelude.{ℕ, List, [], ◌∷◌, ℤ, pos, nat_abs}
use Rattle.std.specs.Int.Signed.{lt_z}
use Rattle.refusal.specs.Test.{pick}
use Rattle.words.specs.Words.{text}
use Rattle.text.specs.Text.{decimal_of}

unfoldable pub signed_texts : ℤ → List (List ℕ)
signed_texts z = pick (lt_z z (pos 0)) (text "-" ∷ decimal_of (nat_abs z) ∷ []) (decimal_of (nat_abs z) ∷ [])
