-- The bytes of a buffer that are not read yet, kept in front of it, so that more can be read behind them.
use Rattle.std.specs.Prelude.{ℕ, ◌≡◌, List, ◌++◌, length, drop}
use Rattle.std.proofs.Common.{sym, ◌∙◌}
use Rattle.std.proofs.Math.Seq.{slice}

-- the bytes of a buffer from a place on, up to an end
abbrev pub unread : List ℕ → ℕ → ℕ → List ℕ
unread buf from end = slice from end buf

-- the contract of `keep`: how many they are, and every byte of the buffer
pub record Keeps (buf : List ℕ) (from end r : ℕ) (buf' : List ℕ) : Type 0 where
  pub says : r ≡ length (unread buf from end)
  pub leaves : buf' ≡ unread buf from end ++ drop (length (unread buf from end)) buf

-- it leaves no choice
pub keeps_one : {buf a b : List ℕ} {from end r q : ℕ} → Keeps buf from end r a → Keeps buf from end q b → (r ≡ q) × (a ≡ b)
keeps_one x y = (x.says ∙ sym y.says, x.leaves ∙ sym y.leaves)
