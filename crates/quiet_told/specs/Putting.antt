-- The third byte of an item that has fewer, and the answer for the last bytes.
use Rattle.std.specs.Prelude.{ℕ, ◌+◌, ◌-◌, ◌<◌, ◌≡◌, List, [], ◌∷◌, ◌++◌, length, take, drop}
use Rattle.std.proofs.Common.{sym, arith}
use Rattle.std.proofs.Math.ListN.{get_or-eq_default}
use Rattle.words.specs.Words.{text}
use Rattle.frame.specs.Frame.{byte}
use Rattle.lent.specs.All.{PutsAll}
use Rattle.stream.specs.Stream.{items}
use Rattle.extent.specs.declared.Line.TheVariants.{Request}
use Rattle.line.specs.Rule.{settle}
use Rattle.quiet_run.specs.Quiet.{none, loud, first_loud}
use Rattle.quiet_told.specs.Answer.{plus, loud_texts, closed_texts}

pub third_none : (l : List ℕ) → length l < 3 → 0 ≡ byte 2 l
third_none l h = sym (get_or-eq_default l 0 {n = 2} (omega arith))

-- the bytes of an item, from where it begins to where it ends
pub part : (a m : ℕ) → a + m - a ≡ m
part a m = omega arith

-- the answer for the last bytes
module _ (passed : ℕ) (s : List ℕ) {out out' : List ℕ} {r : ℕ} where
  pub last_none : none ≡ first_loud 0 (items (settle Request) s) → PutsAll ((text "yes" ++ (10 ∷ [])) ∷ []) out 0 r out'
      → PutsAll (closed_texts passed s) out 0 r out'
  last_none e p = rw (← e) p

  pub last_loud : (a k m n : ℕ) → loud a k m ≡ first_loud 0 (items (settle Request) s) → n ≡ plus passed a
      → PutsAll (loud_texts n k (take (a + m - a) (drop a s))) out 0 r out' → PutsAll (closed_texts passed s) out 0 r out'
  last_loud a k m n e q p = rw (← e, ← q, ← part a m) p
