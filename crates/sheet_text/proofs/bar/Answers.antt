use Prim.Native.Nat.{ℕ}
use lib.ListN.{length-replicate}
use Rattle.lent.specs.Behind.{puts_next, puts_none}
use Rattle.sheet_bars.specs.Bars.{bar_length}
use Rattle.sheet_text.proofs.bar.Goals as goal

pub returns : goal.returns
returns c =
    let k = c.length_of-k.ensures.0 in
    let x = rw k at c.same-e.ensures in
    let w = rw k at c.same.ensures in
    rw (length-replicate {A = ℕ} (bar_length c.args.n c.args.most) 35) (puts_next x (puts_next w (puts_none _ _)))
