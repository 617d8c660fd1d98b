use Prim.Native.Nat.{◌+◌}
use lib.ListN.{drop}
use borrow.Author.Rules.{rules}
use Rattle.lent.specs.Behind.{puts_next, puts_none, rest_less, rest_none}
use Rattle.text.specs.Text.{hex_texts}
use Rattle.text.specs.Hexes.{hex_next, hex_end}
use Rattle.text.proofs.hexes.Goals as goal

pub loop-b-preserved : goal.loop-b-preserved
loop-b-preserved c =
    let l = c.loop-b in
    let i = l.b-index in
    let s = c.args.s.now in
    (search rules, rest_less (hex_texts (drop (i + 1) s)) (rw (hex_next s i c.loop-b-test.true) at l.invariant.1) (puts_next c.hex-e.ensures (puts_none _ _)))

pub returns : goal.returns
returns c = rest_none (hex_end _ c.loop-b.b-index (search rules)) c.loop-b.invariant.1
