use mathlib.Core.Path.{◌≡◌}
use lib.ListN.{length, drop}
use Rattle.lent.specs.Behind.{Rest}
use Rattle.text.specs.Text.{hex_texts}
use Rattle.text.proofs.hexes.Given as goal

abbrev pub invariant-loop-b : goal.invariant-loop-b
invariant-loop-b l = (length l.out ≡ length l.initial.out) × Rest (hex_texts l.s) l.initial.out l.at (hex_texts (drop l.b-index l.s)) l.out l.e
