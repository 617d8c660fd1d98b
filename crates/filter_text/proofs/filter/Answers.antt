use Prim.Native.Nat.{◌/◌, ◌%◌}
use mathlib.Core.Path.{◌≡◌}
use mir.Syntax.{w16}
use mir.Val.{Fits}
use native.Mathlib.Omega.{arith}
use borrow.Author.Rules.{rules}
use Rattle.lent.specs.Behind.{puts_append, puts_next, puts_none}
use Rattle.text.specs.Text.{hex_texts}
use Rattle.filter_text.proofs.filter.Goals as goal

pub returns : goal.returns
unfolding hex_texts
returns c =
    let h : Fits w16 c.args.f.mask = search rules in
    let q : c.args.f.mask / 256 % 256 ≡ c.args.f.mask / 256 = omega (arith, h.fits) in
    let mask = puts_append c.of_instance-a.ensures (puts_next c.word-b.ensures (puts_none _ _)) in
    let both = puts_append mask (rw (c.to_be_bytes.ensures, q) at c.hexes-c.ensures) in
    puts_append (puts_append both (puts_next c.word-d.ensures (puts_none _ _))) c.types.ensures
