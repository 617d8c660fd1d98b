use Rattle.std.proofs.Common.{sym, ap, ◌∙◌, drop, length-drop, arith}
use Rattle.led.specs.Cut.{part_there}
use Rattle.record.specs.Record.{standing}
use Rattle.record.specs.Found.{no_part, too_short, with_part_lem}
use Rattle.record.proofs.read.Goals as goal

pub read_part-requires : goal.read_part-requires
read_part-requires c =
    let a = c.args in
    let f = part_there (drop a.at a.s.now) _ (sym c.in_ok-n.ensures) in
    (omega arith, omega (arith, f.1, length-drop a.at a.s.now))

pub returns-in_err-n : goal.returns-in_err-n
returns-in_err-n c = rw c.from_residual.ensures (sym (ap (standing c.args.at) (no_part _ _ (sym c.in_err-n.ensures))))

pub returns-then-n-lt-SECONDS : goal.returns-then-n-lt-SECONDS
returns-then-n-lt-SECONDS c = sym (ap (standing c.args.at) (too_short _ _ _ (sym c.in_ok-n.ensures) (omega arith)))

pub returns : goal.returns
returns c = c.read_part.ensures ∙ sym (ap (standing c.args.at) (with_part_lem _ _ _ (sym c.in_ok-n.ensures) (omega arith)))
