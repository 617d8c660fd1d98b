use Rattle.std.proofs.Common.{rules, ◌≡◌, Err, sym, length-take, arith}
use Rattle.capture.specs.Says.{version_there, prefixed_refused, prefix_there}
use Rattle.capture.proofs.prefix.Goals as goal

pub returns-in_err-layout : goal.returns-in_err-layout
returns-in_err-layout c =
    let z : c.from_residual.result ≡ Err c.in_err-layout.field-0.0 = search rules in
    rw z (sym (prefixed_refused _ _ _ (sym c.in_err-layout.ensures)))

pub tally-requires : goal.tally-requires
tally-requires c =
    simp length-take (omega (arith, c.min-there.ensures, version_there c.args.buf.now c.args.used _ (sym c.in_ok-layout.ensures)))

pub returns : goal.returns
returns c = prefix_there _ _ _ _ (sym c.in_ok-layout.ensures) (rw c.min-there.ensures at c.tally.ensures)
