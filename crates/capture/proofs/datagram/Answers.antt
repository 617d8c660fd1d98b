use Rattle.std.proofs.Common.{ℕ, ◌+◌, refl, sym, ap, arith}
use Rattle.capture.specs.Says.{part_there}
use Rattle.capture.proofs.datagram.Goals as goal

pub slice_bounds-result-end : goal.slice_bounds-result-end
slice_bounds-result-end c = omega (arith, part_there c.args.buf.now c.args.used c.args.place c.in-Ok.x c.in-Ok.ensures)

pub returns-in-Ok : goal.returns-in-Ok
returns-in-Ok c =
    let a = c.args in
    let f = part_there a.buf.now a.used a.place c.in-Ok.x c.in-Ok.ensures in
    (f.2, refl, ap (λ (i : ℕ). i + a.buf.ref_ptr.1) (sym f.3))
