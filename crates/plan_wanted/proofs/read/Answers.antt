use borrow.Author.Rules.{rules}
use mathlib.Core.Path.{◌≡◌}
use Rattle.std.specs.Prelude.{Err}
use Rattle.plan_wanted.specs.Turns.{read_bad, read_full, read_room, read_put}
use Rattle.plan_wanted.proofs.read.Goals as goal

pub returns-in_err-n : goal.returns-in_err-n
returns-in_err-n c =
    let e : c.from_residual.result ≡ Err c.in_err-n.field-0.0 = search rules in
    rw e (read_bad c.args.text.now c.args.out.now _ c.in_err-n.ensures)

pub returns-then-out-n : goal.returns-then-out-n
returns-then-out-n c = read_full c.args.text.now c.args.out.now _ c.in_ok-n.ensures c.if-out-n.true

pub put-requires : goal.put-requires
put-requires c = read_room c.args.text.now c.args.out.now _ c.in_ok-n.ensures c.if-out-n.false

pub returns : goal.returns
returns c =
    let a = c.args in
    let p = c.put in
    read_put a.text.now a.out.now p.result p.new.out (read_room a.text.now a.out.now _ c.in_ok-n.ensures c.if-out-n.false) p.ensures
