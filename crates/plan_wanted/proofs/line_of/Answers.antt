use mathlib.Core.Path.{◌∙◌}
use Rattle.plan_wanted.specs.Lines.{number_byte, line_nothing, line_remark, line_more, line_three}
use Rattle.plan_wanted.proofs.line_of.Goals as goal

pub returns-then-s-a : goal.returns-then-s-a
returns-then-s-a c =
    let a = c.next-a in
    line_nothing c.args.s.now a.result a.ensures.0 c.if-s-a.true

pub returns-then-s-a-eq35 : goal.returns-then-s-a-eq35
returns-then-s-a-eq35 c =
    let a = c.next-a in
    let b = c.next-b in
    line_remark c.args.s.now a.result a.ensures.0 c.if-s-a.false b.result b.ensures.0 c.if-s-a-eq35.true

pub returns-then-next-s : goal.returns-then-next-s
returns-then-next-s c =
    let s = c.args.s.now in
    let a = c.next-a in
    let b = c.next-b in
    let i = c.next-c in
    let d = c.next-d in
    let e = c.next-e in
    let f = c.next-f in
    let g = c.next in
    line_more s a.result a.ensures.0 c.if-s-a.false b.result b.ensures.0 c.if-s-a-eq35.false _ _ _ _ _ i.ensures.0 d.ensures.0 e.ensures.0 f.ensures.0 g.ensures.0 c.if-next-s.true

pub says_of-requires : goal.says_of-requires
says_of-requires c =
    let x = c.number_of-address.ensures in
    let y = c.number_of-instance.ensures in
    let z = c.number_of-kind.ensures in
    (rw x (number_byte _), rw y (number_byte _), rw z (number_byte _))

pub returns : goal.returns
returns c =
    let z = c in
    let s = z.args.s.now in
    let a = z.next-a in
    let b = z.next-b in
    let i = z.next-c in
    let d = z.next-d in
    let e = z.next-e in
    let f = z.next-f in
    let g = z.next in
    let x = c.number_of-address.ensures in
    let y = c.number_of-instance.ensures in
    let w = c.number_of-kind.ensures in
    c.says_of.ensures ∙ rw (x, y, w) (line_three s a.result a.ensures.0 z.if-s-a.false b.result b.ensures.0 z.if-s-a-eq35.false _ _ _ _ _ i.ensures.0 d.ensures.0 e.ensures.0 f.ensures.0 g.ensures.0 z.if-next-s.false)
