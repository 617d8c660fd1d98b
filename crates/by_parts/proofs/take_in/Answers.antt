use borrow.Author.Rules.{rules, length_unmapped}
use Prim.Native.Nat.{ℕ}
use mathlib.Core.Path.{◌≡◌, ap, ◌∙◌}
use lib.ListN.{length}
use mathlib.Core.List.{List, ◌++◌}
use native.Mathlib.Omega.{arith}
use Rattle.by_parts.specs.Parts.{onward}
use Rattle.by_parts.specs.Found.{Front, front}
use Rattle.by_parts.proofs.take_in.Goals as goal

pub shared_ref_as_front-resume : goal.shared_ref_as_front-resume
shared_ref_as_front-resume c =
    let some : Front c.args.layout c.args.x.held c.holds-n.result = front _ _ _ (search (length_unmapped, rules)) c.holds-n.ensures c.if-n-gt0.true in
    let room : length c.args.x.held.bytes ≡ 67 = search (length_unmapped, rules) in
    omega (arith, some.fits)

pub resume-requires : goal.resume-requires
resume-requires c =
    let some : Front c.args.layout c.args.x.held c.holds-n.result = front _ _ _ (search (length_unmapped, rules)) c.holds-n.ensures c.if-n-gt0.true in
    some.untold

pub returns-then-n-gt0 : goal.returns-then-n-gt0
returns-then-n-gt0 c =
    let some : Front c.args.layout c.args.x.held c.holds-n.result = front _ _ _ (search (length_unmapped, rules)) c.holds-n.ensures c.if-n-gt0.true in
    c.resume.ensures ∙ ap (λ (s : List ℕ). onward c.args.layout c.args.x.who c.args.x.bounds c.args.x.passed (s ++ c.args.part.now)) some.is
