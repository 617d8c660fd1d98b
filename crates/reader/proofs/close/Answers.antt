use borrow.Author.Rules.{rules, length_unmapped}
use native.Mathlib.Omega.{arith}
use Rattle.reader.specs.Calls.{at_fits, front_fits, closes_item, closes_nothing}
use Rattle.reader.proofs.close.Goals as goal

pub shared_ref_as_front-held : goal.shared_ref_as_front-held
shared_ref_as_front-held c = (front_fits _ _ _ c.holds-n.ensures (search (length_unmapped, rules))).0

pub cut-requires : goal.cut-requires
cut-requires c =
    let w = front_fits _ _ _ c.holds-n.ensures (search (length_unmapped, rules)) in
    let f = at_fits _ _ _ c.item_at.result _ c.item_at.ensures c.in-Some.is in
    (omega arith, omega arith, omega arith)

pub returns-in-Some : goal.returns-in-Some
returns-in-Some c = closes_item _ _ _ c.holds-n.ensures c.item_at.result _ _ c.item_at.ensures c.in-Some.is (rw c.cut.ensures)

pub returns-in-None : goal.returns-in-None
returns-in-None c = closes_nothing _ _ _ c.holds-n.ensures c.item_at.result _ c.item_at.ensures c.in-None.is (rw c.nothing.ensures)
