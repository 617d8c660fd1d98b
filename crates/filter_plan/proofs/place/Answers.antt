use borrow.Author.Rules.{rules}
use borrow.Author.Tests.{tests}
use mathlib.Core.Path.{◌≡◌, sym, ap, ◌∙◌}
use Rattle.std.specs.Prelude.{unwrap_or}
use mathlib.Core.Bool.{true, false}
use Rattle.std.proofs.lemmas.Iterator.{YieldsList-from_slice, IsFirst-from_position}
use Rattle.filter_plan.specs.Filters.{is_of}
use Rattle.filter_plan.specs.Table.{list_of}
use Rattle.filter_plan.specs.Tables.{count_list}
use Rattle.filter_plan.specs.Places.{place_first}
use Rattle.filter_plan.proofs.place.Goals as goal

pub returns-clause-told : goal.returns-clause-told
returns-clause-told c =
    let a = c.args in
    let t = a.t.now in
    let p = IsFirst-from_position _ _ _ (λ g. is_of a.address a.instance g ≡ true) (λ g. is_of a.address a.instance g ≡ false) c.position.ensures.ran (YieldsList-from_slice (list_of t) cc) (λ x q h. search (rules, tests)) (λ x q h. search (rules, tests)) in
    ap (unwrap_or c.position.result) (count_list t c.requires) ∙ sym (place_first a.address a.instance (list_of t) c.position.result p)
