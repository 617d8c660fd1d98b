use borrow.Author.Rules.{rules}
use borrow.Author.Tests.{tests}
use mathlib.Core.Path.{◌≡◌, sym, ap, ◌∙◌}
use mathlib.Core.Bool.{true, false}
use Rattle.std.specs.Prelude.{ℕ, eqb}
use Rattle.std.proofs.lemmas.Iterator.{YieldsList-from_slice, IsFirst-from_position}
use Rattle.names.specs.Places.{keys, place_in, place_first}
use Rattle.names.proofs.place.Goals as goal

pub returns-clause-told : goal.returns-clause-told
returns-clause-told c =
    let k = c.from_be_bytes-key in
    let p = IsFirst-from_position _ _ _ (λ x. eqb x k.result ≡ true) (λ x. eqb x k.result ≡ false) c.position.ensures.ran (YieldsList-from_slice keys cc) (λ x q h. search (rules, tests)) (λ x q h. search (rules, tests)) in
    sym (place_first k.result keys c.position.result p) ∙ ap (λ (x : ℕ). place_in x keys) k.ensures
