-- The contracts of the two calls leave no choice: results that say the same, and no more, are equal.
use Rattle.std.specs.Prelude.{ℕ, ◌≡◌, List}
use Rattle.std.proofs.Common.{sym, ap, ◌∙◌}
use Rattle.extent.specs.declared.Line.{Line}
use Rattle.reader.specs.declared.Held.{Held}
use Rattle.reader.specs.declared.Given.{Given}
use Rattle.reader.specs.Reader.{said_fed, said_closed, given_of, closed_of, Feeds, Closes}

pub fed_one : (on : Line) (p : List ℕ) (r q : Given) → r ≡ given_of p (said_fed on r) → q ≡ given_of p (said_fed on q)
    → said_fed on r ≡ said_fed on q → r ≡ q
fed_one on p r q a b e = a ∙ ap (given_of p) e ∙ sym b

pub closed_one : (on : Line) (r q : Given) → r ≡ closed_of (said_closed on r) → q ≡ closed_of (said_closed on q)
    → said_closed on r ≡ said_closed on q → r ≡ q
closed_one on r q a b e = a ∙ ap closed_of e ∙ sym b

pub feeds_one : {on : Line} {h : Held} {p : List ℕ} {r q : Given} → Feeds on h p r → Feeds on h p q → r ≡ q
feeds_one {on} {h} {p} {r} {q} a b = fed_one on p r q a.only b.only (a.says ∙ sym b.says)

pub closes_one : {on : Line} {h : Held} {r q : Given} → Closes on h r → Closes on h q → r ≡ q
closes_one {on} {h} {r} {q} a b = closed_one on r q a.only b.only (a.says ∙ sym b.says)
