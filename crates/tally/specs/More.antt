-- The tally goes on: of records behind others it is theirs, taken from the tally of those.
use Rattle.std.specs.Prelude.{◌≡◌, refl, List, [], ◌∷◌, ◌++◌}
use Rattle.record.specs.Record.{Entry}
use Rattle.season.specs.declared.Corridor.{Corridor}
use Rattle.season.specs.declared.Boundaries.{Boundaries}
use Rattle.tally.specs.declared.Tally.{Tally}
use Rattle.tally.specs.Tally.{one_more, tallied}

pub tallied_append : (c : Corridor) (b : Boundaries) (x : Tally) (rs qs : List Entry) → tallied c b x (rs ++ qs) ≡ tallied c b (tallied c b x rs) qs
unfolding tallied
tallied_append c b x [] qs = refl
tallied_append c b x (r ∷ rs) qs = tallied_append c b (one_more c b x r.seconds r.event) rs qs
