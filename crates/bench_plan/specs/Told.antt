-- docs/BENCH.md, "A filter plan": "`0 yes`; `K request N`, K the refusal and N the request's place, counted in requests from 0; `0 hidden N`, N the
-- wanted event's place, counted in threes from 0".
use Rattle.std.specs.Prelude.{ℕ, List, [], ◌∷◌}
use Rattle.words.specs.Words.{text}
use Rattle.text.specs.Text.{decimal_of}
use Rattle.filter_plan.specs.Plan.{Told, told_yes, told_bad, told_hidden}

abbrev pub verdict_texts : Told → List (List ℕ)
verdict_texts told_yes = text "0 yes" ∷ []
verdict_texts (told_bad k n) = decimal_of n ∷ text " request " ∷ decimal_of k ∷ []
verdict_texts (told_hidden j) = text "0 hidden " ∷ decimal_of j ∷ []
