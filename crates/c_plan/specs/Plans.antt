-- The check of a filter plan as include/wickanchor.h declares it. Beside a refusal stand the request's place and, of what a plan leaves, the filters before it; what else
-- a struct has is 0.
use Rattle.std.specs.Prelude.{ℕ, List, Option, None, Some}
use Rattle.filter_asked.specs.declared.Filter.{Filter}
use Rattle.filter_plan.specs.declared.Filters.{Filters}
use Rattle.filter_plan.specs.Plan.{Went, well, bad, Told, told_yes, told_bad, told_hidden}
use Rattle.c_plan.specs.declared.WickPlan.{WickPlan}
use Rattle.c_plan.specs.declared.WickPlanLeft.{WickPlanLeft}
use Rattle.c_plan.specs.declared.WickSince.{WickSince}

abbrev pub verdict_out : Told → WickPlan
verdict_out told_yes = record { answer = 0; refusal = 0; place = 0 }
verdict_out (told_bad k n) = record { answer = 1; refusal = n; place = k }
verdict_out (told_hidden j) = record { answer = 2; refusal = 0; place = j }

abbrev pub went_out : Went → ℕ → List Filter → WickPlanLeft
went_out well n l = record { refusal = 0; request = 0; count = n; filters = l }
went_out (bad k m) n l = record { refusal = m; request = k; count = n; filters = l }

abbrev pub left_out : Went × Filters → WickPlanLeft
left_out x = went_out x.0 x.1.count x.1.entries

abbrev pub since_out : Option ℕ → WickSince
since_out None = record { hidden = 0; request = 0 }
since_out (Some k) = record { hidden = 1; request = k }
