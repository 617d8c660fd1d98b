-- Document 02's numbers and values for what the check of a plan answers, and that they tell the answers apart, so that the contracts leave no choice.
use Rattle.std.specs.Prelude.{◌≡◌, refl, Result, Ok, Err}
use Rattle.std.proofs.Common.{ap}
use Rattle.refusal.specs.Refusals.{number_of, number_one}
use Rattle.filter_plan.specs.declared.Bad.{Bad}
use Rattle.filter_plan.specs.declared.Filters.{Filters}
use Rattle.filter_plan.specs.declared.Left.{Left}
use Rattle.filter_plan.specs.declared.Verdict.{Verdict}
use Rattle.filter_plan.specs.declared.Verdict.TheVariants.{Yes, Bad as verdict·Bad, Hidden}
use Rattle.filter_plan.specs.Plan.{Went, well, bad, Told, told_yes, told_bad, told_hidden}

abbrev pub said_went : Result (Unit {0}) Bad → Went
said_went (Ok u) = well
said_went (Err b) = bad b.request (number_of b.refusal)

abbrev pub said_left : Left → Went × Filters
said_left x = (said_went x.went, x.filters)

abbrev pub said_verdict : Verdict → Told
said_verdict Yes = told_yes
said_verdict (verdict·Bad b) = told_bad b.request (number_of b.refusal)
said_verdict (Hidden j) = told_hidden j

bad_one : (a b : Bad) → a.request ≡ b.request → number_of a.refusal ≡ number_of b.refusal → a ≡ b
bad_one a b p q =
    let r = number_one a.refusal b.refusal q in
    λ j. record { request = p j; refusal = r j }

pub went_one : (x y : Result (Unit {0}) Bad) → said_went x ≡ said_went y → x ≡ y
went_one (Ok u) (Ok v) e = refl
went_one (Ok u) (Err b) e = cc
went_one (Err a) (Ok v) e = cc
went_one (Err a) (Err b) e = ap Err (bad_one a b (cc) (cc))

pub left_one : (x y : Left) → said_left x ≡ said_left y → x ≡ y
left_one x y e =
    let p = went_one x.went y.went (ap (λ (z : Went × Filters). z.0) e) in
    let q = ap (λ (z : Went × Filters). z.1) e in
    λ j. record { went = p j; filters = q j }

pub verdict_one : (x y : Verdict) → said_verdict x ≡ said_verdict y → x ≡ y
verdict_one Yes Yes e = refl
verdict_one (verdict·Bad a) (verdict·Bad b) e = ap verdict·Bad (bad_one a b (cc) (cc))
verdict_one (Hidden i) (Hidden j) e = ap Hidden (cc)
verdict_one Yes (verdict·Bad b) e = cc
verdict_one Yes (Hidden j) e = cc
verdict_one (verdict·Bad a) Yes e = cc
verdict_one (verdict·Bad a) (Hidden j) e = cc
verdict_one (Hidden i) Yes e = cc
verdict_one (Hidden i) (verdict·Bad b) e = cc
