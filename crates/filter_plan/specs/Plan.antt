-- Document 02, W-212: the check of a plan. "The plan is cut every 8 bytes, a short end being 1." "A failing plan names its first bad request, or
-- else the first wanted event hidden. Refusals: 1 to 7 for a plan's request, 18 for a command other than 31 or 33, 19 for a 65th entry, in that
-- order." Requests and wanted events are counted from 0.
use Rattle.std.specs.Prelude.{ℕ, zero, suc, ◌+◌, ◌*◌, ◌/◌, Bool, List, [], ltb, length, take, drop, get_or}
use Rattle.refusal.specs.Test.{pick, flag}
use Rattle.refusal.specs.Answer.{Answer, refused, full}
use Rattle.maps.specs.Bit.{lowest}
use Rattle.filter_asked.specs.declared.Filter.{Filter}
use Rattle.filter_asked.specs.declared.Change.{Change}
use Rattle.filter_asked.specs.Asked.{asked}
use Rattle.filter_plan.specs.Filters.{next, is_hidden}

-- request k, and how many there are
abbrev pub request_at : List ℕ → ℕ → List ℕ
request_at p k = take 8 (drop (8 * k) p)

abbrev pub requests : List ℕ → ℕ
requests p = (length p + 7) / 8

-- how a plan went: all its requests are good, or the first bad one, by its place and the number of its refusal
pub data Went : Type 0 where
  well : Went
  bad : ℕ → ℕ → Went

-- the filters after some requests, and whether these were good; a bad one leaves the filters as they were
pub data Run : Type 0 where
  run : List Filter → Went → Run

abbrev pub filters_in : Run → List Filter
filters_in (run l w) = l

abbrev pub went_in : Run → Went
went_in (run l w) = w

abbrev pub judged : ℕ → List Filter → Answer (List Filter) → Run
judged k l (refused n) = run l (bad k n)
judged k l (full m) = run m well

abbrev pub step_of : Answer Change → List Filter → Answer (List Filter)
step_of (refused n) l = refused n
step_of (full x) l = next x l

-- one request more: behind a bad one nothing is done
abbrev pub onward : Run → ℕ → List ℕ → Run
onward (run l well) k d = judged k l (step_of (asked d) l)
onward (run l (bad j n)) k d = run l (bad j n)

-- after the first k requests; "empty at first"
unfoldable pub after : List ℕ → ℕ → Run
after p zero = run [] well
after p (suc k) = onward (after p k) k (request_at p k)

abbrev pub left_of : List ℕ → Run
left_of p = after p (requests p)

-- "our list of wanted address, instance and event type (three bytes each, a short end passed over)": how many there are, and whether one is hidden
abbrev pub wants : List ℕ → ℕ
wants w = length w / 3

abbrev pub hidden_at : List Filter → List ℕ → ℕ → Bool
hidden_at l w j = is_hidden l (get_or w (3 * j) 0) (get_or w (3 * j + 1) 0) (get_or w (3 * j + 2) 0)

-- what the check tells
pub data Told : Type 0 where
  told_yes : Told
  told_bad : ℕ → ℕ → Told
  told_hidden : ℕ → Told

abbrev pub hidden_below : ℕ → ℕ → Told
hidden_below n j = pick (ltb j n) (told_hidden j) told_yes

abbrev pub first_hidden : List Filter → List ℕ → Told
first_hidden l w = hidden_below (wants w) (lowest (λ j. flag (hidden_at l w j)) (wants w))

abbrev pub verdict : Run → List ℕ → Told
verdict (run l well) w = first_hidden l w
verdict (run l (bad k n)) w = told_bad k n

unfoldable pub checked : List ℕ → List ℕ → Told
checked p w = verdict (left_of p) w
