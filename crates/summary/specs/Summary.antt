-- Document 02, W-207: "Beside the records stands a summary: number of records, first and last seconds, and a count for each event type 0 to
-- 9 and one for all others, in 32 bits each."
use Rattle.std.specs.Prelude.{ℕ, Option, Some, None, zero, suc, ◌+◌, Bool, true, List, [], ◌∷◌, length, get_or, set, leb, ltb, eqb}
use Rattle.refusal.specs.Test.{pick}
use Rattle.refusal.specs.Answer.{Answer, full, demand}
use Rattle.event_type.specs.Types.{last_named, kind_number}
use Rattle.record.specs.Record.{Entry}
use Rattle.summary.specs.declared.Summary.{Summary}

-- "first and last seconds", "freshly emptied .. the two times are absent"
abbrev pub first_in : List Entry → Option ℕ
first_in [] = None
first_in (r ∷ rs) = Some r.seconds

-- the last seconds of some records behind others that end in t
abbrev pub last_from : Option ℕ → List Entry → Option ℕ
last_from t [] = t
last_from t (r ∷ rs) = last_from (Some r.seconds) rs

-- "for each event type 0 to 9 and one for all others": the place of a type's count
abbrev pub slot_of : ℕ → ℕ
slot_of k = pick (leb k last_named) k (suc last_named)

abbrev pub type_of : Entry → ℕ
type_of r = kind_number r.event.kind

-- how many records count at a place
unfoldable pub how_many : ℕ → List Entry → ℕ
how_many k [] = 0
how_many k (r ∷ rs) = pick (eqb (slot_of (type_of r)) k) 1 0 + how_many k rs

-- n counts from a place on
unfoldable pub counts_from : ℕ → ℕ → List Entry → List ℕ
counts_from k zero rs = []
counts_from k (suc n) rs = how_many k rs ∷ counts_from (suc k) n rs

-- the summary "counted afresh from the records"
abbrev pub counted_in : List Entry → Summary
counted_in rs = record { records = length rs; first = first_in rs; last = last_from None rs; counts = counts_from 0 11 rs }

-- "in 32 bits each"
abbrev pub most : ℕ
most = 4294967295

-- whether seconds do not lie below the ones before
abbrev pub not_before : Option ℕ → ℕ → Bool
not_before None s = true
not_before (Some t) s = leb t s

-- one record more, of seconds t and a type, beside a summary handed in: "8 for no room .. in a count". The first seconds stay where there
-- are some, the last become these, the number of records and the type's count go up by one
abbrev pub first_of : Option ℕ → ℕ → Option ℕ
first_of None t = Some t
first_of (Some s) t = Some s

abbrev pub raised : Summary → ℕ → ℕ → Summary
raised x t k =
    record {
      records = x.records + 1;
      first = first_of x.first t;
      last = Some t;
      counts = set x.counts k (get_or x.counts k 0 + 1);
    }

unfoldable pub one_more : Summary → ℕ → ℕ → Answer Summary
one_more x t k =
    demand (ltb x.records most) 8
    (demand (ltb (get_or x.counts (slot_of k) 0) most) 8
    (full (raised x t (slot_of k))))
