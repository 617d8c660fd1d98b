-- docs/BENCH.md, "Seasons", of the report in parts: what is carried from call to call, and the answers. The calls go by their numbers in
-- the table of crate bench_calls: D1 is `seasons_begin`, D2 `seasons_part`, D3 `seasons_end`.
use Rattle.std.specs.Prelude.{ℕ, List, [], ◌∷◌, replicate, eqb}
use Rattle.refusal.specs.Test.{pick}
use Rattle.words.specs.Words.{text}
use Rattle.by_parts.specs.declared.SoFar.{SoFar}
use Rattle.by_parts.specs.Parts.{begun, parted, ended}
use Rattle.bench_seasons.specs.Told.{corridor_in, boundaries_in, report_texts}

-- "of this corridor and these boundaries, and no part has come"
abbrev pub begun_in : List ℕ → SoFar
begun_in s = begun (corridor_in s) (boundaries_in s)

-- "Before the first `seasons_begin` it is as begun with 23 bytes 00"
abbrev pub at_first : SoFar
at_first = begun_in (replicate 23 0)

-- begun afresh; "takes these bytes behind those that came"; "moves nothing"
abbrev pub moved_by : ℕ → SoFar → List ℕ → SoFar
moved_by n x s = pick (eqb n 0xD1) (begun_in s) (pick (eqb n 0xD2) (parted x s) x)

-- "as `seasons`, of all parts since `seasons_begin` put together"; of the others nothing, "never refused"
abbrev pub told_by : ℕ → SoFar → List (List ℕ)
told_by n x = pick (eqb n 0xD3) (report_texts (ended x)) (text "0" ∷ [])
