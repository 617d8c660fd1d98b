-- Document 02, W-213: the records of a capture, passed one by one, and the tally of them.
use Rattle.std.specs.Prelude.{ℕ, List, length, None}
use Rattle.record.specs.Record.{Entry}
use Rattle.summary.specs.Summary.{last_from}
use Rattle.capture.specs.Capture.{records_from, sizes_of}
use Rattle.season.specs.declared.Corridor.{Corridor}
use Rattle.season.specs.declared.Boundaries.{Boundaries}
use Rattle.season.specs.Season.{plus}
use Rattle.tally.specs.Tally.{tallied, no_tally}
use Rattle.passing.specs.declared.Passed.{Passed}
use Rattle.passing.specs.declared.Pass.{Pass}

-- of no records
abbrev pub none_passed : Passed
none_passed = record { records = 0; bytes = 0; last = None; tally = no_tally }

-- and with some more
abbrev pub more_passed : Corridor → Boundaries → Passed → List Entry → Passed
more_passed c b x rs =
    record {
      records = plus x.records (length rs);
      bytes = plus x.bytes (sizes_of rs);
      last = last_from x.last rs;
      tally = tallied c b x.tally rs;
    }

-- THE PASS over the good records at the front of some bytes, and the place behind them
abbrev pub passed_by : Corridor → Boundaries → Passed → List Entry → Pass
passed_by c b x rs = record { passed = more_passed c b x rs; at = sizes_of rs }

abbrev pub passed_over : ℕ → List ℕ → Corridor → Boundaries → Passed → Pass
passed_over w s c b x = passed_by c b x (records_from w x.last s)
