-- What is claimed of lines and rows: a line's length tells its kind, it is refused only for itself, the time lies near the day; and worked examples.
use Rattle.std.specs.Prelude.{ℕ, suc, ◌+◌, ◌≤◌, ◌<◌, ◌≡◌, refl, Bool, true, false, List, ◌∷◌, ◌++◌, ◌⊎◌, ltb, ℤ, nat_abs}
use Rattle.std.proofs.Common.{inl, inr, ltb-true, arith}
use Rattle.std.proofs.Math.IntN.{sub_ℕ}
use Rattle.refusal.specs.Test.{pick, clash}
use Rattle.refusal.specs.Answer.{Answer, refused, full, demand}
use Rattle.words.specs.Words.{text}
use Rattle.text.specs.Text.{decimal_in}
use Rattle.calendar.specs.Calendar.{is_leap, days_in, sum, days_of, month_from, year_from}
use Rattle.signed.specs.Signed.{signed_texts}
use Rattle.plan_wanted.specs.Wanted.{cut_at}
use Rattle.maps.specs.Bit.{bit}
use Rattle.clock_text.specs.declared.Clock.{Clock}
use Rattle.clock_text.specs.Clock.{stands, has_form, is_text, number_in, byte_in, time_in, offset_in, clock_in, in_range, read_clock}
use Rattle.clock_text.specs.Forms.{text_size, size_kind}
use Rattle.clocks.specs.Runs.{Lies, from_midnight, before_midnight}
use Rattle.clock_day.specs.Day.{is_given, runs_on, second_of, second, idle, on_day}
use Rattle.clock_told.specs.Told.{feed}
use Rattle.clock_told.specs.Bytes.{bytes_of}
use Rattle.clock_asked.specs.Asked.{given_of}
use Rattle.clock_rows.specs.Rows.{length_of, is_long, answered, second_at, answer_texts, row_texts}
use Rattle.clock_rows.specs.Times.{runs_near}
use Rattle.clock_rows.specs.Whole.{each_from, rows_of}

-- "no text can be both": whichever kind of clock a text is, its length tells
pub one_kind : (a : Bool) (l : List ℕ) → is_text a l ≡ true → is_long l ≡ a
one_kind a l e = size_kind (text_size a l e)

-- on a day that clocks may be asked of (`day_given` of crate clock_asked: each day that DATE says is one) a line is refused only for itself, with 21 or 22
pub refused_itself : (m : ℕ) (l : List ℕ) (k : ℕ) → is_given (given_of m) ≡ true → answered m l ≡ refused k → read_clock (is_long l) l ≡ refused k
unfolding answered on_day
refused_itself m l k g e = go (read_clock (is_long l) l) e
  where
    go : (x : Answer Clock) → on_day (given_of m) x ≡ refused k → x ≡ refused k
    go (refused j) h = cc
    go (full c) h = clash (absurd_full c (is_given (given_of m)) g h)
      where
        absurd_full : (c : Clock) (t : Bool) → t ≡ true → demand t 22 (full (pick (runs_on c (given_of m)) (second (second_of c)) idle)) ≡ refused k → ◌≡◌ {A = ℕ} 0 1
        absurd_full c true p q = cc
        absurd_full c false p q = cc

pub two_refusals : (a : Bool) (l : List ℕ) (k : ℕ) → read_clock a l ≡ refused k → (k ≡ 21) ⊎ (k ≡ 22)
unfolding read_clock
two_refusals a l k e = go (is_text a l) (in_range (clock_in l)) e
  where
    go : (x y : Bool) → demand x 21 (demand y 22 (full (clock_in l))) ≡ refused k → (k ≡ 21) ⊎ (k ≡ 22)
    go false y h = inl (cc)
    go true false h = inr (cc)
    go true true h = clash (cc)

-- "of the date itself, of the day before or of the day after"
pub at_near : (m : ℕ) (l : List ℕ) (z : ℤ) → m < 4294967296 → answered m l ≡ full (second z) → (m ≤ second_at m z + 86400) × (second_at m z < m + 172800)
at_near m l z h e = let r = runs_near m l z h e in go r.near r.early
  where
    less : (n : ℕ) → n ≤ 86398 → 172800 ≤ m → (t : Bool) → ltb m (suc n) ≡ t → (m ≤ nat_abs (sub_ℕ m (suc n)) + 86400) × (nat_abs (sub_ℕ m (suc n)) < m + 172800)
    less n k l true q = absurd (omega (arith, ltb-true m (suc n) q))
    less n k l false q = rw q (omega arith, omega arith)

    go : {z : ℤ} → Lies z → 172800 ≤ m → (m ≤ second_at m z + 86400) × (second_at m z < m + 172800)
    go (from_midnight n k) l = (omega arith, omega arith)
    go (before_midnight n k) l = less n k l (ltb m (suc n)) refl

-- EXAMPLES, on 2026-03-01. "the second with the sum that arithmetic gives (the source prints 20h48m49)"
abbrev row_of : ℕ → List ℕ → List ℕ
row_of n l = bytes_of (row_texts 1772323200 n l)

pub later : row_of 2 (text "20:38:49 7F 00/00/00 00:30:00") ≡ text "2,runs,76129,2026-03-01 21:08:49,20:38:49 7F 00/00/00 00:30:00" ++ feed
unfolding bytes_of row_texts answer_texts answered on_day read_clock is_text has_form stands clock_in time_in offset_in number_in byte_in in_range is_given given_of runs_on second_of signed_texts decimal_in is_leap days_in sum days_of month_from year_from bit
later = refl

-- one that an offset carries into the day before
pub earlier : row_of 5 (text "00:05:00 7F 00/00/00 -00:10:00") ≡ text "5,runs,-300,2026-02-28 23:55:00,00:05:00 7F 00/00/00 -00:10:00" ++ feed
unfolding bytes_of row_texts answer_texts answered on_day read_clock is_text has_form stands clock_in time_in offset_in number_in byte_in in_range is_given given_of runs_on second_of signed_texts decimal_in is_leap days_in sum days_of month_from year_from bit
earlier = refl

-- a text: a carriage return, a line without a byte, a clock that is switched off, and one that is none
unfoldable pub site : List ℕ
site = 13 ∷ 10 ∷ text "14:00:00 FF 00/00/00" ++ 13 ∷ 10 ∷ text "14:00"

pub site_rows : rows_of 1772323200 site ≡ text "line,answer,second,at,clock" ++ feed ++ text "2,idle,,,14:00:00 FF 00/00/00" ++ feed ++ text "3,21 NOT_A_CLOCK,,," ++ feed
unfolding site each_from cut_at length_of bytes_of row_texts answer_texts answered on_day read_clock is_text has_form stands clock_in time_in offset_in number_in byte_in in_range is_given given_of runs_on decimal_in is_leap days_in sum days_of month_from year_from bit
site_rows = refl
