-- "Read the legacy clock text": a text is accepted exactly if it is the text of some clock in range, with an offset exactly where it is
-- astronomical, and that clock is one.
use Rattle.std.specs.Prelude.{ℕ, ◌+◌, ◌/◌, ◌<◌, ◌≤◌, ◌≡◌, refl, Bool, true, false, not, ◌&&◌, ◌||◌, List, [], ◌∷◌, ◌++◌, ◌↔◌, length, get_or, drop, leb, ltb}
use Rattle.std.proofs.Common.{sym, ap, ap₂, ◌∙◌, drop_of_length-le, leb-true, eq-eqb, ne_eqb, arith}
use Rattle.std.proofs.Math.Seq.{drop-drop}
use Rattle.refusal.specs.Test.{both_left, both_right}
use Rattle.refusal.specs.Answer.{full, demand_elim, full_one}
use Rattle.words.specs.Words.{text}
use Rattle.calendar.specs.Calendar.{two}
use Rattle.clock_text.specs.declared.Time.{Time}
use Rattle.clock_text.specs.declared.Offset.{Offset}
use Rattle.clock_text.specs.declared.Offset.TheVariants.{Absent, Later, Earlier}
use Rattle.clock_text.specs.declared.Clock.{Clock}
use Rattle.clock_text.specs.Clock.{stands, has_form, is_text, byte_in, time_in, offset_in, clock_in, is_time, is_none, is_offset, in_range, read_clock}
use Rattle.clock_text.specs.Clock.{three, time_text, days_text, date_text, offset_text, text_of}
use Rattle.clock_text.specs.Forms.{form_length, either_one, text_size, size_kind, accepted}
use Rattle.clocks.specs.Symbols.{figure_stands, two_says, two_stand, hex_stands, hex_says, hex_stand, colon, slash, blank, minus}
use Rattle.clocks.specs.Cells.{form_at, front_at, form_append, cells, cells_split, cells_all}

-- "an offset stands exactly where the clock is astronomical"
abbrev pub has_offset : Offset → Bool
has_offset Absent = false
has_offset (Later t) = true
has_offset (Earlier t) = true

abbrev pub is_astronomical : Clock → Bool
is_astronomical c = has_offset c.offset

-- a clock in range, whose weekdays are a byte
pub record IsClock (c : Clock) : Type 0 where
  pub ranges : in_range c ≡ true
  pub byte : c.weekdays < 256

-- WHAT IS WRITTEN HAS THE FORM. Its parts
three_form : (p x y z : ℕ) → stands p p ≡ true → has_form (48 ∷ 48 ∷ p ∷ 48 ∷ 48 ∷ p ∷ 48 ∷ 48 ∷ []) (three p x y z) ≡ true
unfolding has_form
three_form p x y z h = rw (h, figure_stands (x / 10), figure_stands x, figure_stands (y / 10), figure_stands y, figure_stands (z / 10), figure_stands z)

time_form : (t : Time) → has_form (text "00:00:00") (time_text t) ≡ true
unfolding stands
time_form t = three_form 58 t.hour t.minute t.second refl

date_form : (c : Clock) → has_form (text "00/00/00") (date_text c) ≡ true
unfolding stands
date_form c = three_form 47 c.day c.month c.year refl

days_form : (w : ℕ) → w < 256 → has_form (text " FF ") (days_text w) ≡ true
unfolding has_form stands
days_form w h = rw ((hex_stands w h).0, (hex_stands w h).1)

later_form : (t : Time) → has_form (text " 00:00:00") (offset_text (Later t)) ≡ true
unfolding has_form stands
later_form t = form_append (text " ") (text "00:00:00") (32 ∷ []) (time_text t) refl (time_form t)

earlier_form : (t : Time) → has_form (text " -00:00:00") (offset_text (Earlier t)) ≡ true
unfolding has_form stands
earlier_form t = form_append (text " -") (text "00:00:00") (32 ∷ 45 ∷ []) (time_text t) refl (time_form t)

-- the 20 bytes in front of the offset
abbrev front : Clock → List ℕ
front c = time_text c.time ++ days_text c.weekdays ++ date_text c

front_form : (c : Clock) → c.weekdays < 256 → has_form (text "00:00:00 FF 00/00/00") (front c) ≡ true
front_form c h =
    form_append (text "00:00:00 FF ") (text "00/00/00") (time_text c.time ++ days_text c.weekdays) (date_text c)
    (form_append (text "00:00:00") (text " FF ") (time_text c.time) (days_text c.weekdays) (time_form c.time) (days_form c.weekdays h))
    (date_form c)

pub or_true : (x : Bool) → x || true ≡ true
or_true true = refl
or_true false = refl

pub written_form : (c : Clock) → c.weekdays < 256 → is_text (is_astronomical c) (text_of c) ≡ true
unfolding text_of is_text
written_form c h = go c.offset
  where
    go : (o : Offset) → is_text (has_offset o) (front c ++ offset_text o) ≡ true
    go Absent = front_form c h
    go (Later t) =
        let e : has_form (text "00:00:00 FF 00/00/00 00:00:00") (front c ++ offset_text (Later t)) ≡ true =
        form_append (text "00:00:00 FF 00/00/00") (text " 00:00:00") (front c) (offset_text (Later t)) (front_form c h) (later_form t) in
        rw e
    go (Earlier t) =
        let e : has_form (text "00:00:00 FF 00/00/00 -00:00:00") (front c ++ offset_text (Earlier t)) ≡ true =
        form_append (text "00:00:00 FF 00/00/00") (text " -00:00:00") (front c) (offset_text (Earlier t)) (front_form c h) (earlier_form t) in
        rw e (or_true (has_form (text "00:00:00 FF 00/00/00 00:00:00") (front c ++ offset_text (Earlier t))))

-- ITS FIELDS COME BACK
pub time_range : (t : Time) → is_time t ≡ true → ((t.hour ≤ 23) × (t.minute ≤ 59)) × (t.second ≤ 59)
time_range t e =
    let a = both_left (leb t.hour 23 && leb t.minute 59) (leb t.second 59) e in (
      (leb-true t.hour 23 (both_left (leb t.hour 23) (leb t.minute 59) a), leb-true t.minute 59 (both_right (leb t.hour 23) (leb t.minute 59) a)),
      leb-true t.second 59 (both_right (leb t.hour 23 && leb t.minute 59) (leb t.second 59) e),
    )

time_says : (t : Time) (x : List ℕ) → is_time t ≡ true → time_in (time_text t ++ x) ≡ t
unfolding time_in
time_says t x e =
    let r = time_range t e in
    let h = two_says t.hour (58 ∷ two t.minute ++ (58 ∷ two t.second) ++ x) (omega (arith, r.0.0)) in
    let m = two_says t.minute (58 ∷ two t.second ++ x) (omega (arith, r.0.1)) in
    let s = two_says t.second x (omega (arith, r.1)) in
    λ i. record { hour = h i; minute = m i; second = s i }

offset_says : (c : Clock) (o : Offset) → is_offset o ≡ true → offset_in (front c ++ offset_text o) ≡ o
unfolding offset_in
offset_says c Absent e = refl
offset_says c (Later t) e = ap Later (time_says t [] e)
offset_says c (Earlier t) e = ap Earlier (time_says t [] (both_left (is_time t) (not (is_none t)) e))

-- the fields of a clock in range
pub record Ranges (c : Clock) : Type 0 where
  pub time : is_time c.time ≡ true
  pub day : c.day ≤ 31
  pub month : c.month ≤ 12
  pub year : c.year ≤ 99
  pub offset : is_offset c.offset ≡ true

pub in_ranges : (c : Clock) → in_range c ≡ true → Ranges c
unfolding in_range
in_ranges c e =
    let o : Bool = is_offset c.offset in
    let a : Bool = is_time c.time in
    let b : Bool = a && leb c.day 31 in
    let d : Bool = b && leb c.month 12 in
    let f : Bool = d && leb c.year 99 in
    let g = both_left f o e in
    let h = both_left d (leb c.year 99) g in
    let k = both_left b (leb c.month 12) h in
    record {
      time = both_left a (leb c.day 31) k;
      day = leb-true c.day 31 (both_right a (leb c.day 31) k);
      month = leb-true c.month 12 (both_right b (leb c.month 12) h);
      year = leb-true c.year 99 (both_right d (leb c.year 99) g);
      offset = both_right f o e;
    }

pub fields_back : (c : Clock) → IsClock c → clock_in (text_of c) ≡ c
unfolding clock_in text_of
fields_back c h =
    let r = in_ranges c h.ranges in
    let behind : List ℕ = offset_text c.offset in
    let t = time_says c.time (days_text c.weekdays ++ date_text c ++ behind) r.time in
    let w = hex_says c.weekdays (32 ∷ date_text c ++ behind) h.byte in
    let d = two_says c.day (47 ∷ two c.month ++ (47 ∷ two c.year) ++ behind) (omega (arith, r.day)) in
    let m = two_says c.month (47 ∷ two c.year ++ behind) (omega (arith, r.month)) in
    let y = two_says c.year behind r.year in
    let o = offset_says c c.offset r.offset in
    λ i. record { time = t i; weekdays = w i; day = d i; month = m i; year = y i; offset = o i }

-- WHAT HAS THE FORM IS WRITTEN SO. A time in its eight places
module _ (s : List ℕ) (i : ℕ) (a : stands 48 (get_or s i 0) ≡ true) (b : stands 48 (get_or s (i + 1) 0) ≡ true) (c : stands 58 (get_or s (i + 2) 0) ≡ true)
    (d : stands 48 (get_or s (i + 3) 0) ≡ true) (e : stands 48 (get_or s (i + 3 + 1) 0) ≡ true) (f : stands 58 (get_or s (i + 5) 0) ≡ true)
    (g : stands 48 (get_or s (i + 6) 0) ≡ true) (h : stands 48 (get_or s (i + 6 + 1) 0) ≡ true) where
  time_cells : time_text (time_in (drop i s))
      ≡ get_or s i 0 ∷ get_or s (i + 1) 0 ∷ get_or s (i + 2) 0 ∷ get_or s (i + 3) 0 ∷ get_or s (i + 3 + 1) 0 ∷ get_or s (i + 5) 0 ∷ get_or s (i + 6) 0 ∷ get_or s (i + 6 + 1) 0 ∷ []
  unfolding time_in
  time_cells =
      rw (drop-drop 3 i s, drop-drop 6 i s, colon (get_or s (i + 2) 0) c, colon (get_or s (i + 5) 0) f)
      (λ k. two_stand s i a b k ++ (58 ∷ two_stand s (i + 3) d e k) ++ (58 ∷ two_stand s (i + 6) g h k))

-- the 20 places in front
module _ (s : List ℕ) (p : (i : ℕ) → i < 20 → stands (get_or (text "00:00:00 FF 00/00/00") i 0) (get_or s i 0) ≡ true) where
  front_time : time_text (time_in (drop 0 s)) ≡ cells 0 8 s
  unfolding cells
  front_time =
      time_cells s 0 (p 0 (omega arith)) (p 1 (omega arith)) (p 2 (omega arith)) (p 3 (omega arith)) (p 4 (omega arith)) (p 5 (omega arith)) (p 6 (omega arith)) (p 7 (omega arith))

  front_days : (byte_in (drop 9 s) < 256) × (days_text (byte_in (drop 9 s)) ≡ cells 8 4 s)
  unfolding cells
  front_days =
      let x = hex_stand s 9 (p 9 (omega arith)) (p 10 (omega arith)) in
      (x.0, rw (blank (get_or s 8 0) (p 8 (omega arith)), blank (get_or s 11 0) (p 11 (omega arith))) (λ k. (32 ∷ x.1 k) ++ (32 ∷ [])))

  front_date : date_text (clock_in s) ≡ cells 12 8 s
  unfolding cells clock_in
  front_date =
      rw (slash (get_or s 14 0) (p 14 (omega arith)), slash (get_or s 17 0) (p 17 (omega arith)))
      (λ k. two_stand s 12 (p 12 (omega arith)) (p 13 (omega arith)) k ++ (47 ∷ two_stand s 15 (p 15 (omega arith)) (p 16 (omega arith)) k)
      ++ (47 ∷ two_stand s 18 (p 18 (omega arith)) (p 19 (omega arith)) k))

  front_cells : front (clock_in s) ≡ cells 0 20 s
  unfolding clock_in cells
  front_cells = λ k. front_time k ++ front_days.1 k ++ front_date k

-- and what stands behind them
record Back (a : Bool) (s : List ℕ) : Type 0 where
  written : text_of (clock_in s) ≡ s
  byte : (clock_in s).weekdays < 256
  kind : is_astronomical (clock_in s) ≡ a

back : (s : List ℕ) (o : Offset) → ((i : ℕ) → i < 20 → stands (get_or (text "00:00:00 FF 00/00/00") i 0) (get_or s i 0) ≡ true) → 20 ≤ length s
    → offset_in s ≡ o → offset_text o ≡ drop 20 s → Back (has_offset o) s
unfolding text_of clock_in
back s o p h e q = record {
  written = ap₂ (λ (x y : List ℕ). x ++ y) (front_cells s p) (ap offset_text e ∙ q) ∙ sym (cells_split 0 20 s h);
  byte = (front_days s p).0;
  kind = ap has_offset e;
}

plain_back : (s : List ℕ) → has_form (text "00:00:00 FF 00/00/00") s ≡ true → Back false s
unfolding offset_in
plain_back s e =
    let l = form_length (text "00:00:00 FF 00/00/00") s e in
    let m : length s ≡ 29 → ⊥ = λ x. omega arith in
    let n : length s ≡ 30 → ⊥ = λ x. omega arith in
    back s Absent (form_at (text "00:00:00 FF 00/00/00") s e) (omega arith) (rw (ne_eqb (length s) 29 m, ne_eqb (length s) 30 n)) (sym (drop_of_length-le s {i = 20} (omega arith)))

later_back : (s : List ℕ) → has_form (text "00:00:00 FF 00/00/00 00:00:00") s ≡ true → Back true s
unfolding offset_in cells
later_back s e =
    let f : List ℕ = text "00:00:00 FF 00/00/00 00:00:00" in
    let l = form_length f s e in
    let p = form_at f s e in
    let t = time_cells s 21 (p 21 (omega arith)) (p 22 (omega arith)) (p 23 (omega arith)) (p 24 (omega arith)) (p 25 (omega arith)) (p 26 (omega arith)) (p 27 (omega arith)) (p 28 (omega arith)) in
    let q : 32 ∷ time_text (time_in (drop 21 s)) ≡ cells 20 9 s = rw (blank (get_or s 20 0) (p 20 (omega arith))) (λ k. 32 ∷ t k) in
    back s (Later (time_in (drop 21 s))) (front_at (text "00:00:00 FF 00/00/00") (text " 00:00:00") s e) (omega arith)
    (rw (eq-eqb (length s) 29 l))
    (q ∙ sym (cells_all 20 9 s l))

earlier_back : (s : List ℕ) → has_form (text "00:00:00 FF 00/00/00 -00:00:00") s ≡ true → Back true s
unfolding offset_in cells
earlier_back s e =
    let f : List ℕ = text "00:00:00 FF 00/00/00 -00:00:00" in
    let l = form_length f s e in
    let p = form_at f s e in
    let m : length s ≡ 29 → ⊥ = λ x. omega arith in
    let t = time_cells s 22 (p 22 (omega arith)) (p 23 (omega arith)) (p 24 (omega arith)) (p 25 (omega arith)) (p 26 (omega arith)) (p 27 (omega arith)) (p 28 (omega arith)) (p 29 (omega arith)) in
    let q : 32 ∷ 45 ∷ time_text (time_in (drop 22 s)) ≡ cells 20 10 s = rw (blank (get_or s 20 0) (p 20 (omega arith)), minus (get_or s 21 0) (p 21 (omega arith))) (λ k. 32 ∷ 45 ∷ t k) in
    back s (Earlier (time_in (drop 22 s))) (front_at (text "00:00:00 FF 00/00/00") (text " -00:00:00") s e) (omega arith)
    (rw (ne_eqb (length s) 29 m, eq-eqb (length s) 30 l))
    (q ∙ sym (cells_all 20 10 s l))

text_back : (a : Bool) (s : List ℕ) → is_text a s ≡ true → Back a s
unfolding is_text
text_back false s e = plain_back s e
text_back true s e =
    either_one (has_form (text "00:00:00 FF 00/00/00 00:00:00") s) (has_form (text "00:00:00 FF 00/00/00 -00:00:00") s) (later_back s) (earlier_back s) e

-- EXACTLY: what is accepted, and as which clock
pub read_exactly : (a : Bool) (s : List ℕ) (c : Clock) → (read_clock a s ≡ full c) ↔ (IsClock c × (s ≡ text_of c) × (is_astronomical c ≡ a))
unfolding read_clock
read_exactly a s c = (there, back_there)
  where
    there : read_clock a s ≡ full c → IsClock c × (s ≡ text_of c) × (is_astronomical c ≡ a)
    there =
        demand_elim (is_text a s) 21
        (λ e. demand_elim (in_range (clock_in s)) 22
        (λ r f.
        let same : clock_in s ≡ c = full_one f in
        let b = text_back a s e in
        let all : IsClock (clock_in s) × (s ≡ text_of (clock_in s)) × (is_astronomical (clock_in s) ≡ a) =
        (record { ranges = r; byte = b.byte }, sym b.written, b.kind) in
        rw same at all))

    back_there : IsClock c × (s ≡ text_of c) × (is_astronomical c ≡ a) → read_clock a s ≡ full c
    back_there (h, e, k) =
        let f : is_text a s ≡ true = rw (e, ← k) (written_form c h.byte) in
        let g : clock_in s ≡ c = ap clock_in e ∙ fields_back c h in
        let r : in_range (clock_in s) ≡ true = ap in_range g ∙ h.ranges in
        sym (accepted a s f r) ∙ ap full g

-- no text is that of both kinds: its length tells which
pub kind_length : (a : Bool) (s : List ℕ) (c : Clock) → read_clock a s ≡ full c → ltb 20 (length s) ≡ a
unfolding read_clock
kind_length a s c = demand_elim (is_text a s) 21 (λ e f. size_kind (text_size a s e))
