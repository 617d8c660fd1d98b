-- All turns one after the other: what the program prints of a whole text.
use Prim.Native.Nat.{ℕ, ◌+◌, ◌-◌, ◌≤◌, ◌<◌}
use Rattle.std.specs.Prelude.{◌≡◌, Bool, true, false, List, [], ◌∷◌, ◌++◌, length, take, drop}
use Rattle.std.proofs.Math.Path.{refl}
use Rattle.std.proofs.Common.{sym, ◌∙◌, append_assoc, append-nil, lt-ltb}
use native.Mathlib.Omega.{arith}
use Rattle.refusal.specs.Test.{pick}
use Rattle.lent.specs.Puts.{fits, Puts}
use Rattle.lent.specs.Over.{puts_room}
use Rattle.words.specs.Words.{before}
use Rattle.plan_wanted.specs.Wanted.{lines_of}
use Rattle.plan_wanted.specs.Places.{line_turn, line_done}
use Rattle.clock_told.specs.Bytes.{bytes_of, over_front, puts_bytes}
use Rattle.clock_rows.specs.declared.Step.{Step}
use Rattle.clock_rows.specs.Rows.{trimmed, header_text, row_texts, told_texts, line_at, next_at, Turned}
use Rattle.clock_rows.specs.Room.{row_most, told_most}

-- what is said of lines, the first of which has this number. The lines of a text are `lines_of` of crate plan_wanted: "The input is cut at each line feed;
-- behind the last line feed stands another line only if there is a byte"
unfoldable pub each_from : (ℕ → List ℕ → List (List ℕ)) → ℕ → List (List ℕ) → List ℕ
each_from f n [] = []
each_from f n (l ∷ ls) = bytes_of (f n (trimmed l)) ++ each_from f (n + 1) ls

-- STANDARD OUTPUT. "The header, also where there is no clock at all, then one row for each line that is not passed over, in the order of the lines"; "Lines are counted from 1"
abbrev pub rows_of : ℕ → List ℕ → List ℕ
rows_of m s = header_text ++ each_from (row_texts m) 1 (lines_of s)

-- STANDARD ERROR
abbrev pub told_of : ℕ → List ℕ → List ℕ
told_of m s = each_from (told_texts m) 1 (lines_of s)

-- what is said from a place of the text on: of the line there, and from the next place on; at the end, nothing
module _ (f : ℕ → List ℕ → List (List ℕ)) (n : ℕ) (s : List ℕ) (i : ℕ) where
  pub each_turn : i < length s → each_from f n (lines_of (drop i s)) ≡ bytes_of (f n (line_at s i)) ++ each_from f (n + 1) (lines_of (drop (next_at s i) s))
  unfolding each_from
  each_turn h =
      let e : ℕ = i + before 10 (drop i s) in
      let k : e - i ≡ before 10 (drop i s) = omega arith in
      rw (lt-ltb i (length s) h, line_turn s i e h refl, k)

  pub each_done : length s ≤ i → each_from f n (lines_of (drop i s)) ≡ []
  unfolding each_from
  each_done h = rw (line_done s i h)

-- the header ends where it ends, or where it began if it has no room
pub header_ends : {out o : List ℕ} {r : ℕ} → Puts header_text out 0 r o → r ≤ 28
header_ends {out} p = go (fits header_text out 0) p.says
  where
    go : (t : Bool) {r : ℕ} → r ≡ pick t 28 0 → r ≤ 28
    go true e = omega arith
    go false e = omega arith

-- a turn where both buffers have room goes on, and no row is longer than its room
pub turn_ends : {m : ℕ} (s : List ℕ) (i : ℕ) {n : ℕ} (out : List ℕ) (at : ℕ) (err : List ℕ) {r : Step} {o e : List ℕ}
    → i < length s → at + 128 ≤ length out → 256 ≤ length err → Turned m s i n out at err r o e → (i < r.next) × (r.at ≤ at + 128) × (r.told ≤ 256)
turn_ends {m} s i {n} out at err {r} h f g t =
    let l : List ℕ = line_at s i in
    let a = (puts_bytes {ts = row_texts m n l} {out = out} {at = at} (omega (arith, row_most m n l)) t.row).0 in
    let b = (puts_bytes {ts = told_texts m n l} {out = err} {at = 0} (omega (arith, told_most m n l)) t.told).0 in
    let k : i < next_at s i = rw (lt-ltb i (length s) h) (omega arith) in
    (omega (arith, t.next), omega (arith, row_most m n l), omega (arith, told_most m n l))

-- THE PROGRAM, between two of its steps: it has written w to standard output and v to standard error, has more in its buffer in front of a place, and goes
-- on with line n, which begins at place i. What is still to come then makes up the whole
pub record Printing (m : ℕ) (s w v out : List ℕ) (at i n : ℕ) : Type 0 where
  pub output : w ++ take at out ++ each_from (row_texts m) n (lines_of (drop i s)) ≡ rows_of m s
  pub errors : v ++ each_from (told_texts m) n (lines_of (drop i s)) ≡ told_of m s

module _ (m : ℕ) (s : List ℕ) where
  -- it begins with the header in its buffer
  pub printing_start : {out o : List ℕ} {r : ℕ} → 28 ≤ length out → Puts header_text out 0 r o → Printing m s [] [] o r 0 1
  printing_start {out} {o} {r} h p =
      let a = puts_room {t = header_text} {out = out} h p in
      let e : take r o ≡ header_text = rw (a.0, a.1) (over_front header_text out 0 (omega arith)) in
      record { output = rw e; errors = refl }

  module _ (w v out : List ℕ) (at i n : ℕ) (p : Printing m s w v out at i n) where
    abbrev rows_next : List ℕ
    rows_next = each_from (row_texts m) (n + 1) (lines_of (drop (next_at s i) s))

    abbrev told_next : List ℕ
    told_next = each_from (told_texts m) (n + 1) (lines_of (drop (next_at s i) s))

    -- a turn where both buffers have room: what the turn puts into the second goes to standard error
    pub printing_turn : {err o e : List ℕ} {r : Step} → i < length s → at + 128 ≤ length out → 256 ≤ length err → Turned m s i n out at err r o e
        → Printing m s w (v ++ take r.told e) o r.at r.next (n + 1)
    printing_turn {err} {o} {e} {r} h f g t =
        let row : List ℕ = bytes_of (row_texts m n (line_at s i)) in
        let told : List ℕ = bytes_of (told_texts m n (line_at s i)) in
        let a = (puts_bytes {ts = row_texts m n (line_at s i)} (omega (arith, row_most m n (line_at s i))) t.row).1 in
        let b = (puts_bytes {ts = told_texts m n (line_at s i)} (omega (arith, told_most m n (line_at s i))) t.told).1 in
        let c : w ++ (take at out ++ row) ++ rows_next ≡ rows_of m s =
        rw (append_assoc w (take at out ++ row) rows_next, append_assoc (take at out) row rows_next, ← append_assoc w (take at out) (row ++ rows_next), ← each_turn (row_texts m) n s i h) p.output in
        let d : v ++ told ++ told_next ≡ told_of m s = rw (append_assoc v told told_next, ← each_turn (told_texts m) n s i h) p.errors in
        record { output = rw (a, t.next) c; errors = rw (b, t.next) d }

    -- the buffer goes to standard output
    pub printing_write : Printing m s (w ++ take at out) v out 0 i n
    printing_write = record { output = rw (append-nil (w ++ take at out)) p.output; errors = p.errors }

  -- at the end of the text, with nothing in the buffer, the whole has been printed
  pub printing_done : (w v out : List ℕ) (i n : ℕ) → Printing m s w v out 0 i n → length s ≤ i → (w ≡ rows_of m s) × (v ≡ told_of m s)
  printing_done w v out i n p h =
      let a : w ++ [] ++ [] ≡ rows_of m s = rw (each_done (row_texts m) n s i h) at p.output in
      let b : v ++ [] ≡ told_of m s = rw (each_done (told_texts m) n s i h) at p.errors in
      (sym (append-nil w) ∙ sym (append-nil (w ++ [])) ∙ a, sym (append-nil v) ∙ b)
