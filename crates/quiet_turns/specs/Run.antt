-- The whole program, as any program runs that goes by the answers of `turn`: it begins with nothing passed and nothing held, reads behind what
-- is held, hands what the read answered to `turn`, goes on from the watch that it was given, and says what it is to say.
use Rattle.std.specs.Prelude.{ℕ, ◌+◌, ◌≤◌, min, ◌≡◌, refl, true, false, List, [], ◌∷◌, ◌++◌, length, take, drop, pos, Ok}
use Rattle.std.proofs.Common.{sym, ap, ◌∙◌, append_assoc, append-nil, length-append, take-append-drop, length-take-le, add-zero, arith}
use Rattle.std.proofs.Math.Seq.{drop-append-add}
use Rattle.refusal.specs.Test.{clash}
use Rattle.words.specs.Words.{text}
use Rattle.frame.specs.Frame.{byte}
use Rattle.lent.specs.All.{place_all, buffer_all}
use Rattle.stream.specs.Stream.{items, whole}
use Rattle.extent.specs.declared.Line.TheVariants.{Request}
use Rattle.line.specs.Rule.{settle}
use Rattle.quiet_run.specs.Quiet.{quiet_run, First, none, loud, first_loud}
use Rattle.quiet_run.specs.Scan.{loud_at, scanned}
use Rattle.quiet_run.specs.Laws.{quiet_first, scan_stands, scan_there, scan_goes_on, scan_stops, first_item, moved, first_moved}
use Rattle.quiet_turns.specs.declared.Watch.{Watch}
use Rattle.quiet_turns.specs.declared.Act.TheVariants.{Read, Says}
use Rattle.quiet_told.specs.Answer.{full64, plus, loud_texts, answer_texts, closed_texts}
use Rattle.quiet_turns.specs.Turn.{start, Turns}
use Rattle.quiet_turns.specs.Turning.{part_there}
use Rattle.quiet_turns.specs.Room.{answer_most, loud_most, closed_most, all_said}
use Rattle.quiet_turns.specs.Said.{turn_reads, turn_stops, turn_ends}

-- the line that answers for a whole run: that of its first item that is not quiet, or `yes`
abbrev pub answer_of : List ℕ → List ℕ
answer_of s = whole (closed_texts 0 s)

-- A run from where it stands, with its two buffers. Beside it the parts that are still to be read, of a byte at least, and what it says. A
-- read leaves the bytes that are held, puts those that it gives behind them, and may change any behind these. Where an item is not quiet
-- no more is read, whatever parts would come.
pub data Run : Watch → List ℕ → List ℕ → List (List ℕ) → List ℕ → Type 0 where
  reads_part : {w v : Watch} {buf buf' buf'' out out' p text : List ℕ} {ps : List (List ℕ)}
      → 1 ≤ length p
      → take (w.held + length p) buf' ≡ take w.held buf ++ p
      → Turns w (pos (length p)) buf' out (Read v) buf'' out'
      → Run v buf'' out' ps text
      → Run w buf out (p ∷ ps) text
  stops_at : {w : Watch} {buf buf' buf'' out out' p : List ℕ} {ps : List (List ℕ)} {n : ℕ}
      → 1 ≤ length p
      → take (w.held + length p) buf' ≡ take w.held buf ++ p
      → Turns w (pos (length p)) buf' out (Says n) buf'' out'
      → Run w buf out (p ∷ ps) (take n out')
  reads_end : {w : Watch} {buf buf' buf'' out out' : List ℕ} {n : ℕ}
      → take w.held buf' ≡ take w.held buf
      → Turns w (pos 0) buf' out (Says n) buf'' out'
      → Run w buf out [] (take n out')

-- a place behind some bytes, counted on
place_on : (p n a : ℕ) → p ≡ min n full64 → plus p a ≡ plus 0 (n + a)
place_on p n a e = omega (arith, e)

-- bytes behind some others, with more behind them
part_behind : (before s t : List ℕ) (a m : ℕ) → a + m ≤ length s → take m (drop (length before + a) (before ++ (s ++ t))) ≡ take m (drop a s)
part_behind before s t a m h = ap (take m) (drop-append-add before (s ++ t) a) ∙ part_there m a s t h

-- the answer for the first item behind some bytes, as that of the whole
answer_on : (p : ℕ) (before s t : List ℕ) (x : First) → p ≡ min (length before) full64 → ((a k m : ℕ) → x ≡ loud a k m → a + m ≤ length s)
    → answer_texts p s x ≡ answer_texts 0 (before ++ (s ++ t)) (moved (length before) x)
answer_on p before s t none e there = refl
answer_on p before s t (loud a k m) e there =
    rw (place_on p (length before) a e, part_behind before s t a m (there a k m refl))

-- of a whole run some bytes are passed, behind which the first item that is not quiet is still to come: their count is kept, and the
-- bytes h are held
record Behind (before h : List ℕ) (passed : ℕ) : Type 0 where
  counted : passed ≡ min (length before) full64
  same : (t : List ℕ) → first_loud 0 (items (settle Request) (before ++ (h ++ t))) ≡ first_loud (length before) (items (settle Request) (h ++ t))

-- j bytes more are passed: nothing of the whole is lost
split_same : (j : ℕ) (before s t : List ℕ) → (before ++ take j s) ++ (drop j s ++ t) ≡ before ++ (s ++ t)
split_same j before s t =
    append_assoc before (take j s) (drop j s ++ t)
    ∙ ap (λ (l : List ℕ). before ++ l) (sym (append_assoc (take j s) (drop j s) t) ∙ ap (λ (l : List ℕ). l ++ t) (take-append-drop j s))

module _ {before h : List ℕ} {passed : ℕ} (b : Behind before h passed) where
  -- all that is there is what is held and a part behind it
  module _ (p s : List ℕ) (e : s ≡ h ++ p) where
    there_same : (t : List ℕ) → s ++ t ≡ h ++ (p ++ t)
    there_same t = rw e (append_assoc h p t)

    whole_same : (t : List ℕ) → first_loud 0 (items (settle Request) (before ++ (s ++ t))) ≡ first_loud (length before) (items (settle Request) (s ++ t))
    whole_same t = rw (there_same t) (b.same (p ++ t))

    -- the scan of it is past j bytes
    past_step : (j c : ℕ) → scanned false s ≡ Ok j → c ≡ plus passed j → Behind (before ++ take j s) (drop j s) c
    past_step j c f q =
        let g = scan_goes_on s j f in
        let l : length (before ++ take j s) ≡ length before + j = length-append before (take j s) ∙ rw (length-take-le j s g.2) in
        record {
          counted = omega (arith, b.counted);
          same = λ t. rw (split_same j before s t, l) (whole_same t ∙ g.0 (length before) t);
        }

    -- or it stops at an item
    stop_step : (a k m : ℕ) (t : List ℕ) → scanned false s ≡ loud_at a k m
        → whole (loud_texts (plus passed a) k (take m (drop a s))) ≡ answer_of (before ++ (h ++ (p ++ t)))
    stop_step a k m t f =
        let first : first_loud 0 (items (settle Request) (before ++ (s ++ t))) ≡ loud (length before + a) k m = whole_same t ∙ scan_stops s a k m f (length before) t in
        let place : plus passed a ≡ plus 0 (length before + a) = place_on passed (length before) a b.counted in
        let bytes : take m (drop (length before + a) (before ++ (s ++ t))) ≡ take m (drop a s) = part_behind before s t a m (scan_there false s a k m f) in
        sym (ap (λ (x : First). whole (answer_texts 0 (before ++ (s ++ t)) x)) first ∙ rw (place, bytes)) ∙ ap (λ (l : List ℕ). answer_of (before ++ l)) (there_same t)

  -- no more comes behind what is held
  end_step : whole (closed_texts passed h) ≡ answer_of (before ++ (h ++ []))
  end_step =
      let first : first_loud 0 (items (settle Request) (before ++ (h ++ []))) ≡ moved (length before) (first_loud 0 (items (settle Request) h)) =
      b.same [] ∙ rw (append-nil h) (ap (λ (n : ℕ). first_loud n (items (settle Request) h)) (sym (add-zero (length before))) ∙ first_moved (length before) 0 (items (settle Request) h)) in
      ap whole (answer_on passed before h [] (first_loud 0 (items (settle Request) h)) b.counted (λ a k m f. first_item h a k m f))
      ∙ sym (ap (λ (x : First). whole (answer_texts 0 (before ++ (h ++ [])) x)) first)

-- what is said stands in front of the buffer, where it has room
said : (ts : List (List ℕ)) (out out' : List ℕ) (n : ℕ) → length (whole ts) ≤ length out → n ≡ place_all ts out 0 → out' ≡ buffer_all ts out 0
    → take n out' ≡ whole ts
said ts out out' n h e f = rw (e, f) (all_said ts out h)

run_says : {w : Watch} {buf out text : List ℕ} {ps : List (List ℕ)} → Run w buf out ps text
    → (before : List ℕ) → Behind before (take w.held buf) w.passed → answer_most ≤ length out
    → text ≡ answer_of (before ++ (take w.held buf ++ whole ps))
unfolding whole
run_says (reads_part {w} {v} {buf} {buf'} {buf''} {out} {out'} {p} {text} {ps} l e d r) before b o =
    let s = take (w.held + length p) buf' in
    let g = turn_reads w buf' (length p) l d in
    let c : Behind (before ++ take g.by s) (take v.held buf'') v.passed = rw g.front (past_step b p s e g.by v.passed g.past g.counted) in
    run_says r (before ++ take g.by s) c (omega (arith, ap length g.same))
    ∙ rw g.front
    (ap answer_of (split_same g.by before s (whole ps)) ∙ ap (λ (z : List ℕ). answer_of (before ++ z)) (there_same b p s e (whole ps)))
run_says (stops_at {w} {buf} {buf'} {buf''} {out} {out'} {p} {ps} {n} l e d) before b o =
    let s = take (w.held + length p) buf' in
    let g = turn_stops w buf' (length p) l d in
    let most = loud_most false (drop g.place s) (plus w.passed g.place) g.number g.size (scan_stands false s g.place g.number g.size g.found).0 in
    said (loud_texts (plus w.passed g.place) g.number (take g.size (drop g.place s))) out out' n (omega arith) g.says g.leaves
    ∙ stop_step b p s e g.place g.number g.size (whole ps) g.found
run_says (reads_end {w} {buf} {buf'} {buf''} {out} {out'} {n} e d) before b o =
    let g = turn_ends w buf' d in
    said (closed_texts w.passed (take w.held buf')) out out' n (omega (arith, closed_most w.passed (take w.held buf'))) g.0 g.1
    ∙ rw e (end_step b)

-- With room for each answer: a run says the line of the whole input's first item that is not quiet, or `yes`, however it is read; and where it
-- stopped before the end, that is the line whatever would come behind.
pub says_answer : (buf out : List ℕ) → answer_most ≤ length out → {ps : List (List ℕ)} {text : List ℕ} → Run start buf out ps text
    → text ≡ answer_of (whole ps)
says_answer buf out o r = run_says r [] (record { counted = refl; same = λ t. refl }) o

-- the answer is yes exactly if the run is quiet
abbrev pub yes : List ℕ
yes = text "yes" ++ (10 ∷ [])

pub yes_exactly : (s : List ℕ) → (quiet_run s ≡ true → answer_of s ≡ yes) × (answer_of s ≡ yes → quiet_run s ≡ true)
unfolding whole
yes_exactly s = ((λ q. rw ((quiet_first 0 s).0 q) refl), λ q. (quiet_first 0 s).1 (go (first_loud 0 (items (settle Request) s)) refl q))
  where
    go : (x : First) → first_loud 0 (items (settle Request) s) ≡ x → answer_of s ≡ yes → first_loud 0 (items (settle Request) s) ≡ none
    go none e q = e
    go (loud a k m) e q = clash (let z : whole (loud_texts (plus 0 a) k (take m (drop a s))) ≡ yes = rw e at q in let y = ap (λ (l : List ℕ). byte 0 l) z in absurd (omega arith))
