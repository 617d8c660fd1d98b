-- Whatever the input, a run comes to its end: with room for what is held and a part behind it, each part can be read.
use Rattle.std.specs.Prelude.{ℕ, suc, ◌+◌, ◌≤◌, ◌≡◌, refl, false, List, [], ◌∷◌, ◌++◌, length, take, drop, pos, Ok, Err, Result}
use Rattle.std.proofs.Common.{◌∙◌, length-append, length-drop, length-take, take_at, length-take-le, arith}
use Rattle.lent.specs.Puts.{over}
use Rattle.lent.specs.All.{place_all, buffer_all}
use Rattle.lent.specs.Over.{over_length}
use Rattle.extent.specs.declared.Line.TheVariants.{Request}
use Rattle.extent.specs.Line.{cap_of}
use Rattle.turns.specs.Turn.{in_front}
use Rattle.turns.specs.Ends.{Parts}
use Rattle.quiet_run.specs.declared.Loud.{Loud}
use Rattle.quiet_run.specs.Scan.{scanned}
use Rattle.quiet_run.specs.Laws.{scan_goes_on}
use Rattle.quiet_turns.specs.declared.Watch.{Watch}
use Rattle.quiet_turns.specs.declared.Act.TheVariants.{Read, Says}
use Rattle.quiet_told.specs.Answer.{plus, loud_texts, closed_texts}
use Rattle.quiet_turns.specs.Turn.{start, Turns}
use Rattle.quiet_turns.specs.Run.{Run, reads_part, stops_at, reads_end}

-- a part put behind the bytes that are held
part_read : (n : ℕ) (p buf : List ℕ) → n + length p ≤ length buf → take (n + length p) (over p buf n) ≡ take n buf ++ p
part_read n p buf h =
    take_at (take n buf ++ p) (drop (n + length p) buf) (n + length p)
    (length-append (take n buf) p ∙ rw (length-take-le n buf (omega arith)))

module _ (size : ℕ) where
  abbrev Runs : Watch → List ℕ → List ℕ → List (List ℕ) → Type 0
  Runs w buf out ps = (text : List ℕ) × Run w buf out ps text

  -- from any watch that holds no more than a reader of the line
  runs : (ps : List (List ℕ)) → Parts size ps → (w : Watch) (buf out : List ℕ) → w.held ≤ cap_of Request → cap_of Request + size ≤ length buf
      → Runs w buf out ps
  runs [] parts w buf out h room =
      let ts = closed_texts w.passed (take w.held buf) in
      let d : Turns w (pos 0) buf out (Says (place_all ts out 0)) buf (buffer_all ts out 0) = record { answers = refl; keeps = refl; leaves = refl } in
      (take (place_all ts out 0) (buffer_all ts out 0), reads_end refl d)
  runs ([] ∷ ps) parts w buf out h room = absurd (omega (arith, parts.0))
  runs ((x ∷ p) ∷ ps) parts w buf out h room = go (scanned false s) refl (runs ps parts.2)
    where
      b : List ℕ
      b = over (x ∷ p) buf w.held

      s : List ℕ
      s = take (w.held + suc (length p)) b

      read : s ≡ take w.held buf ++ (x ∷ p)
      read = part_read w.held (x ∷ p) buf (omega (arith, parts.1))

      wide : length b ≡ length buf
      wide = over_length (x ∷ p) buf w.held (omega (arith, parts.1))

      front : (j : ℕ) → length (in_front (drop j s) b) ≡ length buf
      front j = length-append (drop j s) (drop (length (drop j s)) b) ∙ omega (arith, wide, length-drop (length (drop j s)) b, length-drop j s, length-take (w.held + suc (length p)) b)

      go : (y : Result ℕ Loud) → scanned false s ≡ y
          → ((v : Watch) (buf out : List ℕ) → v.held ≤ cap_of Request → cap_of Request + size ≤ length buf → Runs v buf out ps)
          → Runs w buf out ((x ∷ p) ∷ ps)
      go (Ok j) e again =
          let v : Watch = record { passed = plus w.passed j; held = length (drop j s) } in
          let d : Turns w (pos (suc (length p))) b out (Read v) (in_front (drop j s) b) out = record { answers = rw e; keeps = rw e; leaves = rw e } in
          let r = again v (in_front (drop j s) b) out (scan_goes_on s j e).1 (omega (arith, front j)) in
          (r.0, reads_part {buf' = b} {p = x ∷ p} (omega arith) read d r.1)
      go (Err y) e again =
          let ts = loud_texts (plus w.passed y.place) y.number (take y.size (drop y.place s)) in
          let d : Turns w (pos (suc (length p))) b out (Says (place_all ts out 0)) b (buffer_all ts out 0) = record { answers = rw e; keeps = rw e; leaves = rw e } in
          (take (place_all ts out 0) (buffer_all ts out 0), stops_at {buf' = b} {p = x ∷ p} (omega arith) read d)

-- A buffer with room for what a reader of the line holds, 12 bytes, and any part: there is a run to the end.
pub says_ends : (size : ℕ) (buf out : List ℕ) → cap_of Request + size ≤ length buf → (ps : List (List ℕ)) → Parts size ps
    → (text : List ℕ) × Run start buf out ps text
says_ends size buf out room ps parts = runs size ps parts start buf out (omega arith) room
