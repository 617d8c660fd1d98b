-- Whatever the input, a run comes to its end.
use Rattle.std.specs.Prelude.{ℕ, zero, suc, ◌+◌, ◌≤◌, ◌<◌, min, ◌≡◌, refl, Bool, true, false, List, [], ◌∷◌, ◌++◌, length, take, drop}
use Rattle.std.proofs.Common.{◌∙◌, length-append, length-drop, take_at, length-take-le, arith}
use Rattle.lent.specs.Puts.{over}
use Rattle.lent.specs.Over.{over_length}
use Rattle.stream.specs.Stream.{Item, reading, counts_of}
use Rattle.extent.specs.declared.Line.{Line}
use Rattle.extent.specs.Line.{cap_of}
use Rattle.line.specs.Says.{stands_at}
use Rattle.printed.specs.Text.{text_of}
use Rattle.items.specs.Pour.{longest_line}
use Rattle.items.specs.Poured.{rest_next, poured_cases}
use Rattle.items.specs.Room.{left_few}
use Rattle.turns.specs.declared.Turn.{Turn}
use Rattle.turns.specs.declared.Act.TheVariants.{Write, Read, Done}
use Rattle.turns.specs.Keeping.{unread_length}
use Rattle.turns.specs.Turn.{start, held_by, end_of, poured_by, in_front, Turns}
use Rattle.turns.specs.Said.{turn_room, turn_writes}
use Rattle.turns.specs.Run.{Run, writes_out, reads_part, reads_end, is_done, finished}

-- parts of a byte at least, and of so many at most
abbrev pub Parts : ℕ → List (List ℕ) → Type 0
Parts size [] = Unit {0}
Parts size (p ∷ ps) = (1 ≤ length p) × (length p ≤ size) × Parts size ps

-- the three answers of `next`
module _ (on : Line) (t : Turn) (buf out : List ℕ) where
  abbrev texted : List ℕ
  texted = in_front (text_of (poured_by on t buf (length out))) out

  answer_writes : (i : Item) (is : List Item) → poured_by on t buf (length out) ≡ i ∷ is
      → Turns on t buf out (Write (length (text_of (i ∷ is))) (record { at = t.at + counts_of (i ∷ is); end = end_of t buf; closed = t.closed })) buf texted
  answer_writes i is e = record { says = rw e; keeps = rw e; leaves = refl }

  answer_reads : poured_by on t buf (length out) ≡ [] → t.closed ≡ false
      → Turns on t buf out (Read (record { at = 0; end = length (held_by t buf); closed = false })) (in_front (held_by t buf) buf) texted
  answer_reads e c = record { says = rw (e, c); keeps = rw (e, c); leaves = refl }

  answer_done : poured_by on t buf (length out) ≡ [] → t.closed ≡ true → Turns on t buf out Done buf texted
  answer_done e c = record { says = rw (e, c); keeps = rw (e, c); leaves = refl }

held_length : (t : Turn) (buf : List ℕ) → length (held_by t buf) ≤ length buf
held_length t buf = omega (arith, unread_length buf t.at t.end)

front_length : (h buf : List ℕ) → length h ≤ length buf → length (in_front h buf) ≡ length buf
front_length h buf l = length-append h (drop (length h) buf) ∙ simp length-drop (omega arith)

module _ (on : Line) (size : ℕ) where
  -- there is room for what a reader holds and a part, and for a line of text
  abbrev Wide : List ℕ → List ℕ → Type 0
  Wide buf out = (cap_of on + size ≤ length buf) × (longest_line on ≤ length out)

  abbrev Runs : Turn → List ℕ → List ℕ → List (List ℕ) → Type 0
  Runs t buf out ps = (text : List ℕ) × Run on t buf out ps text finished

  -- it writes until nothing more is poured: each time fewer bytes are held
  until : (c : Bool) (ps : List (List ℕ))
      → ((t : Turn) (buf out : List ℕ) → Wide buf out → t.closed ≡ c → poured_by on t buf (length out) ≡ [] → Runs t buf out ps)
      → (n : ℕ) (t : Turn) (buf out : List ℕ) → Wide buf out → t.closed ≡ c → length (held_by t buf) < n → Runs t buf out ps
  until c ps stop zero t buf out w k l = absurd (omega arith)
  until c ps stop (suc n) t buf out w k l =
      poured_cases on t.closed (length out) (held_by t buf)
      (λ j m e f q.
      let a = answer_writes on t buf out _ _ q in
      let x = turn_writes a in
      let s = stands_at on t.closed (held_by t buf) j m e in
      let less : length (held_by (record { at = t.at + counts_of (reading j (take m (held_by t buf)) ∷ _); end = end_of t buf; closed = t.closed }) buf) < n =
      rw (x.held, q, rest_next j m (held_by t buf) _ s.3) (simp (length-drop, length-drop) (omega (arith, s.2, s.3, length-drop t.at (take t.end buf)))) in
      let r = until c ps stop n _ buf (texted on t buf out) (w.0, omega (arith, turn_room a)) k less in
      (take (length (text_of (reading j (take m (held_by t buf)) ∷ _))) (texted on t buf out) ++ r.0, writes_out a r.1))
      (λ e q. stop t buf out w k q)
      (λ j m e f q. stop t buf out w k q)

  -- of a closed line it is then done
  runs_closed : (t : Turn) (buf out : List ℕ) → Wide buf out → t.closed ≡ true → Runs t buf out []
  runs_closed t buf out w k =
      until true [] (λ t buf out w k q. ([], is_done (answer_done on t buf out q k))) (suc (length (held_by t buf))) t buf out w k (omega arith)

  -- of one that is not it reads part by part, and closes it at the end
  runs : (ps : List (List ℕ)) → Parts size ps → (t : Turn) (buf out : List ℕ) → Wide buf out → t.closed ≡ false → Runs t buf out ps
  runs [] parts t buf out w k =
      until false []
      (λ t buf out w k q.
      let a = answer_reads on t buf out q k in
      let b = in_front (held_by t buf) buf in
      let l : length b ≡ length buf = front_length (held_by t buf) buf (held_length t buf) in
      let r = runs_closed (record { at = 0; end = length (held_by t buf); closed = true }) b (texted on t buf out) (omega arith, omega (arith, turn_room a)) refl in
      (r.0, reads_end {buf'' = b} a refl refl r.1))
      (suc (length (held_by t buf))) t buf out w k (omega arith)
  runs ([] ∷ ps) parts t buf out w k = absurd (omega (arith, parts.0))
  runs ((x ∷ p) ∷ ps) parts t buf out w k =
      until false ((x ∷ p) ∷ ps)
      (λ t buf out w k q.
      let a = answer_reads on t buf out q k in
      let h = held_by t buf in
      let few : length h ≤ cap_of on = left_few on (length out) w.1 h (rw k at q) in
      let front = in_front h buf in
      let l : length front ≡ length buf = front_length h buf (held_length t buf) in
      let room : length h + suc (length p) ≤ length front = omega (arith, parts.1) in
      let b = over (x ∷ p) front (length h) in
      let m : length b ≡ length front = over_length (x ∷ p) front (length h) room in
      let s : take (length h + suc (length p)) b ≡ take (length h) front ++ (x ∷ p) =
      take_at (take (length h) front ++ (x ∷ p)) _ (length h + suc (length p)) (length-append (take (length h) front) (x ∷ p) ∙ rw (length-take-le (length h) front (omega arith))) in
      let r = runs ps parts.2 (record { at = 0; end = min (length h + suc (length p)) (length b); closed = false }) b (texted on t buf out) (omega arith, omega (arith, turn_room a)) refl in
      (r.0, reads_part {buf'' = b} a (omega arith) s refl r.1))
      (suc (length (held_by t buf))) t buf out w k (omega arith)

-- For each line, a buffer with room for what a reader holds and any part, and room for the longest line of text: there is a run to the end.
pub prints_ends : (on : Line) (size : ℕ) (buf out : List ℕ) → cap_of on + size ≤ length buf → longest_line on ≤ length out
    → (ps : List (List ℕ)) → Parts size ps → (text : List ℕ) × Run on start buf out ps text finished
prints_ends on size buf out b o ps parts = runs on size ps parts start buf out (b, o) refl
