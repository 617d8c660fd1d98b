-- The whole program, as any program runs that goes by the answers of `next` and `read`: it writes where the answer is to write, reads
-- behind what is held where it is to read, and stops where it is done or where a read failed.
use Rattle.std.specs.Prelude.{ℕ, suc, ◌+◌, ◌≤◌, min, ◌≡◌, refl, true, length, take, ℤ, pos, Some, None}
use Rattle.std.proofs.Common.{sym, ◌∙◌, arith}
use Rattle.std.proofs.Math.Path.{ap}
use Rattle.std.proofs.Math.Bool.{false}
use mathlib.Core.List.{List, [], ◌∷◌, ◌++◌, append_assoc, append-nil}
use Rattle.refusal.specs.Test.{clash}
use Rattle.stream.specs.Stream.{nothing, items, whole}
use Rattle.stream.specs.Items.{items_none}
use Rattle.extent.specs.declared.Line.{Line}
use Rattle.line.specs.Rule.{item_at, settle}
use Rattle.line.specs.Laws.{lawful}
use Rattle.printed.specs.Text.{text_of}
use Rattle.printed.specs.Length.{text_append, text_none}
use Rattle.items.specs.Poured.{rest, poured_items}
use Rattle.items.specs.Pour.{longest_line}
use Rattle.items.specs.Room.{none_stands, none_left}
use Rattle.turns.specs.declared.Turn.{Turn}
use Rattle.turns.specs.declared.Act.TheVariants.{Write, Read, Done}
use Rattle.turns.specs.Turn.{start, held_by, poured_by, Turns, read_after}
use Rattle.turns.specs.Next.{take_least}
use Rattle.turns.specs.Said.{turn_room, turn_writes, turn_reads, turn_done}

-- how a run ends: it is done; or a read failed, and these bytes are held
pub data End : Type 0 where
  finished : End
  broken : List ℕ → End

-- A run from where it stands, with its two buffers. Beside it the parts that are still read, of a byte at least; the text that it
-- writes; and how it ends. A read leaves the bytes that are held, puts those that it gives behind them, and may change any behind these.
pub data Run (on : Line) : Turn → List ℕ → List ℕ → List (List ℕ) → List ℕ → End → Type 0 where
  writes_out : {t u : Turn} {buf buf' out out' text : List ℕ} {ps : List (List ℕ)} {n : ℕ} {e : End}
      → Turns on t buf out (Write n u) buf' out'
      → Run on u buf' out' ps text e
      → Run on t buf out ps (take n out' ++ text) e
  reads_part : {t u v : Turn} {buf buf' buf'' out out' p text : List ℕ} {ps : List (List ℕ)} {e : End}
      → Turns on t buf out (Read u) buf' out'
      → 1 ≤ length p
      → take (u.end + length p) buf'' ≡ take u.end buf' ++ p
      → Some v ≡ read_after u (pos (length p)) (length buf'')
      → Run on v buf'' out' ps text e
      → Run on t buf out (p ∷ ps) text e
  reads_end : {t u v : Turn} {buf buf' buf'' out out' text : List ℕ} {e : End}
      → Turns on t buf out (Read u) buf' out'
      → take u.end buf'' ≡ take u.end buf'
      → Some v ≡ read_after u (pos 0) (length buf'')
      → Run on v buf'' out' [] text e
      → Run on t buf out [] text e
  read_fails : {t u : Turn} {buf buf' out out' : List ℕ} (got : ℤ) (size : ℕ)
      → Turns on t buf out (Read u) buf' out'
      → None ≡ read_after u got size
      → Run on t buf out [] [] (broken (held_by u buf'))
  is_done : {t : Turn} {buf buf' out out' : List ℕ} {ps : List (List ℕ)}
      → Turns on t buf out Done buf' out'
      → Run on t buf out ps [] finished

-- what is left unread
abbrev pub left_at : End → List ℕ
left_at finished = []
left_at (broken l) = l

-- a read of some bytes, and one of none
read_some : (u v : Turn) (p buf' buf'' : List ℕ) → 1 ≤ length p → u.at ≡ 0 → take (u.end + length p) buf'' ≡ take u.end buf' ++ p
    → Some v ≡ read_after u (pos (length p)) (length buf'') → (held_by v buf'' ≡ take u.end buf' ++ p) × (v.closed ≡ u.closed)
read_some u v [] buf' buf'' h z b e = absurd (omega arith)
read_some u v (x ∷ p) buf' buf'' h z b e =
    let q : v ≡ record { at = u.at; end = min (u.end + suc (length p)) (length buf''); closed = u.closed } = cc in
    (rw (q, z, take_least (u.end + suc (length p)) buf'') b, rw q)

read_none : (u v : Turn) (buf'' : List ℕ) (size : ℕ) → u.at ≡ 0 → Some v ≡ read_after u (pos 0) size
    → (held_by v buf'' ≡ take u.end buf'') × (v.closed ≡ true)
read_none u v buf'' size z e =
    let q : v ≡ record { at = u.at; end = u.end; closed = true } = cc in
    (rw (q, z), rw q)

module _ (on : Line) where
  -- the text of a run and of what it leaves unread is that of the whole input: what it held, and all that it read
  pub run_text : {t : Turn} {buf out text : List ℕ} {ps : List (List ℕ)} {e : End} → Run on t buf out ps text e
      → longest_line on ≤ length out → (t.closed ≡ true → ps ≡ [])
      → text ++ text_of (items (settle on) (left_at e)) ≡ text_of (items (settle on) (held_by t buf ++ whole ps))
  unfolding whole
  run_text (writes_out {t} {u} {buf} {buf'} {out} {out'} {text} {ps} {n} {e} w r) l c =
      let x = turn_writes w in
      let p = poured_by on t buf (length out) in
      let again = run_text r (omega (arith, turn_room w)) (λ d. c (sym x.still ∙ d)) in
      let q = poured_items on t.closed (length out) (held_by t buf) (whole ps) (λ d. ap whole (c d)) in
      append_assoc (take n out') text (text_of (items (settle on) (left_at e)))
      ∙ rw (x.text, again, x.held) (sym (text_append p (items (settle on) (rest p (held_by t buf) ++ whole ps))) ∙ ap text_of (sym q))
  run_text (reads_part {t} {u} {v} {buf} {buf'} {buf''} {out} {out'} {p} {text} {ps} {e} w h b g r) l c =
      let x = turn_reads w in
      let y = read_some u v p buf' buf'' h (rw x.turn) b g in
      let n : v.closed ≡ false = y.1 ∙ rw x.turn in
      run_text r (omega (arith, turn_room w)) (λ d. clash (cc))
      ∙ rw (y.0, x.front) (ap (λ (s : List ℕ). text_of (items (settle on) s)) (append_assoc (held_by t buf) p (whole ps)))
  run_text (reads_end {t} {u} {v} {buf} {buf'} {buf''} {out} {out'} {text} {e} w b g r) l c =
      let x = turn_reads w in
      let y = read_none u v buf'' (length buf'') (rw x.turn) g in
      run_text r (omega (arith, turn_room w)) (λ d. refl) ∙ rw (y.0, b, x.front)
  run_text (read_fails {t} {u} {buf} {buf'} {out} {out'} got size w g) l c =
      let x = turn_reads w in
      let y : held_by u buf' ≡ held_by t buf = rw x.turn (rw x.turn at x.front) in
      rw (y, append-nil (held_by t buf))
  run_text (is_done {t} {buf} {buf'} {out} {out'} {ps} w) l c =
      let x = turn_done w in
      rw (none_left on (length out) l (held_by t buf) (rw x.shut at x.none), c x.shut)

  -- where a read failed, nothing stands in what is held: all that was settled is written
  pub broken_waits : {t : Turn} {buf out text left : List ℕ} {ps : List (List ℕ)} {e : End} → Run on t buf out ps text e
      → longest_line on ≤ length out → e ≡ broken left
      → item_at on false left ≡ nothing
  broken_waits (writes_out w r) l q = broken_waits r (omega (arith, turn_room w)) q
  broken_waits (reads_part w h b g r) l q = broken_waits r (omega (arith, turn_room w)) q
  broken_waits (reads_end w b g r) l q = broken_waits r (omega (arith, turn_room w)) q
  broken_waits {left = left} (read_fails {t} {u} {buf} {buf'} {out} {out'} got size w g) l q =
      let x = turn_reads w in
      let y : held_by u buf' ≡ held_by t buf = rw x.turn (rw x.turn at x.front) in
      let z : held_by u buf' ≡ left = cc in
      rw (sym z ∙ y) (none_stands on (length out) l false (held_by t buf) (rw x.goes_on at x.none))
  broken_waits (is_done w) l q = clash (cc)

-- For each line, with room for its longest line of text (142 bytes for a reply line): a run that is done has written the lines of the items
-- of the whole input, whatever the sizes of its parts; and one whose read failed has written those of all items that what it read settles.
module _ (on : Line) (buf out : List ℕ) (enough : longest_line on ≤ length out) where
  pub prints : {ps : List (List ℕ)} {text : List ℕ} → Run on start buf out ps text finished → text ≡ text_of (items (settle on) (whole ps))
  prints {ps} {text} r =
      let e : text_of (items (settle on) []) ≡ [] = rw (items_none (settle on) (lawful on)) text_none in
      sym (append-nil text) ∙ (rw e at (run_text on r enough (λ c. clash (cc))))

  pub prints_broken : {ps : List (List ℕ)} {text left : List ℕ} → Run on start buf out ps text (broken left)
      → (text ++ text_of (items (settle on) left) ≡ text_of (items (settle on) (whole ps))) × (item_at on false left ≡ nothing)
  prints_broken r = (run_text on r enough (λ c. clash (cc)), broken_waits on r enough refl)
