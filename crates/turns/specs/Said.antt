-- What an answer of `next` tells of the turn.
use Rattle.std.specs.Prelude.{ℕ, ◌+◌, ◌≤◌, ◌≡◌, refl, Bool, true, false, List, [], ◌∷◌, ◌++◌, length, take, drop}
use Rattle.std.proofs.Common.{sym, ap, ◌∙◌, length-append, length-drop, drop-drop, arith}
use Rattle.std.proofs.Math.Seq.{take-append_seam}
use Rattle.refusal.specs.Test.{pick, clash}
use Rattle.stream.specs.Stream.{Item, counts_of}
use Rattle.extent.specs.declared.Line.{Line}
use Rattle.extent.specs.Line.{cap_of}
use Rattle.printed.specs.Text.{text_of}
use Rattle.items.specs.Pour.{ready, longest_line}
use Rattle.items.specs.Poured.{rest, fitting_most}
use Rattle.items.specs.Room.{left_few}
use Rattle.turns.specs.declared.Turn.{Turn}
use Rattle.turns.specs.declared.Act.{Act}
use Rattle.turns.specs.declared.Act.TheVariants.{Write, Read, Done}
use Rattle.turns.specs.Next.{take_least}
use Rattle.turns.specs.Turn.{held_by, end_of, poured_by, writes, reads, done, Turns}

-- it writes: the text of what is poured, and that is held no more
pub record Wrote (on : Line) (t : Turn) (buf out : List ℕ) (n : ℕ) (u : Turn) (buf' out' : List ℕ) : Type 0 where
  pub text : take n out' ≡ text_of (poured_by on t buf (length out))
  pub held : held_by u buf' ≡ rest (poured_by on t buf (length out)) (held_by t buf)
  pub still : u.closed ≡ t.closed
  pub there : n ≤ length out'

-- it reads: nothing is poured, and what is held stands in front
pub record Asks (on : Line) (t : Turn) (buf out : List ℕ) (u : Turn) (buf' : List ℕ) : Type 0 where
  pub none : poured_by on t buf (length out) ≡ []
  pub goes_on : t.closed ≡ false
  pub turn : u ≡ record { at = 0; end = length (held_by t buf); closed = false }
  pub front : take u.end buf' ≡ held_by t buf

-- it is done: nothing is poured of a closed line
pub record Ended (on : Line) (t : Turn) (buf out : List ℕ) : Type 0 where
  pub none : poured_by on t buf (length out) ≡ []
  pub shut : t.closed ≡ true

module _ {on : Line} {t : Turn} {buf out buf' out' : List ℕ} where
  -- the room for text stays what it is
  pub turn_room : {r : Act} → Turns on t buf out r buf' out' → length out' ≡ length out
  turn_room w =
      let p = poured_by on t buf (length out) in
      ap length w.leaves
      ∙ length-append (text_of p) (drop (length (text_of p)) out)
      ∙ (let l = length-drop (length (text_of p)) out in
      omega (arith, fitting_most (length out) (ready on t.closed (held_by t buf))))

  text_front : {r : Act} → Turns on t buf out r buf' out' → take (length (text_of (poured_by on t buf (length out)))) out' ≡ text_of (poured_by on t buf (length out))
  text_front w = rw w.leaves (take-append_seam (text_of (poured_by on t buf (length out))) (drop (length (text_of (poured_by on t buf (length out)))) out))

  pub turn_writes : {n : ℕ} {u : Turn} → Turns on t buf out (Write n u) buf' out' → Wrote on t buf out n u buf' out'
  turn_writes {n} {u} w = go (poured_by on t buf (length out)) refl
    where
      shut : (c : Bool) → writes n u ≡ pick c done (reads (record { at = 0; end = length (held_by t buf); closed = false })) → Wrote on t buf out n u buf' out'
      shut true e = clash (cc)
      shut false e = clash (cc)

      go : (p : List Item) → poured_by on t buf (length out) ≡ p → Wrote on t buf out n u buf' out'
      go [] e = shut t.closed (rw e at w.says)
      go (i ∷ is) e =
          let q : writes n u ≡ writes (length (text_of (i ∷ is))) (record { at = t.at + counts_of (i ∷ is); end = end_of t buf; closed = t.closed }) = rw e at w.says in
          let l : n ≡ length (text_of (i ∷ is)) = cc in
          let v : u ≡ record { at = t.at + counts_of (i ∷ is); end = end_of t buf; closed = t.closed } = cc in
          let b : buf' ≡ buf = rw e at w.keeps in
          let o : out' ≡ text_of (i ∷ is) ++ drop (length (text_of (i ∷ is))) out = rw e at w.leaves in
          record {
            text = rw (l, ← e) (text_front w);
            held = rw (v, b, e, take_least t.end buf) (sym (drop-drop (counts_of (i ∷ is)) t.at (take t.end buf)));
            still = rw v;
            there = omega (arith, ap length o, length-append (text_of (i ∷ is)) (drop (length (text_of (i ∷ is))) out));
          }

  pub turn_reads : {u : Turn} → Turns on t buf out (Read u) buf' out' → Asks on t buf out u buf'
  turn_reads {u} w = go (poured_by on t buf (length out)) refl
    where
      goes_on_lem : (c : Bool) → t.closed ≡ c → poured_by on t buf (length out) ≡ [] → Asks on t buf out u buf'
      goes_on_lem true c e = clash (let q : reads u ≡ done = rw (e, c) at w.says in cc)
      goes_on_lem false c e =
          let q : reads u ≡ reads (record { at = 0; end = length (held_by t buf); closed = false }) = rw (e, c) at w.says in
          let v : u ≡ record { at = 0; end = length (held_by t buf); closed = false } = cc in
          let b : buf' ≡ held_by t buf ++ drop (length (held_by t buf)) buf = rw (e, c) at w.keeps in
          record { none = e; goes_on = c; turn = v; front = rw (v, b) (take-append_seam (held_by t buf) (drop (length (held_by t buf)) buf)) }

      go : (p : List Item) → poured_by on t buf (length out) ≡ p → Asks on t buf out u buf'
      go [] e = goes_on_lem t.closed refl e
      go (i ∷ is) e = clash (let q : reads u ≡ writes (length (text_of (i ∷ is))) (record { at = t.at + counts_of (i ∷ is); end = end_of t buf; closed = t.closed }) = rw e at w.says in cc)

  pub turn_done : Turns on t buf out Done buf' out' → Ended on t buf out
  turn_done w = go (poured_by on t buf (length out)) refl
    where
      shut : (c : Bool) → t.closed ≡ c → poured_by on t buf (length out) ≡ [] → Ended on t buf out
      shut true c e = record { none = e; shut = c }
      shut false c e = clash (let q : done ≡ reads (record { at = 0; end = length (held_by t buf); closed = false }) = rw (e, c) at w.says in cc)

      go : (p : List Item) → poured_by on t buf (length out) ≡ p → Ended on t buf out
      go [] e = shut t.closed refl e
      go (i ∷ is) e = clash (let q : done ≡ writes (length (text_of (i ∷ is))) (record { at = t.at + counts_of (i ∷ is); end = end_of t buf; closed = t.closed }) = rw e at w.says in cc)

  -- with room for a line, where it reads no more is held than a reader holds
  pub reads_few : {u : Turn} → longest_line on ≤ length out → Turns on t buf out (Read u) buf' out' → u.end ≤ cap_of on
  reads_few l w =
      let a = turn_reads w in
      rw a.turn (left_few on (length out) l (held_by t buf) (rw a.goes_on at a.none))
