-- Document 01, "A small program": "It reads a reply line from standard input to its end and prints one line for each item". Turn by turn:
-- what to do next, and what a read makes of what is held.
use Rattle.std.specs.Prelude.{ℕ, zero, suc, ◌+◌, min, ◌≡◌, refl, true, false, List, [], ◌∷◌, ◌++◌, length, drop, ℤ, pos, negsuc, Option, Some, None}
use Rattle.std.proofs.Common.{sym, ◌∙◌}
use Rattle.refusal.specs.Test.{pick, clash}
use Rattle.stream.specs.Stream.{Item, counts_of}
use Rattle.extent.specs.declared.Line.{Line}
use Rattle.printed.specs.Text.{text_of}
use Rattle.items.specs.Pour.{poured}
use Rattle.turns.specs.declared.Turn.{Turn}
use Rattle.turns.specs.declared.Act.{Act}
use Rattle.turns.specs.declared.Act.TheVariants.{Write, Read, Done}
use Rattle.turns.specs.Keep.{unread}

-- a run begins with nothing held
abbrev pub start : Turn
start = record { at = 0; end = 0; closed = false }

-- the bytes that are held
abbrev pub held_by : Turn → List ℕ → List ℕ
held_by t buf = unread buf t.at t.end

-- where they end: an end behind the buffer's is the buffer's
abbrev pub end_of : Turn → List ℕ → ℕ
end_of t buf = min t.end (length buf)

-- the items that are poured of them into room for so much text
abbrev pub poured_by : Line → Turn → List ℕ → ℕ → List Item
poured_by on t buf room = poured on t.closed room (held_by t buf)

-- what is done next, and where the run then stands: so many bytes of text are written; more is read behind what is held; or it is done
pub data Doing : Type 0 where
  writes : ℕ → Turn → Doing
  reads : Turn → Doing
  done : Doing

-- The text of the items that are poured is written, and they are held no more. Where there are none, more is read behind what is held,
-- which is moved to the front of the buffer; and where the line is closed besides, the run is done.
abbrev pub doing : List Item → Turn → List ℕ → Doing
doing [] t buf = pick t.closed done (reads (record { at = 0; end = length (held_by t buf); closed = false }))
doing (i ∷ is) t buf = writes (length (text_of (i ∷ is))) (record { at = t.at + counts_of (i ∷ is); end = end_of t buf; closed = t.closed })

abbrev pub doing_next : Line → Turn → List ℕ → ℕ → Doing
doing_next on t buf room = doing (poured_by on t buf room) t buf

-- the buffer afterwards: where more is to be read, what is held stands in front
abbrev pub in_front : List ℕ → List ℕ → List ℕ
in_front h buf = h ++ drop (length h) buf

abbrev pub buffer_after : Doing → List ℕ → List ℕ → List ℕ
buffer_after (writes n t) h buf = buf
buffer_after (reads t) h buf = in_front h buf
buffer_after done h buf = buf

-- what the code's answer says
abbrev pub said_act : Act → Doing
said_act (Write n t) = writes n t
said_act (Read t) = reads t
said_act Done = done

-- the contract of `next`: its answer, and every byte of both buffers; the text stands in front of the second
pub record Turns (on : Line) (t : Turn) (buf out : List ℕ) (r : Act) (buf' out' : List ℕ) : Type 0 where
  pub says : said_act r ≡ doing_next on t buf (length out)
  pub keeps : buf' ≡ buffer_after (doing_next on t buf (length out)) (held_by t buf) buf
  pub leaves : out' ≡ in_front (text_of (poured_by on t buf (length out))) out

-- what a read makes of a turn, by what it answered, in a buffer of so many bytes: a failed read (a negative answer) is no end of the input,
-- and the run does not go on; no byte is its end, and closes the line; else so many bytes more are held
abbrev pub read_after : Turn → ℤ → ℕ → Option Turn
read_after t (negsuc k) size = None
read_after t (pos zero) size = Some (record { at = t.at; end = t.end; closed = true })
read_after t (pos (suc n)) size = Some (record { at = t.at; end = min (t.end + suc n) size; closed = t.closed })

-- they leave no choice
act_same : (x y : Act) → said_act x ≡ said_act y → x ≡ y
act_same (Write n t) (Write m u) e = cc
act_same (Write n t) (Read u) e = clash (cc)
act_same (Write n t) Done e = clash (cc)
act_same (Read t) (Write m u) e = clash (cc)
act_same (Read t) (Read u) e = cc
act_same (Read t) Done e = clash (cc)
act_same Done (Write m u) e = clash (cc)
act_same Done (Read u) e = clash (cc)
act_same Done Done e = refl

pub next_one : {on : Line} {t : Turn} {buf out a b o p : List ℕ} {r q : Act}
    → Turns on t buf out r a o → Turns on t buf out q b p → (r ≡ q) × (a ≡ b) × (o ≡ p)
next_one {r = r} {q = q} x y = (act_same r q (x.says ∙ sym y.says), x.keeps ∙ sym y.keeps, x.leaves ∙ sym y.leaves)
