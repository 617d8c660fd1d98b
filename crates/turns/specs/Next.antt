-- What is poured of the bytes held tells what is done next.
use Rattle.std.specs.Prelude.{ℕ, ◌<◌, min, ◌≡◌, refl, Bool, true, false, List, [], ◌∷◌, length, take, leb}
use Rattle.std.proofs.Common.{sym, ap, ◌∙◌, take_all, leb-true, leb-false, add-zero, arith}
use Rattle.stream.specs.Stream.{Item, counts_of}
use Rattle.extent.specs.declared.Line.{Line}
use Rattle.printed.specs.Text.{text_of}
use Rattle.printed.specs.Length.{text_none}
use Rattle.items.specs.declared.Poured.{Poured}
use Rattle.items.specs.Pour.{Pours}
use Rattle.items.specs.Pouring.{wrote_none}
use Rattle.turns.specs.declared.Turn.{Turn}
use Rattle.turns.specs.declared.Act.TheVariants.{Write, Read, Done}
use Rattle.turns.specs.Keep.{unread, Keeps}
use Rattle.turns.specs.Turn.{held_by, end_of, poured_by, Turns}

-- an end behind the buffer's is the buffer's
pub take_least : (n : ℕ) (s : List ℕ) → take (min n (length s)) s ≡ take n s
take_least n s = go (leb n (length s)) refl
  where
    go : (x : Bool) → leb n (length s) ≡ x → take (min n (length s)) s ≡ take n s
    go true e =
        let l = leb-true n (length s) e in
        let m : min n (length s) ≡ n = omega arith in
        ap (λ (k : ℕ). take k s) m
    go false e =
        let l = leb-false n (length s) e in
        take_all (min n (length s)) s (omega arith) ∙ sym (take_all n s (omega arith))

module _ (on : Line) (t : Turn) (buf out : List ℕ) {out' : List ℕ} {r : Poured} (w : Pours (poured_by on t buf (length out)) t.at out r out') where
  -- some text is to be written
  pub next_writes : (e : ℕ) → e ≡ end_of t buf → 0 < r.wrote
      → Turns on t buf out (Write r.wrote (record { at = r.read; end = e; closed = t.closed })) buf out'
  next_writes e q h = go (poured_by on t buf (length out)) refl
    where
      go : (p : List Item) → poured_by on t buf (length out) ≡ p
          → Turns on t buf out (Write r.wrote (record { at = r.read; end = e; closed = t.closed })) buf out'
      go [] f =
          let z : r.wrote ≡ length (text_of []) = rw f at w.wrote in
          absurd (omega (arith, ap length text_none))
      go (i ∷ is) f = record { says = rw (q, w.read, w.wrote, f); keeps = rw f; leaves = w.leaves }

  -- or none is
  none : r.wrote ≡ 0 → poured_by on t buf (length out) ≡ []
  none e = wrote_none (poured_by on t buf (length out)) w e

  pub next_done : r.wrote ≡ 0 → t.closed ≡ true → Turns on t buf out Done buf out'
  next_done e c = record { says = rw (none e, c); keeps = rw (none e, c); leaves = w.leaves }

  pub next_reads : (e : ℕ) {buf' : List ℕ} {n : ℕ} → e ≡ end_of t buf → r.wrote ≡ 0 → t.closed ≡ false → Keeps buf r.read e n buf'
      → Turns on t buf out (Read (record { at = 0; end = n; closed = false })) buf' out'
  unfolding counts_of
  next_reads e q z c k =
      let a : r.read ≡ t.at = w.read ∙ rw (none z) (add-zero t.at) in
      let h : unread buf r.read e ≡ held_by t buf = rw (a, q, take_least t.end buf) in
      record { says = rw (none z, c, k.says, h); keeps = rw (none z, c) (rw h at k.leaves); leaves = w.leaves }
