-- Document 01, "Refusals, by number": "no lent byte and no state changes. A writer returns the count written; bytes after the frame stay."
use Rattle.std.specs.Prelude.{ℕ, Result, Ok, Err, ◌+◌, ◌≤◌, ◌<◌, ◌≡◌, List, ◌++◌, length, take, drop, set, true, false, leb}
use Rattle.std.proofs.Common.{sym, ap, ◌∙◌, length-append, take_at, le-leb, zero-add, arith}
use Rattle.std.proofs.lemmas.Bool.{lt-leb}
use Rattle.sum.specs.Sum.{sum_of}
use Rattle.lent.specs.Puts.{Puts}
use Rattle.lent.specs.Over.{puts_room, puts_length, puts_then, puts_byte}
use Rattle.refusal.specs.Test.{pick}
use Rattle.refusal.specs.Refusals.{number_of}
use Rattle.refusal.specs.Answer.{Answer, refused, full, demand, determined, said, said_one}
use Rattle.refusal.specs.declared.Refusal.{Refusal}
use Rattle.refusal.specs.declared.Refusal.TheVariants.{NoRoom}
use Rattle.frame.specs.Frame.{sealed, sealed_length}

-- what a writer says that is to write a frame, or to refuse: 8 is its last refusal
abbrev pub wrote : Answer (List ℕ) → List ℕ → Answer ℕ
wrote (refused k) out = refused k
wrote (full f) out = demand (leb (length f) (length out)) 8 (full (length f))

-- the buffer afterwards: the frame, and behind it what was there; or as it was
abbrev pub after : Answer (List ℕ) → List ℕ → List ℕ
after (refused k) out = out
after (full f) out = pick (leb (length f) (length out)) (f ++ drop (length f) out) out

-- the contract of every writer: v is the frame that it is to write, or the refusal that it is to give
pub record Written (v : Answer (List ℕ)) (out : List ℕ) (r : Result ℕ Refusal) (out' : List ℕ) : Type 0 where
  pub says : said r ≡ wrote v out
  pub leaves : out' ≡ after v out

-- it leaves no choice
pub written_one : {v : Answer (List ℕ)} {out p q : List ℕ} {r s : Result ℕ Refusal} → Written v out r p → Written v out s q → (r ≡ s) × (p ≡ q)
written_one {v} {out} {p} {q} {r} {s} a b = (determined said said_one r s a.says b.says, a.leaves ∙ sym b.leaves)

-- a refusal, and a frame that another writer is asked to write
pub refuses : {v : Answer (List ℕ)} {k : Refusal} (out : List ℕ) → v ≡ refused (number_of k) → Written v out (Err k) out
refuses out e = record { says = rw e; leaves = rw e }

pub passes : {v : Answer (List ℕ)} {f out p : List ℕ} {r : Result ℕ Refusal} → v ≡ full f → Written (full f) out r p → Written v out r p
passes e w = rw e w

-- where the buffer is long enough, the frame is written whole, and what lies behind it stays
pub written_whole : {f out p : List ℕ} {r : Result ℕ Refusal} → Written (full f) out r p → length f ≤ length out → (r ≡ Ok (length f)) × (p ≡ f ++ drop (length f) out)
written_whole {f} {out} {p} {r} w h =
    let t : leb (length f) (length out) ≡ true = le-leb (length f) (length out) h in
    (said_one r (Ok (length f)) (w.says ∙ rw t), w.leaves ∙ rw t)

-- a frame that was put at the start of a buffer with room for it is written
pub put_written : {f out p : List ℕ} {n : ℕ} → length f ≤ length out → Puts f out 0 n p → Written (full f) out (Ok n) p
put_written {f} {out} {p} {n} h w =
    let t : leb (length f) (length out) ≡ true = le-leb (length f) (length out) h in
    let a = puts_room {t = f} {out = out} {at = 0} (omega arith) w in
    let e : n ≡ length f = omega (arith, a.0) in
    record { says = rw (t, e); leaves = a.1 ∙ rw (t, zero-add (length f)) }

-- the bytes of a run, then those of another, then the sum of both, over a buffer with room for all
module _ (h d o p q : List ℕ) (x m n : ℕ) (room : length h + length d < length o)
    (first : Puts h o 0 m p) (second : Puts d p (length h) n q) (ex : x ≡ sum_of (take (length h + length d) q)) where
  both : Puts (h ++ d) o 0 (length h + length d) q
  both =
      let a = puts_room {t = h} {out = o} {at = 0} (omega arith) first in
      let b = puts_room {t = d} {out = p} {at = length h} (omega (arith, puts_length first)) second in
      let e : m ≡ length h = omega (arith, a.0) in
      let s : Puts d p m (length h + length d) q = rw (e, ← b.0) second in
      puts_then {t = h} (omega arith) first s

  sum_put : x ≡ sum_of (h ++ d)
  sum_put =
      let b = puts_room {t = h ++ d} {out = o} {at = 0} (omega (arith, length-append h d)) both in
      ex ∙ rw b.1 (ap sum_of (take_at (h ++ d) (drop (0 + length (h ++ d)) o) (length h + length d) (length-append h d)))

  pub writes : Written (full (sealed (h ++ d))) o (Ok (length h + length d + 1)) (set q (length h + length d) x)
  writes =
      let l : length (sealed (h ++ d)) ≡ length h + length d + 1 = omega (arith, sealed_length (h ++ d), length-append h d) in
      put_written (omega arith)
      (rw sum_put (puts_then {t = h ++ d} (omega (arith, length-append h d)) both (puts_byte (sum_of (h ++ d)) q (length h + length d) (omega (arith, puts_length both)))))

pub no_room : (h d o : List ℕ) → length o ≤ length h + length d → Written (full (sealed (h ++ d))) o (Err NoRoom) o
no_room h d o s =
    let t : leb (length (sealed (h ++ d))) (length o) ≡ false = lt-leb (length (sealed (h ++ d))) (length o) (omega (arith, sealed_length (h ++ d), length-append h d)) in
    record { says = rw t; leaves = rw t }
