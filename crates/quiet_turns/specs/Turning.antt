-- A turn in steps: the scan of the bytes that are there, and what the read answered.
use Rattle.std.specs.Prelude.{ℕ, zero, suc, ◌+◌, ◌-◌, ◌≤◌, min, ◌≡◌, refl, true, false, List, ◌++◌, length, take, drop, ℤ, pos, negsuc, Ok, Some, None}
use Rattle.std.proofs.Common.{sym, ap, ◌∙◌, length-drop, take-append-drop, arith}
use Rattle.std.proofs.lemmas.List.{take-append-le, drop-append-le}
use Rattle.refusal.specs.Test.{clash}
use Rattle.lent.specs.All.{PutsAll}
use Rattle.turns.specs.declared.Turn.{Turn}
use Rattle.turns.specs.Keep.{Keeps}
use Rattle.turns.specs.Turn.{read_after}
use Rattle.turns.specs.Next.{take_least}
use Rattle.quiet_run.specs.Scan.{loud_at, scanned}
use Rattle.quiet_run.specs.Laws.{scan_there}
use Rattle.quiet_turns.specs.declared.Watch.{Watch}
use Rattle.quiet_turns.specs.declared.Act.{Act}
use Rattle.quiet_turns.specs.declared.Act.TheVariants.{Failed, Read, Says}
use Rattle.quiet_told.specs.Answer.{plus, loud_texts, closed_texts}
use Rattle.quiet_told.specs.Putting.{part}
use Rattle.quiet_turns.specs.Turn.{going, fails, says, doing, Onward, Turns}

-- bytes that are there stay there with others behind them
pub part_there : (m a : ℕ) (s t : List ℕ) → a + m ≤ length s → take m (drop a (s ++ t)) ≡ take m (drop a s)
part_there m a s t h = rw (drop-append-le a s t (omega arith)) (take-append-le m (drop a s) t (simp length-drop (omega arith)))

-- more bytes are there: they are passed over, and the rest is kept; or one is not quiet
module _ (passed end : ℕ) (buf : List ℕ) {out : List ℕ} where
  pub onward_past : (j n h : ℕ) {buf' : List ℕ} → scanned false (take end buf) ≡ Ok j → n ≡ plus passed j → Keeps buf j end h buf'
      → Onward passed end buf out (Read (record { passed = n; held = h })) buf' out
  onward_past j n h e q k = record { answers = rw (e, q, k.says); keeps = rw e k.leaves; leaves = rw e }

  pub onward_loud : (a k m n : ℕ) {out' : List ℕ} {r : ℕ} → scanned false (take end buf) ≡ loud_at a k m → n ≡ plus passed a
      → PutsAll (loud_texts n k (take (a + m - a) (drop a buf))) out 0 r out'
      → Onward passed end buf out (Says r) buf out'
  onward_loud a k m n e q p =
      let s : take m (drop a (take end buf)) ≡ take m (drop a buf) =
      sym (part_there m a (take end buf) (drop end buf) (scan_there false (take end buf) a k m e)) ∙ rw (take-append-drop end buf) in
      record {
        answers = rw (e, s, ← q, ← part a m, p.says);
        keeps = rw e;
        leaves = rw (e, s, ← q, ← part a m) p.leaves;
      }

-- what a read makes of what is held
abbrev pub held_turn : Watch → Turn
held_turn w = record { at = 0; end = w.held; closed = false }

module _ (w : Watch) (buf : List ℕ) where
  doing_failed : (got : ℤ) → None ≡ read_after (held_turn w) got (length buf) → doing w got buf ≡ fails
  doing_failed (negsuc k) e = refl
  doing_failed (pos zero) e = clash (cc)
  doing_failed (pos (suc n)) e = clash (cc)

  doing_closed : (got : ℤ) (t : Turn) → Some t ≡ read_after (held_turn w) got (length buf) → t.closed ≡ true
      → doing w got buf ≡ says (closed_texts w.passed (take t.end buf))
  doing_closed (negsuc k) t e c = clash (cc)
  doing_closed (pos zero) t e c =
      let q : t ≡ record { at = 0; end = w.held; closed = true } = cc in
      let f : t.end ≡ w.held = ap (λ (x : Turn). x.end) q in
      rw f
  doing_closed (pos (suc n)) t e c =
      let q : t ≡ record { at = 0; end = min (w.held + suc n) (length buf); closed = false } = cc in
      let f : t.closed ≡ false = ap (λ (x : Turn). x.closed) q in
      clash (cc)

  doing_goes : (got : ℤ) (t : Turn) → Some t ≡ read_after (held_turn w) got (length buf) → t.closed ≡ false
      → doing w got buf ≡ going w.passed (take t.end buf)
  doing_goes (negsuc k) t e c = clash (cc)
  doing_goes (pos zero) t e c =
      let q : t ≡ record { at = 0; end = w.held; closed = true } = cc in
      let f : t.closed ≡ true = ap (λ (x : Turn). x.closed) q in
      clash (cc)
  doing_goes (pos (suc n)) t e c =
      let q : t ≡ record { at = 0; end = min (w.held + suc n) (length buf); closed = false } = cc in
      let f : t.end ≡ min (w.held + suc n) (length buf) = ap (λ (x : Turn). x.end) q in
      ap (going w.passed) (sym (ap (λ (k : ℕ). take k buf) f ∙ take_least (w.held + suc n) buf))

  pub turn_failed : {out : List ℕ} (got : ℤ) → None ≡ read_after (held_turn w) got (length buf)
      → Turns w got buf out Failed buf out
  turn_failed got e = let d = doing_failed got e in record { answers = rw d; keeps = rw d; leaves = rw d }

  -- the bytes up to the end that the read tells, or where the buffer ends before it up to the buffer's
  module _ (got : ℤ) (t : Turn) (end : ℕ) (e : Some t ≡ read_after (held_turn w) got (length buf)) (l : end ≡ min t.end (length buf)) where
    same : take end buf ≡ take t.end buf
    same = ap (λ (k : ℕ). take k buf) l ∙ take_least t.end buf

    pub turn_closed : {out out' : List ℕ} {r : ℕ} → t.closed ≡ true → PutsAll (closed_texts w.passed (take end buf)) out 0 r out'
        → Turns w got buf out (Says r) buf out'
    turn_closed c p =
        let d : doing w got buf ≡ says (closed_texts w.passed (take end buf)) = doing_closed got t e c ∙ rw same in
        record { answers = rw (d, p.says); keeps = rw d; leaves = rw d p.leaves }

    pub turn_goes : {r : Act} {out buf' out' : List ℕ} → t.closed ≡ false → Onward w.passed end buf out r buf' out'
        → Turns w got buf out r buf' out'
    turn_goes c p =
        let d : doing w got buf ≡ going w.passed (take end buf) = doing_goes got t e c ∙ rw same in
        rw d p
