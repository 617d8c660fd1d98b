-- Runs of appends, over the definitions that the contracts cite: by marks as by the letter, call by call; and the summary that stands beside
-- a capture at the end of any run is the one counted afresh.
use Rattle.std.specs.Prelude.{ℕ, Result, Ok, ◌<◌, ◌≡◌, refl, List, [], ◌∷◌, ◌++◌, map}
use Rattle.std.proofs.Common.{sym, ap, ◌∙◌, append-nil}
use Rattle.refusal.specs.Test.{clash}
use Rattle.refusal.specs.Answer.{Answer, refused, full, full_one, said}
use Rattle.refusal.specs.declared.Refusal.{Refusal}
use Rattle.sum.specs.Bytes.{Bytes}
use Rattle.lent.specs.Puts.{over}
use Rattle.record.specs.Record.{Entry, record_bytes}
use Rattle.summary.specs.declared.Summary.{Summary}
use Rattle.capture.specs.declared.Mark.{Mark}
use Rattle.capture.specs.declared.Kept.{Kept}
use Rattle.capture.specs.Capture.{opened, counted}
use Rattle.year.specs.Whole.{records_of, whole_records}
use Rattle.append.specs.declared.Appended.{Appended}
use Rattle.append.specs.Append.{emptied, Empties, verdict, verdict_at, handed, left_by, appended_to, Appends, stands_after}
use Rattle.year.specs.Longer.{entry, enters, one_record_more, counted_again, record_are_bytes, over_bytes}
use Rattle.year.specs.Marks.{Marks, as_letter, empty_whole, empty_bytes, empty_marks, empty_counted, open_marks, append_marks}

-- a call: seconds and a datagram
pub record Call : Type 0 where
  pub seconds : ℕ
  pub datagram : List ℕ

-- in 32 bits and bytes: what every u32 and slice of u8 hold
pub record Sound (c : Call) : Type 0 where
  pub short : c.seconds < 4294967296
  pub bytes : Bytes c.datagram

abbrev pub AllSound : List Call → Type 0
AllSound [] = Unit {0}
AllSound (c ∷ cs) = Sound c × AllSound cs

-- what a call by the letter leaves: what it answers, and behind it the bytes in use, the summary and the buffer
pub record Left : Type 0 where
  pub says : Answer Appended
  pub stands : Appended
  pub buffer : List ℕ

abbrev pub leaves : List ℕ → ℕ → Summary → Call → Left
leaves b u x c =
    let v = verdict b u x c.seconds c.datagram in
    let a = appended_to v u c.datagram in
    record { says = a; stands = stands_after a (record { used = u; summary = x }); buffer = left_by v b u c.seconds c.datagram }

-- what a call by a mark leaves, and the same without the mark's last seconds
pub record LeftAt : Type 0 where
  pub says : Answer Kept
  pub stands : Kept
  pub buffer : List ℕ

abbrev pub leaves_at : List ℕ → Mark → Summary → Call → LeftAt
leaves_at b m x c =
    let v = verdict_at b m x c.seconds c.datagram in
    let a = handed v m.used c.seconds c.datagram in
    record { says = a; stands = stands_after a (record { mark = m; summary = x }); buffer = left_by v b m.used c.seconds c.datagram }

abbrev pub in_use : Kept → Appended
in_use k = record { used = k.mark.used; summary = k.summary }

abbrev pub says_in_use : Answer Kept → Answer Appended
says_in_use (refused k) = refused k
says_in_use (full k) = full (in_use k)

abbrev pub plain : LeftAt → Left
plain l = record { says = says_in_use l.says; stands = in_use l.stands; buffer = l.buffer }

-- A RUN of calls, each with what the one before left: what each leaves
unfoldable pub by_letter : List ℕ → ℕ → Summary → List Call → List Left
by_letter b u x [] = []
by_letter b u x (c ∷ cs) =
    let l = leaves b u x c in
    l ∷ by_letter l.buffer l.stands.used l.stands.summary cs

unfoldable pub by_marks : List ℕ → Mark → Summary → List Call → List LeftAt
by_marks b m x [] = []
by_marks b m x (c ∷ cs) =
    let l = leaves_at b m x c in
    l ∷ by_marks l.buffer l.stands.mark l.stands.summary cs

-- one call by a mark that marks the buffer leaves what the call by the letter leaves, and a mark that marks the buffer left
pub record Alike (b : List ℕ) (m : Mark) (x : Summary) (c : Call) : Type 0 where
  pub same : plain (leaves_at b m x c) ≡ leaves b m.used x c
  pub marks : Marks (leaves_at b m x c).buffer (leaves_at b m x c).stands.mark
  pub bytes : Bytes (leaves_at b m x c).buffer

pub alike : (b : List ℕ) (m : Mark) (x : Summary) (c : Call) → Sound c → Bytes b → Marks b m → Alike b m x c
alike b m x c s h k = go (verdict_at b m x t d) refl
  where
    t : ℕ
    t = c.seconds

    d : List ℕ
    d = c.datagram

    go : (a : Answer Summary) → verdict_at b m x t d ≡ a → Alike b m x c
    go (refused n) e =
        let f : verdict b m.used x t d ≡ refused n = sym (as_letter b m x t d k) ∙ e in
        record { same = rw (e, f); marks = rw e k; bytes = rw e h }
    go (full y) e =
        let f : verdict b m.used x t d ≡ full y = sym (as_letter b m x t d k) ∙ e in
        record {
          same = rw (e, f);
          marks = rw e (append_marks b m x t d h s.short k e);
          bytes = rw e (over_bytes (record_bytes t d) b m.used (record_are_bytes t d s.bytes) h);
        }

-- A RUN BY MARKS gives, call by call, the answers, uses, summaries and buffers of the run by the letter
pub run_marks : (b : List ℕ) (m : Mark) (x : Summary) (cs : List Call) → Bytes b → Marks b m → AllSound cs
    → map plain (by_marks b m x cs) ≡ by_letter b m.used x cs
unfolding by_letter by_marks
run_marks b m x [] h k s = refl
run_marks b m x (c ∷ cs) h k s =
    let l = leaves_at b m x c in
    let a = alike b m x c s.0 h k in
    ap (λ (z : List Left). plain l ∷ z) (run_marks l.buffer l.stands.mark l.stands.summary cs a.bytes a.marks s.1)
    ∙ ap (λ (z : Left). z ∷ by_letter z.buffer z.stands.used z.stands.summary cs) a.same

-- from a capture freshly emptied, and from one opened
pub run_from_empty : (b : List ℕ) (v : ℕ) {k : Kept} (cs : List Call) → Bytes b → emptied b v ≡ full k → AllSound cs
    → map plain (by_marks (over (v ∷ []) b 0) k.mark k.summary cs) ≡ by_letter (over (v ∷ []) b 0) k.mark.used k.summary cs
run_from_empty b v {k} cs h e = run_marks (over (v ∷ []) b 0) k.mark k.summary cs (empty_bytes b v h e) (empty_marks b v e)

pub run_from_open : (b : List ℕ) (u : ℕ) {m : Mark} (x : Summary) (cs : List Call) → Bytes b → opened b u ≡ full m → AllSound cs
    → map plain (by_marks b m x cs) ≡ by_letter b u x cs
run_from_open b u {m} x cs h e s =
    let f = open_marks b u e in
    run_marks b m x cs h f.0 s ∙ ap (λ (u : ℕ). by_letter b u x cs) f.1

-- the calls that some records were put by, and those that go in by a call: itself where it went well
abbrev pub call_of : Entry → Call
call_of r = record { seconds = r.seconds; datagram = r.datagram }

abbrev pub goes_in : {A : Type 0} → Answer A → Call → List Call
goes_in (full y) c = c ∷ []
goes_in (refused k) c = []

-- WHAT ANY RUN FROM AN EMPTY CAPTURE REACHES, by what the contracts say of each call, some of which may be refused: a buffer, the bytes in
-- use, the summary beside it, and the calls that went in
pub data Grown : List ℕ → ℕ → Summary → List Call → Type 0 where
  emptied_first : {b b' : List ℕ} {v : ℕ} {k : Kept} → Bytes b → Empties (emptied b v) b v (Ok k) b' → Grown b' k.mark.used k.summary []
  then_appended : {b b' : List ℕ} {u : ℕ} {x : Summary} {cs : List Call} {r : Result Appended Refusal} → Grown b u x cs → (c : Call) → Sound c
      → Appends (verdict b u x c.seconds c.datagram) b u c.seconds c.datagram r b'
      → Grown b' (stands_after (said r) (record { used = u; summary = x })).used (stands_after (said r) (record { used = u; summary = x })).summary
      (cs ++ goes_in (said r) c)

-- "After any run of appends from an empty capture the summary equals one counted afresh from the records", and the records are what went
-- in, in this order
pub record Afresh (b : List ℕ) (u : ℕ) (x : Summary) (cs : List Call) : Type 0 where
  pub bytes : Bytes b
  pub sum : counted b u ≡ full x
  pub records : map call_of (records_of b u) ≡ cs

map_snoc : (rs : List Entry) (r : Entry) → map call_of (rs ++ (r ∷ [])) ≡ map call_of rs ++ (call_of r ∷ [])
map_snoc [] r = refl
map_snoc (s ∷ rs) r = ap (λ (l : List Call). call_of s ∷ l) (map_snoc rs r)

empty_afresh : {b b' : List ℕ} {v : ℕ} {k : Kept} → Bytes b → Empties (emptied b v) b v (Ok k) b' → Afresh b' k.mark.used k.summary []
empty_afresh {b} {b'} {v} {k} h c = go (emptied b v) refl c
  where
    go : (a : Answer Kept) → emptied b v ≡ a → Empties a b v (Ok k) b' → Afresh b' k.mark.used k.summary []
    go (refused j) e c = clash (let z = c.says in cc)
    go (full y) e c =
        let f = empty_whole b v e in
        let z : k ≡ y = full_one c.says in
        rw (z, c.leaves)
        (record {
          bytes = empty_bytes b v h e;
          sum = empty_counted b v e;
          records = rw f.1 (ap (map call_of) (whole_records f.0));
        })

append_afresh : {b b' : List ℕ} {u : ℕ} {x : Summary} {cs : List Call} {r : Result Appended Refusal} (c : Call) → Sound c → Afresh b u x cs
    → Appends (verdict b u x c.seconds c.datagram) b u c.seconds c.datagram r b'
    → Afresh b' (stands_after (said r) (record { used = u; summary = x })).used (stands_after (said r) (record { used = u; summary = x })).summary
    (cs ++ goes_in (said r) c)
append_afresh {b} {b'} {u} {x} {cs} {r} c s f p = go (verdict b u x c.seconds c.datagram) refl p
  where
    z : Appended
    z = record { used = u; summary = x }

    go : (a : Answer Summary) → verdict b u x c.seconds c.datagram ≡ a → Appends a b u c.seconds c.datagram r b'
        → Afresh b' (stands_after (said r) z).used (stands_after (said r) z).summary (cs ++ goes_in (said r) c)
    go (refused k) e p = rw (p.says, p.leaves, append-nil cs) f
    go (full y) e p =
        let i = enters b u x c.seconds c.datagram e in
        rw (p.says, p.leaves)
        (record {
          bytes = over_bytes (record_bytes c.seconds c.datagram) b u (record_are_bytes c.seconds c.datagram s.bytes) f.bytes;
          sum = counted_again b u x c.seconds c.datagram f.bytes s.short e i.reads f.sum;
          records =
              ap (map call_of) (one_record_more b u x c.seconds c.datagram f.bytes s.short e i.reads)
              ∙ map_snoc (records_of b u) (entry c.seconds c.datagram i.event)
              ∙ ap (λ (l : List Call). l ++ (c ∷ [])) f.records;
        })

pub summary_afresh : {b : List ℕ} {u : ℕ} {x : Summary} {cs : List Call} → Grown b u x cs → Afresh b u x cs
summary_afresh (emptied_first h c) = empty_afresh h c
summary_afresh (then_appended g c s a) = append_afresh c s (summary_afresh g) a
