-- Demand 3, of the calls as their contracts state them: whatever the cut, the run of calls ends, and the items that it gives are
-- those of the whole-stream rule.
use Rattle.std.specs.Prelude.{ℕ, ◌+◌, ◌≤◌, ◌≡◌, refl, List, [], ◌++◌, length}
use Rattle.std.proofs.Common.{sym, ap, ◌∙◌, arith}
use Rattle.stream.specs.Stream.{Item, nothing_yet, found, last, feed, close, items, whole, bytes_of, counts_of}
use Rattle.stream.specs.Stream.{Run as Run', fed as fed', over as over', closed as closed', ended as ended'}
use Rattle.stream.specs.Items.{items_bytes, items_counts, items_few}
use Rattle.stream.specs.Cut.{run_items, run_calls, run_ends}
use Rattle.extent.specs.declared.Line.{Line}
use Rattle.extent.specs.declared.Line.TheVariants.{Request, Reply}
use Rattle.extent.specs.Line.{cap_of}
use Rattle.line.specs.Rule.{settle}
use Rattle.line.specs.Laws.{lawful}
use Rattle.reader.specs.declared.Held.{Held}
use Rattle.reader.specs.declared.Given.{Given}
use Rattle.reader.specs.Reader.{held_of, hold, said_fed, said_closed, given_of, closed_of, Feeds, Closes}
use Rattle.reader.specs.Claims.{hold_holds}
use Rattle.reader.specs.Run.{Run, fed, over, closed, ended, Reached}
use Rattle.reader.specs.Answers.{found_held, nothing_held, last_held, feeds_by, closes_by}
use Rattle.reader.specs.Promises.{FeedPromise, ClosePromise, feed_promise, close_promise, reached_few, reached_most}

module _ (on : Line) where
  -- a run of calls is one of the rule, and each run of the rule is one of calls
  run_ruled : {h : Held} {ps : List (List ℕ)} {is : List Item} {n : ℕ} → Run on h ps is n → Run' (settle on) (held_of on h) ps is n
  run_ruled (fed {h} {p} {g} {ps} {j} {n} {i} {is} r f e rest) = fed' (sym f.says ∙ e) (rw (found_held on r j i g e) at (run_ruled rest))
  run_ruled (over {h} {p} {g} r f e rest) = over' (sym f.says ∙ e) (rw (nothing_held on r g e) at (run_ruled rest))
  run_ruled (closed {h} {g} {n} {i} r f e rest) = closed' (sym f.says ∙ e) (rw (last_held on r i g e) at (run_ruled rest))
  run_ruled (ended r f e) = ended' (sym f.says ∙ e)

  -- the results that the rule's calls come to
  fed_by : (h : Held) (p : List ℕ) → (r : Given) × Feeds on h p r
  fed_by h p = let r = given_of p (feed (settle on) (held_of on h) p) in (r, feeds_by on h p r refl)

  closed_by : (h : Held) → (r : Given) × Closes on h r
  closed_by h = let r = closed_of (close (settle on) (held_of on h)) in (r, closes_by on h r refl)

  ruled_run : {h : List ℕ} {ps : List (List ℕ)} {is : List Item} {n : ℕ} → Run' (settle on) h ps is n → (f : Held) → held_of on f ≡ h
      → Run on f ps is n
  ruled_run (fed' {h} {g} {p} {ps} {j} {n} {i} {is} e rest) f q =
      let w = fed_by f p in
      let s : said_fed on w.0 ≡ found j i g = w.1.says ∙ rw q e in
      fed w.0 w.1 s (ruled_run rest w.0.held (found_held on w.0 j i g s))
  ruled_run (over' {h} {g} {p} {ps} {n} {is} e rest) f q =
      let w = fed_by f p in
      let s : said_fed on w.0 ≡ nothing_yet g = w.1.says ∙ rw q e in
      over w.0 w.1 s (ruled_run rest w.0.held (nothing_held on w.0 g s))
  ruled_run (closed' {h} {g} {n} {i} {is} e rest) f q =
      let w = closed_by f in
      let s : said_closed on w.0 ≡ last i g = w.1.says ∙ rw q e in
      closed w.0 w.1 s (ruled_run rest w.0.held (last_held on w.0 i g s))
  ruled_run (ended' {h} e) f q = let w = closed_by f in ended w.0 w.1 (w.1.says ∙ rw q e)

  -- from any reader, one handed in too: the calls end, and give the items of the bytes held with the parts behind them
  pub ends_from : (h : Held) (ps : List (List ℕ)) → (is : List Item) × (n : ℕ) × Run on h ps is n
  ends_from h ps = let w = run_ends (settle on) (lawful on) ps (held_of on h) in (w.0, w.1, ruled_run w.2 h refl)

  pub items_from : {h : Held} {ps : List (List ℕ)} {is : List Item} {n : ℕ} → Run on h ps is n
      → is ≡ items (settle on) (held_of on h ++ whole ps)
  items_from w = run_items (settle on) (lawful on) (run_ruled w)

  pub calls_from : {h : Held} {ps : List (List ℕ)} {is : List Item} {n : ℕ} → Run on h ps is n → n ≡ length is + length ps + 1
  calls_from w = run_calls (settle on) (lawful on) (run_ruled w)

-- What is promised of a stream s that is cut into the parts ps and read with a fresh reader: demand 3, whole.
pub record Demand3 (on : Line) (s : List ℕ) (ps : List (List ℕ)) : Type 0 where
  -- each call takes and gives what document 01 says, whatever state it is handed
  pub feeds : (h : Held) (p : List ℕ) (r : Given) → Feeds on h p r → FeedPromise on h p r
  pub closes : (h : Held) (r : Given) → Closes on h r → ClosePromise on h r
  -- no reader that calls lead to from a fresh one holds more than 67 bytes of a reply line, 12 of a request line; and one holds as many
  pub few : (h : Held) → Reached on h → h.len ≤ cap_of on
  pub most : (h : Held) × Reached on h × (h.len ≡ cap_of on)
  -- feeding each part until "nothing yet", and then closing until "empty", ends
  pub ends : (is : List Item) × (n : ℕ) × Run on (hold []) ps is n
  -- and however the calls answer, within their contracts: the items are those of the whole stream, in order
  pub same : (is : List Item) (n : ℕ) → Run on (hold []) ps is n → is ≡ items (settle on) s
  -- there is one call for each item, one for each part, and the one that says "empty", and so no more than these
  pub calls : (is : List Item) (n : ℕ) → Run on (hold []) ps is n → n ≡ length is + length ps + 1
  pub bound : (is : List Item) (n : ℕ) → Run on (hold []) ps is n → n ≤ length s + length ps + 1
  -- the byte counts add up to the stream's length, and the bytes put together are the stream
  pub counts : (is : List Item) (n : ℕ) → Run on (hold []) ps is n → counts_of is ≡ length s
  pub bytes : (is : List Item) (n : ℕ) → Run on (hold []) ps is n → bytes_of is ≡ s

pub demand_3 : (on : Line) (s : List ℕ) (ps : List (List ℕ)) → whole ps ≡ s → Demand3 on s ps
demand_3 on s ps e =
    let none : held_of on (hold []) ≡ [] = hold_holds on [] (omega arith) in
    let same : (is : List Item) (n : ℕ) → Run on (hold []) ps is n → is ≡ items (settle on) s =
    λ is n w. rw none at (items_from on w) ∙ ap (items (settle on)) e in
    record {
      feeds = feed_promise on;
      closes = close_promise on;
      few = λ h w. reached_few on w;
      most = reached_most on;
      ends = ends_from on (hold []) ps;
      same = same;
      calls = λ is n w. calls_from on w;
      bound = λ is n w. omega (arith, calls_from on w, ap length (same is n w), items_few (settle on) (lawful on) s);
      counts = λ is n w. ap counts_of (same is n w) ∙ items_counts (settle on) (lawful on) s;
      bytes = λ is n w. ap bytes_of (same is n w) ∙ items_bytes (settle on) (lawful on) s;
    }

-- the request line, and the reply line
pub demand_3_request : (s : List ℕ) (ps : List (List ℕ)) → whole ps ≡ s → Demand3 Request s ps
demand_3_request = demand_3 Request

pub demand_3_reply : (s : List ℕ) (ps : List (List ℕ)) → whole ps ≡ s → Demand3 Reply s ps
demand_3_reply = demand_3 Reply
