-- The items 0, 6 and 7 are whole frames, and are so when a frame stands alone.
use Rattle.std.specs.Prelude.{ℕ, ◌≤◌, ◌≡◌, refl, Bool, true, false, ◌||◌, List, length, take, eqb}
use Rattle.std.proofs.Common.{sym, ap, ◌∙◌, eqb-true, arith}
use Rattle.std.proofs.Math.Seq.{take-length}
use Rattle.refusal.specs.Test.{clash}
use Rattle.stream.specs.Stream.{Settling, Settled}
use Rattle.stream.specs.Lawful.{not_more}
use Rattle.stream.specs.Begins.{begins_at_lem, begins_front}
use Rattle.extent.specs.declared.Line.{Line}
use Rattle.extent.specs.declared.Line.TheVariants.{Request, Reply}
use Rattle.extent.specs.declared.Extent.TheVariants.{Bad, Frame}
use Rattle.extent.specs.Line.{is_lead}
use Rattle.line.specs.Rule.{settle}
use Rattle.line.specs.Extents.{Tells, bad, frame, length_item}
use Rattle.line.specs.Cases.{settle_lead, framed_there, judged, Leads}
use Rattle.line.specs.Cases.{Shows, none, noise, short, odd, part, bad_sum, outside, good, shows}
use Rattle.line.specs.Laws.{leads_tells, frame_fits}

-- a frame at the front of a run, alone
pub frame_front : (on : Line) (s : List ℕ) (n : ℕ) → Leads on s (Frame n) → n ≤ length s → Leads on (take n s) (Frame n)
frame_front on s n w h = go (leads_tells on s w)
  where
    go : Tells on s (Frame n) → Leads on (take n s) (Frame n)
    go (frame n l u g) =
        let b = begins_front n s h in
        let o = (frame_fits on s (leads_tells on s w)).0 in
        record { some = omega (arith, b.there); lead = ap (is_lead on) (sym (begins_at_lem b 0 o)) ∙ w.lead; tells = g (take n s) b }

-- what is said of a frame that stands alone
pub frame_judged : (on : Line) (f : List ℕ) → Leads on f (Frame (length f)) → settle on f ≡ judged on (length f) f
frame_judged on f w = settle_lead on f w.some w.lead ∙ rw (w.tells, framed_there on (length f) f (omega arith), take-length f)

-- the numbers that are given of whole frames
abbrev pub is_whole : ℕ → Bool
is_whole k = eqb k 0 || eqb k 6 || eqb k 7

not_whole : (on : Line) (k : ℕ) → length_item on k ≡ true → is_whole k ≡ false
not_whole Request k e = go (eqb k 3) refl e
  where
    go : (x : Bool) → eqb k 3 ≡ x → x || eqb k 4 ≡ true → is_whole k ≡ false
    go true q e = rw (eqb-true k 3 q)
    go false q e = rw (eqb-true k 4 e)
not_whole Reply k e = rw (eqb-true k 4 e)

bad_number : (on : Line) (s : List ℕ) (k d : ℕ) → Tells on s (Bad k d) → is_whole k ≡ false
bad_number on s k d t = go t
  where
    go : Tells on s (Bad k d) → is_whole k ≡ false
    go (bad k d o h l g) = not_whole on k o

-- the bytes that settle such an item are a whole frame, judged
pub whole_frame : (on : Line) (s : List ℕ) (k m d : ℕ) → settle on s ≡ Settled k m d → is_whole k ≡ true
    → Leads on s (Frame d) × (d ≤ length s) × (judged on d (take d s) ≡ settle on s)
whole_frame on s k m d e w = go (shows on s) e
  where
    no : {P : Type 0} (j : ℕ) → is_whole j ≡ false → j ≡ k → P
    no j f q = clash (let y : is_whole j ≡ true = rw q w in cc)

    go : {x : Settling} → Shows on s x → x ≡ Settled k m d → Leads on s (Frame d) × (d ≤ length s) × (judged on d (take d s) ≡ x)
    go (none h) e = not_more (sym e)
    go (noise h l) e = no 2 refl (cc)
    go (short f) e = not_more (sym e)
    go (odd j c f) e = no j (bad_number on s j c (leads_tells on s f)) (cc)
    go (part n f h) e = not_more (sym e)
    go (bad_sum n f h q) e = let p : d ≡ n = cc in rw p (f, h, rw q)
    go (outside n f h q t) e = let p : d ≡ n = cc in rw p (f, h, rw (q, t))
    go (good n f h q t) e = let p : d ≡ n = cc in rw p (f, h, rw (q, t))
