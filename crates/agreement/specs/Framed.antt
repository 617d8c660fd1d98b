-- A datagram that is a whole frame of its line, no more and no less, is judged by its sum and its arguments; and one that is so judged
-- is such a frame. Both by what tells the frame's length, which line and datagram share.
use Rattle.std.specs.Prelude.{ℕ, suc, ◌≤◌, ◌≡◌, refl, Bool, true, false, List, length, leb, eqb}
use Rattle.std.proofs.Common.{sym, ap, ◌∙◌, leb-true, eqb-true, le-leb, eq-eqb, arith}
use Rattle.refusal.specs.Test.{pick, clash}
use Rattle.refusal.specs.Answer.{Answer, full, demand}
use Rattle.lead.specs.Lead.{is_request, is_reply, reply_least}
use Rattle.sum.specs.Sum.{sum_of}
use Rattle.frame.specs.Frame.{byte}
use Rattle.command.specs.declared.Shape.{Shape}
use Rattle.command.specs.declared.Shape.TheVariants.{Unknown, Basic, Unicast, Colour}
use Rattle.command.specs.Command.{shape_of}
use Rattle.target.specs.Target.{is_lighting}
use Rattle.ranges.specs.Arguments.{fits}
use Rattle.command.specs.Length.{Told, unknown, fixed, tested, length_of, basic_bytes, most_bytes, Within, length_within}
use Rattle.request.specs.Reading.{read_request, read_basic, read_unicast, read_coloured, read_shape, stated}
use Rattle.reply.specs.Reading.{read_reply}
use Rattle.stream.specs.Stream.{Settled}
use Rattle.extent.specs.declared.Line.{Line}
use Rattle.extent.specs.declared.Line.TheVariants.{Request, Reply}
use Rattle.extent.specs.declared.Extent.TheVariants.{Wait, Bad, Frame}
use Rattle.extent.specs.Line.{reply_length, length_extent, extent_of, in_table}
use Rattle.line.specs.Cases.{Leads}
use Rattle.line.specs.Extents.{frame_least}
use Rattle.agreement.specs.Verdict.{accepted, refused_with, verdict, datagram, frame_verdict, is_framed}

demands : {A : Type 0} (t u : Bool) (v : A) → verdict (demand t 6 (demand u 7 (full v))) ≡ frame_verdict t u
demands true true v = refl
demands true false v = refl
demands false u v = refl

demands_sum : {A : Type 0} (t : Bool) (v : A) → verdict (demand t 6 (full v)) ≡ frame_verdict t true
demands_sum true v = refl
demands_sum false v = refl

-- where the bytes tell the length that the datagram has, it has the one that its frame states
stated_frame : {A : Type 0} (x : Told) (f : List ℕ) (y : Answer A) → length_extent x f ≡ Frame (length f) → stated x f y ≡ y
stated_frame unknown f y e = clash (cc)
stated_frame (fixed n) f y e =
    let q : n ≡ length f = cc in
    rw (eq-eqb (length f) n (sym q))
stated_frame (tested p test n) f y e = go (leb (suc p) (length f)) (test (byte p f)) refl e
  where
    go : (a b : Bool) → test (byte p f) ≡ b → pick a (pick b (Frame (n (byte p f))) (Bad 4 (suc p))) Wait ≡ Frame (length f)
        → stated (tested p test n) f y ≡ y
    go true true t q =
        let m : n (byte p f) ≡ length f = cc in
        rw (t, eq-eqb (length f) (n (byte p f)) (sym m))
    go true false t q = clash (cc)
    go false b t q = clash (cc)

reply_framed : (f : List ℕ) → Leads Reply f (Frame (length f)) → datagram Reply f ≡ frame_verdict (eqb (sum_of f) 0) true
unfolding read_reply
reply_framed f w =
    let l = le-leb reply_least (length f) (frame_least Reply f (extent_of Reply f) (length f) refl w.tells) in
    rw (l, w.lead) (ap verdict (stated_frame reply_length f _ w.tells) ∙ demands_sum (eqb (sum_of f) 0) _)

request_framed : (f : List ℕ) → Leads Request f (Frame (length f)) → datagram Request f ≡ frame_verdict (eqb (sum_of f) 0) (in_table Request f)
unfolding read_request read_basic read_unicast read_coloured
request_framed f w = three (leb 3 (length f)) refl w.tells
  where
    long : basic_bytes ≤ length f
    long = frame_least Request f (extent_of Request f) (length f) refl w.tells

    -- what is said of f by its command's shape
    said : (x : Shape) → shape_of (byte 2 f) ≡ x → verdict (read_request f) ≡ verdict (read_shape x f)
    said x e = rw (le-leb basic_bytes (length f) long, w.lead, e)

    shaped : (x : Shape) → shape_of (byte 2 f) ≡ x → length_extent (length_of x) f ≡ Frame (length f)
        → datagram Request f ≡ frame_verdict (eqb (sum_of f) 0) (in_table Request f)
    shaped Unknown e q = clash (cc)
    shaped (Basic rule) e q =
        let table = fits rule (byte 3 f) (byte 4 f) (byte 5 f) (byte 6 f) in
        said (Basic rule) e ∙ ap verdict (stated_frame (length_of (Basic rule)) f _ q) ∙ rw e (demands (eqb (sum_of f) 0) table _)
    shaped Unicast e q = said Unicast e ∙ ap verdict (stated_frame (length_of Unicast) f _ q) ∙ rw e (demands_sum (eqb (sum_of f) 0) _)
    shaped Colour e q =
        said Colour e ∙ ap verdict (stated_frame (length_of Colour) f _ q) ∙ rw e (demands (eqb (sum_of f) 0) (is_lighting (byte 3 f)) _)

    three : (a : Bool) → leb 3 (length f) ≡ a → pick a (length_extent (length_of (shape_of (byte 2 f))) f) Wait ≡ Frame (length f)
        → datagram Request f ≡ frame_verdict (eqb (sum_of f) 0) (in_table Request f)
    three true e q = shaped (shape_of (byte 2 f)) refl q
    three false e q = clash (cc)

pub frame_verdict_lem : (on : Line) (f : List ℕ) → Leads on f (Frame (length f)) → datagram on f ≡ frame_verdict (eqb (sum_of f) 0) (in_table on f)
frame_verdict_lem Request = request_framed
frame_verdict_lem Reply = reply_framed

-- the other way round
record Judged {A : Type 0} (a : Answer A) : Type 0 where
  yes : is_framed (verdict a) ≡ true

demand_framed : {A : Type 0} {P : Type 0} (t : Bool) (k : ℕ) {x : Answer A} → is_framed (refused_with k) ≡ false
    → (t ≡ true → Judged x → P) → Judged (demand t k x) → P
demand_framed true k n f e = f refl e
demand_framed false k n f e = clash (let y = e.yes in cc)

-- what tells the length is there
abbrev Reaches : Told → List ℕ → Type 0
Reaches unknown f = Unit {0}
Reaches (fixed n) f = Unit {0}
Reaches (tested p test n) f = suc p ≤ length f

reaches : (lo hi : ℕ) (x : Told) (f : List ℕ) → Within lo hi x → lo ≤ length f → Reaches x f
reaches lo hi unknown f w l = tt
reaches lo hi (fixed n) f w l = tt
reaches lo hi (tested p test n) f w l = omega (arith, w.0)

-- the length that the frame states is told by its bytes, where as many are there as tell it
stated_extent : {A : Type 0} (x : Told) (f : List ℕ) (y : Answer A) → Reaches x f → Judged (stated x f y)
    → length_extent x f ≡ Frame (length f)
stated_extent unknown f y r = λ e. clash (let z = e.yes in cc)
stated_extent (fixed n) f y r = demand_framed (eqb (length f) n) 5 refl (λ h e. ap Frame (sym (eqb-true (length f) n h)))
stated_extent (tested p test n) f y r =
    demand_framed (test (byte p f)) 4 refl
    (λ t. demand_framed (eqb (length f) (n (byte p f))) 5 refl
    (λ h e. rw (le-leb (suc p) (length f) r, t) (ap Frame (sym (eqb-true (length f) (n (byte p f)) h)))))

reply_leads : (f : List ℕ) → Judged (read_reply f) → Leads Reply f (Frame (length f))
unfolding read_reply
reply_leads f =
    demand_framed (leb reply_least (length f)) 1 refl
    (λ h₁. demand_framed (is_reply (byte 0 f)) 2 refl
    (λ h₂ e.
    let l = leb-true reply_least (length f) h₁ in
    record { some = omega arith; lead = h₂; tells = stated_extent reply_length f _ (omega arith) e }))

-- a request, by its command's shape
shape_leads : (f : List ℕ) (x : Shape) → basic_bytes ≤ length f → Judged (read_shape x f) → length_extent (length_of x) f ≡ Frame (length f)
unfolding read_basic read_unicast read_coloured
shape_leads f Unknown l e = clash (let y = e.yes in cc)
shape_leads f (Basic rule) l e =
    stated_extent (length_of (Basic rule)) f _ (reaches basic_bytes most_bytes (length_of (Basic rule)) f (length_within (Basic rule)) l) e
shape_leads f Unicast l e =
    stated_extent (length_of Unicast) f _ (reaches basic_bytes most_bytes (length_of Unicast) f (length_within Unicast) l) e
shape_leads f Colour l e =
    stated_extent (length_of Colour) f _ (reaches basic_bytes most_bytes (length_of Colour) f (length_within Colour) l) e

request_leads : (f : List ℕ) → Judged (read_request f) → Leads Request f (Frame (length f))
unfolding read_request
request_leads f =
    demand_framed (leb basic_bytes (length f)) 1 refl
    (λ h₁. demand_framed (is_request (byte 0 f)) 2 refl
    (λ h₂ e.
    let l = leb-true basic_bytes (length f) h₁ in
    record { some = omega arith; lead = h₂; tells = rw (le-leb 3 (length f) (omega arith)) (shape_leads f (shape_of (byte 2 f)) l e) }))

pub framed_leads : (on : Line) (f : List ℕ) → is_framed (datagram on f) ≡ true → Leads on f (Frame (length f))
framed_leads Request f e = request_leads f (record { yes = e })
framed_leads Reply f e = reply_leads f (record { yes = e })

-- the two judgements, beside each other
pub both_0 : (t u : Bool) (n m d : ℕ) → pick t (pick u (Settled 0 n n) (Settled 7 n n)) (Settled 6 1 n) ≡ Settled 0 m d
    → (frame_verdict t u ≡ accepted) × (m ≡ n)
both_0 true true n m d e = (refl, (cc))
both_0 true false n m d e = clash (cc)
both_0 false u n m d e = clash (cc)

pub both_7 : (t u : Bool) (n m d : ℕ) → pick t (pick u (Settled 0 n n) (Settled 7 n n)) (Settled 6 1 n) ≡ Settled 7 m d
    → (frame_verdict t u ≡ refused_with 7) × (m ≡ n)
both_7 true true n m d e = clash (cc)
both_7 true false n m d e = (refl, (cc))
both_7 false u n m d e = clash (cc)

pub back_0 : (t u : Bool) (n : ℕ) → frame_verdict t u ≡ accepted
    → pick t (pick u (Settled 0 n n) (Settled 7 n n)) (Settled 6 1 n) ≡ Settled 0 n n
back_0 true true n e = refl
back_0 true false n e = clash (cc)
back_0 false u n e = clash (cc)

pub back_7 : (t u : Bool) (n : ℕ) → frame_verdict t u ≡ refused_with 7
    → pick t (pick u (Settled 0 n n) (Settled 7 n n)) (Settled 6 1 n) ≡ Settled 7 n n
back_7 true true n e = clash (cc)
back_7 true false n e = refl
back_7 false u n e = clash (cc)
