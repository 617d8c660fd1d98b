-- Lines and datagrams agree on what is a frame, on its sum and on its arguments.
use Rattle.std.specs.Prelude.{ℕ, zero, suc, ◌≡◌, refl, false, true, List, [], ◌∷◌, ◌++◌, length, take, drop, eqb}
use Rattle.std.proofs.Common.{sym, ap, ◌∙◌, length-take-le, arith}
use Rattle.sum.specs.Sum.{sum_of}
use Rattle.stream.specs.Stream.{Settling, More, Settled}
use Rattle.stream.specs.Stream.{Item, reading, item_number, item_size, items_up_to, items}
use Rattle.extent.specs.declared.Line.{Line}
use Rattle.extent.specs.Line.{in_table}
use Rattle.line.specs.Rule.{settle}
use Rattle.line.specs.Frames.{is_whole, whole_frame, frame_front, frame_judged}
use Rattle.line.specs.Finds.{Accepted, has_lead, noise_items, frame_alone, frame_after_noise}
use Rattle.agreement.specs.Verdict.{accepted, refused_with, datagram, frame_verdict, is_framed}
use Rattle.agreement.specs.Framed.{frame_verdict_lem, framed_leads, both_0, both_7, back_0, back_7}

-- the verdict on the bytes that settle an item 0, 6 or 7
settled_verdict : (on : Line) (s : List ℕ) (k m d : ℕ) → settle on s ≡ Settled k m d → is_whole k ≡ true
    → datagram on (take d s) ≡ frame_verdict (eqb (sum_of (take d s)) 0) (in_table on (take d s))
settled_verdict on s k m d e w =
    let f = whole_frame on s k m d e w in
    let l : length (take d s) ≡ d = length-take-le d s f.1 in
    frame_verdict_lem on (take d s) (rw l (frame_front on s d f.0 f.1))

-- "Else item 0, the whole frame": it is a datagram that is accepted
pub item_0 : (on : Line) (s : List ℕ) (m d : ℕ) → settle on s ≡ Settled 0 m d → datagram on (take m s) ≡ accepted
item_0 on s m d e =
    let f = take d s in
    let b = both_0 (eqb (sum_of f) 0) (in_table on f) d m d ((whole_frame on s 0 m d e refl).2 ∙ e) in
    rw b.1 (settled_verdict on s 0 m d e refl ∙ b.0)

-- "Sum right but an argument outside the table: item 7, the whole frame": it is one that is refused with 7
pub item_7 : (on : Line) (s : List ℕ) (m d : ℕ) → settle on s ≡ Settled 7 m d → datagram on (take m s) ≡ refused_with 7
item_7 on s m d e =
    let f = take d s in
    let b = both_7 (eqb (sum_of f) 0) (in_table on f) d m d ((whole_frame on s 7 m d e refl).2 ∙ e) in
    rw b.1 (settled_verdict on s 7 m d e refl ∙ b.0)

-- the other way round: such a datagram is such an item
pub accepted_is_0 : (on : Line) (f : List ℕ) → datagram on f ≡ accepted → Accepted on f
accepted_is_0 on f e =
    let w = framed_leads on f (ap is_framed e) in
    frame_judged on f w ∙ back_0 (eqb (sum_of f) 0) (in_table on f) (length f) (sym (frame_verdict_lem on f w) ∙ e)

pub refused_is_7 : (on : Line) (f : List ℕ) → datagram on f ≡ refused_with 7 → settle on f ≡ Settled 7 (length f) (length f)
refused_is_7 on f e =
    let w = framed_leads on f (ap is_framed e) in
    frame_judged on f w ∙ back_7 (eqb (sum_of f) 0) (in_table on f) (length f) (sym (frame_verdict_lem on f w) ∙ e)

-- so every accepted datagram alone on its line is one item 0, and after noise without a lead it is the last item
pub accepted_alone : (on : Line) (f : List ℕ) → datagram on f ≡ accepted → items (settle on) f ≡ reading 0 f ∷ []
accepted_alone on f e = frame_alone on f (accepted_is_0 on f e)

pub accepted_after_noise : (on : Line) (q f : List ℕ) → has_lead on q ≡ false → datagram on f ≡ accepted
    → items (settle on) (q ++ f) ≡ noise_items q ++ (reading 0 f ∷ [])
accepted_after_noise on q f h e = frame_after_noise on q f h (accepted_is_0 on f e)

-- and of the items of any stream, each item 0 is an accepted datagram, and each item 7 one that is refused with 7
pub record Agrees (on : Line) (k : ℕ) (l : List ℕ) : Type 0 where
  pub right : k ≡ 0 → datagram on l ≡ accepted
  pub outside : k ≡ 7 → datagram on l ≡ refused_with 7

abbrev pub AllAgree : Line → List Item → Type 0
AllAgree on [] = Unit {0}
AllAgree on (reading k l ∷ is) = Agrees on k l × AllAgree on is

step_agrees : (on : Line) (s : List ℕ) → Agrees on (item_number (settle on s)) (take (item_size (settle on s)) s)
step_agrees on s = go (settle on s) refl
  where
    go : (x : Settling) → settle on s ≡ x → Agrees on (item_number x) (take (item_size x) s)
    go More e = record { right = λ z. absurd (omega arith); outside = λ z. absurd (omega arith) }
    go (Settled k m d) e = record { right = λ z. item_0 on s m d (rw z at e); outside = λ z. item_7 on s m d (rw z at e) }

pub items_agree : (on : Line) (s : List ℕ) → AllAgree on (items (settle on) s)
unfolding items_up_to
items_agree on s = go (length s) s
  where
    go : (n : ℕ) (s : List ℕ) → AllAgree on (items_up_to (settle on) n s)
    go zero s = tt
    go (suc n) [] = tt
    go (suc n) (b ∷ s) = (step_agrees on (b ∷ s), go n (drop (item_size (settle on (b ∷ s))) (b ∷ s)))
