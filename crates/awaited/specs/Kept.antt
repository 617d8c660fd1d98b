-- What is awaited by the history of a run is what its book holds: the induction behind the theorems of Awaited.
use Rattle.std.specs.Prelude.{ℕ, ◌<◌, ◌≡◌, refl, true, false, List, [], ◌∷◌, ◌⊎◌, ◌↔◌, set}
use Rattle.std.proofs.Common.{sym, ap, ◌∙◌, inl, inr, get_or-set_same, get_or-set_other, arith, ne_eqb}
use Rattle.std.proofs.Math.Decide.{ℕ_discrete}
use Rattle.std.proofs.lemmas.Bool.{eqb-false}
use Rattle.refusal.specs.Test.{clash, not_both}
use Rattle.refusal.specs.Answer.{Answer, refused, full}
use Rattle.command.specs.Command.{is_known}
use Rattle.command.specs.Known.{may_ask_known}
use Rattle.free_number.specs.declared.Book.{Book}
use Rattle.free_number.specs.Number.{vacant, entry, number_for}
use Rattle.book.specs.Book.{noted, command_of, freed}
use Rattle.awaited.specs.Found.{Found, number_full, command_full}
use Rattle.awaited.specs.Run.{Call, ask, reply, answer, after, run, Line, line, history, book_of, history_of, answers, Awaited}
use Rattle.free_number.specs.Search.{vacant_free}
use Rattle.awaited.specs.Sound.{Sound, held_below, fresh_entry, run_sound}

-- command c is held under n
abbrev pub HeldUnder : Book → ℕ → ℕ → Type 0
HeldUnder b n c = (is_known c ≡ true) × (entry b.asked n ≡ c)

-- what makes it held after the call of a line: it is asked there under n, or it was held and is not answered there
abbrev pub Step : Book → ℕ → ℕ → Line → Type 0
Step b n c l = (l ≡ line (ask c) (full n)) ⊎ ((answers n l ≡ false) × HeldUnder b n c)

module _ (b : Book) (s : Sound b) (n c : ℕ) where
  here : (m e : ℕ) → m < 256 → n ≡ m → entry (set b.asked m e) n ≡ e
  here m e h q = rw q (get_or-set_same b.asked m e vacant (omega (arith, s.count)))

  elsewhere : (m e : ℕ) → (n ≡ m → ⊥) → entry (set b.asked m e) n ≡ entry b.asked n
  elsewhere m e q = get_or-set_other b.asked m n e vacant q

  step_refused : (x : Call) (k : ℕ) → answers n (line x (refused k)) ≡ false → HeldUnder b n c ↔ Step b n c (line x (refused k))
  step_refused x k e = ((λ h. inr (e, h)), back)
    where
      back : Step b n c (line x (refused k)) → HeldUnder b n c
      back (inl q) = clash (cc)
      back (inr h) = h.1

  pub step_ask : (d : ℕ) (v : Answer ℕ) → number_for b d ≡ v → HeldUnder (noted b d v) n c ↔ Step b n c (line (ask d) v)
  step_ask d (refused k) e = step_refused (ask d) k refl
  step_ask d (full m) e = (to, from)
    where
      found : (is_known d ≡ true) × Found b.asked b.last m
      found =
          let f = number_full b d s.latest m e in
          (may_ask_known d f.0, f.1)

      other : HeldUnder b n c → n ≡ m → ⊥
      other h q = not_both h.0 (ap is_known (sym h.1 ∙ ap (entry b.asked) q) ∙ found.1.free)

      to : HeldUnder (noted b d (full m)) n c → Step b n c (line (ask d) (full m))
      to h =
          elim (ℕ_discrete n m)
          [ yes q ↦ inl (let w : d ≡ c = sym (here m d found.1.below q) ∙ h.1 in cc) | no q ↦ inr (refl, (h.0, sym (elsewhere m d q) ∙ h.1)) ]

      from : Step b n c (line (ask d) (full m)) → HeldUnder (noted b d (full m)) n c
      from (inl q) =
          let w : d ≡ c = cc in
          (rw w at found.0, here m d found.1.below (cc) ∙ w)
      from (inr h) = (h.1.0, elsewhere m d (other h.1) ∙ h.1.1)

  pub step_reply : (m : ℕ) (v : Answer ℕ) → command_of b m ≡ v → HeldUnder (freed b m v) n c ↔ Step b n c (line (reply m) v)
  step_reply m (refused k) e = step_refused (reply m) k refl
  step_reply m (full d) e = (to, from)
    where
      below : m < 256
      below =
          let h = (command_full b m d).0 e in
          held_below s m (ap is_known h.1 ∙ h.0)

      to : HeldUnder (freed b m (full d)) n c → Step b n c (line (reply m) (full d))
      to h =
          let other : n ≡ m → ⊥ = λ q. not_both h.0 (ap is_known (sym h.1 ∙ here m vacant below q) ∙ vacant_free) in
          inr (ne_eqb m n (λ q. other (sym q)), (h.0, sym (elsewhere m vacant other) ∙ h.1))

      from : Step b n c (line (reply m) (full d)) → HeldUnder (freed b m (full d)) n c
      from (inl q) = clash (cc)
      from (inr h) = (h.1.0, elsewhere m vacant (λ q. eqb-false m n h.0 (sym q)) ∙ h.1.1)

  step : (x : Call) → HeldUnder (after b x) n c ↔ Step b n c (line x (answer b x))
  step (ask d) = step_ask d (number_for b d) refl
  step (reply m) = step_reply m (command_of b m) refl

pub chain : {H P Q A B : Type 0} → H ↔ (P ⊎ (Q × A)) → A ↔ B → H ↔ (P ⊎ (Q × B))
chain {H} {P} {Q} {A} {B} f g = ((λ h. on (f.0 h)), λ w. f.1 (back w))
  where
    on : P ⊎ (Q × A) → P ⊎ (Q × B)
    on (inl p) = inl p
    on (inr h) = inr (h.0, g.0 h.1)

    back : P ⊎ (Q × B) → P ⊎ (Q × A)
    back (inl p) = inl p
    back (inr h) = inr (h.0, g.1 h.1)

pub kept : (past : List Call) (n c : ℕ) → HeldUnder (book_of past) n c ↔ Awaited n c (history_of past)
unfolding run history
kept [] n c = ((λ h. not_both h.0 (ap is_known (sym h.1 ∙ fresh_entry 256 n) ∙ vacant_free)), λ h. absurd h)
kept (x ∷ past) n c = chain (step (book_of past) (run_sound past) n c x) (kept past n c)
