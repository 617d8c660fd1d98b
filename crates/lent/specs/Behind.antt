-- How texts put one after the other come together.
use Rattle.std.specs.Prelude.{ℕ, ◌≡◌, refl, List, [], ◌∷◌, ◌++◌}
use Rattle.std.proofs.Common.{sym, ap, ap₂, ◌∙◌}
use Rattle.lent.specs.Puts.{place_after, buffer_after, Puts}
use Rattle.lent.specs.All.{place_all, buffer_all, PutsAll}

-- no text at all, and a text in front of others
pub puts_none : (out : List ℕ) (at : ℕ) → PutsAll [] out at at out
unfolding place_all buffer_all
puts_none out at = record { says = refl; leaves = refl }

pub puts_next : {t : List ℕ} {ts : List (List ℕ)} {out o p : List ℕ} {at m r : ℕ} → Puts t out at m o → PutsAll ts o m r p → PutsAll (t ∷ ts) out at r p
unfolding place_all buffer_all
puts_next {t} {ts} a b = record {
  says = b.says ∙ ap₂ (λ (x : List ℕ) (y : ℕ). place_all ts x y) a.leaves a.says;
  leaves = b.leaves ∙ ap₂ (λ (x : List ℕ) (y : ℕ). buffer_all ts x y) a.leaves a.says;
}

-- texts, then others behind them
place_append : (ts us : List (List ℕ)) (out : List ℕ) (at : ℕ) → place_all (ts ++ us) out at ≡ place_all us (buffer_all ts out at) (place_all ts out at)
unfolding place_all buffer_all
place_append [] us out at = refl
place_append (t ∷ ts) us out at = place_append ts us (buffer_after t out at) (place_after t out at)

buffer_append : (ts us : List (List ℕ)) (out : List ℕ) (at : ℕ) → buffer_all (ts ++ us) out at ≡ buffer_all us (buffer_all ts out at) (place_all ts out at)
unfolding place_all buffer_all
buffer_append [] us out at = refl
buffer_append (t ∷ ts) us out at = buffer_append ts us (buffer_after t out at) (place_after t out at)

pub puts_append : {ts us : List (List ℕ)} {out o p : List ℕ} {at m r : ℕ} → PutsAll ts out at m o → PutsAll us o m r p → PutsAll (ts ++ us) out at r p
puts_append {ts} {us} {out} {o} {p} {at} a b = record {
  says = b.says ∙ ap₂ (λ (x : List ℕ) (y : ℕ). place_all us x y) a.leaves a.says ∙ sym (place_append ts us out at);
  leaves = b.leaves ∙ ap₂ (λ (x : List ℕ) (y : ℕ). buffer_all us x y) a.leaves a.says ∙ sym (buffer_append ts us out at);
}

-- the same texts, said another way
pub puts_same : {ts us : List (List ℕ)} {out p : List ℕ} {at r : ℕ} → ts ≡ us → PutsAll ts out at r p → PutsAll us out at r p
puts_same {ts} {us} {out} {p} {at} {r} e a = record {
  says = a.says ∙ ap (λ (x : List (List ℕ)). place_all x out at) e;
  leaves = a.leaves ∙ ap (λ (x : List (List ℕ)). buffer_all x out at) e;
}

-- what is left to put, and where, puts what was to be put
pub record Rest (ts : List (List ℕ)) (out : List ℕ) (at : ℕ) (us : List (List ℕ)) (o : List ℕ) (m : ℕ) : Type 0 where
  pub place : place_all us o m ≡ place_all ts out at
  pub buffer : buffer_all us o m ≡ buffer_all ts out at

pub rest_whole : (ts : List (List ℕ)) (out : List ℕ) (at : ℕ) → Rest ts out at ts out at
rest_whole ts out at = record { place = refl; buffer = refl }

-- some texts put
pub rest_less : {ts vs : List (List ℕ)} (us : List (List ℕ)) {out o p : List ℕ} {at m n : ℕ} → Rest ts out at (vs ++ us) o m → PutsAll vs o m n p → Rest ts out at us p n
rest_less {ts} {vs} us {out} {o} {p} {at} {m} h a = record {
  place = ap₂ (λ (x : List ℕ) (y : ℕ). place_all us x y) a.leaves a.says ∙ sym (place_append vs us o m) ∙ h.place;
  buffer = ap₂ (λ (x : List ℕ) (y : ℕ). buffer_all us x y) a.leaves a.says ∙ sym (buffer_append vs us o m) ∙ h.buffer;
}

-- none left
pub rest_none : {ts us : List (List ℕ)} {out o : List ℕ} {at m : ℕ} → us ≡ [] → Rest ts out at us o m → PutsAll ts out at m o
unfolding place_all buffer_all
rest_none {ts} {us} {out} {o} {at} {m} e h = record {
  says = sym (ap (λ (x : List (List ℕ)). place_all x o m) e) ∙ h.place;
  leaves = sym (ap (λ (x : List (List ℕ)). buffer_all x o m) e) ∙ h.buffer;
}
