-- What is passed goes on: some records more, and then others, are both at once.
use Rattle.std.specs.Prelude.{ℕ, ◌+◌, ◌≤◌, ◌<◌, ◌≡◌, refl, Bool, true, false, List, [], ◌++◌, length, leb}
use Rattle.std.proofs.Common.{sym, ap, ◌∙◌, append-nil, length-append, le-leb, leb-true, leb-false, arith}
use Rattle.std.proofs.lemmas.Bool.{lt-leb}
use Rattle.record.specs.Record.{Entry}
use Rattle.capture.specs.Capture.{sizes_of}
use Rattle.capture.specs.Walk.{sizes_append, last_append}
use Rattle.season.specs.declared.Corridor.{Corridor}
use Rattle.season.specs.declared.Boundaries.{Boundaries}
use Rattle.season.specs.Season.{full64, plus}
use Rattle.tally.specs.More.{tallied_append}
use Rattle.passing.specs.declared.Passed.{Passed}
use Rattle.passing.specs.Passing.{more_passed}

-- a sum in 64 bits
pub plus_in : (a b : ℕ) → a + b ≤ full64 → plus a b ≡ a + b
unfolding plus
plus_in a b h = rw (le-leb (a + b) full64 h)

pub plus_full : (a b : ℕ) → full64 < a + b → plus a b ≡ full64
unfolding plus
plus_full a b h = rw (lt-leb (a + b) full64 h)

plus_cases : {P : Type 0} (a b : ℕ) → (a + b ≤ full64 → P) → (full64 < a + b → P) → P
plus_cases {P} a b f g = go (leb (a + b) full64) refl
  where
    go : (x : Bool) → leb (a + b) full64 ≡ x → P
    go true e = f (leb-true (a + b) full64 e)
    go false e = g (leb-false (a + b) full64 e)

pub plus_plus : (a m n : ℕ) → plus (plus a m) n ≡ plus a (m + n)
plus_plus a m n =
    plus_cases a m
    (λ h.
    plus_cases a (m + n)
    (λ k. rw (plus_in a m h) (plus_in (a + m) n (omega arith) ∙ omega arith ∙ sym (plus_in a (m + n) k)))
    (λ k. rw (plus_in a m h) (plus_full (a + m) n (omega arith) ∙ sym (plus_full a (m + n) k))))
    (λ h.
    plus_cases full64 n
    (λ k. rw (plus_full a m h) (plus_in full64 n k ∙ omega arith ∙ sym (plus_full a (m + n) (omega arith))))
    (λ k. rw (plus_full a m h) (plus_full full64 n k ∙ sym (plus_full a (m + n) (omega arith)))))

pub more_append : (c : Corridor) (b : Boundaries) (x : Passed) (rs qs : List Entry) → more_passed c b (more_passed c b x rs) qs ≡ more_passed c b x (rs ++ qs)
more_append c b x rs qs =
    let k : plus (plus x.records (length rs)) (length qs) ≡ plus x.records (length (rs ++ qs)) = plus_plus x.records (length rs) (length qs) ∙ ap (plus x.records) (sym (length-append rs qs)) in
    let z : plus (plus x.bytes (sizes_of rs)) (sizes_of qs) ≡ plus x.bytes (sizes_of (rs ++ qs)) = plus_plus x.bytes (sizes_of rs) (sizes_of qs) ∙ ap (plus x.bytes) (sym (sizes_append rs qs)) in
    let d = sym (last_append x.last rs qs) in
    let t = sym (tallied_append c b x.tally rs qs) in
    λ i. record { records = k i; bytes = z i; last = d i; tally = t i }

pub more_none : (c : Corridor) (b : Boundaries) (x : Passed) (rs : List Entry) → more_passed c b (more_passed c b x rs) [] ≡ more_passed c b x rs
more_none c b x rs = more_append c b x rs [] ∙ ap (more_passed c b x) (append-nil rs)
