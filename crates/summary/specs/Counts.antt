-- The ways that a record is counted.
use Rattle.std.specs.Prelude.{ℕ, Option, Some, None, Result, Ok, Err, ok_or, SomeIff, ◌+◌, ◌≤◌, ◌<◌, ◌≡◌, refl, get_or, set}
use Rattle.std.specs.Option.{option_or}
use Rattle.std.proofs.Common.{lt-ltb, le-ltb, ◌∙◌, arith}
use Rattle.refusal.specs.Test.{clash}
use Rattle.refusal.specs.Answer.{refused, full}
use Rattle.refusal.specs.declared.Refusal.{Refusal}
use Rattle.refusal.specs.declared.Refusal.TheVariants.{NoRoom}
use Rattle.summary.specs.Summary.{most, first_of, slot_of, one_more}
use Rattle.summary.specs.declared.Summary.{Summary}

-- a count that has room for one more, or has not
pub up_ok : (n : ℕ) (o : Option ℕ) {k : ℕ} → SomeIff o (n + 1 < 4294967296) (n + 1) → ◌≡◌ {A = Result ℕ Refusal} (Ok k) (ok_or o NoRoom) → (n < most) × (k ≡ n + 1)
up_ok n None s e = clash (cc)
up_ok n (Some m) {k} s e = let z : k ≡ m = cc in (omega (arith, s.0), z ∙ s.1)

pub up_err : (n : ℕ) (o : Option ℕ) {r : Refusal} → SomeIff o (n + 1 < 4294967296) (n + 1) → ◌≡◌ {A = Result ℕ Refusal} (Err r) (ok_or o NoRoom) → (most ≤ n) × (r ≡ NoRoom)
up_err n None s e = (omega (arith, s), cc)
up_err n (Some m) s e = clash (cc)

module _ (x : Summary) (t k : ℕ) where
  pub no_record_lem : most ≤ x.records → refused 8 ≡ one_more x t k
  unfolding one_more
  no_record_lem h = rw (le-ltb x.records most h)

  pub no_count : {i : ℕ} → i ≡ slot_of k → x.records < most → most ≤ get_or x.counts i 0 → refused 8 ≡ one_more x t k
  unfolding one_more
  no_count e h f =
      let g : most ≤ get_or x.counts (slot_of k) 0 = rw e at f in
      rw (lt-ltb x.records most h, le-ltb (get_or x.counts (slot_of k) 0) most g)

  first_or : (f : Option ℕ) → option_or f (Some t) ≡ first_of f t
  first_or None = refl
  first_or (Some s) = refl

  pub counts : {i n m : ℕ} {f : Option ℕ} → i ≡ slot_of k → (x.records < most) × (n ≡ x.records + 1) → (get_or x.counts i 0 < most) × (m ≡ get_or x.counts i 0 + 1)
      → f ≡ option_or x.first (Some t) → full (record { records = n; first = f; last = Some t; counts = set x.counts i m }) ≡ one_more x t k
  unfolding one_more
  counts e h l f =
      let g : get_or x.counts (slot_of k) 0 < most = rw e at l.0 in
      rw (lt-ltb x.records most h.0, lt-ltb (get_or x.counts (slot_of k) 0) most g, f, h.1, l.1, e, first_or x.first)
