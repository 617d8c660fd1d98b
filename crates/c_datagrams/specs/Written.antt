-- What a program in C is handed by a writer: a refusal by its number and 0, or 0 and the count.
use Rattle.std.specs.Prelude.{ℕ, ◌≡◌, List, Result}
use Rattle.std.proofs.Common.{ap}
use Rattle.refusal.specs.Answer.{Answer, refused, full, said}
use Rattle.refusal.specs.declared.Refusal.{Refusal}
use Rattle.frame.specs.Written.{wrote, after, Written}
use Rattle.c_datagrams.specs.declared.WickWrote.{WickWrote}

abbrev pub wrote_out : Answer ℕ → WickWrote
wrote_out (refused k) = record { refusal = k; count = 0 }
wrote_out (full n) = record { refusal = 0; count = n }

-- the contract of a writer, as `Written` of crate frame
pub record WrittenOut (v : Answer (List ℕ)) (out : List ℕ) (w : WickWrote) (out' : List ℕ) : Type 0 where
  pub says : w ≡ wrote_out (wrote v out)
  pub leaves : out' ≡ after v out

-- what the writer of a crate answered, handed over
pub written_out : {v : Answer (List ℕ)} {out p : List ℕ} (r : Result ℕ Refusal) → Written v out r p → WrittenOut v out (wrote_out (said r)) p
written_out r w = record { says = ap wrote_out w.says; leaves = w.leaves }
