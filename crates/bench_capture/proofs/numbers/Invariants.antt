use Rattle.std.specs.Prelude.{◌-◌, ◌≡◌, length}
use Rattle.lent.specs.Behind.{Rest}
use Rattle.bench_capture.specs.Told.{numbers_texts}
use Rattle.bench_capture.proofs.numbers.Given as goal

abbrev pub invariant-loop-k : goal.invariant-loop-k
invariant-loop-k l =
    (length l.out ≡ length l.initial.out)
    × Rest (numbers_texts 11 0 l.n) l.initial.out l.initial.e (numbers_texts (11 - l.k-index) l.k-index l.n) l.out l.e
