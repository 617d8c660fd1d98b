use Rattle.book.specs.Old.{Looked}
use Rattle.book.proofs.give_up.Given as goal

abbrev pub invariant-loop-n : goal.invariant-loop-n
invariant-loop-n l = Looked l.initial.asked l.ticks l.clock l.limit l.n l.asked l.count
