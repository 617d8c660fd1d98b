use Rattle.std.proofs.Common.{◌-◌, ◌≤◌, ◌≡◌, length, drop}
use Rattle.words.specs.Words.{word_in}
use Rattle.words.proofs.start.Given as goal

abbrev pub invariant-loop : goal.invariant-loop
invariant-loop l = (l.at ≤ length l.names) × (word_in l.part (l.k - l.counter) (drop l.at l.names) ≡ word_in l.part l.k l.names)
