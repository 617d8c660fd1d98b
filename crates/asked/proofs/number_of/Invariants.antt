use Rattle.std.proofs.Common.{◌≤◌, ◌≡◌, drop}
use Rattle.asked.specs.Asked.{number_of}
use Rattle.asked.specs.Turns.{rest_of}
use Rattle.asked.proofs.number_of.Given as goal

abbrev pub invariant-loop-c : goal.invariant-loop-c
invariant-loop-c l = (l.n ≤ l.most) × (rest_of l.most l.n (drop l.c-index l.s) ≡ number_of l.most l.s)
