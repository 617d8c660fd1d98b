-- What `turn` says stands in the buffer.
use Rattle.std.specs.Prelude.{ℕ, ◌≤◌, ◌≡◌, List, length, ℤ}
use Rattle.std.proofs.Common.{arith}
use Rattle.quiet_turns.specs.declared.Watch.{Watch}
use Rattle.quiet_turns.specs.declared.Act.{Act}
use Rattle.quiet_turns.specs.declared.Act.TheVariants.{Failed, Read, Says}
use Rattle.quiet_turns.specs.Turn.{Turns}
use Rattle.quiet_turns.specs.Room.{answer_most}
use Rattle.quiet_turns.specs.Said.{says_few}
use Rattle.quiet.specs.Room.{SaysWithin}

pub turn_within : (w : Watch) (got : ℤ) (buf : List ℕ) {out buf' out' : List ℕ} (r : Act) → answer_most ≤ length out → length out' ≡ length out
    → Turns w got buf out r buf' out' → SaysWithin r out'
turn_within w got buf Failed o l d = tt
turn_within w got buf (Read v) o l d = tt
turn_within w got buf (Says n) o l d = omega (arith, says_few w buf got o d)
