-- Document 02, W-203: "only commands that query may be written. The set is a decision over the command number: 08, 31, 33, 40, A0–A9 and
-- colour requests are outside it, each other known command inside."
use Rattle.std.specs.Prelude.{ℕ, Bool, true, not, ◌&&◌, ◌||◌, leb, eqb}
use Rattle.command.specs.Command.{is_known}
use Rattle.profile.specs.declared.Profile.{Profile}
use Rattle.profile.specs.declared.Profile.TheVariants.{Open, Quiet}

-- "08, 31, 33, 40, A0–A9 and colour requests": these have command 0E
unfoldable pub is_barred : ℕ → Bool
is_barred c = eqb c 0x08 || eqb c 0x31 || eqb c 0x33 || eqb c 0x40 || (leb 0xA0 c && leb c 0xA9) || eqb c 0x0E

-- "each other known command inside"
unfoldable pub is_inside : ℕ → Bool
is_inside c = is_known c && not (is_barred c)

-- "a profile, chosen when a writer is called": where it is not chosen, each command passes
abbrev pub allows : Profile → ℕ → Bool
allows Open c = true
allows Quiet c = is_inside c
