-- W-210: the command that is retired is known.
use Rattle.std.specs.Prelude.{ℕ, ◌≡◌, true}
use Rattle.command.specs.Command.{is_known, is_retired}
use Rattle.command.specs.Known.{retired_only, retired_shape}

pub retired_known : (c : ℕ) → is_retired c ≡ true → is_known c ≡ true
retired_known c e = rw (retired_only c e, retired_shape.1)
