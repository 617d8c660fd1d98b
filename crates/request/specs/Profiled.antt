-- Writing under a profile. Document 02, W-203: "only commands that query may be written"; "13, outside the profile, comes after 7 and before 8."
use Rattle.std.specs.Prelude.{ℕ, List}
use Rattle.refusal.specs.Answer.{Answer, refused, full, demand}
use Rattle.profile.specs.declared.Profile.{Profile}
use Rattle.profile.specs.Profile.{allows}

-- a frame that would be written, but for the profile
abbrev pub under : Profile → ℕ → Answer (List ℕ) → Answer (List ℕ)
under p k (refused n) = refused n
under p k (full x) = demand (allows p k) 13 (full x)
