-- What is said of an answer through what is said of what it holds leaves no choice where the latter leaves none.
use Rattle.std.specs.Prelude.{◌≡◌, Result, Ok, Err}
use Rattle.std.proofs.Common.{ap}
use Rattle.refusal.specs.Refusals.{number_of, number_one}
use Rattle.refusal.specs.Answer.{full_one, said_of}
use Rattle.refusal.specs.declared.Refusal.{Refusal}

pub said_of_one : {A B : Type 0} (f : A → B) → ((x y : A) → f x ≡ f y → x ≡ y) → (x y : Result A Refusal) → said_of f x ≡ said_of f y → x ≡ y
said_of_one f one (Err r) (Err s) e =
    let n : number_of r ≡ number_of s = cc in
    ap Err (number_one r s n)
said_of_one f one (Err r) (Ok y) e = cc
said_of_one f one (Ok x) (Err s) e = cc
said_of_one f one (Ok x) (Ok y) e = ap Ok (one x y (full_one e))
