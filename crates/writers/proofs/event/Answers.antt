use Rattle.std.specs.Prelude.{ℕ, ◌≡◌, false, ◌∷◌, ◌++◌, length, take}
use Rattle.std.proofs.Common.{rules, sym, ap, ◌∙◌, arith}
use Rattle.std.proofs.lemmas.List.{take_all}
use Rattle.refusal.specs.Test.{tests}
use Rattle.frame.specs.Frame.{listed, listed_take}
use Rattle.lead.specs.Lead.{event_first, event_second}
use Rattle.event_type.specs.Types.{lacks}
use Rattle.frame.specs.Written.{refuses, passes}
use Rattle.event.specs.Layout.{width_of, mac_bytes, front}
use Rattle.event.specs.Fits.{frames, lacking, front_put}
use Rattle.writers.proofs.event.Goals.{else-has_instance-via-then-has_instance+else-n-eq0, else-has_instance-via-else-has_instance}
use Rattle.writers.proofs.event.Goals as goal

pub returns-then-n-eq0 : goal.returns-then-n-eq0
returns-then-n-eq0 c =
    let a = c.args in
    refuses a.out.now (lacking (width_of a.layout) a.mac a.target a.kind a.«data».now (search rules) (search (tests, rules)))

pub returns : goal.returns
returns c =
    let a = c.args in
    let w = width_of a.layout in
    let n = length a.«data».now in
    let b = c.behind_mac-b.result in
    let five : length b ≡ 5 = search rules in
    let l : listed 0 5 b ≡ b = sym (listed_take 0 5 b (omega arith)) ∙ take_all 5 b (omega arith) in
    let f : take c.data_at.result ((event_first ∷ event_second ∷ mac_bytes a.mac) ++ listed 0 5 b) ≡ front w a.mac a.target a.kind n =
    ap (λ (i : ℕ). take i ((event_first ∷ event_second ∷ mac_bytes a.mac) ++ listed 0 5 b)) c.data_at.ensures
    ∙ front_put w a.mac a.target a.kind n (listed 0 5 b) (rw l c.behind_mac-b.ensures) in
    let i : lacks a.kind n ≡ false = search (tests, rules) in
    passes
    (frames w a.mac a.target a.kind a.«data».now (search rules) (omega (arith, c.target_most.ensures)) i)
    (rw f at c.write.ensures)
