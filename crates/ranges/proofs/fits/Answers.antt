use mathlib.Core.Path.{◌≡◌, refl}
use mathlib.Core.Bool.{Bool, true, false, ◌&&◌}
use Rattle.ranges.specs.Arguments.{fits}
use Rattle.ranges.proofs.fits.Goals as goal

-- code tests the places behind the first together
apart : (w x y z : Bool) → w && (x && y && z) ≡ w && x && y && z
apart true x y z = refl
apart false x y z = refl

pub returns-in-Group : goal.returns-in-Group
unfolding fits
returns-in-Group c = rw (apart, c.in-Group.is)

pub returns-in-Emit : goal.returns-in-Emit
unfolding fits
returns-in-Emit c = rw (apart, c.in-Emit.is)

pub returns-in-Bare : goal.returns-in-Bare
unfolding fits
returns-in-Bare c = rw (apart, c.in-Bare.is)

pub returns-in-Timers : goal.returns-in-Timers
unfolding fits
returns-in-Timers c = rw c.in-Timers.is

pub returns-in-GroupScene : goal.returns-in-GroupScene
unfolding fits
returns-in-GroupScene c = rw c.in-GroupScene.is

pub returns-in-Channel : goal.returns-in-Channel
unfolding fits
returns-in-Channel c = rw c.in-Channel.is

pub returns-in-Filter : goal.returns-in-Filter
unfolding fits
returns-in-Filter c = rw c.in-Filter.is

pub returns-in-Query : goal.returns-in-Query
unfolding fits
returns-in-Query c = rw c.in-Query.is

pub returns-in-Gear : goal.returns-in-Gear
unfolding fits
returns-in-Gear c = rw (apart, c.in-Gear.is)

pub returns-in-Inhibit : goal.returns-in-Inhibit
unfolding fits
returns-in-Inhibit c = rw (c.is_lighting-lighting.ensures, c.in-Inhibit.is)

pub returns-in-Scene : goal.returns-in-Scene
unfolding fits
returns-in-Scene c = rw (c.is_lighting-lighting.ensures, c.in-Scene.is)

pub returns-in-Level : goal.returns-in-Level
unfolding fits
returns-in-Level c = rw (c.is_lighting-lighting.ensures, c.in-Level.is)

pub returns-in-Lights : goal.returns-in-Lights
unfolding fits
returns-in-Lights c = rw (apart, c.is_lighting-lighting.ensures, c.in-Lights.is)

pub returns-in-Address : goal.returns-in-Address
unfolding fits
returns-in-Address c = rw (apart, c.in-Address.is)

pub returns-in-Status : goal.returns-in-Status
unfolding fits
returns-in-Status c = rw (apart, c.in-Status.is)
