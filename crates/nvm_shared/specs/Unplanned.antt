-- Power cuts at a stack of whose flash none is planned.
use Rattle.std.specs.Prelude.{◌≡◌, ◌≢◌, ℕ, false, [], None}
use Rattle.nvm_core.specs.nv_base.Count.{WereCounted}
use Rattle.nvm_core.specs.memif.Told.{PartTold}
use Rattle.nvm_core.specs.nvm_laws.declared.turned.Turned.{Turned}
use Rattle.nvm_core.specs.nvm_laws.declared.turned.Turned.TheVariants as turned

-- No planned cut came at this part, and while its power is on none is planned.
pub record IsUnplanned (p : PartTold) : Type 0 where
  pub came : p.planning.came ≡ []
  pub plan : p.off ≡ false → p.planning.plan ≡ None

-- how often the power goes off in a turn with this answer, where it was on before
abbrev pub offs_by : Turned → ℕ
offs_by turned.Off = 1
offs_by answer = 0

-- Behind a turn so it is still, and where the power went off a cut was counted that none planned.
pub record StaysUnplanned (answer : Turned) (old new : PartTold) : Type 0 where
  pub unplanned : IsUnplanned new
  pub counted : WereCounted (offs_by answer) old.planning.unplanned new.planning.unplanned
  pub power : answer ≢ turned.Off → new.off ≡ old.off
