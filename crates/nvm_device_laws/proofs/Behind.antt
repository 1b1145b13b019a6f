-- The machine's state behind a history that is kept over a device.
use Rattle.std.proofs.Common.{◌≡◌, ℕ, true, List, [], ◌∷◌, arith}
use Rattle.memif.specs.Told.{DeviceTold}
use Rattle.memif.specs.Clock.{Clock}
use Rattle.block_machine.specs.Words.{Entry, Configuration}
use Rattle.block_machine.specs.State.{State}
use Rattle.block_machine.specs.StartUp.{at_first}
use Rattle.block_machine.specs.Steps.{step, after}
use Rattle.block_machine.specs.Legal.{IsLegal}
use Rattle.block_laws.proofs.Along.{kept_along}
use Rattle.block_laws.proofs.MarkOrigins.{starts}
use Rattle.promise_blocks.specs.OverDevice.{HasStarted}
use Rattle.nvm_device_laws.specs.Turn.{IsBehind}
use Rattle.nvm_device_laws.proofs.Moments.{ops_within}

-- each entry that is allowed leaves the machine started
begun_on : (c : Configuration) (cap : ℕ) (h : List Entry) → IsLegal c cap h → HasStarted h → (after c h).started ≡ true
begun_on c cap [] legal started = absurd started
begun_on c cap (e ∷ es) legal started =
    kept_along c cap (λ (s : State). s.started ≡ true) (λ s x allowed on. starts c cap s x allowed) (step c at_first e) es legal.1 (starts c cap at_first e legal.0)

pub is_behind : (d : DeviceTold) (clock : Clock) → IsBehind d clock
is_behind d clock c cap h before keeps =
    (ops_within c d.ops at_first h (omega arith) keeps.over.counted, begun_on c cap h keeps.over.legal)
