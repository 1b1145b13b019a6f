-- What is open is so only while the device is started: each call of the floor keeps that, of any device; a turn, as `stays_up` says.
use Rattle.std.specs.Prelude.{not, ◌==◌}
use Rattle.std.proofs.Common.{◌≡◌, ℕ, Bool, true, false, if◌then◌else◌, Option, Some, None, Result, Ok, Err, refl, sym, ap, ◌∙◌, subst}
use Rattle.memif.specs.declared.answer.DeviceRefusal.{DeviceRefusal}
use Rattle.memif.specs.declared.answer.DeviceRefusal.TheVariants.{Busy, Uninit}
use Rattle.memif.specs.declared.answer.StartFault.{StartFault}
use Rattle.memif.specs.Told.{DeviceTold, IfElse, is_open, length_of, nothing_open, plans}
use Rattle.memif.specs.Clock.{Clock}
use Rattle.memif.specs.Calls.{Accepts, Arms, Cancels, IsCanceled, StartsUp, Wish, length_refusal}
use Rattle.memif_pair.specs.Together.{IsUp}
use Rattle.memif_pair.proofs.Choosing.{open_some}

-- a start-up leaves nothing open
pub up_started : (answer : Result (Unit {0}) StartFault) (old : DeviceTold) (c : Clock) (new : DeviceTold) (c_new : Clock) → StartsUp answer old c new c_new → IsUp new
up_started answer old c new c_new starts = λ some. absurd (let nothing = ap nothing_open starts.only in let wrong : true ≡ false = sym nothing ∙ some in cc wrong)

-- no start of a job is taken before
not_down : (busy started : Bool) (other : Option DeviceRefusal) → (if busy then Some Busy else (if started then other else Some Uninit)) ≡ None → started ≡ true
not_down true started other none = cc none
not_down false true other none = refl
not_down false false other none = cc none

pub up_accepted : (w : Wish) (answer : Result (Unit {0}) DeviceRefusal) (old : DeviceTold) (c : Clock) (new : DeviceTold) (c_new : Clock) → Accepts w answer old c new c_new → IsUp old → IsUp new
up_accepted w (Ok done) old c new c_new accepts up = λ some.
    ap (λ (d : DeviceTold). d.started) accepts.0.1.only ∙ not_down (is_open old.stand) old.started (length_refusal w.length (length_of old.fixed.numbers w.job.number)) accepts.0.0
up_accepted w (Err refusal) old c new c_new accepts up = subst IsUp (sym accepts.0.1) up

pub up_canceled : (old : DeviceTold) (c : Clock) (new : DeviceTold) (c_new : Clock) → Cancels old c new c_new → IsUp old → IsUp new
up_canceled old c new c_new cancels up = by (is_open old.stand) refl cancels.0
  where
    by : (o : Bool) → is_open old.stand ≡ o → IfElse o (IsCanceled old new) (new ≡ old) → IsUp new
    by true on canceled = λ some. ap (λ (d : DeviceTold). d.started) canceled.only ∙ up (open_some old.stand (not old.switching) on)
    by false closed same = subst IsUp (sym same) up

pub up_armed : (which nth keep : ℕ) (old : DeviceTold) (c : Clock) (new : DeviceTold) (c_new : Clock) → Arms which nth keep old c new c_new → IsUp old → IsUp new
up_armed which nth keep old c new c_new arms up = subst IsUp (sym arms.0) (by (which == 0) (which == 1))
  where
    by : (x y : Bool) → IsUp (if x then record old { first = plans nth keep old.first } else (if y then record old { second = plans nth keep old.second } else old))
    by true y = up
    by false true = up
    by false false = up
