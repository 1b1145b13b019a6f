-- A change in memory alone: what is told then.
use Rattle.std.specs.Prelude.{IfSome, IsTrue, option_map}
use Rattle.std.proofs.Common.{◌≡◌, ℕ, Bool, true, false, if◌then◌else◌, List, Option, Some, None, refl, sym, ap, arith, inl}
use Rattle.nv_base.specs.declared.instance.DeviceNumber.{DeviceNumber}
use Rattle.memif.specs.declared.answer.JobResult.{JobResult}
use Rattle.memif.specs.Told.{Slot, Stand, Open, Ended}
use Rattle.memif.specs.Clock.{FindsNow}
use Rattle.fls_model.specs.Told.{Told, bytes_now}
use Rattle.fee_format.specs.declared.rec_head.RecHead.{RecHead}
use Rattle.fee_image.specs.declared.place.Place.{Place}
use Rattle.fee_image.specs.Log.{Tail, Open as LogOpen, Writes, Owes, Closed}
use Rattle.fee_image.specs.Banks.{Old, NoBank, OldBank}
use Rattle.fee_switch_laws.specs.fee_switch.Banks.{BanksState}
use Rattle.promise_device.specs.Making.{Making, banks_of}
use Rattle.fee_told.specs.Slots.{Memory, HasJob, IsWorkOf, slots_held, slots_found}
use Rattle.fee_told.specs.fls_told.Runs.{HasRun}
use Rattle.fee_told.proofs.Clocks.{clocks_stay}
use Rattle.fee_told.proofs.Making.{runs_stay}
use Rattle.fee_told.specs.Device.{Device, tells_now, told_of, slots_told, clock_of, flash_device}
use Rattle.fee_told.proofs.Steps.{places_tell}
use Rattle.fee_told.proofs.Whole.{held_finds_now}
use Rattle.fee_told.proofs.ToldBytes.{each_told}
use Rattle.fee_laws.specs.declared.job.FeeJob.{FeeJob}
use Rattle.fee_laws.specs.Inside.{Parts, device_of, body_of, HoldsBehind}
use Rattle.fee_laws.specs.Record.{IsInWork}
use Rattle.fee_laws.proofs.CallOrder.{finds_on}
use Rattle.fee_told.specs.Whole.{HoldsBanks}
use Rattle.fee_told.specs.SlotLaws.{IsHeld}

-- NO RECORD IN WORK
pub no_work : (b : BanksState) (job : Option FeeJob) (o : Option RecHead) → job ≡ None → IfSome o (IsInWork b job) → o ≡ None
no_work b job None shut work = refl
no_work b job (Some h) shut work = (let e = work.is_open in cc)

pub same_body : (o : Option RecHead) (x y : List ℕ) → o ≡ None → body_of o x ≡ body_of o y
same_body None x y idle = refl
same_body (Some h) x y idle = cc idle

-- a job may open, or end, where no record of another is in work
job_at : (ns : List (DeviceNumber × ℕ)) (ps : List Place) (stand : Stand) (result : JobResult) (given : List ℕ) (tail : Tail) → IsWorkOf ns ps (Ended result given) tail → IsWorkOf ns ps stand tail
job_at ns ps (Open j) result given LogOpen work = tt
job_at ns ps (Open j) result given (Writes h body done) work = absurd work
job_at ns ps (Open j) result given (Owes h) work = tt
job_at ns ps (Open j) result given Closed work = tt
job_at ns ps (Ended r g) result given LogOpen work = tt
job_at ns ps (Ended r g) result given (Writes h body done) work = absurd work
job_at ns ps (Ended r g) result given (Owes h) work = tt
job_at ns ps (Ended r g) result given Closed work = tt

pub job_in : (ns : List (DeviceNumber × ℕ)) (stand : Stand) (result : JobResult) (given : List ℕ) (old : Old) → HasJob ns (Ended result given) old → HasJob ns stand old
job_in ns stand result given NoBank has = tt
job_in ns stand result given (OldBank k h log) has = job_at ns log.places stand result given log.tail has

-- WHAT IS TOLD
module _ (m : Making) (entry : Told) (t : Parts) (h : HoldsBehind (device_of m entry t)) where
  abbrev d : Device
  d = device_of m entry t

  abbrev x : Device
  x = record d { memory = h.behind }

  abbrev slots_by : Memory → Bool → List ℕ → List Slot
  slots_by memory started bytes = if started then slots_held (banks_of m) m.numbers bytes memory else slots_found (banks_of m) m.numbers bytes

  same_slots : (started : Bool) (bytes : List ℕ) → slots_by d.memory started bytes ≡ slots_by h.behind started bytes
  same_slots true bytes = places_tell (banks_of m) m.numbers bytes h.behind d.memory h.places (sym h.stand)
  same_slots false bytes = refl

  told_by : (told started : Bool) (o : Option (List ℕ)) → (if told then option_map (slots_by d.memory started) o else None) ≡ (if told then option_map (slots_by h.behind started) o else None)
  told_by true started (Some bytes) = ap (λ (slots : List Slot). Some slots) (same_slots started bytes)
  told_by true started None = refl
  told_by false started o = refl

  pub slots_are : slots_told d ≡ slots_told x
  slots_are = told_by (tells_now d) t.started (bytes_now t.fls.flash)

  pub finds_now : FindsNow (told_of d) (clock_of d)
  finds_now = finds_on (told_of x) (told_of d) (clock_of x) (clock_of d) (clocks_stay (flash_device x) (flash_device d) (record { reading = refl; entry = refl; operations = refl; bytes = refl }) (λ n. refl)) refl slots_are refl (held_finds_now x h.copied h.banks)

-- a run stays where memory alone changes
pub run_stays : (m : Making) (entry : Told) (s : Parts) (b : BanksState) (content : List ℕ) (job : Option FeeJob) (last : JobResult) (given : ℕ)
    → HasRun (flash_device (device_of m entry s)) → HasRun (flash_device (device_of m entry (record s { banks = b; content = content; job = job; last = last; given = given })))
run_stays m entry s b content job last given run =
    runs_stay (flash_device (device_of m entry s)) (flash_device (device_of m entry (record s { banks = b; content = content; job = job; last = last; given = given }))) run
    (record { none = record { reading = refl; entry = refl; operations = refl; bytes = refl }; bytes = refl; counts = (refl, refl); came = (refl, refl); flash_faults = omega arith; faults = run.faults; cuts = run.cuts; worn = λ n since e. inl e })

-- the bytes hold another memory's banks, where they are those that it has then
pub holds_still : (m : Making) (entry : Told) (s : Parts) (b : BanksState) (content : List ℕ) (job : Option FeeJob) (last : JobResult) (given : ℕ) (h : HoldsBehind (device_of m entry s)) → s.started ≡ true → (x : Memory)
    → ((bytes : List ℕ) → bytes_now s.fls.flash ≡ Some bytes → IsTrue (tells_now (device_of m entry s)) → IsHeld (banks_of m) m.numbers bytes x h.copied)
    → HoldsBanks (record (device_of m entry (record s { banks = b; content = content; job = job; last = last; given = given })) { memory = x }) h.copied
holds_still m entry s b content job last given h started x held = record {
  started = started;
  alike = h.banks.alike;
  legal = h.banks.legal;
  some = h.banks.some;
  held = λ told. each_told s.fls.flash.bytes (λ (y : List ℕ). IsHeld (banks_of m) m.numbers y x h.copied) (λ bytes at. held bytes at told);
}
