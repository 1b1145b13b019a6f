-- What a turn that does something begins with, and the open job of a started device.
use Rattle.std.specs.Prelude.{is_some, IfSome, slice_get}
use Rattle.std.proofs.Common.{◌≡◌, inl, inr, ◌≤◌, ◌<◌, ◌^◌, ℕ, zero, suc, Bool, true, false, List, [], ◌∷◌, Option, Some, None, refl, sym, ap, ◌∙◌, subst, arith}
use Rattle.nv_base.specs.declared.instance.DeviceNumber.{DeviceNumber}
use Rattle.nv_base.specs.Lengths.{place_of}
use Rattle.nv_base.specs.declared.job.DeviceOp.{DeviceOp}
use Rattle.nv_base.specs.declared.job.DeviceOp.TheVariants.{Read, Write, Invalidate, Erase}
use Rattle.memif.specs.declared.answer.DeviceTurn.{DeviceTurn}
use Rattle.memif.specs.declared.answer.DeviceTurn.TheVariants as turn
use Rattle.fls_model.specs.Told.{Told}
use Rattle.fee_format.specs.declared.rec_head.RecordKind.{RecordKind}
use Rattle.fee_image.specs.declared.place.Place.{Place}
use Rattle.fee_image.specs.declared.place.Place.TheVariants.{Unwritten}
use Rattle.fee_image.specs.Places.{count_at}
use Rattle.fee_laws.specs.fee_log.Index.{at_index, or_else, AreCounted}
use Rattle.fee_laws.specs.fee_log.Log.{LogState, IsLogState, work_in}
use Rattle.fee_course.specs.declared.course.Course.{Course}
use Rattle.fee_laws.specs.fee_switch.declared.phase.Phase.TheVariants as phase
use Rattle.fee_laws.specs.fee_switch.Banks.{BanksState, IsBanksState, phase_of}
use Rattle.promise_device.specs.Making.{Making}
use Rattle.fee_laws.proofs.ToldFigures.{length_few as few_at}
use Rattle.fee_laws.specs.declared.job.FeeJob.{FeeJob}
use Rattle.fee_laws.specs.Inside.{Parts, IsSound}
use Rattle.fee_laws.specs.Record.{IsJobOf, IsLengthOf, head_of}
use Rattle.fee_laws.specs.Turn.{IsOn, Turned}
use Rattle.fee_laws.specs.Parts.{opened}
use Rattle.fee_laws.specs.Follows.{Follows}
use Rattle.fee_laws.specs.Wears.{Wears}
use Rattle.fee_laws.specs.Restarts.{Restarts}
use Rattle.fee_laws.specs.FollowLaws.{IsSameBeside}
use Rattle.fee_laws.proofs.CallsBehind.{no_work}
use Rattle.fee_laws.proofs.Resting.{off_turns}
use Rattle.fee_core.specs.Turning.{IsUp}
use Rattle.fee_core.specs.Whole.{Whole, Sound, TurnedTo}

-- A DEVICE THAT IS UP
-- as its fields show it, w, of what is known, v
pub record Stands (m : Making) (entry : Told) (w v : Whole) : Type 0 where
  pub shown : w ≡ v
  pub up : IsUp m entry w
  pub on : IsOn m entry w.parts w.numbers w.reserve w.ops

module _ {m : Making} {entry : Told} {w v : Whole} where
  pub stands : w ≡ v → IsUp m entry v → IsBanksState w.parts.banks → IsLogState w.parts.banks.log → Stands m entry w v
  stands shown up banks log =
      let here = subst (IsUp m entry) (sym shown) up in
      let sound = subst (λ (x : Bool). IsSound m entry w.parts w.numbers w.reserve w.ops x) here.on here.sound.parts in
      record { shown = shown; up = here; on = record { sound = sound; started = here.started; banks = banks; log = log } }

  -- it turned to these parts, with the counts that the code has
  module _ (at : Stands m entry w v) {answer : DeviceTurn} {t u : Parts} {count ops : ℕ} {off is_off : Bool} where
    pub turned_from : u ≡ t → ops ≡ count → is_off ≡ off → Turned m entry answer w.parts t w.numbers w.reserve count off → Follows t → Wears m entry t.operations → Restarts m t
        → TurnedTo m entry answer v (record { parts = u; numbers = w.numbers; reserve = w.reserve; ops = ops; off = is_off })
    turned_from same counted power turned follows wears restarts =
        let end : record w { parts = u; ops = ops; off = is_off } ≡ record w { parts = t; ops = count; off = off } = (λ k. record w { parts = same k; ops = counted k; off = power k }) in
        subst (λ (x : Whole). TurnedTo m entry answer x (record w { parts = u; ops = ops; off = is_off })) at.shown
        (subst (λ (x : Whole). TurnedTo m entry answer w x) (sym end) (record { turns = turned.turns; sound = record { parts = turned.sound; follows = follows; wears = wears; restarts = restarts }; takes = turned.takes }))

-- and to what is the same
pub turned_same : {m : Making} {entry : Told} {answer : DeviceTurn} {v x y : Whole} → y ≡ x → TurnedTo m entry answer v x → TurnedTo m entry answer v y
turned_same {m} {entry} {answer} {v} same turned = subst (TurnedTo m entry answer v) (sym same) turned

-- with the same banks it shows the same
pub with_banks : {w v : Whole} {b : BanksState} → w ≡ v → b ≡ w.parts.banks → record w { parts = record w.parts { banks = b } } ≡ v
with_banks {w} shown same = (λ k. record w { parts = record w.parts { banks = same k } }) ∙ shown

-- something is open in a started device alone
started_by : (b : Bool) → (b ≡ false → ⊥) → b ≡ true
started_by true never = refl
started_by false never = absurd (never refl)

module _ (m : Making) (entry : Told) (s : Parts) (listed : List (DeviceNumber × ℕ)) (kept count : ℕ) (is_off : Bool) (sound : IsSound m entry s listed kept count is_off) where
  job_started : (j : FeeJob) → s.job ≡ Some j → s.started ≡ true
  job_started j job = started_by s.started (λ e. (let none = (sound.rests e).job in cc (none, job)))

  -- without a job no record is in work
  pub idle_shut : s.started ≡ true → s.job ≡ None → work_in s.banks.log.tail ≡ None
  idle_shut started shut = no_work s.banks s.job (work_in s.banks.log.tail) shut (sound.works started).work

  -- so that a content may change as a job opens
  pub same_beside : s.started ≡ true → s.job ≡ None → (j : FeeJob) (content : List ℕ) → IsSameBeside s (opened j content s)
  same_beside started shut j content = record {
    started = λ e. e;
    on = λ e. e;
    banks = refl;
    bytes = refl;
    content = inr (idle_shut started shut);
    operations = refl;
  }

-- what is some
pub some_at : {A : Type 0} (o : Option A) → is_some o ≡ true → (x : A) × (o ≡ Some x)
some_at None some = cc some
some_at (Some x) some = (x, refl)

-- with a job open, while its power is off, it is as it was
pub off_turned : {m : Making} {entry : Told} {v : Whole} → Sound m entry v → v.off ≡ true → (j : FeeJob) → v.parts.job ≡ Some j → TurnedTo m entry turn.Off v v
off_turned {m} {entry} {v} sound off j job =
    let started = job_started m entry v.parts v.numbers v.reserve v.ops v.off sound.parts j job in
    let parts = subst (λ (x : Bool). IsSound m entry v.parts v.numbers v.reserve v.ops x) off sound.parts in
    record { turns = off_turns m entry v.parts v.numbers v.reserve v.ops parts started (inl (ap (λ (o : Option FeeJob). is_some o) job)); sound = sound; takes = tt }

-- with a switch open, too
pub off_beside : {m : Making} {entry : Told} {v : Whole} → Sound m entry v → v.off ≡ true → is_some v.parts.banks.course ≡ true → TurnedTo m entry turn.Off v v
off_beside {m} {entry} {v} sound off open' =
    let started = started_by v.parts.started (λ is. (let none : false ≡ true = sym (ap (λ (o : Option Course). is_some o) (sound.parts.rests is).course) ∙ open' in cc none)) in
    let parts = subst (λ (x : Bool). IsSound m entry v.parts v.numbers v.reserve v.ops x) off sound.parts in
    record { turns = off_turns m entry v.parts v.numbers v.reserve v.ops parts started (inr open'); sound = sound; takes = tt }

pub phase_open : (o : Option Course) → (phase_of o ≡ phase.None → ⊥) → is_some o ≡ true
phase_open None shut = absurd (shut refl)
phase_open (Some c) shut = refl

-- THE OPEN JOB
length_few : (op : DeviceOp) (length of : ℕ) → IsLengthOf op length of → of ≤ 4096 → length ≤ 4096
length_few Read length of fits few = omega (arith, fits)
length_few Write length of fits few = omega (arith, fits)
length_few Invalidate length of fits few = omega (arith, fits)
length_few Erase length of fits few = omega (arith, fits)

module _ {m : Making} {entry : Told} {s : Parts} {listed : List (DeviceNumber × ℕ)} {kept count : ℕ} (on : IsOn m entry s listed kept count) {j : FeeJob} (job : s.job ≡ Some j) where
  pub job_is : IsJobOf m.numbers j
  job_is = subst (λ (o : Option FeeJob). IfSome o (IsJobOf m.numbers)) job (on.sound.works on.started).job

  pub job_few : j.length ≤ 4096
  job_few = length_few j.op j.length job_is.length job_is.fits (few_at 0 m.numbers j.number.0 job_is.length on.sound.made_for.space.lengths job_is.configured)

-- the count of its record fits
counted_at : (ps : List Place) (i : ℕ) → AreCounted ps → count_at (or_else Unwritten (slice_get ps i)) < 2 ^ 32
counted_at [] i are = omega arith
counted_at (p ∷ ps) zero are = are.0
counted_at (p ∷ ps) (suc i) are = counted_at ps i are.1

place_counted : (ps : List Place) (o : Option ℕ) → AreCounted ps → count_at (or_else Unwritten (at_index ps o)) < 2 ^ 32
place_counted ps None are = omega arith
place_counted ps (Some i) are = counted_at ps i are

pub next_counted : (log : LogState) (kind : RecordKind) (j : FeeJob) → IsLogState log → (head_of log kind j).count < 2 ^ 32
next_counted log kind j is = (let few = place_counted log.places (place_of log.numbers j.number.0) is.counts in omega (arith, few))
