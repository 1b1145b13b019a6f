-- From what was begun to what was there before.
use Rattle.std.specs.Prelude.{◌&&◌, not}
use Rattle.std.proofs.Common.{◌≡◌, ◌⊎◌, inl, inr, ◌≤◌, ◌<◌, ℕ, Bool, true, false, List, Option, Some, None, refl, ap, subst, arith}
use Rattle.nv_base.specs.Count.{Rose, last_count}
use Rattle.memif.specs.declared.answer.DeviceTurn.{DeviceTurn}
use Rattle.memif.specs.declared.answer.DeviceTurn.TheVariants.{Idle, Worked, Off}
use Rattle.memif.specs.Told.{DeviceTold, Part, First, Second, Slot, Stand, Open, Ended, is_open, nothing_open, part_at}
use Rattle.memif.specs.Clock.{Clock, SameClock, Past, Ticks, After, CutIn, GoesOff}
use Rattle.memif.specs.declared.answer.JobResult.{JobResult}
use Rattle.memif.specs.declared.answer.JobResult.TheVariants.{JobOk, JobFailed, JobPending, JobCanceled, BlockInconsistent, BlockInvalid}
use Rattle.nv_base.specs.declared.mark.Mark.{Mark}
use Rattle.memif.specs.Calls.{Turns, TurnsAs, Works, IsSealing, IsCut, IsOff, JobTurns, TurnsReady, EndsAs, ReadsAt, Writes}
use Rattle.fee_told.specs.Device.{told_of, clock_of}
use Rattle.fee_laws.specs.Inside.{device_of}
use Rattle.fee_laws.specs.Begins.{HasBegun, BegunTurns, BegunTakes}
use Rattle.fee_laws.proofs.Taken.{begun_takes_by}

-- THE CLOCK
past_by : (ops : ℕ) (a b c : Clock) → SameClock a b → Past ops b c → Past ops a c
past_by ops a b c same past = record {
  after = λ k m few finds. (same.may_find (After k) m).0 (past.after k m few finds);
  cut = λ k m few finds. (same.may_find (CutIn k) m).0 (past.cut k m few finds);
  failed = λ k few. ((λ is. (same.failed k).0 ((past.failed k few).0 is)), (λ is. (past.failed k few).1 ((same.failed k).1 is)));
  worn = λ k n urgent few is. past.worn k n urgent few ((same.worn k n urgent).1 is);
  of_second = λ k few. ((λ is. (same.of_second k).0 ((past.of_second k few).0 is)), (λ is. (past.of_second k few).1 ((same.of_second k).1 is)));
  spare = λ k free few is. (same.spare k free).0 (past.spare k free few is);
  was = λ t k few is. (same.was t k).0 (past.was t k few is);
}

off_by : (answer : DeviceTurn) (ops ops' k : ℕ) (a b : Clock) → SameClock a b → (b.off_in k × ((k < ops) ⊎ (last_count ≤ k))) ⊎ GoesOff answer ops ops' k
    → (a.off_in k × ((k < ops) ⊎ (last_count ≤ k))) ⊎ GoesOff answer ops ops' k
off_by answer ops ops' k a b same (inl is) = inl ((same.off_in k).0 is.0, is.1)
off_by answer ops ops' k a b same (inr goes) = inr goes

is_shut : (a b : Bool) → a ≡ true → not a && not b ≡ true → ⊥
is_shut true b e h = cc h
is_shut false b e h = cc e

module _ (old new : DeviceTold) (switching : Bool) (left : ℕ) (clock clock_mid clock_new : Clock) (same_left : left ≡ old.left) (job : is_open old.stand ≡ true) (stays : old.switching ≡ true → switching ≡ true) (on : (old.first.off ≡ false) × (old.second.off ≡ false)) (same : SameClock clock clock_mid) where
  abbrev mid : DeviceTold
  mid = record old { switching = switching; left = left }

  rose_by : (p : Part) → Rose (part_at p mid).faults (part_at p new).faults → Rose (part_at p old).faults (part_at p new).faults
  rose_by First rose = rose
  rose_by Second rose = rose

  ticks_by : (p : Part) (answer : DeviceTurn) → Ticks p answer mid clock_mid new clock_new → Ticks p answer old clock new clock_new
  ticks_by p answer t = record {
    past = past_by old.ops clock clock_mid clock_new same t.past;
    cut = t.cut;
    off = λ k is. off_by answer old.ops new.ops k clock clock_mid same (t.off k is);
    failed = λ k le lt is. rose_by p (t.failed k le lt is);
    part = t.part;
    kept = t.kept;
  }

  reads_by : (number : ℕ) (o : Option (List Slot)) (result : JobResult) (given : List ℕ) → ReadsAt number o result given mid → ReadsAt number o result given old
  reads_by number None result given t = t
  reads_by number (Some slots) result given t = t

  writes_by : (result : JobResult) (number : ℕ) (mark : Mark) → Writes result number mark mid new → Writes result number mark old new
  writes_by JobOk number mark t = t
  writes_by JobFailed number mark t = t
  writes_by JobPending number mark t = t
  writes_by JobCanceled number mark t = t
  writes_by BlockInconsistent number mark t = t
  writes_by BlockInvalid number mark t = t

  ends_by : (mark : Option Mark) (number : ℕ) (result : JobResult) (given : List ℕ) → EndsAs mark number result given mid new → EndsAs mark number result given old new
  ends_by None number result given t = (reads_by number old.slots result given t.0, t.1)
  ends_by (Some mark) number result given t = (writes_by result number mark t.0, t.1)

  job_by : (p : Part) (a b : Stand) → JobTurns p a b mid new clock_new → JobTurns p a b old new clock_new
  job_by First (Open j) (Open k) t = (t.0, t.1, omega (arith, same_left, t.2))
  job_by First (Open j) (Ended result given) t = (ends_by j.mark j.number result given t.0, t.1)
  job_by First (Ended result given) b t = t
  job_by Second (Open j) (Open k) t = (t.0, t.1, omega (arith, same_left, t.2))
  job_by Second (Open j) (Ended result given) t = (ends_by j.mark j.number result given t.0, t.1)
  job_by Second (Ended result given) b t = t

  nearer_by : (a b : ℕ) → (new.left < left) ⊎ Rose a b → (new.left < old.left) ⊎ Rose a b
  nearer_by a b (inl less) = inl (omega (arith, same_left, less))
  nearer_by a b (inr rose) = inr rose

  ready_by : TurnsReady mid new → TurnsReady old new
  ready_by t calm = t (record { faults = calm.faults; off = calm.off })

  seals_by : (k : ℕ) → ((old.ops ≤ k) ⊎ IsSealing mid → IsSealing new) → (old.ops ≤ k) ⊎ IsSealing old → IsSealing new
  seals_by k goes (inl now) = goes (inl now)
  seals_by k goes (inr is) = goes (inr (record { switching = stays is.switching; ready = is.ready }))

  works_by : (p : Part) → Works p mid new clock_new → Works p old new clock_new
  works_by First w = record { only = w.only; up = w.up; of = w.of; part = w.part; job = job_by First old.stand new.stand w.job; read = w.read; nearer = nearer_by old.first.faults new.first.faults w.nearer; ready = ready_by w.ready; seals = λ k is few such. seals_by k (w.seals k is few such) }
  works_by Second w = record { only = w.only; up = w.up; of = w.of; part = w.part; job = job_by Second old.stand new.stand w.job; read = w.read; nearer = nearer_by old.second.faults new.second.faults w.nearer; ready = ready_by w.ready; seals = λ k is few such. seals_by k (w.seals k is few such) }

  cut_by : (p : Part) → IsCut p mid new → IsCut p old new
  cut_by First w = record { only = w.only; of = w.of; part = w.part; no_read = w.no_read; marks = w.marks }
  cut_by Second w = record { only = w.only; of = w.of; part = w.part; no_read = w.no_read; marks = w.marks }

  open_by : (s : Stand) → is_open s ≡ true → old.stand ≡ s → nothing_open old ≡ false
  open_by s is at = rw job refl

  is_on : (p : Part) → (part_at p mid).off ≡ true → ⊥
  is_on First off = cc (off, on.0)
  is_on Second off = cc (off, on.1)

  off_turn : (p : Part) → IsOff p mid clock_mid new clock_new ⊎ (IsCut p mid new × Ticks p Off mid clock_mid new clock_new) → IsOff p old clock new clock_new ⊎ (IsCut p old new × Ticks p Off old clock new clock_new)
  off_turn p (inl off) = absurd (is_on p off.0)
  off_turn p (inr (cut, ticks)) = inr (cut_by p cut, ticks_by p Off ticks)

  nothing_idle : nothing_open mid ≡ true → ⊥
  nothing_idle is = is_shut (is_open old.stand) switching job is

  as_by : (answer : DeviceTurn) → TurnsAs answer mid clock_mid new clock_new → TurnsAs answer old clock new clock_new
  as_by Idle t = absurd (nothing_idle t.0)
  as_by Worked t = (open_by old.stand job refl, (t.1.0, works_by t.1.0 t.1.1, ticks_by t.1.0 Worked t.1.2))
  as_by Off t = (open_by old.stand job refl, (t.1.0, off_turn t.1.0 t.1.1))

begun_by : (answer : DeviceTurn) (old mid new : DeviceTold) (clock clock_mid clock_new : Clock) → HasBegun old mid clock clock_mid → Turns answer mid clock_mid new clock_new → Turns answer old clock new clock_new
begun_by answer old mid new clock clock_mid clock_new begun turns =
    let t = subst (λ (d : DeviceTold). Turns answer d clock_mid new clock_new) begun.only turns in
    (as_by old new mid.switching mid.left clock clock_mid clock_new begun.left begun.job begun.switching begun.on begun.same answer t.0, t.1)

pub begun_turns : BegunTurns
begun_turns answer m entry s mid t begun turns =
    begun_by answer (told_of (device_of m entry s)) (told_of (device_of m entry mid)) (told_of (device_of m entry t)) (clock_of (device_of m entry s)) (clock_of (device_of m entry mid)) (clock_of (device_of m entry t)) begun turns

pub begun_takes : BegunTakes
begun_takes answer m entry s mid t begun before then takes =
    begun_takes_by answer (device_of m entry s) (device_of m entry mid) (device_of m entry t) begun.left (ap (λ (x : DeviceTold). x.first.faults) begun.only) (ap (λ (x : DeviceTold). x.stand) begun.only) before then takes
