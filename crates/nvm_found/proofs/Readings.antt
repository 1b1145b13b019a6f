-- A read at a device that was started up, from its start to its end.
use Rattle.std.specs.Prelude.{if◌then◌else◌}
use Rattle.std.proofs.Common.{◌≡◌, ◌≢◌, ℕ, ◌+◌, ◌<◌, ◌≤◌, Bool, true, false, List, Option, Some, None, Result, Ok, Err, refl, sym, ap, ◌∙◌, subst, inl, inr, arith}
use Rattle.block_machine.specs.nv_base.Count.{Rose}
use Rattle.block_machine.specs.nv_base.declared.mark.Mark.{Mark}
use Rattle.memif.specs.declared.answer.DeviceRefusal.{DeviceRefusal}
use Rattle.memif.specs.declared.answer.DeviceTurn.{DeviceTurn}
use Rattle.memif.specs.declared.answer.DeviceTurn.TheVariants as turn
use Rattle.memif.specs.declared.answer.JobResult.{JobResult}
use Rattle.memif.specs.declared.answer.JobResult.TheVariants.{JobOk}
use Rattle.memif.specs.declared.answer.StartFault.{StartFault}
use Rattle.memif.specs.Told as device
use Rattle.memif.specs.Told.{DeviceTold, Fixed, Slot, Part, First, Second, part_at, Stand, Job, Open, Ended, is_open, nothing_open, length_of, slot_at}
use Rattle.memif.specs.Marks.{Keeps, KeepsAll}
use Rattle.memif.specs.Clock.{Clock, SameClock}
use Rattle.memif.specs.Trials.{Lasts}
use Rattle.memif.proofs.Turning.{lasts_more, rose_since, told_before, same_lasts, still_lasts, turn_lasts}
use Rattle.memif.specs.Calls.{PartTurns, Accepts, Opens, StartsUp, Turns, Works, JobTurns, EndsAs, Reads, ReadsAt, Gives, is_read, refusal_of}
use Rattle.block_machine.specs.Words.{Entry}
use Rattle.nvm_device_laws.specs.Turn.{Stays, StaysBy, StaysDown, TurnsKeep, settled_by, read_wish}
use Rattle.nvm_device_laws.proofs.DeviceCalls.{read_stays, turn_keeps}
use Rattle.nvm_device_laws.proofs.DownCalls.{read_down, turn_down}
use Rattle.nvm_found.specs.Found.{IsRestarted, IsUp, HasFault, ReadAtOnce}
use Rattle.nvm_found.specs.Places.{IsReady, ReadsOn, ReadComesTo}
use Rattle.nvm_found.specs.Reading.{PartReads, StandsAs, IsReading}
use Rattle.nvm_found.proofs.PlaceLists.{own_test}
use Rattle.nvm_found.proofs.Parts.{part_same, part_turned, keeps_same, keeps_all_more, up_more}

-- the turns of a read that are left, with one for its end
abbrev pub reading_left : DeviceTold → ℕ
reading_left d = if is_open d.stand then d.left + 1 else 0

not_both : (b : Bool) → b ≡ false → b ≡ true → ⊥
not_both b off on = cc

-- an open read has a turn left
abbrev pub turn_if : Bool → ℕ
turn_if b = if b then 1 else 0

count_open : (s : Stand) (b : Bool) → is_open s ≡ b → turn_if (is_open s) ≡ turn_if b
count_open s b is = ap turn_if is

-- A FAULT THAT WAS COUNTED
rose_on : (a b c : ℕ) → Rose a b → b ≤ c → Rose a c
rose_on a b c (inl more) le = inl (omega (arith, more, le))
rose_on a b c (inr end) le = inr (end.0, let later = end.1 in omega (arith, later, le))

-- it stays so
fault_on : (begun old new : DeviceTold) → (old.first.faults ≤ new.first.faults) × (old.second.faults ≤ new.second.faults) → HasFault begun old → HasFault begun new
fault_on begun old new later (inl rose) = inl (rose_on begun.first.faults old.first.faults new.first.faults rose later.0)
fault_on begun old new later (inr rose) = inr (rose_on begun.second.faults old.second.faults new.second.faults rose later.1)

-- READS ONE AFTER ANOTHER
pub reads_more : (a : DeviceTold) (ca : Clock) (b : DeviceTold) (cb : Clock) (c : DeviceTold) (ct : Clock)
    → ReadsOn a ca b cb → ReadsOn b cb c ct → ReadsOn a ca c ct
reads_more a ca b cb c ct one two = record {
  fixed = two.fixed ∙ one.fixed;
  marks = keeps_all_more a b c one.fixed one.marks two.marks;
  ops = two.ops ∙ one.ops;
  up = λ begun is. two.up begun (one.up begun is);
  left = λ once begun is was. two.left (subst ReadAtOnce (sym one.fixed) once) begun (one.up begun is) (one.left once begun is was);
  stays = λ x cap h before started keeps told. two.stays x cap h before started (one.stays x cap h before started keeps (told_before (λ n s t. Keeps s t) b c two.marks told)) told;
  down = λ x cap h before keeps told. two.down x cap h before (one.down x cap h before keeps (told_before (λ n s t. Keeps s t) b c two.marks told)) told;
  lasts = lasts_more a ca b cb c ct one.lasts two.lasts;
}

-- ITS START
-- it is taken
pub taken : (number size : ℕ) (old : DeviceTold) (r : DeviceRefusal) → IsReady old → length_of old.fixed.numbers number ≡ Some size
    → refusal_of old number (Some size) ≡ Some r → ⊥
taken number size old r ready configured refused =
    let none : refusal_of old number (Some size) ≡ None = rw (ready.at_rest, ready.started, configured, own_test size) refl in
    no_refusal r (sym none ∙ refused)
  where
    no_refusal : (r : DeviceRefusal) → ◌≡◌ {A = Option DeviceRefusal} None (Some r) → ⊥
    no_refusal r is = cc

module _ (number size : ℕ) (old : DeviceTold) (clock : Clock) (new : DeviceTold) (clock_new : Clock) where
  opened : is_open old.stand ≡ false → Opens (read_wish number size).job old new → SameClock clock clock_new → Stays old clock new clock_new → StaysDown old clock new clock_new
      → ReadsOn old clock new clock_new
  opened rest opens same stays down =
      let fixed : new.fixed ≡ old.fixed = ap (λ (d : DeviceTold). d.fixed) opens.only in
      let first : new.first ≡ old.first = ap (λ (d : DeviceTold). d.first) opens.only in
      let second : new.second ≡ old.second = ap (λ (d : DeviceTold). d.second) opens.only in
      let lasts : Lasts old clock new clock_new = same_lasts old clock new clock_new (ap (λ (d : DeviceTold). d.ops) opens.only) (ap (λ (d : DeviceTold). d.first.faults) opens.only) (ap (λ (d : DeviceTold). d.second.faults) opens.only) same in
      record {
        fixed = fixed;
        marks = opens.marks;
        ops = ap (λ (d : DeviceTold). d.ops) opens.only;
        up = λ begun is. up_more begun old new fixed (ap (λ (d : DeviceTold). d.ops) opens.only) (ap (λ (d : DeviceTold). d.starts) opens.only) (ap (λ (d : DeviceTold). d.tells) opens.only) (ap (λ (d : DeviceTold). d.started) opens.only) (part_same old.first new.first first) (part_same old.second new.second second) opens.marks is;
        left = λ once begun is was. elim was [
          | inl none ↦ inl (rw (ap (λ (d : DeviceTold). is_open d.stand) opens.only) (let closed = count_open old.stand false rest in let high = opens.left_high in let one = once number in omega (arith, none, closed, high, one)))
          | inr fault ↦ inr (fault_on begun old new lasts.faults fault)
        ];
        stays = stays;
        down = down;
        lasts = lasts;
      }

  pub begins : (answer : Result (Unit {0}) DeviceRefusal) → IsReady old → length_of old.fixed.numbers number ≡ Some size
      → Accepts (read_wish number size) answer old clock new clock_new → IsReading number size old clock new clock_new
  begins (Err r) ready configured accepts = absurd (taken number size old r ready configured accepts.0.0)
  begins (Ok u) ready configured accepts =
      let opens = accepts.0.1 in
      record {
        started = ap (λ (d : DeviceTold). d.started) opens.only ∙ ready.started;
        first_on = ap (λ (d : DeviceTold). d.first.off) opens.only ∙ ready.first_on;
        second_on = ap (λ (d : DeviceTold). d.second.off) opens.only ∙ ready.second_on;
        reads = opened ready.at_rest opens accepts.1.same
            (read_stays old clock new clock_new (read_wish number size) (Ok u) refl accepts)
            (read_down old clock new clock_new (read_wish number size) (Ok u) refl accepts);
        stand = subst (λ (s : Stand). StandsAs number size old new s) (sym (ap (λ (d : DeviceTold). d.stand) opens.only)) (refl, refl);
      }

-- A TURN OF IT
-- what it settles
none_settled : (j : Job) (b : Stand) (ops : ℕ) → j.mark ≡ None → settled_by (Open j) b ops ≡ None
none_settled j (Open k) ops none = refl
none_settled j (Ended JobOk given) ops none = rw none refl
none_settled j (Ended r given) ops none = refl

-- what it holds stands, as it was before
reads_at : (number : ℕ) (o n : Option (List Slot)) (outcome : JobResult) (given : List ℕ) (a b : DeviceTold) → n ≡ o → b.fixed ≡ a.fixed
    → ReadsAt number o outcome given a → ReadsAt number n outcome given b
reads_at number (Some u) n outcome given a b same fixed reads = rw same (subst (λ (f : Fixed). Reads (slot_at f.numbers u number).settled.mark outcome given) (sym fixed) reads)
reads_at number None n outcome given a b same fixed reads = rw same tt

some_mark : (o : Option Mark) → o ≡ None → o ≢ None → ⊥
some_mark o none some = some none

-- a read is open
open_read : (s : Stand) → is_read s ≡ true → is_open s ≡ true
open_read (Open j) read = refl
open_read (Ended outcome given) read = cc read

-- the rest of what the turn of a part leaves
module _ (old : DeviceTold) (new : DeviceTold) (clock_new : Clock) where
  first_reads : (p : Part) → Works p old new clock_new → is_read old.stand ≡ true → PartReads old.first new.first
  first_reads First works read = part_turned old.ops old.first new.first (subst (λ (n : ℕ). PartTurns false old.ops n old.first new.first) (works.read read).0 works.part)
  first_reads Second works read = part_same old.first new.first (ap (λ (d : DeviceTold). d.first) works.only)

  second_reads : (p : Part) → Works p old new clock_new → is_read old.stand ≡ true → PartReads old.second new.second
  second_reads First works read = part_same old.second new.second (ap (λ (d : DeviceTold). d.second) works.only)
  second_reads Second works read = part_turned old.ops old.second new.second (subst (λ (n : ℕ). PartTurns false old.ops n old.second new.second) (works.read read).0 works.part)

  works_fixed : (p : Part) → Works p old new clock_new → new.fixed ≡ old.fixed
  works_fixed First works = ap (λ (d : DeviceTold). d.fixed) works.only
  works_fixed Second works = ap (λ (d : DeviceTold). d.fixed) works.only

  works_started : (p : Part) → Works p old new clock_new → new.started ≡ old.started
  works_started First works = ap (λ (d : DeviceTold). d.started) works.only
  works_started Second works = ap (λ (d : DeviceTold). d.started) works.only

  works_starts : (p : Part) → Works p old new clock_new → new.starts ≡ old.starts
  works_starts First works = ap (λ (d : DeviceTold). d.starts) works.only
  works_starts Second works = ap (λ (d : DeviceTold). d.starts) works.only

  works_tells : (p : Part) → Works p old new clock_new → new.tells ≡ old.tells
  works_tells First works = ap (λ (d : DeviceTold). d.tells) works.only
  works_tells Second works = ap (λ (d : DeviceTold). d.tells) works.only

  -- a fault of it is one since the device was as it was once
  has_fault : (p : Part) (begun : DeviceTold) → IsUp begun old → Rose (part_at p old).faults (part_at p new).faults → HasFault begun new
  has_fault First begun up rose = inl (rose_since begun.first.faults old.first.faults new.first.faults up.restarted.first.faults.faults rose)
  has_fault Second begun up rose = inr (rose_since begun.second.faults old.second.faults new.second.faults up.restarted.second.faults.faults rose)

  pub works_on : (p : Part) (clock : Clock) → Works p old new clock_new → is_read old.stand ≡ true → Stays old clock new clock_new
      → StaysDown old clock new clock_new → Lasts old clock new clock_new → ReadsOn old clock new clock_new
  works_on p clock works read stays down lasts =
      let marks : KeepsAll old new = keeps_same old.fixed.numbers old.slots new.slots (works.read read).1 in
      record {
        fixed = works_fixed p works;
        marks = marks;
        ops = (works.read read).0;
        up = λ begun is. up_more begun old new (works_fixed p works) (works.read read).0 (works_starts p works) (works_tells p works) (works_started p works) (first_reads p works read) (second_reads p works read) marks is;
        left = λ once begun is was. elim works.nearer [
          | inl nearer ↦ elim was [
            | inl one ↦ inl (let most = count_open old.stand true (open_read old.stand read) in omega (arith, nearer, one, most))
            | inr fault ↦ inr (fault_on begun old new lasts.faults fault)
          ]
          | inr rose ↦ inr (has_fault p begun is rose)
        ];
        stays = stays;
        down = down;
        lasts = lasts;
      }

-- the turn worked on the read
part_off : (p : Part) (d : DeviceTold) → d.first.off ≡ false → d.second.off ≡ false → (part_at p d).off ≡ false
part_off First d first second = first
part_off Second d first second = second

read_open : (s : Stand) (j : Job) → s ≡ Open j → j.mark ≡ None → is_read s ≡ true
read_open s j is none = rw (is, none) refl

module _ (number size : ℕ) (begun : DeviceTold) (clock_begun : Clock) (old : DeviceTold) (clock : Clock) (new : DeviceTold) (clock_new : Clock)
    (so : IsReading number size begun clock_begun old clock) (configured : length_of begun.fixed.numbers number ≡ Some size)
    (j : Job) (is : old.stand ≡ Open j) where
  job_is : (j.number ≡ number) × (j.mark ≡ None)
  job_is = subst (λ (s : Stand). StandsAs number size begun old s) is so.stand

  is_reading : is_read old.stand ≡ true
  is_reading = read_open old.stand j is job_is.1

  busy : nothing_open old ≡ false
  busy = rw is refl

  pub worked : (answer : DeviceTurn) → Turns answer old clock new clock_new → (p : Part) × Works p old new clock_new × (answer ≡ turn.Worked)
  worked turn.Idle turns = absurd (not_both (nothing_open old) busy turns.0.0)
  worked turn.Worked turns = (turns.0.1.0, turns.0.1.1, refl)
  worked turn.Off turns = elim turns.0.1.1 [
    | inl off ↦ absurd (not_both (part_at turns.0.1.0 old).off (part_off turns.0.1.0 old so.first_on so.second_on) off.0)
    | inr cut ↦ absurd (not_both (is_read old.stand) cut.0.no_read is_reading)
  ]

  stays_by : TurnsKeep turn.Worked old clock new clock_new → Stays old clock new clock_new
  stays_by keeps =
      let none : settled_by old.stand new.stand (device.ops_of new) ≡ None =
      ap (λ (s : Stand). settled_by s new.stand (device.ops_of new)) is ∙ none_settled j new.stand (device.ops_of new) job_is.1 in
      subst (λ (e : Option Entry). StaysBy e old clock new clock_new) none keeps

  -- where the job stands behind it
  turned_to : (p : Part) (b : Stand) → Works p old new clock_new → JobTurns p (Open j) b old new clock_new → StandsAs number size begun new b
  turned_to p (Open k) works turns = (ap (λ (x : Job). x.number) turns.0 ∙ job_is.0, ap (λ (x : Job). x.mark) turns.0 ∙ job_is.1)
  turned_to p (Ended outcome given) works turns =
      let ends : EndsAs None number outcome given old new =
      subst (λ (n : ℕ). EndsAs None n outcome given old new) job_is.0 (subst (λ (m : Option Mark). EndsAs m j.number outcome given old new) job_is.1 turns.0) in
      let fixed = so.reads.fixed in
      record {
        held = reads_at number old.slots new.slots outcome given old new (works.read is_reading).1 (works_fixed old new clock_new p works) ends.0;
        gives = subst (λ (n : Option ℕ). Gives outcome n given) (ap (λ (f : Fixed). length_of f.numbers number) fixed ∙ configured) ends.1;
        fault = λ failed first up. elim (turns.1 failed) [
          | inl rose ↦ has_fault old new clock_new p first (so.reads.up first up) rose
          | inr worn ↦ absurd (worn.0 job_is.1)
        ];
      }

  pub goes_on : (answer : DeviceTurn) → Turns answer old clock new clock_new → IsReading number size begun clock_begun new clock_new
  goes_on answer turns =
      let (p, works, work) = worked answer turns in
      let stays = stays_by (subst (λ (a : DeviceTurn). TurnsKeep a old clock new clock_new) work (turn_keeps old clock new clock_new answer turns)) in
      let down = turn_down old clock new clock_new answer turns is_reading in
      record {
        started = works_started old new clock_new p works ∙ so.started;
        first_on = (first_reads old new clock_new p works is_reading).off ∙ so.first_on;
        second_on = (second_reads old new clock_new p works is_reading).off ∙ so.second_on;
        reads = reads_more begun clock_begun old clock new clock_new so.reads (works_on old new clock_new p clock works is_reading stays down (turn_lasts answer old clock new clock_new turns).0);
        stand = turned_to p new.stand works (subst (λ (s : Stand). JobTurns p s new.stand old new clock_new) is works.job);
      }

  left_at : (p : Part) (b : Stand) → new.stand ≡ b → JobTurns p (Open j) b old new clock_new → reading_left new < old.left + 1
  left_at p (Open k) now turns = rw now (omega (arith, turns.2))
  left_at p (Ended outcome given) now turns = rw now (omega arith)

  pub nearer : (answer : DeviceTurn) → Turns answer old clock new clock_new → reading_left new < reading_left old
  nearer answer turns =
      let (p, works, work) = worked answer turns in
      let less : reading_left new < old.left + 1 =
      left_at p new.stand refl (subst (λ (s : Stand). JobTurns p s new.stand old new clock_new) is works.job) in
      rw is less

-- the same of a job that is known to be open
open_job : (s : Stand) → is_open s ≡ true → (j : Job) × (s ≡ Open j)
open_job (Open j) on = (j, refl)
open_job (Ended outcome given) on = cc

pub turns_on : (number size : ℕ) (begun : DeviceTold) (clock_begun : Clock) (old : DeviceTold) (clock : Clock) (new : DeviceTold) (clock_new : Clock)
    → IsReading number size begun clock_begun old clock → length_of begun.fixed.numbers number ≡ Some size → is_open old.stand ≡ true
    → (answer : DeviceTurn) → Turns answer old clock new clock_new → IsReading number size begun clock_begun new clock_new
turns_on number size begun clock_begun old clock new clock_new so configured on =
    let (j, is) = open_job old.stand on in
    goes_on number size begun clock_begun old clock new clock_new so configured j is

-- ITS END
ended_is : (number size : ℕ) (old new : DeviceTold) (s : Stand) → is_open s ≡ false → StandsAs number size old new s
    → ReadComesTo number size old (device.result_of s) (device.given_by s) new
ended_is number size old new (Open j) off stands = cc
ended_is number size old new (Ended outcome given) off stands = stands

pub ends : (number size : ℕ) (old : DeviceTold) (clock : Clock) (new : DeviceTold) (clock_new : Clock) (outcome : JobResult)
    → IsReading number size old clock new clock_new → is_open new.stand ≡ false → outcome ≡ device.result_of new.stand
    → ReadComesTo number size old outcome (device.given_by new.stand) new
ends number size old clock new clock_new outcome so off is = subst (λ (r : JobResult). ReadComesTo number size old r (device.given_by new.stand) new) (sym is)
    (ended_is number size old new new.stand off so.stand)

-- START-UPS
pub starts_last : (answer : Result (Unit {0}) StartFault) (old : DeviceTold) (clock : Clock) (new : DeviceTold) (clock_new : Clock)
    → StartsUp answer old clock new clock_new → Lasts old clock new clock_new
starts_last answer old clock new clock_new up = still_lasts old clock new clock_new (ap (λ (d : DeviceTold). d.ops) up.only) up.first.faults.faults up.second.faults.faults up.clock_stays.same

pub restarts : (answer : Result (Unit {0}) StartFault) (old : DeviceTold) (clock : Clock) (new : DeviceTold) (clock_new : Clock)
    → StartsUp answer old clock new clock_new → IsRestarted old new
restarts answer old clock new clock_new up = record {
  fixed = ap (λ (d : DeviceTold). d.fixed) up.only;
  ops = ap (λ (d : DeviceTold). d.ops) up.only;
  starts = ap (λ (d : DeviceTold). d.starts) up.only;
  tells = ap (λ (d : DeviceTold). d.tells) up.only;
  first = up.first;
  second = up.second;
  marks = up.marks;
}

-- behind one that answered Ok a device is up, and ready for reads
pub comes_up : (old : DeviceTold) (clock : Clock) (new : DeviceTold) (clock_new : Clock) → StartsUp (Ok tt) old clock new clock_new
    → IsUp old new × IsReady new
comes_up old clock new clock_new up = (
  record {
    restarted = restarts (Ok tt) old clock new clock_new up;
    started = up.comes_to.0;
    first_on = up.comes_to.1;
    second_on = up.comes_to.2;
    settled = up.comes_to.3;
  },
  record {
    started = up.comes_to.0;
    first_on = up.comes_to.1;
    second_on = up.comes_to.2;
    at_rest = ap (λ (d : DeviceTold). is_open d.stand) up.only;
  },
)
