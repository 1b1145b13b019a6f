-- The calls of a device, each with what it keeps.
use Rattle.std.specs.Prelude.{◌==◌, is_none}
use Rattle.std.specs.List.{Contains}
use Rattle.std.proofs.Common.{◌≡◌, ◌⊎◌, ◌<◌, ℕ, Bool, true, false, if◌then◌else◌, List, [], ◌∷◌, ◌++◌, Option, Some, None, Result, Ok, ◌≤◌}
use Rattle.std.proofs.Common.{Err, refl, sym, ap, ◌∙◌, subst, inl, inr, arith}
use Rattle.std.proofs.lemmas.Bool.{cases_Bool}
use Rattle.block_machine.specs.nv_base.Count.{next_count, last_count}
use Rattle.block_machine.specs.nv_base.Marks.{instance_of}
use Rattle.block_machine.specs.nv_base.declared.instance.DeviceNumber.{DeviceNumber}
use Rattle.block_machine.specs.block_config.Lengths.{lengths_of}
use Rattle.memif.specs.declared.answer.DeviceRefusal.{DeviceRefusal}
use Rattle.memif.specs.declared.answer.DeviceRefusal.TheVariants.{Busy, Uninit}
use Rattle.memif.specs.declared.answer.DeviceTurn.{DeviceTurn}
use Rattle.memif.specs.declared.answer.DeviceTurn.TheVariants as turn
use Rattle.memif.specs.declared.answer.JobResult.{JobResult}
use Rattle.memif.specs.declared.answer.JobResult.TheVariants.{JobOk, JobFailed}
use Rattle.memif.specs.declared.answer.StartFault.{StartFault}
use Rattle.memif.specs.Told as device
use Rattle.memif.specs.Told.{DeviceTold, PartTold, Slot, Held, Part, First, Second, Stand, Job, Open, Ended, is_open, slot_at, length_of, plans, armed, part_at}
use Rattle.memif.specs.Marks.{Keeps as KeepsSlot, KeepsAll, Settles, IfTold}
use Rattle.memif.specs.Clock.{Clock, SameClock, After, ArePossible, Ticks}
use Rattle.memif.specs.Calls.{Wish, Accepts, Arms, Cancels, Opens, IsCanceled, ClockStays, StartsUp, Turns, PartTurns, Works, IsCut, JobTurns, EndsAs, is_read, refusal_of, length_refusal}
use Rattle.block_machine.specs.Words.{Instance, Mark, Entry, Wrote, Off, Found, Configuration}
use Rattle.block_machine.specs.StartUp.{listed_mark}
use Rattle.block_machine.specs.Steps.{step, after}
use Rattle.block_machine.specs.Legal.{IsAllowed}
use Rattle.promise_blocks.specs.Counts.{count_due}
use Rattle.promise_blocks.specs.OverDevice.{HasStarted}
use Rattle.nvm_device_laws.specs.Pairing.{Allows, Agrees, Pairs, IsStaged, IsFor}
use Rattle.nvm_device_laws.specs.Turn.{Keeps, Stays, StartsStay, StaysWith, StaysBy, settled_by, TurnsKeep, TellsSlots, ListsSettled, down, StartUpsKeep}
use Rattle.nvm_device_laws.proofs.Pairings as pairs
use Rattle.nvm_device_laws.proofs.Writes.{due_plain, found_plain, due_wrote, due_other, found_wrote, due_found, found_found}
use Rattle.nvm_device_laws.proofs.Pushed.{FindsPossible, Goes, base_called, begins_push, begins_with, off_before, off_now}
use Rattle.nvm_device_laws.proofs.Called.{call_keeps, call_with, still}

-- each slot keeps what it is
pub keeps_same : (numbers : List (DeviceNumber × ℕ)) (o n : Option (List Slot)) → n ≡ o
    → IfTold o n (λ u v. (i : ℕ) → KeepsSlot (slot_at numbers u i) (slot_at numbers v i))
keeps_same numbers (Some u) n same = rw same (λ i. record { settled = refl; doubts = λ h has. has })
keeps_same numbers None n same = rw same tt

-- a plan changes nothing else
record IsArmed (old new : DeviceTold) : Type 0 where
  fixed : new.fixed ≡ old.fixed
  slots : new.slots ≡ old.slots
  started : new.started ≡ old.started
  ops : new.ops ≡ old.ops
  faults : (p : Part) → (part_at p new).faults ≡ (part_at p old).faults

armed_by : (first second : Bool) (nth keep : ℕ) (d : DeviceTold)
    → IsArmed d (if first then record d { first = plans nth keep d.first } else
    (if second then record d { second = plans nth keep d.second } else d))
armed_by true second nth keep d = record { fixed = refl; slots = refl; started = refl; ops = refl; faults = elim [ First ↦ refl | Second ↦ refl ] }
armed_by false true nth keep d = record { fixed = refl; slots = refl; started = refl; ops = refl; faults = elim [ First ↦ refl | Second ↦ refl ] }
armed_by false false nth keep d = record { fixed = refl; slots = refl; started = refl; ops = refl; faults = elim [ First ↦ refl | Second ↦ refl ] }

armed_is : (which nth keep : ℕ) (d : DeviceTold) → IsArmed d (armed which nth keep d)
armed_is which nth keep d = armed_by (which == 0) (which == 1) nth keep d

-- a start-up lists what is found of a number
abbrev listed_at : List (Instance × Mark) → DeviceNumber × ℕ → (ℕ → Held) → Type 0
listed_at l x held = listed_mark l (instance_of x.0) ≡ (held x.0.0).mark

-- a device whose start-up is taken for one that failed is for the same configuration
pub up_for : (c : Configuration) (d : DeviceTold) → IsFor c (down d) → IsFor c d
up_for c d is = record { rules = is.rules; numbers = is.numbers; parts = is.parts }

-- what a call does as far as a history looks doesn't depend on whether the device counts as started
pub goes_with : (a b : Bool) {old : DeviceTold} {clock : Clock} {new : DeviceTold} {clock_new : Clock} → Goes old clock new clock_new
    → Goes (record old { started = a }) clock (record new { started = b }) clock_new
goes_with a b goes = record {
  fixed = goes.fixed;
  ops = goes.ops;
  few = goes.few;
  faults = elim [ First ↦ goes.faults First | Second ↦ goes.faults Second ];
  past = goes.past;
  cut = goes.cut;
  finds = goes.finds;
}

module _ (old : DeviceTold) (clock : Clock) (new : DeviceTold) (clock_new : Clock) where
  -- nothing changed
  pub goes_same : new ≡ old → SameClock clock clock_new
      → FindsPossible new clock_new → Goes old clock new clock_new
  goes_same same clocks finds = still old clock new clock_new (ap (λ (d : DeviceTold). d.fixed) same)
      (ap (λ (d : DeviceTold). d.ops) same)
      (λ p. let f = ap (λ (d : DeviceTold). (part_at p d).faults) same in omega (arith, f)) clocks finds

  stays_same : new ≡ old → SameClock clock clock_new
      → FindsPossible new clock_new → Stays old clock new clock_new
  stays_same same clocks finds c cap h before started keeps told =
      let slots : new.slots ≡ old.slots = ap (λ (d : DeviceTold). d.slots) same in
      call_keeps c cap h before old clock new clock_new keeps (goes_same same clocks finds)
      (inl started) (λ k off. (clocks.off_in k).0 off)
      (λ has. subst (λ (o : Option (List Slot)). Pairs Allows c (after c h) (count_due h keeps.base) old.fixed.numbers o) (sym slots) (keeps.marks has))
      (λ has up. subst (λ (o : Option (List Slot)). Pairs Agrees c (after c h) (count_due h keeps.base) old.fixed.numbers o) (sym slots)
      (keeps.settled has (ap (λ (d : DeviceTold). d.started) (sym same) ∙ up)))

  -- THE START OF A JOB
  -- a job is taken only once a start-up answered Ok
  started_at : (d : DeviceTold) (number : ℕ) (size : Option ℕ) → refusal_of d number size ≡ None → d.started ≡ true
  started_at d number size none = started_if (is_open d.stand) d.started (length_refusal size (length_of d.fixed.numbers number)) none
    where
      started_if : (shut on : Bool) (rest : Option DeviceRefusal) → (if shut then Some Busy else (if on then rest else Some Uninit)) ≡ None → on ≡ true
      started_if true on rest is = cc is
      started_if false true rest is = refl
      started_if false false rest is = cc is

  faults_opened : (j : Job) → Opens j old new → (p : Part) → (part_at p new).faults ≡ (part_at p old).faults
  faults_opened j opens First = ap (λ (d : DeviceTold). d.first.faults) opens.only
  faults_opened j opens Second = ap (λ (d : DeviceTold). d.second.faults) opens.only

  pub goes_opened : (j : Job) → Opens j old new → ClockStays clock new clock_new → Goes old clock new clock_new
  goes_opened j opens stays = still old clock new clock_new (ap (λ (d : DeviceTold). d.fixed) opens.only)
      (ap (λ (d : DeviceTold). d.ops) opens.only)
      (λ p. let f = faults_opened j opens p in omega (arith, f)) stays.same
      (λ held. stays.order.now held)

  pub start_stays : (w : Wish) (answer : Result (Unit {0}) DeviceRefusal) → Accepts w answer old clock new clock_new
      → StartsStay w old clock new clock_new
  start_stays w (Err refusal) accepts c cap h before started staged keeps told = stays_same accepts.0.1 accepts.1.same
      (λ held. accepts.1.order.now held) c cap h before started keeps told
  start_stays w (Ok u) accepts c cap h before started staged keeps told =
      let opens = accepts.0.1 in
      call_keeps c cap h before old clock new clock_new keeps (goes_opened w.job opens accepts.1)
      (inl started) (λ k off. (accepts.1.same.off_in k).0 off)
      (λ has. pairs.pairs_more c (after c h) (count_due h keeps.base) old.fixed.numbers Agrees Allows pairs.agrees_allow new.slots (agrees has))
      (λ has up. agrees has)
    where
      agrees : HasStarted h → Pairs Agrees c (after c h) (count_due h keeps.base) old.fixed.numbers new.slots
      agrees has = pairs.agrees_started c (after c h) (count_due h keeps.base) old new w.job.number w.job.mark staged told accepts.0.1.marks
          (keeps.settled has (started_at old w.job.number w.length accepts.0.0))

  pub read_stays : (w : Wish) (answer : Result (Unit {0}) DeviceRefusal) → w.job.mark ≡ None
      → Accepts w answer old clock new clock_new → Stays old clock new clock_new
  read_stays w answer none accepts c cap h before started keeps told =
      start_stays w answer accepts c cap h before started
      (subst (λ (o : Option Mark). IsStaged c (after c h) w.job.number o) (sym none) tt) keeps told

  -- A CANCEL
  faults_canceled : IsCanceled old new → (p : Part) → (part_at p new).faults ≡ (part_at p old).faults
  faults_canceled is First = ap (λ (d : DeviceTold). d.first.faults) is.only
  faults_canceled is Second = ap (λ (d : DeviceTold). d.second.faults) is.only

  pub goes_canceled : Cancels old clock new clock_new → Goes old clock new clock_new
  goes_canceled cancels = elim (cases_Bool (is_open old.stand)) [
    | inl on ↦
        let is : IsCanceled old new = rw on at cancels.0 in
        still old clock new clock_new (ap (λ (d : DeviceTold). d.fixed) is.only)
        (ap (λ (d : DeviceTold). d.ops) is.only) (λ p. let f = faults_canceled is p in omega (arith, f))
        cancels.1.same (λ held. cancels.1.order.now held)
    | inr off ↦ let same : new ≡ old = rw off at cancels.0 in goes_same same cancels.1.same (λ held. cancels.1.order.now held)
  ]

  pub cancel_stays : Cancels old clock new clock_new → Stays old clock new clock_new
  cancel_stays cancels c cap h before started keeps told = elim (cases_Bool (is_open old.stand)) [
    | inl on ↦
        let is : IsCanceled old new = rw on at cancels.0 in
        call_keeps c cap h before old clock new clock_new keeps (goes_canceled cancels)
        (inl started) (λ k off. (cancels.1.same.off_in k).0 off)
        (λ has. pairs.allows_keep c (after c h) (count_due h keeps.base) old.fixed.numbers old.slots new.slots told is.marks (keeps.marks has))
        (λ has up. pairs.agrees_keep c (after c h) (count_due h keeps.base) old.fixed.numbers old.slots new.slots told is.marks
        (keeps.settled has (ap (λ (d : DeviceTold). d.started) (sym is.only) ∙ up)))
    | inr off ↦
        let same : new ≡ old = rw off at cancels.0 in
        stays_same same cancels.1.same (λ held. cancels.1.order.now held) c cap h before started keeps told
  ]

  -- A START-UP
  module _ (answer : Result (Unit {0}) StartFault) (up : StartsUp answer old clock new clock_new) where
    pub up_ops : new.ops ≡ old.ops
    up_ops = ap (λ (d : DeviceTold). d.ops) up.only

    faults_up : (p : Part) → (part_at p old).faults ≤ (part_at p new).faults
    faults_up First = up.first.faults.faults
    faults_up Second = up.second.faults.faults

    pub goes_up : Goes old clock new clock_new
    goes_up = still old clock new clock_new (ap (λ (d : DeviceTold). d.fixed) up.only) up_ops faults_up
        up.clock_stays.same (λ held. up.clock_stays.order.now held)

  pub not_both : (b : Bool) → b ≡ false → b ≡ true → ⊥
  not_both b off on = cc

  same_ops : (n m : ℕ) → Some n ≡ Some m → n ≡ m
  same_ops n m is = cc is

  lists_found : (marks other : List (Instance × Mark)) (n m : ℕ) → Found marks n ≡ Found other m → (marks ≡ other) × (n ≡ m)
  lists_found marks other n m is = (cc, cc)

  pub start_up_keeps : (answer : Result (Unit {0}) StartFault) → StartsUp answer old clock new clock_new
      → StartUpsKeep answer old clock new clock_new
  start_up_keeps (Err fault) up = λ c cap h before keeps told.
      call_keeps c cap h before (down old) clock new clock_new keeps
      (goes_with false new.started (goes_up (Err fault) up))
      (inr (up_ops (Err fault) up)) (λ k off. (up.clock_stays.same.off_in k).0 off)
      (λ has. pairs.allows_come c (after c h) (count_due h keeps.base) old.fixed.numbers old.slots new.slots told up.marks (keeps.marks has))
      (λ has on. absurd (not_both new.started up.comes_to.0 on))
  start_up_keeps (Ok u) up = λ c cap h before marks first allowed lists keeps.
      let fixed : new.fixed ≡ old.fixed = ap (λ (d : DeviceTold). d.fixed) up.only in
      let e : Entry = Found marks (device.ops_of new) in
      let goes = goes_up (Ok u) up in
      let listed : ListsSettled c marks old.fixed.numbers new.slots = subst
      (λ (f : device.Fixed). ListsSettled c marks f.numbers new.slots) fixed lists in
      let base = pairs.settled_counts old.fixed.numbers new.slots in
      let agrees : Pairs Agrees c (step c (after c h) e) (count_due (h ++ e ∷ []) base) old.fixed.numbers new.slots =
      pairs.pairs_due Agrees c (step c (after c h) e) base (count_due (h ++ e ∷ []) base) old.fixed.numbers (due_found h marks (device.ops_of new) base) new.slots
      (pairs.agrees_listed c (after c h) old.fixed.numbers marks (device.ops_of new) old.slots new.slots up.comes_to.3 listed) in
      let settled : (ops : ℕ) (held : ℕ → Held) → ops ≡ device.ops_of new → ops < last_count → clock_new.may_find (After ops) held
      → (x : DeviceNumber × ℕ) → Contains (lengths_of c) x → (listed_mark marks (instance_of x.0) ≡ (held x.0.0).mark) × ((held x.0.0).count ≡ base x.0.0) =
      λ ops held now small finds.
      let moment : ops ≡ new.ops = now in
      let possible : ArePossible old new.slots held =
      subst (λ (f : device.Fixed). ArePossible (record old { fixed = f }) new.slots held) fixed
      (goes.finds held (subst (λ (k : ℕ). clock_new.may_find (After k) held) moment finds)) in
      pairs.possible_settled c old marks held old.slots new.slots up.comes_to.3 possible listed in
      call_with c cap h before (down old) clock new clock_new keeps (goes_with false new.started goes) e
      (inr (up_ops (Ok u) up)) refl allowed (λ of s. refl)
      (begins_with h marks (device.ops_of new)
      first keeps.over.begins)
      (λ other ops held is small finds x has.
      let (same, now) = lists_found marks other (device.ops_of new) ops is in
      subst (λ (l : List (Instance × Mark)). listed_at l x held) same (settled ops held (sym now) small finds x has).0)
      (λ k off. off_before h e (next_count k) (keeps.over.off k ((up.clock_stays.same.off_in k).0 off)))
      base (λ ops held is small finds x has. (settled ops held (same_ops ops (device.ops_of new) (sym is ∙ found_found h marks (device.ops_of new))) small finds x has).1)
      (pairs.pairs_more c (step c (after c h) e) (count_due (h ++ e ∷ []) base) old.fixed.numbers Agrees Allows pairs.agrees_allow new.slots agrees)
      (λ on. agrees)

  -- A PLAN
  pub goes_armed : (which nth keep : ℕ) → Arms which nth keep old clock new clock_new → Goes old clock new clock_new
  goes_armed which nth keep arms =
      let is = armed_is which nth keep old in
      let fixed : new.fixed ≡ old.fixed = ap (λ (d : DeviceTold). d.fixed) arms.0 ∙ is.fixed in
      let faults : (p : Part) → (part_at p new).faults ≡ (part_at p old).faults = λ p. ap (λ (d : DeviceTold). (part_at p d).faults) arms.0 ∙ is.faults p in
      still old clock new clock_new fixed
      (ap (λ (d : DeviceTold). d.ops) arms.0 ∙ is.ops) (λ p. omega (arith, faults p)) arms.1.same (λ held. arms.1.order.now held)

  pub arm_stays : (which nth keep : ℕ) → Arms which nth keep old clock new clock_new → Stays old clock new clock_new
  arm_stays which nth keep arms c cap h before started keeps told =
      let is = armed_is which nth keep old in
      let slots : new.slots ≡ old.slots = ap (λ (d : DeviceTold). d.slots) arms.0 ∙ is.slots in
      call_keeps c cap h before old clock new clock_new keeps (goes_armed which nth keep arms)
      (inl started) (λ k off. (arms.1.same.off_in k).0 off)
      (λ has. subst (λ (o : Option (List Slot)). Pairs Allows c (after c h) (count_due h keeps.base) old.fixed.numbers o) (sym slots) (keeps.marks has))
      (λ has up. subst (λ (o : Option (List Slot)). Pairs Agrees c (after c h) (count_due h keeps.base) old.fixed.numbers o) (sym slots)
      (keeps.settled has (sym is.started ∙ sym (ap (λ (d : DeviceTold). d.started) arms.0) ∙ up)))

  -- A TURN
  -- a turn works on one part; the faults of the other stay
  faults_on : (p : Part) → (part_at p old).faults ≤ (part_at p new).faults → (rest : DeviceTold) → new ≡ rest
      → ((q : Part) → ((q ≡ p) ⊎ ((part_at q rest).faults ≡ (part_at q old).faults))) → (q : Part) → (part_at q old).faults ≤ (part_at q new).faults
  faults_on p grow rest same others q = elim (others q) [
    | inl is ↦ subst (λ (x : Part). (part_at x old).faults ≤ (part_at x new).faults) (sym is) grow
    | inr stay ↦ (let f = ap (λ (d : DeviceTold). (part_at q d).faults) same in omega (arith, f, stay))
  ]

  faults_worked : (p : Part) → Works p old new clock_new → (q : Part) → (part_at q old).faults ≤ (part_at q new).faults
  faults_worked First works = faults_on First works.part.faults.faults _ works.only (elim [ First ↦ inl refl | Second ↦ inr refl ])
  faults_worked Second works = faults_on Second works.part.faults.faults _ works.only (elim [ First ↦ inr refl | Second ↦ inl refl ])

  faults_cut : (p : Part) → IsCut p old new → (q : Part) → (part_at q old).faults ≤ (part_at q new).faults
  faults_cut First cut = faults_on First cut.part.faults.faults _ cut.only (elim [ First ↦ inl refl | Second ↦ inr refl ])
  faults_cut Second cut = faults_on Second cut.part.faults.faults _ cut.only (elim [ First ↦ inr refl | Second ↦ inl refl ])

  fixed_worked : (p : Part) → Works p old new clock_new → new.fixed ≡ old.fixed
  fixed_worked First works = ap (λ (d : DeviceTold). d.fixed) works.only
  fixed_worked Second works = ap (λ (d : DeviceTold). d.fixed) works.only

  fixed_cut : (p : Part) → IsCut p old new → new.fixed ≡ old.fixed
  fixed_cut First cut = ap (λ (d : DeviceTold). d.fixed) cut.only
  fixed_cut Second cut = ap (λ (d : DeviceTold). d.fixed) cut.only

  started_worked : (p : Part) → Works p old new clock_new → old.started ≡ new.started
  started_worked First works = ap (λ (d : DeviceTold). d.started) (sym works.only)
  started_worked Second works = ap (λ (d : DeviceTold). d.started) (sym works.only)

  started_cut : (p : Part) → IsCut p old new → old.started ≡ new.started
  started_cut First cut = ap (λ (d : DeviceTold). d.started) (sym cut.only)
  started_cut Second cut = ap (λ (d : DeviceTold). d.started) (sym cut.only)

  goes_turned : {off : Bool} {answer : DeviceTurn} (p : Part) → new.fixed ≡ old.fixed → PartTurns off old.ops new.ops (part_at p old) (part_at p new)
      → ((q : Part) → (part_at q old).faults ≤ (part_at q new).faults) → Ticks p answer old clock new clock_new → FindsPossible new clock_new
      → Goes old clock new clock_new
  goes_turned p fixed part faults ticks finds = record {
    fixed = fixed;
    ops = part.later;
    few = λ small. elim part.one [ inl same ↦ omega (arith, same, small) | inr one ↦ omega (arith, one) ];
    faults = faults;
    past = ticks.past;
    cut = ticks.cut;
    finds = finds;
  }

  pub goes_worked : (p : Part) → Works p old new clock_new → Ticks p turn.Worked old clock new clock_new → FindsPossible new clock_new → Goes old clock new clock_new
  goes_worked p works ticks finds = goes_turned p (fixed_worked p works) works.part (faults_worked p works) ticks finds

  pub goes_cut : (p : Part) → IsCut p old new → Ticks p turn.Off old clock new clock_new → FindsPossible new clock_new → Goes old clock new clock_new
  goes_cut p cut ticks finds = goes_turned p (fixed_cut p cut) cut.part (faults_cut p cut) ticks finds

  pub stays_off : (p : Part) → Ticks p turn.Worked old clock new clock_new → (k : ℕ) → clock_new.off_in k → clock.off_in k
  stays_off p ticks k off = elim (ticks.off k off) [ inl before ↦ before.0 | inr none ↦ absurd none ]

  no_found_wrote : (i : Instance) (mark : Mark) (n m : ℕ) (marks : List (Instance × Mark)) → Wrote i mark n ≡ Found marks m → ⊥
  no_found_wrote i mark n m marks is = cc

  no_found_off : (n m : ℕ) (marks : List (Instance × Mark)) → Off n ≡ Found marks m → ⊥
  no_found_off n m marks is = cc

  module _ (p : Part) (works : Works p old new clock_new) (ticks : Ticks p turn.Worked old clock new clock_new)
      (finds : FindsPossible new clock_new) where
    started_before : new.started ≡ true → old.started ≡ true
    started_before up = started_worked p works ∙ up

    -- no mark is settled
    keeps_on : KeepsAll old new → Stays old clock new clock_new
    keeps_on marks c cap h before started keeps told =
        call_keeps c cap h before old clock new clock_new keeps (goes_worked p works ticks finds)
        (inl started) (stays_off p ticks)
        (λ has. pairs.allows_keep c (after c h) (count_due h keeps.base) old.fixed.numbers old.slots new.slots told marks (keeps.marks has))
        (λ has up. pairs.agrees_keep c (after c h) (count_due h keeps.base) old.fixed.numbers old.slots new.slots told marks (keeps.settled has (started_before up)))

    -- a mark is
    settles_on : (number : ℕ) (mark : Mark) → Settles number mark old new
        → StaysWith (Wrote (instance_of (record { 0 = number })) mark (device.ops_of new)) old clock new clock_new
    settles_on number mark marks c cap h before started allowed keeps told =
        let e : Entry = Wrote (instance_of (record { 0 = number })) mark (device.ops_of new) in
        call_with c cap h before old clock new clock_new keeps (goes_worked p works ticks finds) e
        (inl started) refl allowed (λ of s. refl)
        (begins_push h e started keeps.over.begins)
        (λ other ops held is. absurd
        (no_found_wrote (instance_of (record { 0 = number })) mark (device.ops_of new) ops other is))
        (λ k off. off_before h e (next_count k) (keeps.over.off k (stays_off p ticks k off)))
        keeps.base
        (λ ops found is small was. base_called c cap h before old clock new clock_new keeps (goes_worked p works ticks finds) ops found
        (sym (found_wrote h (instance_of (record { 0 = number })) mark (device.ops_of new)) ∙ is) small was)
        (pairs.pairs_more c (step c (after c h) e) due old.fixed.numbers Agrees Allows pairs.agrees_allow new.slots agrees)
        (λ up. agrees)
      where
        due : ℕ → ℕ
        due = count_due (h ++ Wrote (instance_of (record { 0 = number })) mark (device.ops_of new) ∷ []) keeps.base

        agrees : Pairs Agrees c (step c (after c h) (Wrote (instance_of (record { 0 = number })) mark (device.ops_of new))) due old.fixed.numbers new.slots
        agrees = pairs.agrees_wrote c cap (after c h) (count_due h keeps.base) old.fixed.numbers number mark (device.ops_of new) due
            (λ i same. due_wrote h (instance_of (record { 0 = number })) mark (device.ops_of new) keeps.base i (pairs.same_number i number same))
            (λ i other. due_other h (instance_of (record { 0 = number })) mark (device.ops_of new) keeps.base i (pairs.other_number i number other))
            allowed old.slots new.slots told marks (keeps.settled started works.up)

    ended : (j : Job) (mark : Option Mark) (r : JobResult) (given : List ℕ) → EndsAs mark j.number r given old new
        → (is_none mark ≡ true → new.slots ≡ old.slots)
        → StaysBy (settled_by (Open (record j { mark = mark })) (Ended r given) (device.ops_of new)) old clock new clock_new
    ended j None JobOk given ends same = keeps_on (keeps_same old.fixed.numbers old.slots new.slots (same refl))
    ended j None r given ends same = keeps_on (keeps_same old.fixed.numbers old.slots new.slots (same refl))
    ended j (Some mark) JobOk given ends same = settles_on j.number mark ends.0
    ended j (Some mark) JobFailed given ends same = keeps_on ends.0
    ended j (Some mark) r given ends same = absurd ends.0

    worked : (a b : Stand) → JobTurns p a b old new clock_new → (is_read a ≡ true → new.slots ≡ old.slots)
        → StaysBy (settled_by a b (device.ops_of new)) old clock new clock_new
    worked (Open j) (Open j') turns same = keeps_on turns.1
    worked (Open j) (Ended r given) turns same = ended j j.mark r given turns.0 same
    worked (Ended r given) b turns same = keeps_on turns.1

  by_part : (p : Part) → Works p old new clock_new → Ticks p turn.Worked old clock new clock_new
      → FindsPossible new clock_new
      → StaysBy (settled_by old.stand new.stand (device.ops_of new)) old clock new clock_new
  by_part p works ticks finds = worked p works ticks finds old.stand new.stand works.job (λ is. (works.read is).1)

  none_settled : (a : Stand) (ops : ℕ) → settled_by a a ops ≡ None
  none_settled (Open j) ops = refl
  none_settled (Ended r given) ops = refl

  -- THE POWER IS OFF
  off_with : (c : Configuration) (cap : ℕ) (h : List Entry) (before : Part → PartTold) → HasStarted h
      → IsAllowed c cap (after c h) (Off (device.ops_of new)) → Keeps c cap h before old clock
      → Goes old clock new clock_new
      → ((k : ℕ) → clock_new.off_in k → clock.off_in k ⊎ (device.ops_of new ≡ next_count k))
      → KeepsAll old new → (new.started ≡ true → old.started ≡ true) → TellsSlots new
      → Keeps c cap (h ++ Off (device.ops_of new) ∷ []) before new clock_new
  off_with c cap h before started allowed keeps goes off marks up told =
      let e : Entry = Off (device.ops_of new) in
      call_with c cap h before old clock new clock_new keeps goes e (inl started) refl allowed (λ of s. refl)
      (begins_push h e started keeps.over.begins) (λ other ops held is. absurd (no_found_off (device.ops_of new) ops other is))
      (λ k is. elim (off k is) [
        | inl earlier ↦ off_before h e (next_count k) (keeps.over.off k earlier)
        | inr now ↦
            off_now h (device.ops_of new) (next_count k) now
      ])
      keeps.base (λ ops found is small was. base_called c cap h before old clock new clock_new keeps goes ops found (sym (found_plain h e refl) ∙ is) small was)
      (pairs.pairs_due Allows c (step c (after c h) e) (count_due h keeps.base) (count_due (h ++ e ∷ []) keeps.base) old.fixed.numbers (λ n. due_plain h e keeps.base n refl) new.slots
      (pairs.allows_entry c cap (after c h) (count_due h keeps.base) old.fixed.numbers e refl allowed new.slots
      (pairs.allows_keep c (after c h) (count_due h keeps.base) old.fixed.numbers old.slots new.slots told marks (keeps.marks started))))
      (λ on. pairs.pairs_due Agrees c (step c (after c h) e) (count_due h keeps.base) (count_due (h ++ e ∷ []) keeps.base) old.fixed.numbers (λ n. due_plain h e keeps.base n refl) new.slots
      (pairs.agrees_entry c cap (after c h) (count_due h keeps.base) old.fixed.numbers e refl allowed new.slots
      (pairs.agrees_keep c (after c h) (count_due h keeps.base) old.fixed.numbers old.slots new.slots told marks (keeps.settled started (up on)))))

  cut_with : (p : Part) → IsCut p old new → Ticks p turn.Off old clock new clock_new
      → FindsPossible new clock_new
      → StaysWith (Off (device.ops_of new)) old clock new clock_new
  cut_with p cut ticks finds c cap h before started allowed keeps told =
      off_with c cap h before started allowed keeps (goes_cut p cut ticks finds)
      (λ k off. elim (ticks.off k off) [
        | inl before ↦ inl before.0
        | inr now ↦ inr (elim cut.part.one [
          | inl same ↦ absurd (omega (arith, now.0, now.1, same))
          | inr one ↦ omega (arith, now.0, one)
        ])
      ])
      cut.marks (λ up. started_cut p cut ∙ up) told

  pub turn_keeps : (answer : DeviceTurn) → Turns answer old clock new clock_new → TurnsKeep answer old clock new clock_new
  turn_keeps turn.Idle turns =
      let same : new ≡ old = turns.0.1 in
      let none : settled_by old.stand new.stand (device.ops_of new) ≡ None = ap
      (λ (d : DeviceTold). settled_by old.stand d.stand (device.ops_of new)) same
      ∙ none_settled old.stand (device.ops_of new) in
      subst (λ (e : Option Entry). StaysBy e old clock new clock_new) (sym none)
      (stays_same same turns.0.2 (λ held. turns.1.now held))
  turn_keeps turn.Worked turns = by_part turns.0.1.0 turns.0.1.1 turns.0.1.2 (λ held. turns.1.now held)
  turn_keeps turn.Off turns = elim turns.0.1.1 [
    | inl still_off ↦ (λ c cap h before started allowed keeps told.
        let same : new ≡ old = still_off.2 in
        off_with c cap h before started allowed keeps (goes_same same still_off.3 (λ held. turns.1.now held))
        (λ k off. inl ((still_off.3.off_in k).0 off))
        (keeps_same old.fixed.numbers old.slots new.slots (ap (λ (d : DeviceTold). d.slots) same))
        (λ up. ap (λ (d : DeviceTold). d.started) (sym same) ∙ up) told)
    | inr cut ↦ cut_with turns.0.1.0 cut.0 cut.1 (λ held. turns.1.now held)
  ]
