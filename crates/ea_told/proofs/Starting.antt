-- A start-up.
use Rattle.std.specs.Prelude.{IfSome}
use Rattle.std.proofs.Common.{◌≡◌, ◌⊎◌, inl, inr, ◌≤◌, ℕ, Bool, true, false, List, [], Option, Some, None, Result, Ok, Err, refl, sym, ap, ◌∙◌, subst, arith}
use Rattle.nv_base.specs.Count.{Rose, next_count, last_count, WereCounted}
use Rattle.nv_base.specs.Held.{Held, never_written}
use Rattle.nv_base.specs.declared.instance.DeviceNumber.{DeviceNumber}
use Rattle.memif.specs.declared.answer.JobResult.TheVariants.{JobOk}
use Rattle.memif.specs.declared.answer.StartFault.{StartFault}
use Rattle.memif.specs.Told.{Slot, no_slot, slot_at, Ended}
use Rattle.memif.specs.Marks.{IsPossible, ComesFrom, EachNumber}
use Rattle.memif.specs.Calls.{StartsUp, ComesUp, PowersUp, ClockStays}
use Rattle.fls_model.specs.Attach.{AreBytesOf}
use Rattle.fls_model.specs.Told.{Told, ToldBytes, bytes_now}
use Rattle.fls_jobs.specs.State.{FlsState}
use Rattle.fls_told.specs.Device.{FlashDevice, slot_with}
use Rattle.fls_told.specs.Clock.{MakesNone}
use Rattle.fls_told.specs.Runs.{HasRun, CountsCuts as RunCounts, CountsEachCut}
use Rattle.fls_told.specs.Tells.{IsSame}
use Rattle.fls_told.proofs.Clocks.{clocks_stay}
use Rattle.fls_told.proofs.Making.{runs_stay}
use Rattle.fls_told.proofs.Parts.{parts_power}
use Rattle.fls_told.proofs.Tells.{tells_start}
use Rattle.ea_image.specs.declared.memory.SlotMemory.{SlotMemory}
use Rattle.ea_image.specs.Memory.{HoldsSlots, memory_loaded}
use Rattle.ea_image.specs.Slots.{slot_bytes, found_at}
use Rattle.ea_image.proofs.Holds.{loaded_holds}
use Rattle.fls_told.proofs.Counted.{rose_next}
use Rattle.fls_told.proofs.ToldBytes.{each_told, told_at}
use Rattle.ea_told.specs.declared.state.SlotState.{SlotState}
use Rattle.ea_told.specs.Making.{Making, entry_of, at_entry}
use Rattle.ea_told.specs.Parts.{Parts}
use Rattle.ea_told.specs.Device.{state_at, slot_told, slots_in, flash_device, told_of, clock_of}
use Rattle.ea_told.specs.Inside.{HoldAll, StandAll, IsSound}
use Rattle.ea_told.specs.Laws.{PartsStart}
use Rattle.ea_told.specs.Start.{LoadsAll, started_as, StartsWith}
use Rattle.ea_told.proofs.Lists.{at_listed}
use Rattle.ea_told.proofs.Order.{order, now_possible}
use Rattle.ea_told.proofs.Passing.{counted_more, counted_next}
use Rattle.ea_told.proofs.Stepped.{at_same}

module _ (m : Making) (entry : Told) (s : Parts) (sound : IsSound m entry s) (f : FlsState) (states : List SlotState) (content : List ℕ) (with' : StartsWith s f states content) (up : Bool) (faults : ℕ) (more : s.fls.flash.faults ≤ f.flash.faults) (faults_are : (faults ≡ s.faults) ⊎ ((faults ≡ next_count s.faults) × Rose s.fls.flash.faults f.flash.faults))
    (loads : up ≡ true → IfSome (bytes_now s.fls.flash) (LoadsAll m states)) where
  abbrev t : Parts
  t = started_as s f states content up faults

  abbrev d : FlashDevice
  d = flash_device m entry s

  abbrev e : FlashDevice
  e = flash_device m entry t

  bytes : f.flash.bytes ≡ s.fls.flash.bytes
  bytes = ap (λ (x : Told). x.bytes) with'.flash

  now_same : bytes_now f.flash ≡ bytes_now s.fls.flash
  now_same = ap bytes_now with'.flash

  none : MakesNone d e
  none = record { reading = refl; entry = refl; operations = refl; bytes = now_same }

  worn_same : (n : ℕ) → e.worn n ≡ d.worn n
  worn_same n = at_same None (λ i x. (state_at states i).worn) (λ i x. (state_at s.states i).worn) (λ i x. with'.worn i) (entry_of m n)

  counted : (x : ℕ) → (x ≡ s.faults) ⊎ ((x ≡ next_count s.faults) × Rose s.fls.flash.faults f.flash.faults) → WereCounted x entry.faults f.flash.faults
  counted x (inl same) = subst (λ (n : ℕ). WereCounted n entry.faults f.flash.faults) (sym same) (counted_more s.faults entry.faults s.fls.flash.faults f.flash.faults more sound.run.faults)
  counted x (inr (same, rose)) = subst (λ (n : ℕ). WereCounted n entry.faults f.flash.faults) (sym same) (counted_next s.faults entry.faults s.fls.flash.faults f.flash.faults rose sound.run.faults)

  few_faults : (x : ℕ) → (x ≡ s.faults) ⊎ ((x ≡ next_count s.faults) × Rose s.fls.flash.faults f.flash.faults) → x ≤ last_count
  few_faults x (inl same) = (let few = sound.faults in omega (arith, same, few))
  few_faults x (inr (same, rose)) = omega (arith, same)

  cuts : RunCounts entry f.flash
  cuts n were = subst (λ (x : Told). WereCounted n entry.cuts x.cuts) (sym with'.flash) (sound.run.cuts n (subst (λ (x : Told). WereCounted n entry.planning.unplanned x.planning.unplanned) with'.flash were))

  run : HasRun e
  run = runs_stay d e sound.run (record {
    none = none;
    bytes = bytes;
    counts = (ap (λ (x : Told). x.ops) with'.flash, ap (λ (x : Told). x.cuts) with'.flash);
    came = (ap (λ (x : Told). x.planning.came) with'.flash, ap (λ (x : Told). x.planning.withheld) with'.flash);
    flash_faults = more;
    faults = counted faults faults_are;
    cuts = cuts;
    worn = λ n since is. inl (sym (worn_same n) ∙ is);
  })

  -- what is loaded holds
  loaded : (b : List ℕ) → bytes_now s.fls.flash ≡ Some b → up ≡ true → LoadsAll m states b
  loaded b now is = told_at s.fls.flash.bytes (LoadsAll m states) b now (loads is)

  hold_loaded : (b : List ℕ) → LoadsAll m states b → HoldAll m t b
  hold_loaded b all n i x at = subst (λ (w : SlotMemory). HoldsSlots m.geometry.page x.1 w (slot_bytes m.geometry b i)) (sym (all n i x at)) (loaded_holds m.geometry.page x.1 (slot_bytes m.geometry b i)).0

  stand_loaded : (b : List ℕ) → LoadsAll m states b → StandAll m t b
  stand_loaded b all n i x at = (hold_loaded b all n i x at).settled

  pub start_sound : IsSound m entry t
  start_sound =
      let was = sound.made_for in
      record {
        made_for = record {
          slots = was.slots;
          geometry = was.geometry;
          driver = ap (λ (x : FlsState). x.geometry) with'.driver ∙ was.driver;
          numbers = was.numbers;
          idle = record { job = ap (λ (x : FlsState). x.job) with'.driver ∙ was.idle.job; attached = ap (λ (x : FlsState). x.attached) with'.driver ∙ was.idle.attached };
          bytes = subst (λ (o : Option ToldBytes). IfSome o (λ b. AreBytesOf m.geometry b.now)) (sym bytes) was.bytes;
          states = with'.count ∙ was.states;
          room = with'.room ∙ was.room;
          small = with'.small;
          given = omega arith;
          ended = λ x. cc x;
        };
        run = run;
        rests = λ unstarted. refl;
        held = λ is told. subst (λ (o : Option (List ℕ)). IfSome o (HoldAll m t)) (sym now_same) (each_told s.fls.flash.bytes (HoldAll m t) (λ b now. hold_loaded b (loaded b now is)));
        stands = λ is. subst (λ (o : Option (List ℕ)). IfSome o (StandAll m t)) (sym now_same) (each_told s.fls.flash.bytes (StandAll m t) (λ b now. stand_loaded b (loaded b now is)));
        job = tt;
        work = λ on. tt;
        cuts = subst (CountsEachCut entry) (sym with'.flash) (record { before = sound.cuts.before; since = sound.cuts.since });
        worn = λ i since is. sound.worn i since (sym (with'.worn i) ∙ is);
        faults = few_faults faults faults_are;
        ops = sound.ops;
        off = λ is. sym (ap (λ (x : Told). x.off) with'.flash);
      }

  -- WHAT IS TOLD
  same : IsSame d e
  same = record { reading = refl; numbers = refl; entry = refl; later = omega arith; old = sound.run.alike; new = run.alike }

  abbrev found : List ℕ → ℕ → Held
  found b k = at_entry never_written (λ i x. found_at m.geometry b i x.1) (entry_of m k)

  comes_none : ComesFrom no_slot no_slot × (no_slot.doubts ≡ [])
  comes_none = (record { settled = inl refl; doubts = λ h c. absurd (Rattle.ea_told.proofs.Slot.has_none h c) }, refl)

  abbrev Comes : Slot → Held → Slot → Type 0
  Comes old h new = (new.settled ≡ h) × (new.doubts ≡ [])

  comes_by : (old new : Slot) (h : Held) → IsPossible old h → Comes old h new → ComesFrom old new × (new.doubts ≡ [])
  comes_by old new h possible (settled, doubts) = (
    record {
      settled = subst (IsPossible old) (sym settled) possible;
      doubts = λ x c. absurd (Rattle.ea_told.proofs.Slot.has_none x (subst (λ (l : List Held). Rattle.std.specs.List.Contains l x) doubts c));
    },
    doubts,
  )

  up_comes : (b : List ℕ) (k : ℕ) (o : Option (ℕ × (DeviceNumber × ℕ))) → entry_of m k ≡ o → LoadsAll m states b
      → Comes no_slot (at_entry never_written (λ i x. found_at m.geometry b i x.1) o) (at_entry no_slot (λ i x. slot_told (state_at states i).memory (slot_bytes m.geometry b i) []) o)
  up_comes b k None at all = (refl, refl)
  up_comes b k (Some x) at all = subst (λ (w : SlotMemory). Comes no_slot (found_at m.geometry b x.0 x.1.1) (slot_told w (slot_bytes m.geometry b x.0) [])) (sym (all k x.0 x.1 at)) (loaded_comes x.1.1 (slot_bytes m.geometry b x.0))
    where
      none_doubt : (o : _) → (Rattle.ea_image.specs.Memory.memory_as o).doubt ≡ None
      none_doubt None = refl
      none_doubt (Some y) = refl

      loaded_comes : (size : ℕ) (slots : _ → _) → Comes no_slot (Rattle.ea_image.specs.Slots.found_of m.geometry.page size slots) (slot_told (memory_loaded m.geometry.page size slots) slots [])
      loaded_comes size slots = ((loaded_holds m.geometry.page size slots).1, ap (λ o. Rattle.ea_told.specs.Device.doubts_as o (slots (memory_loaded m.geometry.page size slots).target)) (none_doubt (Rattle.ea_image.specs.Slots.newest_of m.geometry.page size slots)))

  down_comes : (b : List ℕ) (o : Option (ℕ × (DeviceNumber × ℕ))) → Comes no_slot (at_entry never_written (λ i x. found_at m.geometry b i x.1) o) (at_entry no_slot (λ i x. record { settled = found_at m.geometry b i x.1; doubts = [] }) o)
  down_comes b None = (refl, refl)
  down_comes b (Some x) = (refl, refl)

  told_comes : (v : Bool) (b : List ℕ) (k : ℕ) → (v ≡ true → LoadsAll m states b) → Comes no_slot (found b k) (slot_at m.numbers (slots_in m v states (Ended JobOk []) b) k)
  told_comes true b k all = subst (Comes no_slot (found b k)) (sym (at_listed no_slot (λ i x. slot_told (state_at states i).memory (slot_bytes m.geometry b i) []) 0 m.numbers k)) (up_comes b k (entry_of m k) refl (all refl))
  told_comes false b k all = subst (Comes no_slot (found b k)) (sym (at_listed no_slot (λ i x. record { settled = found_at m.geometry b i x.1; doubts = [] }) 0 m.numbers k)) (down_comes b (entry_of m k))

  same_now : (a b : List ℕ) → bytes_now s.fls.flash ≡ Some a → bytes_now f.flash ≡ Some b → b ≡ a
  same_now a b x y = (let z = now_same in cc (x, y, z))

  each : EachNumber (λ n x y. ComesFrom x y) (told_of m entry s) (told_of m entry t) × EachNumber (λ n x y. y.doubts ≡ []) (told_of m entry s) (told_of m entry t)
  each = tells_start d e same (λ old new are k.
      subst (λ (b : List ℕ). ComesFrom (slot_with d old k) (slot_with e b k) × ((slot_with e b k).doubts ≡ [])) (sym (same_now old new are.1 are.2))
      (comes_by (slot_with d old k) (slot_with e old k) (found old k)
      (now_possible m entry s sound s.started old k (λ is. told_at s.fls.flash.bytes (HoldAll m s) old are.1 (sound.held is are.0)))
      (told_comes up old k (λ is. loaded old are.1 is))))

  power : PowersUp (told_of m entry s).first (told_of m entry t).first
  power = parts_power d e (record { off = ap (λ (x : Told). x.off) with'.flash; planning = ap (λ (x : Told). x.planning) with'.flash; operations = refl; more = more; faults = faults_are; small = sound.faults })

  none_grows : PowersUp (told_of m entry s).second (told_of m entry t).second
  none_grows = record { only = refl; faults = record { faults = omega arith; flash = omega arith; tied = inl (omega arith) }; off = λ x. x }

  stays : ClockStays (clock_of m entry s) (told_of m entry t) (clock_of m entry t)
  stays = record { same = clocks_stay d e none worn_same; order = order m entry t start_sound }

  pub starts_up : (answer : Result (Unit {0}) StartFault) → ComesUp answer (told_of m entry s) (told_of m entry t) → StartsUp answer (told_of m entry s) (clock_of m entry s) (told_of m entry t) (clock_of m entry t)
  starts_up answer comes = record { only = refl; comes_to = comes; marks = each.0; first = power; second = none_grows; clock_stays = stays }

  pub no_doubts : EachNumber (λ n x y. y.doubts ≡ []) (told_of m entry s) (told_of m entry t)
  no_doubts = each.1

  pub off_now : (told_of m entry t).first.off ≡ false
  off_now = ap (λ (x : Told). x.off) with'.flash

more_by : (a b : ℕ) → Rose a b → a ≤ b
more_by a b (inl less) = omega arith
more_by a b (inr (big, le)) = le

pub parts_start : PartsStart
parts_start m entry (Ok u) s t sound is =
    let c = is.came in
    let more : s.fls.flash.faults ≤ is.fls.flash.faults = (let x = ap (λ (y : Told). y.faults) c.0 in omega (arith, x)) in
    let t' = started_as s is.fls is.states is.content true s.faults in
    subst (λ (x : Parts). StartsUp (Ok u) (told_of m entry s) (clock_of m entry s) (told_of m entry x) (clock_of m entry x) × IsSound m entry x) (sym c.2) (
      starts_up m entry s sound is.fls is.states is.content is.starts true s.faults more (inl refl) (λ x. c.1) (Ok u)
          (refl, off_now m entry s sound is.fls is.states is.content is.starts true s.faults more (inl refl) (λ x. c.1), refl, no_doubts m entry s sound is.fls is.states is.content is.starts true s.faults more (inl refl) (λ x. c.1)),
      start_sound m entry s sound is.fls is.states is.content is.starts true s.faults more (inl refl) (λ x. c.1),
    )
parts_start m entry (Err u) s t sound is =
    let c = is.came in
    let more = more_by s.fls.flash.faults is.fls.flash.faults c.0 in
    subst (λ (x : Parts). StartsUp (Err u) (told_of m entry s) (clock_of m entry s) (told_of m entry x) (clock_of m entry x) × IsSound m entry x) (sym c.1) (
      starts_up m entry s sound is.fls is.states is.content is.starts false (next_count s.faults) more (inr (refl, c.0)) (λ x. cc x) (Err u) (refl, inl (rose_next s.faults sound.faults)),
      start_sound m entry s sound is.fls is.states is.content is.starts false (next_count s.faults) more (inr (refl, c.0)) (λ x. cc x),
    )
