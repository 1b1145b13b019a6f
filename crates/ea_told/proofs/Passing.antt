-- The end of a job without an operation.
use Rattle.std.specs.Prelude.{IfSome, not, ◌&&◌, if◌then◌else◌}
use Rattle.std.specs.List.{All}
use Rattle.std.proofs.Common.{◌≡◌, ◌≢◌, ◌⊎◌, inl, inr, ◌<◌, ◌≤◌, ℕ, Bool, true, false, List, [], length, take, Option, Some, None, refl, sym, ap, ◌∙◌, subst, arith}
use Rattle.std.proofs.lemmas.Bool.{false≢true}
use Rattle.nv_base.specs.Count.{Rose, next_count, last_count, WereCounted}
use Rattle.nv_base.specs.declared.instance.DeviceNumber.{DeviceNumber}
use Rattle.memif.specs.declared.answer.DeviceTurn.TheVariants as turn
use Rattle.memif.specs.declared.answer.JobResult.{JobResult}
use Rattle.memif.specs.declared.answer.JobResult.TheVariants.{JobPending}
use Rattle.memif.specs.Told.{First, Job, Slot, no_slot, slot_at, Ended, IfElse, is_open, nothing_open}
use Rattle.memif.specs.Marks.{Keeps, KeepsAll}
use Rattle.memif.specs.Clock.{Ticks}
use Rattle.memif.specs.Calls.{JobTurns, PartTurns, Nearer, urgent_first, is_read}
use Rattle.fls_model.specs.Attach.{AreBytesOf}
use Rattle.fls_model.specs.Told.{Told, ToldBytes, bytes_now}
use Rattle.fls_jobs.specs.State.{FlsState}
use Rattle.fls_told.specs.Device.{FlashDevice, slot_with}
use Rattle.fls_told.specs.Clock.{MakesNone}
use Rattle.fls_told.specs.Runs.{HasRun, IsWornSince, CountsCuts as RunCounts, CountsEachCut}
use Rattle.fls_told.proofs.Clocks.{clocks_pass}
use Rattle.fls_told.proofs.Making.{runs_stay}
use Rattle.fls_told.proofs.Parts.{parts_read}
use Rattle.fls_told.proofs.Tells.{tells_keep}
use Rattle.ea_image.specs.declared.memory.SlotMemory.{SlotMemory}
use Rattle.ea_image.specs.Memory.{HoldsSlots}
use Rattle.ea_image.specs.Slots.{slot_bytes, standing, other}
use Rattle.ea_told.specs.declared.job.EaJob.{EaJob}
use Rattle.ea_told.specs.declared.state.SlotState.{SlotState}
use Rattle.ea_told.specs.Making.{Making, entry_of, at_entry}
use Rattle.ea_told.specs.Parts.{Parts}
use Rattle.ea_told.specs.Device.{fixed_for, state_at, mark_of, stand_of, wait_of, job_leaves, slot_told, slots_in, flash_device, told_of, clock_of}
use Rattle.ea_told.specs.Inside.{HoldAll, StandAll, IsSound}
use Rattle.ea_told.specs.Laws.{Turned}
use Rattle.ea_told.proofs.Lists.{at_listed}
use Rattle.ea_told.proofs.Order.{order, is_of_first, urgent_is}
use Rattle.ea_told.proofs.Slot.{keeps_same, no_marks}
use Rattle.ea_told.proofs.Stepping.{rests_not}

-- COUNTS
pub counted_more : (n a b c : ℕ) → b ≤ c → WereCounted n a b → WereCounted n a c
counted_more n a b c le (inl were) = inl (omega arith)
counted_more n a b c le (inr big) = inr (omega arith)

pub counted_next : (n a b c : ℕ) → Rose b c → WereCounted n a b → WereCounted (next_count n) a c
counted_next n a b c (inl less) (inl were) = inl (omega arith)
counted_next n a b c (inl less) (inr big) = inr (omega arith)
counted_next n a b c (inr rose) were = inr (omega (arith, rose.0, rose.1))

-- behind it, with this driver, these states, this content, result and count of faults
abbrev pub passed : FlsState → List SlotState → List ℕ → JobResult → ℕ → ℕ → Parts → Parts
passed f states content last given faults s = record s { fls = f; states = states; content = content; job = None; last = last; given = given; faults = faults }

pub record IsPassing (m : Making) (entry : Told) (s : Parts) (j : EaJob) (f : FlsState) (states : List SlotState) (content : List ℕ) (last : JobResult) (given faults : ℕ) : Type 0 where
  pub sound : IsSound m entry s
  pub job : s.job ≡ Some j
  pub on : s.off ≡ false
  pub flash : f.flash ≡ record s.fls.flash { faults = f.flash.faults }
  pub driver : f ≡ record s.fls { flash = f.flash; result = f.result }
  pub more : s.fls.flash.faults ≤ f.flash.faults
  pub faults_are : (faults ≡ s.faults) ⊎ ((faults ≡ next_count s.faults) × Rose s.fls.flash.faults f.flash.faults)
  pub count : length states ≡ length s.states
  pub memory : (i : ℕ) → (state_at states i).memory ≡ (state_at s.states i).memory
  pub room : length content ≡ length s.content
  pub small : All (λ x. x < 256) content
  pub few : given ≤ m.geometry.sector
  pub ended : last ≢ JobPending
  pub worn_pass : (n : ℕ) → ((flash_device m entry (passed f states content last given faults s)).worn n ≡ (flash_device m entry s).worn n) ⊎ ((flash_device m entry s).worn n ≡ None)
  pub worn_since : (n since : ℕ) → (flash_device m entry (passed f states content last given faults s)).worn n ≡ Some since
      → ((flash_device m entry s).worn n ≡ Some since) ⊎ IsWornSince (flash_device m entry (passed f states content last given faults s)) n since
  pub worn_ops : (i since : ℕ) → (state_at states i).worn ≡ Some since → since ≤ s.ops

pub kept_all : (f f' : ℕ → DeviceNumber × ℕ → Slot) → ((i : ℕ) (x : DeviceNumber × ℕ) → Keeps (f i x) (f' i x)) → (o : Option (ℕ × (DeviceNumber × ℕ))) → Keeps (at_entry no_slot f o) (at_entry no_slot f' o)
kept_all f f' each None = record { settled = refl; doubts = λ h c. c }
kept_all f f' each (Some x) = each x.0 x.1

module _ (m : Making) (entry : Told) (s : Parts) (j : EaJob) (f : FlsState) (states : List SlotState) (content : List ℕ) (last : JobResult) (given faults : ℕ) (is : IsPassing m entry s j f states content last given faults) where
  abbrev pub t : Parts
  t = passed f states content last given faults s

  abbrev pub d : FlashDevice
  d = flash_device m entry s

  abbrev pub e : FlashDevice
  e = flash_device m entry t

  pub started : s.started ≡ true
  started = rests_not s.started s.job j is.sound.rests is.job

  pub power : s.fls.flash.off ≡ false
  power = sym (is.sound.off started) ∙ is.on

  bytes : f.flash.bytes ≡ s.fls.flash.bytes
  bytes = ap (λ (x : Told). x.bytes) is.flash

  pub now_same : bytes_now f.flash ≡ bytes_now s.fls.flash
  now_same = ap bytes_now is.flash

  none : MakesNone d e
  none = record { reading = refl; entry = refl; operations = refl; bytes = now_same }

  counted : (x : ℕ) → (x ≡ s.faults) ⊎ ((x ≡ next_count s.faults) × Rose s.fls.flash.faults f.flash.faults) → WereCounted x entry.faults f.flash.faults
  counted x (inl same) = subst (λ (n : ℕ). WereCounted n entry.faults f.flash.faults) (sym same) (counted_more s.faults entry.faults s.fls.flash.faults f.flash.faults is.more is.sound.run.faults)
  counted x (inr (same, rose)) = subst (λ (n : ℕ). WereCounted n entry.faults f.flash.faults) (sym same) (counted_next s.faults entry.faults s.fls.flash.faults f.flash.faults rose is.sound.run.faults)

  cuts : RunCounts entry f.flash
  cuts n were = subst (λ (x : Told). WereCounted n entry.cuts x.cuts) (sym is.flash) (is.sound.run.cuts n (subst (λ (x : Told). WereCounted n entry.planning.unplanned x.planning.unplanned) is.flash were))

  pub run : HasRun e
  run = runs_stay d e is.sound.run (record {
    none = none;
    bytes = bytes;
    counts = (ap (λ (x : Told). x.ops) is.flash, ap (λ (x : Told). x.cuts) is.flash);
    came = (ap (λ (x : Told). x.planning.came) is.flash, ap (λ (x : Told). x.planning.withheld) is.flash);
    flash_faults = is.more;
    faults = counted faults is.faults_are;
    cuts = cuts;
    worn = is.worn_since;
  })

  few_faults : (x : ℕ) → (x ≡ s.faults) ⊎ ((x ≡ next_count s.faults) × Rose s.fls.flash.faults f.flash.faults) → x ≤ last_count
  few_faults x (inl same) = (let few = is.sound.faults in omega (arith, same, few))
  few_faults x (inr (same, rose)) = omega (arith, same)

  held_then : (b : List ℕ) → HoldAll m s b → HoldAll m t b
  held_then b holds n i x at = subst (λ (w : SlotMemory). HoldsSlots m.geometry.page x.1 w (slot_bytes m.geometry b i)) (sym (is.memory i)) (holds n i x at)

  stand_then : (b : List ℕ) → StandAll m s b → StandAll m t b
  stand_then b stands n i x at = subst (λ (w : SlotMemory). standing m.geometry.page x.1 (slot_bytes m.geometry b i (other w.target)) ≡ w.settled) (sym (is.memory i)) (stands n i x at)

  each_bytes : (o : Option (List ℕ)) (P Q : List ℕ → Type 0) → ((b : List ℕ) → P b → Q b) → IfSome o P → IfSome o Q
  each_bytes None P Q go is' = tt
  each_bytes (Some b) P Q go is' = go b is'

  pub sound : IsSound m entry t
  sound =
      let was = is.sound.made_for in
      record {
        made_for = record {
          slots = was.slots;
          geometry = was.geometry;
          driver = ap (λ (x : FlsState). x.geometry) is.driver ∙ was.driver;
          numbers = was.numbers;
          idle = record { job = ap (λ (x : FlsState). x.job) is.driver ∙ was.idle.job; attached = ap (λ (x : FlsState). x.attached) is.driver ∙ was.idle.attached };
          bytes = subst (λ (o : Option ToldBytes). IfSome o (λ b. AreBytesOf m.geometry b.now)) (sym bytes) was.bytes;
          states = is.count ∙ was.states;
          room = is.room ∙ was.room;
          small = is.small;
          given = is.few;
          ended = is.ended;
        };
        run = run;
        rests = λ unstarted. refl;
        held = λ up told. subst (λ (o : Option (List ℕ)). IfSome o (HoldAll m t)) (sym now_same) (each_bytes (bytes_now s.fls.flash) (HoldAll m s) (HoldAll m t) held_then (is.sound.held up told));
        stands = λ up. subst (λ (o : Option (List ℕ)). IfSome o (StandAll m t)) (sym now_same) (each_bytes (bytes_now s.fls.flash) (StandAll m s) (StandAll m t) stand_then (is.sound.stands up));
        job = tt;
        work = λ on. tt;
        cuts = subst (CountsEachCut entry) (sym is.flash) (record { before = is.sound.cuts.before; since = is.sound.cuts.since });
        worn = is.worn_ops;
        faults = few_faults faults is.faults_are;
        ops = is.sound.ops;
        off = λ up. is.sound.off up ∙ sym (ap (λ (x : Told). x.off) is.flash);
      }

  pub ticks : Ticks First turn.Worked (told_of m entry s) (clock_of m entry s) (told_of m entry t) (clock_of m entry t)
  ticks = clocks_pass turn.Worked d e none is.worn_pass

  pub part : PartTurns false (told_of m entry s).ops (told_of m entry t).ops (told_of m entry s).first (told_of m entry t).first
  part = parts_read d e (record { flash = is.flash; operations = refl; more = is.more; faults = is.faults_are; small = is.sound.faults }) power

  -- WHAT IS TOLD
  abbrev pub before : List ℕ → ℕ → DeviceNumber × ℕ → Slot
  before b i x = slot_told (state_at s.states i).memory (slot_bytes m.geometry b i) (job_leaves (stand_of s.content s.job s.last s.given) x.0.0)

  abbrev behind : List ℕ → ℕ → DeviceNumber × ℕ → Slot
  behind b i x = slot_told (state_at states i).memory (slot_bytes m.geometry b i) []

  pub before_is : (b : List ℕ) (k : ℕ) → slot_with d b k ≡ at_entry no_slot (before b) (entry_of m k)
  before_is b k = ap (λ (x : Bool). slot_at m.numbers (slots_in m x s.states (stand_of s.content s.job s.last s.given) b) k) started ∙ at_listed no_slot (before b) 0 m.numbers k

  behind_is : (b : List ℕ) (k : ℕ) → slot_with e b k ≡ at_entry no_slot (behind b) (entry_of m k)
  behind_is b k = ap (λ (x : Bool). slot_at m.numbers (slots_in m x states (Ended last (take given content)) b) k) started ∙ at_listed no_slot (behind b) 0 m.numbers k

  each : (b : List ℕ) (i : ℕ) (x : DeviceNumber × ℕ) → Keeps (before b i x) (behind b i x)
  each b i x =
      let marks = job_leaves (stand_of s.content s.job s.last s.given) x.0.0 in
      subst (λ (w : SlotMemory). Keeps (before b i x) (slot_told w (slot_bytes m.geometry b i) [])) (sym (is.memory i))
      (keeps_same (state_at s.states i).memory (slot_bytes m.geometry b i) (slot_bytes m.geometry b i) marks [] (λ w. refl) (no_marks marks))

  same_now : (a b : List ℕ) → bytes_now s.fls.flash ≡ Some a → bytes_now f.flash ≡ Some b → b ≡ a
  same_now a b x y = (let z = now_same in cc (x, y, z))

  pub keeps_all : KeepsAll (told_of m entry s) (told_of m entry t)
  keeps_all = tells_keep d e (record { reading = refl; numbers = refl; entry = refl; later = omega arith; old = is.sound.run.alike; new = run.alike }) (λ old new are k.
      subst (λ (b : List ℕ). Keeps (slot_with d old k) (slot_with e b k)) (sym (same_now old new are.1 are.2))
      (subst (λ (x : Slot). Keeps x (slot_with e old k)) (sym (before_is old k)) (subst (λ (x : Slot). Keeps (at_entry no_slot (before old) (entry_of m k)) x) (sym (behind_is old k)) (kept_all (before old) (behind old) (each old) (entry_of m k)))))

  -- THE TURN
  pub something : nothing_open (told_of m entry s) ≡ false
  something = ap (λ (o : Option EaJob). not (is_open (stand_of s.content o s.last s.given)) && not false) is.job

  ready_by : (b : Bool) → urgent_first (fixed_for m) (stand_of s.content s.job s.last s.given) ≡ b → IfElse b (Nearer (told_of m entry s) (told_of m entry t)) (0 ≤ 0)
  ready_by false c = omega arith
  ready_by true c = λ v wait.
      (let jt : Job = record { number = j.number.0; mark = mark_of j.op (take j.length s.content); urgent = j.urgent } in
      let urgent : j.urgent ≡ true = sym (urgent_is m jt) ∙ ap (λ (o : Option EaJob). urgent_first (fixed_for m) (stand_of s.content o s.last s.given)) (sym is.job) ∙ c in
      let none' : wait_of s.job ≡ None = ap wait_of is.job ∙ ap (λ (b : Bool). if b then None else Some 0) urgent in
      cc (wait, none'))

  pub passed_turn : JobTurns First (told_of m entry s).stand (Ended last (take given content)) (told_of m entry s) (told_of m entry t) (clock_of m entry t)
      → (is_read (told_of m entry s).stand ≡ true → (told_of m entry t).slots ≡ (told_of m entry s).slots) → 0 < (told_of m entry s).left → Turned m entry turn.Worked s t
  passed_turn job_turns read some = record {
    turns = (
      (
        something,
        (
          First,
          record {
            only = refl;
            up = started;
            of = is_of_first m s.content s.job s.last s.given;
            part = part;
            job = job_turns;
            read = λ reads. (refl, read reads);
            nearer = inl some;
            ready = λ calm. ready_by (urgent_first (fixed_for m) (stand_of s.content s.job s.last s.given)) refl;
            seals = λ k ops few was either. absurd (false≢true was.2);
          },
          ticks,
        ),
      ),
      order m entry t sound,
    );
    sound = sound;
  }
