-- A device behind a turn without a changing operation.
use Rattle.std.specs.Prelude.{IfSome, IsTrue, length, min, slice_get}
use Rattle.std.proofs.Common.{◌≡◌, ◌≢◌, ◌⊎◌, inl, inr, ◌≤◌, ◌<◌, ◌+◌, ℕ, true, false, List, Option, Some, None, refl, sym, ap, ◌∙◌, subst, arith}
use Rattle.nv_base.specs.Count.{Rose, WereCounted, next_count, last_count}
use Rattle.nv_base.specs.Geometry.{sectors_of_bank}
use Rattle.nv_base.specs.declared.instance.DeviceNumber.{DeviceNumber}
use Rattle.memif.specs.declared.answer.JobResult.TheVariants.{JobPending}
use Rattle.memif.specs.declared.answer.DeviceTurn.TheVariants as turn
use Rattle.memif.specs.Told.{First, nothing_open}
use Rattle.memif.specs.Clock.{Seals}
use Rattle.memif.specs.Calls.{PartTurns, JobTurns, IsSealing, TurnsReady, is_read}
use Rattle.fls_model.specs.Attach.{AreBytesOf}
use Rattle.fls_model.specs.Told.{Told, ToldBytes, Change, bytes_now}
use Rattle.fee_image.specs.May.{May}
use Rattle.fee_switch_laws.specs.fee_switch.Banks.{IsSameFlash}
use Rattle.fee_switch_laws.specs.KeepsRoom.{KeepsRoom}
use Rattle.promise_device.specs.Making.{Making, banks_of}
use Rattle.promise_device.specs.Traits.{is_such}
use Rattle.fee_told.specs.SlotLaws.{IsHeld}
use Rattle.fee_told.specs.fls_told.Device.{asked_ops, flash_part}
use Rattle.fee_told.specs.fls_told.Clock.{MakesNone}
use Rattle.fee_told.specs.fls_told.Runs.{HasRun, IsWornSince, CountsCuts as RunCounts, CountsEachCut}
use Rattle.fee_told.proofs.Clocks.{clocks_pass, now_before}
use Rattle.fee_told.proofs.Making.{runs_stay}
use Rattle.fee_told.proofs.Parts.{parts_read}
use Rattle.fee_told.specs.Device.{Device, tells_now, told_of, clock_of, flash_device}
use Rattle.fee_told.specs.FigureLaws.{IsWork}
use Rattle.fee_told.specs.Turns.{TakesTurn}
use Rattle.fee_told.proofs.Kept.{same_places}
use Rattle.fee_told.proofs.ToldBytes.{each_told}
use Rattle.fee_laws.specs.Inside.{Parts, stand_of, memory_of, device_of, IsAtWork, IsWorn, HoldsBehind, TellsCopies, is_copying, IsSound}
use Rattle.fee_laws.specs.Work.{work_of}
use Rattle.fee_laws.specs.Turn.{IsOn, Turned}
use Rattle.fee_laws.proofs.Before.{power, shape, lengths, legal, some}
use Rattle.fee_laws.proofs.MadeFor.{still_made}
use Rattle.fee_laws.proofs.Order.{behind_finds, in_order, is_of_first}

-- COUNTS
-- a fault that the device counts is one of its flash
abbrev pub Counted : ℕ → ℕ → ℕ → ℕ → Type 0
Counted a b own own' = (own' ≡ own) ⊎ ((own' ≡ next_count own) × Rose a b)

pub were_counted : (entry a b own own' : ℕ) → a ≤ b → Counted a b own own' → WereCounted own entry a → WereCounted own' entry b
were_counted entry a b own own' more (inl same) (inl fits) = inl (omega arith)
were_counted entry a b own own' more (inl same) (inr big) = inr (omega arith)
were_counted entry a b own own' more (inr (is, inl less)) (inl fits) = inl (omega arith)
were_counted entry a b own own' more (inr (is, inl less)) (inr big) = inr (omega arith)
were_counted entry a b own own' more (inr (is, inr (big, le))) fits = inr (omega arith)

pub few_counted : (a b own own' : ℕ) → own ≤ last_count → Counted a b own own' → own' ≤ last_count
few_counted a b own own' few (inl same) = omega arith
few_counted a b own own' few (inr (is, rose)) = omega arith

-- THE CALL
-- the flash tells the same, but for its count of faults, and the operations are the same
pub record AsksNone (m : Making) (entry : Told) (s t : Parts) : Type 0 where
  pub only : t ≡ record s { fls = record s.fls { flash = record s.fls.flash { faults = t.fls.flash.faults }; result = t.fls.result }; banks = t.banks; content = t.content; job = t.job; last = t.last; given = t.given; faults = t.faults; worn = t.worn }
  pub more : s.fls.flash.faults ≤ t.fls.flash.faults
  pub counted : Counted s.fls.flash.faults t.fls.flash.faults s.faults t.faults
  pub worn : (since : ℕ) → t.worn ≡ Some since → (s.worn ≡ Some since) ⊎ ((n : ℕ) → IsWornSince (flash_device (device_of m entry t)) n since)

module _ (m : Making) (entry : Told) (s : Parts) (listed : List (DeviceNumber × ℕ)) (kept count : ℕ) (on : IsOn m entry s listed kept count) (t : Parts) (none : AsksNone m entry s t) where
  abbrev d : Device
  d = device_of m entry s

  abbrev e : Device
  e = device_of m entry t

  flash : t.fls.flash ≡ record s.fls.flash { faults = t.fls.flash.faults }
  flash = ap (λ (x : Parts). x.fls.flash) none.only

  started : t.started ≡ true
  started = ap (λ (x : Parts). x.started) none.only ∙ on.started

  bytes : t.fls.flash.bytes ≡ s.fls.flash.bytes
  bytes = ap (λ (x : Told). x.bytes) flash

  pub makes_none : MakesNone (flash_device d) (flash_device e)
  makes_none = record { reading = refl; entry = refl; operations = ap (λ (x : Parts). x.operations) none.only; bytes = ap (λ (x : Told). bytes_now x) flash }

  part : PartTurns false (asked_ops (flash_device d)) (asked_ops (flash_device e)) (flash_part (flash_device d)) (flash_part (flash_device e))
  part = parts_read (flash_device d) (flash_device e) (record { flash = flash; operations = makes_none.operations; more = none.more; faults = none.counted; small = on.sound.device.faults }) (power m entry s listed kept count on)

  pub run : HasRun (flash_device e)
  run = runs_stay (flash_device d) (flash_device e) on.sound.device.run (record {
    none = makes_none;
    bytes = bytes;
    counts = (ap (λ (x : Told). x.ops) flash, ap (λ (x : Told). x.cuts) flash);
    came = (ap (λ (x : Told). x.planning.came) flash, ap (λ (x : Told). x.planning.withheld) flash);
    flash_faults = none.more;
    faults = were_counted entry.faults s.fls.flash.faults t.fls.flash.faults s.faults t.faults none.more none.counted on.sound.device.run.faults;
    cuts = subst (RunCounts entry) (sym flash) on.sound.device.run.cuts;
    worn = λ n since at. elim (none.worn since at) [ inl was ↦ inl was | inr new ↦ inr (new n) ];
  })

  later : length s.operations ≤ length t.operations
  later = let same = ap (λ (x : Parts). length x.operations) none.only in omega (arith, same)

  -- the bytes hold its banks
  pub held_behind : (more : May) → ((now : List ℕ) → bytes_now s.fls.flash ≡ Some now → IsTrue (tells_now d) → IsHeld (banks_of m) m.numbers now (memory_of t) more) → HoldsBehind e
  held_behind more held = record {
    behind = memory_of t;
    copied = more;
    banks = record {
      started = started;
      alike = run.alike;
      legal = legal m entry s listed kept count on;
      some = subst (λ (o : Option (List ℕ)). IfSome o (λ now. 0 < length now)) (sym makes_none.bytes) (some m entry s listed kept count on);
      held = λ told. subst (λ (o : Option (List ℕ)). IfSome o (λ now. IsHeld (banks_of m) m.numbers now (memory_of t) more)) (sym makes_none.bytes)
          (each_told s.fls.flash.bytes (λ (now : List ℕ). IsHeld (banks_of m) m.numbers now (memory_of t) more) (λ now at. held now at (now_before (flash_device d) (flash_device e) refl refl later told)));
    };
    places = same_places (memory_of t).old;
    stand = refl;
    on = λ power. refl;
    idle = inl refl;
  }

  -- the banks are those of the same flash and numbers, a content of any length fits, and the job came to an end
  pub record Ends : Type 0 where
    pub same : IsSameFlash s.banks t.banks
    pub room : length t.content ≡ 4096
    pub given_few : t.given ≤ 4096
    pub ended : t.last ≢ JobPending

  -- what is known of it
  pub record Facts : Type 0 where
    pub ends : Ends
    pub behind : HoldsBehind e
    pub work : IsWork m.geometry.page (sectors_of_bank m.geometry m.banks) m.numbers m.reserve (stand_of t.content t.job t.last t.given) (work_of m.reserve t.banks t.job)
    pub at_work : IsAtWork m t
    pub room : KeepsRoom m.reserve t.banks
    pub copies : TellsCopies m entry t
    pub worn : (since : ℕ) → t.worn ≡ Some since → IsWorn t since
    pub still : is_copying s.banks.course ≡ false → is_copying t.banks.course ≡ false

  same_operations : t.operations ≡ s.operations
  same_operations = ap (λ (x : Parts). x.operations) none.only

  -- the last operation is the same
  sealed_before : (k : ℕ) (x : Change) → length t.operations ≡ k + 1 → slice_get t.operations k ≡ Some x → IsTrue (is_such m Seals x) → is_copying s.banks.course ≡ false
  sealed_before k x many at such = on.sound.seals k x (ap length (sym same_operations) ∙ many) (ap (λ (l : List Change). slice_get l k) (sym same_operations) ∙ at) such

  pub sound : Facts → IsSound m entry t listed kept count false
  sound is = record {
    made_for = still_made m s t on.sound.made_for (ap (λ (x : Parts). x.fls) none.only ∙ (λ i. record s.fls { flash = sym flash i; result = t.fls.result }))
        (subst (λ (o : Option ToldBytes). IfSome o (λ b. AreBytesOf m.geometry b.now)) (sym bytes) on.sound.made_for.bytes) is.ends.same is.ends.room is.ends.given_few is.ends.ended;
    device = record {
      run = run;
      held = λ started'. is.behind;
      order = in_order m entry t (shape m entry s listed kept count on) (lengths m entry s listed kept count on) is.work run.alike (behind_finds e started is.behind);
      faults = few_counted s.fls.flash.faults t.fls.flash.faults s.faults t.faults on.sound.device.faults none.counted;
    };
    rests = λ stopped. (let h = started in absurd (cc (h, stopped)));
    works = λ started'. is.at_work;
    room = λ started' power. is.room;
    copies = is.copies;
    cuts = subst (CountsEachCut entry) (sym flash) (record { before = on.sound.cuts.before; since = on.sound.cuts.since });
    worn = is.worn;
    seals = λ k x many at such. is.still (sealed_before k x many at such);
    numbers = on.sound.numbers;
    reserve = on.sound.reserve;
    ops = on.sound.ops ∙ sym (ap (λ (x : Parts). min (length x.operations) last_count) none.only);
    off = λ started'. on.sound.off on.started ∙ sym (ap (λ (x : Told). x.off) flash);
  }

  -- what it did
  pub record HasWorked : Type 0 where
    pub something : nothing_open (told_of d) ≡ false
    pub job_turns : JobTurns First (told_of d).stand (told_of e).stand (told_of d) (told_of e) (clock_of e)
    pub read : is_read (told_of d).stand ≡ true → ((told_of e).ops ≡ (told_of d).ops) × ((told_of e).slots ≡ (told_of d).slots)
    pub nearer : ((told_of e).left < (told_of d).left) ⊎ Rose s.faults t.faults
    pub ready : TurnsReady (told_of d) (told_of e)
    pub seals : is_copying s.banks.course ≡ false → IsSealing (told_of d) → IsSealing (told_of e)
    pub worn : (t.worn ≡ s.worn) ⊎ (s.worn ≡ None)
    pub turn_taken : TakesTurn turn.Worked d e

  -- a switch that stood at its seal stands there
  seals_by : HasWorked → (k : ℕ) → (told_of e).ops ≡ k + 1 → (told_of e).ops < last_count → (clock_of e).was Seals k → ((told_of d).ops ≤ k) ⊎ IsSealing (told_of d) → IsSealing (told_of e)
  seals_by did k ops few such (inl now) = (let same = ap (λ (l : List Change). min (length l) last_count) same_operations in absurd (omega (arith, ops, now, same)))
  seals_by did k ops few (x, at, such) (inr is) = did.seals (sealed_before k x (omega (arith, ops, few)) at such) is

  pub worked : Facts → HasWorked → Turned m entry turn.Worked s t listed kept count false
  worked is did = record {
    turns = (
      (
        did.something,
        (
          First,
          record {
            only = λ i. record (told_of e) { starts = ap (λ (x : Parts). x.starts) none.only i; started = ap (λ (x : Parts). x.started) none.only i };
            up = on.started;
            of = is_of_first m s.content s.job s.last s.given;
            part = part;
            job = did.job_turns;
            read = did.read;
            nearer = did.nearer;
            ready = did.ready;
            seals = seals_by did;
          },
          clocks_pass turn.Worked (flash_device d) (flash_device e) makes_none (λ n. did.worn),
        ),
      ),
      (sound is).device.order,
    );
    sound = sound is;
    takes = did.turn_taken;
  }
