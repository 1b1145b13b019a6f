-- What a start-up with its reads leaves of a device, and the marks that it finds.
use Rattle.std.specs.Prelude.{◌≡◌, ◌⊎◌, ◌≤◌, ◌+◌, ℕ, true, false, length, List, [], ◌∷◌, ◌++◌, Contains, IfSome, Result, Ok, Err}
use Rattle.block_machine.specs.nv_base.Count.{Rose}
use Rattle.block_machine.specs.nv_base.Marks.{instance_of, listed}
use Rattle.block_machine.specs.nv_base.declared.instance.Instance.{Instance}
use Rattle.block_machine.specs.nv_base.declared.instance.DeviceNumber.{DeviceNumber}
use Rattle.block_machine.specs.nv_base.declared.mark.Mark.{Mark}
use Rattle.block_machine.specs.nv_base.declared.mark.Mark.TheVariants.{Content, Invalid, Erased}
use Rattle.memif.specs.Told.{DeviceTold, Fixed, Slot, is_open, figures_at, slot_at, Part, PartTold}
use Rattle.memif.specs.Told as device
use Rattle.memif.specs.Marks.{ComesFrom, EachNumber}
use Rattle.memif.specs.Clock.{Clock}
use Rattle.memif.specs.Calls.{PowersUp}
use Rattle.block_machine.specs.Words.{Entry, Found, Configuration}
use Rattle.block_machine.specs.StartUp.{listed_mark}
use Rattle.block_machine.specs.Steps.{after}
use Rattle.block_machine.specs.Legal.{IsAllowed}
use Rattle.promise_blocks.specs.OverDevice.{HasStarted}
use Rattle.promise_blocks.specs.Marks.{KeepsMarks}
use Rattle.nvm_device_laws.specs.Turn.{Keeps, TellsSlots, down}

-- THE DEVICE
-- whatever is answered: no operation is made and no cut begins, the start-up is counted, a plan is dropped, and each number's
-- mark and doubts were its settled mark or a doubt of it before
pub record IsRestarted (old new : DeviceTold) : Type 0 where
  pub fixed : new.fixed ≡ old.fixed
  pub ops : new.ops ≡ old.ops
  pub starts : new.starts ≡ old.starts + 1
  pub tells : new.tells ≡ old.tells
  pub first : PowersUp old.first new.first
  pub second : PowersUp old.second new.second
  pub marks : EachNumber (λ n s t. ComesFrom s t) old new

-- its start-up answered Ok: the power is on, and no number has a doubt
pub record IsUp (old new : DeviceTold) : Type 0 where
  pub restarted : IsRestarted old new
  pub started : new.started ≡ true
  pub first_on : new.first.off ≡ false
  pub second_on : new.second.off ≡ false
  pub settled : EachNumber (λ n s t. t.doubts ≡ []) old new

-- a read of any number takes one turn at most
abbrev pub ReadAtOnce : Fixed → Type 0
ReadAtOnce f = (n : ℕ) → (figures_at f n).read ≤ 1

-- a fault was counted
abbrev pub HasFault : DeviceTold → DeviceTold → Type 0
HasFault old new = Rose old.first.faults new.first.faults ⊎ Rose old.second.faults new.second.faults

-- THE MARKS
-- the marks of these numbers, as a list has them: ascending, without the erased ones
abbrev pub relisted : List (Instance × Mark) → List (DeviceNumber × ℕ) → List (Instance × Mark)
relisted marks [] = []
relisted marks (x ∷ xs) = listed (instance_of x.0) (listed_mark marks (instance_of x.0)) (relisted marks xs)

-- a content has this length
abbrev pub HasLength : Mark → ℕ → Type 0
HasLength (Content bytes) n = length bytes ≡ n
HasLength Invalid n = Unit {0}
HasLength Erased n = Unit {0}

-- it lists instances of these numbers alone, ascending and none that is erased, with contents of the numbers' lengths
pub record IsListOf (numbers : List (DeviceNumber × ℕ)) (marks : List (Instance × Mark)) : Type 0 where
  pub lists : marks ≡ relisted marks numbers
  pub lengths : (x : DeviceNumber × ℕ) → Contains numbers x → HasLength (listed_mark marks (instance_of x.0)) x.1

-- each as the device holds it for certain
abbrev pub AreHeld : List (DeviceNumber × ℕ) → List (Instance × Mark) → List Slot → Type 0
AreHeld numbers marks slots = (x : DeviceNumber × ℕ) → Contains numbers x → listed_mark marks (instance_of x.0) ≡ (slot_at numbers slots x.0.0).settled.mark

-- WHAT IS ANSWERED
-- these marks were found: all that the device holds, where it tells that
pub record Finds (marks : List (Instance × Mark)) (old new : DeviceTold) : Type 0 where
  pub up : IsUp old new
  pub at_rest : is_open new.stand ≡ false
  -- no work is left where its reads take a turn each, unless a fault was counted
  pub left : ReadAtOnce old.fixed → (new.left ≡ 0) ⊎ HasFault old new
  pub lists : IsListOf new.fixed.numbers marks
  pub held : IfSome new.slots (AreHeld new.fixed.numbers marks)

-- a fault was counted
pub record FailsToFind (old new : DeviceTold) : Type 0 where
  pub restarted : IsRestarted old new
  pub at_rest : is_open new.stand ≡ false
  pub faults : HasFault old new

-- the mark that is listed for a number
abbrev pub listed_in : List (Instance × Mark) → ℕ → Mark
listed_in marks n = listed_mark marks (instance_of (record { 0 = n }))

-- THE PROMISE
-- What is found keeps to the history that stands, where the device tells what it holds, then too.
abbrev pub FoundMarksKeep : Type 1
FoundMarksKeep =
    (c : Configuration) (cap : ℕ) (h : List Entry) (before : Part → PartTold) (old : DeviceTold) (clock : Clock) (new : DeviceTold)
    (marks : List (Instance × Mark)) → Finds marks old new → TellsSlots new → HasStarted h → Keeps c cap h before old clock
    → KeepsMarks c h (listed_in marks)

-- Where the device tells what it holds, then too, and the entry fits with an Off behind it, the Found of these marks is allowed,
-- and keeps all, the first before any operation. At a fault the history that stands keeps all, until a start-up answers Ok.
abbrev pub FindsKeep : {E : Type 0} → Result (Unit {0}) E → List (Instance × Mark) → DeviceTold → Clock → DeviceTold → Clock → Type 0
FindsKeep (Ok _) marks old clock new clock_new =
    (c : Configuration) (cap : ℕ) (h : List Entry) (before : Part → PartTold) → TellsSlots new → HasStarted h ⊎ (new.ops ≡ 0)
    → length h + 2 ≤ cap → Keeps c cap h before (down old) clock
    → IsAllowed c cap (after c h) (Found marks (device.ops_of new)) × Keeps c cap (h ++ Found marks (device.ops_of new) ∷ []) before new clock_new
FindsKeep (Err fault) marks old clock new clock_new =
    (c : Configuration) (cap : ℕ) (h : List Entry) (before : Part → PartTold) → Keeps c cap h before (down old) clock
    → TellsSlots new → Keeps c cap h before (down new) clock_new
