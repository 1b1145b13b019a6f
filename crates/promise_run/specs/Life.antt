-- The life of a unit, which is switched on and off for years.
use Rattle.std.specs.Prelude.{◌≡◌, ◌⊎◌, ◌<◌, ℕ, List, [], ◌∷◌, length, map, Contains, Option, Some, None}
use Rattle.block_machine.specs.nv_base.Count.{last_count}
use Rattle.block_machine.specs.nv_base.declared.instance.DeviceNumber.{DeviceNumber}
use Rattle.block_machine.specs.nv_base.Marks.{instance_of}
use Rattle.block_machine.specs.block_config.Lengths.{lengths_of}
use Rattle.block_machine.specs.Words.{Instance, Mark, Entry, Configuration}
use Rattle.block_machine.specs.StartUp.{at_first}
use Rattle.block_machine.specs.History.{up_to}
use Rattle.block_machine.specs.Accepted.{IsNotOlder, IsTakenIn}
use Rattle.promise_blocks.specs.Marks.{EachInstance}
use Rattle.fls_model.specs.Told.{bytes_now}
use Rattle.promise_device.specs.Image.{IsSoundFlash}
use Rattle.promise_device.specs.FlashRun.{TellsOperations, IsCutImage}
use Rattle.promise_run.specs.Run.{Run}
use Rattle.promise_run.specs.Promise.{Promise, found_by, making_of}

-- From switching on to switching off: a run that came to its end, or that a power cut broke off before or within one of its
-- operations.
pub record Spell : Type 0 where
  pub run : Run
  pub cut : Option ℕ

-- what happened by then
abbrev pub history_by : Option ℕ → List Entry → List Entry
history_by None h = h
history_by (Some k) h = up_to k h

abbrev pub histories_of : List Spell → List (List Entry)
histories_of life = map (λ x. history_by x.cut x.run.history) life

-- it leaves this image
abbrev pub LeavesImage : Run → Option ℕ → List ℕ → Type 0
LeavesImage r None image = (bytes_now r.flash.exit ≡ Some image) × (length r.flash.operations < last_count)
LeavesImage r (Some k) image = TellsOperations r.flash × (k < last_count) × IsCutImage r.flash k image

-- a run over one flash that keeps the promise, from one image to another
pub record IsSpell (c : Configuration) (first : List ℕ) (x : Spell) (image : List ℕ) : Type 0 where
  pub same_unit : x.run.configuration ≡ c
  pub alone : x.run.beside ≡ None
  pub promise : Promise x.run
  pub starts : bytes_now x.run.flash.entry ≡ Some first
  pub leaves : LeavesImage x.run x.cut image

-- each begins with the image that the one before it left
abbrev pub IsLife : Configuration → List ℕ → List Spell → List ℕ → Type 0
IsLife c first [] last = last ≡ first
IsLife c first (x ∷ xs) last = (image : List ℕ) × IsSpell c first x image × IsLife c image xs last

-- in one of these histories a job took the mark
abbrev pub IsTakenInOne : Configuration → Instance → Mark → List (List Entry) → Type 0
IsTakenInOne c i mark [] = ⊥
IsTakenInOne c i mark (h ∷ hs) = IsTakenIn c h at_first i mark h ⊎ IsTakenInOne c i mark hs

-- in each of these histories it is the mark that was acknowledged last, or a job took it after that, if not in that history
-- then in a later one
abbrev pub IsNewestOfAll : Configuration → Instance → Mark → List (List Entry) → Type 0
IsNewestOfAll c i mark [] = Unit {0}
IsNewestOfAll c i mark (h ∷ hs) = (IsNotOlder c h i mark ⊎ IsTakenInOne c i mark hs) × IsNewestOfAll c i mark hs

-- What a unit holds in the end, and so at every power cut of its life: in each instance
pub record Holds (c : Configuration) (first : List ℕ) (life : List Spell) (last : List ℕ) : Type 0 where
  -- the mark that was acknowledged last in whichever run, or one that was taken since
  pub newest : EachInstance c (found_by c last) (λ i mark. IsNewestOfAll c i mark (histories_of life))
  -- and that one was taken in one of the runs, or stood in the first image
  pub taken : (x : DeviceNumber × ℕ) → Contains (lengths_of c) x
      → (found_by c last x.0.0 ≡ found_by c first x.0.0) ⊎ IsTakenInOne c (instance_of x.0) (found_by c last x.0.0) (histories_of life)
  -- in an image that the next run can go on with
  pub sound : IsSoundFlash (making_of c) last

abbrev pub UnitsHoldMarks : Type 0
UnitsHoldMarks =
    (c : Configuration) (first : List ℕ) (life : List Spell) (last : List ℕ) → IsSoundFlash (making_of c) first → IsLife c first life last
    → Holds c first life last
