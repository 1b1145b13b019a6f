-- What the stack promises of each run over one flash. Its fields, read one after another, are one sentence, and behind it the bookkeeping.
use Rattle.std.specs.Prelude.{◌≡◌, ◌⊎◌, ◌<◌, ◌≤◌, ℕ, IsTrue, List, length, Contains, Some, IfSome}
use Rattle.block_machine.specs.nv_base.Count.{last_count, next_count}
use Rattle.block_machine.specs.block_config.Lengths.{lengths_of, device_lengths}
use Rattle.block_machine.specs.block_config.Sizes.{measures_of}
use Rattle.block_machine.specs.Words.{Instance, Mark, Entry, Found, Configuration}
use Rattle.block_machine.specs.Legal.{IsLegal}
use Rattle.block_machine.specs.History.{up_to}
use Rattle.promise_blocks.specs.Marks.{KeepsMarks, Lists}
use Rattle.promise_blocks.specs.Counts.{KeepsCounts, counts_in, last_found}
use Rattle.promise_blocks.specs.Payment.{IsPaid, every_block}
use Rattle.promise_blocks.specs.OverDevice.{HasStarted, BeginsBefore, TellsAtMost, HasOffAt}
use Rattle.fls_model.specs.Told.{bytes_now}
use Rattle.promise_device.specs.Image.{IsSoundFlash, found_in, held_in}
use Rattle.promise_device.specs.FlashRun.{TellsBytes, TellsOperations, StartsSound, IsCutImage, WentOff, bytes_after, AreOperations}
use Rattle.promise_device.specs.Making.{Making}
use Rattle.promise_device.specs.Bridge.{IsWornOut}
use Rattle.promise_device.specs.Wear.{OperationsAreDue}
use Rattle.promise_run.specs.Run.{Run, HasOrder, has_cutter, CutsExplain}
use Rattle.promise_run.specs.Refusals.{RefusesAsAsked}

-- the device is made for this configuration, over its banks
abbrev pub making_of : Configuration → Making
making_of c = record { geometry = c.geometry; banks = c.banks; numbers = lengths_of c; reserve = (measures_of c.geometry.page c.blocks).urgent }

-- beside a second device it has its own numbers alone
abbrev pub making_first : Configuration → Making
making_first c = record (making_of c) { numbers = device_lengths 0 c }

-- what a start-up finds in an image
abbrev pub found_by : Configuration → List ℕ → ℕ → Mark
found_by c image = found_in (making_of c) image

-- an image keeps to a history: what is found in it of each instance does, and it is sound
pub record Keeps (c : Configuration) (h : List Entry) (image : List ℕ) : Type 0 where
  pub marks : KeepsMarks c h (found_by c image)
  pub sound : IsSoundFlash (making_of c) image

-- each start-up lists what it found in the bytes of its moment
abbrev pub StartUpsFind : Run → Type 0
StartUpsFind r =
    (marks : List (Instance × Mark)) (ops : ℕ) → Contains r.history (Found marks ops) → ops < last_count
    → IfSome (bytes_after r.flash ops) (λ image. Lists r.configuration marks (found_by r.configuration image))

-- Until the first operation, whatever the image: each start-up lists what stands in the bytes, and the history is the block machine's.
pub record BeginsWell (r : Run) : Type 0 where
  pub found : (marks : List (Instance × Mark)) → Contains r.history (Found marks 0) → IfSome (bytes_after r.flash 0) (λ image. Lists r.configuration marks (found_by r.configuration image))
  pub legal : IsLegal r.configuration r.most (up_to 0 r.history)

-- each image that a power cut may leave keeps to the history up to then
abbrev pub CutsKeep : Run → Type 0
CutsKeep r = (k : ℕ) (image : List ℕ) → k < last_count → IsCutImage r.flash k image → Keeps r.configuration (up_to k r.history) image

-- the bytes at the exit keep to the whole history
abbrev pub ExitKeeps : Run → Type 0
ExitKeeps r = HasStarted r.history → length r.flash.operations < last_count → IfSome (bytes_now r.flash.exit) (Keeps r.configuration r.history)

-- how often each instance was written, by what an image has of it
abbrev pub counts_by : Configuration → List ℕ → ℕ → ℕ
counts_by c image = counts_in (held_in (making_of c) image)

-- each image that a power cut may leave has the counts that the last start-up by then found, with the writes since
abbrev pub CutsCount : Run → Type 0
CutsCount r =
    (k ops : ℕ) (image : List ℕ) → k < last_count → IsCutImage r.flash k image → last_found (up_to k r.history) ≡ Some ops
    → IfSome (bytes_after r.flash ops)
    (λ first. KeepsCounts r.configuration (up_to k r.history) (counts_by r.configuration first) (counts_by r.configuration image))

-- A planned cut kept this operation from the flash: the power went off in it. Past the end of the count no Off tells which.
abbrev pub MayBeKept : Run → ℕ → Type 0
MayBeKept r k = IsTrue (has_cutter r.course) × ((last_count ≤ k) ⊎ HasOffAt r.history (next_count k))

-- the operations are the flash's, but for these, each done as far as its cut says
abbrev pub OperationsAre : Run → Type 0
OperationsAre r = AreOperations r.configuration.geometry r.flash (MayBeKept r) r.cuts

-- the flash's faults pay for each failure, but where the flash is worn out
abbrev pub FailuresArePaid : Run → Type 0
FailuresArePaid r = IsPaid every_block r.configuration (IsWornOut (making_of r.configuration) r.flash) r.flash.entry.faults r.flash.exit.faults r.history

pub record Promise (r : Run) : Type 0 where
  -- For every order of callers' requests and main-function turns,
  pub order : HasOrder r r.history
  -- and a power cut before or within any flash operation, start-up finds in each stored instance one whole accepted mark,
  -- not older than the last acknowledged by then;
  pub power_cut : TellsOperations r.flash → StartsSound (making_of r.configuration) r.flash → CutsKeep r
  -- with the count of its writes;
  pub counts : TellsOperations r.flash → StartsSound (making_of r.configuration) r.flash → CutsCount r
  pub found : TellsBytes r.flash → StartsSound (making_of r.configuration) r.flash → StartUpsFind r
  pub at_exit : TellsBytes r.flash → StartsSound (making_of r.configuration) r.flash → ExitKeeps r
  -- every reply, choice and result is the block machine's over the one history;
  pub block_machine : IsLegal r.configuration r.most r.history
  -- a failure result comes only from counted faults, refused copies or what the flash holds written.
  pub faults : FailuresArePaid r
  -- Each operation of the flash is due: an erase where the active bank has no room, a program of a page that is blank.
  pub wear : OperationsAreDue (making_of r.configuration) r.flash
  pub refusals : (id : ℕ) → RefusesAsAsked r.configuration r.course r.history id
  -- An Off is planned, or the flash counted a cut; and where the power went off in an operation it has its Off.
  pub off : CutsExplain r.course r.history r.cuts r.flash.entry.cuts r.flash.exit.cuts
  pub power : (k : ℕ) → k < last_count → WentOff r.flash k → HasOffAt r.history (next_count k)
  -- The operations are those of the flash, but for one at each planned cut, of which so many bytes were done; the entries count them.
  pub operations : HasStarted r.history → OperationsAre r
  pub begins : BeginsBefore r.history
  pub counted : TellsAtMost (length r.flash.operations) r.history
