-- What the stack promises of each run over two flashes: the same as over one, of both together.
use Rattle.std.specs.Prelude.{◌≡◌, ◌⊎◌, ◌<◌, ◌≤◌, ◌+◌, ℕ, suc, Bool, true, false, not, if◌then◌else◌, IsTrue, List, [], ◌∷◌, length, Contains, Option, Some, None, IfSome}
use Rattle.block_machine.specs.nv_base.Count.{last_count, next_count, WereCounted}
use Rattle.block_machine.specs.nv_base.Entry.{ops_behind}
use Rattle.block_machine.specs.nv_base.Held.{Held}
use Rattle.block_machine.specs.nv_base.Marks.{instance_of}
use Rattle.script_walks.specs.Words.{StepKind, Cut, CutSecond}
use Rattle.block_machine.specs.Words.{Instance, Mark, Entry, Off, Found, Configuration}
use Rattle.block_machine.specs.Legal.{IsLegal}
use Rattle.block_machine.specs.History.{up_to}
use Rattle.promise_blocks.specs.Marks.{KeepsMarks, Lists, marks_in}
use Rattle.promise_blocks.specs.Counts.{KeepsCounts, counts_in, last_found}
use Rattle.promise_blocks.specs.Payment.{IsPaid}
use Rattle.promise_blocks.specs.OverDevice.{HasStarted, BeginsBefore, TellsAtMost, HasOffAt}
use Rattle.memif.specs.Told.{IfElse}
use Rattle.fls_model.specs.Told.{bytes_now}
use Rattle.promise_device.specs.Image.{IsSoundFlash, held_in}
use Rattle.promise_device.specs.FlashRun.{FlashRun, TellsBytes, TellsOperations, StartsSound, bytes_after, AreOperations}
use Rattle.promise_device.specs.Reading.{BeginsSound}
use Rattle.promise_device.specs.Bridge.{IsWornOut, IsWornBy}
use Rattle.promise_device.specs.Wear.{OperationsAreDue}
use Rattle.promise_run.specs.Beside.{Beside, AreCutImages, IsMerged, is_beside, ops_of}
use Rattle.promise_run.specs.Run.{Run, has_cutter, HasOrder, DueCut, plan_after, Event, Made, Added, CutsAre, events_in}
use Rattle.promise_run.specs.Refusals.{RefusesAsAsked}
use Rattle.promise_run.specs.Promise.{Promise, making_first, making_of}

-- a count of both flashes together
abbrev pub of_both : (FlashRun → ℕ) → Run → Beside → ℕ
of_both count r b = count r.flash + count b.flash

-- of the first k operations of both, those of one of the flashes
abbrev pub own_ops : Run → Beside → (second : Bool) → ℕ → ℕ
own_ops r b second k = ops_of second r.configuration r.history b k

-- what is found in both images: of each block in that of its own device
abbrev pub held_both : Configuration → Beside → List ℕ → List ℕ → ℕ → Held
held_both c b image other n = if b.blocks (instance_of (record { 0 = n })).block then b.reading.held other n else held_in (making_first c) image n

-- both images keep to a history
pub record KeepBoth (c : Configuration) (b : Beside) (h : List Entry) (image other : List ℕ) : Type 0 where
  pub marks : KeepsMarks c h (marks_in (held_both c b image other))
  pub sound : IsSoundFlash (making_first c) image
  pub sound_beside : IsTrue (b.reading.is_sound other)

-- a fact on the bytes of both flashes once k operations of both were made
abbrev pub IfBothAfter : Run → Beside → ℕ → (List ℕ → List ℕ → Type 0) → Type 0
IfBothAfter r b k P = IfSome (bytes_after r.flash (own_ops r b false k)) (λ image. IfSome (bytes_after b.flash (own_ops r b true k)) (P image))

-- each start-up lists what it found in the bytes of its moment
abbrev pub StartUpsFindBoth : Run → Beside → Type 0
StartUpsFindBoth r b =
    TellsBytes b.flash → BeginsSound b.reading b.flash → (marks : List (Instance × Mark)) (ops : ℕ) → Contains r.history (Found marks ops) → ops < last_count
    → IfBothAfter r b ops (λ image other. Lists r.configuration marks (marks_in (held_both r.configuration b image other)))

-- until the first operation, whatever the images: each start-up lists what stands in the bytes, and the history is the block machine's
pub record BothBeginWell (r : Run) (b : Beside) : Type 0 where
  pub found : (marks : List (Instance × Mark)) → Contains r.history (Found marks 0)
      → IfBothAfter r b 0 (λ image other. Lists r.configuration marks (marks_in (held_both r.configuration b image other)))
  pub legal : IsLegal r.configuration r.most (up_to 0 r.history)

-- any images that a power cut may leave keep to the history up to then
abbrev pub CutsKeepBoth : Run → Beside → Type 0
CutsKeepBoth r b =
    TellsOperations b.flash → BeginsSound b.reading b.flash → (k : ℕ) (image other : List ℕ) → k < last_count → AreCutImages r.configuration r.history r.flash b k image other
    → KeepBoth r.configuration b (up_to k r.history) image other

-- the bytes at the exit keep to the whole history
abbrev pub ExitKeepsBoth : Run → Beside → Type 0
ExitKeepsBoth r b =
    TellsBytes b.flash → BeginsSound b.reading b.flash → HasStarted r.history → of_both (λ f. length f.operations) r b < last_count
    → IfSome (bytes_now r.flash.exit) (λ image. IfSome (bytes_now b.flash.exit) (KeepBoth r.configuration b r.history image))

-- any images that a power cut may leave have the counts that the last start-up by then found, with the writes since
abbrev pub CutsCountBoth : Run → Beside → Type 0
CutsCountBoth r b =
    TellsOperations b.flash → BeginsSound b.reading b.flash → (k ops : ℕ) (image other : List ℕ) → k < last_count
    → AreCutImages r.configuration r.history r.flash b k image other → last_found (up_to k r.history) ≡ Some ops
    → IfBothAfter r b ops (λ first second. KeepsCounts r.configuration (up_to k r.history)
    (counts_in (held_both r.configuration b first second)) (counts_in (held_both r.configuration b image other)))

-- with this operation of one of the flashes, by its number there, the power went off
pub record HasOffOf (r : Run) (b : Beside) (second : Bool) (n : ℕ) : Type 0 where
  pub operation : ℕ
  pub whose : is_beside r.configuration r.history b operation ≡ second
  pub number : own_ops r b second operation ≡ n
  pub off : HasOffAt r.history (next_count operation)

-- a planned cut kept it from its flash: past the end of its count, or of that of both, no Off tells which
abbrev pub MayBeKeptOf : Run → Beside → (second : Bool) → (n : ℕ) → Type 0
MayBeKeptOf r b second n = IsTrue (has_cutter r.course) × ((last_count ≤ n) ⊎ ((last_count ≤ of_both (λ f. length f.operations) r b) ⊎ HasOffOf r b second n))

-- the operations are those of the flashes, but for these, each done as far as the planned cut of its flash says
abbrev pub OperationsAreBoth : Run → Beside → (own other : List ℕ) → Type 0
OperationsAreBoth r b own other =
    AreOperations r.configuration.geometry r.flash (MayBeKeptOf r b false) own × AreOperations b.reading.geometry b.flash (MayBeKeptOf r b true) other

-- POWER CUTS
-- what the Offs of a run tell of one flash: of each of its planned cuts that came, in their order, how many bytes of its operation it
-- let be done, and how many others came
pub record CutsOf : Type 0 where
  pub came : List ℕ
  pub others : ℕ

-- a step as the second flash has it: its cuts and those of the first one change places
abbrev pub exchanged : StepKind → StepKind
exchanged (Cut nth keep) = CutSecond nth keep
exchanged (CutSecond nth keep) = Cut nth keep
exchanged kind = kind

-- An Off of a flash behind so many operations of its own is the cut that is planned for it, and not for later, whose bytes are the
-- next of the flash's; or it is one of the flash's others.
abbrev pub IsOffOf : Option DueCut → (own now : ℕ) → CutsOf → CutsOf → Type 0
IsOffOf plan own now all behind =
    ((p : DueCut) × (plan ≡ Some p) × ((p.due ≤ own) ⊎ (last_count ≤ now)) × (all ≡ record behind { came = p.keep ∷ behind.came }))
    ⊎ (all ≡ record behind { others = suc behind.others })

-- Each Off is one of the first flash or one of the second, each with its own plan, by the count of its own operations among the first
-- ones of both. Behind it none is planned.
abbrev pub CutsAreBoth : (count : Bool → ℕ → ℕ) → (first second : Option DueCut) → ℕ → List Event → (own other : CutsOf) → Type 0
CutsAreBoth count first second ops [] own other = (own ≡ record { came = []; others = 0 }) × (other ≡ record { came = []; others = 0 })
CutsAreBoth count first second ops (Made kind ∷ es) own other =
    CutsAreBoth count (plan_after kind first (count false ops)) (plan_after (exchanged kind) second (count true ops)) ops es own other
CutsAreBoth count first second ops (Added (Off now) ∷ es) own other =
    ((behind : CutsOf) × IsOffOf first (count false now) now own behind × CutsAreBoth count None None now es behind other)
    ⊎ ((behind : CutsOf) × IsOffOf second (count true now) now other behind × CutsAreBoth count None None now es own behind)
CutsAreBoth count first second ops (Added e ∷ es) own other = CutsAreBoth count first second (ops_behind ops (e ∷ [])) es own other

-- the Offs of a run are these planned cuts of both flashes, and others that each flash counted
pub record CutsExplainBoth (r : Run) (b : Beside) (own other : CutsOf) : Type 0 where
  pub merged : IsMerged own.came other.came r.cuts
  pub are : CutsAreBoth (own_ops r b) None None 0 (events_in r.course r.history) own other
  pub counted : WereCounted own.others r.flash.entry.cuts r.flash.exit.cuts
  pub counted_beside : WereCounted other.others b.flash.entry.cuts b.flash.exit.cuts

-- there are such cuts
abbrev pub HasCutsOfBoth : Run → Beside → Type 0
HasCutsOfBoth r b = (own other : CutsOf) × CutsExplainBoth r b own other

-- where all operations are the first flash's, the cuts of a run over it alone are those of both
abbrev pub CutsOfOneAreBoth : Type 0
CutsOfOneAreBoth =
    (count : Bool → ℕ → ℕ) → ((k : ℕ) → count false k ≡ k) → (plan second : Option DueCut) (ops : ℕ) (es : List Event) (cuts : List ℕ) (others : ℕ)
    → CutsAre plan ops es cuts others → CutsAreBoth count plan second ops es (record { came = cuts; others = others }) (record { came = []; others = 0 })

-- Once so many operations of both were made, the flash of a number was worn out for it: once so many of its own were, which it stays.
pub record IsWornOfBoth (r : Run) (b : Beside) (k n : ℕ) (urgent : Bool) : Type 0 where
  pub second : Bool
  pub of : b.blocks (instance_of (record { 0 = n })).block ≡ second
  pub moment : ℕ
  pub by_then : k < last_count → moment ≤ own_ops r b second k
  pub is : IfElse second (IsWornBy b.reading b.flash moment n urgent) (IsWornOut (making_first r.configuration) r.flash moment n urgent)

-- each flash's faults pay for the failures of its own blocks, but where it is worn out
abbrev pub FailuresArePaidByBoth : Run → Beside → Type 0
FailuresArePaidByBoth r b =
    IsPaid (λ block. not (b.blocks block)) r.configuration (IsWornOfBoth r b) r.flash.entry.faults r.flash.exit.faults r.history
    × IsPaid b.blocks r.configuration (IsWornOfBoth r b) b.flash.entry.faults b.flash.exit.faults r.history

-- the fields of the promise over one flash, but for the Off that tells an operation in which the power went off
pub record PromiseOfBoth (r : Run) (b : Beside) : Type 0 where
  pub beside : r.beside ≡ Some b
  pub order : HasOrder r r.history
  pub power_cut : TellsOperations r.flash → StartsSound (making_first r.configuration) r.flash → CutsKeepBoth r b
  pub counts : TellsOperations r.flash → StartsSound (making_first r.configuration) r.flash → CutsCountBoth r b
  pub found : TellsBytes r.flash → StartsSound (making_first r.configuration) r.flash → StartUpsFindBoth r b
  pub at_exit : TellsBytes r.flash → StartsSound (making_first r.configuration) r.flash → ExitKeepsBoth r b
  pub block_machine : IsLegal r.configuration r.most r.history
  pub faults : FailuresArePaidByBoth r b
  pub wear : OperationsAreDue (making_of r.configuration) r.flash
  pub refusals : (id : ℕ) → RefusesAsAsked r.configuration r.course r.history id
  pub own : CutsOf
  pub other : CutsOf
  pub off : CutsExplainBoth r b own other
  pub operations : HasStarted r.history → OperationsAreBoth r b own.came other.came
  pub begins : BeginsBefore r.history
  pub counted : TellsAtMost (of_both (λ f. length f.operations) r b) r.history

-- over one flash, or over both
abbrev pub PromiseOfEither : Run → Type 0
PromiseOfEither r = Promise r ⊎ ((b : Beside) × PromiseOfBoth r b)
