-- Laws of the block machine.
use Rattle.std.specs.Prelude.{◌≡◌, ◌≢◌, ◌↔◌, ℕ, ◌+◌, ◌-◌, ◌==◌, ◌&&◌, find, true, false, ◌⊎◌, List, [], ◌∷◌, ◌++◌, length, slice_get, ◌≤◌, ◌<◌, Bool, Contains, IsSome, IsTrue, map, is_some, unwrap_or, if◌then◌else◌, Option, Some, None}
use Rattle.std.specs.Option.{option_map_or, option_and_then}
use Rattle.block_machine.specs.nv_base.Cell.{Cell, MayStand, settled_as, doubted}
use Rattle.block_machine.specs.nv_base.declared.instance.DeviceNumber.{DeviceNumber}
use Rattle.block_machine.specs.nv_base.Marks.{instance_of}
use Rattle.block_machine.specs.block_config.Lengths.{lengths_of}
use Rattle.block_machine.specs.block_config.Rules.{IsLegalConfig}
use Rattle.block_machine.specs.Words.{ReqResult, Instance, Mark, Content, Request, Reply, Accepted, Refusal, JobKind, ReadJob, Taken, Entry, Ask, Pick, Wrote, Post, Found, Configuration}
use Rattle.block_machine.specs.State.{State, InstanceState, Job, Sweep, jobs_of}
use Rattle.block_machine.specs.Order.{goes_before}
use Rattle.block_machine.specs.Blocks.{desc_of, keeps_ram, block_at, status_of, is_pending, is_in, same_instance, instance_at, indices_of, settled_at, mark_of, asked_block, job_kind, job_block, kind_of, rank_of}
use Rattle.block_machine.specs.Sweeps.{member_job, is_done}
use Rattle.block_machine.specs.Reply.{reserved_entries, fits, holds, tested, reply_of}
use Rattle.block_machine.specs.Next.{PickJob, PickMember, next_in, next_of}
use Rattle.block_machine.specs.Results.{own_of, result_of, open_sets, failed_set}
use Rattle.block_machine.specs.StartUp.{at_first, listed_mark, found_instance, found_instances}
use Rattle.block_machine.specs.Steps.{step, after, after_from, without_job, picked_job}
use Rattle.block_machine.specs.Legal.{IsAllowed, IsLegal, MayBeFound, marks_of}
use Rattle.block_machine.specs.History.{is_driver_until, up_to, MayStandIn, IsAllowedAt}
use Rattle.block_machine.specs.Prices.{sum_from}
use Rattle.block_machine.specs.Accepted.{IsAccepted, IsBroughtBy, IsNotOlder}
use Rattle.block_laws.specs.Consistent.{Each, Ascend, AreApart, IsConsistent}

-- HISTORIES

-- one entry more is one step more
abbrev pub HistoriesStep : Type 0
HistoriesStep = (c : Configuration) (h : List Entry) (e : Entry) → after c (h ++ e ∷ []) ≡ step c (after c h) e

-- more entries go on from the state after the first ones
abbrev pub HistoriesGoOn : Type 0
HistoriesGoOn = (c : Configuration) (s : State) (es more : List Entry) → after_from c s (es ++ more) ≡ after_from c (after_from c s es) more

-- a legal history stays legal with an entry that is allowed behind it
abbrev pub HistoriesStayLegal : Type 0
HistoriesStayLegal = (c : Configuration) (cap : ℕ) (h : List Entry) (e : Entry) → IsLegal c cap h → IsAllowed c cap (after c h) e → IsLegal c cap (h ++ e ∷ [])

-- a beginning of a legal history is legal
abbrev pub BeginningsAreLegal : Type 0
BeginningsAreLegal = (c : Configuration) (cap : ℕ) (h more : List Entry) → IsLegal c cap (h ++ more) → IsLegal c cap h

-- the state counts the entries
abbrev pub EntriesAreCounted : Type 0
EntriesAreCounted = (c : Configuration) (h : List Entry) → (after c h).count ≡ length h

-- a request leaves every instance as it was, and every block but its own
abbrev pub AsksAreLocal : Type 0
AsksAreLocal =
    (c : Configuration) (s : State) (caller : ℕ) (r : Request) (reply : Reply)
    → ((step c s (Ask caller r reply)).instances ≡ s.instances)
    × ((id : ℕ) → id ≢ asked_block r → block_at (step c s (Ask caller r reply)) id ≡ block_at s id)

-- AN OPERATION OF THE FLASH

-- an Ask, or a driver entry with more than k operations, leaves the history up to k alone
abbrev pub LateEntriesAreCutOff : Type 0
LateEntriesAreCutOff = (k : ℕ) (h : List Entry) (e : Entry) → is_driver_until k e ≡ false → up_to k (h ++ e ∷ []) ≡ up_to k h

-- a driver entry with at most k operations ends the history up to k
abbrev pub EarlyEntriesAreKept : Type 0
EarlyEntriesAreKept = (k : ℕ) (h : List Entry) (e : Entry) → is_driver_until k e ≡ true → up_to k (h ++ e ∷ []) ≡ h ++ e ∷ []

-- it is a beginning of the history
abbrev pub UpToIsABeginning : Type 0
UpToIsABeginning = (k : ℕ) (h : List Entry) → (more : List Entry) × (h ≡ up_to k h ++ more)

-- from the operations of the last driver entry on, the marks that are allowed are those that may stand now
abbrev pub AllowedStandNow : Type 0
AllowedStandNow =
    (c : Configuration) (h : List Entry) (k : ℕ) (i : Instance) (mark : Mark) → (after c h).ops ≤ k
    → IsAllowedAt c h k i mark ↔ MayStandIn (instance_at (after c h) i) mark

-- and the instances those of now
abbrev pub InstancesStandNow : Type 0
InstancesStandNow = (c : Configuration) (h : List Entry) (k : ℕ) → (after c h).ops ≤ k → (after c (up_to k h)).instances ≡ (after c h).instances

-- RESULTS

-- Where the operations of a job failed on one of the sets that the history leaves open, a failed set explains its Post, and
-- it has no more instances than failed.
abbrev pub FailedSetsAreLeast : Type 0
FailedSetsAreLeast =
    (c : Configuration) (s : State) (j : Job) (failed : List ℕ) → let o = own_of c s (job_block j) in
    Contains (open_sets o j (kind_of j)) failed
    → IsSome (failed_set o j (result_of o j failed)) × (length (unwrap_or (failed_set o j (result_of o j failed)) []) ≤ length failed)

-- REPLIES

-- an accepted request has passed each test of its row
abbrev pub AcceptedPass : Type 0
AcceptedPass =
    (c : Configuration) (cap : ℕ) (s : State) (r : Request) (x : Refusal) → reply_of c cap s r ≡ Accepted → Contains (tested r) x → holds c cap s x r ≡ false

-- so many entries more have room beside those so far and the reserved ones
abbrev pub FittingHasRoom : Type 0
FittingHasRoom = (c : Configuration) (cap : ℕ) (s : State) (more : ℕ) → (fits c cap s more ≡ true) ↔ (s.count + reserved_entries c s + more ≤ cap)

-- THE NEXT JOB AND THE JOB IN HAND

-- the next job is one of those that wait
abbrev pub NextIsWaiting : Type 0
NextIsWaiting = (c : Configuration) (jobs : List Job) (j : Job) → next_in c jobs ≡ Some j → (before after : List Job) × (jobs ≡ before ++ j ∷ after)

-- and none of them goes before it
abbrev pub NextGoesFirst : Type 0
NextGoesFirst = (c : Configuration) (jobs : List Job) (j x : Job) → next_in c jobs ≡ Some j → Contains jobs x → goes_before (rank_of c x) (rank_of c j) ≡ false

-- where there is none, no job waits
abbrev pub NoneWaits : Type 0
NoneWaits = (c : Configuration) (jobs : List Job) → next_in c jobs ≡ None → jobs ≡ []

-- a Pick takes the next job in hand, one of a member the member
abbrev pub PickTakesInHand : Type 0
PickTakesInHand =
    (c : Configuration) (s : State) (j : Job) (sw : Sweep) (id block ops : ℕ) (kind : JobKind) (t : Taken)
    → (next_of c s ≡ PickJob j → (step c s (Pick block kind t ops)).hand ≡ Some (picked_job t (if is_some s.hand then 2 else 0) j))
    × (next_of c s ≡ PickMember sw id → (step c s (Pick block kind t ops)).hand ≡ Some (picked_job t (if is_some s.hand then 2 else 0) (member_job c sw id)))

-- a Wrote uses an entry of the job in hand, and a Post ends it
abbrev pub EntriesOfTheJobInHand : Type 0
EntriesOfTheJobInHand =
    (c : Configuration) (s : State) (j : Job) (i : Instance) (mark : Mark) (block refused ops : ℕ) (r : ReqResult) (given : Option (List ℕ)) → s.hand ≡ Some j
    → ((step c s (Wrote i mark ops)).hand ≡ Some (record j { reserved = j.reserved - 1; written = j.written ++ i.index ∷ [] }))
    × ((step c s (Post block r given refused ops)).hand ≡ None)

-- START-UP

-- what a start-up lists is what is settled behind it
abbrev pub FoundIsSettled : Type 0
FoundIsSettled =
    (c : Configuration) (cap : ℕ) (s : State) (marks : List (Instance × Mark)) (ops : ℕ) → IsAllowed c cap s (Found marks ops)
    → (marks ≡ marks_of (step c s (Found marks ops)).instances) × ((step c s (Found marks ops)).instances ≡ found_instances c marks)

-- THE STATE AFTER A LEGAL HISTORY

-- an allowed entry leaves a consistent state consistent
abbrev pub AllowedStepsStayConsistent : Type 0
AllowedStepsStayConsistent = (c : Configuration) (cap : ℕ) (s : State) (e : Entry) → IsConsistent c s → IsAllowed c cap s e → IsConsistent c (step c s e)

-- so the state after a legal history is
abbrev pub LegalStatesAreConsistent : Type 0
LegalStatesAreConsistent = (c : Configuration) (cap : ℕ) (h : List Entry) → IsLegal c cap h → IsConsistent c (after c h)

abbrev pub is_found : Entry → Bool
is_found (Found marks ops) = true
is_found e = false

-- each entry of the driver but a start-up uses one that was reserved
abbrev pub uses_reserved : Entry → Bool
uses_reserved (Ask caller r reply) = false
uses_reserved (Found marks ops) = false
uses_reserved e = true

abbrev pub DriverEntriesAreReserved : Type 0
DriverEntriesAreReserved =
    (c : Configuration) (cap : ℕ) (s : State) (e : Entry) → IsConsistent c s → IsAllowed c cap s e → uses_reserved e ≡ true
    → reserved_entries c (step c s e) < reserved_entries c s

-- so the entries of a legal history and the reserved ones are within the cap
abbrev pub EntriesFit : Type 0
EntriesFit = (c : Configuration) (cap : ℕ) (h : List Entry) → IsLegal c cap h → length h + reserved_entries c (after c h) ≤ cap

-- the block whose state an entry may change, where it changes one
abbrev pub entry_block : Entry → ℕ
entry_block (Ask caller r reply) = asked_block r
entry_block (Pick block kind t ops) = block
entry_block (Post block r given refused ops) = block
entry_block e = 0

-- every other one, with its status, stays as it was, but at a start-up
abbrev pub EntriesAreLocal : Type 0
EntriesAreLocal =
    (c : Configuration) (cap : ℕ) (s : State) (e : Entry) (id : ℕ) → IsAllowed c cap s e → is_found e ≡ false → id ≢ entry_block e
    → block_at (step c s e) id ≡ block_at s id

-- of jobs with numbers of their own one is taken out, and nothing else
abbrev pub JobsSplit : Type 0
JobsSplit =
    (before : List Job) (j : Job) (after : List Job) → AreApart (before ++ j ∷ after)
    → (without_job j.number (before ++ j ∷ after) ≡ before ++ after) × AreApart (before ++ after)

-- MARKS

-- a mark that may stand in an instance after a legal history was found there, or a job took it behind its accepted Ask
abbrev pub MarksAreBrought : Type 0
MarksAreBrought =
    (c : Configuration) (cap : ℕ) (h : List Entry) (i : Instance) (mark : Mark) → IsLegal c cap h → MayStandIn (instance_at (after c h) i) mark
    → IsBroughtBy c h at_first i mark h

-- and it is not older than the last that was acknowledged
abbrev pub MarksAreNotOlder : Type 0
MarksAreNotOlder =
    (c : Configuration) (cap : ℕ) (h : List Entry) (i : Instance) (mark : Mark) → IsLegal c cap h → MayStandIn (instance_at (after c h) i) mark
    → IsNotOlder c h i mark

-- with a configuration that keeps its rules it is whole, and so accepted
abbrev pub MarksAreAccepted : Type 0
MarksAreAccepted =
    (c : Configuration) (cap : ℕ) (h : List Entry) (i : Instance) (mark : Mark) → IsLegalConfig c → IsLegal c cap h
    → MayStandIn (instance_at (after c h) i) mark → IsAccepted c h i mark

-- the mark of the job in hand may stand in each instance that it works on
abbrev pub MarksInHandStand : Type 0
MarksInHandStand =
    (c : Configuration) (cap : ℕ) (h : List Entry) (j : Job) (mark : Mark) (i : Instance) (x : InstanceState) → IsLegal c cap h
    → (after c h).hand ≡ Some j → mark_of j ≡ Some mark → i.block ≡ job_block j → is_in (indices_of c (after c h) (job_block j)) i.index ≡ true
    → instance_at (after c h) i ≡ Some x → MayStand x.cell mark

-- it is a doubt in each that it has not written yet
abbrev pub MarksInHandAreDoubts : Type 0
MarksInHandAreDoubts =
    (c : Configuration) (cap : ℕ) (h : List Entry) (j : Job) (mark : Mark) (i : Instance) (x : InstanceState) → IsLegal c cap h
    → (after c h).hand ≡ Some j → mark_of j ≡ Some mark → i.block ≡ job_block j → is_in (indices_of c (after c h) (job_block j)) i.index ≡ true
    → is_in j.written i.index ≡ false → instance_at (after c h) i ≡ Some x → Contains x.cell.doubts mark

-- where a mark is listed of each configured instance that may stand there, a later start-up may find them
abbrev pub FoundMayStand : Type 0
FoundMayStand =
    (c : Configuration) (cap : ℕ) (h : List Entry) (marks : List (Instance × Mark)) → IsLegal c cap h → IsTrue (after c h).started
    → ((n : DeviceNumber × ℕ) → Contains (lengths_of c) n → MayStandIn (instance_at (after c h) (instance_of n.0)) (listed_mark marks (instance_of n.0)))
    → MayBeFound marks (after c h).instances

-- JOBS AND THEIR BLOCKS

-- after a legal history the block of each job is PENDING
abbrev pub JobsArePending : Type 0
JobsArePending =
    (c : Configuration) (cap : ℕ) (h : List Entry) (j : Job) → IsLegal c cap h → Contains (jobs_of (after c h)) j → job_block j < length (after c h).blocks
    → is_pending (status_of (after c h) (job_block j)) ≡ true

-- which is a configured one
abbrev pub JobsAreConfigured : Type 0
JobsAreConfigured =
    (c : Configuration) (cap : ℕ) (h : List Entry) (j : Job) → IsLegalConfig c → IsLegal c cap h → Contains (jobs_of (after c h)) j
    → job_block j ≤ length c.blocks

-- and no other job is on it
abbrev pub JobsHaveTheirBlocks : Type 0
JobsHaveTheirBlocks =
    (c : Configuration) (cap : ℕ) (h : List Entry) (before : List Job) (j : Job) (more : List Job) → IsLegal c cap h
    → jobs_of (after c h) ≡ before ++ j ∷ more → Each (λ x. job_block x ≢ job_block j) (before ++ more)

-- there are the configured blocks beside id 0, and the configured instances in their order
abbrev pub PlacesAreConfigured : Type 0
PlacesAreConfigured =
    (c : Configuration) (cap : ℕ) (h : List Entry) → IsLegal c cap h → IsTrue (after c h).started
    → (length (after c h).blocks ≡ length c.blocks + 1) × (map (λ x. x.instance) (after c h).instances ≡ map (λ x. instance_of x.0) (lengths_of c))

-- with a configuration that keeps its rules, what a job writes and the RAM that the manager keeps have their block's length
abbrev pub ContentsHaveLengths : Type 0
ContentsHaveLengths =
    (c : Configuration) (cap : ℕ) (h : List Entry) → IsLegalConfig c → IsLegal c cap h
    → ((j : Job) (x : List ℕ × ℕ) → Contains (jobs_of (after c h)) j → j.content ≡ Some x → length x.0 ≡ (desc_of c (job_block j)).length)
    × (IsTrue (after c h).started → (id : ℕ) → keeps_ram c id ≡ true → length (block_at (after c h) id).ram ≡ (desc_of c id).length)

-- the job in hand has taken what it takes, and writes its instances in order
abbrev pub WrittenAscends : Type 0
WrittenAscends = (c : Configuration) (cap : ℕ) (h : List Entry) (j : Job) → IsLegal c cap h → (after c h).hand ≡ Some j → Ascend j.written × IsSome j.taken

-- a Post gives its result to its block as status, and an accepted request for a job PENDING
abbrev pub EntriesGiveStatus : Type 0
EntriesGiveStatus = (c : Configuration) (cap : ℕ) (s : State) (block refused ops caller : ℕ) (r : ReqResult) (given : Option (List ℕ)) (request : Request)
    → (IsAllowed c cap s (Post block r given refused ops) → block < length s.blocks → status_of (step c s (Post block r given refused ops)) block ≡ r)
    × (is_some (job_kind request) ≡ true → asked_block request < length s.blocks → is_pending (status_of (step c s (Ask caller request Accepted)) (asked_block request)) ≡ true)

-- a Post never has the result PENDING
abbrev pub PostsAreNotPending : Type 0
PostsAreNotPending =
    (c : Configuration) (cap : ℕ) (s : State) (block refused ops : ℕ) (r : ReqResult) (given : Option (List ℕ))
    → IsAllowed c cap s (Post block r given refused ops) → is_pending r ≡ false

-- a PENDING block has a job that makes it so, id 0 a request on all blocks
abbrev pub PendingHaveJobs : Type 0
PendingHaveJobs =
    (c : Configuration) (cap : ℕ) (h : List Entry) (id : ℕ) → IsLegal c cap h → is_pending (status_of (after c h) id) ≡ true
    → ((id ≡ 0) × IsSome (after c h).sweep) ⊎ ((j : Job) × Contains (jobs_of (after c h)) j × (job_block j ≡ id))

-- what a read gives: the settled content of one of its own instances, or the ROM dataset that the index names
abbrev pub GivesSettled : Configuration → State → ℕ → Option (List ℕ) → Type 0
GivesSettled c s id given =
    ((index : ℕ) × (bytes : List ℕ) × (given ≡ Some bytes) × Contains (indices_of c s id) index × (settled_at s (record { block = id; index = index }) ≡ Content bytes))
    ⊎ ((indices_of c s id ≡ []) × (given ≡ slice_get (desc_of c id).rom ((block_at s id).index - (desc_of c id).nv)))

-- a read that is posted 0 or 7 does so
abbrev pub ReadsGiveSettled : Type 0
ReadsGiveSettled =
    (c : Configuration) (cap : ℕ) (s : State) (j : Job) (block refused ops : ℕ) (r : ReqResult) (given : Option (List ℕ))
    → IsAllowed c cap s (Post block r given refused ops) → s.hand ≡ Some j
    → kind_of j ≡ ReadJob → is_done r ≡ true → GivesSettled c s block given

-- the cell of an instance behind an entry that is no start-up: a Pick adds the mark of the job that it takes in hand to the
-- doubts of those that it works on, a Wrote settles its mark, and nothing else changes one
abbrev pub cell_by : Configuration → State → Instance → Cell → Entry → Cell
cell_by c s i cell (Pick block kind t ops) =
    option_map_or (λ mark. if (i.block == block) && is_in (indices_of c s block) i.index then doubted mark cell else cell) (option_and_then mark_of (step c s (Pick block kind t ops)).hand) cell
cell_by c s i cell (Wrote w mark ops) = if same_instance w i then settled_as mark else cell
cell_by c s i cell e = cell

abbrev pub CellsChange : Type 0
CellsChange =
    (c : Configuration) (cap : ℕ) (s : State) (e : Entry) (i : Instance) (x : InstanceState) → IsAllowed c cap s e → is_found e ≡ false
    → instance_at s i ≡ Some x
    → instance_at (step c s e) i ≡ Some (record x { cell = cell_by c s i x.cell e })

-- and a start-up settles each configured instance at the mark that it lists
abbrev pub FoundCells : Type 0
FoundCells =
    (c : Configuration) (s : State) (marks : List (Instance × Mark)) (ops : ℕ) (n : DeviceNumber × ℕ) → Contains (lengths_of c) n
    → instance_at (step c s (Found marks ops)) (instance_of n.0) ≡ Some (found_instance marks (instance_of n.0))

-- the sum of a price over the entries grows by that of one more
abbrev pub SumsGrow : Type 0
SumsGrow =
    (c : Configuration) (price : State → Entry → ℕ) (s : State) (es : List Entry) (e : Entry)
    → sum_from c price s (es ++ e ∷ []) ≡ sum_from c price s es + price (after_from c s es) e

-- the job on a block that is found among jobs is one of them
abbrev pub JobIsFound : Type 0
JobIsFound =
    (jobs : List Job) (id : ℕ) (j : Job) → find (λ x. job_block x == id) jobs ≡ Some j
    → (job_block j ≡ id) × ((before after : List Job) × (jobs ≡ before ++ j ∷ after))
