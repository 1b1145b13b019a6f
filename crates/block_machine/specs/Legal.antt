-- Which entry may come in a state, and which histories are legal.
use Rattle.std.specs.Prelude.{◌≡◌, ◌⊎◌, ◌≤◌, ◌<◌, ℕ, ◌+◌, ◌==◌, ◌&&◌, not, nat_lt, Bool, true, false, List, [], ◌∷◌, length, IsTrue, IsSome, Option, Some, None, ◌||◌, if◌then◌else◌}
use Rattle.std.specs.List.{list_all}
use Rattle.nv_base.specs.Cell.{MayStand}
use Rattle.nv_base.specs.Marks.{listed}
use Rattle.block_machine.specs.Words.{NotOk, Instance, Mark, Content, Request, Write, Reply, JobKind, WriteJob, ReadAllJob, WriteAllJob, Taken, TookNothing, TookContent, TookRefused, TookStale, Entry, Ask, Pick, Wrote, Post, Off, Found, BlockDesc, Configuration}
use Rattle.block_machine.specs.State.{State, BlockState, InstanceState, Job, Sweep}
use Rattle.block_machine.specs.Blocks.{desc_of, block_at, is_synchronized, is_in, indices_of, job_block, kind_of, names_ram, asked_store, rank_of, records_of, mark_of}
use Rattle.block_machine.specs.Sweeps.{member_job, sweep_result}
use Rattle.block_machine.specs.Reply.{reply_of, fits}
use Rattle.block_machine.specs.Next.{Next, PickJob, BeginSweep, PickMember, PostMember, EndSweep, next_of}
use Rattle.block_machine.specs.Results.{Answer, own_of, result_of, failed_set, unpicked_result}
use Rattle.block_machine.specs.StartUp.{at_first, found_instances, listed_mark}
use Rattle.block_machine.specs.Steps.{step}

-- ASK

-- a request carries the number of a store only where it writes synchronized RAM
abbrev pub HasStore : Configuration → Request → Type 0
HasStore c (Write block (Some content) store) = store ≡ 0
HasStore c (Write block None store) = (IsTrue (is_synchronized (desc_of c block).ram)) ⊎ (store ≡ 0)
HasStore c r = Unit {0}

pub record IsAsk (c : Configuration) (cap : ℕ) (s : State) (caller : ℕ) (r : Request) (reply : Reply) : Type 0 where
  pub started : IsTrue s.started
  pub caller_small : caller ≤ 15
  pub store : HasStore c r
  pub room : IsTrue (fits c cap s 1)
  pub replies : reply ≡ reply_of c cap s r

-- DRIVER ENTRIES

-- the driver works from a start-up to the next Off, and the operations never fall
pub record IsDriving (s : State) (ops : ℕ) : Type 0 where
  pub started : IsTrue s.started
  pub on : IsTrue (not s.off)
  pub grows : s.ops ≤ ops

-- PICK

-- a content of a synchronized block that is as new as the request asks for, or why none was taken
abbrev pub TakesCopy : BlockDesc → ℕ → Taken → Type 0
TakesCopy d store TookNothing = ⊥
TakesCopy d store (TookContent bytes number) = (length bytes ≡ d.length) × (store ≤ number)
TakesCopy d store (TookRefused count) = count ≡ d.repeats + 1
TakesCopy d store (TookStale asked got count) = (asked ≡ store) × (got < store) × (count ≡ d.repeats + 1)

-- A write takes its own content, or the one that it took before it was interrupted; a RAM write takes a copy where the
-- RAM is synchronized, else the RAM block as it is.
abbrev pub TakesForWrite : BlockDesc → BlockState → Job → Option (List ℕ × ℕ) → (synchronized : Bool) → Taken → Type 0
TakesForWrite d b j (Some x) synchronized t = t ≡ TookContent x.0 x.1
TakesForWrite d b j None true t = TakesCopy d (asked_store j.request) t
TakesForWrite d b j None false t = t ≡ TookContent b.ram 0

-- only a write takes something
abbrev pub TakesBy : BlockDesc → BlockState → Job → JobKind → Taken → Type 0
TakesBy d b j WriteJob t = TakesForWrite d b j j.content (is_synchronized d.ram) t
TakesBy d b j kind t = t ≡ TookNothing

-- a record is left to write, or the job writes none at all
abbrev pub is_unfinished : Configuration → Job → Bool
is_unfinished c j = nat_lt (length j.written) (records_of c j) || (records_of c j == 0)

-- A job in hand may be interrupted by an immediate one, where it isn't immediate itself, and is no write that has written all of its instances.
pub record MayInterrupt (c : Configuration) (h : Job) (j : Job) : Type 0 where
  pub immediate : IsTrue (rank_of c j).immediate
  pub standard : IsTrue (not (rank_of c h).immediate)
  pub unfinished : IsTrue (is_unfinished c h)

-- no job is in hand, or this one may interrupt it
abbrev pub HandIsFree : Configuration → Option Job → Job → Type 0
HandIsFree c None j = Unit {0}
HandIsFree c (Some h) j = MayInterrupt c h j

-- the Pick of a job on one block
pub record IsPick (c : Configuration) (s : State) (j : Job) (block : ℕ) (kind : JobKind) (t : Taken) : Type 0 where
  pub free : HandIsFree c s.hand j
  pub same_block : block ≡ job_block j
  pub same_kind : kind ≡ kind_of j
  pub takes : TakesBy (desc_of c (job_block j)) (block_at s (job_block j)) j (kind_of j) t

-- the Pick of a request on all blocks
pub record IsSweepPick (sw : Sweep) (block : ℕ) (kind : JobKind) (t : Taken) : Type 0 where
  pub all_blocks : block ≡ 0
  pub same_kind : kind ≡ (if sw.writes then WriteAllJob else ReadAllJob)
  pub takes_nothing : t ≡ TookNothing

abbrev pub MayPick : Configuration → State → ℕ → JobKind → Taken → Next → Type 0
MayPick c s block kind t (PickJob j) = IsPick c s j block kind t
MayPick c s block kind t (PickMember sw id) = IsPick c s (member_job c sw id) block kind t
MayPick c s block kind t (BeginSweep sw) = IsSweepPick sw block kind t
MayPick c s block kind t next = ⊥

-- WROTE

-- A job in hand wrote its mark to one of its instances: once since its Pick, copy 0 not after copy 1. So it wrote no more than its
-- records, which `left` says for the entries that are reserved for them.
pub record IsWrote (c : Configuration) (s : State) (j : Job) (i : Instance) (mark : Mark) : Type 0 where
  pub same_block : i.block ≡ job_block j
  pub one_of_its : IsTrue (is_in (indices_of c s (job_block j)) i.index)
  pub in_order : IsTrue (list_all (λ index. nat_lt index i.index) j.written)
  pub left : length j.written < records_of c j
  pub marks : mark_of j ≡ Some mark

abbrev pub MayWrite : Configuration → State → Instance → Mark → Option Job → Type 0
MayWrite c s i mark (Some j) = IsWrote c s j i mark
MayWrite c s i mark None = ⊥

-- POST

-- a result and what it gives keep to the table of results, and no copy was refused
abbrev pub ByTable : ℕ → Type 0 → Type 0
ByTable refused Keeps = (refused ≡ 0) × Keeps

-- there was a content for synchronized RAM, and each copy in was refused
pub record IsCopyRefused (d : BlockDesc) (ram : Bool) (offered : Option (List ℕ)) (answer : Answer) (refused : ℕ) : Type 0 where
  pub synchronized : IsTrue (ram && is_synchronized d.ram)
  pub something : IsSome offered
  pub fails : answer ≡ (NotOk, None)
  pub each_try : refused ≡ d.repeats + 1

-- the Post of a job in hand: some failed set explains it, or else each copy in was refused
pub record IsPost (c : Configuration) (s : State) (j : Job) (block : ℕ) (answer : Answer) (refused : ℕ) : Type 0 where
  pub same_block : block ≡ job_block j
  pub results : ByTable refused (IsSome (failed_set (own_of c s (job_block j)) j answer))
      ⊎ IsCopyRefused (desc_of c (job_block j)) (names_ram j.request) (result_of (own_of c s (job_block j)) j []).1 answer refused

-- the Post of a member that isn't picked
pub record IsMemberPost (c : Configuration) (s : State) (sw : Sweep) (id block : ℕ) (answer : Answer) (refused : ℕ) : Type 0 where
  pub same_block : block ≡ id
  pub results : ByTable refused (answer ≡ unpicked_result (own_of c s id) sw.writes) ⊎ IsCopyRefused (desc_of c id) true (unpicked_result (own_of c s id) sw.writes).1 answer refused

-- the Post of id 0
pub record IsSweepPost (sw : Sweep) (block : ℕ) (answer : Answer) (refused : ℕ) : Type 0 where
  pub all_blocks : block ≡ 0
  pub results : answer ≡ (sweep_result sw, None)
  pub no_copy : refused ≡ 0

abbrev pub MayPostNext : Configuration → State → ℕ → Answer → ℕ → Next → Type 0
MayPostNext c s block answer refused (PostMember sw id) = IsMemberPost c s sw id block answer refused
MayPostNext c s block answer refused (EndSweep sw) = IsSweepPost sw block answer refused
MayPostNext c s block answer refused next = ⊥

abbrev pub MayPost : Configuration → State → ℕ → Answer → ℕ → Option Job → Type 0
MayPost c s block answer refused (Some j) = IsPost c s j block answer refused
MayPost c s block answer refused None = MayPostNext c s block answer refused (next_of c s)

-- FOUND

-- what is found of each of these instances may stand there
abbrev pub MayBeFound : List (Instance × Mark) → List InstanceState → Type 0
MayBeFound marks [] = Unit {0}
MayBeFound marks (x ∷ xs) = MayStand x.cell (listed_mark marks x.instance) × MayBeFound marks xs

-- the marks of these instances, without the erased ones
abbrev pub marks_of : List InstanceState → List (Instance × Mark)
marks_of [] = []
marks_of (x ∷ xs) = listed x.instance x.cell.settled (marks_of xs)

-- a content has the length of its block
abbrev pub has_length : Configuration → Instance → Mark → Bool
has_length c i (Content bytes) = length bytes == (desc_of c i.block).length
has_length c i mark = true

pub record IsFound (c : Configuration) (cap : ℕ) (s : State) (marks : List (Instance × Mark)) (ops : ℕ) : Type 0 where
  -- it fits with one Off behind it
  pub room : s.count + 2 ≤ cap
  pub grows : s.ops ≤ ops
  -- it lists configured instances alone, ascending, none twice and none that is erased
  pub lists : marks ≡ marks_of (found_instances c marks)
  pub lengths : IsTrue (list_all (λ x. has_length c x.0 x.1) marks)
  -- after an earlier start-up: it finds nothing that was never written, and nothing that is older than it may be
  pub stands : MayBeFound marks s.instances

-- LEGAL HISTORIES

-- this entry may come in this state
abbrev pub IsAllowed : Configuration → ℕ → State → Entry → Type 0
IsAllowed c cap s (Ask caller r reply) = IsAsk c cap s caller r reply
IsAllowed c cap s (Pick block kind t ops) = IsDriving s ops × MayPick c s block kind t (next_of c s)
IsAllowed c cap s (Wrote i mark ops) = IsDriving s ops × MayWrite c s i mark s.hand
IsAllowed c cap s (Post block r given refused ops) = IsDriving s ops × MayPost c s block (r, given) refused s.hand
IsAllowed c cap s (Off ops) = IsDriving s ops
IsAllowed c cap s (Found marks ops) = IsFound c cap s marks ops

-- these entries may come one after the other
abbrev pub IsLegalFrom : Configuration → ℕ → State → List Entry → Type 0
IsLegalFrom c cap s [] = Unit {0}
IsLegalFrom c cap s (e ∷ es) = IsAllowed c cap s e × IsLegalFrom c cap (step c s e) es

-- a history is legal. It begins with a Found, since every other entry asks that one stands.
abbrev pub IsLegal : Configuration → ℕ → List Entry → Type 0
IsLegal c cap h = IsLegalFrom c cap at_first h
