-- What moves make of the device's work: the tries of records, and how many operations they take at most.
use Rattle.std.specs.Prelude.{◌≡◌, ◌≢◌, ◌⊎◌, ◌≤◌, ◌+◌, ◌*◌, ◌==◌, nat_lt, nat_le, ℕ, ◌||◌, if◌then◌else◌, Bool, true, false, IsTrue, List, [], ◌∷◌, length, Contains, is_some, Option, Some, None}
use Rattle.std.specs.Option.{option_map_or}
use Rattle.block_machine.specs.nv_base.Count.{last_count}
use Rattle.block_machine.specs.nv_base.Marks.{number_of}
use Rattle.block_machine.specs.Words.{JobKind, ReadJob, Wrote, Post, Entry, Configuration}
use Rattle.block_machine.specs.State.{State, Job}
use Rattle.block_machine.specs.Blocks.{desc_of, indices_of, job_block, kind_of, rank_of}
use Rattle.block_machine.specs.Prices.{device_tries}
use Rattle.block_machine.specs.Steps.{after_from}
use Rattle.promise_blocks.specs.Payment.{Worn}
use Rattle.promise_blocks.specs.Moves.{Moment, Move, entry_list, is_found, is_off, is_picked}

-- WHAT WORK TAKES

-- what a device makes of its work at most
pub record Costs : Type 0 where
  -- a switch of banks
  pub switch : ℕ
  -- of a device number: the pages of its record, and a try of a job of this kind on it, where a switch comes before it
  pub pages : (number : ℕ) → ℕ
  pub most : JobKind → (number : ℕ) → ℕ
  -- the pages that are kept for urgent writes
  pub reserve : ℕ

-- TRIES

-- What the device is at: the turns that are left of what is open, where no fault comes, none where the power is off; the device
-- number of which a try of a record is open; and how many tries more may begin of the job in hand.
pub record Work : Type 0 where
  pub left : ℕ
  pub trying : Option ℕ
  pub tries : ℕ

-- what a move did at the device: the number of which a try of a record began, if one did, and what it is at behind it
pub record Effort : Type 0 where
  pub begins : Option ℕ
  pub behind : Work

-- what it is at behind moves
abbrev pub work_behind : Work → List Effort → Work
work_behind w [] = w
work_behind w (e ∷ es) = work_behind e.behind es

-- a try began, or was open
abbrev pub tried : Work → Effort → Option ℕ
tried w e = if is_some e.begins then e.begins else w.trying

-- of the job in hand at its Pick: those that are configured, on each of its instances
abbrev pub tries_of : Configuration → State → ℕ
tries_of c s = option_map_or (λ j. device_tries (desc_of c (job_block j)) (kind_of j) * length (indices_of c s (job_block j))) s.hand 0

-- a try may begin where none is open, of a record of the job in hand
pub record MayBegin (c : Configuration) (s : State) (w : Work) (number : ℕ) : Type 0 where
  pub none : w.trying ≡ None
  pub job : Job
  pub hand : s.hand ≡ Some job
  pub writes : kind_of job ≢ ReadJob
  pub index : ℕ
  pub one : Contains (indices_of c s (job_block job)) index
  pub number_is : number ≡ number_of (record { block = job_block job; index = index })

abbrev pub is_written : ℕ → Option Entry → Bool
is_written number (Some (Wrote i mark ops)) = number_of i == number
is_written number e = false

abbrev pub is_posted : Option Entry → Bool
is_posted (Some (Post block r given refused ops)) = true
is_posted e = false

-- the count of faults rose, or stands at its end
abbrev pub has_risen : ℕ → ℕ → Bool
has_risen before behind = nat_lt before behind || nat_le last_count before

-- a move that may end one: it writes a record, counts a fault, picks a job, or starts up
abbrev pub is_wrote : Option Entry → Bool
is_wrote (Some (Wrote i mark ops)) = true
is_wrote e = false

abbrev pub may_end : Moment → Move → Bool
may_end before m = is_wrote m.entry || (has_risen before.faults m.behind.faults || (is_picked m.entry || is_found m.entry))

-- what ends a try: its record is written, a fault is counted, another job interrupts it, a start-up drops it, or the device is
-- worn out for it
abbrev pub EndsTry : Worn → Configuration → State → ℕ → Moment → Move → Type 0
EndsTry worn c s number before m =
    IsTrue (is_written number m.entry || (has_risen before.faults m.behind.faults || (is_picked m.entry || is_found m.entry)))
    ⊎ ((j : Job) × (s.hand ≡ Some j) × worn m.behind.ops number (rank_of c j).immediate)

-- OPERATIONS

-- the free pages with which a try needs no switch: one that isn't urgent leaves those that are kept
abbrev pub pages_needed : Costs → (urgent : Bool) → ℕ → ℕ
pages_needed f urgent n = f.pages n + (if urgent then 0 else f.reserve)

-- A try adds the pages of its record, where these are free, and else a switch too. Beside an open switch it adds them with a gate
-- that may be owed, and once more where it is urgent, for its number is copied anew.
abbrev pub try_adds : Costs → (room busy urgent : Bool) → JobKind → ℕ → ℕ
try_adds f room true urgent kind n = (if urgent then 2 else 1) * (f.pages n + 1)
try_adds f room false urgent kind n = if room then f.pages n else f.most kind n

-- that of the job in hand
abbrev pub begun_adds : Costs → (room : ℕ → Bool) → Configuration → Moment → State → Option ℕ → ℕ
begun_adds f room c before s None = 0
begun_adds f room c before s (Some n) =
    option_map_or (λ j. try_adds f (room (pages_needed f (rank_of c j).immediate n)) before.busy (rank_of c j).immediate (kind_of j) n) s.hand 0

-- An operation that failed is lost, and may close the bank; one in which the power goes off is lost. Behind a start-up in which no
-- fault was counted nothing is left, so it adds nothing.
abbrev pub loss_adds : Costs → Moment → Move → ℕ
loss_adds f before m = (if has_risen before.faults m.behind.faults then f.switch + 1 else 0) + (if is_off m.entry then 1 else 0)

-- what a move adds, by a test of free pages
abbrev pub adds_most : Costs → (room : ℕ → Bool) → Configuration → Moment → State → Move → Effort → ℕ
adds_most f room c before s m e = begun_adds f room c before s e.begins + loss_adds f before m

-- what moves add
abbrev pub operations_at_most : Costs → (room : (operations pages : ℕ) → Bool) → Configuration → Moment → State → List Move → List Effort → ℕ
operations_at_most f room c before s (m ∷ ms) (e ∷ es) =
    adds_most f (room before.ops) c before s m e + operations_at_most f room c m.behind (after_from c s (entry_list m.entry)) ms es
operations_at_most f room c before s ms es = 0

-- One move: a try begins where none is open; the operations that are made and those that are left rise by what it adds at most, by
-- any test that answers yes only where so many pages are free; a try goes on until something ends it, and is over at a Post; and a
-- Pick gives the tries of its job, of which each that begins takes one.
pub record IsWorked (f : Costs) (room : (operations pages : ℕ) → Type 0) (worn : Worn) (c : Configuration) (before : Moment) (s : State) (w : Work) (m : Move) (e : Effort) : Type 0 where
  pub begins : (n : ℕ) → e.begins ≡ Some n → MayBegin c s w n
  pub adds : (test : ℕ → Bool) → ((n : ℕ) → test n ≡ true → room before.ops n) → m.behind.ops + e.behind.left ≤ before.ops + w.left + adds_most f test c before s m e
  pub ends : (n : ℕ) → tried w e ≡ Some n → (e.behind.trying ≡ Some n) ⊎ ((e.behind.trying ≡ None) × EndsTry worn c s n before m)
  pub none : tried w e ≡ None → e.behind.trying ≡ None
  pub over : is_posted m.entry ≡ true → w.trying ≡ None
  pub tries : e.behind.tries + (if is_some e.begins then 1 else 0) ≤ (if is_picked m.entry then tries_of c (after_from c s (entry_list m.entry)) else w.tries)

abbrev pub AreWorked : Costs → (room : (operations pages : ℕ) → Type 0) → Worn → Configuration → Moment → State → Work → List Move → List Effort → Type 0
AreWorked f room worn c before s w [] [] = Unit {0}
AreWorked f room worn c before s w (m ∷ ms) (e ∷ es) = IsWorked f room worn c before s w m e × AreWorked f room worn c m.behind (after_from c s (entry_list m.entry)) e.behind ms es
AreWorked f room worn c before s w ms es = ⊥

-- HOW MANY TRIES

-- so often one of the moves ends a try, or may
abbrev pub ends_most : Moment → List Move → ℕ
ends_most before [] = 0
ends_most before (m ∷ ms) = (if may_end before m then 1 else 0) + ends_most m.behind ms

-- so many tries begin in them
abbrev pub tries_begun : List Effort → ℕ
tries_begun [] = 0
tries_begun (e ∷ es) = (if is_some e.begins then 1 else 0) + tries_begun es
