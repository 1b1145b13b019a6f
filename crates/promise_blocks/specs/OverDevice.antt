-- What a history keeps over any memory device: its half of the promise of a whole run.
use Rattle.std.specs.Prelude.{◌≡◌, ◌<◌, ◌≤◌, ◌==◌, ℕ, Bool, false, IsTrue, List, [], ◌∷◌, Contains, Some}
use Rattle.std.specs.List.{list_any}
use Rattle.block_machine.specs.nv_base.Count.{last_count, next_count}
use Rattle.block_machine.specs.nv_base.Entry.{ops_of}
use Rattle.memif.specs.Told.{Held, Fixed, Part, DeviceTold, is_part, part_at, part_of_block, PartTold}
use Rattle.memif.specs.Clock.{Clock, After, CutIn}
use Rattle.block_machine.specs.Words.{Instance, Mark, Entry, Off, Found, Configuration}
use Rattle.block_machine.specs.Legal.{IsLegal}
use Rattle.block_machine.specs.History.{up_to}
use Rattle.promise_blocks.specs.Marks.{KeepsMarks, Lists, marks_in}
use Rattle.promise_blocks.specs.Counts.{KeepsCounts, counts_in, last_found}
use Rattle.promise_blocks.specs.Payment.{IsPaid}

-- a start-up was made
abbrev pub HasStarted : List Entry → Type 0
HasStarted [] = ⊥
HasStarted (e ∷ es) = Unit {0}

-- the first start-up comes before any operation
abbrev pub BeginsBefore : List Entry → Type 0
BeginsBefore [] = Unit {0}
BeginsBefore (Found marks ops ∷ es) = ops ≡ 0
BeginsBefore (e ∷ es) = ⊥

-- no entry tells of more operations than so many
abbrev pub TellsAtMost : ℕ → List Entry → Type 0
TellsAtMost n h = (e : Entry) (ops : ℕ) → Contains h e → ops_of e ≡ Some ops → ops ≤ n

-- the power went off when so many operations were made
abbrev pub is_off_at : ℕ → Entry → Bool
is_off_at n (Off ops) = ops == n
is_off_at n e = false

abbrev pub HasOffAt : List Entry → ℕ → Type 0
HasOffAt h n = IsTrue (list_any (is_off_at n) h)

-- this block's numbers are of this part of a device
abbrev pub is_of : Part → Fixed → ℕ → Bool
is_of p f block = is_part p (part_of_block f block)

-- What a history keeps up to the first operation, over a device that tells until then what its numbers hold: its start-ups list
-- what is found, and it is the block machine's.
pub record KeepsEarly (c : Configuration) (cap : ℕ) (h : List Entry) (clock : Clock) : Type 0 where
  pub found : (marks : List (Instance × Mark)) (held : ℕ → Held) → Contains h (Found marks 0) → clock.may_find (After 0) held → Lists c marks (marks_in held)
  pub legal : IsLegal c cap (up_to 0 h)

-- The device is told before the first start-up and now, its clock now. A count that stands at its end tells no moment.
pub record KeepsOver (c : Configuration) (cap : ℕ) (h : List Entry) (before : Part → PartTold) (now : DeviceTold) (clock : Clock) : Type 0 where
  -- a power cut before or within any operation that was asked for leaves marks that the history up to then allows
  pub cut : (k : ℕ) (held : ℕ → Held) → k < last_count → k < now.ops → clock.may_find (CutIn k) held → KeepsMarks c (up_to k h) (marks_in held)
  -- each start-up lists what is found in its moment
  pub found : (marks : List (Instance × Mark)) (ops : ℕ) (held : ℕ → Held) → Contains h (Found marks ops) → ops < last_count → clock.may_find (After ops) held
      → Lists c marks (marks_in held)
  -- beside it the counts are those that the last start-up by then found, with the writes since, or one more of an instance of
  -- which a job took a mark since
  pub counts : (k ops : ℕ) (found held : ℕ → Held) → k < last_count → k < now.ops → clock.may_find (CutIn k) held → last_found (up_to k h) ≡ Some ops
      → clock.may_find (After ops) found → KeepsCounts c (up_to k h) (counts_in found) (counts_in held)
  -- and what would be found now is allowed too
  pub at_end : (held : ℕ → Held) → HasStarted h → now.ops < last_count → clock.may_find (After now.ops) held → KeepsMarks c h (marks_in held)
  -- every reply, choice and result is the block machine's
  pub legal : IsLegal c cap h
  -- the faults of each part pay for every failure of its blocks, but where it is worn out
  pub paid : (p : Part) → IsPaid (is_of p now.fixed) c clock.worn (before p).faults (part_at p now).faults h
  -- the first start-up comes before any operation, and no entry tells of more than were asked for
  pub begins : BeginsBefore h
  pub counted : TellsAtMost now.ops h
  -- where the power went off in an operation there is an Off with that operation
  pub off : (k : ℕ) → clock.off_in k → HasOffAt h (next_count k)
