-- How many operations the moves of a run make at most, by its configuration and the bytes of its flash.
use Rattle.std.specs.Prelude.{◌≡◌, ◌≤◌, ◌+◌, nat_lt, nat_le, ℕ, ◌&&◌, if◌then◌else◌, Bool, true, false, List, [], ◌∷◌, take, None}
use Rattle.std.specs.Option.{option_map_or}
use Rattle.block_machine.specs.nv_base.Count.{last_count}
use Rattle.block_machine.specs.nv_base.Marks.{instance_of}
use Rattle.block_machine.specs.block_config.Sizes.{measures_of}
use Rattle.block_machine.specs.Words.{Configuration}
use Rattle.block_machine.specs.State.{State}
use Rattle.block_machine.specs.Steps.{after_from}
use Rattle.promise_blocks.specs.Payment.{Worn}
use Rattle.promise_blocks.specs.Moves.{Moment, Move, entry_list, is_picked, moment_behind}
use Rattle.promise_blocks.specs.Work.{Costs, Effort, AreWorked, operations_at_most, ends_most, tries_begun, tries_of}
use Rattle.promise_device.specs.Making.{Making}
use Rattle.promise_device.specs.FlashRun.{FlashRun, TellsBytes, StartsSound, bytes_after}
use Rattle.promise_device.specs.Bridge.{free_pages}
use Rattle.promise_run.specs.JobTurns.{switch_at_most, switch_of_first, try_on, try_of_both, pages_on, pages_of_both}

-- WHAT WORK TAKES

-- what a device makes of its work at most, by a configuration
abbrev pub costs_of : Configuration → Costs
costs_of c = record {
  switch = switch_at_most c;
  pages = λ n. pages_on c (instance_of (record { 0 = n }));
  most = λ kind n. try_on c kind (instance_of (record { 0 = n }));
  reserve = (measures_of c.geometry.page c.blocks).urgent;
}

-- of two devices
abbrev pub costs_of_both : Configuration → Costs
costs_of_both c = record {
  switch = switch_of_first c;
  pages = λ n. pages_of_both c (instance_of (record { 0 = n }));
  most = λ kind n. try_of_both c kind (instance_of (record { 0 = n }));
  reserve = (measures_of c.geometry.page c.blocks).urgent;
}

-- FREE PAGES

-- once so many operations were made the bytes had so many pages free, in a bank of which no program failed
abbrev pub has_free : Making → FlashRun → (operations pages : ℕ) → Bool
has_free making f operations pages =
    nat_lt operations last_count && option_map_or (λ image. nat_le pages (free_pages making (take operations f.operations) image)) (bytes_after f operations) false

-- so it is over a flash that tells its bytes, from a sound image on
pub record HadFreePages (making : Making) (f : FlashRun) (operations pages : ℕ) : Type 0 where
  pub tells : TellsBytes f
  pub sound : StartsSound making f
  pub free : has_free making f operations pages ≡ true

-- A RUN

-- behind a start-up nothing is left, unless a fault was counted until then: a switch at most
abbrev pub left_behind : Costs → Moment → ℕ
left_behind f first = if nat_lt 0 first.faults then f.switch else 0

-- the work of its moves, from a start-up on
pub record HasWork (f : Costs) (room : (operations pages : ℕ) → Type 0) (worn : Worn) (c : Configuration) (first : Moment) (s : State) (moves : List Move) : Type 0 where
  pub left : ℕ
  pub few : left ≤ left_behind f first
  pub efforts : List Effort
  pub are : AreWorked f room worn c first s (record { left = left; trying = None; tries = 0 }) moves efforts

-- what follows: they make so many operations at most
abbrev pub WorkIsBounded : Type 1
WorkIsBounded =
    (f : Costs) (room : (operations pages : ℕ) → Type 0) (worn : Worn) (c : Configuration) (first : Moment) (s : State)
    (moves : List Move) (has : HasWork f room worn c first s moves) (test : (operations pages : ℕ) → Bool)
    → ((k n : ℕ) → test k n ≡ true → room k n) → (moment_behind first moves).ops ≤ first.ops + left_behind f first + operations_at_most f test c first s moves has.efforts

-- where the device is never worn out no more tries begin than end, but one
abbrev pub TriesAreFew : Type 1
TriesAreFew =
    (f : Costs) (room : (operations pages : ℕ) → Type 0) (worn : Worn) (c : Configuration) (first : Moment) (s : State) (moves : List Move) (has : HasWork f room worn c first s moves)
    → ((k n : ℕ) (urgent : Bool) → worn k n urgent → ⊥) → tries_begun has.efforts ≤ ends_most first moves + 1

-- those that are configured of the jobs that are picked
abbrev pub tries_picked : Configuration → State → List Move → ℕ
tries_picked c s [] = 0
tries_picked c s (m ∷ ms) =
    (if is_picked m.entry then tries_of c (after_from c s (entry_list m.entry)) else 0) + tries_picked c (after_from c s (entry_list m.entry)) ms

-- and no more begin than these, whatever fails
abbrev pub TriesAreConfigured : Type 1
TriesAreConfigured =
    (f : Costs) (room : (operations pages : ℕ) → Type 0) (worn : Worn) (c : Configuration) (first : Moment) (s : State) (moves : List Move) (has : HasWork f room worn c first s moves)
    → tries_begun has.efforts ≤ tries_picked c s moves
