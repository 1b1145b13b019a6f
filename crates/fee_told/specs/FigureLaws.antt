-- Laws of the figures.
use Rattle.std.specs.Prelude.{◌≡◌, ◌⊎◌, ◌<◌, ◌≤◌, ◌-◌, ◌+◌, ◌*◌, ◌^◌, ℕ, Bool, true, false, if◌then◌else◌, List, Some, None}
use Rattle.nv_base.specs.declared.instance.DeviceNumber.{DeviceNumber}
use Rattle.nv_base.specs.Lengths.{AreLengths}
use Rattle.memif.specs.Told.{Job, Stand, Open, Ended, length_of, figures_at, most_of, most_open, op_of}
use Rattle.memif.specs.Calls.{record_pages}
use Rattle.fee_told.specs.Figures.{fixed_for, OpenWork, turns_owed, left_of, FitsMark, ready_of, Waits, wait_of}

-- LEFT
-- an open job is of a configured number, and has no more pages left than its record
abbrev pub IsOfJob : ℕ → List (DeviceNumber × ℕ) → Stand → OpenWork → Type 0
IsOfJob p numbers (Open j) w = (length : ℕ) × (length_of numbers j.number ≡ Some length) × FitsMark p length j.mark w
IsOfJob p numbers (Ended result given) w = Unit {0}

pub record IsWork (p sectors : ℕ) (numbers : List (DeviceNumber × ℕ)) (reserve : ℕ) (stand : Stand) (w : OpenWork) : Type 0 where
  pub job : IsOfJob p numbers stand w
  pub few : w.switch ≤ (fixed_for p sectors numbers reserve).own

-- what is open ends within the most turns of the job and of a switch
abbrev pub LeftIsBounded : Type 0
LeftIsBounded =
    (p sectors reserve : ℕ) (numbers : List (DeviceNumber × ℕ)) (stand : Stand) (w : OpenWork) → IsWork p sectors numbers reserve stand w
    → let fixed = fixed_for p sectors numbers reserve in left_of stand w ≤ fixed.own + most_open fixed stand

-- which are few
abbrev pub LeftFits : Type 0
LeftFits =
    (p sectors reserve : ℕ) (numbers : List (DeviceNumber × ℕ)) (stand : Stand) (w : OpenWork)
    → p ≤ 256 → sectors ≤ 64 → AreLengths 0 numbers → IsWork p sectors numbers reserve stand w → left_of stand w < 2 ^ 63

-- a start of a job raises `left` by at most the most turns of its operation, and never lowers it
abbrev pub StartsRaise : Type 0
StartsRaise =
    (p sectors reserve : ℕ) (numbers : List (DeviceNumber × ℕ)) (j : Job) (w next : OpenWork)
    → IsWork p sectors numbers reserve (Open j) next → w.switch ≤ next.switch → (j.mark ≡ None → next.switch ≤ w.switch)
    → let fixed = fixed_for p sectors numbers reserve in
    (w.switch ≤ left_of (Open j) next) × (left_of (Open j) next ≤ w.switch + most_of (figures_at fixed j.number) (op_of j.mark))

-- and beside an open switch by the pages of its record and an owed gate, and once more where it is urgent
abbrev pub StartsBeside : Type 0
StartsBeside =
    (p sectors reserve : ℕ) (numbers : List (DeviceNumber × ℕ)) (j : Job) (w next : OpenWork) → 1 ≤ p → IsOfJob p numbers (Open j) next
    → let pages = record_pages (fixed_for p sectors numbers reserve) j in
    next.switch ≤ w.switch + (if j.urgent then pages + 1 else 0) → left_of (Open j) next ≤ w.switch + (if j.urgent then 2 else 1) * (pages + 1)

-- a turn of a job other than a read lowers it where a page, an owed gate or a step of the switch is done
abbrev pub IsNearer : OpenWork → OpenWork → Type 0
IsNearer w next =
    (next.switch ≤ w.switch) × (next.pages + turns_owed next.owed ≤ w.pages + turns_owed w.owed)
    × ((next.switch < w.switch) ⊎ (next.pages + turns_owed next.owed < w.pages + turns_owed w.owed))

abbrev pub TurnsLower : Type 0
TurnsLower = (j : Job) (w next : OpenWork) → (j.mark ≡ None → ⊥) → IsNearer w next → left_of (Open j) next < left_of (Open j) w

-- URGENT WRITES
-- no more is ready than is kept, and no less where as much is free, or as is kept
abbrev pub ReadyIsKept : Type 0
ReadyIsKept = (reserve free : ℕ) (seals : Bool) → ready_of reserve seals free ≤ reserve

abbrev pub ReadyStays : Type 0
ReadyStays =
    (reserve free next : ℕ) (seals then_seals : Bool) → (then_seals ≡ true) ⊎ (((free ≤ next) × (seals ≡ false)) ⊎ (reserve ≤ next))
    → ready_of reserve seals free ≤ ready_of reserve then_seals next

-- an urgent write of so many pages that was ready leaves the others ready, and waits for its own pages more
abbrev pub UrgentStarts : Type 0
UrgentStarts =
    (reserve free next s : ℕ) (seals : Bool) (w : Waits) → w.urgent ≡ false → s ≤ ready_of reserve seals free → free ≤ next + s
    → let after = record w { urgent = true; promised = true; pages = s } in
    (ready_of reserve seals free - s ≤ ready_of reserve seals next)
    × ((v : ℕ) × (u : ℕ) × (wait_of w ≡ Some v) × (wait_of after ≡ Some u) × (u ≤ v + s))

-- and each turn in which what it waits for, or a page of its own, is done lowers that
abbrev pub UrgentNears : Type 0
UrgentNears =
    (w next : Waits) (v : ℕ) → w.urgent ≡ true → next.urgent ≡ true → next.promised ≡ w.promised → next.before + next.pages < w.before + w.pages
    → wait_of w ≡ Some v → (u : ℕ) × (wait_of next ≡ Some u) × (u < v)
