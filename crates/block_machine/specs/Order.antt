-- The order in which jobs are picked; Next takes the first by it.
use Rattle.std.specs.Prelude.{ℕ, ◌==◌, ◌&&◌, ◌||◌, nat_lt, Bool, true, false, if◌then◌else◌}

-- what the order reads of a job: whether it is immediate, its block's priority, and the number of its acceptance
pub record Rank : Type 0 where
  pub immediate : Bool
  pub priority : ℕ
  pub number : ℕ

-- An immediate job goes before every standard one, and immediate jobs go by acceptance. Standard jobs go by priority
-- number, the least first, and then by acceptance.
abbrev pub goes_before : Rank → Rank → Bool
goes_before a b =
    if a.immediate
    then (if b.immediate then nat_lt a.number b.number else true)
    else (if b.immediate then false else nat_lt a.priority b.priority || ((a.priority == b.priority) && nat_lt a.number b.number))
