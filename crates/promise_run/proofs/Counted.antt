-- The moment behind moves. What failed and was counted in its move is so for fewer failures, and over more moves.
use Rattle.std.proofs.Common.{◌≡◌, ◌<◌, ◌≤◌, ℕ, List, [], ◌∷◌, ◌++◌, refl, ◌∙◌, arith}
use Rattle.promise_run.specs.Turns.{Moment, Move, moment_behind, moment_after, CountFailed, all_moves}

pub behind_more : (m : Moment) (xs ys : List Move) → moment_behind m (xs ++ ys) ≡ moment_behind (moment_behind m xs) ys
behind_more m [] ys = refl
behind_more m (x ∷ xs) ys = behind_more x.behind xs ys

pub all_behind : (m : Moment) (mss : List (List Move)) → moment_behind m (all_moves mss) ≡ moment_after m mss
all_behind m [] = refl
all_behind m (ms ∷ mss) = behind_more m ms (all_moves mss) ∙ all_behind (moment_behind m ms) mss

-- no move takes an operation back
pub behind_later : (failed : ℕ → Type 0) (before : Moment) (ms : List Move) → CountFailed failed before ms → before.ops ≤ (moment_behind before ms).ops
behind_later failed before [] counts = omega arith
behind_later failed before (m ∷ ms) (one, rest) = let here = one.later in let more = behind_later failed m.behind ms rest in omega (arith, here, more)

-- where of their operations no others failed
pub counted_by : (failed other : ℕ → Type 0) (n : ℕ) → ((k : ℕ) → k < n → other k → failed k) → (before : Moment) (ms : List Move) → (moment_behind before ms).ops ≤ n → CountFailed failed before ms → CountFailed other before ms
counted_by failed other n fewer before [] within counts = tt
counted_by failed other n fewer before (m ∷ ms) within (one, rest) =
    let more = behind_later failed m.behind ms rest in (
      record { later = one.later; own = λ k le lt is. one.own k le lt (fewer k (omega (arith, lt, more, within)) is) },
      counted_by failed other n fewer m.behind ms within rest,
    )

pub counted_more : (failed : ℕ → Type 0) (before : Moment) (xs ys : List Move) → CountFailed failed before xs → CountFailed failed (moment_behind before xs) ys → CountFailed failed before (xs ++ ys)
counted_more failed before [] ys one two = two
counted_more failed before (m ∷ ms) ys (here, rest) two = (here, counted_more failed m.behind ms ys rest two)
