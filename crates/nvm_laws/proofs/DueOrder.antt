-- The place of an immediate job in the order.
use Rattle.std.specs.Prelude.{nat_lt, ◌==◌, ◌&&◌, ◌||◌, if◌then◌else◌}
use Rattle.std.proofs.Common.{◌≡◌, ◌<◌, Bool, true, false, List, [], ◌∷◌, ◌++◌, Option, Some, None, refl, arith}
use Rattle.std.proofs.lemmas.Bool.{le-ltb}
use Rattle.std.proofs.lemmas.List.Sums.{fold-append}
use Rattle.block_machine.specs.Words.{Configuration}
use Rattle.block_machine.specs.State.{Job}
use Rattle.block_machine.specs.Order.{Rank, goes_before}
use Rattle.block_machine.specs.Blocks.{rank_of}
use Rattle.block_machine.specs.Next.{first_of_two, next_in}

-- a job more
pub next_with : (c : Configuration) (jobs : List Job) (j : Job) → next_in c (jobs ++ j ∷ []) ≡ first_of_two c (next_in c jobs) j
next_with c jobs j = fold-append (first_of_two c) None jobs (j ∷ [])

-- one that comes later doesn't go before an immediate job
later : (a b : Rank) → b.immediate ≡ true → nat_lt a.number b.number ≡ false → goes_before a b ≡ false
later a b is late = by a.immediate
  where
    by : (t : Bool) → (if t then (if b.immediate then nat_lt a.number b.number else true) else (if b.immediate then false else nat_lt a.priority b.priority || ((a.priority == b.priority) && nat_lt a.number b.number))) ≡ false
    by true = rw (is, late) refl
    by false = rw is refl

pub stays_first : (c : Configuration) (best j : Job) → (rank_of c best).immediate ≡ true → best.number < j.number → first_of_two c (Some best) j ≡ Some best
stays_first c best j is less =
    let late : nat_lt j.number best.number ≡ false = le-ltb j.number best.number (omega arith) in
    rw (later (rank_of c j) (rank_of c best) is late) refl

-- an immediate job goes before standard ones
before : (a b : Rank) → a.immediate ≡ true → b.immediate ≡ false → goes_before a b ≡ true
before a b is standard = rw (is, standard) refl

pub comes_first : (c : Configuration) (o : Option Job) (j : Job) → (rank_of c j).immediate ≡ true → ((x : Job) → o ≡ Some x → (rank_of c x).immediate ≡ false)
    → first_of_two c o j ≡ Some j
comes_first c None j is standard = refl
comes_first c (Some x) j is standard = rw (before (rank_of c j) (rank_of c x) is (standard x refl)) refl
