-- Urgent writes that are posted soon, over moves behind moves, and by a later clock.
use Rattle.nvm_moves.proofs.Common.{◌≤◌, ℕ, Bool, if◌then◌else◌, List, [], ◌∷◌, ◌++◌, inl, inr, arith, DeviceTold, Clock, Seals, Lasts, Configuration, State, after_from, Moment, Move, entry_list, entries_of, moment_behind, is_found, found_behind, CountFailed, EachMoveSince, AreServed, MayGoOnAsTold, soon_by, soon_more, PostsUrgentOf, IsPostedSoon, true, subst, ◌+◌}
use Rattle.promise_run.proofs.PlannedCuts.{from_more}
use Rattle.promise_run.proofs.Counted.{behind_later}

module _ (of : ℕ → Type 0) (more : ℕ) (c : Configuration) (pages : State → ℕ → ℕ) where
  abbrev Urgently : (free : ℕ → ℕ → ℕ → Type 0) → (Bool → ℕ → ℕ → Type 0) → ℕ → State → Move → List Move → Type 0
  Urgently free Q since s m ms = PostsUrgentOf of c more pages free (λ id o n. Q o id n) since s m ms

  urgent_as : (free : ℕ → ℕ → ℕ → Type 0) (Q R : Bool → ℕ → ℕ → Type 0) → ((one : Bool) (id turns : ℕ) → Q one id turns → R one id turns) → (since : ℕ) (s : State) (ms : List Move)
      → EachMoveSince c (Urgently free Q) since s ms → EachMoveSince c (Urgently free R) since s ms
  urgent_as free Q R goes since s [] all = tt
  urgent_as free Q R goes since s (m ∷ ms) (one, rest) = (
    λ such id is has. soon_by (λ o n. Q o id n) (λ o n. R o id n) _ id _ m.behind.faults ms (λ o n. goes o id n) (one such id is has),
    urgent_as free Q R goes (if is_found m.entry then m.behind.ops else since) (after_from c s (entry_list m.entry)) ms rest,
  )

  -- those of moves, and of moves behind them
  urgent_more : (free : ℕ → ℕ → ℕ → Type 0) (Q R : Bool → ℕ → ℕ → Type 0) (since : ℕ) (before : Moment) (s : State) (xs ys : List Move) → EachMoveSince c (Urgently free Q) since s xs
      → ((one : Bool) (id left : ℕ) → Q one id left → IsPostedSoon (λ o n. R o id n) one id left (moment_behind before xs).faults ys)
      → EachMoveSince c (Urgently free R) (found_behind since xs) (after_from c s (entries_of xs)) ys → EachMoveSince c (Urgently free R) since s (xs ++ ys)
  urgent_more free Q R since before s [] ys one later two = two
  urgent_more free Q R since before s (m ∷ ms) ys one later two =
      let from = if is_found m.entry then m.behind.ops else since in (
        λ such id is has. soon_more (λ o n. Q o id n) (λ o n. R o id n) true id (pages s id + more) m.behind ms ys (one.0 such id is has) (λ o n. later o id n),
        urgent_more free Q R from m.behind (after_from c s (entry_list m.entry)) ms ys one.1 later
            (subst (λ (t : State). EachMoveSince c (Urgently free R) (found_behind from ms) t ys) (from_more c s (entry_list m.entry) (entries_of ms)) two),
      )

  -- where no more was free once any of their operations were made
  urgent_on : (failed : ℕ → Type 0) (free fewer : ℕ → ℕ → ℕ → Type 0) (Q : Bool → ℕ → ℕ → Type 0) (n : ℕ) → ((since k wanted : ℕ) → k ≤ n → fewer since k wanted → free since k wanted) → (since : ℕ) (before : Moment) (s : State) (ms : List Move)
      → (moment_behind before ms).ops ≤ n → CountFailed failed before ms → EachMoveSince c (Urgently free Q) since s ms → EachMoveSince c (Urgently fewer Q) since s ms
  urgent_on failed free fewer Q n frees since before s [] within counts all = tt
  urgent_on failed free fewer Q n frees since before s (m ∷ ms) within counts all = (
    λ such id is has. all.0 such id is (frees since m.behind.ops (pages s id) (let later = behind_later failed m.behind ms counts.1 in omega (arith, later, within)) has),
    urgent_on failed free fewer Q n frees (if is_found m.entry then m.behind.ops else since) m.behind (after_from c s (entry_list m.entry)) ms within counts.1 all.1,
  )

  -- from less, to more
  pub served_as : (free : ℕ → ℕ → ℕ → Type 0) (P P' Q R : Bool → ℕ → ℕ → Type 0) (since : ℕ) (before : Moment) (s : State) (ms : List Move) → ((one : Bool) (id turns : ℕ) → P' one id turns → P one id turns)
      → ((one : Bool) (id turns : ℕ) → Q one id turns → R one id turns) → AreServed of more c pages free P Q since before s ms → AreServed of more c pages free P' R since before s ms
  served_as free P P' Q R since before s ms from goes served = record {
    dues = λ one id turns due. soon_by (λ o n. Q o id n) (λ o n. R o id n) one id turns before.faults ms (λ o n. goes o id n) (served.dues one id turns (from one id turns due));
    urgent = urgent_as free Q R goes since s ms served.urgent;
  }

  pub served_more : (free : ℕ → ℕ → ℕ → Type 0) (P Q R : Bool → ℕ → ℕ → Type 0) (since : ℕ) (before : Moment) (s : State) (a b : List Move) → AreServed of more c pages free P Q since before s a
      → AreServed of more c pages free Q R (found_behind since a) (moment_behind before a) (after_from c s (entries_of a)) b → AreServed of more c pages free P R since before s (a ++ b)
  served_more free P Q R since before s a b one two = record {
    dues = λ o id n due. soon_more (λ x k. Q x id k) (λ x k. R x id k) o id n before a b (one.dues o id n due) (λ x k. two.dues x id k);
    urgent = urgent_more free Q R since before s a b one.urgent two.dues two.urgent;
  }

  -- what may go on by a later clock may by an earlier one
  pub served_on : (d d_new : DeviceTold) (clock clock_new : Clock) → Lasts d clock d_new clock_new → (reserve : ℕ) (failed : ℕ → Type 0) (P Q : Bool → ℕ → ℕ → Type 0) (since : ℕ) (before : Moment) (s : State) (ms : List Move)
      → (moment_behind before ms).ops ≤ d.ops → CountFailed failed before ms → AreServed of more c pages (MayGoOnAsTold clock reserve) P Q since before s ms → AreServed of more c pages (MayGoOnAsTold clock_new reserve) P Q since before s ms
  served_on d d_new clock clock_new lasts reserve failed P Q since before s ms within counts served = record {
    dues = served.dues;
    urgent = urgent_on failed (MayGoOnAsTold clock reserve) (MayGoOnAsTold clock_new reserve) Q d.ops earlier since before s ms within counts served.urgent;
  }
    where
      earlier : (from k wanted : ℕ) → k ≤ d.ops → MayGoOnAsTold clock_new reserve from k wanted → MayGoOnAsTold clock reserve from k wanted
      earlier from k wanted few (inl (free, spare, fits)) = inl (free, lasts.past.spare k free few spare, fits)
      earlier from k wanted few (inr (seal, fits)) = inr (
        record { counted = seal.counted; last = seal.last; is_last = seal.is_last; later = seal.later; such = lasts.past.was Seals seal.last (let last = seal.is_last in omega (arith, last, few)) seal.such },
        fits,
      )
