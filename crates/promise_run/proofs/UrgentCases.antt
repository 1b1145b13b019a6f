-- An urgent write that is posted in time, and one that is late by a turn.
use Rattle.std.specs.Prelude.{min, replicate, take, drop}
use Rattle.std.proofs.lemmas.Bool.{and_parts}
use Rattle.std.proofs.Common.{◌≡◌, ◌⊎◌, ◌<◌, ◌≤◌, ◌+◌, ◌-◌, ℕ, Bool, true, false, IsTrue, List, [], ◌∷◌, ◌++◌, length, Some, None, refl, sym, ◌∙◌, subst, inl, inr, arith}
use Rattle.block_machine.specs.Words.{Found}
use Rattle.block_machine.specs.State.{State}
use Rattle.block_machine.specs.Steps.{after}
use Rattle.promise_device.specs.Bridge.{free_pages}
use Rattle.promise_run.specs.JobTurns.{write_pages}
use Rattle.promise_run.specs.Promise.{making_of}
use Rattle.promise_run.specs.Turns.{Move, is_asked, is_found, is_off, posts, posts_other, IsPostedSoon, HadFree, IsAtSeal, MayGoOn}
use Rattle.promise_run.specs.Cases.{image_of, record_of, one as content}
use Rattle.promise_run.specs.UrgentCases.{IsInTimeBeside, urgent, roomy, full, half_full, holding, at_another, posted_with, picks, idle, writes, others, IsInTime, IsInTimeFrom, IsBehindOthers}
use Rattle.promise_run.proofs.OneByOne.{some_same}

abbrev pub Soon : Bool → ℕ → ℕ → List Move → Type 0
Soon one turns faults ms = IsPostedSoon (λ free left. Unit {0}) one 2 turns faults ms

true_false : {t : Bool} → IsTrue t → t ≡ false → ⊥
true_false {t} on off = let never : true ≡ false = sym on ∙ off in cc never

-- a turn that only goes on, and counts no fault
pub record IsQuiet (m : Move) : Type 0 where
  found : is_found m.entry ≡ false
  waits : is_asked m.entry ≡ false
  other : posts_other 2 m.entry ≡ false
  off : is_off m.entry ≡ false
  post : posts 2 m.entry ≡ false
  faults : m.behind.faults ≡ 0

abbrev pub AreQuiet : List Move → Type 0
AreQuiet [] = Unit {0}
AreQuiet (m ∷ ms) = IsQuiet m × AreQuiet ms

goes : (one : Bool) (turns faults : ℕ) (m : Move) (ms : List Move) → IsQuiet m → faults ≡ 0 → Soon one turns faults (m ∷ ms) → (1 < turns) × Soon one (turns - 1) m.behind.faults ms
goes one turns faults m ms quiet before (inl found) = absurd (true_false found quiet.found)
goes one turns faults m ms quiet before (inr (inl (waits, rest))) = absurd (true_false waits quiet.waits)
goes one turns faults m ms quiet before (inr (inr (inl (free, rest)))) = absurd (true_false (and_parts one (posts_other 2 m.entry) free).1 quiet.other)
goes one turns faults m ms quiet before (inr (inr (inr (inl (inl rose))))) = absurd (let none = quiet.faults in omega (arith, rose, before, none))
goes one turns faults m ms quiet before (inr (inr (inr (inl (inr last))))) = absurd (let at_end = last.0 in omega (arith, at_end, before))
goes one turns faults m ms quiet before (inr (inr (inr (inr (inl off))))) = absurd (true_false off quiet.off)
goes one turns faults m ms quiet before (inr (inr (inr (inr (inr (inl posted)))))) = absurd (true_false posted quiet.post)
goes one turns faults m ms quiet before (inr (inr (inr (inr (inr (inr later)))))) = later

-- as many as there are turns
pub too_many : (one : Bool) (turns faults : ℕ) (ms rest : List Move) → AreQuiet ms → faults ≡ 0 → 1 ≤ turns → turns ≤ length ms → Soon one turns faults (ms ++ rest) → ⊥
too_many one turns faults [] rest quiet before some few soon = omega (arith, some, few)
too_many one turns faults (m ∷ ms) rest (quiet, others) before some few soon =
    let (more, later) = goes one turns faults m (ms ++ rest) quiet before soon in
    too_many one (turns - 1) m.behind.faults ms rest others quiet.faults (omega (arith, more)) (omega (arith, few)) later

-- EIGHT TURNS
pub soon : (one : Bool) → Soon one 8 0 (picks ∷ idle 0 2 (writes 0))
soon one = inr (inr (inr (inr (inr (inr (omega arith, inr (inr (inr (inr (inr (inr (omega arith, inr (inr (inr (inr (inr (inr (omega arith, inr (inr (inr (inr (inr (inr (omega arith, inr (inr (inr (inr (inr (inr (omega arith, inr (inr (inr (inr (inr (inr (omega arith, inr (inr (inr (inr (inr (inr (omega arith, inr (inr (inr (inr (inr (inl refl)))))))))))))))))))))))))))))))))))))))))))))))

sooner : (one : Bool) → Soon one 7 0 (picks ∷ idle 0 1 (writes 0))
sooner one = inr (inr (inr (inr (inr (inr (omega arith, inr (inr (inr (inr (inr (inr (omega arith, inr (inr (inr (inr (inr (inr (omega arith, inr (inr (inr (inr (inr (inr (omega arith, inr (inr (inr (inr (inr (inr (omega arith, inr (inr (inr (inr (inr (inr (omega arith, inr (inr (inr (inr (inr (inl refl)))))))))))))))))))))))))))))))))))))))))

pub none : (id : ℕ) → None ≡ Some id → ⊥
none id is = cc is

begun : State
begun = after urgent (Found [] 0 ∷ [])

pub in_time : IsInTime roomy (posted_with 0 2)
in_time = (
  λ id is free. subst (λ (n : ℕ). IsPostedSoon (λ first left. Unit {0}) true n (write_pages urgent (after urgent (Found [] 0 ∷ [])) n + 4) 0 (picks ∷ idle 0 2 (writes 0))) (some_same 2 id is) (soon true),
  (λ id is. absurd (none id is), (λ id is. absurd (none id is), (λ id is. absurd (none id is), (λ id is. absurd (none id is), (λ id is. absurd (none id is), (λ id is. absurd (none id is), (λ id is. absurd (none id is), (λ id is. absurd (none id is), tt)))))))),
)

-- NINE
pub quiet : {m : Move} → is_found m.entry ≡ false → is_asked m.entry ≡ false → posts_other 2 m.entry ≡ false → is_off m.entry ≡ false → posts 2 m.entry ≡ false → m.behind.faults ≡ 0 → IsQuiet m
quiet found waits other off post faults = record { found = found; waits = waits; other = other; off = off; post = post; faults = faults }

abbrev before_post : ℕ → List Move
before_post more = picks ∷ idle 0 more (take 4 (writes 0))

quiet_three : AreQuiet (before_post 3)
quiet_three = (
  quiet refl refl refl refl refl refl,
  (
    quiet refl refl refl refl refl refl,
    (quiet refl refl refl refl refl refl, (quiet refl refl refl refl refl refl, (quiet refl refl refl refl refl refl, (quiet refl refl refl refl refl refl, (quiet refl refl refl refl refl refl, (quiet refl refl refl refl refl refl, tt)))))),
  ),
)

pub late : (one : Bool) (turns : ℕ) → 1 ≤ turns → turns ≤ 8 → Soon one turns 0 (picks ∷ idle 0 3 (writes 0)) → ⊥
late one turns some few all = too_many one turns 0 (before_post 3) (drop 4 (writes 0)) quiet_three refl some few all

later : (one : Bool) (turns : ℕ) → 1 ≤ turns → turns ≤ 7 → Soon one turns 0 (picks ∷ idle 0 2 (writes 0)) → ⊥
later one turns some few all = too_many one turns 0 (before_post 2) (drop 4 (writes 0)) (quiet_three.0, quiet_three.1.1) refl some few all

pub free : (pages : List ℕ) → min 4 (free_pages (making_of urgent) [] (image_of 1 pages)) ≡ 4 → HadFree (making_of urgent) (holding pages) 0 4
free pages is = record { counted = omega arith; image = image_of 1 pages; bytes = refl; free = let reserve : (making_of urgent).reserve ≡ 4 = refl in omega (arith, is, reserve) }

pub not_late : IsInTime roomy (posted_with 0 3) → ⊥
not_late all = late true 8 (omega arith) (omega arith) (all.0 2 refl (inl (free (replicate 128 255) refl)))

-- the job in hand takes no page of it
pub not_late_beside : IsInTimeFrom half_full at_another (posted_with 0 3) → ⊥
not_late_beside all = late true 8 (omega arith) (omega arith) (all.0 2 refl (inl (free (record_of 77 content ++ replicate 64 255) refl)))

-- AT A FAULT
pub faulty : IsInTime roomy (posted_with 1 3)
faulty = (
  λ id is free. subst (λ (n : ℕ). IsPostedSoon (λ first left. Unit {0}) true n (write_pages urgent (after urgent (Found [] 0 ∷ [])) n + 4) 0 (picks ∷ idle 1 3 (writes 1))) (some_same 2 id is)
      (inr (inr (inr (inr (inr (inr (omega arith, inr (inr (inr (inl (inl (omega arith)))))))))))),
  (λ id is. absurd (none id is), (λ id is. absurd (none id is), (λ id is. absurd (none id is), (λ id is. absurd (none id is), (λ id is. absurd (none id is), (λ id is. absurd (none id is), (λ id is. absurd (none id is), (λ id is. absurd (none id is), (λ id is. absurd (none id is), tt))))))))),
)

-- WITHOUT ROOM
pub same_image : (x y : List ℕ) → Some x ≡ Some y → x ≡ y
same_image x y is = cc is

-- no operation was made
no_seal : (since : ℕ) → IsAtSeal (making_of urgent) full since 0 → ⊥
no_seal since seal = let last = seal.is_last in omega (arith, last)

none_free : MayGoOn (making_of urgent) full 0 0 4 → ⊥
none_free (inl has) =
    let is : free_pages (making_of urgent) [] has.image ≡ 0 = subst (λ (image : List ℕ). free_pages (making_of urgent) [] image ≡ 0) (same_image _ has.image has.bytes) refl in
    let few = has.free in omega (arith, is, few)
none_free (inr seal) = no_seal 0 seal.0

pub not_promised : IsInTime full (posted_with 0 3)
not_promised = (
  λ id is free. absurd (none_free (subst (λ (n : ℕ). MayGoOn (making_of urgent) full 0 0 (write_pages urgent (after urgent (Found [] 0 ∷ [])) n)) (sym (some_same 2 id is)) free)),
  (λ id is. absurd (none id is), (λ id is. absurd (none id is), (λ id is. absurd (none id is), (λ id is. absurd (none id is), (λ id is. absurd (none id is), (λ id is. absurd (none id is), (λ id is. absurd (none id is), (λ id is. absurd (none id is), (λ id is. absurd (none id is), tt))))))))),
)

-- BEHIND POSTS OF OTHER JOBS
pub behind : IsBehindOthers 1 2 8
behind = inr (inr (inl (refl, soon false)))

-- a Post of another job is free, or a turn
behind_one : (one : Bool) (turns : ℕ) (ms : List Move) → 1 ≤ turns → Soon one turns 0 (others 1 ms) → ((one ≡ true) × Soon false turns 0 ms) ⊎ ((1 < turns) × Soon one (turns - 1) 0 ms)
behind_one one turns ms some (inl found) = absurd (true_false found refl)
behind_one one turns ms some (inr (inl (waits, rest))) = absurd (true_false waits refl)
behind_one one turns ms some (inr (inr (inl (free, rest)))) = inl ((and_parts one true free).0, rest)
behind_one one turns ms some (inr (inr (inr (inl (inl rose))))) = absurd (omega (arith, rose))
behind_one one turns ms some (inr (inr (inr (inl (inr last))))) = absurd (let at_end = last.0 in omega (arith, at_end))
behind_one one turns ms some (inr (inr (inr (inr (inl off))))) = absurd (true_false off refl)
behind_one one turns ms some (inr (inr (inr (inr (inr (inl posted)))))) = absurd (true_false posted refl)
behind_one one turns ms some (inr (inr (inr (inr (inr (inr goes)))))) = inr goes

pub not_behind : IsBehindOthers 1 3 8 → ⊥
not_behind all = elim (behind_one true 8 (picks ∷ idle 0 3 (writes 0)) (omega arith) all) [
  | inl free ↦ late false 8 (omega arith) (omega arith) free.1
  | inr goes ↦ late true 7 (omega arith) (omega arith) goes.1
]

-- the second one takes a turn
pub behind_two : IsBehindOthers 2 1 8
behind_two = inr (inr (inl (refl, inr (inr (inr (inr (inr (inr (omega arith, sooner false)))))))))

pub not_behind_two : IsBehindOthers 2 2 8 → ⊥
not_behind_two all = elim (behind_one true 8 (others 1 (picks ∷ idle 0 2 (writes 0))) (omega arith) all) [
  | inl free ↦ elim (behind_one false 8 (picks ∷ idle 0 2 (writes 0)) (omega arith) free.1) [
    | inl more ↦ true_false refl (sym more.0)
    | inr goes ↦ later false 7 (omega arith) (omega arith) goes.1
  ]
  | inr goes ↦ elim (behind_one true 7 (picks ∷ idle 0 2 (writes 0)) (omega arith) goes.1) [
    | inl free ↦ later false 7 (omega arith) (omega arith) free.1
    | inr more ↦ later true 6 (omega arith) (omega arith) more.1
  ]
]

-- BESIDE CALLERS
-- a turn goes by
passes : (one : Bool) (turns : ℕ) (m : Move) (ms : List Move) → 1 < turns → Soon one (turns - 1) m.behind.faults ms → Soon one turns 0 (m ∷ ms)
passes one turns m ms more rest = inr (inr (inr (inr (inr (inr (more, rest))))))

pub beside : IsInTimeBeside roomy (posted_with 0 3)
beside = (
  λ id is free. subst (λ (n : ℕ). IsPostedSoon (λ first left. Unit {0}) true n (write_pages urgent (after urgent (Found [] 0 ∷ [])) n + 5) 0 (picks ∷ idle 0 3 (writes 0))) (some_same 2 id is)
      (passes true 9 picks (idle 0 3 (writes 0)) (omega arith) (soon true)),
  (λ id is. absurd (none id is), (λ id is. absurd (none id is), (λ id is. absurd (none id is), (λ id is. absurd (none id is), (λ id is. absurd (none id is), (λ id is. absurd (none id is), (λ id is. absurd (none id is), (λ id is. absurd (none id is), (λ id is. absurd (none id is), tt))))))))),
)

quiet_four : AreQuiet (before_post 4)
quiet_four = (quiet refl refl refl refl refl refl, (quiet refl refl refl refl refl refl, quiet_three.1))

pub not_late_of_callers : IsInTimeBeside roomy (posted_with 0 4) → ⊥
not_late_of_callers all = too_many true 9 0 (before_post 4) (drop 4 (writes 0)) quiet_four refl (omega arith) (omega arith) (all.0 2 refl (inl (free (replicate 128 255) refl)))
