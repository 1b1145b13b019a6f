-- Kept pages that an urgent write alone takes, and urgent writes at the seal of a switch.
use Rattle.std.specs.Prelude.{map, replicate, take, drop, ◌++◌}
use Rattle.std.proofs.Common.{◌≡◌, ◌≤◌, ◌+◌, ℕ, zero, suc, true, false, IsTrue, List, [], ◌∷◌, Some, None, refl, sym, ◌∙◌, subst, inl, inr, arith}
use Rattle.fls_model.specs.declared.flash.FlashAnswer.{FlashAnswer}
use Rattle.fls_model.specs.declared.flash.FlashAnswer.TheVariants.{Done, Failed}
use Rattle.fls_model.specs.Op.{Program}
use Rattle.fls_model.specs.Told.{Change}
use Rattle.memif.specs.Clock.{Trait, Seals, TakesKept}
use Rattle.block_machine.specs.State.{Job}
use Rattle.block_machine.specs.Blocks.{rank_of}
use Rattle.promise_device.specs.Bridge.{IsSuch, free_pages, reading_of}
use Rattle.promise_device.specs.Traits.{is_such}
use Rattle.promise_run.specs.JobTurns.{write_pages}
use Rattle.promise_run.specs.Promise.{making_of}
use Rattle.promise_run.specs.Turns.{Move, IsPostedSoon, HadFree, IsAtSeal, MayGoOn}
use Rattle.promise_run.specs.Cases.{image_of, record_of, one}
use Rattle.promise_run.specs.UrgentCases.{urgent, at_another, picks, idle, writes, posted_with}
use Rattle.promise_run.specs.KeptCases.{programmed, put_off, at_none, at_immediate, IsInTimeBehind, MayBeMadeIn}
use Rattle.promise_run.proofs.OneByOne.{some_same}
use Rattle.promise_run.proofs.UrgentCases.{quiet, AreQuiet, too_many, none, same_image}

-- KEPT PAGES
pub by_immediate : MayBeMadeIn (programmed 96 Done) at_immediate
by_immediate = (λ k le lt such. (_, refl, refl), tt)

standard : (j : Job) → at_another.hand ≡ Some j → (rank_of urgent j).immediate ≡ true → ⊥
standard j held immediate = let never : false ≡ true = subst (λ (x : Job). (rank_of urgent x).immediate ≡ true) (sym (some_same _ j held)) immediate in cc never

pub not_by_standard : MayBeMadeIn (programmed 96 Done) at_another → ⊥
not_by_standard all = let (j, held, immediate) = all.0 0 (omega arith) (omega arith) (_, refl, refl) in standard j held immediate

pub not_by_none : MayBeMadeIn (programmed 96 Done) at_none → ⊥
not_by_none all = let (j, held, immediate) = all.0 0 (omega arith) (omega arith) (_, refl, refl) in let never : None ≡ Some j = held in cc never

-- the operation is no such one by itself
not_such : (trait : Trait) (x y : Change) → is_such (making_of urgent) trait x ≡ false → Some x ≡ Some y → IsTrue (is_such (making_of urgent) trait y) → ⊥
not_such trait x y isnt same is = let never : true ≡ false = subst (λ (z : Change). true ≡ is_such (making_of urgent) trait z) (sym (some_same x y same)) (sym is) ∙ isnt in cc never

none_such : (trait : Trait) (address : ℕ) (answer : FlashAnswer) → is_such (making_of urgent) trait (record { op = Program address (replicate 16 0); before = []; answer = answer }) ≡ false
    → (k : ℕ) → IsSuch (reading_of (making_of urgent)) (programmed address answer) trait k → ⊥
none_such trait address answer isnt zero (x, at, is) = not_such trait _ x isnt at is
none_such trait address answer isnt (suc k) (x, at, is) = let never : None ≡ Some x = at in cc never

pub before_kept : MayBeMadeIn (programmed 80 Done) at_another
before_kept = (λ k le lt such. absurd (none_such TakesKept 80 Done refl k such), tt)

-- THE SEAL
abbrev Soon : ℕ → List Move → Type 0
Soon turns ms = IsPostedSoon (λ free left. Unit {0}) true 2 turns 0 (map (put_off 1) ms)

in_turn : Soon 8 (picks ∷ idle 0 2 (writes 0))
in_turn = inr (inr (inr (inr (inr (inr (omega arith, inr (inr (inr (inr (inr (inr (omega arith, inr (inr (inr (inr (inr (inr (omega arith, inr (inr (inr (inr (inr (inr (omega arith, inr (inr (inr (inr (inr (inr (omega arith, inr (inr (inr (inr (inr (inr (omega arith, inr (inr (inr (inr (inr (inr (omega arith, inr (inr (inr (inr (inr (inl refl)))))))))))))))))))))))))))))))))))))))))))))))

pub in_time : IsInTimeBehind (programmed 160 Done) 0 (posted_with 0 2)
in_time = (
  λ id is may. subst (λ (n : ℕ). IsPostedSoon (λ free left. Unit {0}) true n (write_pages urgent at_none n + 4) 0 (map (put_off 1) (picks ∷ idle 0 2 (writes 0)))) (some_same 2 id is) in_turn,
  (λ id is. absurd (none id is), (λ id is. absurd (none id is), (λ id is. absurd (none id is), (λ id is. absurd (none id is), (λ id is. absurd (none id is), (λ id is. absurd (none id is), (λ id is. absurd (none id is), (λ id is. absurd (none id is), tt)))))))),
)

late : Soon 8 (picks ∷ idle 0 3 (writes 0)) → ⊥
late all = too_many true 8 0 (map (put_off 1) (picks ∷ idle 0 3 (take 4 (writes 0)))) (map (put_off 1) (drop 4 (writes 0))) all_quiet refl (omega arith) (omega arith) all
  where
    all_quiet : AreQuiet (map (put_off 1) (picks ∷ idle 0 3 (take 4 (writes 0))))
    all_quiet = (
      quiet refl refl refl refl refl refl,
      (
        quiet refl refl refl refl refl refl,
        (quiet refl refl refl refl refl refl, (quiet refl refl refl refl refl refl, (quiet refl refl refl refl refl refl, (quiet refl refl refl refl refl refl, (quiet refl refl refl refl refl refl, (quiet refl refl refl refl refl refl, tt)))))),
      ),
    )

kept_for_it : write_pages urgent at_none 2 ≤ (making_of urgent).reserve
kept_for_it = let pages : write_pages urgent at_none 2 ≡ 4 = refl in let reserve : (making_of urgent).reserve ≡ 4 = refl in omega (arith, pages, reserve)

at_seal : (address : ℕ) (answer : FlashAnswer) → IsSuch (reading_of (making_of urgent)) (programmed address answer) Seals 0 → IsAtSeal (making_of urgent) (programmed address answer) 0 1
at_seal address answer is = record { counted = omega arith; last = 0; is_last = omega arith; later = omega arith; such = is }

pub not_late : IsInTimeBehind (programmed 160 Done) 0 (posted_with 0 3) → ⊥
not_late all = late (all.0 2 refl (inr (at_seal 160 Done (_, refl, refl), kept_for_it)))

pub not_late_in_doubt : IsInTimeBehind (programmed 176 Failed) 0 (posted_with 0 3) → ⊥
not_late_in_doubt all = late (all.0 2 refl (inr (at_seal 176 Failed (_, refl, refl), kept_for_it)))

-- no page is free
abbrev IsFull : ℕ → FlashAnswer → List ℕ → Type 0
IsFull address answer image = free_pages (making_of urgent) (take 1 (programmed address answer).operations) image ≡ 0

none_free : (address : ℕ) (answer : FlashAnswer) → IsFull address answer (image_of 1 (record_of 77 one ++ record_of 77 one)) → HadFree (making_of urgent) (programmed address answer) 1 4 → ⊥
none_free address answer full has =
    let is = subst (IsFull address answer) (same_image _ has.image has.bytes) full in
    let few = has.free in omega (arith, is, few)

-- nothing is promised
unpromised : (address : ℕ) (answer : FlashAnswer) (since : ℕ) → IsFull address answer (image_of 1 (record_of 77 one ++ record_of 77 one)) → (IsAtSeal (making_of urgent) (programmed address answer) since 1 → ⊥) → IsInTimeBehind (programmed address answer) since (posted_with 0 3)
unpromised address answer since full never = (
  λ id is may. absurd (by (subst (λ (n : ℕ). MayGoOn (making_of urgent) (programmed address answer) since 1 (write_pages urgent at_none n)) (sym (some_same 2 id is)) may)),
  (λ id is. absurd (none id is), (λ id is. absurd (none id is), (λ id is. absurd (none id is), (λ id is. absurd (none id is), (λ id is. absurd (none id is), (λ id is. absurd (none id is), (λ id is. absurd (none id is), (λ id is. absurd (none id is), (λ id is. absurd (none id is), tt))))))))),
)
  where
    by : MayGoOn (making_of urgent) (programmed address answer) since 1 4 → ⊥
    by (inl has) = none_free address answer full has
    by (inr seal) = never seal.0

no_seal : (address : ℕ) (answer : FlashAnswer) → is_such (making_of urgent) Seals (record { op = Program address (replicate 16 0); before = []; answer = answer }) ≡ false
    → IsAtSeal (making_of urgent) (programmed address answer) 0 1 → ⊥
no_seal address answer isnt seal = none_such Seals address answer isnt seal.last seal.such

pub head_in_doubt : IsInTimeBehind (programmed 160 Failed) 0 (posted_with 0 3)
head_in_doubt = unpromised 160 Failed 0 refl (no_seal 160 Failed refl)

pub gate_stands : IsInTimeBehind (programmed 176 Done) 0 (posted_with 0 3)
gate_stands = unpromised 176 Done 0 refl (no_seal 176 Done refl)

pub started_since : IsInTimeBehind (programmed 160 Done) 1 (posted_with 0 3)
started_since = unpromised 160 Done 1 refl (λ seal. let last = seal.is_last in let since = seal.later in omega (arith, last, since))
