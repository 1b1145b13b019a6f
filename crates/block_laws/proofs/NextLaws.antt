-- Replies that accept, the next job, and the job in hand.
use Rattle.std.specs.Prelude.{slice_index_or}
use Rattle.std.specs.Option.{option_map_or}
use Rattle.std.proofs.Common.{◌≡◌, ℕ, zero, suc, ◌==◌, ◌+◌, ◌<◌, ◌&&◌, ◌||◌, nat_lt, Bool, true, false, cond, if◌then◌else◌, List, [], ◌∷◌, ◌++◌, length, refl, ap, subst, arith, Option, Some, None, find, fold, ◌⊎◌, inl, inr}
use Rattle.std.proofs.lemmas.Bool.{leb-true, cases_Bool}
use Rattle.std.proofs.lemmas.Bool.Decides.{nat_tests}
use Rattle.block_machine.specs.Words.{Reply, Accepted, Refused, Refusal, Configuration}
use Rattle.block_machine.specs.State.{Job}
use Rattle.block_machine.specs.Order.{Rank, goes_before}
use Rattle.block_machine.specs.Blocks.{rank_of}
use Rattle.block_machine.specs.Reply.{reserved_entries, holds, tested, answer_to}
use Rattle.block_machine.specs.Next.{Next, first_of_two}
use Rattle.block_machine.specs.Steps.{picked}
use Rattle.block_laws.specs.Laws.{AcceptedPass, FittingHasRoom, NextIsWaiting, NextGoesFirst, NoneWaits, PickTakesInHand, EntriesOfTheJobInHand}

-- REPLIES

no_index : (k : ℕ) → k < 0 → ⊥
no_index k within = omega arith

none_refused : (o : Option Refusal) (d : Reply) → option_map_or Refused o d ≡ Accepted → o ≡ None
none_refused None d e = refl
none_refused (Some x) d e = cc

first_fails : {X : Type 0} (x : X) (t : Bool) (rest : Option X) → cond t (Some x) rest ≡ None → (t ≡ false) × (rest ≡ None)
first_fails x true rest none = cc
first_fails x false rest none = (refl, none)

none_passes : {X : Type 0} (test : X → Bool) (xs : List X) (x : X) (k : ℕ) → find test xs ≡ None → k < length xs → slice_index_or xs k x ≡ x → test x ≡ false
none_passes test [] x k none within is = absurd (no_index k within)
none_passes test (y ∷ ys) x zero none within is = subst (λ z. test z ≡ false) is (first_fails y (test y) (find test ys) none).0
none_passes test (y ∷ ys) x (suc k) none within is = none_passes test ys x k (first_fails y (test y) (find test ys) none).1 (omega arith) is

pub accepted_pass : AcceptedPass
accepted_pass c cap s r x accepted has = none_passes (λ x. holds c cap s x r) (tested r) x has.0 (none_refused (find (λ x. holds c cap s x r) (tested r)) (answer_to s r) accepted) has.1 has.2

pub fitting_has_room : FittingHasRoom
fitting_has_room c cap s more = (λ e. leb-true (s.count + reserved_entries c s + more) cap e, λ le. grind (arith, nat_tests))

-- THE ORDER

abbrev goes : Bool → ℕ → ℕ → Bool → ℕ → ℕ → Bool
goes ai p n bi q m = if ai then (if bi then nat_lt n m else true) else (if bi then false else nat_lt p q || ((p == q) && nat_lt n m))

later_by : (ai bi ci : Bool) (p q r l m n : ℕ) → goes ai p l bi q m ≡ true → goes ai p l ci r n ≡ false → goes bi q m ci r n ≡ false
later_by true true true p q r l m n a b = grind (arith, nat_tests)
later_by true true false p q r l m n a b = cc
later_by true false true p q r l m n a b = refl
later_by true false false p q r l m n a b = cc
later_by false true ci p q r l m n a b = cc
later_by false false true p q r l m n a b = refl
later_by false false false p q r l m n a b = grind (arith, nat_tests)

between_by : (ai bi ci : Bool) (p q r l m n : ℕ) → goes ai p l bi q m ≡ false → goes bi q m ci r n ≡ false → goes ai p l ci r n ≡ false
between_by true true true p q r l m n a b = grind (arith, nat_tests)
between_by true true false p q r l m n a b = cc
between_by true false ci p q r l m n a b = cc
between_by false true true p q r l m n a b = refl
between_by false true false p q r l m n a b = cc
between_by false false true p q r l m n a b = refl
between_by false false false p q r l m n a b = grind (arith, nat_tests)

later : (a b x : Rank) → goes_before a b ≡ true → goes_before a x ≡ false → goes_before b x ≡ false
later a b x = later_by a.immediate b.immediate x.immediate a.priority b.priority x.priority a.number b.number x.number

between : (a b x : Rank) → goes_before a b ≡ false → goes_before b x ≡ false → goes_before a x ≡ false
between a b x = between_by a.immediate b.immediate x.immediate a.priority b.priority x.priority a.number b.number x.number

itself_by : (i : Bool) (p n : ℕ) → goes i p n i p n ≡ false
itself_by true p n = grind (arith, nat_tests)
itself_by false p n = grind (arith, nat_tests)

same_job : (x y : Job) → Some x ≡ Some y → x ≡ y
same_job x y e = cc

-- neither the best so far nor a further one goes before what is found
abbrev IsFirst : Configuration → Job → Job → Type 0
IsFirst c j x = goes_before (rank_of c x) (rank_of c j) ≡ false

best_first : (c : Configuration) (jobs : List Job) (best j : Job) → fold (first_of_two c) (Some best) jobs ≡ Some j → IsFirst c j best
best_first c [] best j is = subst (λ x. IsFirst c x best) (same_job best j is) (itself_by (rank_of c best).immediate (rank_of c best).priority (rank_of c best).number)
best_first c (x ∷ jobs) best j is = elim (cases_Bool (goes_before (rank_of c x) (rank_of c best))) [
  | inl before ↦ later (rank_of c x) (rank_of c best) (rank_of c j) before (best_first c jobs x j (rw before at is))
  | inr not_it ↦ best_first c jobs best j (rw not_it at is)
]

others_first : (c : Configuration) (jobs : List Job) (best j x : Job) (k : ℕ) → fold (first_of_two c) (Some best) jobs ≡ Some j → k < length jobs → slice_index_or jobs k x ≡ x → IsFirst c j x
others_first c [] best j x k is within at = absurd (no_index k within)
others_first c (y ∷ jobs) best j x zero is within at = subst (λ z. IsFirst c j z) at (elim (cases_Bool (goes_before (rank_of c y) (rank_of c best))) [
  | inl before ↦ best_first c jobs y j (rw before at is)
  | inr not_it ↦ between (rank_of c y) (rank_of c best) (rank_of c j) not_it (best_first c jobs best j (rw not_it at is))
])
others_first c (y ∷ jobs) best j x (suc k) is within at = elim (cases_Bool (goes_before (rank_of c y) (rank_of c best))) [
  | inl before ↦ others_first c jobs y j x k (rw before at is) (omega arith) at
  | inr not_it ↦ others_first c jobs best j x k (rw not_it at is) (omega arith) at
]

pub next_goes_first : NextGoesFirst
next_goes_first c [] j x is has = cc
next_goes_first c (y ∷ jobs) j x is (zero, within, at) = subst (λ z. IsFirst c j z) at (best_first c jobs y j is)
next_goes_first c (y ∷ jobs) j x is (suc k, within, at) = others_first c jobs y j x k is (omega arith) at

-- THE NEXT JOB

abbrev IsAmong : List Job → Job → Type 0
IsAmong jobs j = (before after : List Job) × (jobs ≡ before ++ j ∷ after)

among_more : (x : Job) (jobs : List Job) (j : Job) → IsAmong jobs j → IsAmong (x ∷ jobs) j
among_more x jobs j (before, after, is) = (x ∷ before, after, ap (λ xs. x ∷ xs) is)

found_by : (c : Configuration) (x : Job) (jobs : List Job) (best j : Job) → (best ≡ j) ⊎ IsAmong jobs j → (best ≡ j) ⊎ IsAmong (x ∷ jobs) j
found_by c x jobs best j (inl same) = inl same
found_by c x jobs best j (inr among) = inr (among_more x jobs j among)

new_best : (x : Job) (jobs : List Job) (j : Job) → (x ≡ j) ⊎ IsAmong jobs j → IsAmong (x ∷ jobs) j
new_best x jobs j (inl same) = ([], jobs, ap (λ y. y ∷ jobs) same)
new_best x jobs j (inr among) = among_more x jobs j among

found_among : (c : Configuration) (jobs : List Job) (best j : Job) → fold (first_of_two c) (Some best) jobs ≡ Some j → (best ≡ j) ⊎ IsAmong jobs j
found_among c [] best j is = inl (same_job best j is)
found_among c (x ∷ jobs) best j is = elim (cases_Bool (goes_before (rank_of c x) (rank_of c best))) [
  | inl before ↦ inr (new_best x jobs j (found_among c jobs x j (rw before at is)))
  | inr not_it ↦ found_by c x jobs best j (found_among c jobs best j (rw not_it at is))
]

pub next_is_waiting : NextIsWaiting
next_is_waiting c [] j is = cc
next_is_waiting c (x ∷ jobs) j is = new_best x jobs j (found_among c jobs x j is)

best_stays : (c : Configuration) (jobs : List Job) (best : Job) → fold (first_of_two c) (Some best) jobs ≡ None → ⊥
best_stays c [] best is = cc
best_stays c (x ∷ jobs) best is = elim (cases_Bool (goes_before (rank_of c x) (rank_of c best))) [
  | inl before ↦ best_stays c jobs x (rw before at is)
  | inr not_it ↦ best_stays c jobs best (rw not_it at is)
]

pub none_waits : NoneWaits
none_waits c [] is = refl
none_waits c (x ∷ jobs) is = absurd (best_stays c jobs x is)

-- THE JOB IN HAND

pub pick_takes_in_hand : PickTakesInHand
pick_takes_in_hand c s j sw id block ops kind t =
    (λ next. ap (λ (n : Next). (picked c s t n).hand) next, λ next. ap (λ (n : Next). (picked c s t n).hand) next)

pub entries_of_the_job_in_hand : EntriesOfTheJobInHand
entries_of_the_job_in_hand c s j i mark block refused ops r given is = (rw is refl, rw is refl)
