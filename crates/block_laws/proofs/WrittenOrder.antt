-- A job in hand has taken what it takes, and writes its instances in order.
use Rattle.std.specs.List.{list_all}
use Rattle.std.proofs.Common.{◌≡◌, ℕ, ◌<◌, ◌&&◌, nat_lt, Bool, true, false, List, [], ◌∷◌, ◌++◌, refl, sym, subst, arith, Option, Some, None, IfSome}
use Rattle.std.specs.Prelude.{IsSome}
use Rattle.std.proofs.lemmas.Bool.Decides.{nat_tests}
use Rattle.block_machine.specs.Words.{ReqResult, Instance, Mark, Taken, Entry, Ask, Pick, Wrote, Post, Off, Found, Configuration}
use Rattle.block_machine.specs.State.{State, Job}
use Rattle.block_machine.specs.Next.{Next, Nothing, PickJob, BeginSweep, PickMember, PostMember, EndSweep, next_of}
use Rattle.block_machine.specs.StartUp.{at_first}
use Rattle.block_machine.specs.Steps.{step, picked, wrote, posted, posted_next}
use Rattle.block_machine.specs.Legal.{MayWrite, IsAllowed}
use Rattle.block_laws.specs.Laws.{WrittenAscends}
use Rattle.block_laws.specs.Consistent.{Ascend}
use Rattle.block_laws.proofs.Along.{kept_along, asked_leaves}
use Rattle.block_laws.proofs.JobLists.{each_push}

abbrev InOrder : Option Job → Type 0
InOrder o = IfSome o (λ j. Ascend j.written × IsSome j.taken)

picked_order : (c : Configuration) (s : State) (t : Taken) (n : Next) → InOrder s.hand → InOrder (picked c s t n).hand
picked_order c s t (PickJob j) order = (tt, refl)
picked_order c s t (PickMember sw id) order = (tt, refl)
picked_order c s t (BeginSweep sw) order = order
picked_order c s t (PostMember sw id) order = order
picked_order c s t (EndSweep sw) order = order
picked_order c s t Nothing order = order

two_tests : (p q : Bool) → (p && q) ≡ true → (p ≡ true) × (q ≡ true)
two_tests true q is = (refl, is)
two_tests false q is = cc

below : (a b : ℕ) → nat_lt a b ≡ true → a < b
below a b is = grind (arith, nat_tests)

ascend_push : (ns : List ℕ) (n : ℕ) → list_all (λ k. nat_lt k n) ns ≡ true → Ascend ns → Ascend (ns ++ n ∷ [])
ascend_push [] n low ascend = (tt, tt)
ascend_push (k ∷ ns) n low ascend =
    let (one, rest) = two_tests (nat_lt k n) (list_all (λ k. nat_lt k n) ns) low in
    (each_push (λ m. k < m) ns n ascend.0 (below k n one), ascend_push ns n rest ascend.1)

wrote_order : (c : Configuration) (s : State) (i : Instance) (mark : Mark) (o : Option Job) → s.hand ≡ o → MayWrite c s i mark o → InOrder o → InOrder (wrote s i mark o).hand
wrote_order c s i mark None is may order = absurd may
wrote_order c s i mark (Some j) is may order = (ascend_push j.written i.index may.in_order order.0, order.1)

next_hand : (c : Configuration) (s : State) (r : ReqResult) (given : Option (List ℕ)) (n : Next) → (posted_next c s r given n).hand ≡ s.hand
next_hand c s r given (PostMember sw id) = refl
next_hand c s r given (EndSweep sw) = refl
next_hand c s r given n = refl

posted_order : (c : Configuration) (s : State) (r : ReqResult) (given : Option (List ℕ)) (o : Option Job) → s.hand ≡ o → InOrder o → InOrder (posted c s r given o).hand
posted_order c s r given (Some j) is order = tt
posted_order c s r given None is order = subst InOrder (sym (next_hand c s r given (next_of c s))) (subst InOrder (sym is) tt)

step_order : (c : Configuration) (cap : ℕ) (s : State) (e : Entry) → IsAllowed c cap s e → InOrder s.hand → InOrder (step c s e).hand
step_order c cap s (Ask caller r reply) allowed order = subst InOrder (sym (asked_leaves c s r reply).1) order
step_order c cap s (Pick block kind t ops) allowed order = picked_order c s t (next_of c s) order
step_order c cap s (Wrote i mark ops) allowed order = wrote_order c s i mark s.hand refl allowed.1 order
step_order c cap s (Post block r given refused ops) allowed order = posted_order c s r given s.hand refl order
step_order c cap s (Off ops) allowed order = order
step_order c cap s (Found marks ops) allowed order = tt

pub written_ascends : WrittenAscends
written_ascends c cap h j legal is = subst InOrder is (kept_along c cap (λ s. InOrder s.hand) (step_order c cap) at_first h legal tt)
