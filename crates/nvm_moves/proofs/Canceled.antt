-- Where a WriteAll that was canceled is all that is pending, what is due is its end.
use Rattle.nvm_moves.proofs.Common.{option_to_list, ◌≡◌, ℕ, Bool, true, false, List, [], ◌∷◌, ◌++◌, Option, Some, None, if◌then◌else◌, refl, sym, ap, ◌∙◌, subst, ReqResult, JobKind, ReadAllJob, WriteAllJob, Taken, Entry, Pick, Post, Configuration, State, Job, Sweep, Next, BeginSweep, EndSweep, next_member, next_of, MayPick, is_due, begins_with_pick_or_post, EndsCanceled, Canceled, TookNothing, jobs_of, sweep_result, IsAllowed, MayPost, MayPostNext, Answer, next_at, some_none}
use Rattle.std.proofs.Common.{IsTrue}

-- the entry that ends it
abbrev end_of : (under_way : Bool) → ℕ → Entry
end_of under_way ops = if under_way then Post 0 Canceled None 0 ops else Pick 0 WriteAllJob TookNothing ops

none_pending : (hand : Option Job) (waiting : List Job) → option_to_list hand ++ waiting ≡ [] → (hand ≡ None) × (waiting ≡ [])
none_pending None waiting none = (refl, none)
none_pending (Some j) waiting none = absurd (cc none)

-- nothing waits, and none is in hand
module _ (s : State) (sw : Sweep) (sweep : s.sweep ≡ Some sw) (none : jobs_of s ≡ []) where
  hand : s.hand ≡ None
  hand = (none_pending s.hand s.waiting none).0

  waiting : s.waiting ≡ []
  waiting = (none_pending s.hand s.waiting none).1

  due : s.off ≡ false → is_due s ≡ true
  due on = rw (on, hand, waiting, sweep) refl

  module _ (c : Configuration) (writes : sw.writes ≡ true) (canceled : sw.canceled ≡ true) where
    next : next_of c s ≡ (if sw.under_way then EndSweep sw else BeginSweep sw)
    next = next_at c s None [] (Some sw) hand waiting sweep ∙ by canceled
      where
        by : sw.canceled ≡ true → (if sw.under_way then next_member c s sw (if sw.canceled then [] else sw.left) else BeginSweep sw) ≡ (if sw.under_way then EndSweep sw else BeginSweep sw)
        by is = rw is refl

    result : sweep_result sw ≡ Canceled
    result = rw canceled refl

    kind_is : (if sw.writes then WriteAllJob else ReadAllJob) ≡ WriteAllJob
    kind_is = rw writes refl

    pick_is : (block : ℕ) (kind : JobKind) (t : Taken) (ops : ℕ) (under_way : Bool) → MayPick c s block kind t (if under_way then EndSweep sw else BeginSweep sw) → Pick block kind t ops ≡ end_of under_way ops
    pick_is block kind t ops true may = absurd may
    pick_is block kind t ops false may = let block_is = may.all_blocks in let k = may.same_kind ∙ kind_is in let took = may.takes_nothing in rw (block_is, k, took) refl

    post_is : (block : ℕ) (r : ReqResult) (given : Option (List ℕ)) (refused ops : ℕ) (under_way : Bool) → MayPostNext c s block (r, given) refused (if under_way then EndSweep sw else BeginSweep sw)
        → Post block r given refused ops ≡ end_of under_way ops
    post_is block r given refused ops false may = absurd may
    post_is block r given refused ops true may =
        let block_is = may.all_blocks in
        let r_is : r ≡ Canceled = ap (λ (a : Answer). a.0) may.results ∙ result in
        let given_is : given ≡ None = ap (λ (a : Answer). a.1) may.results in
        let refused_is = may.no_copy in rw (block_is, r_is, given_is, refused_is) refl

    by_entry : (cap : ℕ) (e : Entry) → IsAllowed c cap s e → IsTrue (begins_with_pick_or_post (e ∷ [])) → (ops : ℕ) × (Some e ≡ Some (end_of sw.under_way ops))
    by_entry cap (Pick block kind t ops) allowed begins = (ops, ap (λ (e : Entry). Some e) (pick_is block kind t ops sw.under_way (subst (λ (n : Next). MayPick c s block kind t n) next allowed.1)))
    by_entry cap (Post block r given refused ops) allowed begins = (
      ops,
      ap (λ (e : Entry). Some e) (post_is block r given refused ops sw.under_way
          (subst (λ (n : Next). MayPostNext c s block (r, given) refused n) next (subst (λ (o : Option Job). MayPost c s block (r, given) refused o) hand allowed.1))),
    )
    by_entry cap e allowed begins = absurd (cc begins)

-- a Pick or a Post that the machine allows
pub allowed_ends : (c : Configuration) (cap : ℕ) (s : State) (e : Entry) → IsAllowed c cap s e → IsTrue (begins_with_pick_or_post (e ∷ [])) → EndsCanceled s (Some e)
allowed_ends c cap s e allowed begins sw sweep writes canceled none on = by_entry s sw sweep none c writes canceled cap e allowed begins

-- where nothing is due, or a job is in hand, there is none
pub late_ends : (s : State) (e : Option Entry) → is_due s ≡ false → EndsCanceled s e
late_ends s e late sw sweep writes canceled none on = absurd (let P : true ≡ false = sym (due s sw sweep none on) ∙ late in cc P)

pub held_ends : (s : State) (j : Job) (e : Option Entry) → s.hand ≡ Some j → EndsCanceled s e
held_ends s j e held sw sweep writes canceled none on = absurd (some_none j (sym held ∙ hand s sw sweep none))
