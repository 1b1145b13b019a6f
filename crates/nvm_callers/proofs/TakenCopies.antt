-- What the jobs of a history took of synchronized RAM.
use Rattle.nvm_callers.proofs.Common.{option_to_list, ◌≡◌, ℕ, not, Bool, true, false, List, [], ◌∷◌, ◌++◌, refl, sym, ap, ◌∙◌, subst, Option, Some, None, Request, Reply, Accepted, JobKind, WriteJob, Taken, TookNothing, TookContent, TookStale, Entry, Ask, Pick, Wrote, Post, Off, Found, BlockDesc, Configuration, State, BlockState, Job, desc_of, block_at, is_synchronized, job_block, kind_of, member_job, Next, PickJob, BeginSweep, PickMember, next_of, after, TakesForWrite, TakesBy, MayPick, Each, Step, store_content, copies_next, Look, CopyIsShown, CopiesAreShown, histories_step, TookShown, AllTookShown, Read, Write, Restore, Erase, Invalidate, jobs_of, names_ram, at_first, step, job_at, picked, in_hand, with_member, IsAllowed, IsLegalFrom, copies_by, TakesStore, TakesStores, CopiesOf, IsStored, IsTakenStored, each_append, hand_stored, waiting_stored, content_stored, each_in_hand, each_posted, each_wrote, member_copies, next_has, takes_by, picks, CopiesAreStores}
use Rattle.std.specs.Option.{is_some}
use Rattle.std.proofs.Common.{◌&&◌}

-- A JOB
module _ (c : Configuration) (steps : List Step) where
  -- a job that names synchronized RAM took a store
  abbrev Took : Job → Type 0
  Took j = CopiesOf c j → IsStored c steps (job_block j) j.content

  abbrev JobsTook : State → Type 0
  JobsTook s = Each Took (jobs_of s)

  abbrev IsTaken : ℕ → Taken → Type 0
  IsTaken id t = IsTakenStored c steps id t

  -- what was copied is
  module _ (looks : List Look) (IsStore : (block number : ℕ) → List ℕ → Type 0) (stores : (block number : ℕ) (x : List ℕ) → IsStore block number x → store_content c steps block number ≡ Some x) where
    copied : (before : List Entry) (block : ℕ) (kind : JobKind) (t : Taken) (ops : ℕ) → TookShown looks IsStore before (Pick block kind t ops) true → IsTaken block t
    copied before block kind (TookContent bytes number) ops took = stores block number bytes took.1
    copied before block kind t ops took = tt

    by_content : (before : List Entry) (d : BlockDesc) (b : BlockState) (j : Job) (block id : ℕ) (kind : JobKind) (content : Option (List ℕ × ℕ)) (both synchronized : Bool) (t : Taken) (ops : ℕ)
        → block ≡ id → (both ≡ true → IsStored c steps id content) → TakesForWrite d b j content synchronized t
        → TookShown looks IsStore before (Pick block kind t ops) (not (is_some content) && both) → both ≡ true → IsTaken id t
    by_content before d b j block id kind (Some x) both synchronized t ops at stored takes took on = subst (IsTaken id) (sym takes) (stored on)
    by_content before d b j block id kind None true synchronized t ops at stored takes took on = subst (λ (k : ℕ). IsTaken k t) at (copied before block kind t ops took)
    by_content before d b j block id kind None false synchronized t ops at stored takes took on = absurd (cc on)

    nothing : (id : ℕ) (t : Taken) → t ≡ TookNothing → IsTaken id t
    nothing id t is = subst (IsTaken id) (sym is) tt

    by_kind : (before : List Entry) (d : BlockDesc) (b : BlockState) (j : Job) (block id : ℕ) (kind k : JobKind) (names : Bool) (t : Taken) (ops : ℕ)
        → block ≡ id → ((names && is_synchronized d.ram) ≡ true → IsStored c steps id j.content) → TakesBy d b j k t
        → TookShown looks IsStore before (Pick block kind t ops) (not (is_some j.content) && (names && is_synchronized d.ram)) → (names && is_synchronized d.ram) ≡ true → IsTaken id t
    by_kind before d b j block id kind WriteJob names t ops at stored takes took on =
        by_content before d b j block id kind j.content (names && is_synchronized d.ram) (is_synchronized d.ram) t ops at stored takes took on
    by_kind before d b j block id kind k names t ops at stored takes took on = nothing id t takes

    job_taken : (before : List Entry) (s : State) (j : Job) (block : ℕ) (kind : JobKind) (t : Taken) (ops : ℕ) → block ≡ job_block j → Took j
        → TakesBy (desc_of c (job_block j)) (block_at s (job_block j)) j (kind_of j) t
        → TookShown looks IsStore before (Pick block kind t ops) (not (is_some j.content) && (names_ram j.request && is_synchronized (desc_of c (job_block j)).ram))
        → CopiesOf c j → IsTaken (job_block j) t
    job_taken before s j block kind t ops at stored takes took copies =
        by_kind before (desc_of c (job_block j)) (block_at s (job_block j)) j block (job_block j) kind (kind_of j) (names_ram j.request) t ops at stored takes took copies

  -- a job that takes this comes in hand
  in_hand_took : (s : State) (j : Job) (t : Taken) → JobsTook s → Took j → (CopiesOf c j → IsTaken (job_block j) t) → JobsTook (in_hand c s j t)
  in_hand_took s j t all took taken = each_in_hand c Took (λ j reserved written is. is) s j t all (λ copies. content_stored c steps (job_block j) j.content t (taken copies) (took copies))

  -- EACH ENTRY
  accepted : (s : State) (j : Job) → JobsTook s → Took j → Each Took (option_to_list s.hand ++ (s.waiting ++ j ∷ []))
  accepted s j all took =
      each_append Took (option_to_list s.hand) (s.waiting ++ j ∷ []) (hand_stored Took s.hand s.waiting all)
      (each_append Took s.waiting (j ∷ []) (waiting_stored Took s.hand s.waiting all) (took, tt))

  asked : (s : State) (caller : ℕ) (reply : Reply) (r : Request) → JobsTook s → JobsTook (step c s (Ask caller r reply))
  asked s caller Accepted (Read block ram) all = accepted s (job_at c s.count (Read block ram)) all (λ copies. tt)
  asked s caller Accepted (Write block None store) all = accepted s (job_at c s.count (Write block None store)) all (λ copies. tt)
  asked s caller Accepted (Write block (Some content) store) all = accepted s (job_at c s.count (Write block (Some content) store)) all (λ copies. absurd (cc copies))
  asked s caller Accepted (Restore block ram) all = accepted s (job_at c s.count (Restore block ram)) all (λ copies. tt)
  asked s caller Accepted (Erase block) all = accepted s (job_at c s.count (Erase block)) all (λ copies. tt)
  asked s caller Accepted (Invalidate block) all = accepted s (job_at c s.count (Invalidate block)) all (λ copies. tt)
  asked s caller reply r all = all

  -- an entry that is no Pick takes nothing
  takes_none : (copies : Bool) (e : Entry) → picks (Some e) ≡ false → TakesStore c steps copies e
  takes_none true (Pick block kind t ops) none = absurd (cc none)
  takes_none copies e none = tt

  module _ (looks : List Look) (IsStore : (block number : ℕ) → List ℕ → Type 0) (stores : (block number : ℕ) (x : List ℕ) → IsStore block number x → store_content c steps block number ≡ Some x) where
    pick : (before : List Entry) (s : State) (block : ℕ) (kind : JobKind) (t : Taken) (ops : ℕ) (n : Next) → next_of c s ≡ n → JobsTook s → MayPick c s block kind t n
        → TookShown looks IsStore before (Pick block kind t ops) (copies_next c n)
        → TakesStore c steps (copies_by c n) (Pick block kind t ops) × JobsTook (picked c s t n)
    pick before s block kind t ops (PickJob j) is all may took =
        let stored = next_has c Took (λ j reserved written is. is) s j is all in
        let taken = job_taken looks IsStore stores before s j block kind t ops may.same_block stored may.takes took in (
          takes_by c steps (names_ram j.request && is_synchronized (desc_of c (job_block j)).ram) block kind t ops (λ copies. subst (λ (id : ℕ). IsTaken id t) (sym may.same_block) (taken copies)),
          in_hand_took s j t all stored taken,
        )
    pick before s block kind t ops (PickMember sw id) is all may took =
        let j = member_job c sw id in
        let flag = member_copies c sw id in
        let taken = job_taken looks IsStore stores before s j block kind t ops may.same_block (λ copies. tt) may.takes (subst (λ (b : Bool). TookShown looks IsStore before (Pick block kind t ops) b) flag took) in (
          takes_by c steps (is_synchronized (desc_of c id).ram) block kind t ops (λ copies. subst (λ (n : ℕ). IsTaken n t) (sym may.same_block) (taken (sym flag ∙ copies))),
          in_hand_took (with_member s sw id) j t all (λ copies. tt) taken,
        )
    pick before s block kind t ops (BeginSweep sw) is all may took = (tt, all)
    pick before s block kind t ops n is all may took = absurd may

    entry : (cap : ℕ) (before : List Entry) (s : State) (e : Entry) → IsAllowed c cap s e → JobsTook s → TookShown looks IsStore before e (copies_next c (next_of c s))
        → TakesStore c steps (copies_by c (next_of c s)) e × JobsTook (step c s e)
    entry cap before s (Ask caller r reply) allowed all took = (takes_none (copies_by c (next_of c s)) _ refl, asked s caller reply r all)
    entry cap before s (Pick block kind t ops) allowed all took = pick before s block kind t ops (next_of c s) refl all allowed.1 took
    entry cap before s (Wrote i mark ops) allowed all took = (takes_none (copies_by c (next_of c s)) _ refl, each_wrote c Took (λ j reserved written is. is) s i mark s.hand refl all)
    entry cap before s (Post block r given refused ops) allowed all took = (takes_none (copies_by c (next_of c s)) _ refl, each_posted c Took (λ j reserved written is. is) s r given s.hand all)
    entry cap before s (Off ops) allowed all took = (takes_none (copies_by c (next_of c s)) _ refl, all)
    entry cap before s (Found marks ops) allowed all took = (takes_none (copies_by c (next_of c s)) _ refl, tt)

    all_entries : (cap : ℕ) (before more : List Entry) (s : State) → after c before ≡ s → IsLegalFrom c cap s more → JobsTook s → AllTookShown looks IsStore c before more → TakesStores c steps s more
    all_entries cap before [] s at legal all took = tt
    all_entries cap before (e ∷ es) s at legal all took =
        let (takes, behind) = entry cap before s e legal.0 all (subst (λ (x : State). TookShown looks IsStore before e (copies_next c (next_of c x))) at took.0) in
        (takes, all_entries cap (before ++ e ∷ []) es (step c s e) (histories_step c before e ∙ ap (λ (x : State). step c x e) at) legal.1 behind took.1)

-- a copy that is shown took a store
shown_took : (c : Configuration) (steps : List Step) (looks : List Look) (before : List Entry) (e : Entry) (copies : Bool) → CopyIsShown c steps looks before e copies
    → TookShown looks (λ block number x. store_content c steps block number ≡ Some x) before e copies
shown_took c steps looks before (Pick block kind (TookStale asked got count) ops) copies is = is
shown_took c steps looks before (Pick block kind (TookContent bytes number) ops) true is = (is.0.seen, is.1)
shown_took c steps looks before e copies is = tt

all_took : (c : Configuration) (steps : List Step) (looks : List Look) (before more : List Entry) → CopiesAreShown c steps looks before more
    → AllTookShown looks (λ block number x. store_content c steps block number ≡ Some x) c before more
all_took c steps looks before [] all = tt
all_took c steps looks before (e ∷ es) all = (shown_took c steps looks before e (copies_next c (next_of c (after c before))) all.0, all_took c steps looks (before ++ e ∷ []) es all.1)

pub copies_are_stores : CopiesAreStores
copies_are_stores c cap steps looks h legal shown =
    all_entries c steps looks (λ block number x. store_content c steps block number ≡ Some x) (λ block number x is. is) cap [] h at_first refl legal tt (all_took c steps looks [] h shown)
