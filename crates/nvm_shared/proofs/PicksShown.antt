-- What a Pick copied was shown, what came along stands in the entries before it, and what the next job asks for was seen before.
use Rattle.std.specs.Prelude.{◌&&◌, not, is_some}
use Rattle.std.proofs.Common.{◌≡◌, ◌<◌, ℕ, Bool, true, false, List, [], ◌∷◌, ◌++◌, length, length-append, Option, Some, None, refl, sym, ap, ◌∙◌, subst, arith}
use Rattle.nvm_core.specs.memif.Told.{DeviceTold}
use Rattle.nvm_core.specs.memif.Clock.{Clock}
use Rattle.nvm_core.specs.block_machine.Words.{JobKind, WriteJob, Taken, TookNothing, TookContent, TookRefused, TookStale, BlockDesc, Configuration, Entry, Pick}
use Rattle.nvm_core.specs.block_machine.State.{State, BlockState, Job, Sweep}
use Rattle.nvm_core.specs.block_machine.Blocks.{asked_store, desc_of, block_at, is_synchronized, names_ram, job_block, kind_of}
use Rattle.nvm_core.specs.block_machine.Sweeps.{member_job, member_request}
use Rattle.nvm_core.specs.block_machine.Next.{Next, Nothing, PickJob, BeginSweep, PickMember, PostMember, EndSweep, next_of}
use Rattle.nvm_core.specs.block_machine.Steps.{after}
use Rattle.nvm_core.specs.block_machine.Legal.{TakesBy, TakesForWrite, MayPick}
use Rattle.nvm_core.specs.ram_blocks.Told.{Told}
use Rattle.nvm_core.specs.nv_desk.Desk.{DeskState, state_of}
use Rattle.nvm_core.specs.nv_desk_copies.Takes.{copies_out_by, copies_out_for, copies_out_next, IsFromCopies, IsCopied}
use Rattle.nvm_core.specs.nvm_laws.declared.turned.Turned.TheVariants as turned
use Rattle.nvm_core.specs.nvm_laws.declared.turned.Act.{Act}
use Rattle.nvm_core.specs.nvm_laws.declared.turned.Act.TheVariants.{Ended}
use Rattle.nvm_core.specs.Turns.{IsFirstHalf}
use Rattle.script_walks.specs.Walk.{copies_next}
use Rattle.nvm_shared.specs.Behind.{with_more}
use Rattle.nvm_shared.specs.Driving.{BeginsTurn, DriverState, stack_of}
use Rattle.nvm_shared.specs.Noted.{GoOn, HasSeen, PickIsShown}

-- THE LAST ENTRY
abbrev rest_of : List Entry → List Entry
rest_of [] = []
rest_of (x ∷ xs) = xs

same_last : (xs ys : List Entry) (x y : Entry) → xs ++ x ∷ [] ≡ ys ++ y ∷ [] → x ≡ y
same_last [] [] x y e = cc
same_last [] (b ∷ bs) x y e = absurd (omega (arith, ap (λ (l : List Entry). length l) e, length-append bs (y ∷ [])))
same_last (a ∷ more) [] x y e = absurd (omega (arith, ap (λ (l : List Entry). length l) e, length-append more (x ∷ [])))
same_last (a ∷ more) (b ∷ bs) x y e = same_last more bs x y (ap rest_of e)

abbrev block_in : Entry → ℕ
block_in (Pick block kind t ops) = block
block_in e = 0

abbrev taken_in : Entry → Taken
taken_in (Pick block kind t ops) = t
taken_in e = TookNothing

-- WHAT WAS COPIED
-- where the Pick copies, a content is one of these
abbrev Took : (ℕ → List ℕ → Type 0) → Bool → Taken → Type 0
Took P true (TookContent bytes number) = P number bytes
Took P copies t = Unit {0}

took_nothing : (P : ℕ → List ℕ → Type 0) (copies : Bool) (t : Taken) → t ≡ TookNothing → Took P copies t
took_nothing P true t none = subst (λ (u : Taken). Took P true u) (sym none) tt
took_nothing P false t none = tt

module _ (P : ℕ → List ℕ → Type 0) (c : Configuration) (block : ℕ) (old new : List Told) where
  of_copy : (t : Taken) → IsFromCopies P block old new t → Took P true t
  of_copy (TookContent bytes number) is = is
  of_copy (TookStale wanted got count) is = tt
  of_copy (TookRefused count) is = tt
  of_copy TookNothing is = absurd is

  by_kind : (d : BlockDesc) (b : BlockState) (j : Job) (kind : JobKind) (content : Option (List ℕ × ℕ)) (names synchronized : Bool) (t : Taken)
      → IsCopied P c block old new (copies_out_by kind content synchronized) t → TakesBy d b j kind t → Took P (not (is_some content) && (names && synchronized)) t
  by_kind d b j kind (Some x) names synchronized t is takes = tt
  by_kind d b j kind None false synchronized t is takes = tt
  by_kind d b j kind None true false t is takes = tt
  by_kind d b j WriteJob None true true t is takes = of_copy t is.from
  by_kind d b j _ None true true t is takes = took_nothing P true t takes

  of_job : (s : State) (j : Job) (t : Taken) → IsCopied P c block old new (copies_out_for c j) t → TakesBy (desc_of c (job_block j)) (block_at s (job_block j)) j (kind_of j) t
      → Took P (not (is_some j.content) && (names_ram j.request && is_synchronized (desc_of c (job_block j)).ram)) t
  of_job s j t is takes =
      by_kind (desc_of c (job_block j)) (block_at s (job_block j)) j (kind_of j) j.content (names_ram j.request) (is_synchronized (desc_of c (job_block j)).ram) t is takes

member_names : (c : Configuration) (sw : Sweep) (id : ℕ) → names_ram (member_job c sw id).request ≡ true
member_names c sw id = by sw.writes
  where
    by : (t : Bool) → names_ram (member_request t id) ≡ true
    by true = refl
    by false = refl

member_block : (c : Configuration) (sw : Sweep) (id : ℕ) → job_block (member_job c sw id) ≡ id
member_block c sw id = by (member_job c sw id) sw.writes refl
  where
    by : (j : Job) (t : Bool) → j.request ≡ member_request t id → job_block j ≡ id
    by j true is = rw is refl
    by j false is = rw is refl

took : (P : ℕ → List ℕ → Type 0) (c : Configuration) (s : State) (block : ℕ) (kind : JobKind) (old new : List Told) (t : Taken) (n : Next)
    → IsCopied P c block old new (copies_out_next c n) t → MayPick c s block kind t n → Took P (copies_next c n) t
took P c s block kind old new t (PickJob j) is may = of_job P c block old new s j t is may.takes
took P c s block kind old new t (PickMember sw id) is may =
    let j = member_job c sw id in
    subst (λ (names : Bool). Took P (names && is_synchronized (desc_of c id).ram) t) (member_names c sw id)
    (subst (λ (m : ℕ). Took P (names_ram j.request && is_synchronized (desc_of c m).ram) t) (member_block c sw id) (of_job P c block old new s j t is may.takes))
took P c s block kind old new t (BeginSweep sw) is may = tt
took P c s block kind old new t (PostMember sw id) is may = absurd may
took P c s block kind old new t (EndSweep sw) is may = absurd may
took P c s block kind old new t Nothing is may = absurd may

-- WHAT WAS TOO OLD
-- the next job asks for a later store of synchronized RAM than this
record AsksLater (c : Configuration) (block got : ℕ) (n : Next) : Type 0 where
  pub job : Job
  pub next : n ≡ PickJob job
  pub at : block ≡ job_block job
  pub synchronized : is_synchronized (desc_of c (job_block job)).ram ≡ true
  pub later : got < asked_store job.request

module _ (wanted got count : ℕ) where
  abbrev Late : (asked : ℕ) → (synchronized : Bool) → Type 0
  Late asked synchronized = (synchronized ≡ true) × (got < asked)

  late_for_write : (d : BlockDesc) (b : BlockState) (j : Job) (content : Option (List ℕ × ℕ)) (synchronized : Bool) → TakesForWrite d b j content synchronized (TookStale wanted got count) → Late (asked_store j.request) synchronized
  late_for_write d b j (Some x) synchronized takes = cc
  late_for_write d b j None true takes = (refl, takes.1)
  late_for_write d b j None false takes = cc

  late_by_kind : (d : BlockDesc) (b : BlockState) (j : Job) (kind : JobKind) → TakesBy d b j kind (TookStale wanted got count) → Late (asked_store j.request) (is_synchronized d.ram)
  late_by_kind d b j WriteJob takes = late_for_write d b j j.content (is_synchronized d.ram) takes
  late_by_kind d b j kind takes = cc

  member_asks : (writes : Bool) (id : ℕ) → asked_store (member_request writes id) ≡ 0
  member_asks true id = refl
  member_asks false id = refl

  late : (c : Configuration) (s : State) (block : ℕ) (kind : JobKind) (n : Next) → MayPick c s block kind (TookStale wanted got count) n → AsksLater c block got n
  late c s block kind (PickJob j) may =
      let is = late_by_kind (desc_of c (job_block j)) (block_at s (job_block j)) j (kind_of j) may.takes in
      record { job = j; next = refl; at = may.same_block; synchronized = is.0; later = is.1 }
  late c s block kind (PickMember sw id) may =
      let j = member_job c sw id in
      let is = late_by_kind (desc_of c (job_block j)) (block_at s (job_block j)) j (kind_of j) may.takes in
      absurd (omega (arith, is.1, member_asks sw.writes id))
  late c s block kind (BeginSweep sw) may = let none = may.takes_nothing in cc
  late c s block kind (PostMember sw id) may = absurd may
  late c s block kind (EndSweep sw) may = absurd may
  late c s block kind Nothing may = absurd may

-- and what came is that store
module _ (IsStore : ℕ → List ℕ → Type 0) (c : Configuration) (block : ℕ) (old new : List Told) (wanted got count : ℕ) where
  abbrev stale : Taken
  stale = TookStale wanted got count

  abbrev Older : Type 0
  Older = (x : List ℕ) × IsStore got x

  old_for_write : (d : BlockDesc) (b : BlockState) (j : Job) (content : Option (List ℕ × ℕ)) (synchronized : Bool)
      → IsCopied IsStore c block old new (copies_out_by WriteJob content synchronized) stale → TakesForWrite d b j content synchronized stale → Older
  old_for_write d b j (Some x) synchronized is takes = cc
  old_for_write d b j None true is takes = is.from
  old_for_write d b j None false is takes = cc

  old_by_kind : (d : BlockDesc) (b : BlockState) (j : Job) (kind : JobKind)
      → IsCopied IsStore c block old new (copies_out_by kind j.content (is_synchronized d.ram)) stale → TakesBy d b j kind stale → Older
  old_by_kind d b j WriteJob is takes = old_for_write d b j j.content (is_synchronized d.ram) is takes
  old_by_kind d b j kind is takes = cc

  older : (s : State) (kind : JobKind) (n : Next) → IsCopied IsStore c block old new (copies_out_next c n) stale → MayPick c s block kind stale n → Older
  older s kind (PickJob j) is may = old_by_kind (desc_of c (job_block j)) (block_at s (job_block j)) j (kind_of j) is may.takes
  older s kind (PickMember sw id) is may =
      let j = member_job c sw id in
      old_by_kind (desc_of c (job_block j)) (block_at s (job_block j)) j (kind_of j) is may.takes
  older s kind (BeginSweep sw) is may = let none = may.takes_nothing in cc
  older s kind (PostMember sw id) is may = absurd may
  older s kind (EndSweep sw) is may = absurd may
  older s kind Nothing is may = absurd may

-- THE FIRST HALF OF A TURN
abbrev head_of : Entry → List Entry → Entry
head_of e [] = e
head_of e (x ∷ xs) = x

same_front : (xs ys : List Entry) (x y : Entry) → xs ++ x ∷ [] ≡ ys ++ y ∷ [] → xs ≡ ys
same_front [] [] x y e = refl
same_front [] (b ∷ bs) x y e = absurd (omega (arith, ap (λ (l : List Entry). length l) e, length-append bs (y ∷ [])))
same_front (a ∷ more) [] x y e = absurd (omega (arith, ap (λ (l : List Entry). length l) e, length-append more (x ∷ [])))
same_front (a ∷ more) (b ∷ bs) x y e = ap (λ (h : Entry). h ∷ more) (ap (head_of a) e) ∙ ap (λ (l : List Entry). b ∷ l) (same_front more bs x y (ap rest_of e))

-- what is held of the block of the last entry, where that is a Pick behind these
abbrev pub Holds : {C : Type 0} → (looked : C → C → ℕ → ℕ → Type 0) → (over : C → C → Type 0) → (stands : C → ℕ → ℕ → List Entry → Type 0) → (front entries : List Entry) → (old new : C) → Type 0
Holds looked over stands front entries old new =
    (before : List Entry) (block ops : ℕ) (kind : JobKind) (t : Taken) → entries ≡ before ++ Pick block kind t ops ∷ [] → front ≡ before
    → ((m : ℕ) → looked old new block m → stands new block m before) × over new new

-- what was seen of the block that the next job asks for
abbrev pub Sees : {C : Type 0} → (looked : C → C → ℕ → ℕ → Type 0) → Configuration → State → (old new : C) → Type 0
Sees looked c s old new =
    (j : Job) → next_of c s ≡ PickJob j → is_synchronized (desc_of c (job_block j)).ram ≡ true → 0 < asked_store j.request → HasSeen looked (job_block j) (asked_store j.request) old new

pub pick_shown : {D C : Type 0} (told : D → DeviceTold) (clock : D → Clock) (copies : C → List Told) (is_store : C → ℕ → ℕ → List ℕ → Type 0) (looked : C → C → ℕ → ℕ → Type 0) (over : C → C → Type 0)
    (stands : C → ℕ → ℕ → List Entry → Type 0) (act : Act) (desk desk_new : DeskState) (first : C) (old new : DriverState D C) (begins : BeginsTurn told clock copies is_store looked act desk desk_new old new)
    → act ≡ Ended turned.Picked → Holds looked over stands (desk.entries ++ begins.asks) desk_new.entries first new.copies → GoOn copies is_store looked over first old.copies
    → Sees looked (with_more desk begins.asks).config (state_of (with_more desk begins.asks)) first old.copies → PickIsShown is_store looked over stands desk.config desk_new.entries first new.copies
pick_shown told clock copies is_store looked over stands act desk desk_new first old new begins is_picked holds goes sees before block ops kind t last =
    let d : DeskState = with_more desk begins.asks in
    let c : Configuration = d.config in
    let half : IsFirstHalf told copies is_store looked (Ended turned.Picked) (stack_of d old) (stack_of desk_new new) =
    subst (λ (a : Act). IsFirstHalf told copies is_store looked a (stack_of d old) (stack_of desk_new new)) is_picked begins.half in
    let (at, picked) = half.half in
    let P : ℕ → List ℕ → Type 0 = λ m x. is_store new.copies at m x × looked old.copies new.copies at m in
    let adds = sym (ap (λ (x : DeskState). x.entries) picked.adds) ∙ last in
    let same = same_last d.entries before _ (Pick block kind t ops) adds in
    let front : d.entries ≡ before = same_front d.entries before _ (Pick block kind t ops) adds in
    let took_it : picked.taken ≡ t = ap taken_in same in
    let is_at : at ≡ block = ap block_in same in
    let held = holds before block ops kind t last front in record {
      content = λ bytes number is copies_it.
          let has : Took P (copies_next c (next_of c (after c d.entries))) picked.taken =
          took P c (state_of d) at picked.kind (copies old.copies) (copies new.copies) picked.taken (next_of c (state_of d)) picked.copied picked.allowed.1 in
          let here : Took P true (TookContent bytes number) =
          subst (λ (b : Bool). Took P b (TookContent bytes number)) copies_it
          (subst (λ (l : List Entry). Took P (copies_next c (next_of c (after c l))) (TookContent bytes number)) front
          (subst (λ (u : Taken). Took P (copies_next c (next_of c (after c d.entries))) u) (took_it ∙ is) has)) in
          let shown = subst (λ (k : ℕ). is_store new.copies k number bytes × looked old.copies new.copies k number) is_at here in
          (shown.0, goes.earlier new.copies block number shown.1);
      stale = λ wanted got count is.
          let may = subst (λ (u : Taken). MayPick c (state_of d) at picked.kind u (next_of c (state_of d))) (took_it ∙ is) picked.allowed.1 in
          let asks = late wanted got count c (state_of d) at picked.kind (next_of c (state_of d)) may in
          let (n, reached, seen) = sees asks.job asks.next asks.synchronized (omega (arith, asks.later)) in
          let found = older (λ m x. is_store new.copies at m x × looked old.copies new.copies at m) c at (copies old.copies) (copies new.copies) wanted got count (state_of d) picked.kind (next_of c (state_of d))
          (subst (λ (u : Taken). IsCopied (λ m x. is_store new.copies at m x × looked old.copies new.copies at m) c at (copies old.copies) (copies new.copies) (copies_out_next c (next_of c (state_of d))) u) (took_it ∙ is) picked.copied) may in (
            old.copies,
            n,
            subst (λ (k : ℕ). looked first old.copies k n) (sym asks.at ∙ is_at) seen,
            subst (λ (k : ℕ). looked old.copies new.copies k got) is_at found.1.1,
            omega (arith, asks.later, reached),
          );
      stands_in = held.0;
      over_itself = held.1;
    }
