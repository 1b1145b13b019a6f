-- What a Pick takes, by the machine.
use Rattle.std.proofs.Common.{◌≡◌, ℕ, Bool, true, false, List, [], ◌∷◌, ◌++◌, if◌then◌else◌, refl, sym, ap, ◌∙◌, subst, Option, Some, None}
use Rattle.block_machine.specs.Words.{JobKind, Configuration, Taken, Pick, TookNothing}
use Rattle.block_machine.specs.State.{State, Job, Sweep}
use Rattle.block_machine.specs.Blocks.{desc_of, block_at, is_synchronized, asked_block, job_block, kind_of}
use Rattle.block_machine.specs.Sweeps.{is_picked, member_kind, member_request, member_job}
use Rattle.block_machine.specs.Next.{Next, Nothing, PickJob, BeginSweep, PickMember, PostMember, EndSweep, next_in, next_by, next_of, next_member}
use Rattle.block_machine.specs.Legal.{IsDriving, HandIsFree, TakesBy, MayPick, IsAllowed}
use Rattle.nv_desk.specs.job_pending.Take.{taken_with}
use Rattle.nv_desk.specs.job_pending.declared.take.Take.{Take}
use Rattle.nv_desk.specs.Desk.{DeskState, state_of}
use Rattle.nv_desk.specs.Picks.{lent_or, next_ram, ram_at, took_of}
use Rattle.nv_desk.specs.Members.{MayPickMember}
use Rattle.nv_desk.specs.AllBlocks.{sweep_kind}
use Rattle.ram_blocks.specs.Told.{Told}
use Rattle.nv_desk.proofs.MemberEntries.{at_picked, at_posted}
use Rattle.nv_desk.proofs.Picks.{some_is}
use Rattle.nv_desk_copies.specs.Takes.{copies_out_by, copies_out_for, copies_out_next, IsCopied}
use Rattle.nv_desk_copies.specs.Picks.{IsPicked, IsPickNext, MayPickJob}

-- A JOB

next_is : (c : Configuration) (s : State) (j : Job) → next_in c s.waiting ≡ Some j → next_of c s ≡ PickJob j
next_is c s j next = ap (λ (o : Option Job). next_by c s o s.hand s.sweep) next

-- A MEMBER

block_is : (writes : Bool) (id : ℕ) → asked_block (member_request writes id) ≡ id
block_is true id = refl
block_is false id = refl

kind_by : (writes : Bool) (c : Configuration) (sw : Sweep) (id : ℕ) → sw.writes ≡ writes → member_kind sw.writes ≡ kind_of (member_job c sw id)
kind_by true c sw id is = rw is refl
kind_by false c sw id is = rw is refl

hand_by : (c : Configuration) (s : State) (sw : Sweep) (id : ℕ) (o h : Option Job) (w : Option Sweep) → next_by c s o h w ≡ PickMember sw id → h ≡ None
hand_by c s sw id (Some j) h w e = cc
hand_by c s sw id None (Some j) w e = cc
hand_by c s sw id None None w e = refl

free_at : (c : Configuration) (o : Option Job) (j : Job) → o ≡ None → HandIsFree c o j
free_at c None j e = tt
free_at c (Some h) j e = cc

pub member_allowed : (c : Configuration) (cap : ℕ) (s : State) (sw : Sweep) (id : ℕ) (taken : Taken) (ops : ℕ) → IsDriving s ops
    → next_of c s ≡ PickMember sw id → TakesBy (desc_of c id) (block_at s id) (member_job c sw id) (member_kind sw.writes) taken
    → IsAllowed c cap s (Pick id (member_kind sw.writes) taken ops)
member_allowed c cap s sw id taken ops driving is takes =
    let j = member_job c sw id in
    let block : job_block j ≡ id = block_is sw.writes id in (
      driving,
      subst (λ (n : Next). MayPick c s id (member_kind sw.writes) taken n) (sym is)
          (record {
            free = free_at c s.hand j (hand_by c s sw id (next_in c s.waiting) s.hand s.sweep is);
            same_block = sym block;
            same_kind = kind_by sw.writes c sw id refl;
            takes = subst (λ (n : ℕ). TakesBy (desc_of c n) (block_at s n) j (kind_of j) taken) (sym block)
                (subst (λ (k : JobKind). TakesBy (desc_of c id) (block_at s id) j k taken) (kind_by sw.writes c sw id refl) takes);
          }),
    )

pub may_pick_member : (d : DeskState) (sw : Sweep) (id : ℕ) (t : Take) (lent : List ℕ) (ops : ℕ) → IsDriving (state_of d) ops
    → next_of d.config (state_of d) ≡ PickMember sw id
    → TakesBy (desc_of d.config id) (block_at (state_of d) id) (member_job d.config sw id) (member_kind sw.writes) (taken_with None (took_of t lent))
    → MayPickMember d id (took_of t lent) ops
may_pick_member d sw id t lent ops driving is takes = record {
  sweep = sw;
  is = is;
  allowed = member_allowed d.config d.cap (state_of d) sw id (taken_with None (took_of t lent)) ops driving is takes;
}

-- a member of a WriteAll copies where its block is synchronized
member_copies : (c : Configuration) (sw : Sweep) (id : ℕ)
    → copies_out_by (member_kind sw.writes) None (is_synchronized (desc_of c id).ram) ≡ copies_out_for c (member_job c sw id)
member_copies c sw id =
    let j = member_job c sw id in
    ap (λ (k : JobKind). copies_out_by k None (is_synchronized (desc_of c id).ram)) (kind_by sw.writes c sw id refl)
    ∙ ap (λ (n : ℕ). copies_out_by (kind_of j) None (is_synchronized (desc_of c n).ram)) (sym (block_is sw.writes id))

pub member_copied : (IsStore : ℕ → List ℕ → Type 0) (before after : List Told) (c : Configuration) (sw : Sweep) (id : ℕ) (taken : Taken)
    → IsCopied IsStore c id before after (copies_out_by (member_kind sw.writes) None (is_synchronized (desc_of c id).ram)) taken
    → IsCopied IsStore c id before after (copies_out_for c (member_job c sw id)) taken
member_copied IsStore before after c sw id taken = subst (λ (b : Bool). IsCopied IsStore c id before after b taken) (member_copies c sw id)

-- THE PICK OF A JOB

pub job_picks : (IsStore : ℕ → ℕ → List ℕ → Type 0) (d new : DeskState) (x j : Job) (t : Take) (lent : Option (List ℕ)) (ops : ℕ) (before after : List Told)
    → MayPickJob d ops → next_in d.config (state_of d).waiting ≡ Some j → x ≡ j
    → TakesBy (desc_of d.config (job_block x)) (block_at (state_of d) (job_block x)) x (kind_of x) (taken_with x.content (took_of t (lent_or (ram_at d (job_block x)) lent)))
    → IsCopied (IsStore (job_block x)) d.config (job_block x) before after (copies_out_for d.config x) (taken_with x.content (took_of t (lent_or (ram_at d (job_block x)) lent)))
    → new ≡ record d { entries = d.entries ++ Pick (job_block j) (kind_of j) (taken_with j.content (took_of t (lent_or (next_ram d) lent))) ops ∷ [] }
    → IsPicked (λ u. IsCopied (IsStore (job_block j)) d.config (job_block j) before after (copies_out_for d.config j) u) (job_block j) ops d new
job_picks IsStore d new x j t lent ops before after may next same takes copied adds =
    let s = state_of d in
    let ram : next_ram d ≡ ram_at d (job_block j) = rw next refl in
    let taken = taken_with j.content (took_of t (lent_or (ram_at d (job_block j)) lent)) in
    record {
      kind = kind_of j;
      taken = taken;
      adds = rw ram at adds;
      allowed = (
        may.driving,
        subst (λ (n : Next). MayPick d.config s (job_block j) (kind_of j) taken n) (sym (next_is d.config s j next))
            (record {
              free = subst (HandIsFree d.config s.hand) (some_is may.job j (sym may.is ∙ next)) may.free;
              same_block = refl;
              same_kind = refl;
              takes = subst (λ (y : Job). TakesBy (desc_of d.config (job_block y)) (block_at s (job_block y)) y (kind_of y) (taken_with y.content (took_of t (lent_or (ram_at d (job_block y)) lent)))) same takes;
            }),
      );
      copied = subst (λ (y : Job). IsCopied (IsStore (job_block y)) d.config (job_block y) before after (copies_out_for d.config y) (taken_with y.content (took_of t (lent_or (ram_at d (job_block y)) lent)))) same copied;
    }

-- WHAT COMES NEXT

-- the sweep of a member that is picked, or posted without a Pick
pub picks_of : (c : Configuration) (s : State) (sw : Sweep) (id : ℕ) → next_of c s ≡ PickMember sw id → s.sweep ≡ Some sw
picks_of c s sw id e = (at_picked c s sw id e).sweep

pub posts_of : (c : Configuration) (s : State) (sw : Sweep) (id : ℕ) → next_of c s ≡ PostMember sw id → (s.hand ≡ None) × (s.sweep ≡ Some sw)
posts_of c s sw id e = let at = at_posted c s sw id e in (at.hand, at.sweep)

no_member : (x : Sweep) (j : Job) (k : ℕ) (b : Bool) → (if b then PickMember x k else PostMember x k) ≡ PickJob j → ⊥
no_member x j k true e = cc
no_member x j k false e = cc

none_listed : (c : Configuration) (s : State) (j : Job) (x : Sweep) (ids : List ℕ) → next_member c s x ids ≡ PickJob j → ⊥
none_listed c s j x [] e = cc
none_listed c s j x (k ∷ ids) e = no_member x j k (is_picked (desc_of c k) (block_at s k) x k) e

no_job : (c : Configuration) (s : State) (j : Job) (x : Sweep) (ids : List ℕ) (on : Bool) → (if on then next_member c s x ids else BeginSweep x) ≡ PickJob j → ⊥
no_job c s j x ids true e = none_listed c s j x ids e
no_job c s j x ids false e = cc

job_by : (c : Configuration) (s : State) (j : Job) (o h : Option Job) (w : Option Sweep) → next_by c s o h w ≡ PickJob j → o ≡ Some j
job_by c s j (Some x) h w e = cc
job_by c s j None (Some x) w e = cc
job_by c s j None None None e = cc
job_by c s j None None (Some x) e = absurd (no_job c s j x (if x.canceled then [] else x.left) x.under_way e)

pub waits : (c : Configuration) (s : State) (j : Job) → next_of c s ≡ PickJob j → next_in c s.waiting ≡ Some j
waits c s j e = job_by c s j (next_in c s.waiting) s.hand s.sweep e

-- no Pick comes next where a Post without one does, or nothing
pub not_posted : (n : Next) (sw : Sweep) (id : ℕ) → n ≡ PostMember sw id → IsPickNext n → ⊥
not_posted n sw id is picks = subst IsPickNext is picks

pub not_ended : (n : Next) (sw : Sweep) → n ≡ EndSweep sw → IsPickNext n → ⊥
not_ended n sw is picks = subst IsPickNext is picks

pub not_nothing : (n : Next) → n ≡ Nothing → IsPickNext n → ⊥
not_nothing n is picks = subst IsPickNext is picks

-- THE PICK

pub job_picked : (IsStore : ℕ → ℕ → List ℕ → Type 0) (before after : List Told) (c : Configuration) (n : Next) (j : Job) (block ops : ℕ) (old new : DeskState)
    → n ≡ PickJob j → block ≡ job_block j
    → IsPicked (λ t. IsCopied (IsStore (job_block j)) c (job_block j) before after (copies_out_for c j) t) (job_block j) ops old new
    → IsPicked (λ t. IsCopied (IsStore block) c block before after (copies_out_next c n) t) block ops old new
job_picked IsStore before after c n j block ops old new is at h = rw (is, at) h

pub member_picked : (IsStore : ℕ → ℕ → List ℕ → Type 0) (before after : List Told) (c : Configuration) (n : Next) (sw : Sweep) (block ops : ℕ) (old new : DeskState)
    → n ≡ PickMember sw block
    → IsPicked (λ t. IsCopied (IsStore block) c block before after (copies_out_for c (member_job c sw block)) t) block ops old new
    → IsPicked (λ t. IsCopied (IsStore block) c block before after (copies_out_next c n) t) block ops old new
member_picked IsStore before after c n sw block ops old new is h = rw is h

pub sweep_picked : (IsStore : ℕ → ℕ → List ℕ → Type 0) (told : List Told) (sw : Sweep) (ops : ℕ) (old new : DeskState) → IsDriving (state_of old) ops
    → next_of old.config (state_of old) ≡ BeginSweep sw
    → new ≡ record old { entries = old.entries ++ Pick 0 (sweep_kind sw.writes) TookNothing ops ∷ [] }
    → IsPicked (λ t. IsCopied (IsStore 0) old.config 0 told told (copies_out_next old.config (next_of old.config (state_of old))) t) 0 ops old new
sweep_picked IsStore told sw ops old new driving is adds = record {
  kind = sweep_kind sw.writes;
  taken = TookNothing;
  adds = adds;
  allowed = (
    driving,
    subst (λ (n : Next). MayPick old.config (state_of old) 0 (sweep_kind sw.writes) TookNothing n) (sym is)
        (record { all_blocks = refl; same_kind = refl; takes_nothing = refl }),
  );
  copied = subst (λ (n : Next). IsCopied (IsStore 0) old.config 0 told told (copies_out_next old.config n) TookNothing) (sym is) refl;
}
