-- What a turn picks.
use Rattle.script_player.proofs.Common.{◌&&◌, not, is_some, ◌≡◌, ℕ, Bool, true, false, List, [], get_or, Option, None, refl, sym, ap, subst, JobKind, WriteJob, Taken, TookNothing, TookContent, TookRefused, TookStale, BlockDesc, Configuration, State, BlockState, Job, desc_of, block_at, is_synchronized, names_ram, job_block, kind_of, member_job, Next, PickJob, BeginSweep, PickMember, TakesBy, MayPick, Told, copies_out_by, copies_out_next, IsCopied, copies_next, TakesNewest, Sweep, member_request, copies_out_for, IsFromCopies}

-- WHAT A PICK TOOK

-- of what was copied this holds too
from_so : (P Q : ℕ → List ℕ → Type 0) (block : ℕ) (old new : List Told) (t : Taken) → ((n : ℕ) (x : List ℕ) → P n x → Q n x)
    → IsFromCopies P block old new t → IsFromCopies Q block old new t
from_so P Q block old new (TookContent bytes number) so is = so number bytes is
from_so P Q block old new (TookStale wanted got count) so is = (is.0, so got is.0 is.1)
from_so P Q block old new t so is = is

pub stored_so : (P Q : ℕ → List ℕ → Type 0) (c : Configuration) (block : ℕ) (old new : List Told) (copies : Bool) (t : Taken) → ((n : ℕ) (x : List ℕ) → P n x → Q n x)
    → IsCopied P c block old new copies t → IsCopied Q c block old new copies t
stored_so P Q c block old new true t so is = record { from = from_so P Q block old new t so is.from; spends = is.spends; others = is.others }
stored_so P Q c block old new false t so is = is

module _ (stores : List (ℕ × List ℕ)) (c : Configuration) (block : ℕ) (old new : List Told) where
  -- a store of the application
  abbrev IsNow : ℕ → List ℕ → Type 0
  IsNow n x = get_or stores block (0, []) ≡ (n, x)

  newest_copy : (t : Taken) → IsFromCopies IsNow block old new t → TakesNewest stores true block t
  newest_copy (TookContent bytes number) is = is
  newest_copy (TookStale wanted got count) is = sym (ap (λ (x : ℕ × List ℕ). x.0) is.1)
  newest_copy (TookRefused count) is = tt
  newest_copy TookNothing is = absurd is

  newest_nothing : (t : Taken) → t ≡ TookNothing → TakesNewest stores true block t
  newest_nothing t none = subst (λ (u : Taken). TakesNewest stores true block u) (sym none) tt

  newest_by : (d : BlockDesc) (b : BlockState) (j : Job) (kind : JobKind) (content : Option (List ℕ × ℕ)) (names synchronized : Bool) (t : Taken)
      → IsCopied IsNow c block old new (copies_out_by kind content synchronized) t → TakesBy d b j kind t
      → TakesNewest stores (not (is_some content) && (names && synchronized)) block t
  newest_by d b j WriteJob None true true t is takes = newest_copy t is.from
  newest_by d b j _ None true true t is takes = newest_nothing t takes
  newest_by d b j kind content names synchronized t is takes = tt

  newest_job : (s : State) (j : Job) (t : Taken) → IsCopied IsNow c block old new (copies_out_for c j) t
      → TakesBy (desc_of c (job_block j)) (block_at s (job_block j)) j (kind_of j) t
      → TakesNewest stores (not (is_some j.content) && (names_ram j.request && is_synchronized (desc_of c (job_block j)).ram)) block t
  newest_job s j t is takes =
      newest_by (desc_of c (job_block j)) (block_at s (job_block j)) j (kind_of j) j.content (names_ram j.request) (is_synchronized (desc_of c (job_block j)).ram) t is takes

member_names : (c : Configuration) (sw : Sweep) (id : ℕ) → names_ram (member_job c sw id).request ≡ true
member_names c sw id = by sw.writes
  where
    by : (t : Bool) → names_ram (member_request t id) ≡ true
    by true = refl
    by false = refl

member_block : (c : Configuration) (sw : Sweep) (id : ℕ) → job_block (member_job c sw id) ≡ id
member_block c sw id = by (member_job c sw id) sw.writes refl
  where
    by : (j : Job) (t : Bool) → j.request ≡ member_request t id → job_block j ≡ id
    by j true is = rw is refl
    by j false is = rw is refl

-- it is the newest store, where it is copied
pub newest : (stores : List (ℕ × List ℕ)) (c : Configuration) (s : State) (block : ℕ) (kind : JobKind) (old new : List Told) (t : Taken) (n : Next)
    → IsCopied (λ m x. get_or stores block (0, []) ≡ (m, x)) c block old new (copies_out_next c n) t → MayPick c s block kind t n → TakesNewest stores (copies_next c n) block t
newest stores c s block kind old new t (PickJob j) is may = newest_job stores c block old new s j t is may.takes
newest stores c s block kind old new t (PickMember sw id) is may =
    let j = member_job c sw id in
    subst (λ (names : Bool). TakesNewest stores (names && is_synchronized (desc_of c id).ram) block t) (member_names c sw id)
    (subst (λ (m : ℕ). TakesNewest stores (names_ram j.request && is_synchronized (desc_of c m).ram) block t) (member_block c sw id) (newest_job stores c block old new s j t is may.takes))
newest stores c s block kind old new t (BeginSweep sw) is may = tt
newest stores c s block kind old new t n is may = absurd may
