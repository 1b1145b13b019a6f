-- A request keeps the state sound.
use Rattle.std.proofs.Common.{◌≡◌, ◌<◌, ℕ, zero, suc, true, List, [], ◌∷◌, ◌++◌, length, get_or, slice_set, option_to_list, IfSome, refl, sym, ap, ◌∙◌, subst, arith, Option, Some, None}
use Rattle.std.proofs.lemmas.List.{length-set}
use Rattle.block_machine.specs.Words.{Pending, Configuration, WriteJob, Request, SetIndex, SetProtection, SetLock, SetRam, PutRam, GetIndex, Status, CancelWriteAll}
use Rattle.block_machine.specs.State.{State, BlockState, Job, jobs_of}
use Rattle.block_machine.specs.Blocks.{no_block, desc_of, block_at, job_block, kind_of, status_of, is_pending}
use Rattle.block_machine.specs.Steps.{accepted, with_status}
use Rattle.block_laws.specs.Consistent.{Each, IsConsistent}
use Rattle.block_laws.proofs.BlockFields.{field_kept}
use Rattle.block_laws.proofs.JobLists.{each_more, each_push}
use Rattle.nv_desk_state.specs.Kept.{IsChange}
use Rattle.nv_desk.specs.Sound.{HasRam, IsPendingJob, IsSound}

-- LISTS

-- behind the job in hand
each_behind : {X : Type 0} (P : X → Type 0) (o : Option X) (xs : List X) (y : X) → Each P (option_to_list o ++ xs) → P y
    → Each P (option_to_list o ++ (xs ++ y ∷ []))
each_behind P None xs y each last = each_push P xs y each last
each_behind P (Some x) xs y each last = (each.0, each_push P xs y each.1 last)

-- STATUSES

-- a block that is PENDING stays so where another one begins to be
still : (bs : List BlockState) (id k : ℕ) → is_pending (get_or bs k no_block).status ≡ true
    → is_pending (get_or (slice_set bs id (record (get_or bs id no_block) { status = Pending })) k no_block).status ≡ true
still [] id k is = is
still (b ∷ bs) zero zero is = refl
still (b ∷ bs) zero (suc k) is = is
still (b ∷ bs) (suc id) zero is = is
still (b ∷ bs) (suc id) (suc k) is = still bs id k is

pub now : (bs : List BlockState) (id : ℕ) → id < length bs → is_pending
    (get_or (slice_set bs id (record (get_or bs id no_block) { status = Pending })) id no_block).status ≡ true
now [] id below = absurd (omega arith)
now (b ∷ bs) zero below = refl
now (b ∷ bs) (suc id) below = now bs id (omega arith)

-- REQUESTS

pub sound_job : (c : Configuration) (s : State) (id count ops : ℕ) (j : Job)
    → let new : State = record (with_status id Pending s) { waiting = s.waiting ++ j ∷ []; count = count; ops = ops } in IsSound c s
    → IsConsistent c new
    → job_block j ≡ id → id < length s.blocks → IfSome j.content (λ x. length x.0 ≡ (desc_of c (job_block j)).length)
    → (kind_of j ≡ WriteJob → j.content ≡ None → HasRam c (job_block j)) → IsSound c new
sound_job c s id count ops j sound consistent is below content ram = let new : State =
    record (with_status id Pending s) { waiting = s.waiting ++ j ∷ []; count = count; ops = ops } in record {
      consistent = consistent;
      places = λ started. length-set s.blocks id (record (block_at s id) { status = Pending }) ∙ sound.places started;
      jobs = each_behind (IsPendingJob c new) s.hand s.waiting j
          (each_more (IsPendingJob c s) (IsPendingJob c new) (jobs_of s)
          (λ x h. record { pending = still s.blocks id (job_block x) h.pending; content = h.content; ram = h.ram }) sound.jobs)
          (record { pending = subst (λ k. is_pending (status_of new k) ≡ true) (sym is) (now s.blocks id below); content = content; ram = ram });
    }

pub sound_pending : (c : Configuration) (s new : State) → IsSound c s → IsConsistent c new → new.started ≡ s.started
    → new.blocks ≡ slice_set s.blocks 0 (record (block_at s 0) { status = Pending }) → jobs_of new ≡ jobs_of s → IsSound c new
sound_pending c s new sound consistent started blocks jobs = record {
  consistent = consistent;
  places = λ on. ap length blocks ∙ length-set s.blocks 0 (record (block_at s 0) { status = Pending }) ∙ sound.places (rw started at on);
  jobs = rw jobs (each_more (IsPendingJob c s) (IsPendingJob c new) (jobs_of s)
      (λ x h. record { pending = rw blocks (still s.blocks 0 (job_block x) h.pending); content = h.content; ram = h.ram }) sound.jobs);
}

-- only one block changed, and not its status
sound_block : (c : Configuration) (s new : State) (id : ℕ) (b : BlockState) → IsSound c s → IsConsistent c new → new.started ≡ s.started
    → new.blocks ≡ slice_set s.blocks id b → b.status ≡ (block_at s id).status → jobs_of new ≡ jobs_of s → IsSound c new
sound_block c s new id b sound consistent started blocks is jobs = record {
  consistent = consistent;
  places = λ on. ap length blocks ∙ length-set s.blocks id b ∙ sound.places (rw started at on);
  jobs = rw jobs (each_more (IsPendingJob c s) (IsPendingJob c new) (jobs_of s)
      (λ x h. record {
        pending = rw blocks (ap is_pending (field_kept (λ (y : BlockState). y.status) s.blocks id b (job_block x) is) ∙ h.pending);
        content = h.content;
        ram = h.ram;
      }) sound.jobs);
}

-- what blocks and jobs say is as before
pub sound_same : (c : Configuration) (s new : State) → IsSound c s → IsConsistent c new → new.started ≡ s.started → new.blocks ≡ s.blocks
    → jobs_of new ≡ jobs_of s → IsSound c new
sound_same c s new sound consistent started blocks jobs = record {
  consistent = consistent;
  places = λ on. ap length blocks ∙ sound.places (rw started at on);
  jobs = rw jobs (each_more (IsPendingJob c s) (IsPendingJob c new) (jobs_of s)
      (λ x h. record { pending = rw blocks h.pending; content = h.content; ram = h.ram }) sound.jobs);
}

pub sound_change : (c : Configuration) (s : State) (r : Request) (rooms : List ℕ) (count ops : ℕ) → IsSound c s → IsChange rooms r
    → let new : State = record (accepted c s r) { count = count; ops = ops } in IsConsistent c new → IsSound c new
sound_change c s (SetIndex block index) rooms count ops sound is consistent =
    sound_block c s (record (accepted c s (SetIndex block index)) { count = count; ops = ops }) block
    (record (block_at s block) { index = index }) sound consistent refl refl refl refl
sound_change c s (SetProtection block on) rooms count ops sound is consistent =
    sound_block c s (record (accepted c s (SetProtection block on)) { count = count; ops = ops }) block
    (record (block_at s block) { protected = on }) sound consistent refl refl refl refl
sound_change c s (SetLock block on) rooms count ops sound is consistent =
    sound_block c s (record (accepted c s (SetLock block on)) { count = count; ops = ops }) block
    (record (block_at s block) { locked = on }) sound consistent refl refl refl refl
sound_change c s (SetRam block on) rooms count ops sound is consistent =
    sound_block c s (record (accepted c s (SetRam block on)) { count = count; ops = ops }) block
    (record (block_at s block) { valid = on; changed = on }) sound consistent refl refl refl refl
sound_change c s (PutRam block content) rooms count ops sound is consistent =
    sound_block c s (record (accepted c s (PutRam block content)) { count = count; ops = ops }) block
    (record (block_at s block) { ram = content }) sound consistent refl refl refl refl
sound_change c s (GetIndex block) rooms count ops sound is consistent = sound_same c s (record s { count = count; ops = ops }) sound consistent refl refl refl
sound_change c s (Status block) rooms count ops sound is consistent = sound_same c s (record s { count = count; ops = ops }) sound consistent refl refl refl
sound_change c s CancelWriteAll rooms count ops sound is consistent =
    sound_same c s (record (accepted c s CancelWriteAll) { count = count; ops = ops }) sound consistent refl refl refl
sound_change c s r rooms count ops sound is consistent = absurd is
