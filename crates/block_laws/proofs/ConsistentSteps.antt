-- The state after a legal history is consistent.
use Rattle.std.specs.Prelude.{slice_set, get_or}
use Rattle.std.proofs.Common.{◌≡◌, ◌≢◌, ℕ, ◌+◌, ◌≤◌, Bool, true, false, List, [], ◌∷◌, ◌++◌, drop, length, refl, ap, ◌∙◌, subst, arith, Option, Some, None, IfSome, option_map, unwrap_or, length-append}
use Rattle.std.proofs.lemmas.List.{length-set}
use Rattle.block_machine.specs.Words.{ReqResult, Pending, Instance, Mark, JobKind, ReadJob, Taken, Ask, Pick, Wrote, Post, Off, Found, Configuration}
use Rattle.block_machine.specs.State.{State, InstanceState, Job, Sweep}
use Rattle.block_machine.specs.Blocks.{block_at, no_block, keeps_ram, asked_block, job_kind, job_block, kind_of, names_ram, records_by, desc_of}
use Rattle.block_machine.specs.Sweeps.{member_job, member_request, member_kind, after_member}
use Rattle.block_machine.specs.Next.{Next, Nothing, PickJob, BeginSweep, PickMember, PostMember, EndSweep, next_in, next_of}
use Rattle.block_machine.specs.StartUp.{at_first}
use Rattle.block_machine.specs.Steps.{step, with_member, picked_job, in_hand, picked, wrote, posted, posted_next, ended}
use Rattle.block_machine.specs.Legal.{MayPick, MayWrite, MayPost, MayPostNext}
use Rattle.block_laws.specs.Laws.{LegalStatesAreConsistent, AllowedStepsStayConsistent}
use Rattle.block_laws.specs.Consistent.{Each, IsWaitingJob, IsJobInHand, IsPendingSweep, IsConsistent}
use Rattle.block_laws.proofs.Along.{kept_along}
use Rattle.block_laws.proofs.NextLaws.{none_waits}
use Rattle.block_laws.proofs.NextFacts.{sweep_in, member_in, job_in, next_job_by, next_sweep_by, next_left}
use Rattle.block_laws.proofs.Consistency.{waits_longer, hand_kept, sweep_kept, status_apart, ask_consistent, pick_consistent}

-- A STEP OF THE SWEEP

-- it is taken from a state where no job is pending
pub record IsIdle (c : Configuration) (s : State) (sw : Sweep) : Type 0 where
  pub waiting : s.waiting ≡ []
  pub hand : s.hand ≡ None
  pub some : s.sweep ≡ Some sw

pub idle : (c : Configuration) (s : State) (sw : Sweep) (n : Next) → next_of c s ≡ n → sweep_in n ≡ Some sw → IsIdle c s sw
idle c s sw n is some =
    let (none, free, sweep) = next_sweep_by c s (next_in c s.waiting) s.hand s.sweep sw (ap sweep_in is ∙ some) in
    record { waiting = none_waits c s.waiting none; hand = free; some = sweep }

its_sweep : (c : Configuration) (s : State) (sw : Sweep) → IsIdle c s sw → IsConsistent c s → IsPendingSweep s sw
its_sweep c s sw idle h = subst (λ (o : Option Sweep). IfSome o (IsPendingSweep s)) idle.some h.sweep

pub left_of : (c : Configuration) (s : State) (sw : Sweep) (id : ℕ) (n : Next) → next_of c s ≡ n → s.sweep ≡ Some sw → member_in n ≡ Some id → (rest : List ℕ) × (sw.left ≡ id ∷ rest)
left_of c s sw id n is some member = next_left c s (next_in c s.waiting) s.hand s.sweep sw id some (ap member_in is ∙ member)

-- the sweep goes on with these members left, while id 0 stays as it was
sweep_with : (s t : State) (sw next : Sweep) → s.count ≤ t.count → next.number ≡ sw.number → (get_or t.blocks 0 no_block).status ≡ (get_or s.blocks 0 no_block).status → Each (λ id. id ≢ 0) next.left → IsPendingSweep s sw → IsPendingSweep t next
sweep_with s t sw next more number same named h = record { number = let l = h.number in omega (arith, number); pending = rw same h.pending; named = named }

nothing_waits : (c : Configuration) (n : ℕ) (jobs : List Job) → jobs ≡ [] → Each (IsWaitingJob c n) jobs
nothing_waits c n jobs is = rw is tt

-- PICK OF A MEMBER

pub member_block : (writes : Bool) (id : ℕ) → asked_block (member_request writes id) ≡ id
member_block true id = refl
member_block false id = refl

member_records : (c : Configuration) (writes : Bool) (id : ℕ) → records_by (desc_of c (asked_block (member_request writes id))).kind (unwrap_or (job_kind (member_request writes id)) ReadJob) ≡ records_by (desc_of c id).kind (member_kind writes)
member_records c true id = refl
member_records c false id = refl

member_picked : (c : Configuration) (s : State) (sw : Sweep) (id : ℕ) (rest : List ℕ) (t : Taken) (instances : List InstanceState) (m : ℕ) → sw.left ≡ id ∷ rest → IsPendingSweep s sw → IsConsistent c s
    → IsConsistent c (record (with_member s sw id) { waiting = []; hand = Some (picked_job t 0 (member_job c sw id)); instances = instances; count = s.count + 1; ops = m })
member_picked c s sw id rest t instances m left pending h =
    let named : Each (λ id. id ≢ 0) (id ∷ rest) = subst (λ (ids : List ℕ). Each (λ id. id ≢ 0) ids) left pending.named in
    let b = record (block_at s id) { status = Pending } in
    let size : length (slice_set s.blocks id b) ≡ length s.blocks = length-set s.blocks id b in
    record {
      blocks = λ on. let l = h.blocks on in omega (arith, size);
      waiting = tt;
      apart = tt;
      hand = record {
        number = let l = pending.number in omega arith;
        named = rw (member_block sw.writes id) named.0;
        apart = tt;
        written = omega arith;
        entries = rw (member_records c sw.writes id) (omega arith);
      };
      sweep = record { number = let l = pending.number in omega arith; pending = rw (status_apart s.blocks id b named.0) pending.pending; named = rw left named.1 };
    }

pick_of_member : (c : Configuration) (s : State) (sw : Sweep) (id : ℕ) (t : Taken) (m : ℕ) → next_of c s ≡ PickMember sw id → IsConsistent c s → IsConsistent c (record (in_hand c (with_member s sw id) (member_job c sw id) t) { count = s.count + 1; ops = m })
pick_of_member c s sw id t m is h =
    let at = idle c s sw (PickMember sw id) is refl in
    let (rest, left) = left_of c s sw id (PickMember sw id) is at.some refl in
    rw (at.waiting, at.hand) (member_picked c s sw id rest t _ m left (its_sweep c s sw at h) h)

sweep_picked : (c : Configuration) (s : State) (sw : Sweep) (m : ℕ) → s.waiting ≡ [] → IsPendingSweep s sw → IsConsistent c s → IsConsistent c (record s { sweep = Some (record sw { under_way = true }); count = s.count + 1; ops = m })
sweep_picked c s sw m none pending h = record {
  blocks = h.blocks;
  waiting = nothing_waits c (s.count + 1) s.waiting none;
  apart = h.apart;
  hand = hand_kept c s (record s { sweep = Some (record sw { under_way = true }); count = s.count + 1; ops = m }) s.hand (omega arith) refl h.hand;
  sweep = record { number = let l = pending.number in omega arith; pending = pending.pending; named = pending.named };
}

pick_next : (c : Configuration) (s : State) (block : ℕ) (kind : JobKind) (t : Taken) (m : ℕ) (n : Next) → next_of c s ≡ n → MayPick c s block kind t n → IsConsistent c s → IsConsistent c (record (picked c s t n) { count = s.count + 1; ops = m })
pick_next c s block kind t m (PickJob j) is may h = pick_consistent c s j t m (next_job_by c s (next_in c s.waiting) s.hand s.sweep j (ap job_in is)) may.free h
pick_next c s block kind t m (PickMember sw id) is may h = pick_of_member c s sw id t m is h
pick_next c s block kind t m (BeginSweep sw) is may h = let at = idle c s sw (BeginSweep sw) is refl in sweep_picked c s sw m at.waiting (its_sweep c s sw at h) h
pick_next c s block kind t m (PostMember sw id) is may h = absurd may
pick_next c s block kind t m (EndSweep sw) is may h = absurd may
pick_next c s block kind t m Nothing is may h = absurd may

-- WROTE

wrote_job : (c : Configuration) (s : State) (i : Instance) (mark : Mark) (m : ℕ) (o : Option Job) → s.hand ≡ o → MayWrite c s i mark o → IsConsistent c s → IsConsistent c (record (wrote s i mark o) { count = s.count + 1; ops = m })
wrote_job c s i mark m None is may h = absurd may
wrote_job c s i mark m (Some j) is may h =
    let here : IsJobInHand c s j = subst (λ (o : Option Job). IfSome o (IsJobInHand c s)) is h.hand in
    let longer : length (j.written ++ i.index ∷ []) ≡ length j.written + 1 = length-append j.written (i.index ∷ []) in
    let less = may.left in
    record {
      blocks = h.blocks;
      waiting = waits_longer c s.count s.waiting h.waiting;
      apart = h.apart;
      hand = record {
        number = let l = here.number in omega arith;
        named = here.named;
        apart = here.apart;
        written = omega (arith, longer, less);
        entries = let l = here.entries in omega (arith, longer, less);
      };
      sweep = sweep_kept s (record (wrote s i mark (Some j)) { count = s.count + 1; ops = m }) s.sweep (omega arith) refl h.sweep;
    }

-- POST

number_after : (id : ℕ) (r : ReqResult) (sw : Sweep) (b : Bool) → sw.under_way ≡ b → ((after_member id r sw).number ≡ sw.number) × ((after_member id r sw).left ≡ sw.left)
number_after id r sw true is = rw is (refl, refl)
number_after id r sw false is = rw is (refl, refl)

sweep_after : (s t : State) (id : ℕ) (r : ReqResult) (o : Option Sweep) → s.count ≤ t.count → (get_or t.blocks 0 no_block).status ≡ (get_or s.blocks 0 no_block).status → IfSome o (IsPendingSweep s) → IfSome (option_map (after_member id r) o) (IsPendingSweep t)
sweep_after s t id r None more same h = tt
sweep_after s t id r (Some sw) more same h = let (number, left) = number_after id r sw sw.under_way refl in sweep_with s t sw (after_member id r sw) more number same (rw left h.named) h

job_posted : (c : Configuration) (s : State) (j : Job) (r : ReqResult) (given : Option (List ℕ)) (m : ℕ) → job_block j ≢ 0 → IsConsistent c s → IsConsistent c (record (posted c s r given (Some j)) { count = s.count + 1; ops = m })
job_posted c s j r given m named h =
    let b = ended (desc_of c (job_block j)) (keeps_ram c (job_block j)) (kind_of j) (names_ram j.request) r given (block_at s (job_block j)) in
    let size : length (slice_set s.blocks (job_block j) b) ≡ length s.blocks = length-set s.blocks (job_block j) b in
    record {
      blocks = λ on. let l = h.blocks on in omega (arith, size);
      waiting = waits_longer c s.count s.waiting h.waiting;
      apart = h.apart;
      hand = tt;
      sweep = sweep_after s (record (posted c s r given (Some j)) { count = s.count + 1; ops = m }) (job_block j) r s.sweep (omega arith) (status_apart s.blocks (job_block j) b named) h.sweep;
    }

member_posted : (c : Configuration) (s : State) (sw : Sweep) (id : ℕ) (r : ReqResult) (given : Option (List ℕ)) (m : ℕ) → next_of c s ≡ PostMember sw id → IsConsistent c s → IsConsistent c (record (posted_next c s r given (PostMember sw id)) { count = s.count + 1; ops = m })
member_posted c s sw id r given m is h =
    let at = idle c s sw (PostMember sw id) is refl in
    let (rest, left) = left_of c s sw id (PostMember sw id) is at.some refl in
    let pending = its_sweep c s sw at h in
    let named : Each (λ id. id ≢ 0) (id ∷ rest) = subst (λ (ids : List ℕ). Each (λ id. id ≢ 0) ids) left pending.named in
    let b = ended (desc_of c id) (keeps_ram c id) (member_kind sw.writes) true r given (block_at s id) in
    let size : length (slice_set s.blocks id b) ≡ length s.blocks = length-set s.blocks id b in
    let next = record sw { left = drop 1 sw.left } in
    let (number, same) = number_after id r next next.under_way refl in
    record {
      blocks = λ on. let l = h.blocks on in omega (arith, size);
      waiting = nothing_waits c (s.count + 1) s.waiting at.waiting;
      apart = h.apart;
      hand = rw at.hand tt;
      sweep = sweep_with s (record (posted_next c s r given (PostMember sw id)) { count = s.count + 1; ops = m }) sw (after_member id r next) (omega arith) number (status_apart s.blocks id b named.0) (rw (same, left) named.1) pending;
    }

sweep_ended : (c : Configuration) (s : State) (sw : Sweep) (r : ReqResult) (given : Option (List ℕ)) (m : ℕ) → next_of c s ≡ EndSweep sw → IsConsistent c s → IsConsistent c (record (posted_next c s r given (EndSweep sw)) { count = s.count + 1; ops = m })
sweep_ended c s sw r given m is h =
    let at = idle c s sw (EndSweep sw) is refl in
    let b = record (block_at s 0) { status = r } in
    let size : length (slice_set s.blocks 0 b) ≡ length s.blocks = length-set s.blocks 0 b in
    record { blocks = λ on. let l = h.blocks on in omega (arith, size); waiting = nothing_waits c (s.count + 1) s.waiting at.waiting; apart = h.apart; hand = rw at.hand tt; sweep = tt }

post_next : (c : Configuration) (s : State) (block : ℕ) (r : ReqResult) (given : Option (List ℕ)) (refused m : ℕ) (n : Next) → next_of c s ≡ n → MayPostNext c s block (r, given) refused n → IsConsistent c s → IsConsistent c (record (posted_next c s r given n) { count = s.count + 1; ops = m })
post_next c s block r given refused m (PostMember sw id) is may h = member_posted c s sw id r given m is h
post_next c s block r given refused m (EndSweep sw) is may h = sweep_ended c s sw r given m is h
post_next c s block r given refused m (PickJob j) is may h = absurd may
post_next c s block r given refused m (PickMember sw id) is may h = absurd may
post_next c s block r given refused m (BeginSweep sw) is may h = absurd may
post_next c s block r given refused m Nothing is may h = absurd may

post_by : (c : Configuration) (s : State) (block : ℕ) (r : ReqResult) (given : Option (List ℕ)) (refused m : ℕ) (o : Option Job) → s.hand ≡ o → MayPost c s block (r, given) refused o → IsConsistent c s → IsConsistent c (record (posted c s r given o) { count = s.count + 1; ops = m })
post_by c s block r given refused m (Some j) is may h = job_posted c s j r given m (subst (λ (o : Option Job). IfSome o (IsJobInHand c s)) is h.hand).named h
post_by c s block r given refused m None is may h = post_next c s block r given refused m (next_of c s) refl may h

-- THE STEP

pub allowed_steps_stay_consistent : AllowedStepsStayConsistent
allowed_steps_stay_consistent c cap s (Ask caller r reply) h allowed = ask_consistent c cap s caller r reply s.ops allowed h
allowed_steps_stay_consistent c cap s (Pick block kind t ops) h allowed = pick_next c s block kind t ops (next_of c s) refl allowed.1 h
allowed_steps_stay_consistent c cap s (Wrote i mark ops) h allowed = wrote_job c s i mark ops s.hand refl allowed.1 h
allowed_steps_stay_consistent c cap s (Post block r given refused ops) h allowed = post_by c s block r given refused ops s.hand refl allowed.1 h
allowed_steps_stay_consistent c cap s (Off ops) h allowed = record { blocks = h.blocks; waiting = waits_longer c s.count s.waiting h.waiting; apart = h.apart; hand = hand_kept c s (step c s (Off ops)) s.hand (omega arith) refl h.hand; sweep = sweep_kept s (step c s (Off ops)) s.sweep (omega arith) refl h.sweep }
allowed_steps_stay_consistent c cap s (Found marks ops) h allowed = record { blocks = λ on. omega arith; waiting = tt; apart = tt; hand = tt; sweep = tt }

pub at_first_consistent : (c : Configuration) → IsConsistent c at_first
at_first_consistent c = record { blocks = λ on. cc; waiting = tt; apart = tt; hand = tt; sweep = tt }

pub legal_states_are_consistent : LegalStatesAreConsistent
legal_states_are_consistent c cap h legal = kept_along c cap (IsConsistent c) (λ s e allowed was. allowed_steps_stay_consistent c cap s e was allowed) at_first h legal (at_first_consistent c)
