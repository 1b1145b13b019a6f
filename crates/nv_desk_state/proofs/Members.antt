-- A request on all blocks through its steps.
use Rattle.std.proofs.Common.{◌≡◌, ◌<◌, ◌≤◌, ℕ, ◌+◌, ◌-◌, Bool, true, false, if◌then◌else◌, List, [], ◌∷◌, drop, length, sum_by, refl, ◌∙◌, sym, ap, subst, unwrap_or, option_map, arith, Option, Some, None}
use Rattle.std.proofs.lemmas.List.Sums.{sum_by-cons}
use Rattle.block_machine.specs.Words.{ReqResult, Pending as PendingResult, ReadJob, Taken, Configuration}
use Rattle.block_machine.specs.State.{State, Job, Sweep}
use Rattle.block_machine.specs.Blocks.{asked_block, job_block, job_kind, desc_of, keeps_ram}
use Rattle.block_machine.specs.Sweeps.{after_member, is_done, member_entries, member_job, member_kind, member_request, sweep_entries}
use Rattle.block_machine.specs.Next.{BeginSweep, PostMember, next_by, next_in_sweep}
use Rattle.block_machine.specs.Steps.{ended, in_hand, picked_job, posted_next, with_member}
use Rattle.block_states.specs.States.{KeptBlocks, changed_at}
use Rattle.job_pending.specs.Pending.{Pending, Agree as AreJobs}
use Rattle.multi_jobs.specs.declared.sweep.MemberFacts.{MemberFacts}
use Rattle.multi_jobs.specs.Laws.{Agree, AreFacts, IsNext}
use Rattle.multi_jobs.specs.Sweep.{SweepState, left_of, next_member, moved, place_behind, step_of}
use Rattle.multi_jobs.proofs.Configured.{members_are_configured}
use Rattle.multi_jobs.proofs.NextSteps.{step_is_next}
use Rattle.multi_jobs.proofs.Noted.{members_are_noted}
use Rattle.multi_jobs.proofs.Taken.{takes_the_first}
use Rattle.nv_desk_state.specs.declared.sweep.PendingSweep.{PendingSweep}
use Rattle.nv_desk_state.specs.declared.kept.Kept.{Kept}
use Rattle.nv_desk_state.specs.Pending.{IsAlone, IsMember, IsSweep, IsNoted, AreSweeps, IsAtMember, IsTaken}
use Rattle.nv_desk_state.specs.Kept.{Agrees}

pub canceled_noted : (c : Configuration) (p : PendingSweep) (sw : Sweep) (id : ℕ) → IsNoted c p sw id
    → IsNoted c (record p { members = record p.members { canceled = true } }) (record sw { canceled = true }) id
canceled_noted c p sw id h = λ r. let a = h r in record {
  under_way = a.under_way;
  writes = a.writes;
  canceled = refl;
  same = a.same;
  spoiled = a.spoiled;
  left = a.left;
}

pub member_next : (c : Configuration) (s : SweepState) (id : ℕ) (rest : List ℕ) → s.canceled ≡ false → left_of c s ≡ id ∷ rest → next_member c s ≡ Some id
member_next c s id rest on left = rw (on, left) refl

others_left : (c : Configuration) (p : PendingSweep) (sw : Sweep) → IsSweep c p sw → sw.canceled ≡ false
    → Agree c (moved c p.members) (record sw { under_way = true; left = drop 1 sw.left })
others_left c p sw h on = record {
  under_way = refl;
  writes = h.members.writes;
  canceled = h.members.canceled;
  same = h.members.same;
  spoiled = h.members.spoiled;
  left = takes_the_first c p.members (h.members.canceled ∙ on) ∙ ap (drop 1) h.members.left;
}

-- it is behind that member
passed : (c : Configuration) (p : PendingSweep) (sw : Sweep) (id : ℕ) (rest : List ℕ) → IsSweep c p sw → sw.canceled ≡ false → sw.left ≡ id ∷ rest
    → moved c p.members ≡ record p.members { place = place_behind p.members.place id }
passed c p sw id rest h on left =
    rw (member_next c p.members id rest (h.members.canceled ∙ on) (h.members.left ∙ left)) refl

pub taken_noted : (c : Configuration) (p : PendingSweep) (sw : Sweep) (id : ℕ) (rest : List ℕ) (n : ℕ) → IsSweep c p sw
    → sw.canceled ≡ false → sw.left ≡ id ∷ rest
    → IsNoted c (record p { members = record p.members { place = place_behind p.members.place id }; entries = n })
    (record sw { left = drop 1 sw.left }) id
taken_noted c p sw id rest n h on left =
    subst (λ (m : SweepState). IsNoted c (record p { members = m; entries = n }) (record sw { left = drop 1 sw.left }) id)
    (passed c p sw id rest h on left) (λ r.
    members_are_noted c p.members (record sw { under_way = true }) id r (is_done r) h.members
    (member_next c p.members id rest (h.members.canceled ∙ on) (h.members.left ∙ left)) (λ e. refl))

-- and the others are left
pub taken_left : (c : Configuration) (p : PendingSweep) (sw : Sweep) (id : ℕ) (rest : List ℕ) → IsSweep c p sw → sw.canceled ≡ false → sw.left ≡ id ∷ rest
    → Agree c (record p.members { place = place_behind p.members.place id }) (record sw { under_way = true; left = drop 1 sw.left })
taken_left c p sw id rest h on left =
    subst (λ (m : SweepState). Agree c m (record sw { under_way = true; left = drop 1 sw.left })) (passed c p sw id rest h on left) (others_left c p sw h on)

-- with the entries that are reserved for them
pub entries_left : (c : Configuration) (sw : Sweep) (id : ℕ) (rest : List ℕ) (entries n : ℕ) → sw.left ≡ id ∷ rest → entries ≡ sweep_entries c sw
    → n ≡ member_entries c sw.writes id → entries - n ≡ sweep_entries c (record sw { left = drop 1 sw.left })
entries_left c sw id rest entries n left all one =
    let sum = sum_by-cons (member_entries c sw.writes) id rest in
    let whole : entries ≡ sum_by (member_entries c sw.writes) (id ∷ rest) + (if sw.under_way then 1 else 2) = rw left at all in
    rw left (omega (arith, whole, one, sum))

-- what comes next in one under way is the machine's
pub sweep_goes_on : (c : Configuration) (s : State) (p : PendingSweep) (sw : Sweep) (f : MemberFacts) → IsSweep c p sw → sw.under_way ≡ true
    → AreFacts c s (next_member c p.members) f → IsNext (step_of c p.members f) sw (next_in_sweep c s sw)
sweep_goes_on c s p sw f h on facts =
    subst (λ (u : Bool). IsNext (step_of c p.members f) (record sw { under_way = u }) (next_in_sweep c s (record sw { under_way = u }))) (sym on)
    (step_is_next c s p.members (record sw { under_way = true }) f h.members facts)

-- A MEMBER IS PICKED OR POSTED

pub member_block : (writes : Bool) (id : ℕ) → asked_block (member_request writes id) ≡ id
member_block true id = refl
member_block false id = refl

pub kind_is : (writes : Bool) (id : ℕ) → unwrap_or (job_kind (member_request writes id)) ReadJob ≡ member_kind writes
kind_is true id = refl
kind_is false id = refl

pub sweep_at_member : (c : Configuration) (p : Option PendingSweep) (s : State) (sw : Sweep) (id : ℕ) → IsAtMember s sw id
    → AreSweeps c p s.sweep → AreSweeps c p (Some sw)
sweep_at_member c p s sw id x h = subst (AreSweeps c p) x.sweep h

pub member_picked : (c : Configuration) (k : Kept) (s : State) (sw : Sweep) (id : ℕ) (t : Taken) (p : Option PendingSweep) (jobs : Pending)
    (blocks : KeptBlocks) (o : Option Job) → Agrees c k s → IsAtMember s sw id → IsTaken c p sw id o
    → blocks ≡ changed_at id (λ b. record b { status = PendingResult }) k.blocks
    → AreJobs c jobs [] (Some (picked_job t 0 (member_job c sw id))) → jobs.slots.places ≡ k.jobs.slots.places
    → Agrees c (record k { blocks = blocks; jobs = jobs; sweep = p }) (in_hand c (with_member s sw id) (member_job c sw id) t)
member_picked c k s sw id t p jobs blocks o h x taken is agree places = rw (x.waiting, x.hand) (record {
  started = h.started;
  off = h.off;
  blocks = rw (is, h.blocks) refl;
  jobs = agree;
  sweep = taken.sweep;
  member = taken.noted (picked_job t 0 (member_job c sw id)) (member_block sw.writes id);
  alone = λ on. refl;
  rooms = rw is h.rooms;
  places = places ∙ h.places;
})

pub member_posted : (c : Configuration) (k : Kept) (s : State) (sw : Sweep) (id : ℕ) (r : ReqResult) (given : Option (List ℕ))
    (p : Option PendingSweep) (blocks : KeptBlocks) → Agrees c k s → IsAtMember s sw id
    → AreSweeps c p (Some (after_member id r (record sw { left = drop 1 sw.left })))
    → blocks ≡ changed_at id (ended (desc_of c id) (keeps_ram c id) (member_kind sw.writes) true r given) k.blocks
    → Agrees c (record k { blocks = blocks; sweep = p }) (posted_next c s r given (PostMember sw id))
member_posted c k s sw id r given p blocks h x noted is = record {
  started = h.started;
  off = h.off;
  blocks = rw (is, h.blocks) refl;
  jobs = h.jobs;
  sweep = noted;
  member = rw x.hand tt;
  alone = λ on. x.waiting;
  rooms = rw is h.rooms;
  places = h.places;
}

-- the member has a place for its job
known_by : (c : Configuration) (o : Option PendingSweep) (sw : Sweep) (id : ℕ) (rest : List ℕ) → 0 < length c.blocks
    → AreSweeps c o (Some sw) → sw.left ≡ id ∷ rest → id ≤ length c.blocks
known_by c None sw id rest some h left = absurd h
known_by c (Some p) sw id rest some h left = members_are_configured c p.members id rest some (h.members.left ∙ left)

pub member_known : (c : Configuration) (k : Kept) (s : State) (sw : Sweep) (id : ℕ) → 0 < length c.blocks → Agrees c k s
    → IsAtMember s sw id → id < k.jobs.slots.places
member_known c k s sw id some h x = omega (arith, h.places, known_by c k.sweep sw id x.rest some (sweep_at_member c k.sweep s sw id x h.sweep) x.left)

-- one that is kept and wasn't picked begins next
pub sweep_begins : (c : Configuration) (s : State) (o : Option PendingSweep) (w : Option Sweep) (p : PendingSweep) → o ≡ Some p → p.under_way ≡ false
    → AreSweeps c o w → (sw : Sweep) × (next_by c s None None w ≡ BeginSweep sw)
sweep_begins c s None w p is off h = cc
sweep_begins c s (Some x) None p is off h = absurd h
sweep_begins c s (Some x) (Some sw) p is off h =
    let same : x ≡ p = cc in
    let before : sw.under_way ≡ false = sym h.under_way ∙ ap (λ (y : PendingSweep). y.under_way) same ∙ off in
    (sw, rw before refl)

-- A WRITEALL IS CANCELED

abbrev pub canceled : Option Sweep → Option Sweep
canceled o = option_map (λ (sw : Sweep). record sw { canceled = true }) o

pub sweep_canceled : (c : Configuration) (p q : PendingSweep) (o : Option PendingSweep) (w : Option Sweep) → o ≡ Some p
    → ((sw : Sweep) → IsSweep c p sw → IsSweep c q (record sw { canceled = true })) → AreSweeps c o w → AreSweeps c (Some q) (canceled w)
sweep_canceled c p q None w is step h = cc
sweep_canceled c p q (Some x) None is step h = absurd h
sweep_canceled c p q (Some x) (Some sw) is step h = let same : x ≡ p = cc in step sw (subst (λ y. IsSweep c y sw) same h)

pub member_canceled : (c : Configuration) (p q : PendingSweep) (o : Option PendingSweep) (held : Option Job) (w : Option Sweep) → o ≡ Some p
    → ((sw : Sweep) (id : ℕ) → IsNoted c p sw id → IsNoted c q (record sw { canceled = true }) id) → IsMember c held o w → IsMember c held (Some q) (canceled w)
member_canceled c p q o None w is step h = tt
member_canceled c p q None (Some j) w is step h = cc
member_canceled c p q (Some x) (Some j) None is step h = tt
member_canceled c p q (Some x) (Some j) (Some sw) is step h =
    let same : x ≡ p = cc in λ on. step sw (job_block j) (subst (λ y. IsNoted c y sw (job_block j)) same (h on))

pub alone_canceled : (waiting : List Job) (w : Option Sweep) → IsAlone waiting w → IsAlone waiting (canceled w)
alone_canceled waiting None h = tt
alone_canceled waiting (Some sw) h = h
