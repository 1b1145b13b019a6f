-- What the states after the beginnings of a legal history keep of the marks that jobs took.
use Rattle.std.specs.Prelude.{slice_set, get_or, slice_get, option_to_list}
use Rattle.std.specs.List.{enumerate_from}
use Rattle.std.proofs.Common.{◌≡◌, ℕ, ◌+◌, ◌-◌, Bool, true, false, List, [], ◌∷◌, ◌++◌, drop, length, map, refl, sym, ap, ◌∙◌, subst, inl, inr, arith, Option, Some, None, IfSome, IsTrue, is_some, option_map, if◌then◌else◌}
use Rattle.std.proofs.lemmas.List.{length-set, length-map}
use Rattle.block_machine.specs.nv_base.Marks.{instance_of}
use Rattle.block_machine.specs.nv_base.declared.instance.DeviceNumber.{DeviceNumber}
use Rattle.block_machine.specs.block_config.Lengths.{lengths_of}
use Rattle.block_machine.specs.Words.{ReqResult, Pending, Instance, Mark, Request, SetIndex, SetProtection, SetLock, SetRam, PutRam, ReadAll, WriteAll, CancelWriteAll, Reply, Accepted, Refused, StatusIs, IndexIs, JobKind, Taken, Entry, Ask, Pick, Wrote, Post, Off, Found, Configuration}
use Rattle.block_machine.specs.State.{State, BlockState, InstanceState, Job, Sweep, jobs_of}
use Rattle.block_machine.specs.Blocks.{block_at, no_block, keeps_ram, asked_block, job_kind, job_block, kind_of, names_ram, desc_of, mark_of}
use Rattle.block_machine.specs.Sweeps.{member_job, member_kind, after_member}
use Rattle.block_machine.specs.Reply.{reply_of}
use Rattle.block_machine.specs.Next.{Next, Nothing, PickJob, BeginSweep, PickMember, PostMember, EndSweep, next_in, next_of}
use Rattle.block_machine.specs.StartUp.{at_first, started_block}
use Rattle.block_machine.specs.Steps.{step, with_block, with_status, with_member, with_sweep, changed, accepted_by, asked, job_at, picked_job, interrupted, without_job, in_hand, picked, wrote, posted, posted_next, ended, content_after}
use Rattle.block_machine.specs.Legal.{IsAsk, IsPick, MayPick, MayWrite, MayPost, MayPostNext, IsAllowed}
use Rattle.block_laws.specs.Consistent.{Each, AreApart, IsConsistent}
use Rattle.block_laws.proofs.JobLists.{each_more, apart_parts, without_split}
use Rattle.block_laws.proofs.NextLaws.{next_is_waiting}
use Rattle.block_laws.proofs.NextFacts.{job_in, next_job_by}
use Rattle.block_laws.proofs.ConsistentSteps.{idle, member_block, allowed_steps_stay_consistent}
use Rattle.block_laws.proofs.PendingJobs.{sweep_request, IsAsked, HasAsk, PendingAt, IsJob, AreJobs, Looks, ask_after, jobs_look, jobs_push, jobs_pick, jobs_post, looks_set, looks_free, pending_set, free_block, free_index, no_job_there}
use Rattle.block_laws.proofs.MarkCells.{indices_in, FitsJob, Writes, doubts_fit, writes_fit, doubts_stay, settled_stay, found_stay}

abbrev pub IsAskedSweep : List Entry → Sweep → Type 0
IsAskedSweep h sw = IsAsked h sw.number (sweep_request sw.writes)

abbrev pub HoldsMarks : Configuration → List BlockState → List InstanceState → Option Job → Type 0
HoldsMarks c bs xs o = IfSome o (λ j. Each (FitsJob c bs j) xs)

pub record Follows (c : Configuration) (h : List Entry) (s : State) : Type 0 where
  pub sound : IsConsistent c s
  pub size : IsTrue s.started → length s.blocks ≡ length c.blocks + 1
  pub jobs : AreJobs h s.blocks (jobs_of s)
  pub sweep : IfSome s.sweep (IsAskedSweep h)
  pub marks : HoldsMarks c s.blocks s.instances s.hand
  pub instances : IsTrue s.started → map (λ (x : InstanceState). x.instance) s.instances ≡ map (λ (x : DeviceNumber × ℕ). instance_of x.0) (lengths_of c)

-- BLOCKS AND THE SWEEP ALONE

fits_look : (c : Configuration) (bs cs : List BlockState) (j : Job) (xs : List InstanceState) → (get_or cs (job_block j) no_block).index ≡ (get_or bs (job_block j) no_block).index → Each (FitsJob c bs j) xs → Each (FitsJob c cs j) xs
fits_look c bs cs j xs same fits = each_more (FitsJob c bs j) (FitsJob c cs j) xs (λ x f. record { doubts = λ m at b i. f.doubts m at b (rw same at i); settles = f.settles; owed = λ m at b i. f.owed m at b (rw same at i) }) fits

marks_look : (c : Configuration) (h : List Entry) (bs cs : List BlockState) (xs : List InstanceState) (o : Option Job) (waiting : List Job) → Looks bs cs → AreJobs h bs (option_to_list o ++ waiting) → HoldsMarks c bs xs o → HoldsMarks c cs xs o
marks_look c h bs cs xs None waiting looks jobs marks = tt
marks_look c h bs cs xs (Some j) waiting looks jobs marks = fits_look c bs cs j xs (looks (job_block j) jobs.each.0.pending).1 marks

looked : (c : Configuration) (h : List Entry) (s : State) (bs : List BlockState) (o : Option Sweep) (off : Bool) (n m : ℕ) → length bs ≡ length s.blocks → Looks s.blocks bs → IfSome o (IsAskedSweep h)
    → IsConsistent c (record s { blocks = bs; sweep = o; off = off; count = n; ops = m }) → Follows c h s → Follows c h (record s { blocks = bs; sweep = o; off = off; count = n; ops = m })
looked c h s bs o off n m size looks sweep sound f = record {
  sound = sound;
  size = λ on. size ∙ f.size on;
  jobs = jobs_look h s.blocks bs (jobs_of s) looks f.jobs;
  sweep = sweep;
  marks = marks_look c h s.blocks bs s.instances s.hand s.waiting looks f.jobs f.marks;
  instances = f.instances;
}

counted : (c : Configuration) (h : List Entry) (s : State) (o : Option Sweep) (off : Bool) (n m : ℕ) → IfSome o (IsAskedSweep h)
    → IsConsistent c (record s { sweep = o; off = off; count = n; ops = m }) → Follows c h s → Follows c h (record s { sweep = o; off = off; count = n; ops = m })
counted c h s o off n m sweep sound f = looked c h s s.blocks o off n m refl (λ id p. (p, refl)) sweep sound f

-- ASK

block_set : (c : Configuration) (h : List Entry) (s : State) (id : ℕ) (change : BlockState → BlockState) (m : ℕ) → ((b : BlockState) → ((change b).status ≡ b.status) × ((change b).index ≡ b.index))
    → IsConsistent c (record (with_block id change s) { count = s.count + 1; ops = m }) → Follows c h s → Follows c h (record (with_block id change s) { count = s.count + 1; ops = m })
block_set c h s id change m same sound f =
    looked c h s (slice_set s.blocks id (change (block_at s id))) s.sweep s.off (s.count + 1) m (length-set s.blocks id (change (block_at s id)))
    (looks_set s.blocks id (change (block_at s id)) (λ on. rw (same (block_at s id)).0 on) (same (block_at s id)).1) f.sweep sound f

sweep_set : (c : Configuration) (h : List Entry) (s : State) (caller : ℕ) (writes : Bool) (m : ℕ) → slice_get h s.count ≡ Some (Ask caller (sweep_request writes) Accepted)
    → IsConsistent c (record (with_sweep c s writes) { count = s.count + 1; ops = m }) → Follows c h s → Follows c h (record (with_sweep c s writes) { count = s.count + 1; ops = m })
sweep_set c h s caller writes m at sound f =
    let b = record (block_at s 0) { status = Pending } in
    looked c h s (slice_set s.blocks 0 b) (record (with_sweep c s writes) { count = s.count + 1; ops = m }).sweep s.off (s.count + 1) m (length-set s.blocks 0 b) (looks_set s.blocks 0 b (λ on. refl) refl) (caller, at) sound f

sweep_canceled : (h : List Entry) (o : Option Sweep) → IfSome o (IsAskedSweep h) → IfSome (option_map {T = Sweep} (λ sw. record sw { canceled = true }) o) (IsAskedSweep h)
sweep_canceled h None asked = tt
sweep_canceled h (Some sw) asked = asked

changed_follows : (c : Configuration) (cap : ℕ) (h : List Entry) (s : State) (caller : ℕ) (r : Request) (m : ℕ) → slice_get h s.count ≡ Some (Ask caller r Accepted) → reply_of c cap s r ≡ Accepted
    → IsConsistent c (record (changed c s r) { count = s.count + 1; ops = m }) → Follows c h s → Follows c h (record (changed c s r) { count = s.count + 1; ops = m })
changed_follows c cap h s caller (SetIndex block index) m at reply sound f =
    let b = record (block_at s block) { index = index } in
    looked c h s (slice_set s.blocks block b) s.sweep s.off (s.count + 1) m (length-set s.blocks block b) (looks_free s.blocks block b (free_index c cap s block index reply)) f.sweep sound f
changed_follows c cap h s caller (SetProtection block to) m at reply sound f = block_set c h s block (λ b. record b { protected = to }) m (λ b. (refl, refl)) sound f
changed_follows c cap h s caller (SetLock block to) m at reply sound f = block_set c h s block (λ b. record b { locked = to }) m (λ b. (refl, refl)) sound f
changed_follows c cap h s caller (SetRam block to) m at reply sound f = block_set c h s block (λ b. record b { valid = to; changed = to }) m (λ b. (refl, refl)) sound f
changed_follows c cap h s caller (PutRam block content) m at reply sound f = block_set c h s block (λ b. record b { ram = content }) m (λ b. (refl, refl)) sound f
changed_follows c cap h s caller ReadAll m at reply sound f = sweep_set c h s caller false m at sound f
changed_follows c cap h s caller WriteAll m at reply sound f = sweep_set c h s caller true m at sound f
changed_follows c cap h s caller CancelWriteAll m at reply sound f = counted c h s (option_map {T = Sweep} (λ sw. record sw { canceled = true }) s.sweep) s.off (s.count + 1) m (sweep_canceled h s.sweep f.sweep) sound f
changed_follows c cap h s caller r m at reply sound f = counted c h s s.sweep s.off (s.count + 1) m f.sweep sound f

job_follows : (c : Configuration) (cap : ℕ) (h : List Entry) (s : State) (caller : ℕ) (r : Request) (m : ℕ) → slice_get h s.count ≡ Some (Ask caller r Accepted) → reply_of c cap s r ≡ Accepted → is_some (job_kind r) ≡ true → IsTrue s.started
    → IsConsistent c (record (with_status (asked_block r) Pending s) { waiting = s.waiting ++ job_at c s.count r ∷ []; count = s.count + 1; ops = m }) → Follows c h s
    → Follows c h (record (with_status (asked_block r) Pending s) { waiting = s.waiting ++ job_at c s.count r ∷ []; count = s.count + 1; ops = m })
job_follows c cap h s caller r m at reply job on sound f =
    let b = record (block_at s (asked_block r)) { status = Pending } in
    let bs = slice_set s.blocks (asked_block r) b in
    let (there, free) = free_block c cap s r job reply in
    let looks : Looks s.blocks bs = looks_set s.blocks (asked_block r) b (λ was. refl) refl in
    let size = f.size on in
    record {
      sound = sound;
      size = λ on. length-set s.blocks (asked_block r) b ∙ size;
      jobs = jobs_push h bs s.hand s.waiting (job_at c s.count r) (record { pending = pending_set s.blocks (asked_block r) b refl; ask = (r, (caller, at), inl (refl, λ x is. is)) })
          (no_job_there h s.blocks (asked_block r) (jobs_of s) (omega (arith, size, there)) free f.jobs.each) (jobs_look h s.blocks bs (jobs_of s) looks f.jobs);
      sweep = f.sweep;
      marks = marks_look c h s.blocks bs s.instances s.hand s.waiting looks f.jobs f.marks;
      instances = f.instances;
    }

accepted_follows : (c : Configuration) (cap : ℕ) (h : List Entry) (s : State) (caller : ℕ) (r : Request) (kind : Option JobKind) (m : ℕ) → job_kind r ≡ kind → slice_get h s.count ≡ Some (Ask caller r Accepted) → reply_of c cap s r ≡ Accepted → IsTrue s.started
    → IsConsistent c (record (accepted_by c s r kind) { count = s.count + 1; ops = m }) → Follows c h s → Follows c h (record (accepted_by c s r kind) { count = s.count + 1; ops = m })
accepted_follows c cap h s caller r None m is at reply on sound f = changed_follows c cap h s caller r m at reply sound f
accepted_follows c cap h s caller r (Some kind) m is at reply on sound f = job_follows c cap h s caller r m at reply (ap (λ (o : Option JobKind). is_some o) is) on sound f

ask_follows : (c : Configuration) (cap : ℕ) (h : List Entry) (s : State) (caller : ℕ) (r : Request) (reply : Reply) (m : ℕ) → slice_get h s.count ≡ Some (Ask caller r reply) → IsAsk c cap s caller r reply
    → IsConsistent c (record (asked c s r reply) { count = s.count + 1; ops = m }) → Follows c h s → Follows c h (record (asked c s r reply) { count = s.count + 1; ops = m })
ask_follows c cap h s caller r Accepted m at ask sound f = accepted_follows c cap h s caller r (job_kind r) m refl at (sym ask.replies) ask.started sound f
ask_follows c cap h s caller r (Refused x) m at ask sound f = counted c h s s.sweep s.off (s.count + 1) m f.sweep sound f
ask_follows c cap h s caller r (StatusIs x) m at ask sound f = counted c h s s.sweep s.off (s.count + 1) m f.sweep sound f
ask_follows c cap h s caller r (IndexIs x) m at ask sound f = counted c h s s.sweep s.off (s.count + 1) m f.sweep sound f

-- PICK

jobs_in_hand : (c : Configuration) (h : List Entry) (s : State) (j : Job) (t : Taken) (n : ℕ) → next_in c s.waiting ≡ Some j → (HasAsk h j.number j.request j.content → HasAsk h j.number j.request (content_after j.content t)) → Follows c h s
    → AreJobs h s.blocks (picked_job t n j ∷ interrupted s.hand (without_job j.number s.waiting))
jobs_in_hand c h s j t n next asks f =
    let (before, after, is) = next_is_waiting c s.waiting j next in
    let without : without_job j.number s.waiting ≡ before ++ after = ap (without_job j.number) is ∙ without_split before j after (apart_parts before j after (subst AreApart is f.sound.apart)).0 in
    rw without (jobs_pick h s.blocks s.hand t n before j after asks (subst (λ (w : List Job). AreJobs h s.blocks (option_to_list s.hand ++ w)) is f.jobs))

job_picked : (c : Configuration) (h : List Entry) (s : State) (j : Job) (block : ℕ) (kind : JobKind) (t : Taken) (m : ℕ) → next_in c s.waiting ≡ Some j → IsPick c s j block kind t
    → IsConsistent c (record (in_hand c s j t) { count = s.count + 1; ops = m }) → Follows c h s → Follows c h (record (in_hand c s j t) { count = s.count + 1; ops = m })
job_picked c h s j block kind t m next may sound f =
    let after = picked_job t (if is_some s.hand then 2 else 0) j in
    record {
      sound = sound;
      size = f.size;
      jobs = jobs_in_hand c h s j t (if is_some s.hand then 2 else 0) next (ask_after h (desc_of c (job_block j)) (block_at s (job_block j)) j (kind_of j) t may.takes) f;
      sweep = f.sweep;
      marks = doubts_fit c s.blocks after (mark_of after) s.instances refl refl;
      instances = λ on. doubts_stay (job_block j) (indices_in c s.blocks (job_block j)) (mark_of after) s.instances ∙ f.instances on;
    }

member_jobs : (h : List Entry) (bs : List BlockState) (o : Option Job) (waiting : List Job) (number : ℕ) (j : Job) → waiting ≡ [] → o ≡ None → IsJob h bs j → AreJobs h bs (j ∷ interrupted o (without_job number waiting))
member_jobs h bs o waiting number j none free is = rw (none, free) (record { each = (is, tt); apart = (tt, tt) })

member_follows : (c : Configuration) (h : List Entry) (s : State) (sw : Sweep) (id : ℕ) (t : Taken) (m : ℕ) → next_of c s ≡ PickMember sw id
    → IsConsistent c (record (in_hand c (with_member s sw id) (member_job c sw id) t) { count = s.count + 1; ops = m }) → Follows c h s → Follows c h (record (in_hand c (with_member s sw id) (member_job c sw id) t) { count = s.count + 1; ops = m })
member_follows c h s sw id t m is sound f =
    let at = idle c s sw (PickMember sw id) is refl in
    let own : IsAskedSweep h sw = subst (λ (o : Option Sweep). IfSome o (IsAskedSweep h)) at.some f.sweep in
    let b = record (block_at s id) { status = Pending } in
    let bs = slice_set s.blocks id b in
    let j = member_job c sw id in
    let after = picked_job t (if is_some s.hand then 2 else 0) j in
    record {
      sound = sound;
      size = λ on. length-set s.blocks id b ∙ f.size on;
      jobs = member_jobs h bs s.hand s.waiting sw.number after at.waiting at.hand (record { pending = subst (PendingAt bs) (sym (member_block sw.writes id)) (pending_set s.blocks id b refl); ask = (sweep_request sw.writes, own, inr (sw.writes, id, refl, refl)) });
      sweep = own;
      marks = doubts_fit c bs after (mark_of after) s.instances refl refl;
      instances = λ on. doubts_stay (job_block j) (indices_in c bs (job_block j)) (mark_of after) s.instances ∙ f.instances on;
    }

pick_follows : (c : Configuration) (h : List Entry) (s : State) (block : ℕ) (kind : JobKind) (t : Taken) (m : ℕ) (n : Next) → next_of c s ≡ n → MayPick c s block kind t n
    → IsConsistent c (record (picked c s t n) { count = s.count + 1; ops = m }) → Follows c h s → Follows c h (record (picked c s t n) { count = s.count + 1; ops = m })
pick_follows c h s block kind t m (PickJob j) is may sound f = job_picked c h s j block kind t m (next_job_by c s (next_in c s.waiting) s.hand s.sweep j (ap job_in is)) may sound f
pick_follows c h s block kind t m (PickMember sw id) is may sound f = member_follows c h s sw id t m is sound f
pick_follows c h s block kind t m (BeginSweep sw) is may sound f = counted c h s (Some (record sw { under_way = true })) s.off (s.count + 1) m (subst (λ (o : Option Sweep). IfSome o (IsAskedSweep h)) (idle c s sw (BeginSweep sw) is refl).some f.sweep) sound f
pick_follows c h s block kind t m (PostMember sw id) is may sound f = absurd may
pick_follows c h s block kind t m (EndSweep sw) is may sound f = absurd may
pick_follows c h s block kind t m Nothing is may sound f = absurd may

-- WROTE

pub job_in_hand : (h : List Entry) (s : State) (j : Job) → s.hand ≡ Some j → AreJobs h s.blocks (jobs_of s) → AreJobs h s.blocks (j ∷ s.waiting)
job_in_hand h s j is jobs = subst (λ (o : Option Job). AreJobs h s.blocks (option_to_list o ++ s.waiting)) is jobs

pub marks_in_hand : (c : Configuration) (s : State) (j : Job) → s.hand ≡ Some j → HoldsMarks c s.blocks s.instances s.hand → Each (FitsJob c s.blocks j) s.instances
marks_in_hand c s j is marks = subst (HoldsMarks c s.blocks s.instances) is marks

pub writes_of : (c : Configuration) (s : State) (i : Instance) (mark : Mark) (j : Job) → MayWrite c s i mark (Some j) → Writes c s.blocks j i mark
writes_of c s i mark j may = record { block = may.same_block; index = may.one_of_its; takes = may.marks }

wrote_follows : (c : Configuration) (h : List Entry) (s : State) (i : Instance) (mark : Mark) (m : ℕ) (o : Option Job) → s.hand ≡ o → MayWrite c s i mark o
    → IsConsistent c (record (wrote s i mark o) { count = s.count + 1; ops = m }) → Follows c h s → Follows c h (record (wrote s i mark o) { count = s.count + 1; ops = m })
wrote_follows c h s i mark m None is may sound f = absurd may
wrote_follows c h s i mark m (Some j) is may sound f =
    let jobs = job_in_hand h s j is f.jobs in
    record {
      sound = sound;
      size = f.size;
      jobs = record { each = (record { pending = jobs.each.0.pending; ask = jobs.each.0.ask }, jobs.each.1); apart = jobs.apart };
      sweep = f.sweep;
      marks = writes_fit c s.blocks j i mark (j.reserved - 1) s.instances (writes_of c s i mark j may) (marks_in_hand c s j is f.marks);
      instances = λ on. settled_stay i mark s.instances ∙ f.instances on;
    }

-- POST

asked_after : (h : List Entry) (id : ℕ) (r : ReqResult) (sw : Sweep) (b : Bool) → sw.under_way ≡ b → IsAskedSweep h sw → IsAskedSweep h (after_member id r sw)
asked_after h id r sw true is asked = rw is asked
asked_after h id r sw false is asked = rw is asked

sweep_after : (h : List Entry) (id : ℕ) (r : ReqResult) (o : Option Sweep) → IfSome o (IsAskedSweep h) → IfSome (option_map (after_member id r) o) (IsAskedSweep h)
sweep_after h id r None asked = tt
sweep_after h id r (Some sw) asked = asked_after h id r sw sw.under_way refl asked

no_jobs : (h : List Entry) (bs : List BlockState) (o : Option Job) (waiting : List Job) → waiting ≡ [] → o ≡ None → AreJobs h bs (option_to_list o ++ waiting)
no_jobs h bs o waiting none free = rw (none, free) (record { each = tt; apart = tt })

no_marks : (c : Configuration) (bs : List BlockState) (xs : List InstanceState) (o : Option Job) → o ≡ None → HoldsMarks c bs xs o
no_marks c bs xs o free = rw free tt

next_posted : (c : Configuration) (h : List Entry) (s : State) (block : ℕ) (r : ReqResult) (given : Option (List ℕ)) (refused m : ℕ) (n : Next) → next_of c s ≡ n → MayPostNext c s block (r, given) refused n
    → IsConsistent c (record (posted_next c s r given n) { count = s.count + 1; ops = m }) → Follows c h s → Follows c h (record (posted_next c s r given n) { count = s.count + 1; ops = m })
next_posted c h s block r given refused m (PostMember sw id) is may sound f =
    let at = idle c s sw (PostMember sw id) is refl in
    let own : IsAskedSweep h sw = subst (λ (o : Option Sweep). IfSome o (IsAskedSweep h)) at.some f.sweep in
    let b = ended (desc_of c id) (keeps_ram c id) (member_kind sw.writes) true r given (block_at s id) in
    let bs = slice_set s.blocks id b in
    record {
      sound = sound;
      size = λ on. length-set s.blocks id b ∙ f.size on;
      jobs = no_jobs h bs s.hand s.waiting at.waiting at.hand;
      sweep = asked_after h id r (record sw { left = drop 1 sw.left }) sw.under_way refl own;
      marks = no_marks c bs s.instances s.hand at.hand;
      instances = f.instances;
    }
next_posted c h s block r given refused m (EndSweep sw) is may sound f =
    let at = idle c s sw (EndSweep sw) is refl in
    let b = record (block_at s 0) { status = r } in
    let bs = slice_set s.blocks 0 b in
    record { sound = sound; size = λ on. length-set s.blocks 0 b ∙ f.size on; jobs = no_jobs h bs s.hand s.waiting at.waiting at.hand; sweep = tt; marks = no_marks c bs s.instances s.hand at.hand; instances = f.instances }
next_posted c h s block r given refused m (PickJob j) is may sound f = absurd may
next_posted c h s block r given refused m (PickMember sw id) is may sound f = absurd may
next_posted c h s block r given refused m (BeginSweep sw) is may sound f = absurd may
next_posted c h s block r given refused m Nothing is may sound f = absurd may

post_follows : (c : Configuration) (h : List Entry) (s : State) (block : ℕ) (r : ReqResult) (given : Option (List ℕ)) (refused m : ℕ) (o : Option Job) → s.hand ≡ o → MayPost c s block (r, given) refused o
    → IsConsistent c (record (posted c s r given o) { count = s.count + 1; ops = m }) → Follows c h s → Follows c h (record (posted c s r given o) { count = s.count + 1; ops = m })
post_follows c h s block r given refused m None is may sound f = next_posted c h s block r given refused m (next_of c s) refl may sound f
post_follows c h s block r given refused m (Some j) is may sound f =
    let b = ended (desc_of c (job_block j)) (keeps_ram c (job_block j)) (kind_of j) (names_ram j.request) r given (block_at s (job_block j)) in
    record {
      sound = sound;
      size = λ on. length-set s.blocks (job_block j) b ∙ f.size on;
      jobs = jobs_post h s.blocks j s.waiting b (job_in_hand h s j is f.jobs);
      sweep = sweep_after h (job_block j) r s.sweep f.sweep;
      marks = tt;
      instances = f.instances;
    }

-- THE STEP

enumerated : {X : Type 0} (n : ℕ) (xs : List X) → length (enumerate_from n xs) ≡ length xs
enumerated n [] = refl
enumerated n (x ∷ xs) = let rest = enumerated (n + 1) xs in omega (arith, rest)

started_size : (c : Configuration) (marks : List (Instance × Mark)) (ops : ℕ) (s : State) → length (step c s (Found marks ops)).blocks ≡ length c.blocks + 1
started_size c marks ops s = let e = length-map (enumerate_from 1 c.blocks) (λ x. started_block c marks x.0 x.1) in let l = enumerated 1 c.blocks in omega (arith, e, l)

pub steps_follow : (c : Configuration) (cap : ℕ) (h : List Entry) (s : State) (e : Entry) → slice_get h s.count ≡ Some e → IsAllowed c cap s e → Follows c h s → Follows c h (step c s e)
steps_follow c cap h s (Ask caller r reply) at allowed f = ask_follows c cap h s caller r reply s.ops at allowed (allowed_steps_stay_consistent c cap s (Ask caller r reply) f.sound allowed) f
steps_follow c cap h s (Pick block kind t ops) at allowed f = pick_follows c h s block kind t ops (next_of c s) refl allowed.1 (allowed_steps_stay_consistent c cap s (Pick block kind t ops) f.sound allowed) f
steps_follow c cap h s (Wrote i mark ops) at allowed f = wrote_follows c h s i mark ops s.hand refl allowed.1 (allowed_steps_stay_consistent c cap s (Wrote i mark ops) f.sound allowed) f
steps_follow c cap h s (Post block r given refused ops) at allowed f = post_follows c h s block r given refused ops s.hand refl allowed.1 (allowed_steps_stay_consistent c cap s (Post block r given refused ops) f.sound allowed) f
steps_follow c cap h s (Off ops) at allowed f = counted c h s s.sweep true (s.count + 1) ops f.sweep (allowed_steps_stay_consistent c cap s (Off ops) f.sound allowed) f
steps_follow c cap h s (Found marks ops) at allowed f = record {
  sound = allowed_steps_stay_consistent c cap s (Found marks ops) f.sound allowed;
  size = λ on. started_size c marks ops s;
  jobs = record { each = tt; apart = tt };
  sweep = tt;
  marks = tt;
  instances = λ on. found_stay marks (lengths_of c);
}

pub at_first_follows : (c : Configuration) (h : List Entry) → IsConsistent c at_first → Follows c h at_first
at_first_follows c h sound = record { sound = sound; size = λ on. cc; jobs = record { each = tt; apart = tt }; sweep = tt; marks = tt; instances = λ on. cc }
