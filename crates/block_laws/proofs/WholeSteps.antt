-- What may stand after a legal history has its block's length.
use Rattle.std.specs.Prelude.{slice_set, get_or, option_to_list, unwrap_or}
use Rattle.std.proofs.Common.{◌≡◌, ℕ, zero, suc, ◌==◌, ◌+◌, ◌&&◌, not, Bool, true, false, if◌then◌else◌, List, [], ◌∷◌, ◌++◌, drop, length, map, refl, sym, ap, ◌∙◌, subst, inl, inr, arith, append_assoc, Option, Some, None, IfSome, IsTrue, is_some, option_map}
use Rattle.std.proofs.lemmas.Bool.Decides.{nat_tests}
use Rattle.block_machine.specs.nv_base.Marks.{instance_of}
use Rattle.block_machine.specs.nv_base.declared.instance.DeviceNumber.{DeviceNumber}
use Rattle.block_machine.specs.block_config.Lengths.{lengths_of}
use Rattle.block_machine.specs.block_config.Rules.{IsLegalConfig}
use Rattle.block_machine.specs.Words.{ReqResult, Pending, Instance, Mark, Request, Write, SetIndex, SetProtection, SetLock, SetRam, PutRam, ReadAll, WriteAll, CancelWriteAll, Reply, Accepted, Refused, StatusIs, IndexIs, BadLength, NoRam, JobKind, ReadJob, Taken, Entry, Ask, Pick, Wrote, Post, Off, Found, Configuration}
use Rattle.block_machine.specs.State.{State, BlockState, Job, Sweep, jobs_of}
use Rattle.block_machine.specs.Blocks.{block_at, no_block, keeps_ram, asked_block, job_kind, job_block, kind_of, names_ram, desc_of, mark_of}
use Rattle.block_machine.specs.Sweeps.{member_job, member_request, member_kind, after_member}
use Rattle.block_machine.specs.Reply.{reply_of}
use Rattle.block_machine.specs.Next.{Next, Nothing, PickJob, BeginSweep, PickMember, PostMember, EndSweep, next_in, next_of}
use Rattle.block_machine.specs.Results.{Answer, own_of, unpicked_result}
use Rattle.block_machine.specs.ResultTable.{unpicked}
use Rattle.block_machine.specs.StartUp.{at_first, listed_mark, found_instance}
use Rattle.block_machine.specs.Steps.{step, after, with_member, with_sweep, changed, accepted_by, asked, job_at, picked_job, in_hand, picked, wrote, posted, posted_next, ended}
use Rattle.block_machine.specs.Legal.{IsLegal, IsAsk, IsPick, IsPost, MayPick, MayWrite, MayPost, MayPostNext, IsAllowed}
use Rattle.block_laws.specs.Laws.{MarksAreAccepted, ContentsHaveLengths}
use Rattle.block_laws.specs.Consistent.{Each}
use Rattle.block_laws.proofs.Along.{kept_along}
use Rattle.block_laws.proofs.JobLists.{each_push, each_parts, each_waits, waiting_of}
use Rattle.block_laws.proofs.NextLaws.{accepted_pass, next_is_waiting}
use Rattle.block_laws.proofs.NextFacts.{job_in, next_job_by}
use Rattle.block_laws.proofs.ConsistentSteps.{idle, left_of}
use Rattle.block_laws.proofs.MarkCells.{only_settled}
use Rattle.block_laws.proofs.JobBlocks.{one_of}
use Rattle.block_laws.proofs.MarkOrigins.{marks_are_brought}
use Rattle.block_laws.proofs.WholeContents.{HasLength, MarkLength, MayTakeRam, FitsContent, RamFits, WholeCell, GivesLength, has_from, mark_length, doubts_whole, settled_whole, stands_whole, listed_whole, ram_set, started_ram, takes_ram, fits_after, unpicked_whole, explained_whole, ended_ram, desc_fits, sweep_takes}

abbrev FitsJobContent : Configuration → Job → Type 0
FitsJobContent c j = FitsContent c (job_block j) (kind_of j) j.content

abbrev TakesRam : Configuration → Sweep → Type 0
TakesRam c sw = sw.writes ≡ true → Each (MayTakeRam c) sw.left

record AreWhole (c : Configuration) (s : State) : Type 0 where
  ram : IsTrue s.started → (id : ℕ) → RamFits c id (get_or s.blocks id no_block).ram
  jobs : Each (FitsJobContent c) (jobs_of s)
  cells : Each (WholeCell c) s.instances
  sweep : IfSome s.sweep (TakesRam c)

blocks_whole : (c : Configuration) (s : State) (bs : List BlockState) (o : Option Sweep) (off : Bool) (n m : ℕ) → (IsTrue s.started → (id : ℕ) → RamFits c id (get_or bs id no_block).ram) → IfSome o (TakesRam c) → AreWhole c s → AreWhole c (record s { blocks = bs; sweep = o; off = off; count = n; ops = m })
blocks_whole c s bs o off n m ram sweep w = record { ram = ram; jobs = w.jobs; cells = w.cells; sweep = sweep }

set_whole : (c : Configuration) (s : State) (id : ℕ) (b : BlockState) → (IsTrue s.started → RamFits c id b.ram) → AreWhole c s → IsTrue s.started → (k : ℕ) → RamFits c k (get_or (slice_set s.blocks id b) k no_block).ram
set_whole c s id b fits w on = ram_set (RamFits c) s.blocks id b (w.ram on) (fits on)

-- ASK

tells_length : (n m : ℕ) → not (n == m) ≡ false → n ≡ m
tells_length n m is = grind (arith, nat_tests)

asked_fits : (c : Configuration) (cap : ℕ) (s : State) (n : ℕ) (r : Request) → reply_of c cap s r ≡ Accepted → FitsJobContent c (job_at c n r)
asked_fits c cap s n (Write block (Some content) store) is = tells_length (length content) _ (accepted_pass c cap s (Write block (Some content) store) BadLength is (3, omega arith, refl))
asked_fits c cap s n (Write block None store) is = takes_ram c block (accepted_pass c cap s (Write block None store) NoRam is (3, omega arith, refl))
asked_fits c cap s n r is = tt

canceled : (c : Configuration) (o : Option Sweep) → IfSome o (TakesRam c) → IfSome (option_map {T = Sweep} (λ sw. record sw { canceled = true }) o) (TakesRam c)
canceled c None takes = tt
canceled c (Some sw) takes = takes

changed_whole : (c : Configuration) (cap : ℕ) (s : State) (r : Request) (m : ℕ) → IsLegalConfig c → reply_of c cap s r ≡ Accepted → AreWhole c s → AreWhole c (record (changed c s r) { count = s.count + 1; ops = m })
changed_whole c cap s (SetIndex block index) m legal is w = let b = record (block_at s block) { index = index } in blocks_whole c s (slice_set s.blocks block b) s.sweep s.off (s.count + 1) m (set_whole c s block b (λ on. w.ram on block) w) w.sweep w
changed_whole c cap s (SetProtection block to) m legal is w = let b = record (block_at s block) { protected = to } in blocks_whole c s (slice_set s.blocks block b) s.sweep s.off (s.count + 1) m (set_whole c s block b (λ on. w.ram on block) w) w.sweep w
changed_whole c cap s (SetLock block to) m legal is w = let b = record (block_at s block) { locked = to } in blocks_whole c s (slice_set s.blocks block b) s.sweep s.off (s.count + 1) m (set_whole c s block b (λ on. w.ram on block) w) w.sweep w
changed_whole c cap s (SetRam block to) m legal is w = let b = record (block_at s block) { valid = to; changed = to } in blocks_whole c s (slice_set s.blocks block b) s.sweep s.off (s.count + 1) m (set_whole c s block b (λ on. w.ram on block) w) w.sweep w
changed_whole c cap s (PutRam block content) m legal is w =
    let b = record (block_at s block) { ram = content } in
    let fits : HasLength c block content = tells_length (length content) (desc_of c block).length (accepted_pass c cap s (PutRam block content) BadLength is (3, omega arith, refl)) in
    blocks_whole c s (slice_set s.blocks block b) s.sweep s.off (s.count + 1) m (set_whole c s block b (λ on keeps. fits) w) w.sweep w
changed_whole c cap s ReadAll m legal is w = let b = record (block_at s 0) { status = Pending } in blocks_whole c s (slice_set s.blocks 0 b) (with_sweep c s false).sweep s.off (s.count + 1) m (set_whole c s 0 b (λ on. w.ram on 0) w) (λ e. cc) w
changed_whole c cap s WriteAll m legal is w = let b = record (block_at s 0) { status = Pending } in blocks_whole c s (slice_set s.blocks 0 b) (with_sweep c s true).sweep s.off (s.count + 1) m (set_whole c s 0 b (λ on. w.ram on 0) w) (λ e. sweep_takes c legal) w
changed_whole c cap s CancelWriteAll m legal is w = blocks_whole c s s.blocks (option_map {T = Sweep} (λ sw. record sw { canceled = true }) s.sweep) s.off (s.count + 1) m w.ram (canceled c s.sweep w.sweep) w
changed_whole c cap s r m legal is w = blocks_whole c s s.blocks s.sweep s.off (s.count + 1) m w.ram w.sweep w

accepted_whole : (c : Configuration) (cap : ℕ) (s : State) (r : Request) (kind : Option JobKind) (m : ℕ) → IsLegalConfig c → reply_of c cap s r ≡ Accepted → AreWhole c s → AreWhole c (record (accepted_by c s r kind) { count = s.count + 1; ops = m })
accepted_whole c cap s r None m legal is w = changed_whole c cap s r m legal is w
accepted_whole c cap s r (Some kind) m legal is w = let b = record (block_at s (asked_block r)) { status = Pending } in record {
  ram = set_whole c s (asked_block r) b (λ on. w.ram on (asked_block r)) w;
  jobs = subst (Each (FitsJobContent c)) (append_assoc (option_to_list s.hand) s.waiting (job_at c s.count r ∷ [])) (each_push (FitsJobContent c) (jobs_of s) (job_at c s.count r) w.jobs (asked_fits c cap s s.count r is));
  cells = w.cells;
  sweep = w.sweep;
}

ask_whole : (c : Configuration) (cap : ℕ) (s : State) (caller : ℕ) (r : Request) (reply : Reply) (m : ℕ) → IsLegalConfig c → IsAsk c cap s caller r reply → AreWhole c s → AreWhole c (record (asked c s r reply) { count = s.count + 1; ops = m })
ask_whole c cap s caller r Accepted m legal ask w = accepted_whole c cap s r (job_kind r) m legal (sym ask.replies) w
ask_whole c cap s caller r (Refused x) m legal ask w = blocks_whole c s s.blocks s.sweep s.off (s.count + 1) m w.ram w.sweep w
ask_whole c cap s caller r (StatusIs x) m legal ask w = blocks_whole c s s.blocks s.sweep s.off (s.count + 1) m w.ram w.sweep w
ask_whole c cap s caller r (IndexIs x) m legal ask w = blocks_whole c s s.blocks s.sweep s.off (s.count + 1) m w.ram w.sweep w

-- PICK

job_picked : (c : Configuration) (s : State) (j : Job) (block : ℕ) (kind : JobKind) (t : Taken) (m : ℕ) → IsTrue s.started → next_in c s.waiting ≡ Some j → IsPick c s j block kind t → AreWhole c s → AreWhole c (record (in_hand c s j t) { count = s.count + 1; ops = m })
job_picked c s j block kind t m on next may w =
    let (before, after, is) = next_is_waiting c s.waiting j next in
    let fits = (each_parts (FitsJobContent c) before j after (subst (Each (FitsJobContent c)) is (waiting_of (FitsJobContent c) s.hand s.waiting w.jobs))).0 in
    let n = if is_some s.hand then 2 else 0 in
    let own = fits_after c (job_block j) (block_at s (job_block j)) j (kind_of j) t may.takes fits (w.ram on (job_block j)) in
    record {
      ram = w.ram;
      jobs = (own, each_waits (FitsJobContent c) (λ x fits. fits) j.number s.hand s.waiting w.jobs);
      cells = doubts_whole c (job_block j) _ (mark_of (picked_job t n j)) s.instances (λ k takes. mark_length c (job_block j) (kind_of j) (picked_job t n j).content k own takes) w.cells;
      sweep = w.sweep;
    }

member_fits : (c : Configuration) (writes : Bool) (id : ℕ) → (writes ≡ true → MayTakeRam c id) → FitsContent c (asked_block (member_request writes id)) (unwrap_or (job_kind (member_request writes id)) ReadJob) None
member_fits c true id may = may refl
member_fits c false id may = tt

member_picked : (c : Configuration) (s : State) (sw : Sweep) (id : ℕ) (block : ℕ) (kind : JobKind) (t : Taken) (m : ℕ) → IsTrue s.started → next_of c s ≡ PickMember sw id → IsPick c s (member_job c sw id) block kind t → AreWhole c s → AreWhole c (record (in_hand c (with_member s sw id) (member_job c sw id) t) { count = s.count + 1; ops = m })
member_picked c s sw id block kind t m on is may w =
    let at = idle c s sw (PickMember sw id) is refl in
    let (rest, left) = left_of c s sw id (PickMember sw id) is at.some refl in
    let takes : TakesRam c sw = subst (λ (o : Option Sweep). IfSome o (TakesRam c)) at.some w.sweep in
    let all = λ (e : sw.writes ≡ true). subst (Each (MayTakeRam c)) left (takes e) in
    let j = member_job c sw id in
    let n = if is_some s.hand then 2 else 0 in
    let own = fits_after c (job_block j) (block_at s (job_block j)) j (kind_of j) t may.takes (member_fits c sw.writes id (λ e. (all e).0)) (w.ram on (job_block j)) in
    let b = record (block_at s id) { status = Pending } in
    record {
      ram = set_whole c s id b (λ on. w.ram on id) w;
      jobs = (own, each_waits (FitsJobContent c) (λ x fits. fits) sw.number s.hand s.waiting w.jobs);
      cells = doubts_whole c (job_block j) _ (mark_of (picked_job t n j)) s.instances (λ k takes. mark_length c (job_block j) (kind_of j) (picked_job t n j).content k own takes) w.cells;
      sweep = λ e. rw left (all e).1;
    }

pick_whole : (c : Configuration) (s : State) (block : ℕ) (kind : JobKind) (t : Taken) (m : ℕ) (n : Next) → IsTrue s.started → next_of c s ≡ n → MayPick c s block kind t n → AreWhole c s → AreWhole c (record (picked c s t n) { count = s.count + 1; ops = m })
pick_whole c s block kind t m (PickJob j) on is may w = job_picked c s j block kind t m on (next_job_by c s (next_in c s.waiting) s.hand s.sweep j (ap job_in is)) may w
pick_whole c s block kind t m (PickMember sw id) on is may w = member_picked c s sw id block kind t m on is may w
pick_whole c s block kind t m (BeginSweep sw) on is may w = blocks_whole c s s.blocks (Some (record sw { under_way = true })) s.off (s.count + 1) m w.ram (subst (λ (o : Option Sweep). IfSome o (TakesRam c)) (idle c s sw (BeginSweep sw) is refl).some w.sweep) w
pick_whole c s block kind t m (PostMember sw id) on is may w = absurd may
pick_whole c s block kind t m (EndSweep sw) on is may w = absurd may
pick_whole c s block kind t m Nothing on is may w = absurd may

-- WROTE

hand_of : (c : Configuration) (s : State) (j : Job) → s.hand ≡ Some j → AreWhole c s → Each (FitsJobContent c) (j ∷ s.waiting)
hand_of c s j is w = subst (λ (o : Option Job). Each (FitsJobContent c) (option_to_list o ++ s.waiting)) is w.jobs

wrote_whole : (c : Configuration) (s : State) (i : Instance) (mark : Mark) (m : ℕ) (o : Option Job) → s.hand ≡ o → MayWrite c s i mark o → AreWhole c s → AreWhole c (record (wrote s i mark o) { count = s.count + 1; ops = m })
wrote_whole c s i mark m None is may w = absurd may
wrote_whole c s i mark m (Some j) is may w =
    let jobs = hand_of c s j is w in
    record {
      ram = w.ram;
      jobs = (jobs.0, jobs.1);
      cells = settled_whole c i mark s.instances (subst (λ (n : ℕ). MarkLength c n mark) (sym may.same_block) (mark_length c (job_block j) (kind_of j) j.content mark jobs.0 may.marks)) w.cells;
      sweep = w.sweep;
    }

-- POST

given_nothing : (n : ℕ) (answer : Answer) (r : ReqResult) (given : Option (List ℕ)) → (r, given) ≡ answer → GivesLength n answer.1 → GivesLength n given
given_nothing n answer r given is gives = subst (GivesLength n) (sym (ap (λ (a : Answer). a.1) is)) gives

post_gives : (c : Configuration) (s : State) (j : Job) (block : ℕ) (r : ReqResult) (given : Option (List ℕ)) (refused : ℕ) → IsLegalConfig c → IsPost c s j block (r, given) refused → AreWhole c s → GivesLength (desc_of c (job_block j)).length given
post_gives c s j block r given refused legal post w = elim post.results [
  | inl (none, some) ↦ explained_whole c s j r given (desc_fits c (job_block j) legal) w.cells some
  | inr copies ↦ given_nothing (desc_of c (job_block j)).length _ r given copies.fails tt
]

left_after : (id : ℕ) (r : ReqResult) (sw : Sweep) (b : Bool) → sw.under_way ≡ b → ((after_member id r sw).writes ≡ sw.writes) × ((after_member id r sw).left ≡ sw.left)
left_after id r sw true is = rw is (refl, refl)
left_after id r sw false is = rw is (refl, refl)

takes_after : (c : Configuration) (id : ℕ) (r : ReqResult) (sw : Sweep) → TakesRam c sw → TakesRam c (after_member id r sw)
takes_after c id r sw takes = λ e. let (writes, left) = left_after id r sw sw.under_way refl in rw left (takes (sym writes ∙ e))

sweep_after : (c : Configuration) (id : ℕ) (r : ReqResult) (o : Option Sweep) → IfSome o (TakesRam c) → IfSome (option_map (after_member id r) o) (TakesRam c)
sweep_after c id r None takes = tt
sweep_after c id r (Some sw) takes = takes_after c id r sw takes

each_left : (P : ℕ → Type 0) (ids : List ℕ) → Each P ids → Each P (drop 1 ids)
each_left P [] each = tt
each_left P (id ∷ ids) each = each.1

next_whole : (c : Configuration) (s : State) (block : ℕ) (r : ReqResult) (given : Option (List ℕ)) (refused m : ℕ) (n : Next) → IsLegalConfig c → next_of c s ≡ n → MayPostNext c s block (r, given) refused n → AreWhole c s → AreWhole c (record (posted_next c s r given n) { count = s.count + 1; ops = m })
next_whole c s block r given refused m (PostMember sw id) legal is may w =
    let takes : TakesRam c sw = subst (λ (o : Option Sweep). IfSome o (TakesRam c)) (idle c s sw (PostMember sw id) is refl).some w.sweep in
    let b = ended (desc_of c id) (keeps_ram c id) (member_kind sw.writes) true r given (block_at s id) in
    let gives : GivesLength (desc_of c id).length given = elim may.results [
      | inl (none, same) ↦ given_nothing (desc_of c id).length (unpicked_result (own_of c s id) sw.writes) r given same (unpicked_whole c s id (unpicked sw.writes (is_some (own_of c s id).desc.defaults)) (desc_fits c id legal) w.cells)
      | inr copies ↦ given_nothing (desc_of c id).length _ r given copies.fails tt
    ] in
    record {
      ram = set_whole c s id b (λ on keeps. ended_ram (desc_of c id).length (true && keeps_ram c id) given (block_at s id).ram gives (w.ram on id keeps)) w;
      jobs = w.jobs;
      cells = w.cells;
      sweep = takes_after c id r (record sw { left = drop 1 sw.left }) (λ e. each_left (MayTakeRam c) sw.left (takes e));
    }
next_whole c s block r given refused m (EndSweep sw) legal is may w = let b = record (block_at s 0) { status = r } in record { ram = set_whole c s 0 b (λ on. w.ram on 0) w; jobs = w.jobs; cells = w.cells; sweep = tt }
next_whole c s block r given refused m (PickJob j) legal is may w = absurd may
next_whole c s block r given refused m (PickMember sw id) legal is may w = absurd may
next_whole c s block r given refused m (BeginSweep sw) legal is may w = absurd may
next_whole c s block r given refused m Nothing legal is may w = absurd may

post_whole : (c : Configuration) (s : State) (block : ℕ) (r : ReqResult) (given : Option (List ℕ)) (refused m : ℕ) (o : Option Job) → IsLegalConfig c → s.hand ≡ o → MayPost c s block (r, given) refused o → AreWhole c s → AreWhole c (record (posted c s r given o) { count = s.count + 1; ops = m })
post_whole c s block r given refused m None legal is may w = next_whole c s block r given refused m (next_of c s) legal refl may w
post_whole c s block r given refused m (Some j) legal is may w =
    let id = job_block j in
    let b = ended (desc_of c id) (keeps_ram c id) (kind_of j) (names_ram j.request) r given (block_at s id) in
    record {
      ram = set_whole c s id b (λ on keeps. ended_ram (desc_of c id).length (names_ram j.request && keeps_ram c id) given (block_at s id).ram (post_gives c s j block r given refused legal may w) (w.ram on id keeps)) w;
      jobs = (hand_of c s j is w).1;
      cells = w.cells;
      sweep = sweep_after c id r s.sweep w.sweep;
    }

-- FOUND

found_whole : (c : Configuration) (marks : List (Instance × Mark)) (ns : List (DeviceNumber × ℕ)) → ((i : Instance) → MarkLength c i.block (listed_mark marks i)) → Each (WholeCell c) (map (λ (x : DeviceNumber × ℕ). found_instance marks (instance_of x.0)) ns)
found_whole c marks [] listed = tt
found_whole c marks (n ∷ ns) listed = (λ m stands. subst (MarkLength c (instance_of n.0).block) (sym (only_settled (listed_mark marks (instance_of n.0)) m stands)) (listed (instance_of n.0)), found_whole c marks ns listed)

started_fits : (c : Configuration) (marks : List (Instance × Mark)) (ops : ℕ) (s : State) (id : ℕ) → RamFits c id (get_or (step c s (Found marks ops)).blocks id no_block).ram
started_fits c marks ops s zero = λ keeps. refl
started_fits c marks ops s (suc k) = λ keeps. started_ram c marks 1 c.blocks k (let e : suc k ≡ 1 + k = omega arith in rw (← e) keeps)

-- THE STEP

steps_whole : (c : Configuration) (cap : ℕ) (s : State) (e : Entry) → IsLegalConfig c → IsAllowed c cap s e → AreWhole c s → AreWhole c (step c s e)
steps_whole c cap s (Ask caller r reply) legal allowed w = ask_whole c cap s caller r reply s.ops legal allowed w
steps_whole c cap s (Pick block kind t ops) legal allowed w = pick_whole c s block kind t ops (next_of c s) allowed.0.started refl allowed.1 w
steps_whole c cap s (Wrote i mark ops) legal allowed w = wrote_whole c s i mark ops s.hand refl allowed.1 w
steps_whole c cap s (Post block r given refused ops) legal allowed w = post_whole c s block r given refused ops s.hand legal refl allowed.1 w
steps_whole c cap s (Off ops) legal allowed w = blocks_whole c s s.blocks s.sweep true (s.count + 1) ops w.ram w.sweep w
steps_whole c cap s (Found marks ops) legal allowed w = record { ram = λ on. started_fits c marks ops s; jobs = tt; cells = found_whole c marks (lengths_of c) (λ i. listed_whole c marks i allowed.lengths); sweep = tt }

whole_after : (c : Configuration) (cap : ℕ) (h : List Entry) → IsLegalConfig c → IsLegal c cap h → AreWhole c (after c h)
whole_after c cap h config legal = kept_along c cap (AreWhole c) (λ s e allowed w. steps_whole c cap s e config allowed w) at_first h legal (record { ram = λ on. cc; jobs = tt; cells = tt; sweep = tt })

pub contents_have_lengths : ContentsHaveLengths
contents_have_lengths c cap h config legal =
    let w = whole_after c cap h config legal in
    (λ j x has is. subst (FitsContent c (job_block j) (kind_of j)) is (one_of (FitsJobContent c) (jobs_of (after c h)) j w.jobs has), λ on id keeps. w.ram on id keeps)

pub marks_are_accepted : MarksAreAccepted
marks_are_accepted c cap h i mark config legal stands =
    let w = whole_after c cap h config legal in
    record { whole = has_from c i mark (stands_whole c i (after c h).instances mark w.cells stands); brought = marks_are_brought c cap h i mark legal stands }
