-- The state stays consistent with each allowed entry.
use Rattle.std.specs.Prelude.{slice_set, get_or}
use Rattle.std.specs.List.{enumerate_from}
use Rattle.std.proofs.Common.{◌≡◌, ◌≢◌, ℕ, zero, suc, ◌==◌, ◌+◌, ◌-◌, ◌<◌, ◌≤◌, ◌||◌, not, nat_lt, Bool, true, false, if◌then◌else◌, List, [], ◌∷◌, ◌++◌, drop, length, filter, map, refl, sym, ap, ◌∙◌, subst, ◌⊎◌, inl, inr, arith, Option, Some, None, IfSome, IsTrue, is_some, option_map}
use Rattle.std.proofs.lemmas.List.{get_or-set_same, get_or-set_other, length-set}
use Rattle.std.proofs.lemmas.Bool.{cases_Bool}
use Rattle.std.proofs.lemmas.Bool.Decides.{eqb_tells, nat_tests}
use Rattle.block_machine.specs.Words.{Pending, Request, Read, Write, Restore, Erase, Invalidate, SetIndex, SetProtection, SetLock, SetRam, PutRam, ReadAll, WriteAll, CancelWriteAll, Reply, Accepted, Refused, StatusIs, IndexIs, UnknownBlock, JobKind, ReadJob, RestoreJob, Taken, BlockKind, Native, Redundant, Dataset, Configuration}
use Rattle.block_machine.specs.State.{State, BlockState, InstanceState, Job, Sweep}
use Rattle.block_machine.specs.Blocks.{block_at, no_block, status_of, is_pending, asked_block, job_kind, job_block, kind_of, rank_of, records_by, records_of, desc_of}
use Rattle.block_machine.specs.Sweeps.{members_of, ids_where}
use Rattle.block_machine.specs.Reply.{reply_of, needed}
use Rattle.block_machine.specs.Next.{next_in}
use Rattle.block_machine.specs.Steps.{after, with_block, with_status, with_sweep, changed, accepted_by, job_at, asked, picked_job, in_hand, without_job}
use Rattle.block_machine.specs.Legal.{IsAsk, MayInterrupt, HandIsFree}
use Rattle.block_laws.specs.Consistent.{Each, HaveOthers, AreApart, IsWaitingJob, IsJobInHand, IsPendingSweep, IsConsistent}
use Rattle.block_laws.proofs.JobLists.{each_more, each_push, each_parts, apart_push, apart_parts, without_split}
use Rattle.block_laws.proofs.NextLaws.{accepted_pass, next_is_waiting}

-- ONE ENTRY MORE

pub waits_longer : (c : Configuration) (n : ℕ) (jobs : List Job) → Each (IsWaitingJob c n) jobs → Each (IsWaitingJob c (n + 1)) jobs
waits_longer c n jobs h = each_more (IsWaitingJob c n) (IsWaitingJob c (n + 1)) jobs (λ j w. record { number = let l = w.number in omega arith; named = w.named; entries = w.entries }) h

-- the job in hand of one state in another
pub hand_kept : (c : Configuration) (s t : State) (o : Option Job) → s.count ≤ t.count → t.waiting ≡ s.waiting → IfSome o (IsJobInHand c s) → IfSome o (IsJobInHand c t)
hand_kept c s t None more same h = tt
hand_kept c s t (Some j) more same h = record { number = let l = h.number in omega arith; named = h.named; apart = rw same h.apart; written = h.written; entries = h.entries }

pub sweep_kept : (s t : State) (o : Option Sweep) → s.count ≤ t.count → status_of t 0 ≡ status_of s 0 → IfSome o (IsPendingSweep s) → IfSome o (IsPendingSweep t)
sweep_kept s t None more same h = tt
sweep_kept s t (Some sw) more same h = record { number = let l = h.number in omega arith; pending = rw same h.pending; named = h.named }

-- what happens to blocks and instances alone, and to the status of id 0 not
pub stays : (c : Configuration) (s : State) (blocks : List BlockState) (instances : List InstanceState) (m : ℕ) → length blocks ≡ length s.blocks → (get_or blocks 0 no_block).status ≡ status_of s 0 → IsConsistent c s
    → IsConsistent c (record s { blocks = blocks; instances = instances; count = s.count + 1; ops = m })
stays c s blocks instances m size same h = record {
  blocks = λ on. let l = h.blocks on in omega (arith, size);
  waiting = waits_longer c s.count s.waiting h.waiting;
  apart = h.apart;
  hand = hand_kept c s (record s { blocks = blocks; instances = instances; count = s.count + 1; ops = m }) s.hand (omega arith) refl h.hand;
  sweep = sweep_kept s (record s { blocks = blocks; instances = instances; count = s.count + 1; ops = m }) s.sweep (omega arith) same h.sweep;
}

-- A CHANGE OF A BLOCK

status_kept : (bs : List BlockState) (id : ℕ) (change : BlockState → BlockState) → ((b : BlockState) → (change b).status ≡ b.status) → (get_or (slice_set bs id (change (get_or bs id no_block))) 0 no_block).status ≡ (get_or bs 0 no_block).status
status_kept [] id change same = refl
status_kept (b ∷ bs) zero change same = same b
status_kept (b ∷ bs) (suc id) change same = refl

pub status_apart : (bs : List BlockState) (id : ℕ) (b : BlockState) → id ≢ 0 → (get_or (slice_set bs id b) 0 no_block).status ≡ (get_or bs 0 no_block).status
status_apart bs id b named = ap (λ (x : BlockState). x.status) (get_or-set_other bs id 0 b no_block (λ e. named (sym e)))

-- ASK

or_named : (n : ℕ) (rest : Bool) → ((n == 0) || rest) ≡ false → n ≢ 0
or_named zero rest is = cc
or_named (suc n) rest is = λ e. omega (arith, e)

-- a request for a job names a block, and needs the entries of its job
named_block : (c : Configuration) (cap : ℕ) (s : State) (r : Request) → is_some (job_kind r) ≡ true → reply_of c cap s r ≡ Accepted → asked_block r ≢ 0
named_block c cap s (Read block false) job is = or_named block _ (accepted_pass c cap s (Read block false) UnknownBlock is (0, omega arith, refl))
named_block c cap s (Read block true) job is = or_named block _ (accepted_pass c cap s (Read block true) UnknownBlock is (0, omega arith, refl))
named_block c cap s (Write block (Some content) store) job is = or_named block _ (accepted_pass c cap s (Write block (Some content) store) UnknownBlock is (0, omega arith, refl))
named_block c cap s (Write block None store) job is = or_named block _ (accepted_pass c cap s (Write block None store) UnknownBlock is (0, omega arith, refl))
named_block c cap s (Restore block false) job is = or_named block _ (accepted_pass c cap s (Restore block false) UnknownBlock is (0, omega arith, refl))
named_block c cap s (Restore block true) job is = or_named block _ (accepted_pass c cap s (Restore block true) UnknownBlock is (0, omega arith, refl))
named_block c cap s (Erase block) job is = or_named block _ (accepted_pass c cap s (Erase block) UnknownBlock is (0, omega arith, refl))
named_block c cap s (Invalidate block) job is = or_named block _ (accepted_pass c cap s (Invalidate block) UnknownBlock is (0, omega arith, refl))
named_block c cap s r job is = cc

pub job_entries : (c : Configuration) (n : ℕ) (r : Request) → is_some (job_kind r) ≡ true → needed c r ≡ 2 + records_of c (job_at c n r) + (if (rank_of c (job_at c n r)).immediate then 2 else 0)
job_entries c n (Read block ram) job = refl
job_entries c n (Write block content store) job = refl
job_entries c n (Restore block ram) job = refl
job_entries c n (Erase block) job = refl
job_entries c n (Invalidate block) job = refl
job_entries c n r job = cc

hand_beside : (c : Configuration) (s : State) (blocks : List BlockState) (j : Job) (m : ℕ) (o : Option Job) → j.number ≡ s.count → IfSome o (IsJobInHand c s)
    → IfSome o (IsJobInHand c (record s { blocks = blocks; waiting = s.waiting ++ j ∷ []; count = s.count + 1; ops = m }))
hand_beside c s blocks j m None new h = tt
hand_beside c s blocks j m (Some x) new h = let l = h.number in record {
  number = omega arith;
  named = h.named;
  apart = each_push (λ y. y.number ≢ x.number) s.waiting j h.apart (λ e. omega (arith, e, l, new));
  written = h.written;
  entries = h.entries;
}

job_added : (c : Configuration) (s : State) (r : Request) (m : ℕ) → is_some (job_kind r) ≡ true → asked_block r ≢ 0 → IsConsistent c s
    → IsConsistent c (record (with_status (asked_block r) Pending s) { waiting = s.waiting ++ job_at c s.count r ∷ []; count = s.count + 1; ops = m })
job_added c s r m job named h =
    let j = job_at c s.count r in
    let blocks = slice_set s.blocks (asked_block r) (record (block_at s (asked_block r)) { status = Pending }) in
    let size : length blocks ≡ length s.blocks = length-set s.blocks (asked_block r) (record (block_at s (asked_block r)) { status = Pending }) in
    record {
      blocks = λ on. let l = h.blocks on in omega (arith, size);
      waiting = each_push (IsWaitingJob c (s.count + 1)) s.waiting j (waits_longer c s.count s.waiting h.waiting) (record { number = omega arith; named = named; entries = omega (arith, job_entries c s.count r job) });
      apart = apart_push s.waiting j h.apart (each_more (IsWaitingJob c s.count) (λ x. x.number < s.count) s.waiting (λ x w. w.number) h.waiting);
      hand = hand_beside c s blocks j m s.hand refl h.hand;
      sweep = sweep_kept s (record s { blocks = blocks; waiting = s.waiting ++ j ∷ []; count = s.count + 1; ops = m }) s.sweep (omega arith) (status_apart s.blocks (asked_block r) (record (block_at s (asked_block r)) { status = Pending }) named) h.sweep;
    }

-- the members of a sweep are no id 0
high_ids : {X : Type 0} (n : ℕ) (test : X → Bool) (xs : List X) → 0 < n → Each (λ id. id ≢ 0) (map (λ (x : ℕ × X). x.0) (filter (λ (x : ℕ × X). test x.1) (enumerate_from n xs)))
high_ids n test [] low = tt
high_ids n test (x ∷ xs) low = elim (cases_Bool (test x)) [
  | inl passes ↦ rw passes (λ e. omega (arith, e, low), high_ids (n + 1) test xs (omega arith))
  | inr fails ↦ rw fails (high_ids (n + 1) test xs (omega arith))
]

named_members : (c : Configuration) (writes : Bool) → Each (λ id. id ≢ 0) (members_of c writes)
named_members c true = each_push (λ id. id ≢ 0) (ids_where (λ d. d.writeall) c) 1 (high_ids 2 (λ d. d.writeall) (drop 1 c.blocks) (omega arith)) (λ e. omega (arith, e))
named_members c false = (λ e. omega (arith, e), high_ids 2 (λ d. d.readall) (drop 1 c.blocks) (omega arith))

sweep_begins : (c : Configuration) (s : State) (writes : Bool) (m : ℕ) → IsTrue s.started → IsConsistent c s → IsConsistent c (record (with_sweep c s writes) { count = s.count + 1; ops = m })
sweep_begins c s writes m on h =
    let blocks = slice_set s.blocks 0 (record (block_at s 0) { status = Pending }) in
    let size : length blocks ≡ length s.blocks = length-set s.blocks 0 (record (block_at s 0) { status = Pending }) in
    let some : 0 < length s.blocks = h.blocks on in
    record {
      blocks = λ on. omega (arith, size, some);
      waiting = waits_longer c s.count s.waiting h.waiting;
      apart = h.apart;
      hand = hand_kept c s (record (with_sweep c s writes) { count = s.count + 1; ops = m }) s.hand (omega arith) refl h.hand;
      sweep = record { number = omega arith; pending = ap (λ (b : BlockState). is_pending b.status) (get_or-set_same s.blocks 0 (record (block_at s 0) { status = Pending }) no_block some); named = named_members c writes };
    }

canceled : (s t : State) (o : Option Sweep) → s.count ≤ t.count → status_of t 0 ≡ status_of s 0 → IfSome o (IsPendingSweep s) → IfSome (option_map {T = Sweep} (λ sw. record sw { canceled = true }) o) (IsPendingSweep t)
canceled s t None more same h = tt
canceled s t (Some sw) more same h = record { number = let l = h.number in omega arith; pending = rw same h.pending; named = h.named }

sweep_canceled : (c : Configuration) (s : State) (m : ℕ) → IsConsistent c s → IsConsistent c (record s { sweep = option_map {T = Sweep} (λ sw. record sw { canceled = true }) s.sweep; count = s.count + 1; ops = m })
sweep_canceled c s m h = record {
  blocks = h.blocks;
  waiting = waits_longer c s.count s.waiting h.waiting;
  apart = h.apart;
  hand = hand_kept c s (record s { sweep = option_map {T = Sweep} (λ sw. record sw { canceled = true }) s.sweep; count = s.count + 1; ops = m }) s.hand (omega arith) refl h.hand;
  sweep = canceled s (record s { sweep = option_map {T = Sweep} (λ sw. record sw { canceled = true }) s.sweep; count = s.count + 1; ops = m }) s.sweep (omega arith) refl h.sweep;
}

block_changed : (c : Configuration) (s : State) (id : ℕ) (change : BlockState → BlockState) (m : ℕ) → ((b : BlockState) → (change b).status ≡ b.status) → IsConsistent c s
    → IsConsistent c (record (with_block id change s) { count = s.count + 1; ops = m })
block_changed c s id change m same h = stays c s (slice_set s.blocks id (change (block_at s id))) s.instances m (length-set s.blocks id (change (block_at s id))) (status_kept s.blocks id change same) h

pub counted : (c : Configuration) (s : State) (m : ℕ) → IsConsistent c s → IsConsistent c (record s { count = s.count + 1; ops = m })
counted c s m h = stays c s s.blocks s.instances m refl refl h

changed_consistent : (c : Configuration) (s : State) (r : Request) (m : ℕ) → IsTrue s.started → IsConsistent c s → IsConsistent c (record (changed c s r) { count = s.count + 1; ops = m })
changed_consistent c s (SetIndex block index) m on h = block_changed c s block (λ b. record b { index = index }) m (λ b. refl) h
changed_consistent c s (SetProtection block to) m on h = block_changed c s block (λ b. record b { protected = to }) m (λ b. refl) h
changed_consistent c s (SetLock block to) m on h = block_changed c s block (λ b. record b { locked = to }) m (λ b. refl) h
changed_consistent c s (SetRam block to) m on h = block_changed c s block (λ b. record b { valid = to; changed = to }) m (λ b. refl) h
changed_consistent c s (PutRam block content) m on h = block_changed c s block (λ b. record b { ram = content }) m (λ b. refl) h
changed_consistent c s ReadAll m on h = sweep_begins c s false m on h
changed_consistent c s WriteAll m on h = sweep_begins c s true m on h
changed_consistent c s CancelWriteAll m on h = sweep_canceled c s m h
changed_consistent c s r m on h = counted c s m h

accepted_consistent : (c : Configuration) (cap : ℕ) (s : State) (r : Request) (kind : Option JobKind) (m : ℕ) → job_kind r ≡ kind → reply_of c cap s r ≡ Accepted → IsTrue s.started → IsConsistent c s
    → IsConsistent c (record (accepted_by c s r kind) { count = s.count + 1; ops = m })
accepted_consistent c cap s r None m is reply on h = changed_consistent c s r m on h
accepted_consistent c cap s r (Some kind) m is reply on h = let job : is_some (job_kind r) ≡ true = ap (λ (o : Option JobKind). is_some o) is in job_added c s r m job (named_block c cap s r job reply) h

pub ask_consistent : (c : Configuration) (cap : ℕ) (s : State) (caller : ℕ) (r : Request) (reply : Reply) (m : ℕ) → IsAsk c cap s caller r reply → IsConsistent c s → IsConsistent c (record (asked c s r reply) { count = s.count + 1; ops = m })
ask_consistent c cap s caller r Accepted m ask h = accepted_consistent c cap s r (job_kind r) m refl (sym ask.replies) ask.started h
ask_consistent c cap s caller r (Refused x) m ask h = counted c s m h
ask_consistent c cap s caller r (StatusIs x) m ask h = counted c s m h
ask_consistent c cap s caller r (IndexIs x) m ask h = counted c s m h

-- PICK

two_records : (block : BlockKind) (kind : JobKind) → records_by block kind ≤ 2
two_records Native ReadJob = omega arith
two_records Native RestoreJob = omega arith
two_records Native kind = omega arith
two_records Redundant ReadJob = omega arith
two_records Redundant RestoreJob = omega arith
two_records Redundant kind = omega arith
two_records Dataset ReadJob = omega arith
two_records Dataset RestoreJob = omega arith
two_records Dataset kind = omega arith

left_or_none : (n r : ℕ) → (nat_lt n r || (r == 0)) ≡ true → (n < r) ⊎ (r ≡ 0)
left_or_none n r is = elim (eqb_tells r 0) [
  | inl (_, none) ↦ inr none
  | inr (no_, some) ↦ inl (grind (arith, nat_tests))
]

-- the entries of a job that waits again
waits_again : (imm : Bool) (n r e : ℕ) → not imm ≡ true → r ≤ 2 → n ≤ r → 1 + r ≤ e + n → (n < r) ⊎ (r ≡ 0) → 2 + r + (if imm then 2 else 0) ≤ e + 2
waits_again false n r e standard two written entries (inl more) = omega arith
waits_again false n r e standard two written entries (inr none) = omega (arith, none)
waits_again true n r e standard two written entries left = cc

-- what a Pick leaves of them
picked_entries : (imm : Bool) (r e : ℕ) → imm ≡ true → 2 + r + (if imm then 2 else 0) ≤ e → 1 + r ≤ e - 1 - 2 + 0
picked_entries true r e is entries = omega arith
picked_entries false r e is entries = cc

pub plain_entries : (r n e : ℕ) → 2 + r + n ≤ e → 1 + r ≤ e - 1 - 0 + 0
plain_entries r n e entries = omega arith

pick_free : (c : Configuration) (s : State) (j : Job) (t : Taken) (before after : List Job) (instances : List InstanceState) (m : ℕ) → s.waiting ≡ before ++ j ∷ after → s.hand ≡ None → IsConsistent c s
    → IsConsistent c (record s { waiting = before ++ after; hand = Some (picked_job t 0 j); instances = instances; count = s.count + 1; ops = m })
pick_free c s j t before after instances m is free h =
    let (waits, others) = each_parts (IsWaitingJob c s.count) before j after (subst (Each (IsWaitingJob c s.count)) is h.waiting) in
    let (apart, rest) = apart_parts before j after (subst AreApart is h.apart) in
    record {
      blocks = h.blocks;
      waiting = waits_longer c s.count (before ++ after) others;
      apart = rest;
      hand = record { number = let l = waits.number in omega arith; named = waits.named; apart = apart; written = omega arith; entries = plain_entries (records_of c j) _ j.reserved waits.entries };
      sweep = sweep_kept s (record s { waiting = before ++ after; hand = Some (picked_job t 0 j); instances = instances; count = s.count + 1; ops = m }) s.sweep (omega arith) refl h.sweep;
    }

pick_interrupts : (c : Configuration) (s : State) (j x : Job) (t : Taken) (before after : List Job) (instances : List InstanceState) (m : ℕ) → s.waiting ≡ before ++ j ∷ after → s.hand ≡ Some x → MayInterrupt c x j → IsConsistent c s
    → IsConsistent c (record s { waiting = record x { reserved = x.reserved + 2 } ∷ before ++ after; hand = Some (picked_job t 2 j); instances = instances; count = s.count + 1; ops = m })
pick_interrupts c s j x t before after instances m is holds may h =
    let (waits, others) = each_parts (IsWaitingJob c s.count) before j after (subst (Each (IsWaitingJob c s.count)) is h.waiting) in
    let (apart, rest) = apart_parts before j after (subst AreApart is h.apart) in
    let x_in_hand : IsJobInHand c s x = subst (λ (o : Option Job). IfSome o (IsJobInHand c s)) holds h.hand in
    let (x_apart, x_others) = each_parts (λ y. y.number ≢ x.number) before j after (subst (HaveOthers x) is x_in_hand.apart) in
    record {
      blocks = h.blocks;
      waiting = (record { number = let l = x_in_hand.number in omega arith; named = x_in_hand.named; entries = waits_again (rank_of c x).immediate (length x.written) (records_of c x) x.reserved may.standard (two_records (desc_of c (job_block x)).kind (kind_of x)) x_in_hand.written x_in_hand.entries (left_or_none (length x.written) (records_of c x) may.unfinished) }, waits_longer c s.count (before ++ after) others);
      apart = (x_others, rest);
      hand = record { number = let l = waits.number in omega arith; named = waits.named; apart = (λ e. x_apart (sym e), apart); written = omega arith; entries = picked_entries (rank_of c j).immediate (records_of c j) j.reserved may.immediate waits.entries };
      sweep = sweep_kept s (record s { waiting = record x { reserved = x.reserved + 2 } ∷ before ++ after; hand = Some (picked_job t 2 j); instances = instances; count = s.count + 1; ops = m }) s.sweep (omega arith) refl h.sweep;
    }

pick_by : (c : Configuration) (s : State) (j : Job) (t : Taken) (m : ℕ) (before after : List Job) (o : Option Job) → s.waiting ≡ before ++ j ∷ after → s.hand ≡ o → HandIsFree c o j → IsConsistent c s → IsConsistent c (record (in_hand c s j t) { count = s.count + 1; ops = m })
pick_by c s j t m before after None is holds free h =
    let without : without_job j.number s.waiting ≡ before ++ after = ap (without_job j.number) is ∙ without_split before j after (apart_parts before j after (subst AreApart is h.apart)).0 in
    rw (holds, without) (pick_free c s j t before after _ m is holds h)
pick_by c s j t m before after (Some x) is holds free h =
    let without : without_job j.number s.waiting ≡ before ++ after = ap (without_job j.number) is ∙ without_split before j after (apart_parts before j after (subst AreApart is h.apart)).0 in
    rw (holds, without) (pick_interrupts c s j x t before after _ m is holds free h)

pub pick_consistent : (c : Configuration) (s : State) (j : Job) (t : Taken) (m : ℕ) → next_in c s.waiting ≡ Some j → HandIsFree c s.hand j → IsConsistent c s → IsConsistent c (record (in_hand c s j t) { count = s.count + 1; ops = m })
pick_consistent c s j t m next free h = let (before, after, is) = next_is_waiting c s.waiting j next in pick_by c s j t m before after s.hand is refl free h
