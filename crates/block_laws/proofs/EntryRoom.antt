-- The entries of a legal history and the reserved ones are within the cap.
use Rattle.std.specs.Prelude.{Contains, option_to_list}
use Rattle.std.specs.Option.{option_map_or}
use Rattle.std.proofs.Common.{◌≡◌, ℕ, ◌+◌, ◌-◌, ◌<◌, ◌≤◌, ◌&&◌, not, Bool, true, false, if◌then◌else◌, List, [], ◌∷◌, ◌++◌, drop, length, refl, sym, ap, ◌∙◌, subst, arith, Option, Some, None, IfSome, IsTrue, option_map, sum_by}
use Rattle.std.proofs.lemmas.Bool.{true≢false, not-false}
use Rattle.std.proofs.lemmas.List.Sums.{sum_by-append, sum_by-cons}
use Rattle.block_machine.specs.Words.{ReqResult, Instance, Mark, Request, Read, Write, Restore, Erase, Invalidate, SetIndex, SetProtection, SetLock, SetRam, PutRam, Status, GetIndex, ReadAll, WriteAll, CancelWriteAll, Reply, Accepted, Refused, StatusIs, IndexIs, MultiPending, HistoryFull, JobKind, Taken, Entry, Ask, Pick, Wrote, Post, Off, Found, Configuration}
use Rattle.block_machine.specs.State.{State, Job, Sweep, jobs_of}
use Rattle.block_machine.specs.Blocks.{status_of, is_pending, job_kind, job_block, rank_of, records_of}
use Rattle.block_machine.specs.Sweeps.{member_entries, member_job, sweep_entries, sweep_at, after_member}
use Rattle.block_machine.specs.Reply.{reserved_entries, fits, holds, tested, needed, reply_of}
use Rattle.block_machine.specs.Next.{Next, Nothing, PickJob, BeginSweep, PickMember, PostMember, EndSweep, next_in, next_by, next_of, next_member}
use Rattle.block_machine.specs.StartUp.{at_first}
use Rattle.block_machine.specs.Steps.{step, after, after_from, job_at, with_sweep, changed, accepted_by, without_job, picked_job, in_hand, with_member, picked, wrote, posted, posted_next}
use Rattle.block_machine.specs.Legal.{IsAsk, HandIsFree, MayPick, MayWrite, MayPost, MayPostNext, IsAllowed, IsLegalFrom}
use Rattle.block_laws.specs.Consistent.{Each, AreApart, IsWaitingJob, IsJobInHand, IsPendingSweep, IsConsistent}
use Rattle.block_laws.specs.Laws.{DriverEntriesAreReserved, EntriesFit}
use Rattle.block_laws.proofs.JobLists.{each_parts, apart_parts, without_split, sum_split}
use Rattle.block_laws.proofs.NextLaws.{accepted_pass, next_is_waiting, fitting_has_room}
use Rattle.block_laws.proofs.HistoryLaws.{entries_are_counted}
use Rattle.block_laws.proofs.NextFacts.{job_in, next_job_by}
use Rattle.block_laws.proofs.ConsistentSteps.{idle, left_of, allowed_steps_stay_consistent, at_first_consistent}

abbrev reserved : Job → ℕ
reserved j = j.reserved

abbrev off_entry : State → ℕ
off_entry s = if s.started && not s.off then 1 else 0

abbrev sweep_part : Configuration → Option Sweep → ℕ
sweep_part c o = option_map_or (sweep_entries c) o 0

-- PICK

free_less : (c : Configuration) (s : State) (j : Job) (t : Taken) (ops : ℕ) (before after : List Job) → s.waiting ≡ before ++ j ∷ after → s.hand ≡ None → IsConsistent c s → reserved_entries c (record (in_hand c s j t) { count = s.count + 1; ops = ops }) < reserved_entries c s
free_less c s j t ops before after is free h =
    let waits = (each_parts (IsWaitingJob c s.count) before j after (subst (Each (IsWaitingJob c s.count)) is h.waiting)).0 in
    let without : without_job j.number s.waiting ≡ before ++ after = ap (without_job j.number) is ∙ without_split before j after (apart_parts before j after (subst AreApart is h.apart)).0 in
    let new : sum_by reserved (picked_job t 0 j ∷ before ++ after) ≡ j.reserved - 1 - 0 + sum_by reserved (before ++ after) = sum_by-cons reserved (picked_job t 0 j) (before ++ after) in
    let old : sum_by reserved s.waiting ≡ j.reserved + sum_by reserved (before ++ after) = ap (sum_by reserved) is ∙ sum_split reserved before j after in
    let less : off_entry s + sum_by reserved (picked_job t 0 j ∷ before ++ after) + sweep_part c s.sweep < off_entry s + sum_by reserved s.waiting + sweep_part c s.sweep = let l = waits.entries in omega (arith, new, old, l) in
    rw (free, without) less

urgent_entries : (imm : Bool) (r e : ℕ) → imm ≡ true → 2 + r + (if imm then 2 else 0) ≤ e → 4 ≤ e
urgent_entries true r e is entries = omega arith
urgent_entries false r e is entries = cc

interrupt_less : (c : Configuration) (s : State) (j x : Job) (t : Taken) (ops : ℕ) (before after : List Job) → s.waiting ≡ before ++ j ∷ after → s.hand ≡ Some x → IsTrue (rank_of c j).immediate → IsConsistent c s → reserved_entries c (record (in_hand c s j t) { count = s.count + 1; ops = ops }) < reserved_entries c s
interrupt_less c s j x t ops before after is holds immediate h =
    let waits = (each_parts (IsWaitingJob c s.count) before j after (subst (Each (IsWaitingJob c s.count)) is h.waiting)).0 in
    let without : without_job j.number s.waiting ≡ before ++ after = ap (without_job j.number) is ∙ without_split before j after (apart_parts before j after (subst AreApart is h.apart)).0 in
    let again : Job = record x { reserved = x.reserved + 2 } in
    let new : sum_by reserved (picked_job t 2 j ∷ again ∷ before ++ after) ≡ j.reserved - 1 - 2 + sum_by reserved (again ∷ before ++ after) = sum_by-cons reserved (picked_job t 2 j) (again ∷ before ++ after) in
    let more : sum_by reserved (again ∷ before ++ after) ≡ x.reserved + 2 + sum_by reserved (before ++ after) = sum_by-cons reserved again (before ++ after) in
    let old : sum_by reserved (x ∷ s.waiting) ≡ x.reserved + sum_by reserved s.waiting = sum_by-cons reserved x s.waiting in
    let rest : sum_by reserved s.waiting ≡ j.reserved + sum_by reserved (before ++ after) = ap (sum_by reserved) is ∙ sum_split reserved before j after in
    let four : 4 ≤ j.reserved = urgent_entries (rank_of c j).immediate (records_of c j) j.reserved immediate waits.entries in
    let less : off_entry s + sum_by reserved (picked_job t 2 j ∷ again ∷ before ++ after) + sweep_part c s.sweep < off_entry s + sum_by reserved (x ∷ s.waiting) + sweep_part c s.sweep = omega (arith, new, more, old, rest, four) in
    rw (holds, without) less

pick_by : (c : Configuration) (s : State) (j : Job) (t : Taken) (ops : ℕ) (before after : List Job) (o : Option Job) → s.waiting ≡ before ++ j ∷ after → s.hand ≡ o → HandIsFree c o j → IsConsistent c s → reserved_entries c (record (in_hand c s j t) { count = s.count + 1; ops = ops }) < reserved_entries c s
pick_by c s j t ops before after None is holds free h = free_less c s j t ops before after is holds h
pick_by c s j t ops before after (Some x) is holds may h = interrupt_less c s j x t ops before after is holds may.immediate h

pick_less : (c : Configuration) (s : State) (j : Job) (t : Taken) (ops : ℕ) → next_in c s.waiting ≡ Some j → HandIsFree c s.hand j → IsConsistent c s → reserved_entries c (record (in_hand c s j t) { count = s.count + 1; ops = ops }) < reserved_entries c s
pick_less c s j t ops next free h = let (before, after, is) = next_is_waiting c s.waiting j next in pick_by c s j t ops before after s.hand is refl free h

-- SWEEPS

not_begun : (b : Bool) (x sw : Sweep) (id : ℕ) → (if b then PickMember x id else PostMember x id) ≡ BeginSweep sw → ⊥
not_begun true x sw id is = cc
not_begun false x sw id is = cc

begun : (x sw : Sweep) → BeginSweep x ≡ BeginSweep sw → x ≡ sw
begun x sw is = cc

still_to_begin : (c : Configuration) (s : State) (x sw : Sweep) (under_way : Bool) (ids : List ℕ) → x.under_way ≡ under_way → (if under_way then next_member c s x ids else BeginSweep x) ≡ BeginSweep sw → sw.under_way ≡ false
still_to_begin c s x sw true [] at is = cc
still_to_begin c s x sw true (id ∷ ids) at is = absurd (not_begun _ x sw id is)
still_to_begin c s x sw false ids at is = ap (λ (y : Sweep). y.under_way) (sym (begun x sw is)) ∙ at

begun_less : (c : Configuration) (s : State) (sw : Sweep) (ops : ℕ) → s.sweep ≡ Some sw → sw.under_way ≡ false → reserved_entries c (record s { sweep = Some (record sw { under_way = true }); count = s.count + 1; ops = ops }) < reserved_entries c s
begun_less c s sw ops some fresh = rw (some, fresh) (omega arith)

member_less : (c : Configuration) (s : State) (sw : Sweep) (id : ℕ) (rest : List ℕ) (t : Taken) (ops : ℕ) → s.waiting ≡ [] → s.hand ≡ None → s.sweep ≡ Some sw → sw.left ≡ id ∷ rest → reserved_entries c (record (in_hand c (with_member s sw id) (member_job c sw id) t) { count = s.count + 1; ops = ops }) < reserved_entries c s
member_less c s sw id rest t ops none free some left =
    let one : sum_by reserved (picked_job t 0 (member_job c sw id) ∷ []) ≡ member_entries c sw.writes id - 1 - 0 + 0 = sum_by-cons reserved (picked_job t 0 (member_job c sw id)) [] in
    let all : sum_by (member_entries c sw.writes) (id ∷ rest) ≡ member_entries c sw.writes id + sum_by (member_entries c sw.writes) rest = sum_by-cons (member_entries c sw.writes) id rest in
    let less : off_entry s + sum_by reserved (picked_job t 0 (member_job c sw id) ∷ []) + (sum_by (member_entries c sw.writes) rest + (if sw.under_way then 1 else 2)) < off_entry s + 0 + (sum_by (member_entries c sw.writes) (id ∷ rest) + (if sw.under_way then 1 else 2)) = omega (arith, one, all) in
    rw (none, free, some, left) less

fresh_of : (c : Configuration) (s : State) (o hand : Option Job) (sweep : Option Sweep) (sw : Sweep) → next_by c s o hand sweep ≡ BeginSweep sw → sw.under_way ≡ false
fresh_of c s (Some x) hand sweep sw is = cc
fresh_of c s None (Some x) sweep sw is = cc
fresh_of c s None None None sw is = cc
fresh_of c s None None (Some x) sw is = still_to_begin c s x sw x.under_way (if x.canceled then [] else x.left) refl is

pick_next : (c : Configuration) (s : State) (block : ℕ) (kind : JobKind) (t : Taken) (ops : ℕ) (n : Next) → next_of c s ≡ n → MayPick c s block kind t n → IsConsistent c s → reserved_entries c (record (picked c s t n) { count = s.count + 1; ops = ops }) < reserved_entries c s
pick_next c s block kind t ops (PickJob j) is may h = pick_less c s j t ops (next_job_by c s (next_in c s.waiting) s.hand s.sweep j (ap job_in is)) may.free h
pick_next c s block kind t ops (PickMember sw id) is may h =
    let at = idle c s sw (PickMember sw id) is refl in
    let (rest, left) = left_of c s sw id (PickMember sw id) is at.some refl in
    member_less c s sw id rest t ops at.waiting at.hand at.some left
pick_next c s block kind t ops (BeginSweep sw) is may h = begun_less c s sw ops (idle c s sw (BeginSweep sw) is refl).some (fresh_of c s (next_in c s.waiting) s.hand s.sweep sw is)
pick_next c s block kind t ops (PostMember sw id) is may h = absurd may
pick_next c s block kind t ops (EndSweep sw) is may h = absurd may
pick_next c s block kind t ops Nothing is may h = absurd may

-- WROTE

wrote_less : (c : Configuration) (s : State) (i : Instance) (mark : Mark) (ops : ℕ) (o : Option Job) → s.hand ≡ o → MayWrite c s i mark o → IsConsistent c s → reserved_entries c (record (wrote s i mark o) { count = s.count + 1; ops = ops }) < reserved_entries c s
wrote_less c s i mark ops None is may h = absurd may
wrote_less c s i mark ops (Some j) is may h =
    let here : IsJobInHand c s j = subst (λ (o : Option Job). IfSome o (IsJobInHand c s)) is h.hand in
    let next : Job = record j { reserved = j.reserved - 1; written = j.written ++ i.index ∷ [] } in
    let new : sum_by reserved (next ∷ s.waiting) ≡ j.reserved - 1 + sum_by reserved s.waiting = sum_by-cons reserved next s.waiting in
    let old : sum_by reserved (j ∷ s.waiting) ≡ j.reserved + sum_by reserved s.waiting = sum_by-cons reserved j s.waiting in
    let l = here.entries in
    let w = may.left in
    let less : off_entry s + sum_by reserved (next ∷ s.waiting) + sweep_part c s.sweep < off_entry s + sum_by reserved (j ∷ s.waiting) + sweep_part c s.sweep = omega (arith, new, old, l, w) in
    rw is less

-- POST

same_part_by : (c : Configuration) (id : ℕ) (r : ReqResult) (sw : Sweep) (b : Bool) → sw.under_way ≡ b → sweep_entries c (after_member id r sw) ≡ sweep_entries c sw
same_part_by c id r sw true is = rw is refl
same_part_by c id r sw false is = rw is refl

same_part : (c : Configuration) (id : ℕ) (r : ReqResult) (o : Option Sweep) → sweep_part c (option_map (after_member id r) o) ≡ sweep_part c o
same_part c id r None = refl
same_part c id r (Some sw) = same_part_by c id r sw sw.under_way refl

job_less : (c : Configuration) (s : State) (j : Job) (r : ReqResult) (given : Option (List ℕ)) (ops : ℕ) → s.hand ≡ Some j → IsConsistent c s → reserved_entries c (record (posted c s r given (Some j)) { count = s.count + 1; ops = ops }) < reserved_entries c s
job_less c s j r given ops is h =
    let here : IsJobInHand c s j = subst (λ (o : Option Job). IfSome o (IsJobInHand c s)) is h.hand in
    let old : sum_by reserved (j ∷ s.waiting) ≡ j.reserved + sum_by reserved s.waiting = sum_by-cons reserved j s.waiting in
    let same = same_part c (job_block j) r s.sweep in
    let l = here.entries in
    let w = here.written in
    let less : off_entry s + sum_by reserved s.waiting + sweep_part c (option_map (after_member (job_block j) r) s.sweep) < off_entry s + sum_by reserved (j ∷ s.waiting) + sweep_part c s.sweep = omega (arith, old, same, l, w) in
    rw is less

member_posted_less : (c : Configuration) (s : State) (sw : Sweep) (id : ℕ) (rest : List ℕ) (r : ReqResult) (given : Option (List ℕ)) (ops : ℕ) → s.sweep ≡ Some sw → sw.left ≡ id ∷ rest → reserved_entries c (record (posted_next c s r given (PostMember sw id)) { count = s.count + 1; ops = ops }) < reserved_entries c s
member_posted_less c s sw id rest r given ops some left =
    let next : Sweep = record sw { left = drop 1 sw.left } in
    let same : sweep_entries c (after_member id r next) ≡ sweep_entries c next = same_part_by c id r next sw.under_way refl in
    let shorter : sweep_entries c next ≡ sum_by (member_entries c sw.writes) rest + (if sw.under_way then 1 else 2) = rw left refl in
    let all : sum_by (member_entries c sw.writes) (id ∷ rest) ≡ member_entries c sw.writes id + sum_by (member_entries c sw.writes) rest = sum_by-cons (member_entries c sw.writes) id rest in
    let whole : sweep_part c s.sweep ≡ sum_by (member_entries c sw.writes) (id ∷ rest) + (if sw.under_way then 1 else 2) = rw (some, left) refl in
    let less : off_entry s + sum_by reserved (jobs_of s) + sweep_entries c (after_member id r next) < off_entry s + sum_by reserved (jobs_of s) + sweep_part c s.sweep = omega (arith, same, shorter, all, whole) in
    less

one_left : (n : ℕ) (under_way : Bool) → 0 < n + (if under_way then 1 else 2)
one_left n true = omega arith
one_left n false = omega arith

ended_less : (c : Configuration) (s : State) (sw : Sweep) (r : ReqResult) (given : Option (List ℕ)) (ops : ℕ) → s.sweep ≡ Some sw → reserved_entries c (record (posted_next c s r given (EndSweep sw)) { count = s.count + 1; ops = ops }) < reserved_entries c s
ended_less c s sw r given ops some =
    let some_left = one_left (sum_by (member_entries c sw.writes) sw.left) sw.under_way in
    let less : off_entry s + sum_by reserved (jobs_of s) + 0 < off_entry s + sum_by reserved (jobs_of s) + (sum_by (member_entries c sw.writes) sw.left + (if sw.under_way then 1 else 2)) = omega (arith, some_left) in
    rw some less

post_next : (c : Configuration) (s : State) (block : ℕ) (r : ReqResult) (given : Option (List ℕ)) (refused ops : ℕ) (n : Next) → next_of c s ≡ n → MayPostNext c s block (r, given) refused n → reserved_entries c (record (posted_next c s r given n) { count = s.count + 1; ops = ops }) < reserved_entries c s
post_next c s block r given refused ops (PostMember sw id) is may =
    let at = idle c s sw (PostMember sw id) is refl in
    let (rest, left) = left_of c s sw id (PostMember sw id) is at.some refl in
    member_posted_less c s sw id rest r given ops at.some left
post_next c s block r given refused ops (EndSweep sw) is may = ended_less c s sw r given ops (idle c s sw (EndSweep sw) is refl).some
post_next c s block r given refused ops (PickJob j) is may = absurd may
post_next c s block r given refused ops (PickMember sw id) is may = absurd may
post_next c s block r given refused ops (BeginSweep sw) is may = absurd may
post_next c s block r given refused ops Nothing is may = absurd may

post_less : (c : Configuration) (s : State) (block : ℕ) (r : ReqResult) (given : Option (List ℕ)) (refused ops : ℕ) (o : Option Job) → s.hand ≡ o → MayPost c s block (r, given) refused o → IsConsistent c s → reserved_entries c (record (posted c s r given o) { count = s.count + 1; ops = ops }) < reserved_entries c s
post_less c s block r given refused ops (Some j) is may h = job_less c s j r given ops is h
post_less c s block r given refused ops None is may h = post_next c s block r given refused ops (next_of c s) refl may

-- THE DRIVER'S ENTRIES

off_less : (on off : Bool) (n m : ℕ) → on ≡ true → not off ≡ true → (if on && false then 1 else 0) + n + m < (if on && not off then 1 else 0) + n + m
off_less true false n m is stays = omega arith
off_less true true n m is stays = cc
off_less false off n m is stays = cc

pub driver_entries_are_reserved : DriverEntriesAreReserved
driver_entries_are_reserved c cap s (Pick block kind t ops) h allowed uses = pick_next c s block kind t ops (next_of c s) refl allowed.1 h
driver_entries_are_reserved c cap s (Wrote i mark ops) h allowed uses = wrote_less c s i mark ops s.hand refl allowed.1 h
driver_entries_are_reserved c cap s (Post block r given refused ops) h allowed uses = post_less c s block r given refused ops s.hand refl allowed.1 h
driver_entries_are_reserved c cap s (Off ops) h allowed uses = off_less s.started s.off (sum_by reserved (jobs_of s)) (sweep_part c s.sweep) allowed.started allowed.on
driver_entries_are_reserved c cap s (Ask caller r reply) h allowed uses = cc
driver_entries_are_reserved c cap s (Found marks ops) h allowed uses = cc

-- ASKS

passed_room : (c : Configuration) (cap : ℕ) (s : State) (r : Request) → reply_of c cap s r ≡ Accepted → Contains (tested r) HistoryFull → holds c cap s HistoryFull r ≡ not (fits c cap s (1 + needed c r)) → s.count + reserved_entries c s + (1 + needed c r) ≤ cap
passed_room c cap s r is has same = (fitting_has_room c cap s (1 + needed c r)).0 (not-false (fits c cap s (1 + needed c r)) (sym same ∙ accepted_pass c cap s r HistoryFull is has))

-- an accepted request has room for its entry and for those that it needs
room_for : (c : Configuration) (cap : ℕ) (s : State) (r : Request) → reply_of c cap s r ≡ Accepted → IsTrue (fits c cap s 1) → s.count + reserved_entries c s + (1 + needed c r) ≤ cap
room_for c cap s (Read block false) is one = passed_room c cap s (Read block false) is (5, omega arith, refl) refl
room_for c cap s (Read block true) is one = passed_room c cap s (Read block true) is (6, omega arith, refl) refl
room_for c cap s (Write block (Some content) store) is one = passed_room c cap s (Write block (Some content) store) is (10, omega arith, refl) refl
room_for c cap s (Write block None store) is one = passed_room c cap s (Write block None store) is (10, omega arith, refl) refl
room_for c cap s (Restore block false) is one = passed_room c cap s (Restore block false) is (7, omega arith, refl) refl
room_for c cap s (Restore block true) is one = passed_room c cap s (Restore block true) is (8, omega arith, refl) refl
room_for c cap s (Erase block) is one = passed_room c cap s (Erase block) is (10, omega arith, refl) refl
room_for c cap s (Invalidate block) is one = passed_room c cap s (Invalidate block) is (9, omega arith, refl) refl
room_for c cap s ReadAll is one = passed_room c cap s ReadAll is (2, omega arith, refl) refl
room_for c cap s WriteAll is one = passed_room c cap s WriteAll is (2, omega arith, refl) refl
room_for c cap s r is one = (fitting_has_room c cap s 1).0 one

job_adds : (c : Configuration) (s : State) (r : Request) (o : Option Job) → sum_by reserved (option_to_list o ++ (s.waiting ++ job_at c s.count r ∷ [])) ≡ sum_by reserved (option_to_list o ++ s.waiting) + needed c r
job_adds c s r o =
    let last : sum_by reserved (job_at c s.count r ∷ []) ≡ needed c r + 0 = sum_by-cons reserved (job_at c s.count r) [] in
    let new = sum_by-append reserved (option_to_list o) (s.waiting ++ job_at c s.count r ∷ []) in
    let old = sum_by-append reserved (option_to_list o) s.waiting in
    let more = sum_by-append reserved s.waiting (job_at c s.count r ∷ []) in
    omega (arith, last, new, old, more)

no_sweep_by : (s : State) (o : Option Sweep) → is_pending (status_of s 0) ≡ false → IfSome o (IsPendingSweep s) → o ≡ None
no_sweep_by s None idle h = refl
no_sweep_by s (Some sw) idle h = absurd (true≢false (sym h.pending ∙ idle))

sweep_adds : (c : Configuration) (s : State) (writes : Bool) (ops : ℕ) → s.sweep ≡ None → reserved_entries c (record (with_sweep c s writes) { count = s.count + 1; ops = ops }) ≡ reserved_entries c s + sweep_entries c (sweep_at c 0 writes)
sweep_adds c s writes ops none = rw none (omega arith)

cancel_part : (c : Configuration) (o : Option Sweep) → sweep_part c (option_map {T = Sweep} (λ sw. record sw { canceled = true }) o) ≡ sweep_part c o
cancel_part c None = refl
cancel_part c (Some sw) = refl

cancel_adds : (c : Configuration) (s : State) (ops : ℕ) → reserved_entries c (record s { sweep = option_map {T = Sweep} (λ sw. record sw { canceled = true }) s.sweep; count = s.count + 1; ops = ops }) ≡ reserved_entries c s + 0
cancel_adds c s ops = let same = cancel_part c s.sweep in let sum : off_entry s + sum_by reserved (jobs_of s) + sweep_part c (option_map {T = Sweep} (λ sw. record sw { canceled = true }) s.sweep) ≡ off_entry s + sum_by reserved (jobs_of s) + sweep_part c s.sweep + 0 = omega (arith, same) in sum

change_adds : (c : Configuration) (cap : ℕ) (s : State) (r : Request) (ops : ℕ) → job_kind r ≡ None → reply_of c cap s r ≡ Accepted → IsConsistent c s → reserved_entries c (record (changed c s r) { count = s.count + 1; ops = ops }) ≡ reserved_entries c s + needed c r
change_adds c cap s ReadAll ops none is h = sweep_adds c s false ops (no_sweep_by s s.sweep (accepted_pass c cap s ReadAll MultiPending is (1, omega arith, refl)) h.sweep)
change_adds c cap s WriteAll ops none is h = sweep_adds c s true ops (no_sweep_by s s.sweep (accepted_pass c cap s WriteAll MultiPending is (1, omega arith, refl)) h.sweep)
change_adds c cap s CancelWriteAll ops none is h = cancel_adds c s ops
change_adds c cap s (SetIndex block index) ops none is h = omega arith
change_adds c cap s (SetProtection block on) ops none is h = omega arith
change_adds c cap s (SetLock block on) ops none is h = omega arith
change_adds c cap s (SetRam block on) ops none is h = omega arith
change_adds c cap s (PutRam block content) ops none is h = omega arith
change_adds c cap s (GetIndex block) ops none is h = omega arith
change_adds c cap s (Status block) ops none is h = omega arith
change_adds c cap s (Read block ram) ops none is h = cc
change_adds c cap s (Write block content store) ops none is h = cc
change_adds c cap s (Restore block ram) ops none is h = cc
change_adds c cap s (Erase block) ops none is h = cc
change_adds c cap s (Invalidate block) ops none is h = cc

accepted_adds : (c : Configuration) (cap : ℕ) (s : State) (r : Request) (ops : ℕ) (kind : Option JobKind) → job_kind r ≡ kind → reply_of c cap s r ≡ Accepted → IsConsistent c s → reserved_entries c (record (accepted_by c s r kind) { count = s.count + 1; ops = ops }) ≡ reserved_entries c s + needed c r
accepted_adds c cap s r ops None kind is h = change_adds c cap s r ops kind is h
accepted_adds c cap s r ops (Some x) kind is h =
    let jobs = job_adds c s r s.hand in
    let sum : off_entry s + sum_by reserved (option_to_list s.hand ++ (s.waiting ++ job_at c s.count r ∷ [])) + sweep_part c s.sweep ≡ off_entry s + sum_by reserved (jobs_of s) + sweep_part c s.sweep + needed c r = omega (arith, jobs) in
    sum

ask_fits : (c : Configuration) (cap : ℕ) (s : State) (caller : ℕ) (r : Request) (reply : Reply) → IsAsk c cap s caller r reply → IsConsistent c s → s.count + 1 + reserved_entries c (step c s (Ask caller r reply)) ≤ cap
ask_fits c cap s caller r Accepted ask h =
    let room = room_for c cap s r (sym ask.replies) ask.room in
    let adds : reserved_entries c (step c s (Ask caller r Accepted)) ≡ reserved_entries c s + needed c r = accepted_adds c cap s r s.ops (job_kind r) refl (sym ask.replies) h in
    omega (arith, room, adds)
ask_fits c cap s caller r (Refused x) ask h = let room = (fitting_has_room c cap s 1).0 ask.room in omega (arith, room)
ask_fits c cap s caller r (StatusIs x) ask h = let room = (fitting_has_room c cap s 1).0 ask.room in omega (arith, room)
ask_fits c cap s caller r (IndexIs x) ask h = let room = (fitting_has_room c cap s 1).0 ask.room in omega (arith, room)

-- ALL ENTRIES

used_fits : (n old new cap : ℕ) → new < old → n + old ≤ cap → n + 1 + new ≤ cap
used_fits n old new cap less fits = omega arith

step_fits : (c : Configuration) (cap : ℕ) (s : State) (e : Entry) → IsConsistent c s → s.count + reserved_entries c s ≤ cap → IsAllowed c cap s e → s.count + 1 + reserved_entries c (step c s e) ≤ cap
step_fits c cap s (Ask caller r reply) h room allowed = ask_fits c cap s caller r reply allowed h
step_fits c cap s (Found marks ops) h room allowed = let l = allowed.room in omega (arith, l)
step_fits c cap s (Pick block kind t ops) h room allowed = used_fits s.count _ _ cap (driver_entries_are_reserved c cap s (Pick block kind t ops) h allowed refl) room
step_fits c cap s (Wrote i mark ops) h room allowed = used_fits s.count _ _ cap (driver_entries_are_reserved c cap s (Wrote i mark ops) h allowed refl) room
step_fits c cap s (Post block r given refused ops) h room allowed = used_fits s.count _ _ cap (driver_entries_are_reserved c cap s (Post block r given refused ops) h allowed refl) room
step_fits c cap s (Off ops) h room allowed = used_fits s.count _ _ cap (driver_entries_are_reserved c cap s (Off ops) h allowed refl) room

all_fit : (c : Configuration) (cap : ℕ) (s : State) (es : List Entry) → IsConsistent c s → s.count + reserved_entries c s ≤ cap → IsLegalFrom c cap s es → (after_from c s es).count + reserved_entries c (after_from c s es) ≤ cap
all_fit c cap s [] h room legal = room
all_fit c cap s (e ∷ es) h room legal = all_fit c cap (step c s e) es (allowed_steps_stay_consistent c cap s e h legal.0) (step_fits c cap s e h room legal.0) legal.1

pub entries_fit : EntriesFit
entries_fit c cap h legal =
    let count : (after c h).count ≡ length h = entries_are_counted c h in
    let room : (after c h).count + reserved_entries c (after c h) ≤ cap = all_fit c cap at_first h (at_first_consistent c) (omega arith) legal in
    omega (arith, count, room)
