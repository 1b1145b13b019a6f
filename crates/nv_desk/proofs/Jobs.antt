-- A job that is accepted.
use Rattle.std.proofs.Common.{◌≡◌, ◌≤◌, ◌<◌, ℕ, zero, suc, ◌+◌, ◌^◌, nat_le, Bool, true, false, List, [], ◌∷◌, ◌++◌, length, get_or, sum_by, option_to_list, Contains, IfSome, IsTrue, is_some, unwrap_or, refl, sym, ap, ◌∙◌, subst, arith, Option, Some, None}
use Rattle.std.proofs.lemmas.Bool.Decides.{nat_tests}
use Rattle.std.proofs.lemmas.List.Sums.{sum_by-append}
use Rattle.block_machine.specs.Words.{Configuration, Pending, Ask, Request, Write, JobKind, ReadJob, WriteJob, Accepted}
use Rattle.block_machine.specs.State.{State, Job, Sweep, jobs_of}
use Rattle.block_machine.specs.Blocks.{asked_block, asked_content, job_block, job_kind, names_ram, is_pending, status_of}
use Rattle.block_machine.specs.Reply.{is_queue_full, reserved_entries, needed}
use Rattle.block_machine.specs.Steps.{after, step, accepted, accepted_by, job_at, with_status}
use Rattle.block_machine.specs.Legal.{IsAsk}
use Rattle.block_laws.specs.Consistent.{Each, IsConsistent, IsWaitingJob, IsJobInHand, IsPendingSweep}
use Rattle.block_laws.proofs.NextLaws.{fitting_has_room}
use Rattle.job_pending.specs.declared.unpicked.Unpicked.{Unpicked}
use Rattle.job_pending.specs.Unpicked.{unpicked_in}
use Rattle.job_pending.specs.Pending.{IsNew, most_of, reserved_by, unpicked_of}
use Rattle.nv_desk.specs.declared.desk.Desk.TheInside.{Inside}
use Rattle.nv_desk.specs.Asks.{IsJobAccepted}
use Rattle.nv_desk.specs.Desk.{IsKept}
use Rattle.nv_desk_state.specs.Kept.{Agrees}
use Rattle.nv_desk.specs.Sound.{IsPendingJob, IsSound}
use Rattle.nv_desk.proofs.Sound.{sound_job}
use Rattle.nv_desk_state.specs.declared.kept.Kept.{Kept}
use Rattle.nv_desk.proofs.Asks.{known_of, job_accepted}

each_at : {X : Type 0} (P : X → Type 0) (xs : List X) (x : X) (k : ℕ) → k < length xs → get_or xs k x ≡ x → Each P xs → P x
each_at P [] x k below is each = absurd (omega arith)
each_at P (y ∷ ys) x zero below is each = subst P is each.0
each_at P (y ∷ ys) x (suc k) below is each = each_at P ys x k (omega arith) is each.1

-- the numbers of jobs are below the count
all_below : (c : Configuration) (s : State) (hand : Option Job) → s.hand ≡ hand → Each (IsWaitingJob c s.count) s.waiting
    → IfSome hand (IsJobInHand c s) → (x : Job) → Contains (option_to_list hand ++ s.waiting) x → x.number < s.count
all_below c s None is waiting held x at = (each_at (IsWaitingJob c s.count) s.waiting x at.0 at.1 at.2 waiting).number
all_below c s (Some h) is waiting held x (zero, below, at) = subst (λ (j : Job). j.number < s.count) at held.number
all_below c s (Some h) is waiting held x (suc k, below, at) = (each_at (IsWaitingJob c s.count) s.waiting x k (omega (arith, below)) at waiting).number

pub new_job : (c : Configuration) (cap : ℕ) (s : State) (r : Request) (j : Job) → IsSound c s → IsJobAccepted c cap s r
    → job_block j ≡ asked_block r → j.number ≡ s.count → IsNew j s.waiting s.hand
new_job c cap s r j sound passed block number x at =
    let low = all_below c s s.hand refl sound.consistent.waiting sound.consistent.hand x at in
    let less : x.number < j.number = omega (arith, low, number) in (
      record {
        block = λ e. let same : job_block x ≡ asked_block r = e ∙ block in
            cc ((each_at (IsPendingJob c s) (jobs_of s) x at.0 at.1 at.2 sound.jobs).pending, same, passed.free);
        number = λ e. absurd (omega (arith, less, e));
      },
      less,
    )

-- what it changes, and what it reserves
pub accepted_job : (c : Configuration) (s : State) (r : Request) (kind : Option JobKind) → job_kind r ≡ kind → is_some kind ≡ true
    → accepted c s r ≡ record (with_status (asked_block r) Pending s) { waiting = s.waiting ++ job_at c s.count r ∷ [] }
accepted_job c s r (Some kind) is some = ap (accepted_by c s r) is
accepted_job c s r None is some = cc

by_hand : (c : Configuration) (hand : Option Job) (waiting : List Job) (j : Job)
    → sum_by (λ (j : Job). j.reserved) (option_to_list hand ++ (waiting ++ j ∷ [])) ≡ sum_by (λ (j : Job). j.reserved)
    (option_to_list hand ++ waiting) + j.reserved
by_hand c hand waiting j =
    let a = sum_by-append (λ (j : Job). j.reserved) (option_to_list hand) (waiting ++ j ∷ []) in
    let b = sum_by-append (λ (j : Job). j.reserved) waiting (j ∷ []) in
    let d = sum_by-append (λ (j : Job). j.reserved) (option_to_list hand) waiting in
    omega (arith, a, b, d)

pub job_reserves : (c : Configuration) (s : State) (r : Request) → is_some (job_kind r) ≡ true
    → reserved_entries c (accepted c s r) ≡ reserved_entries c s + needed c r
job_reserves c s r some = rw (accepted_job c s r (job_kind r) refl some) (omega (arith, by_hand c s.hand s.waiting (job_at c s.count r)))

-- the jobs that wait are among those that entries are reserved for
waiting_reserves : (c : Configuration) (s : State) → reserved_by s.waiting ≤ reserved_entries c s
waiting_reserves c s = let d = sum_by-append (λ (j : Job). j.reserved) (option_to_list s.hand) s.waiting in omega (arith, d)

-- the entries fit into a number
pub few_entries : (d : Inside) (caller : ℕ) (r : Request) (reserved more : ℕ) → IsKept d → is_some (job_kind r) ≡ true
    → IsAsk d.config d.history.cap (after d.config d.history.entries) caller r Accepted → more ≡ needed d.config r
    → reserved ≡ reserved_entries d.config (after d.config d.history.entries) → reserved + more + 1 < 2 ^ 32
few_entries d caller r reserved more is kind allowed need value =
    let s = after d.config d.history.entries in
    let passed = job_accepted d.config d.history.cap s r kind allowed.replies in
    let room = (fitting_has_room d.config d.history.cap s (1 + needed d.config r)).0 passed.room in
    omega (arith, room, is.within, need, value)

-- and so do those of the jobs that wait
pub few_reserved : (d : Inside) (caller : ℕ) (r : Request) (more : ℕ) → IsKept d → is_some (job_kind r) ≡ true
    → IsAsk d.config d.history.cap (after d.config d.history.entries) caller r Accepted → more ≡ needed d.config r
    → d.kept.jobs.reserved + more < 2 ^ 32
few_reserved d caller r more is kind allowed need =
    let few = few_entries d caller r _ more is kind allowed need refl in
    omega (arith, few, is.agrees.jobs.reserved, waiting_reserves d.config (after d.config d.history.entries))

-- its block has a place
pub has_place : (c : Configuration) (cap : ℕ) (s : State) (k : Kept) (r : Request) (j : Job) → IsJobAccepted c cap s r → Agrees c k s
    → job_block j ≡ asked_block r → job_block j < k.jobs.slots.places
has_place c cap s k r j passed agrees block =
    let known = known_of (length c.blocks) (asked_block r) passed.known in
    omega (arith, known.1, agrees.places, block)

not_le : (a b : ℕ) → nat_le a b ≡ false → b < a
not_le a b no_ = grind (arith, nat_tests)

-- fewer jobs were never picked than their queue takes
pub few_unpicked : (c : Configuration) (k : Kept) (s : State) (immediate : Bool) → is_queue_full c s.waiting immediate ≡ false → Agrees c k s
    → unpicked_in immediate k.jobs.unpicked < most_of c immediate
few_unpicked c k s true free agrees = omega (arith, not_le c.immediate (unpicked_of c s.waiting).immediate free, ap (λ (u : Unpicked). u.immediate) agrees.jobs.unpicked)
few_unpicked c k s false free agrees = omega (arith, not_le c.standard (unpicked_of c s.waiting).standard free, ap (λ (u : Unpicked). u.standard) agrees.jobs.unpicked)

-- the job that is made is the machine's
pub job_is : (c : Configuration) (n number reserved : ℕ) (r request : Request) (j : Job)
    → j ≡ record {
      number = number;
      request = request;
      member = false;
      content = asked_content request;
      reserved = reserved;
      taken = None;
      written = [];
    }
    → number ≡ n → request ≡ r → reserved ≡ needed c r → j ≡ job_at c n r
job_is c n number reserved r request j is numbered same need = rw (is, numbered, same, need) refl

pub job_agrees : (c : Configuration) (k : Kept) (s : State) (r : Request) (j : Job) → is_some (job_kind r) ≡ true → j ≡ job_at c s.count r
    → Agrees c k (record (with_status (job_block j) Pending s) { waiting = s.waiting ++ j ∷ [] }) → Agrees c k (accepted c s r)
job_agrees c k s r j some is h = rw (accepted_job c s r (job_kind r) refl some)
    (subst (λ x. Agrees c k (record (with_status (job_block x) Pending s) { waiting = s.waiting ++ x ∷ [] })) is h)

-- a write without a content names RAM
ram_by : (r : Request) → unwrap_or (job_kind r) ReadJob ≡ WriteJob → asked_content r ≡ None → names_ram r ≡ true
ram_by (Write block None store) writes none = refl
ram_by (Write block (Some content) store) writes none = cc
ram_by r writes none = cc

-- and the state stays sound
pub job_sound : (c : Configuration) (cap : ℕ) (s : State) (caller : ℕ) (r : Request) → IsSound c s
    → IsConsistent c (step c s (Ask caller r Accepted)) → is_some (job_kind r) ≡ true → IsTrue s.started → IsJobAccepted c cap s r
    → IsSound c (step c s (Ask caller r Accepted))
job_sound c cap s caller r sound consistent some started passed =
    let is = accepted_job c s r (job_kind r) refl some in
    let known = known_of (length c.blocks) (asked_block r) passed.known in
    subst (λ (x : State). IsSound c (record x { count = s.count + 1; ops = s.ops })) (sym is)
    (sound_job c s (asked_block r) (s.count + 1) s.ops (job_at c s.count r) sound
    (subst (λ (x : State). IsConsistent c (record x { count = s.count + 1; ops = s.ops })) is consistent) refl
    (omega (arith, known.1, sound.places started)) passed.content (λ writes none. passed.ram (ram_by r writes none)))

none_by : (s : State) (o : Option Sweep) → IfSome o (IsPendingSweep s) → is_pending (status_of s 0) ≡ false → o ≡ None
none_by s None h off = refl
none_by s (Some sw) h off = cc (h.pending, off)

-- while id 0 isn't PENDING there is no request on all blocks
pub no_sweep : (c : Configuration) (s : State) → IsConsistent c s → is_pending (status_of s 0) ≡ false → s.sweep ≡ None
no_sweep c s h off = none_by s s.sweep h.sweep off
