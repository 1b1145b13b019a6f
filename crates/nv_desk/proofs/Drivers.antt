-- One entry more of the driver.
use Rattle.std.specs.Option.{option_and_then, option_map_or}
use Rattle.std.proofs.lemmas.Bool.{and_parts}
use Rattle.std.proofs.lemmas.List.Sums.{sum_by-cons}
use Rattle.std.proofs.Common.{◌≢◌, option_map, ◌&&◌, Bool, false, sym, ◌∙◌, get_or, ◌≡◌, ◌≤◌, ◌<◌, ℕ, ◌+◌, true, List, ◌∷◌, ◌++◌, length, refl, ap, arith, subst, Option, Some, None, IfSome, IsSome, option_to_list}
use Rattle.nv_recorder.specs.Recorder.{Recorded}
use Rattle.block_machine.specs.block_config.Block.{record_count}
use Rattle.block_machine.specs.block_config.declared.block.BlockKind.{BlockKind}
use Rattle.block_machine.specs.block_config.declared.block.BlockKind.TheVariants.{Native, Redundant, Dataset}
use Rattle.block_machine.specs.Words.{ReqResult, Wrote, Post, Configuration, Entry, Instance, Mark, JobKind, ReadJob, RestoreJob}
use Rattle.block_machine.specs.State.{State, Job, Sweep, jobs_of}
use Rattle.block_machine.specs.Blocks.{desc_of, job_block, keeps_ram, names_ram, records_by, records_of}
use Rattle.block_machine.specs.Sweeps.{sweep_entries, after_member}
use Rattle.block_machine.specs.Reply.{reserved_entries}
use Rattle.block_machine.specs.Steps.{after, changed_by, step, wrote, posted}
use Rattle.block_machine.specs.Legal.{IsAllowed, MayWrite, IsWrote}
use Rattle.block_laws.specs.Laws.{uses_reserved}
use Rattle.block_laws.specs.Consistent.{Each, IsConsistent, IsJobInHand}
use Rattle.block_laws.proofs.ConsistentSteps.{allowed_steps_stay_consistent}
use Rattle.block_laws.proofs.EntryRoom.{driver_entries_are_reserved}
use Rattle.block_states.specs.States.{rooms_of}
use Rattle.block_states.proofs.Started.{rooms_have_lengths}
use Rattle.nv_desk.specs.declared.desk.Desk.TheInside.{Inside}
use Rattle.nv_desk_state.specs.declared.kept.Kept.{Kept}
use Rattle.nv_desk.specs.Rooms.{HasPlace, CanNote, with_entry}
use Rattle.nv_desk_state.specs.Kept.{Agrees}
use Rattle.nv_desk.specs.Sound.{IsPendingJob, IsSound}
use Rattle.nv_desk.specs.Desk.{IsKept, shown}
use Rattle.nv_desk.specs.Driver.{MayAdd, MayEnd, block_now, mark_now}
use Rattle.nv_desk.specs.Places.{Ready, AreReady, put_back}
use Rattle.nv_desk.proofs.Entries.{entry_kept, StandReady}
use Rattle.nv_desk.proofs.Ready.{back_length, ended_ready}
use Rattle.job_pending.specs.Pending.{Pending, Agree, IsHeld, IsOther, StandsApart}
use Rattle.block_laws.proofs.JobLists.{each_more}

-- there is room for the entry
pub record HasRoom (d : Inside) (e : Entry) : Type 0 where
  pub place : HasPlace d.history
  pub fewer : reserved_entries d.config (changed_by d.config (after d.config d.history.entries) e) + 1 ≤ reserved_entries d.config
      (after d.config d.history.entries)

pub room_for : (d : Inside) (e : Entry) → IsKept d → reserved_entries d.config
    (changed_by d.config (after d.config d.history.entries) e) < reserved_entries d.config (after d.config d.history.entries) → HasRoom d e
room_for d e is less = record {
  place = record { below = omega (arith, is.fits, less); room = omega (arith, is.memory, less) };
  fewer = omega (arith, less);
}

pub has_room : (d : Inside) (e : Entry) → IsKept d → IsAllowed d.config d.history.cap (after d.config d.history.entries) e
    → uses_reserved e ≡ true → HasRoom d e
has_room d e is allowed uses = room_for d e is (driver_entries_are_reserved d.config d.history.cap (after d.config d.history.entries) e is.sound.consistent allowed uses)

-- what is kept stands behind it
pub driver_kept : (d : Inside) (h : Recorded) (k : Kept) (p : Ready) (e : Entry) → IsKept d → HasRoom d e
    → IsSound d.config (step d.config (after d.config d.history.entries) e)
    → h ≡ with_entry d.history e → Agrees d.config k (changed_by d.config (after d.config d.history.entries) e)
    → StandReady d (changed_by d.config (after d.config d.history.entries) e) p
    → IsKept (record d { history = h; kept = k; places = p })
driver_kept d h k p e is has sound added agrees places =
    let left = reserved_entries d.config (changed_by d.config (after d.config d.history.entries) e) in
    let reserved = ap (λ (x : Recorded). x.reserved) added in
    entry_kept d h k p e left is
    (record { entries = ap (λ (x : Recorded). x.entries) added; cap = ap (λ (x : Recorded). x.cap) added; memory = omega (arith, reserved, has.fewer, is.memory); longest = ap (λ (x : Recorded). x.longest) added })
    agrees sound (omega arith) (omega (arith, has.fewer, is.fits)) places

-- so it does behind one that the machine allows
pub allowed_kept : (d : Inside) (h : Recorded) (k : Kept) (p : Ready) (e : Entry) → IsKept d
    → IsAllowed d.config d.history.cap (after d.config d.history.entries) e → uses_reserved e ≡ true
    → (IsConsistent d.config (step d.config (after d.config d.history.entries) e) → IsSound d.config (step d.config (after d.config d.history.entries) e))
    → h ≡ with_entry d.history e → Agrees d.config k (changed_by d.config (after d.config d.history.entries) e)
    → StandReady d (changed_by d.config (after d.config d.history.entries) e) p
    → IsKept (record d { history = h; kept = k; places = p })
allowed_kept d h k p e is allowed uses sound added agrees places = driver_kept d h k p e is (has_room d e is allowed uses)
    (sound (allowed_steps_stay_consistent d.config d.history.cap (after d.config d.history.entries) e is.sound.consistent allowed))
    added agrees places

given_fits : (c : Configuration) (n id : ℕ) (given : Option (List ℕ)) → IfSome given (λ x. length x ≡ (desc_of c id).length)
    → ((id : ℕ) → (desc_of c id).length ≤ n) → IfSome given (λ x. length x ≤ n)
given_fits c n id None whole most = tt
given_fits c n id (Some x) whole most = omega (arith, whole, most id)

-- there is room for a Post that gives nothing or a content of its block's length
pub can_post : (d : Inside) (e : Entry) (id : ℕ) (given : Option (List ℕ)) → IsKept d → HasRoom d e
    → IfSome given (λ x. length x ≡ (desc_of d.config id).length) → CanNote d.history given
can_post d e id given is has whole = record {
  place = has.place;
  fits = given_fits d.config d.history.longest id given whole is.longest;
}

-- THE JOB IN HAND

-- it writes
pub record Writes (c : Configuration) (s : State) (i : Instance) (mark : Mark) : Type 0 where
  pub job : Job
  pub is : s.hand ≡ Some job
  pub wrote : IsWrote c s job i mark

writes_by : (c : Configuration) (s : State) (i : Instance) (mark : Mark) (o : Option Job) → s.hand ≡ o → MayWrite c s i mark o → Writes c s i mark
writes_by c s i mark None is may = absurd may
writes_by c s i mark (Some j) is may = record { job = j; is = is; wrote = may }

writes : (c : Configuration) (s : State) (i : Instance) (mark : Mark) → MayWrite c s i mark s.hand → Writes c s i mark
writes c s i mark may = writes_by c s i mark s.hand refl may

pub writing : (d : Inside) (i : Instance) (ops : ℕ) → MayAdd (shown d) (Wrote i (mark_now (after d.config d.history.entries)) ops)
    → Writes d.config (after d.config d.history.entries) i (mark_now (after d.config d.history.entries))
writing d i ops may = let s = after d.config d.history.entries in writes d.config s i (mark_now s) may.allowed.1

pub room_to_write : (d : Inside) (i : Instance) (ops : ℕ) → IsKept d → MayAdd (shown d) (Wrote i (mark_now (after d.config d.history.entries)) ops)
    → HasRoom d (Wrote i (mark_now (after d.config d.history.entries)) ops)
room_to_write d i ops is may = has_room d (Wrote i (mark_now (after d.config d.history.entries)) ops) is may.allowed refl

two_records : (k : BlockKind) → record_count k ≤ 2
two_records Native = omega arith
two_records Redundant = omega arith
two_records Dataset = omega arith

few_by : (k : BlockKind) (kind : JobKind) → records_by k kind ≤ 2
few_by k ReadJob = omega arith
few_by k RestoreJob = omega arith
few_by k kind = two_records k

pub few_records : (c : Configuration) (j : Job) → records_of c j ≤ 2
few_records c j = few_by _ _

-- its content has room
fits_by : (n m : ℕ) (o : Option (List ℕ × ℕ)) → m ≤ n → IfSome o (λ x. length x.0 ≡ m) → IfSome o (λ x. length x.0 ≤ n)
fits_by n m None less fits = tt
fits_by n m (Some x) less fits = omega (arith, less, fits)

first_by : (P : Job → Type 0) (o : Option Job) (waiting : List Job) (j : Job) → o ≡ Some j → Each P (option_to_list o ++ waiting) → P j
first_by P None waiting j is each = cc
first_by P (Some x) waiting j is each = let e : x ≡ j = cc in subst P e each.0

pub content_fits : (c : Configuration) (s : State) (n : ℕ) (j : Job) → IsSound c s → s.hand ≡ Some j
    → ((id : ℕ) → (desc_of c id).length ≤ n) → IfSome j.content (λ x. length x.0 ≤ n)
content_fits c s n j sound is most = fits_by n (desc_of c (job_block j)).length j.content (most (job_block j))
    (first_by (IsPendingJob c s) s.hand s.waiting j is sound.jobs).content

-- and so it has where it is written
noted_by : (n : ℕ) (o : Option (List ℕ × ℕ)) (x : List ℕ) → IfSome o (λ y. length y.0 ≤ n) → option_map (λ y. y.0) o ≡ Some x → length x ≤ n
noted_by n None x fits is = cc
noted_by n (Some y) x fits is = let e : y.0 ≡ x = cc in subst (λ (z : List ℕ). length z ≤ n) e fits

pub content_noted : (n : ℕ) (hand : Option Job) (content : Option (List ℕ)) → IfSome hand (λ h. IfSome h.content (λ x. length x.0 ≤ n))
    → IfSome content (λ x. option_map (λ y. y.0) (option_and_then (λ j. j.content) hand) ≡ Some x) → IfSome content (λ x. length x ≤ n)
content_noted n hand None fits is = tt
content_noted n None (Some x) fits is = cc
content_noted n (Some h) (Some x) fits is = noted_by n h.content x fits is

-- what holds of it holds of the one that is kept
pub in_hand : (P : Job → Type 0) (hand o : Option Job) (j : Job) → hand ≡ o → o ≡ Some j → P j → IfSome hand P
in_hand P None o j is on p = tt
in_hand P (Some x) o j is on p = let e : j ≡ x = cc in subst P e p

pub wrote_step : (c : Configuration) (k : Kept) (s : State) (i : Instance) (mark : Mark) (ops : ℕ) (j : Job) → s.hand ≡ Some j
    → Agrees c k (wrote s i mark (Some j)) → Agrees c k (changed_by c s (Wrote i mark ops))
wrote_step c k s i mark ops j is h = rw is h

pub post_step : (c : Configuration) (k : Kept) (s : State) (block : ℕ) (r : ReqResult) (given : Option (List ℕ)) (refused ops : ℕ) (j : Job)
    → s.hand ≡ Some j → Agrees c k (posted c s r given (Some j)) → Agrees c k (changed_by c s (Post block r given refused ops))
post_step c k s block r given refused ops j is h = rw is h

-- THE END OF A JOB

pub record Holds (s : State) : Type 0 where
  pub job : Job
  pub is : s.hand ≡ Some job

holds_by : (s : State) (o : Option Job) → s.hand ≡ o → IsSome o → Holds s
holds_by s None is some = cc
holds_by s (Some j) is some = record { job = j; is = is }

pub holds : (s : State) → IsSome s.hand → Holds s
holds s some = holds_by s s.hand refl some

pub in_room : (rooms : List ℕ) (n id : ℕ) (given : Option (List ℕ)) → IfSome given (λ x. length x ≡ n) → get_or rooms id 0 ≡ n
    → IfSome given (λ x. length x ≡ get_or rooms id 0)
in_room rooms n id None whole is = tt
in_room rooms n id (Some x) whole is = whole ∙ sym is

-- a content that RAM is given has the length of that
given_to_ram : (c : Configuration) (s : State) (rooms : List ℕ) (given : Option (List ℕ)) (j : Job)
    → rooms ≡ rooms_of c → s.hand ≡ Some j → IfSome given (λ x. length x ≡ (desc_of c (block_now s)).length)
    → (names_ram j.request && keeps_ram c (job_block j)) ≡ true → IfSome given (λ x. length x ≡ get_or rooms (job_block j) 0)
given_to_ram c s rooms given j is hand whole kept =
    let own = subst (λ (n : ℕ). IfSome given (λ x. length x ≡ (desc_of c n).length)) (ap (λ (o : Option Job). option_map_or job_block o 0) hand) whole in
    in_room rooms (desc_of c (job_block j)).length (job_block j) given own
    (rw is (rooms_have_lengths c (job_block j) (and_parts (names_ram j.request) (keeps_ram c (job_block j)) kept).1))

pub end_fits : (d : Inside) (given : Option (List ℕ)) → IsKept d → MayEnd (shown d) given
    → IfSome d.kept.jobs.hand (λ h. (names_ram h.request && keeps_ram d.config (job_block h)) ≡ true
    → IfSome given (λ x. length x ≡ get_or d.kept.blocks.rooms (job_block h) 0))
end_fits d given is may =
    let s = after d.config d.history.entries in
    let h = holds s may.hand in
    in_hand (λ h. (names_ram h.request && keeps_ram d.config (job_block h)) ≡ true
    → IfSome given (λ x. length x ≡ get_or d.kept.blocks.rooms (job_block h) 0)) d.kept.jobs.hand s.hand h.job is.agrees.jobs.hand h.is
    (given_to_ram d.config s d.kept.blocks.rooms given h.job is.agrees.rooms h.is may.whole)

-- an ended job leaves all entries that were reserved for it
same_entries : (c : Configuration) (id : ℕ) (r : ReqResult) (sw : Sweep) (b : Bool) → sw.under_way ≡ b
    → sweep_entries c (after_member id r sw) ≡ sweep_entries c sw
same_entries c id r sw true is = rw is refl
same_entries c id r sw false is = rw is refl

same_share : (c : Configuration) (id : ℕ) (r : ReqResult) (o : Option Sweep)
    → option_map_or (sweep_entries c) (option_map (after_member id r) o) 0 ≡ option_map_or (sweep_entries c) o 0
same_share c id r None = refl
same_share c id r (Some sw) = same_entries c id r sw sw.under_way refl

fewer_at : (c : Configuration) (s : State) (r : ReqResult) (given : Option (List ℕ)) (j : Job) → s.hand ≡ Some j → IsJobInHand c s j
    → reserved_entries c (posted c s r given (Some j)) < reserved_entries c (record s { hand = Some j })
fewer_at c s r given j is h =
    let sum = sum_by-cons (λ (j : Job). j.reserved) j s.waiting in
    let same = same_share c (job_block j) r s.sweep in
    omega (arith, sum, same, h.entries, h.written)

pub post_fewer : (c : Configuration) (s : State) (block refused ops : ℕ) (r : ReqResult) (given : Option (List ℕ)) (j : Job)
    → s.hand ≡ Some j → IsConsistent c s → reserved_entries c (changed_by c s (Post block r given refused ops)) < reserved_entries c s
post_fewer c s block refused ops r given j is h = rw is (fewer_at c s r given j is (subst (λ (o : Option Job). IfSome o (IsJobInHand c s)) is h.hand))

pub room_to_end : (d : Inside) (r : ReqResult) (given : Option (List ℕ)) (refused ops : ℕ) → IsKept d → MayEnd (shown d) given
    → HasRoom d (Post (block_now (after d.config d.history.entries)) r given refused ops)
room_to_end d r given refused ops is may =
    let s = after d.config d.history.entries in
    let h = holds s may.hand in
    room_for d (Post (block_now s) r given refused ops) is (post_fewer d.config s (block_now s) refused ops r given h.job h.is is.sound.consistent)

-- and its content goes back to its place
place_of : (o : Option Job) (n : ℕ) (waiting : List Job) (j : Job) → o ≡ Some j → IfSome o (IsHeld n waiting) → job_block j < n
place_of None n waiting j is held = cc
place_of (Some x) n waiting j is held = let e : x ≡ j = cc in subst (λ (y : Job). job_block y < n) e held.place

pub post_places : (d : Inside) (places : Ready) (block : ℕ) (r : ReqResult) (given : Option (List ℕ)) (refused ops at : ℕ) (content : Option (List ℕ)) (j : Job) → IsKept d
    → (after d.config d.history.entries).hand ≡ Some j → at ≡ block_now (after d.config d.history.entries)
    → content ≡ option_map (λ x. x.0) (option_and_then (λ h. h.content) d.kept.jobs.hand) → places ≡ put_back d.places at content
    → StandReady d (changed_by d.config (after d.config d.history.entries) (Post block r given refused ops)) places
post_places d places block r given refused ops at content j is hand on gives changed =
    let s = after d.config d.history.entries in
    let c = d.config in
    let here : at ≡ job_block j = on ∙ ap (λ (o : Option Job). option_map_or job_block o 0) hand in
    let own : content ≡ option_map (λ x. x.0) j.content =
    gives ∙ ap (λ (o : Option Job). option_map (λ x. x.0) (option_and_then (λ h. h.content) o)) (is.agrees.jobs.hand ∙ hand) in
    let all : places ≡ put_back d.places (job_block j) (option_map (λ x. x.0) j.content) =
    changed ∙ ap (λ (n : ℕ). put_back d.places n content) here ∙ ap (put_back d.places (job_block j)) own in
    let low : job_block j < length d.places = omega (arith, place_of s.hand d.kept.jobs.slots.places s.waiting j hand is.agrees.jobs.hand_apart, is.agrees.places, is.one_each) in
    let held : AreReady c (j ∷ s.waiting) d.places = subst (λ (o : Option Job). AreReady c (option_to_list o ++ s.waiting) d.places) hand is.ready in
    let sound : IsPendingJob c s j = first_by (IsPendingJob c s) s.hand s.waiting j hand is.sound.jobs in
    let jobs : jobs_of (changed_by c s (Post block r given refused ops)) ≡ s.waiting = ap (λ (o : Option Job). jobs_of (posted c s r given o)) hand in
    subst (StandReady d (changed_by c s (Post block r given refused ops))) (sym all)
    (record {
      count = back_length d.places (job_block j) (option_map (λ x. x.0) j.content);
      ready = subst (λ (js : List Job). AreReady c js (put_back d.places (job_block j) (option_map (λ x. x.0) j.content))) (sym jobs)
          (ended_ready c j s.waiting d.places j.content refl low sound.content held);
    })

-- the other jobs are on other blocks
pub others_of : (j : Job) (waiting : List Job) → StandsApart j waiting → Each (λ x. job_block x ≢ job_block j) waiting
others_of j waiting apart = each_more (λ x. IsOther x j) (λ x. job_block x ≢ job_block j) waiting (λ x h. h.block) apart

held_by : (n : ℕ) (waiting : List Job) (o : Option Job) (j : Job) → o ≡ Some j → IfSome o (IsHeld n waiting) → StandsApart j waiting
held_by n waiting None j is h = cc
held_by n waiting (Some x) j is h = let e : x ≡ j = cc in subst (λ k. StandsApart k waiting) e h.apart

pub held_apart : (c : Configuration) (p : Pending) (waiting : List Job) (held : Option Job) (j : Job) → Agree c p waiting held
    → held ≡ Some j → StandsApart j waiting
held_apart c p waiting held j h is = held_by p.slots.places waiting held j is h.hand_apart
