-- A member of a request on all blocks is picked, or posted without a Pick.
use Rattle.std.proofs.Common.{◌≡◌, ◌≤◌, ◌<◌, ℕ, ◌+◌, Bool, true, false, List, [], ◌∷◌, ◌++◌, option_to_list, length, get_or, refl, sym, subst, Option, Some, None, IfSome, IsSomeAnd, IsTrue, if◌then◌else◌, ap, ◌∙◌, arith}
use Rattle.std.proofs.lemmas.List.{length-set}
use Rattle.block_machine.specs.block_config.Rules.{IsLegalConfig}
use Rattle.block_machine.specs.Words.{Configuration, ReqResult, Pick, Post, JobKind, Pending}
use Rattle.block_machine.specs.State.{State, Job, Sweep, jobs_of}
use Rattle.block_machine.specs.Blocks.{desc_of, block_at, is_pending, keeps_ram, status_of}
use Rattle.block_machine.specs.Sweeps.{is_picked, member_job, member_kind}
use Rattle.block_machine.specs.Next.{Next, BeginSweep, PickMember, PostMember, next_in, next_by, next_of, next_member}
use Rattle.block_machine.specs.Steps.{after, changed_by, step, picked, picked_job, posted, posted_next, content_after, in_hand, with_member, ended}
use Rattle.block_laws.specs.Consistent.{IsConsistent}
use Rattle.block_laws.proofs.NextLaws.{none_waits}
use Rattle.block_states.specs.States.{rooms_of}
use Rattle.block_states.proofs.Started.{rooms_have_lengths}
use Rattle.job_pending.specs.declared.take.Take.{Take}
use Rattle.job_pending.specs.declared.take.Take.TheVariants as take
use Rattle.job_pending.specs.Take.{Took, taken_with}
use Rattle.nv_desk_state.specs.declared.kept.Kept.{Kept}
use Rattle.nv_desk_state.specs.Kept.{Agrees}
use Rattle.nv_desk_state.specs.Pending.{IsAtMember}
use Rattle.nv_desk.specs.declared.desk.Desk.TheInside.{Inside}
use Rattle.nv_desk.specs.Sound.{HasRam, IsSound}
use Rattle.nv_desk.specs.Desk.{IsKept, shown}
use Rattle.nv_desk.specs.Picks.{CanTake, copied_of, took_of}
use Rattle.nv_desk.specs.Places.{Ready, AreReady, IsReady, taken_from}
use Rattle.nv_desk_state.proofs.Members.{member_known}
use Rattle.nv_desk.specs.Members.{MayPickMember}
use Rattle.nv_desk.proofs.Drivers.{HasRoom, has_room, in_room}
use Rattle.nv_desk.proofs.Contents.{FillsRooms, block_is, copied_fits, member_ram_is, member_takes, ram_is_whole, writes_is}
use Rattle.nv_desk.proofs.Sound.{now}
use Rattle.nv_desk.proofs.Entries.{StandReady}
use Rattle.nv_desk.proofs.Ready.{member_ready, taken_length}

-- WHICH MEMBER

chosen : (x sw : Sweep) (k id : ℕ) (b t : Bool) → (if b then PickMember x k else PostMember x k) ≡ (if t then PickMember sw id else PostMember sw id)
    → (x ≡ sw) × (k ≡ id)
chosen x sw k id true true e = (cc, cc)
chosen x sw k id false false e = (cc, cc)
chosen x sw k id true false e = cc
chosen x sw k id false true e = cc

listed : (c : Configuration) (s : State) (x sw : Sweep) (ids : List ℕ) (id : ℕ) (t : Bool)
    → next_member c s x ids ≡ (if t then PickMember sw id else PostMember sw id) → (x ≡ sw) × (rest : List ℕ) × (ids ≡ id ∷ rest)
listed c s x sw [] id true e = cc
listed c s x sw [] id false e = cc
listed c s x sw (k ∷ ids) id t e =
    let h = chosen x sw k id (is_picked (desc_of c k) (block_at s k) x k) t e in
    (h.0, ids, ap (λ (n : ℕ). n ∷ ids) h.1)

-- what a sweep has that is at a member
abbrev IsOpen : Sweep → ℕ → Type 0
IsOpen sw id = (sw.under_way ≡ true) × (sw.canceled ≡ false) × (rest : List ℕ) × (sw.left ≡ id ∷ rest)

open_by : (c : Configuration) (s : State) (x sw : Sweep) (id : ℕ) (t on over : Bool) → x.under_way ≡ on → x.canceled ≡ over
    → (if on then next_member c s x (if over then [] else x.left) else BeginSweep x) ≡ (if t then PickMember sw id else PostMember sw id)
    → (x ≡ sw) × IsOpen x id
open_by c s x sw id true false over is off e = cc
open_by c s x sw id false false over is off e = cc
open_by c s x sw id t true true is off e = let (same, rest, none) = listed c s x sw [] id t e in cc
open_by c s x sw id t true false is off e = let (same, rest, left) = listed c s x sw x.left id t e in (same, (is, off, rest, left))

member_by : (c : Configuration) (s : State) (sw : Sweep) (id : ℕ) (t : Bool) (o h : Option Job) (w : Option Sweep)
    → next_by c s o h w ≡ (if t then PickMember sw id else PostMember sw id) → (o ≡ None) × (h ≡ None) × (w ≡ Some sw) × IsOpen sw id
member_by c s sw id true (Some j) h w e = cc
member_by c s sw id false (Some j) h w e = cc
member_by c s sw id true None (Some j) w e = cc
member_by c s sw id false None (Some j) w e = cc
member_by c s sw id true None None None e = cc
member_by c s sw id false None None None e = cc
member_by c s sw id t None None (Some x) e =
    let (same, holds) = open_by c s x sw id t x.under_way x.canceled refl refl e in
    (refl, refl, ap Some same, subst (λ (y : Sweep). IsOpen y id) same holds)

at_member : (c : Configuration) (s : State) (sw : Sweep) (id : ℕ) (t : Bool)
    → next_of c s ≡ (if t then PickMember sw id else PostMember sw id) → IsAtMember s sw id
at_member c s sw id t is =
    let (none, hand, sweep, at) = member_by c s sw id t (next_in c s.waiting) s.hand s.sweep is in
    let (on, going, rest, left) = at in
    record { waiting = none_waits c s.waiting none; hand = hand; sweep = sweep; under_way = on; goes_on = going; rest = rest; left = left }

pub at_picked : (c : Configuration) (s : State) (sw : Sweep) (id : ℕ) → next_of c s ≡ PickMember sw id → IsAtMember s sw id
at_picked c s sw id is = at_member c s sw id true is

pub at_posted : (c : Configuration) (s : State) (sw : Sweep) (id : ℕ) → next_of c s ≡ PostMember sw id → IsAtMember s sw id
at_posted c s sw id is = at_member c s sw id false is

-- A PICK

-- what it finds: room for its entry and for copies, RAM to write from, and a content of its block's length
pub record MemberPick (d : Inside) (took : Took) (ops : ℕ) (sw : Sweep) (id : ℕ) : Type 0 where
  pub room : HasRoom d (Pick id (member_kind sw.writes) (taken_with None took) ops)
  pub member : IsAtMember (after d.config d.history.entries) sw id
  pub ram : sw.writes ≡ true → HasRam d.config id
  pub whole : IfSome (content_after None (taken_with None took)) (λ x. length x.0 ≡ (desc_of d.config id).length)
  pub takes : CanTake d.history.longest None took
  pub place : IsReady d.config d.places id

pub member_pick : (d : Inside) (id : ℕ) (took : Took) (ops : ℕ) → IsKept d → IsLegalConfig d.config → FillsRooms d.kept
    → (may : MayPickMember (shown d) id took ops) → MemberPick d took ops may.sweep id
member_pick d id took ops is legal fills may =
    let s = after d.config d.history.entries in
    let kind = member_kind may.sweep.writes in
    let x = at_picked d.config s may.sweep id may.is in
    let has = has_room d (Pick id kind (taken_with None took) ops) is may.allowed refl in
    let ram = ram_is_whole d.config d.kept s is.agrees is.sound may.allowed.0.started fills in
    let some = member_ram_is d.config d.kept s may.sweep id legal is.agrees x in
    let whole = member_takes d.config d.history.cap s may.sweep id kind (taken_with None took) ops ram may.is some may.allowed in
    record {
      room = has;
      member = x;
      ram = some;
      whole = whole;
      takes = record { own = tt; copied = copied_fits (desc_of d.config id).length d.history.longest None took (is.longest id) whole };
      place = is.ready id (let known = member_known d.config d.kept s may.sweep id (omega (arith, legal.blocks_low)) is.agrees x in omega (arith, known, is.agrees.places)) (rw (x.hand, x.waiting) tt);
    }

held_sound : (c : Configuration) (s : State) (sw : Sweep) (id : ℕ) (t : Took) (count ops : ℕ)
    → let new : State = record (in_hand c (with_member s sw id) (member_job c sw id) (taken_with None t)) { count = count; ops = ops } in
    IsSound c s → IsConsistent c new → s.waiting ≡ [] → s.hand ≡ None → id < length s.blocks
    → (sw.writes ≡ true → HasRam c id) → IfSome (content_after None (taken_with None t)) (λ x. length x.0 ≡ (desc_of c id).length) → IsSound c new
held_sound c s sw id t count ops sound consistent waiting hand below ram whole =
    let new : State = record (in_hand c (with_member s sw id) (member_job c sw id) (taken_with None t)) { count = count; ops = ops } in
    let block = block_is sw.writes id in
    record {
      consistent = consistent;
      places = λ on. length-set s.blocks id (record (block_at s id) { status = Pending }) ∙ sound.places on;
      jobs = rw (waiting, hand) (
        record {
          pending = subst (λ (n : ℕ). is_pending (status_of new n) ≡ true) (sym block) (now s.blocks id below);
          content = rw block whole;
          ram = λ writes none. subst (HasRam c) (sym block) (ram (writes_is c sw id sw.writes refl writes));
        },
        tt,
      );
    }

pub member_sound : (c : Configuration) (s : State) (sw : Sweep) (id : ℕ) (kind : JobKind) (t : Took) (ops : ℕ)
    → IsSound c s → IsAtMember s sw id → next_of c s ≡ PickMember sw id → id ≤ length c.blocks → IsTrue s.started → (sw.writes ≡ true → HasRam c id)
    → IfSome (content_after None (taken_with None t)) (λ x. length x.0 ≡ (desc_of c id).length)
    → IsConsistent c (step c s (Pick id kind (taken_with None t) ops)) → IsSound c (step c s (Pick id kind (taken_with None t) ops))
member_sound c s sw id kind t ops sound x is known on ram whole consistent =
    rw is (held_sound c s sw id t (s.count + 1) ops sound (rw is at consistent) x.waiting x.hand (omega (arith, known, sound.places on)) ram whole)

pub member_step : (c : Configuration) (k : Kept) (s : State) (sw : Sweep) (id : ℕ) (kind : JobKind) (t : Took) (ops : ℕ) → next_of c s ≡ PickMember sw id
    → Agrees c k (in_hand c (with_member s sw id) (member_job c sw id) (taken_with None t)) → Agrees c k (changed_by c s (Pick id kind (taken_with None t) ops))
member_step c k s sw id kind t ops is h = rw is h

fits_by : (n id : ℕ) (places : Ready) (t : Take) (lent : List ℕ) → IsSomeAnd (get_or places id None) (λ bytes. length bytes ≡ n)
    → IfSome (content_after None (taken_with None (took_of t lent))) (λ x. length x.0 ≡ n)
    → IfSome (copied_of t lent) (λ x. IsSomeAnd (get_or places id None) (λ bytes. length bytes ≡ length x))
fits_by n id places (take.Copied store) lent is whole = subst (λ (m : ℕ). IsSomeAnd (get_or places id None) (λ bytes. length bytes ≡ m)) (sym whole) is
fits_by n id places take.Nothing lent is whole = tt
fits_by n id places take.Own lent is whole = tt
fits_by n id places (take.Refused count) lent is whole = tt
fits_by n id places (take.Stale asked got count) lent is whole = tt

pub member_fits : (d : Inside) (id : ℕ) (t : Take) (lent : List ℕ) → IsReady d.config d.places id
    → IfSome (content_after None (taken_with None (took_of t lent))) (λ x. length x.0 ≡ (desc_of d.config id).length)
    → IfSome (copied_of t lent) (λ x. IsSomeAnd (get_or d.places id None) (λ bytes. length bytes ≡ length x))
member_fits d id t lent is whole = fits_by (desc_of d.config id).length id d.places t lent is whole

-- the places behind it
pub member_places : (d : Inside) (places : Ready) (kind : JobKind) (t : Take) (lent : List ℕ) (ops : ℕ) (sw : Sweep) (id : ℕ) → IsKept d
    → IsAtMember (after d.config d.history.entries) sw id → next_of d.config (after d.config d.history.entries) ≡ PickMember sw id
    → places ≡ taken_from d.places id (copied_of t lent)
    → StandReady d (changed_by d.config (after d.config d.history.entries) (Pick id kind (taken_with None (took_of t lent)) ops)) places
member_places d places kind t lent ops sw id is x next changed =
    let s = after d.config d.history.entries in
    let c = d.config in
    let none : AreReady c [] d.places = subst (λ (js : List Job). AreReady c js d.places) (ap (λ (o : Option Job). option_to_list o ++ s.waiting) x.hand ∙ x.waiting) is.ready in
    let job = member_job c sw id in
    let jobs : jobs_of (changed_by c s (Pick id kind (taken_with None (took_of t lent)) ops)) ≡ picked_job (taken_with None (took_of t lent)) 0 job ∷ [] =
    ap (λ (n : Next). jobs_of (picked c s (taken_with None (took_of t lent)) n)) next ∙ rw (x.hand, x.waiting) refl in
    subst (StandReady d (changed_by c s (Pick id kind (taken_with None (took_of t lent)) ops))) (sym changed)
    (record {
      count = taken_length d.places id (copied_of t lent);
      ready = subst (λ (js : List Job). AreReady c js (taken_from d.places id (copied_of t lent))) (sym jobs)
          (subst (λ (n : ℕ). AreReady c (picked_job (taken_with None (took_of t lent)) 0 job ∷ []) (taken_from d.places n (copied_of t lent))) (block_is sw.writes id)
          (member_ready c job t lent 0 d.places none));
    })

-- A POST

pub posted_jobs : (c : Configuration) (s : State) (sw : Sweep) (id : ℕ) (r : ReqResult) (given : Option (List ℕ)) (refused ops : ℕ) → s.hand ≡ None
    → next_of c s ≡ PostMember sw id → jobs_of (changed_by c s (Post id r given refused ops)) ≡ jobs_of s
posted_jobs c s sw id r given refused ops hand is =
    ap (λ (o : Option Job). jobs_of (posted c s r given o)) hand ∙ ap (λ (n : Next). jobs_of (posted_next c s r given n)) is

posted_by : (c : Configuration) (k : Kept) (s : State) (r : ReqResult) (given : Option (List ℕ)) (n m : Next) → n ≡ m
    → Agrees c k (posted_next c s r given m) → Agrees c k (posted_next c s r given n)
posted_by c k s r given n m is h = rw is h

pub posted_step : (c : Configuration) (k : Kept) (s : State) (sw : Sweep) (id : ℕ) (r : ReqResult) (given : Option (List ℕ)) (refused ops : ℕ)
    → s.hand ≡ None → next_of c s ≡ PostMember sw id → Agrees c k (posted_next c s r given (PostMember sw id))
    → Agrees c k (changed_by c s (Post id r given refused ops))
posted_step c k s sw id r given refused ops hand is h = subst (λ (o : Option Job). Agrees c k (posted c s r given o)) (sym hand)
    (posted_by c k s r given (next_of c s) (PostMember sw id) is h)

ended_sound : (c : Configuration) (s : State) (sw : Sweep) (id : ℕ) (r : ReqResult) (given : Option (List ℕ)) (ops : ℕ) → IsSound c s
    → IsAtMember s sw id → next_of c s ≡ PostMember sw id → IsConsistent c (record (posted c s r given s.hand) { count = s.count + 1; ops = ops })
    → IsSound c (record (posted c s r given s.hand) { count = s.count + 1; ops = ops })
ended_sound c s sw id r given ops sound x is consistent =
    let b = ended (desc_of c id) (keeps_ram c id) (member_kind sw.writes) true r given (block_at s id) in
    let changed : posted c s r given s.hand ≡ posted_next c s r given (PostMember sw id) = ap (posted c s r given) x.hand
    ∙ ap (posted_next c s r given) is in
    record {
      consistent = consistent;
      places = rw changed (λ on. length-set s.blocks id b ∙ sound.places on);
      jobs = rw (changed, x.hand, x.waiting) tt;
    }

pub posted_sound : (c : Configuration) (s : State) (sw : Sweep) (id : ℕ) (r : ReqResult) (given : Option (List ℕ)) (refused ops : ℕ)
    → IsSound c s → IsAtMember s sw id → next_of c s ≡ PostMember sw id → IsConsistent c (step c s (Post id r given refused ops))
    → IsSound c (step c s (Post id r given refused ops))
posted_sound c s sw id r given refused ops sound x is consistent = ended_sound c s sw id r given ops sound x is consistent

-- a content that RAM is given has the length of that
pub member_given : (c : Configuration) (rooms : List ℕ) (id : ℕ) (given : Option (List ℕ)) → rooms ≡ rooms_of c
    → IfSome given (λ x. length x ≡ (desc_of c id).length) → keeps_ram c id ≡ true → IfSome given (λ x. length x ≡ get_or rooms id 0)
member_given c rooms id given is whole kept = in_room rooms (desc_of c id).length id given whole (rw is (rooms_have_lengths c id kept))
