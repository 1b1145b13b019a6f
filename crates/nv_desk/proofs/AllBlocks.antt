-- A request on all blocks is picked.
use Rattle.std.proofs.Common.{◌≡◌, ℕ, ◌+◌, Bool, true, false, List, [], ◌∷◌, refl, sym, subst, Option, Some, None, if◌then◌else◌, ap, ◌∙◌}
use Rattle.nv_recorder.specs.Recorder.{Recorded}
use Rattle.block_machine.specs.Words.{Configuration, JobKind, ReqResult, Pick, TookNothing, Post}
use Rattle.block_machine.specs.State.{State, Job, Sweep, jobs_of}
use Rattle.block_machine.specs.Blocks.{desc_of, block_at}
use Rattle.block_machine.specs.Sweeps.{is_picked, sweep_result}
use Rattle.block_machine.specs.Next.{Next, BeginSweep, PickMember, PostMember, EndSweep, next_in, next_by, next_of, next_member, next_in_sweep}
use Rattle.block_machine.specs.Steps.{after, changed_by, step, picked, posted, posted_next, with_status}
use Rattle.block_machine.specs.Legal.{IsAllowed, IsDriving, MayPost, MayPostNext}
use Rattle.block_laws.specs.Consistent.{IsConsistent}
use Rattle.block_laws.proofs.NextLaws.{none_waits}
use Rattle.std.proofs.lemmas.List.{length-set}
use Rattle.nv_desk_state.specs.declared.sweep.PendingSweep.{PendingSweep}
use Rattle.nv_desk_state.specs.declared.kept.Kept.{Kept}
use Rattle.nv_desk.specs.declared.desk.Desk.TheInside.{Inside}
use Rattle.nv_desk.specs.AllBlocks.{MayBegin, MayFinish, sweep_kind}
use Rattle.nv_desk.specs.Desk.{IsKept, shown}
use Rattle.nv_desk.specs.Rooms.{with_entry}
use Rattle.nv_desk_state.specs.Kept.{Agrees}
use Rattle.nv_desk_state.specs.Pending.{AreSweeps}
use Rattle.nv_desk.specs.Sound.{IsSound}
use Rattle.nv_desk.proofs.Drivers.{HasRoom, has_room, allowed_kept}
use Rattle.nv_desk.proofs.Entries.{stay_ready}
use Rattle.nv_desk.proofs.Sound.{sound_same}

-- no job is pending, and the request wasn't picked yet
pub record Begins (s : State) (sw : Sweep) : Type 0 where
  pub waiting : s.waiting ≡ []
  pub hand : s.hand ≡ None
  pub sweep : s.sweep ≡ Some sw
  pub before : sw.under_way ≡ false

chosen_not : (x sw : Sweep) (id : ℕ) (t : Bool) (x' sw' : Sweep) → (if t then PickMember x id else PostMember x id) ≡ BeginSweep sw → (x' ≡ sw') × (x'.under_way ≡ false)
chosen_not x sw id true x' sw' e = cc
chosen_not x sw id false x' sw' e = cc

member_not : (c : Configuration) (s : State) (x sw : Sweep) (ids : List ℕ) (x' sw' : Sweep) → next_member c s x ids ≡ BeginSweep sw → (x' ≡ sw') × (x'.under_way ≡ false)
member_not c s x sw [] x' sw' e = cc
member_not c s x sw (id ∷ ids) x' sw' e = chosen_not x sw id (is_picked (desc_of c id) (block_at s id) x id) x' sw' e

sweep_by : (c : Configuration) (s : State) (x sw : Sweep) (t : Bool) → x.under_way ≡ t → (if t then next_member c s x (if x.canceled then [] else x.left) else BeginSweep x) ≡ BeginSweep sw → (x ≡ sw) × (x.under_way ≡ false)
sweep_by c s x sw true is e = member_not c s x sw (if x.canceled then [] else x.left) x sw e
sweep_by c s x sw false is e = (cc, is)

begins_by : (c : Configuration) (s : State) (sw : Sweep) (o h : Option Job) (w : Option Sweep) → next_by c s o h w ≡ BeginSweep sw → (o ≡ None) × (h ≡ None) × (w ≡ Some sw) × (sw.under_way ≡ false)
begins_by c s sw (Some j) h w e = cc
begins_by c s sw None (Some j) w e = cc
begins_by c s sw None None None e = cc
begins_by c s sw None None (Some x) e =
    let (is, off) = sweep_by c s x sw x.under_way refl e in
    (refl, refl, rw is refl, subst (λ (y : Sweep). y.under_way ≡ false) is off)

pub begins : (c : Configuration) (s : State) (sw : Sweep) → next_of c s ≡ BeginSweep sw → Begins s sw
begins c s sw is =
    let b = begins_by c s sw (next_in c s.waiting) s.hand s.sweep is in
    record { waiting = none_waits c s.waiting b.0; hand = b.1; sweep = b.2; before = b.3 }

may_begin : (c : Configuration) (cap : ℕ) (s : State) (sw : Sweep) (ops : ℕ) → next_of c s ≡ BeginSweep sw → IsDriving s ops → IsAllowed c cap s (Pick 0 (sweep_kind sw.writes) TookNothing ops)
may_begin c cap s sw ops is driving = (driving, rw is (record { all_blocks = refl; same_kind = refl; takes_nothing = refl }))

begun_step : (c : Configuration) (k : Kept) (s : State) (sw : Sweep) (ops : ℕ) → next_of c s ≡ BeginSweep sw → Agrees c k (record s { sweep = Some (record sw { under_way = true }) }) → Agrees c k (changed_by c s (Pick 0 (sweep_kind sw.writes) TookNothing ops))
begun_step c k s sw ops is h = rw is h

begun_sound : (c : Configuration) (s : State) (sw : Sweep) (ops : ℕ) → IsSound c s → next_of c s ≡ BeginSweep sw
    → IsConsistent c (step c s (Pick 0 (sweep_kind sw.writes) TookNothing ops)) → IsSound c (step c s (Pick 0 (sweep_kind sw.writes) TookNothing ops))
begun_sound c s sw ops sound is consistent =
    rw is (sound_same c s (record s { sweep = Some (record sw { under_way = true }); count = s.count + 1; ops = ops }) sound (rw is at consistent) refl refl refl)

pub kept_sweep : (c : Configuration) (p : Option PendingSweep) (s : State) (sw : Sweep) → s.sweep ≡ Some sw → AreSweeps c p s.sweep → AreSweeps c p (Some sw)
kept_sweep c p s sw is h = subst (AreSweeps c p) is h

pub room_to_begin : (d : Inside) (ops : ℕ) → IsKept d → (may : MayBegin (shown d) ops) → HasRoom d (Pick 0 (sweep_kind may.sweep.writes) TookNothing ops)
room_to_begin d ops is may = has_room d (Pick 0 (sweep_kind may.sweep.writes) TookNothing ops) is
    (may_begin d.config d.history.cap (after d.config d.history.entries) may.sweep ops may.is may.driving) refl

-- what is kept stands behind it
pub begun_kept : (d : Inside) (h : Recorded) (k : Kept) (kind : JobKind) (ops : ℕ) → IsKept d → (may : MayBegin (shown d) ops)
    → (AreSweeps d.config d.kept.sweep (Some may.sweep) → kind ≡ sweep_kind may.sweep.writes)
    → h ≡ with_entry d.history (Pick 0 kind TookNothing ops)
    → (Begins (after d.config d.history.entries) may.sweep
    → Agrees d.config k (record (after d.config d.history.entries) { sweep = Some (record may.sweep { under_way = true }) }))
    → IsKept (record d { history = h; kept = k })
begun_kept d h k kind ops is may kind_is added agrees =
    let s = after d.config d.history.entries in
    let b = begins d.config s may.sweep may.is in
    let same = kind_is (kept_sweep d.config d.kept.sweep s may.sweep b.sweep is.agrees.sweep) in
    allowed_kept d h k d.places (Pick 0 (sweep_kind may.sweep.writes) TookNothing ops) is
    (may_begin d.config d.history.cap s may.sweep ops may.is may.driving) refl
    (begun_sound d.config s may.sweep ops is.sound may.is) (rw same at added)
    (begun_step d.config k s may.sweep ops may.is (agrees b))
    (stay_ready d _ is (ap (λ n. jobs_of (picked d.config s TookNothing n)) may.is))

-- THE END OF A SWEEP

-- no job is pending, and it is under way
pub record Ends (c : Configuration) (s : State) (sw : Sweep) : Type 0 where
  pub waiting : s.waiting ≡ []
  pub hand : s.hand ≡ None
  pub sweep : s.sweep ≡ Some sw
  pub under_way : sw.under_way ≡ true
  pub next : next_in_sweep c s sw ≡ EndSweep sw

end_not : (x sw : Sweep) (id : ℕ) (t : Bool) → (if t then PickMember x id else PostMember x id) ≡ EndSweep sw → x ≡ sw
end_not x sw id true e = cc
end_not x sw id false e = cc

may_by : (c : Configuration) (s : State) (sw : Sweep) (n : Next) → n ≡ EndSweep sw → MayPostNext c s 0 (sweep_result sw, None) 0 n
may_by c s sw n is = rw is (record { all_blocks = refl; results = refl; no_copy = refl })

finished_by : (c : Configuration) (k : Kept) (s : State) (sw : Sweep) (n : Next) → n ≡ EndSweep sw → Agrees c k (posted_next c s (sweep_result sw) None (EndSweep sw)) → Agrees c k (posted_next c s (sweep_result sw) None n)
finished_by c k s sw n is h = rw is h

end_sound : (c : Configuration) (s : State) (sw : Sweep) (ops : ℕ) (o : Option Job) → o ≡ None → s.waiting ≡ [] → (n : Next) → n ≡ EndSweep sw → IsSound c s
    → IsConsistent c (record (posted c s (sweep_result sw) None s.hand) { count = s.count + 1; ops = ops }) → s.hand ≡ o → next_of c s ≡ n → IsSound c (record (posted c s (sweep_result sw) None s.hand) { count = s.count + 1; ops = ops })
end_sound c s sw ops o none waiting n end sound consistent hand next =
    let free : s.hand ≡ None = hand ∙ none in
    let to_end : next_of c s ≡ EndSweep sw = next ∙ end in
    let changed : posted c s (sweep_result sw) None s.hand ≡ record (with_status 0 (sweep_result sw) s) { sweep = None } = ap (posted c s (sweep_result sw) None) free ∙ ap (posted_next c s (sweep_result sw) None) to_end in
    record {
      consistent = consistent;
      places = rw changed (λ on. length-set s.blocks 0 (record (block_at s 0) { status = sweep_result sw }) ∙ sound.places on);
      jobs = rw (changed, free, waiting) tt;
    }

same_end : (c : Configuration) (s : State) (x sw : Sweep) (ids : List ℕ) → next_member c s x ids ≡ EndSweep sw → x ≡ sw
same_end c s x sw [] e = cc
same_end c s x sw (id ∷ ids) e = end_not x sw id (is_picked (desc_of c id) (block_at s id) x id) e

ends_on : (c : Configuration) (s : State) (x sw : Sweep) (t : Bool) → x.under_way ≡ t → (if t then next_member c s x (if x.canceled then [] else x.left) else BeginSweep x) ≡ EndSweep sw → (x ≡ sw) × (x.under_way ≡ true)
ends_on c s x sw true is e = (same_end c s x sw (if x.canceled then [] else x.left) e, is)
ends_on c s x sw false is e = cc

ends_by : (c : Configuration) (s : State) (sw : Sweep) (o h : Option Job) (w : Option Sweep) → next_by c s o h w ≡ EndSweep sw → (o ≡ None) × (h ≡ None) × (w ≡ Some sw) × (sw.under_way ≡ true) × (next_in_sweep c s sw ≡ EndSweep sw)
ends_by c s sw (Some j) h w e = cc
ends_by c s sw None (Some j) w e = cc
ends_by c s sw None None None e = cc
ends_by c s sw None None (Some x) e =
    let (is, on) = ends_on c s x sw x.under_way refl e in
    (refl, refl, rw is refl, subst (λ (y : Sweep). y.under_way ≡ true) is on, subst (λ (y : Sweep). next_in_sweep c s y ≡ EndSweep sw) is e)

pub ends : (c : Configuration) (s : State) (sw : Sweep) → next_of c s ≡ EndSweep sw → Ends c s sw
ends c s sw is =
    let b = ends_by c s sw (next_in c s.waiting) s.hand s.sweep is in
    record { waiting = none_waits c s.waiting b.0; hand = b.1; sweep = b.2; under_way = b.3; next = b.4 }

may_finish : (c : Configuration) (cap : ℕ) (s : State) (sw : Sweep) (ops : ℕ) → s.hand ≡ None → next_of c s ≡ EndSweep sw → IsDriving s ops → IsAllowed c cap s (Post 0 (sweep_result sw) None 0 ops)
may_finish c cap s sw ops hand is driving = (driving, subst (λ (o : Option Job). MayPost c s 0 (sweep_result sw, None) 0 o) (sym hand) (may_by c s sw (next_of c s) is))

finished_step : (c : Configuration) (k : Kept) (s : State) (sw : Sweep) (ops : ℕ) → s.hand ≡ None → next_of c s ≡ EndSweep sw → Agrees c k (posted_next c s (sweep_result sw) None (EndSweep sw)) → Agrees c k (changed_by c s (Post 0 (sweep_result sw) None 0 ops))
finished_step c k s sw ops hand is h = subst (λ (o : Option Job). Agrees c k (posted c s (sweep_result sw) None o)) (sym hand) (finished_by c k s sw (next_of c s) is h)

finished_sound : (c : Configuration) (s : State) (sw : Sweep) (ops : ℕ) → IsSound c s → Ends c s sw → next_of c s ≡ EndSweep sw
    → IsConsistent c (step c s (Post 0 (sweep_result sw) None 0 ops)) → IsSound c (step c s (Post 0 (sweep_result sw) None 0 ops))
finished_sound c s sw ops sound x is consistent = end_sound c s sw ops s.hand x.hand x.waiting (next_of c s) is sound consistent refl refl

-- one sweep ends
pub same_sweep : (x y : Sweep) (n : Next) → n ≡ EndSweep x → n ≡ EndSweep y → x ≡ y
same_sweep x y n a b = cc

pub room_to_finish : (d : Inside) (answer : ReqResult) (ops : ℕ) → IsKept d → (may : MayFinish (shown d) answer ops) → HasRoom d (Post 0 (sweep_result may.sweep) None 0 ops)
room_to_finish d answer ops is may =
    let s = after d.config d.history.entries in
    has_room d (Post 0 (sweep_result may.sweep) None 0 ops) is
    (may_finish d.config d.history.cap s may.sweep ops (ends d.config s may.sweep may.is).hand may.is may.driving) refl

-- what is kept stands behind it
pub ended_kept : (d : Inside) (h : Recorded) (k : Kept) (answer : ReqResult) (ops : ℕ) → IsKept d → (may : MayFinish (shown d) answer ops)
    → h ≡ with_entry d.history (Post 0 (sweep_result may.sweep) None 0 ops)
    → (Ends d.config (after d.config d.history.entries) may.sweep
    → Agrees d.config k (posted_next d.config (after d.config d.history.entries) (sweep_result may.sweep) None (EndSweep may.sweep)))
    → IsKept (record d { history = h; kept = k })
ended_kept d h k answer ops is may added agrees =
    let s = after d.config d.history.entries in
    let x = ends d.config s may.sweep may.is in
    allowed_kept d h k d.places (Post 0 (sweep_result may.sweep) None 0 ops) is
    (may_finish d.config d.history.cap s may.sweep ops x.hand may.is may.driving) refl
    (finished_sound d.config s may.sweep ops is.sound x may.is) added
    (finished_step d.config k s may.sweep ops x.hand may.is (agrees x))
    (stay_ready d _ is (ap (λ o. jobs_of (posted d.config s (sweep_result may.sweep) None o)) x.hand ∙ ap (λ n. jobs_of (posted_next d.config s (sweep_result may.sweep) None n)) may.is))
