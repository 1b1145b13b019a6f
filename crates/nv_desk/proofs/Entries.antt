-- One entry more.
use Rattle.std.proofs.Common.{◌≡◌, ◌≤◌, ℕ, ◌+◌, true, refl, subst, [], ◌∷◌, ◌++◌, length, length-append, is_some, option_map, ap, ◌∙◌, arith, sym}
use Rattle.nv_recorder.specs.Recorder.{Recorded}
use Rattle.block_machine.specs.Words.{Configuration, Entry, Request, Ask, Accepted}
use Rattle.block_machine.specs.State.{State, jobs_of}
use Rattle.block_machine.specs.Blocks.{asked_block, asked_content, job_kind}
use Rattle.block_machine.specs.Reply.{reserved_entries, fits}
use Rattle.block_machine.specs.Steps.{after, step, changed_by}
use Rattle.block_machine.specs.Legal.{IsAllowed}
use Rattle.block_laws.specs.Consistent.{IsConsistent}
use Rattle.block_laws.proofs.ConsistentSteps.{allowed_steps_stay_consistent}
use Rattle.block_laws.proofs.HistoryLaws.{histories_step, entries_are_counted}
use Rattle.block_laws.proofs.NextLaws.{fitting_has_room}
use Rattle.nv_desk.specs.declared.desk.Desk.TheInside.{Inside}
use Rattle.nv_desk_state.specs.declared.kept.Kept.{Kept}
use Rattle.nv_desk.specs.Rooms.{with_entry}
use Rattle.nv_desk.specs.Places.{Ready, AreReady, taken_from}
use Rattle.nv_desk_state.specs.Kept.{Agrees}
use Rattle.nv_desk.specs.Sound.{IsSound}
use Rattle.nv_desk.specs.Desk.{IsKept}
use Rattle.nv_desk.proofs.Ready.{accepted_ready, taken_length}

-- counts are never kept
stepped : (c : Configuration) (k : Kept) (s : State) (e : Entry) → Agrees c k (changed_by c s e) → Agrees c k (step c s e)
stepped c k s e h = record {
  started = h.started;
  off = h.off;
  blocks = h.blocks;
  jobs = h.jobs;
  sweep = h.sweep;
  member = h.member;
  alone = h.alone;
  rooms = h.rooms;
  places = h.places;
}

-- memory was taken for a history, and an entry added
pub record IsPushed (old new : Recorded) (e : Entry) (most : ℕ) : Type 0 where
  pub entries : new.entries ≡ old.entries ++ e ∷ []
  pub cap : new.cap ≡ old.cap
  pub memory : most ≤ new.reserved
  pub longest : new.longest ≡ old.longest

pub pushed : (old mid new : Recorded) (e : Entry) (left : ℕ) → record mid { reserved = old.reserved } ≡ old → left + 1 ≤ mid.reserved
    → new ≡ with_entry mid e → IsPushed old new e left
pushed old mid new e left same room is = record {
  entries = ap (λ (h : Recorded). h.entries) is ∙ ap (λ (h : Recorded). h.entries ++ e ∷ []) same;
  cap = ap (λ (h : Recorded). h.cap) is ∙ ap (λ (h : Recorded). h.cap) same;
  memory = let r = ap (λ (h : Recorded). h.reserved) is in omega (arith, r, room);
  longest = ap (λ (h : Recorded). h.longest) is ∙ ap (λ (h : Recorded). h.longest) same;
}

-- more memory changes nothing
pub memory_kept : (d : Inside) (h : Recorded) → IsKept d → record h { reserved = d.history.reserved } ≡ d.history
    → d.history.reserved ≤ h.reserved → IsKept (record d { history = h })
memory_kept d h is same more =
    let entries : h.entries ≡ d.history.entries = ap (λ (x : Recorded). x.entries) same in
    let cap : h.cap ≡ d.history.cap = ap (λ (x : Recorded). x.cap) same in
    let longest : h.longest ≡ d.history.longest = ap (λ (x : Recorded). x.longest) same in
    record {
      agrees = rw entries is.agrees;
      sound = rw entries is.sound;
      fits = rw (entries, cap) is.fits;
      memory = rw entries (omega (arith, is.memory, more));
      one_each = is.one_each;
      ready = rw entries is.ready;
      prepared = rw entries is.prepared;
      place = λ now. let entry = is.place (rw entries at now) in omega (arith, entry, more);
      longest = λ id. omega (arith, is.longest id, longest);
      within = rw cap is.within;
      read_share = is.read_share;
      write_share = is.write_share;
    }

-- the places of contents are those of the jobs of a state
pub record StandReady (d : Inside) (s : State) (p : Ready) : Type 0 where
  pub count : length p ≡ length d.places
  pub ready : AreReady d.config (jobs_of s) p

-- they are, where the jobs stay
pub stay_ready : (d : Inside) (s : State) → IsKept d → jobs_of s ≡ jobs_of (after d.config d.history.entries) → StandReady d s d.places
stay_ready d s is same = record { count = refl; ready = subst (λ js. AreReady d.config js d.places) (sym same) is.ready }

-- What is kept stands behind an entry, with memory for the entries that are reserved then.
pub entry_kept : (d : Inside) (h : Recorded) (k : Kept) (p : Ready) (e : Entry) (most : ℕ) → IsKept d → IsPushed d.history h e most
    → Agrees d.config k (changed_by d.config (after d.config d.history.entries) e)
    → IsSound d.config (step d.config (after d.config d.history.entries) e)
    → reserved_entries d.config (changed_by d.config (after d.config d.history.entries) e) ≤ most
    → length d.history.entries + 1 + most ≤ d.history.cap
    → StandReady d (changed_by d.config (after d.config d.history.entries) e) p
    → IsKept (record d { history = h; kept = k; places = p })
entry_kept d h k p e most is push agrees sound few fits places =
    let next : after d.config h.entries ≡ step d.config (after d.config d.history.entries) e = ap (after d.config) push.entries
    ∙ histories_step d.config d.history.entries e in
    let reserved : reserved_entries d.config (after d.config h.entries) ≡ reserved_entries d.config
    (changed_by d.config (after d.config d.history.entries) e) = ap (reserved_entries d.config) next in
    let count : length h.entries ≡ length d.history.entries + 1 = ap length push.entries ∙ length-append d.history.entries (e ∷ []) in
    record {
      agrees = rw next (stepped d.config k (after d.config d.history.entries) e agrees);
      sound = rw next sound;
      fits = omega (arith, reserved, few, fits, count, push.cap);
      memory = omega (arith, reserved, few, push.memory);
      one_each = places.count ∙ is.one_each;
      ready = rw next places.ready;
      prepared = omega (arith, is.prepared, count);
      place = λ same. absurd (omega (arith, is.prepared, count, same));
      longest = λ id. omega (arith, is.longest id, push.longest);
      within = omega (arith, is.within, push.cap);
      read_share = is.read_share;
      write_share = is.write_share;
    }

-- so it does behind a request that is noted or accepted, with memory for the entries that it reserves
pub ask_kept : (d : Inside) (mid h : Recorded) (k : Kept) (p : Ready) (e : Entry) (most more : ℕ) → IsKept d
    → record mid { reserved = d.history.reserved } ≡ d.history → most + 1 ≤ mid.reserved → h ≡ with_entry mid e
    → IsAllowed d.config d.history.cap (after d.config d.history.entries) e
    → Agrees d.config k (changed_by d.config (after d.config d.history.entries) e)
    → (IsConsistent d.config (step d.config (after d.config d.history.entries) e) → IsSound d.config (step d.config (after d.config d.history.entries) e))
    → most ≡ reserved_entries d.config (after d.config d.history.entries) + more
    → reserved_entries d.config (changed_by d.config (after d.config d.history.entries) e) ≡ reserved_entries d.config (after d.config d.history.entries) + more
    → fits d.config d.history.cap (after d.config d.history.entries) (1 + more) ≡ true
    → StandReady d (changed_by d.config (after d.config d.history.entries) e) p
    → IsKept (record d { history = h; kept = k; places = p })
ask_kept d mid h k p e most more is same entries added allowed agrees sound value changed fitting places =
    let s = after d.config d.history.entries in
    let room = (fitting_has_room d.config d.history.cap s (1 + more)).0 fitting in
    let counted = entries_are_counted d.config d.history.entries in
    entry_kept d h k p e most is (pushed d.history mid h e most same entries added) agrees
    (sound (allowed_steps_stay_consistent d.config d.history.cap s e is.sound.consistent allowed))
    (omega (arith, value, changed)) (omega (arith, room, value, counted)) places

-- the next entry's number, where only memory was taken
pub counted_still : (d : Inside) (mid : Recorded) → record mid { reserved = d.history.reserved } ≡ d.history
    → length mid.entries ≡ (after d.config d.history.entries).count
counted_still d mid same = ap (λ (h : Recorded). length h.entries) same ∙ sym (entries_are_counted d.config d.history.entries)

-- the places behind a job that is accepted
pub job_places : (d : Inside) (places : Ready) (caller : ℕ) (r : Request) → IsKept d → is_some (job_kind r) ≡ true
    → places ≡ taken_from d.places (asked_block r) (option_map (λ x. x.0) (asked_content r))
    → StandReady d (changed_by d.config (after d.config d.history.entries) (Ask caller r Accepted)) places
job_places d places caller r is some changed =
    let content = option_map (λ x. x.0) (asked_content r) in
    subst (StandReady d (changed_by d.config (after d.config d.history.entries) (Ask caller r Accepted))) (sym changed)
    (record {
      count = taken_length d.places (asked_block r) content;
      ready = accepted_ready d.config (after d.config d.history.entries) r d.places some is.ready;
    })
