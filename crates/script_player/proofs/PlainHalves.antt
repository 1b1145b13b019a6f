-- A turn that is its first half alone.
use Rattle.script_player.proofs.Common.{map, Entry, IsTurn, Added, CutsAre, AreAsAsked, plan_behind, plan_in, AllTell, MakesTurn, not, ◌&&◌, ◌≡◌, ◌≤◌, ◌+◌, ℕ, Bool, true, false, List, [], ◌∷◌, ◌++◌, get_or, Option, None, refl, sym, ap, ◌∙◌, subst, inl, inr, DeviceTold, faults_of, ops_of, ReqResult, Pick, Post, Job, desc_of, is_synchronized, job_block, names_ram, Answer, Next, PostMember, EndSweep, next_of, PlainBlock, Told, told_of, store_of, DeskState, copies_out_next, AreSynchronized, Turned, StackState, PowersOff, IsFirstHalf, is_at_rest, is_due, copies_next, TakesNewest, copied_in, Turns, IsAnswer, Lowers, told_by, shown, to_refuse_in, MayPick, moment_of, at_rest, due_rest, rests_next, some_none, option_map_or, IsPosted, IsPostedNext, AddsPost, IsTied, IsAllowed, MayPost, MayPostNext, due_off}
use Rattle.std.specs.Prelude.{IsTrue}
use Rattle.uds_gateway.specs.nv_desk.Desk.{state_of}
use Rattle.uds_gateway.specs.nvm_laws.declared.turned.Turned.TheVariants as turned
use Rattle.uds_gateway.specs.nvm_laws.declared.turned.Act.TheVariants.{Ended}
use Rattle.uds_gateway.specs.nvm_core.Work as work
use Rattle.script_player.proofs.PlainDevices.{Goes, goes_same, came_same}
use Rattle.script_player.proofs.PlainPicks.{newest, stored_so}
use Rattle.script_player.proofs.PlainRefused.{IsOn, IsSpent, pick_spent, post_spent, entry_asked}
use Rattle.script_player.proofs.PlainTurning.{same_stores, none_more, no_off, begins_by, begins_late, turn_made}

-- what is told of the application, and the newest store of a block
abbrev pub are_told : List PlainBlock → List Told
are_told copies = map told_of copies

abbrev pub is_now : List PlainBlock → ℕ → ℕ → List ℕ → Type 0
is_now copies b n x = get_or (map store_of copies) b (0, []) ≡ (n, x)

-- in memory no look is told apart
abbrev pub is_looked : List PlainBlock → List PlainBlock → ℕ → ℕ → Type 0
is_looked old new b n = Unit {0}

-- A POST

-- the Post of the job in hand, or one without a job, with the refused copies that it tells of
record Posting (ops : ℕ) (old new : DeskState) (before after : List Told) : Type 0 where
  block : ℕ
  result : ReqResult
  given : Option (List ℕ)
  refused : ℕ
  adds : new ≡ record old { entries = old.entries ++ Post block result given refused ops ∷ [] }
  on : IsOn block (state_of old).hand
  spent : IsSpent ((desc_of old.config block).repeats + 1) block before after (copied_in (option_map_or (λ (j : Job). names_ram j.request) (state_of old).hand true && is_synchronized (desc_of old.config block).ram) given refused)
  may : (state_of old).hand ≡ None → MayPostNext old.config (state_of old) block (result, given) refused (next_of old.config (state_of old))

posting_of : (Premise : Type 0) (block : ℕ) (ram : Bool) (ended : Answer) (ops : ℕ) (old new : DeskState) (bs : List PlainBlock) (after : List Told)
    → AreSynchronized old.config (map told_of bs) → IsOn block (state_of old).hand → (is : IsPosted Premise block ram ended ops old new (map told_of bs) after)
    → (ram && is_synchronized (desc_of old.config block).ram) ≡ (option_map_or (λ (j : Job). names_ram j.request) (state_of old).hand true && is_synchronized (desc_of old.config block).ram)
    → ((state_of old).hand ≡ None → MayPostNext old.config (state_of old) block (is.result, is.given) is.refused (next_of old.config (state_of old)))
    → Posting ops old new (map told_of bs) after
posting_of Premise block ram ended ops old new bs after are on is goes may = record {
  block = block;
  result = is.result;
  given = is.given;
  refused = is.refused;
  adds = is.adds;
  on = on;
  spent = subst (λ (t : Bool). IsSpent ((desc_of old.config block).repeats + 1) block (map told_of bs) after (copied_in t is.given is.refused)) goes
      (post_spent (λ n x. Unit {0}) old.config block bs after are ram ended (is.result, is.given) is.refused is.others is.over);
  may = may;
}

-- with nothing in hand a Post that the machine allows is of what comes next
next_allowed : (old : DeskState) (block : ℕ) (r : ReqResult) (given : Option (List ℕ)) (refused ops : ℕ) → IsAllowed old.config old.cap (state_of old) (Post block r given refused ops) → (state_of old).hand ≡ None
    → MayPostNext old.config (state_of old) block (r, given) refused (next_of old.config (state_of old))
next_allowed old block r given refused ops is none = subst (λ (h : Option Job). MayPost old.config (state_of old) block (r, given) refused h) none is.1

posting_next : (n : Next) (ops : ℕ) (old new : DeskState) (bs : List PlainBlock) (after : List Told) → AreSynchronized old.config (map told_of bs) → (state_of old).hand ≡ None
    → IsPostedNext n ops old new (map told_of bs) after → Posting ops old new (map told_of bs) after
posting_next (PostMember sw id) ops old new bs after are none is =
    posting_of (Unit {0}) id true _ ops old new bs after are (subst (λ (h : Option Job). IsOn id h) (sym none) tt) is
    (ap (λ (h : Option Job). option_map_or (λ (j : Job). names_ram j.request) h true && is_synchronized (desc_of old.config id).ram) (sym none)) (next_allowed old id is.result is.given is.refused ops (is.allowed tt))
posting_next (EndSweep sw) ops old new bs after are none is =
    posting_of (Unit {0}) 0 false _ ops old new bs after are (subst (λ (h : Option Job). IsOn 0 h) (sym none) tt) is
    (ap (λ (h : Option Job). option_map_or (λ (j : Job). names_ram j.request) h true && is_synchronized (desc_of old.config 0).ram) (sym none)) (next_allowed old 0 is.result is.given is.refused ops (is.allowed tt))
posting_next n ops old new bs after are none is = absurd is

posting : (Fits : Type 0) (ops : ℕ) (old new : DeskState) (bs : List PlainBlock) (after : List Told) → AreSynchronized old.config (map told_of bs)
    → AddsPost Fits ops old new (map told_of bs) after → Posting ops old new (map told_of bs) after
posting Fits ops old new bs after are adds = elim adds [
  | inl held ↦ posting_of Fits (job_block held.job) (names_ram held.job.request) held.ended ops old new bs after are
      (subst (λ (h : Option Job). IsOn (job_block held.job) h) (sym held.hand) refl) held.is
      (ap (λ (h : Option Job). option_map_or (λ (j : Job). names_ram j.request) h true && is_synchronized (desc_of old.config (job_block held.job)).ram) (sym held.hand)) (λ none. absurd (some_none held.job (sym held.hand ∙ none)))
  | inr next ↦ posting_next (next_of old.config (state_of old)) ops old new bs after are next.0 next.1
]

-- THE TURN

-- what doesn't hold is false
pub not_so : (t : Bool) → (IsTrue t → ⊥) → IsTrue (not t)
not_so true never = absurd (never refl)
not_so false never = refl

pub record IsBehind {D : Type 0} (device : D → DeviceTold) (answer : Turned) (old new : StackState D (List PlainBlock)) : Type 0 where
  pub power : PowersOff new.desk (device new.device)
  pub counted : faults_of (device old.device) ≤ faults_of (device new.device)
  pub lowers : work.Lowers device answer old new
  pub tied : IsTied old.desk old.hand (device old.device)
  pub tied_behind : IsTied new.desk new.hand (device new.device)
  pub synchronized : AreSynchronized old.desk.config (map told_of old.copies)

module _ {D : Type 0} (device : D → DeviceTold) (old new : StackState D (List PlainBlock)) where
  module _ (answer : Turned) (half : IsFirstHalf device are_told is_now is_looked (Ended answer) old new) (behind : IsBehind device answer old new) where
    goes : Goes (device old.device) (device new.device)
    goes = goes_same (device old.device) (device new.device) (ap (λ (d : DeviceTold). d.fixed) half.device) (ap (λ (d : DeviceTold). d.ops) half.device) (ap (λ (d : DeviceTold). d.first) half.device) (ap (λ (d : DeviceTold). d.second) half.device)

    stores : map store_of new.copies ≡ map store_of old.copies
    stores = same_stores old.copies new.copies half.sizes half.stores_stay

    -- with no Off
    abbrev made : (es : List Entry) → new.desk ≡ record old.desk { entries = old.desk.entries ++ es } → AllTell (ops_of (device new.device)) es → IsTurn old.desk.config (state_of old.desk) (map store_of old.copies) es
        → ((id : ℕ) → AreAsAsked old.desk.config id (state_of old.desk) (to_refuse_in (map told_of old.copies) id) es (to_refuse_in (map told_of new.copies) id))
        → CutsAre (plan_in (device old.device)) 0 (map Added es) [] 0 → plan_behind (plan_in (device old.device)) 0 (map Added es) ≡ plan_in (device old.device)
        → (IsTrue (is_at_rest (state_of old.desk)) → (es ≡ []) × (device new.device ≡ device old.device)) → MakesTurn (told_by device old) (told_by device new)
    made es desk tells turn refusals are stays rests =
        turn_made device old new goes behind.power behind.counted stores half.ready (ap (λ (d : DeviceTold). d.fixed) half.device) es desk tells turn refusals
        (no_off device old new es goes (came_same (device old.device) (device new.device) (ap (λ (d : DeviceTold). d.first) half.device)) are stays behind.power)
        (λ rest idle. let (none, same) = rests rest in (none, ap (λ (d : DeviceTold). moment_of (shown old.desk None old.copies old.ready d)) same))

    -- nothing is added
    quiet : device new.device ≡ device old.device → new.desk ≡ old.desk → map told_of new.copies ≡ map told_of old.copies → is_due (state_of old.desk) ≡ false
        → IsAnswer answer [] (told_by device old) (told_by device new) → Lowers answer (told_by device old) (told_by device new) → Turns answer (told_by device old) (told_by device new)
    quiet stays same told due answers lowers = record {
      made = made [] (none_more old.desk new.desk same) tt (record { entry = tt; begins = begins_late (state_of old.desk) [] due }) (λ id. ap (λ (ts : List Told). to_refuse_in ts id) told) (refl, refl) refl (λ rest. (refl, stays));
      answers = answers;
      lowers = lowers;
    }

  picks : IsFirstHalf device are_told is_now is_looked (Ended turned.Picked) old new → IsBehind device turned.Picked old new → Turns turned.Picked (told_by device old) (told_by device new)
  picks half behind =
      let c = old.desk.config in
      let s = state_of old.desk in
      let block = half.half.0 in
      let picked = half.half.1 in
      let ops = ops_of (device new.device) in
      let may = picked.allowed.1 in
      let none : IsTrue (is_at_rest s) → ⊥ = λ rest. subst (λ (n : Next). MayPick c s block picked.kind picked.taken n) (rests_next c s rest).1 may in
      let spent = pick_spent (λ n x. is_now new.copies block n x × is_looked old.copies new.copies block n) c block old.copies (map told_of new.copies) behind.synchronized s picked.kind picked.taken (next_of c s) picked.copied may in record {
        made = made turned.Picked half behind (Pick block picked.kind picked.taken ops ∷ []) picked.adds (refl, tt)
            (record {
              entry = record {
                may = may;
                newest = subst (λ (xs : List (ℕ × List ℕ)). TakesNewest xs (copies_next c (next_of c s)) block picked.taken) (stores turned.Picked half behind)
                    (newest (map store_of new.copies) c s block picked.kind (map told_of old.copies) (map told_of new.copies) picked.taken (next_of c s) (stored_so _ _ c block (map told_of old.copies) (map told_of new.copies) (copies_out_next c (next_of c s)) picked.taken (λ n x h. h.0) picked.copied) may);
              };
              begins = begins_by (is_due s);
            })
            (λ id. entry_asked c s id block (map told_of old.copies) (map told_of new.copies) (Pick block picked.kind picked.taken ops) _ refl spent) (refl, refl) refl (λ rest. absurd (none rest));
        answers = not_so (is_at_rest s) none;
        lowers = behind.lowers;
      }

  posts : IsFirstHalf device are_told is_now is_looked (Ended turned.Posted) old new → IsBehind device turned.Posted old new → Turns turned.Posted (told_by device old) (told_by device new)
  posts half behind =
      let c = old.desk.config in
      let s = state_of old.desk in
      let ops = ops_of (device new.device) in
      let post = posting _ ops old.desk new.desk old.copies (map told_of new.copies) behind.synchronized half.half in
      let none : IsTrue (is_at_rest s) → ⊥ =
      λ rest. let (out, nothing) = rests_next c s rest in subst (λ (n : Next). MayPostNext c s post.block (post.result, post.given) post.refused n) nothing (post.may out) in
      record {
        made = made turned.Posted half behind (Post post.block post.result post.given post.refused ops ∷ []) post.adds (refl, tt) (record { entry = post.may; begins = begins_by (is_due s) })
            (λ id. entry_asked c s id post.block (map told_of old.copies) (map told_of new.copies) (Post post.block post.result post.given post.refused ops) _ refl post.spent) (refl, refl) refl (λ rest. absurd (none rest));
        answers = not_so (is_at_rest s) none;
        lowers = behind.lowers;
      }

  pub ended : (answer : Turned) → IsFirstHalf device are_told is_now is_looked (Ended answer) old new → IsBehind device answer old new → Turns answer (told_by device old) (told_by device new)
  ended turned.Picked half behind = picks half behind
  ended turned.Posted half behind = posts half behind
  ended turned.Off half behind =
      let same = half.half.0.0 in
      let off = sym (ap (λ (x : DeskState). (state_of x).off) same) ∙ behind.power half.half.1 in
      quiet turned.Off half behind half.at_device.1 same half.half.0.1 (due_off (state_of old.desk) off) off tt
  ended turned.Idle half behind =
      let rest = at_rest old.desk.config (state_of old.desk) half.half.1.hand half.half.1.next in
      quiet turned.Idle half behind half.at_device.1 half.half.0.0 half.half.0.1 (due_rest (state_of old.desk) rest) (refl, rest, ap not half.half.1.device) tt
  ended turned.Worked half behind = absurd half.half
