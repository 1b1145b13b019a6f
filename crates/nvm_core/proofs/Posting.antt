-- A Post, of the job in hand or without a Pick.
use Rattle.std.specs.Prelude.{not, ◌&&◌, slice_get, slice_set, if◌then◌else◌}
use Rattle.std.specs.Option.{option_and_then}
use Rattle.std.proofs.Common.{◌≡◌, ℕ, ◌+◌, Bool, true, false, List, [], ◌∷◌, ◌++◌, length, is_some, Option, Some, None, refl, sym, ap, ◌∙◌, subst, inl, inr}
use Rattle.nvm_laws.specs.nv_base.declared.job.JobStep.{JobStep}
use Rattle.nvm_laws.specs.nv_base.declared.job.JobStep.TheVariants as step
use Rattle.nvm_laws.specs.memif.Told as device
use Rattle.nvm_laws.specs.memif.Told.{DeviceTold, Stand}
use Rattle.nvm_laws.specs.block_machine.Words.{Entry, Post, ReqResult, GivenFrom, FromDevice, BlockDesc}
use Rattle.nvm_laws.specs.block_machine.State.{Job}
use Rattle.nvm_laws.specs.block_machine.Blocks.{desc_of, job_block, kind_of, names_ram}
use Rattle.nvm_laws.specs.block_machine.Results.{Answer}
use Rattle.nvm_laws.specs.block_machine.Next.{Next, Nothing, PickJob, BeginSweep, PickMember, PostMember, EndSweep, next_of}
use Rattle.nvm_laws.specs.block_machine.Legal.{IsDriving}
use Rattle.nvm_laws.specs.ram_blocks.Told.{Told}
use Rattle.nvm_laws.specs.nv_desk.Desk.{DeskState, state_of}
use Rattle.nvm_laws.specs.nv_desk_copies.Front.{Numbers, given_at, given_in}
use Rattle.nvm_laws.specs.nv_desk_copies.Posts.{IsEndOf, IsPosted, answer_of, IsPostedNext, IsHandedOver, goes_over, reads_own, is_read, noted}
use Rattle.nvm_laws.specs.job_progress.Hand.{HandState}
use Rattle.nvm_laws.specs.job_progress.JobInHand.{IsInHand, GivesWhole, HandFits}
use Rattle.nvm_laws.specs.Halves.{Adds, AddsPost}
use Rattle.nvm_laws.proofs.Fitting.{ends_are_explained}
use Rattle.nvm_core.specs.Reads.{NotesReads, noted_by}

-- what the device gave is whole
pub whole_given : (size : ℕ) (at : JobStep) (stand : Stand) (r : ReqResult) (source : GivenFrom) (content : List ℕ) → at ≡ step.Ended r source
    → GivesWhole size at stand → content ≡ device.given_by stand → source ≡ FromDevice → length content ≡ size
whole_given size at stand r source content is given gave from =
    let whole : GivesWhole size (step.Ended r FromDevice) stand = subst (λ (x : JobStep). GivesWhole size x stand) (is ∙ ap (λ (x : GivenFrom). step.Ended r x) from) given in
    let (bytes, at_end, has) = whole in
    ap length (gave ∙ ap device.given_by at_end) ∙ has

-- where what its program saw fits, the job ended by the machine
pub ends_as : (desk : DeskState) (h : HandState) (d : DeviceTold) (ops : ℕ) (r : ReqResult) (source : GivenFrom) (content : List ℕ)
    (is : IsInHand desk.config (state_of desk) h d) → IsDriving (state_of desk) ops → h.step ≡ step.Ended r source → content ≡ device.given_by d.stand
    → HandFits desk.config (state_of desk) (Some h) d → IsEndOf desk is.job r source content ops
ends_as desk h d ops r source content is driving at gave fits =
    let (failed, ended) = ends_are_explained desk.config (state_of desk) h d is.job r source is is.hand (fits is.job is.hand) at in
    record {
      driving = driving;
      failed = failed;
      ended = record { open_set = ended.open_set; ends = ended.ends; gives = λ took from. ap Some gave ∙ ended.gives took from };
    }

-- a Post under another premise
pub posted_under : (P Q : Type 0) (block : ℕ) (ram : Bool) (ended : Answer) (ops : ℕ) (old new : DeskState) (before after : List Told)
    → (Q → P) → IsPosted P block ram ended ops old new before after → IsPosted Q block ram ended ops old new before after
posted_under P Q block ram ended ops old new before after so is = record {
  result = is.result;
  given = is.given;
  refused = is.refused;
  adds = is.adds;
  over = is.over;
  others = is.others;
  allowed = λ q. is.allowed (so q);
}

module _ (old new : DeskState) (h : HandState) (d : DeviceTold) (ops : ℕ) (r : ReqResult) (source : GivenFrom) (content : List ℕ)
    (before after : List Told) (timed : ops ≡ device.ops_of d) (is : IsInHand old.config (state_of old) h d)
    (driving : IsDriving (state_of old) ops) (at : h.step ≡ step.Ended r source) (gave : content ≡ device.given_by d.stand)
    (has : IsPosted (IsEndOf old is.job r source content ops) (job_block is.job) (names_ram is.job.request)
    (answer_of old.config (state_of old) is.job r source content) ops old new before after) where
  -- it is posted with what the device gave, at the operations of the moment
  pub hand_posted : IsPosted (HandFits old.config (state_of old) (Some h) d) (job_block is.job) (names_ram is.job.request)
      (answer_of old.config (state_of old) is.job r source (device.given_by d.stand)) (device.ops_of d) old new before after
  hand_posted =
      let under = posted_under (IsEndOf old is.job r source content ops) (HandFits old.config (state_of old) (Some h) d) (job_block is.job) (names_ram is.job.request)
      (answer_of old.config (state_of old) is.job r source content) ops old new before after (ends_as old h d ops r source content is driving at gave) has in
      let now = subst (λ (n : ℕ). IsPosted (HandFits old.config (state_of old) (Some h) d) (job_block is.job) (names_ram is.job.request)
      (answer_of old.config (state_of old) is.job r source content) n old new before after) timed under in
      subst (λ (bytes : List ℕ). IsPosted (HandFits old.config (state_of old) (Some h) d) (job_block is.job) (names_ram is.job.request)
      (answer_of old.config (state_of old) is.job r source bytes) (device.ops_of d) old new before after) gave now

  pub hand_posts : (hand : Option HandState) → hand ≡ Some h → AddsPost (HandFits old.config (state_of old) hand d) (device.ops_of d) old new before after
  hand_posts hand held = subst (λ (x : Option HandState). AddsPost (HandFits old.config (state_of old) x d) (device.ops_of d) old new before after) (sym held)
      (inl (record { job = is.job; hand = is.hand; ended = answer_of old.config (state_of old) is.job r source (device.given_by d.stand); is = hand_posted }))

-- READS
pub last_entry : (xs : List Entry) (e : Entry) → slice_get (xs ++ e ∷ []) (length xs) ≡ Some e
last_entry [] e = refl
last_entry (x ∷ xs) e = last_entry xs e

pub none_behind : (xs : List Entry) → slice_get xs (length xs) ≡ None
none_behind [] = refl
none_behind (x ∷ xs) = none_behind xs

note_by : (t : Bool) (d : BlockDesc) (ended posted : Answer) (refused tries block : ℕ) (before after : List Told) (read : Bool)
    → IsHandedOver (goes_over d t ended.1) ended posted refused tries block before after
    → (not t && (read && is_some ended.1)) ≡ (not t && (read && is_some posted.1))
note_by true d ended posted refused tries block before after read over = refl
note_by false d ended posted refused tries block before after read over = ap (λ (x : Answer). read && is_some x.1) (sym over.0)

pub note_posted : (P : Type 0) (j : Job) (ended : Answer) (ops : ℕ) (old new : DeskState) (before after : List Told) (unread : Numbers)
    → (state_of old).hand ≡ Some j → (is : IsPosted P (job_block j) (names_ram j.request) ended ops old new before after)
    → NotesReads old new unread (noted j ended.1 (length old.entries) unread)
note_posted P j ended ops old new before after unread hand is =
    let n = length old.entries in
    let at : given_at new.entries n ≡ is.given = ap (λ (x : DeskState). given_at x.entries n) is.adds
    ∙ ap (option_and_then given_in) (last_entry old.entries (Post (job_block j) is.result is.given is.refused ops)) in
    let same : reads_own j ended.1 ≡ reads_own j is.given = note_by (names_ram j.request) (desc_of old.config (job_block j)) ended (is.result, is.given)
    is.refused ((desc_of old.config (job_block j)).repeats + 1) (job_block j) before after (is_read (kind_of j)) is.over in
    ap (λ (t : Bool). if t then slice_set unread (job_block j) (Some n) else unread) same
    ∙ ap (λ (g : Option (List ℕ)). noted j g n unread) (sym at)
    ∙ ap (λ (o : Option Job). noted_by o (given_at new.entries n) n unread) (sym hand)

none_by : (t read : Bool) → (not t && (read && false)) ≡ false
none_by true read = refl
none_by false true = refl
none_by false false = refl

none_noted : (o : Option Job) (n : ℕ) (unread : Numbers) → unread ≡ noted_by o None n unread
none_noted None n unread = refl
none_noted (Some j) n unread = rw (none_by (names_ram j.request) (is_read (kind_of j))) refl

-- nothing is noted where nothing was given
pub notes_none : (old new : DeskState) (unread : Numbers) → given_at new.entries (length old.entries) ≡ None → NotesReads old new unread unread
notes_none old new unread none = rw none (none_noted (state_of old).hand (length old.entries) unread)

pub notes_no_entry : (old new : DeskState) (e : Entry) (unread : Numbers) → Adds e old new → given_in e ≡ None → NotesReads old new unread unread
notes_no_entry old new e unread adds none = notes_none old new unread
    (ap (λ (x : DeskState). given_at x.entries (length old.entries)) adds ∙ ap (option_and_then given_in) (last_entry old.entries e) ∙ none)

-- with no job in hand nothing is noted
pub notes_skip : (old new : DeskState) (unread : Numbers) → (state_of old).hand ≡ None → NotesReads old new unread unread
notes_skip old new unread none = rw none refl

-- WITHOUT A PICK
pub record IsSkip (ops : ℕ) (old new : DeskState) : Type 0 where
  pub block : ℕ
  pub result : ReqResult
  pub given : Option (List ℕ)
  pub refused : ℕ
  pub adds : Adds (Post block result given refused ops) old new

pub skips : (n : Next) (ops : ℕ) (old new : DeskState) (before behind : List Told)
    → IsPostedNext n ops old new before behind → IsSkip ops old new
skips (PostMember sw id) ops old new before behind is = record { block = id; result = is.result; given = is.given; refused = is.refused; adds = is.adds }
skips (EndSweep sw) ops old new before behind is = record { block = 0; result = is.result; given = is.given; refused = is.refused; adds = is.adds }
skips Nothing ops old new before behind is = absurd is
skips (PickJob j) ops old new before behind is = absurd is
skips (BeginSweep sw) ops old new before behind is = absurd is
skips (PickMember sw id) ops old new before behind is = absurd is

pub skip_timed : (n : Next) (ops at : ℕ) (old new : DeskState) (before after : List Told) → ops ≡ at
    → IsPostedNext n ops old new before after → IsPostedNext n at old new before after
skip_timed n ops at old new before after same is = subst (λ (k : ℕ). IsPostedNext n k old new before after) same is

pub skip_posts : (Fits : Type 0) (ops at : ℕ) (old new : DeskState) (before after : List Told) → ops ≡ at → (state_of old).hand ≡ None
    → IsPostedNext (next_of old.config (state_of old)) ops old new before after → AddsPost Fits at old new before after
skip_posts Fits ops at old new before after same none is =
    inr (none, skip_timed (next_of old.config (state_of old)) ops at old new before after same is)
