-- The stack of a unit: what is kept from its first start-up on, call by call, and what its flash comes back with.
use Rattle.std.specs.Prelude.{IfOk, OnErr, map}
use Rattle.std.proofs.Common.{◌≡◌, ℕ, Bool, true, false, List, [], ◌∷◌, ◌++◌, Option, Some, None, Result, Ok, Err, refl, sym, ap, ◌∙◌, subst, inl, inr}
use Rattle.nvm_flash.specs.block_config.Config.{Configuration}
use Rattle.nvm_flash.specs.block_config.Rules.{IsLegalConfig}
use Rattle.nvm_flash.specs.memif.Calls.{Arms, InOrder}
use Rattle.nvm_flash.specs.memif.Told.{ops_of}
use Rattle.nvm_flash.specs.memif.Marks.{ComesFrom}
use Rattle.nvm_flash.specs.block_machine.Words.{Entry, Request, Reply, Ask}
use Rattle.nvm_flash.specs.block_machine.Next.{Next, Nothing, PickJob, BeginSweep, PickMember, PostMember, EndSweep, next_of}
use Rattle.nvm_flash.specs.fls_devices.Cutter.{cutting, told_cutting}
use Rattle.nvm_flash.specs.fls_model.Told.{Told}
use Rattle.nvm_flash.specs.promise_device.Making.{Making}
use Rattle.nvm_flash.specs.promise_blocks.OverDevice.{HasStarted, KeepsOver, KeepsEarly}
use Rattle.nvm_flash.specs.promise_run.Promise.{making_of}
use Rattle.nvm_flash.specs.fee_core.Tells.{told_clock}
use Rattle.nvm_flash.specs.fee_told.Device.{told_of, clock_of}
use Rattle.nvm_flash.specs.fee_laws.Made.{part_at}
use Rattle.nvm_flash.specs.ram_blocks.Told.{Told as CopyTold}
use Rattle.nvm_flash.specs.ram_blocks.Plain.{told_of as copy_told}
use Rattle.nvm_flash.specs.ram_blocks.declared.plain_block.PlainBlock.{PlainBlock}
use Rattle.nvm_flash.specs.nv_desk.declared.ask.AskFault.{AskFault}
use Rattle.nvm_flash.specs.nv_desk.Desk.{DeskState, state_of}
use Rattle.nvm_flash.specs.nv_desk.Recorder.{endless}
use Rattle.nvm_flash.specs.nvm_core.nv_desk_copies.Posts.{IsPostedNext}
use Rattle.nvm_flash.specs.job_progress.Hand.{HandState}
use Rattle.nvm_flash.specs.nvm_device_laws.Turn.{BeginsKept, TellsSlots, down}
use Rattle.nvm_flash.specs.nvm_laws.Keeps.{StackKeepsAsTold, StaysKept}
use Rattle.nvm_flash.specs.nvm_laws.Turns.{AddsBy}
use Rattle.nvm_flash.specs.nvm_laws.declared.turned.Act.TheVariants as act
use Rattle.nvm_flash.specs.nvm_laws.declared.turned.Turned.{Turned}
use Rattle.nvm_flash.specs.nvm_laws.declared.turned.Turned.TheVariants as turned
use Rattle.nvm_flash.specs.nvm_laws.declared.turned.FoundAnswer.{FoundAnswer}
use Rattle.nvm_flash.specs.nvm_laws.declared.turned.FoundAnswer.TheVariants as found
use Rattle.nvm_flash.specs.nvm_core.BehindDevice.{asked_by}
use Rattle.nvm_flash.specs.nvm_core.StartUps.{DownKeepsAsTold, Restarts, StartsUp, StartsKeep}
use Rattle.nvm_flash.specs.Made.{IsBack, IsMadeStack, IsOrigin, one_part}
use Rattle.nvm.specs.Closing.{UnitState, Closes}
use Rattle.nvm_flash.proofs.Turning.{told_before}
use Rattle.nvm_flash.proofs.FirstStart.{begins_up}
use Rattle.nvm.proofs.Closing.{closes}
use Rattle.nvm.proofs.Plans.{armed_takes, device_takes}
use Rattle.nvm.proofs.UnitTurns.{begun_turned, copied_turned}
use Rattle.nvm_flash.proofs.DownCalls.{over_with}
use Rattle.nvm_flash.proofs.LawStanding.{found_stands}
use Rattle.nvm.specs.Turned.{HasTurned}
use Rattle.nvm.specs.Unit.{HasRun, IsDown, IsUnit, ListsStanding, Stays, UnitHalf, UnitTurns, left_behind, takes_of}

true_false : {t : Bool} → t ≡ true → t ≡ false → ⊥
true_false {t} on off = never (sym on ∙ off)
  where
    never : true ≡ false → ⊥
    never e = cc

-- THE FIRST START-UP
pub begun_takes : (making : Making) (entry : Told) (m s : UnitState) → IsMadeStack m.desk.config m.desk.cap making entry m → StartsUp told_of m s → (inner : Told) (cuts : ℕ) → IsOrigin m.desk.config inner cuts making entry → takes_of s ≡ cuts
begun_takes making entry m s made starts inner cuts origin =
    ap (λ p. p.planning.takes) starts.finds.up.restarted.first.only ∙ ap (λ p. p.planning.takes) made.device.part ∙ ap (λ (t : Told). (part_at t).planning.takes) origin.over

pub begun_unit : (making : Making) (entry : Told) (m s : UnitState) → IsMadeStack m.desk.config m.desk.cap making entry m → BeginsKept (told_of m.device) (told_clock m.device) → InOrder (told_of m.device) (told_clock m.device) → InOrder (told_of s.device) (told_clock s.device)
    → StartsUp told_of m s → StartsKeep found.Ready m.desk (told_of m.device) (told_clock m.device) s.desk (told_of s.device) (told_clock s.device)
    → (inner : Told) (cuts : ℕ) → IsLegalConfig m.desk.config → IsOrigin m.desk.config inner cuts making entry → IsUnit making entry cuts s
begun_unit making entry m s made begins order order_new starts keeps inner cuts legal origin = record {
  made_for = origin.made_for ∙ ap (λ x. making_of x.desk.config) (sym starts.only);
  takes = begun_takes making entry m s made starts inner cuts origin;
  up = λ ready.
      subst (λ (h : Option HandState). StackKeepsAsTold (one_part (part_at entry)) s.desk h (told_of s.device) (told_clock s.device)) (sym (ap (λ x. x.hand) starts.only))
      (begins_up m.desk.config making entry m s made begins order starts keeps inner cuts refl legal origin);
  down = λ off. absurd (true_false (ap (λ x. x.ready) starts.only) off);
  turned = begun_turned making entry m s made starts order_new legal (begins_up m.desk.config making entry m s made begins order starts keeps inner cuts refl legal origin);
}

-- FROM CALL TO CALL
-- a call of a stack whose last start-up stands, which leaves it so
pub kept_unit : (making : Making) (entry : Told) (plans left : ℕ) (s t : UnitState) → IsUnit making entry plans s → s.ready ≡ true → t.ready ≡ s.ready → t.desk.config ≡ s.desk.config → takes_of t ≡ left
    → StaysKept s.desk s.hand (told_of s.device) (told_clock s.device) t.desk t.hand (told_of t.device) (told_clock t.device) → HasTurned t → IsUnit making entry left t
kept_unit making entry plans left s t unit ready same config takes stays turned = record {
  made_for = unit.made_for ∙ ap making_of (sym config);
  takes = takes;
  up = λ on. stays.kept (one_part (part_at entry)) (unit.up ready);
  down = λ off. absurd (true_false (same ∙ ready) off);
  turned = turned;
}

-- a call that changes nothing but the application's copies
pub copied_unit : (making : Making) (entry : Told) (plans : ℕ) (s t : UnitState) (copies : List PlainBlock) → IsUnit making entry plans s → t ≡ record s { copies = copies } → IsUnit making entry plans t
copied_unit making entry plans s t copies unit only = subst (IsUnit making entry plans) (sym only) (record { made_for = unit.made_for; takes = unit.takes; up = unit.up; down = λ off. let was = unit.down off in record { started = was.started; keeps = was.keeps }; turned = copied_turned s (record s { copies = copies }) copies unit.turned refl })

-- whatever the last start-up came to, a further one has what it needs
is_down : (making : Making) (entry : Told) (plans : ℕ) (s : UnitState) → IsUnit making entry plans s
    → ((x : DeskState) (h : Option HandState) → StackKeepsAsTold (one_part (part_at entry)) x h (told_of s.device) (told_clock s.device) → DownKeepsAsTold (one_part (part_at entry)) x (told_of s.device) (told_clock s.device))
    → IsDown entry s
is_down making entry plans s unit comes = by s.ready refl
  where
    by : (b : Bool) → s.ready ≡ b → IsDown entry s
    by true is = let kept = unit.up is in record { started = λ told. (kept.all told).started; keeps = comes s.desk s.hand kept }
    by false is = unit.down is

pub restarted_unit : (making : Making) (entry : Told) (plans : ℕ) (s t : UnitState) (answer : FoundAnswer) → IsUnit making entry plans s
    → ((x : DeskState) (h : Option HandState) → StackKeepsAsTold (one_part (part_at entry)) x h (told_of s.device) (told_clock s.device) → DownKeepsAsTold (one_part (part_at entry)) x (told_of s.device) (told_clock s.device))
    → HasTurned t → Restarts told_of answer s t → StartsKeep answer s.desk (told_of s.device) (told_clock s.device) t.desk (told_of t.device) (told_clock t.device) → IsUnit making entry plans t
restarted_unit making entry plans s t found.Ready unit comes turned starts keeps =
    let was = is_down making entry plans s unit comes in
    record {
      made_for = unit.made_for ∙ ap (λ x. making_of x.desk.config) (sym starts.only);
      takes = ap (λ p. p.planning.takes) starts.finds.up.restarted.first.only ∙ unit.takes;
      up = λ ready.
          subst (λ (h : Option HandState). StackKeepsAsTold (one_part (part_at entry)) t.desk h (told_of t.device) (told_clock t.device)) (sym (ap (λ x. x.hand) starts.only))
          (keeps (one_part (part_at entry)) (λ now. inl (was.started (told_before (λ n a b. ComesFrom a b) (told_of s.device) (told_of t.device) starts.finds.up.restarted.marks now))) was.keeps);
      down = λ off. absurd (true_false (ap (λ x. x.ready) starts.only) off);
      turned = turned;
    }
restarted_unit making entry plans s t found.Failed unit comes turned fails keeps =
    let was = is_down making entry plans s unit comes in
    record {
      made_for = unit.made_for ∙ ap (λ x. making_of x.desk.config) (sym fails.only);
      takes = ap (λ p. p.planning.takes) fails.fails.restarted.first.only ∙ unit.takes;
      up = λ ready. absurd (true_false ready (ap (λ x. x.ready) fails.only));
      down = λ off. record {
        started = λ now. subst HasStarted (sym (ap (λ x. x.desk.entries) fails.only)) (was.started (told_before (λ n a b. ComesFrom a b) (told_of s.device) (told_of t.device) fails.fails.restarted.marks now));
        keeps = keeps (one_part (part_at entry)) was.keeps;
      };
      turned = turned;
    }
restarted_unit making entry plans s t found.NoRoom unit comes turned stays keeps = subst (IsUnit making entry plans) (sym stays.0) unit
restarted_unit making entry plans s t found.Memory unit comes turned stays keeps = subst (IsUnit making entry plans) (sym stays) unit

-- WHAT STAYS
pub stays_same : (s t : UnitState) → t ≡ s → Stays s t
stays_same s t is = record { config = ap (λ x. x.desk.config) is; most = ap (λ x. x.desk.cap) is }

pub starts_stay : (s t : UnitState) → StartsUp told_of s t → Stays s t
starts_stay s t starts = record { config = ap (λ x. x.desk.config) starts.only; most = ap (λ x. x.desk.cap) starts.only }

pub restarts_stay : (s t : UnitState) (answer : FoundAnswer) → Restarts told_of answer s t → Stays s t
restarts_stay s t found.Ready starts = starts_stay s t starts
restarts_stay s t found.Failed fails = record { config = ap (λ x. x.desk.config) fails.only; most = ap (λ x. x.desk.cap) fails.only }
restarts_stay s t found.NoRoom stays = stays_same s t stays.0
restarts_stay s t found.Memory stays = stays_same s t stays

-- of a request, in which no start-up comes
module _ (s t : UnitState) (caller : ℕ) (request : Request) where
  pub asked_stay : (r : Result Reply AskFault) → IfOk r (λ reply. t ≡ record s { desk = record s.desk { entries = s.desk.entries ++ Ask caller request reply ∷ [] } }) → OnErr r (t ≡ s) → Stays s t
  asked_stay (Ok reply) ok err = record { config = ap (λ x. x.desk.config) ok; most = ap (λ x. x.desk.cap) ok }
  asked_stay (Err fault) ok err = stays_same s t err

  pub asked_up : (r : Result Reply AskFault) → IfOk r (λ reply. t ≡ record s { desk = record s.desk { entries = s.desk.entries ++ Ask caller request reply ∷ [] } }) → OnErr r (t ≡ s) → t.ready ≡ s.ready
  asked_up (Ok reply) ok err = ap (λ x. x.ready) ok
  asked_up (Err fault) ok err = ap (λ x. x.ready) err

  pub asked_takes : (r : Result Reply AskFault) → IfOk r (λ reply. t ≡ record s { desk = record s.desk { entries = s.desk.entries ++ Ask caller request reply ∷ [] } }) → OnErr r (t ≡ s) → takes_of t ≡ takes_of s
  asked_takes (Ok reply) ok err = ap takes_of ok
  asked_takes (Err fault) ok err = ap takes_of err

-- of a plan
pub armed_stay : (s t : UnitState) → t ≡ record s { device = t.device } → Stays s t
armed_stay s t only = record { config = ap (λ x. x.desk.config) only; most = ap (λ x. x.desk.cap) only }

pub arms_take : (which nth keep plans : ℕ) (s t : UnitState) → takes_of s ≡ plans → Arms which nth keep (told_of s.device) (told_clock s.device) (told_of t.device) (told_clock t.device) → takes_of t ≡ left_behind which nth plans
arms_take which nth keep plans s t takes arms = armed_takes which nth keep (told_of s.device) (told_of t.device) arms.0 ∙ ap (left_behind which nth) takes

-- of the application's copies
pub copied_stay : (s t : UnitState) (copies : List PlainBlock) → t ≡ record s { copies = copies } → Stays s t
copied_stay s t copies only = record { config = ap (λ x. x.desk.config) only; most = ap (λ x. x.desk.cap) only }

-- of a turn: an entry more of a desk changes nothing else
record Same (old new : DeskState) : Type 0 where
  config : new.config ≡ old.config
  cap : new.cap ≡ old.cap

posted_next : (next : Next) (ops : ℕ) (old new : DeskState) (before after : List CopyTold) → IsPostedNext next ops old new before after → Same old new
posted_next (PostMember sw id) ops old new before after posts = record { config = ap (λ d. d.config) posts.adds; cap = ap (λ d. d.cap) posts.adds }
posted_next (EndSweep sw) ops old new before after posts = record { config = ap (λ d. d.config) posts.adds; cap = ap (λ d. d.cap) posts.adds }
posted_next Nothing ops old new before after posts = absurd posts
posted_next (PickJob j) ops old new before after posts = absurd posts
posted_next (BeginSweep sw) ops old new before after posts = absurd posts
posted_next (PickMember sw id) ops old new before after posts = absurd posts

added : (e : Option Entry) (old new : DeskState) → AddsBy e old new → Same old new
added None old new adds = record { config = ap (λ d. d.config) adds; cap = ap (λ d. d.cap) adds }
added (Some e) old new adds = record { config = ap (λ d. d.config) adds.0; cap = ap (λ d. d.cap) adds.0 }

module _ (s t : UnitState) where
  half_same : (answer : Turned) → UnitHalf (act.Ended answer) s t → Same s.desk t.desk
  half_same turned.Off half = record { config = ap (λ d. d.config) half.half.0.0; cap = ap (λ d. d.cap) half.half.0.0 }
  half_same turned.Picked half = record { config = ap (λ d. d.config) half.half.1.adds; cap = ap (λ d. d.cap) half.half.1.adds }
  half_same turned.Posted half = elim half.half [
    | inl held ↦ record { config = ap (λ d. d.config) held.is.adds; cap = ap (λ d. d.cap) held.is.adds }
    | inr next ↦ posted_next (next_of s.desk.config (state_of s.desk)) (ops_of (told_of t.device)) s.desk t.desk (map copy_told s.copies) (map copy_told t.copies) next.1
  ]
  half_same turned.Idle half = record { config = ap (λ d. d.config) half.half.0.0; cap = ap (λ d. d.cap) half.half.0.0 }
  half_same turned.Worked half = absurd half.half

  pub turns_stay : (answer : Turned) → UnitTurns answer s t → Stays s t
  turns_stay answer (inl half) = let same = half_same answer half in record { config = same.config; most = same.cap }
  turns_stay answer (inr (between, half, second)) =
      let last = added (asked_by answer (told_of between.device).stand (told_of t.device).stand (ops_of (told_of t.device))) between.desk t.desk second.adds in
      record { config = last.config ∙ ap (λ d. d.config) half.half.0.0; most = last.cap ∙ ap (λ d. d.cap) half.half.0.0 }

  -- and the stack stays up
  pub turns_up : (answer : Turned) → UnitTurns answer s t → t.ready ≡ s.ready
  turns_up answer (inl half) = half.ready
  turns_up answer (inr (between, half, second)) = second.ready ∙ half.ready

  -- and takes no plan
  pub turns_take : (answer : Turned) → UnitTurns answer s t → takes_of t ≡ takes_of s
  turns_take answer (inl half) = ap (λ d. d.first.planning.takes) half.device
  turns_take answer (inr (between, half, second)) = device_takes answer (told_of between.device) (told_of t.device) (told_clock between.device) (told_clock t.device) second.turns ∙ ap (λ d. d.first.planning.takes) half.device

-- WHAT STANDS
pub lists_standing : (making : Making) (entry : Told) (plans : ℕ) (s : UnitState) → IsUnit making entry plans s → (s.ready ≡ true → (told_of s.device).started ≡ true) → ListsStanding s
lists_standing making entry plans s unit up marks ops slots ready told last =
    found_stands (one_part (part_at entry)) s.desk s.hand (told_of s.device) (told_clock s.device) marks ops slots (unit.up ready) (up ready) told last

-- THE END
over_of : (making : Making) (entry : Told) (plans : ℕ) (s : UnitState) → IsUnit making entry plans s → TellsSlots (told_of s.device) → KeepsOver s.desk.config s.desk.cap s.desk.entries (one_part (part_at entry)) (told_of s.device) (told_clock s.device)
over_of making entry plans s unit told = by s.ready refl
  where
    by : (b : Bool) → s.ready ≡ b → KeepsOver s.desk.config s.desk.cap s.desk.entries (one_part (part_at entry)) (told_of s.device) (told_clock s.device)
    by true is = ((unit.up is).all told).keeps.over
    by false is = over_with (told_of s.device).started s.desk.config s.desk.cap s.desk.entries (one_part (part_at entry)) (down (told_of s.device)) (told_clock s.device) ((unit.down is).keeps.all told).keeps.over

early_of : (making : Making) (entry : Told) (plans : ℕ) (s : UnitState) → IsUnit making entry plans s → (told_of s.device).tells ≡ true → KeepsEarly s.desk.config s.desk.cap s.desk.entries (told_clock s.device)
early_of making entry plans s unit tells = by s.ready refl
  where
    by : (b : Bool) → s.ready ≡ b → KeepsEarly s.desk.config s.desk.cap s.desk.entries (told_clock s.device)
    by true is = (unit.up is).early tells
    by false is = (unit.down is).keeps.early tells

pub unit_closes_by : (making : Making) (entry exit : Told) (plans : ℕ) (s : UnitState) → IsUnit making entry plans s → (inner : Told) (cuts : ℕ) → entry ≡ told_cutting (cutting inner cuts)
    → IsBack s.desk.config inner exit (part_at entry) (told_of s.device) (clock_of s.device) → Closes inner exit s
unit_closes_by making entry exit plans s unit inner cuts over back =
    closes inner cuts making entry exit s unit.turned (over_of making entry plans s unit) (early_of making entry plans s unit) (record { made_for = unit.made_for; over = over }) back

pub unit_closes : (making : Making) (entry exit : Told) (plans : ℕ) (s : UnitState) → IsUnit making entry plans s
    → ((c : Configuration) (inner : Told) (cuts : ℕ) → IsOrigin c inner cuts making entry → IsBack c inner exit (part_at entry) (told_of s.device) (clock_of s.device))
    → (inner : Told) (cuts : ℕ) → entry ≡ told_cutting (cutting inner cuts) → Closes inner exit s
unit_closes making entry exit plans s unit back inner cuts over = unit_closes_by making entry exit plans s unit inner cuts over (back s.desk.config inner cuts (record { made_for = unit.made_for; over = over }))

-- a unit that ran, by what its call kept
pub has_run : (s t : UnitState) (inner exit : Told) (R : List Entry → Type 0) → s.desk.cap ≡ endless → Stays s t → R t.desk.entries → Closes inner exit t → HasRun s.desk.config inner exit R
has_run s t inner exit R most stays ran back = record { stack = t; config = stays.config; most = stays.most ∙ most; ran = ran; closes = back }
