-- What a half of a turn writes.
use Rattle.std.specs.Prelude.{IsTrue}
use Rattle.std.proofs.Common.{◌≡◌, ◌⊎◌, inl, inr, ℕ, Bool, true, false, List, Option, Some, None, refl, sym, ap, ◌∙◌, subst}
use Rattle.nvm_core.specs.memif.Told.{DeviceTold, Stand, Open, Ended as Closed, ops_of}
use Rattle.nvm_core.specs.memif.declared.answer.DeviceTurn.{DeviceTurn}
use Rattle.nvm_core.specs.memif.declared.answer.DeviceTurn.TheVariants as turn
use Rattle.nvm_core.specs.memif.declared.answer.JobResult.TheVariants.{JobOk}
use Rattle.nvm_core.specs.block_machine.Words.{Mark}
use Rattle.nvm_core.specs.nvm_device_laws.Turn.{settled_by, wrote_by}
use Rattle.nvm_core.specs.block_machine.Words.{Entry, Pick, Post, Taken, Configuration}
use Rattle.nvm_core.specs.block_machine.StartUp.{at_first}
use Rattle.nvm_core.specs.block_machine.Next.{Next, Nothing, PickJob, BeginSweep, PickMember, PostMember, EndSweep, next_of}
use Rattle.nvm_core.specs.ram_blocks.Told.{Told}
use Rattle.nvm_core.specs.nv_desk.Desk.{DeskState, state_of}
use Rattle.nvm_core.specs.nv_desk_copies.Front.{StagingState, StagesAll}
use Rattle.nvm_core.specs.nv_desk_copies.Posts.{IsPostedNext}
use Rattle.nvm_core.specs.nvm_laws.Halves.{IsHalf, Adds}
use Rattle.nvm_core.specs.nvm_laws.Turns.{AddsBy, entry_by}
use Rattle.nvm_core.specs.nvm_laws.declared.turned.Turned.{Turned}
use Rattle.nvm_core.specs.nvm_laws.declared.turned.Turned.TheVariants as turned
use Rattle.nvm_core.specs.nvm_laws.declared.turned.Act.{Act}
use Rattle.nvm_core.specs.nvm_laws.declared.turned.Act.TheVariants.{Ended, Device}
use Rattle.nvm_core.specs.job_progress.Hand.{HandState}
use Rattle.nvm_core.specs.BehindDevice.{IsBehindTurn, TakesTurn}
use Rattle.nvm_shared.specs.Written.{IsWritten, AreWritten}
use Rattle.nvm_shared.specs.StatusWords.{is_ask, is_found}
use Rattle.nvm_shared.specs.declared.terms.Terms.{Terms}
use Rattle.nvm_shared.specs.Locked.{IsLocked, terms_of}
use Rattle.nvm_shared.proofs.WritingLegal.{histories_are_written_on, written_by}

-- an entry of the driver that is no start-up
abbrev pub IsDriven : Entry → Type 0
IsDriven e = (is_ask e ≡ false) × (is_found e ≡ false)

-- One entry more, of the driver, which may be written; or none.
abbrev pub Writes : Bool → DeskState → DeskState → Type 0
Writes tells old new = (new ≡ old) ⊎ ((e : Entry) × Adds e old new × IsWritten tells old.config old.cap (state_of old) e × IsDriven e)

next_writes : (tells : Bool) (n : Next) (ops : ℕ) (old new : DeskState) (before after : List Told) → IsPostedNext n ops old new before after → Writes tells old new
next_writes tells (PostMember sw id) ops old new before after is = inr (Post id is.result is.given is.refused ops, is.adds, (λ told. is.allowed tt), (refl, refl))
next_writes tells (EndSweep sw) ops old new before after is = inr (Post 0 is.result is.given is.refused ops, is.adds, (λ told. is.allowed tt), (refl, refl))
next_writes tells Nothing ops old new before after is = absurd is
next_writes tells (PickJob j) ops old new before after is = absurd is
next_writes tells (BeginSweep sw) ops old new before after is = absurd is
next_writes tells (PickMember sw id) ops old new before after is = absurd is

pub half_writes : (tells : Bool) (act : Act) (Holds : ℕ → Taken → Type 0) (Fits : Type 0) (old new : DeskState) (before after : List Told) (d : DeviceTold)
    → IsHalf act Holds Fits old new before after d → (tells ≡ true → Fits) → Writes tells old new
half_writes tells (Ended turned.Off) Holds Fits old new before after d is fits = inl is.0.0
half_writes tells (Ended turned.Picked) Holds Fits old new before after d is fits = inr (Pick is.0 is.1.kind is.1.taken _, is.1.adds, (λ told. is.1.allowed), (refl, refl))
half_writes tells (Ended turned.Posted) Holds Fits old new before after d is fits = elim is [
  | inl held ↦ inr (_, held.is.adds, (λ told. held.is.allowed (fits told)), (refl, refl))
  | inr next ↦ next_writes tells (next_of old.config (state_of old)) _ old new before after next.1
]
half_writes tells (Ended turned.Idle) Holds Fits old new before after d is fits = inl is.0.0
half_writes tells (Ended turned.Worked) Holds Fits old new before after d is fits = absurd is
half_writes tells Device Holds Fits old new before after d is fits = inl is.0.0

-- WHAT THE VALUE KEEPS
pub writes_terms : (tells : Bool) (old new : DeskState) → Writes tells old new → terms_of (record { desk = new; tells = tells }) ≡ terms_of (record { desk = old; tells = tells })
writes_terms tells old new (inl same) = ap (λ (x : DeskState). terms_of (record { desk = x; tells = tells })) same
writes_terms tells old new (inr (e, adds, written, driven)) = ap (λ (x : DeskState). terms_of (record { desk = x; tells = tells })) adds

pub writes_on : (tells : Bool) (old new : DeskState) → Writes tells old new → AreWritten tells old.config old.cap at_first old.entries
    → AreWritten tells new.config new.cap at_first new.entries
writes_on tells old new (inl same) are = subst (λ (x : DeskState). AreWritten tells x.config x.cap at_first x.entries) (sym same) are
writes_on tells old new (inr (e, adds, written, driven)) are = subst (λ (x : DeskState). AreWritten tells x.config x.cap at_first x.entries) (sym adds)
    (histories_are_written_on tells old.config old.cap at_first old.entries e are written)

pub locked_on : (tells : Bool) (old new : DeskState) (staging staging_new : StagingState) → Writes tells old new → staging_new.room ≡ staging.room
    → IsTrue (state_of new).started → IsLocked old staging tells → IsLocked new staging_new tells
locked_on tells old new staging staging_new writes room started is =
    let config : new.config ≡ old.config = ap (λ (t : Terms). t.config) (writes_terms tells old new writes) in record {
      stages = subst (λ (c : Configuration). StagesAll c staging_new) (sym config) (λ id. rw room (is.stages id));
      started = started;
      written = writes_on tells old new writes is.written;
    }

-- THE SECOND HALF
abbrev pub IfDriven : Option Entry → Type 0
IfDriven None = Unit {0}
IfDriven (Some e) = IsDriven e

wrote_driven : (number : ℕ) (mark : Option Mark) (ops : ℕ) → IfDriven (wrote_by number mark ops)
wrote_driven number None ops = tt
wrote_driven number (Some mark) ops = (refl, refl)

settled_driven : (old new : Stand) (ops : ℕ) → IfDriven (settled_by old new ops)
settled_driven (Open j) (Closed JobOk given) ops = wrote_driven j.number j.mark ops
settled_driven old new ops = tt

entry_driven : (answer : DeviceTurn) (old new : Stand) (ops : ℕ) → IfDriven (entry_by answer old new ops)
entry_driven turn.Off old new ops = (refl, refl)
entry_driven turn.Idle old new ops = settled_driven old new ops
entry_driven turn.Worked old new ops = settled_driven old new ops

adds_writes : (tells : Bool) (o : Option Entry) (old new : DeskState) → AddsBy o old new → IfDriven o → Writes tells old new
adds_writes tells None old new adds driven = inl adds
adds_writes tells (Some e) old new adds driven = inr (e, adds.0, written_by tells old.config old.cap (state_of old) e adds.1, driven)

pub turn_writes : (tells : Bool) (turned : DeviceTurn) (answer : Turned) (desk desk_new : DeskState) (hand hand_new : Option HandState) (old now : DeviceTold)
    → TakesTurn turned answer desk desk_new hand hand_new now → IsBehindTurn turned desk hand old now → Writes tells desk desk_new
turn_writes tells turned answer desk desk_new hand hand_new old now takes behind =
    adds_writes tells (entry_by turned old.stand now.stand (ops_of now)) desk desk_new (takes.adds old behind) (entry_driven turned old.stand now.stand (ops_of now))

-- the power stays off
pub half_off : (act : Act) (Holds : ℕ → Taken → Type 0) (Fits : Type 0) (old new : DeskState) (before after : List Told) (d : DeviceTold)
    → IsHalf act Holds Fits old new before after d → act ≡ Ended turned.Off → (state_of old).off ≡ true → (state_of new).off ≡ true
half_off (Ended turned.Off) Holds Fits old new before after d is now off = ap (λ (x : DeskState). (state_of x).off) is.0.0 ∙ off
half_off act Holds Fits old new before after d is now off = cc
