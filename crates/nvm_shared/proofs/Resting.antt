-- A turn behind which nothing is pending, or the power is off.
use Rattle.std.specs.Prelude.{IsTrue}
use Rattle.std.proofs.Common.{◌≡◌, inl, inr, ℕ, ◌||◌, true, false, List, [], ◌∷◌, ◌++◌, Option, None, refl, sym, ap, ◌∙◌, subst}
use Rattle.std.proofs.lemmas.List.{append-nil, append_cancel_left}
use Rattle.nvm_core.specs.memif.Told.{DeviceTold, Stand, Open, Ended as Closed, is_open, nothing_open, ops_of}
use Rattle.nvm_core.specs.memif.Clock.{Clock}
use Rattle.nvm_core.specs.block_machine.Words.{Entry, Off, Taken}
use Rattle.nvm_core.specs.block_machine.State.{State}
use Rattle.nvm_core.specs.block_machine.Next.{next_of}
use Rattle.nvm_core.specs.block_machine.Steps.{after}
use Rattle.nvm_core.proofs.block_laws.HistoryLaws.{histories_step}
use Rattle.nvm_core.specs.ram_blocks.Told.{Told}
use Rattle.nvm_core.specs.nv_desk.Desk.{DeskState, state_of}
use Rattle.nvm_core.specs.job_progress.Hand.{HandState}
use Rattle.nvm_core.specs.job_progress.JobInHand.{IsPaired}
use Rattle.nvm_core.specs.nvm_device_laws.Turn.{settled_by}
use Rattle.nvm_core.specs.nvm_laws.AtDevice.{GoesOn}
use Rattle.nvm_core.specs.nvm_laws.Halves.{IsHalf}
use Rattle.nvm_core.specs.nvm_laws.Turns.{AddsBy}
use Rattle.nvm_core.specs.BehindDevice.{TurnsDevice, asked_by}
use Rattle.nvm_core.specs.nvm_laws.declared.turned.Act.TheVariants.{Ended, Device}
use Rattle.nvm_core.specs.nvm_laws.declared.turned.Turned.{Turned}
use Rattle.nvm_core.specs.nvm_laws.declared.turned.Turned.TheVariants as turned
use Rattle.script_walks.specs.Walk.{is_at_rest}
use Rattle.script_walks.proofs.Resting.{at_rest, off_ends, rest_ends}
use Rattle.nvm_shared.specs.Behind.{AreAsks, with_more}
use Rattle.nvm_shared.specs.Passes.{IsDrivenOn}
use Rattle.nvm_shared.specs.Driving.{BeginsTurn, DriverState, EndsTurn, NeedsNoMore}

-- THE END
abbrev HasEnded : State → Type 0
HasEnded s = IsTrue (is_at_rest s || s.off)

-- where only the driver adds, no request comes between
no_asks : (seen seen_new asks : List Entry) → AreAsks asks → IsDrivenOn seen seen_new → seen_new ≡ seen ++ asks → asks ≡ []
no_asks seen seen_new asks are (inl same) is = append_cancel_left seen asks [] (sym is ∙ same ∙ sym (append-nil seen))
no_asks seen seen_new asks are (inr (e, adds, driven)) is = absurd (no asks are (append_cancel_left seen asks (e ∷ []) (sym is ∙ adds)))
  where
    no : (l : List Entry) → AreAsks l → l ≡ e ∷ [] → ⊥
    no l asked same = let first = (subst AreAsks same asked).0 in cc (first, driven)

none_more : (desk : DeskState) (asks : List Entry) → asks ≡ [] → with_more desk asks ≡ desk
none_more desk asks none = ap (with_more desk) none ∙ ap (λ (h : List Entry). record desk { entries = h }) (append-nil desk.entries)

closed_settles : (old new : Stand) (ops : ℕ) → is_open old ≡ false → settled_by old new ops ≡ None
closed_settles (Open j) new ops closed = cc
closed_settles (Closed result given) new ops closed = refl

-- THE FIRST HALF ALONE
half_rests : (answer : Turned) (hand : Option HandState) (Holds : ℕ → Taken → Type 0) (Fits : Type 0) (x y : DeskState) (before after : List Told) (d : DeviceTold)
    → IsHalf (Ended answer) Holds Fits x y before after d → (Ended answer ≡ Ended turned.Off → (state_of y).off ≡ true) → NeedsNoMore answer hand → HasEnded (state_of y)
half_rests turned.Idle hand Holds Fits x y before after d half off no_more =
    rest_ends (state_of y) (ap (λ (z : DeskState). is_at_rest (state_of z)) half.0.0 ∙ at_rest x.config (state_of x) half.1.hand half.1.next)
half_rests turned.Off hand Holds Fits x y before after d half off no_more = off_ends (state_of y) (off refl)
half_rests turned.Worked hand Holds Fits x y before after d half off no_more = absurd half
half_rests turned.Picked hand Holds Fits x y before after d half off no_more = absurd no_more
half_rests turned.Posted hand Holds Fits x y before after d half off no_more = absurd no_more

-- THE DEVICE'S TURN
-- with no job in hand it adds nothing where it works
second_rests : (answer : Turned) (hand : Option HandState) (x y z : DeskState) (asks : List Entry) (d : DeviceTold) (clock : Clock) (d_new : DeviceTold) (clock_new : Clock)
    → TurnsDevice answer d clock d_new clock_new → AddsBy (asked_by answer d.stand d_new.stand (ops_of d_new)) (with_more x asks) y → nothing_open d ≡ false
    → AreAsks asks → IsDrivenOn x.entries y.entries → x ≡ z → (hand ≡ None → (is_open d.stand ≡ false) × (is_at_rest (state_of z) ≡ true)) → NeedsNoMore answer hand → HasEnded (state_of y)
second_rests turned.Idle hand x y z asks d clock d_new clock_new turns adds open_now are driven same none no_more = absurd (cc (open_now, turns.0.0))
second_rests turned.Off hand x y z asks d clock d_new clock_new turns adds open_now are driven same none no_more =
    off_ends (state_of y) (ap (λ (z : DeskState). (state_of z).off) adds.0 ∙ ap (λ (s : State). s.off) (histories_step x.config (x.entries ++ asks) (Off (ops_of d_new))))
second_rests turned.Worked hand x y z asks d clock d_new clock_new turns adds open_now are driven same none no_more =
    let (closed, rest) = none no_more in
    let added : y ≡ with_more x asks = subst (λ (e : Option Entry). AddsBy e (with_more x asks) y) (closed_settles d.stand d_new.stand (ops_of d_new) closed) adds in
    let no_more : asks ≡ [] = no_asks x.entries y.entries asks are driven (ap (λ (z : DeskState). z.entries) added) in
    rest_ends (state_of y) (ap (λ (z : DeskState). is_at_rest (state_of z)) (added ∙ none_more x asks no_more ∙ same) ∙ rest)
second_rests turned.Picked hand x y z asks d clock d_new clock_new turns adds open_now are driven same none no_more = absurd no_more
second_rests turned.Posted hand x y z asks d clock d_new clock_new turns adds open_now are driven same none no_more = absurd no_more

-- A TURN
module _ {D C : Type 0} (told : D → DeviceTold) (clock : D → Clock) (copies : C → List Told) (is_store : C → ℕ → ℕ → List ℕ → Type 0) (looked : C → C → ℕ → ℕ → Type 0) (answer : Turned) (desk : DeskState) (old : DriverState D C) where
  pub ended_rests : (desk_new : DeskState) (new : DriverState D C) → BeginsTurn told clock copies is_store looked (Ended answer) desk desk_new old new
      → (Ended answer ≡ Ended turned.Off → (state_of desk_new).off ≡ true) → NeedsNoMore answer old.hand → HasEnded (state_of desk_new)
  ended_rests desk_new new begins off no_more = half_rests answer old.hand _ _ (with_more desk begins.asks) desk_new _ _ _ begins.half.half off no_more

  pub device_rests : (desk_between desk_new : DeskState) (between new : DriverState D C) → BeginsTurn told clock copies is_store looked Device desk desk_between old between
      → EndsTurn told clock answer desk_between desk_new between new → IsPaired desk.config (state_of desk) old.hand (told old.device)
      → IsDrivenOn desk.entries desk_between.entries → IsDrivenOn desk_between.entries desk_new.entries → NeedsNoMore answer old.hand → HasEnded (state_of desk_new)
  device_rests desk_between desk_new between new begins ends paired first second =
      let no_more : begins.asks ≡ [] = no_asks desk.entries desk_between.entries begins.asks begins.are first (ap (λ (z : DeskState). z.entries) begins.half.half.0.0) in
      let asked : with_more desk begins.asks ≡ desk = none_more desk begins.asks no_more in
      second_rests answer old.hand desk_between desk_new desk ends.asks (told between.device) (clock between.device) (told new.device) (clock new.device) ends.turns ends.adds begins.half.half.1
      ends.are second (begins.half.half.0.0 ∙ asked)
      (λ none.
      let paired_none = subst (λ (h : Option HandState). IsPaired desk.config (state_of desk) h (told old.device)) none paired in
      let goes = subst (λ (h : Option HandState). GoesOn h (told old.device) between.hand (told between.device)) none begins.half.at_device in
      let next = begins.half.half.3 (ap (λ (z : DeskState). (state_of z).hand) asked ∙ paired_none.0) in (
        ap (λ (x : DeviceTold). is_open x.stand) goes.1 ∙ paired_none.1,
        at_rest desk.config (state_of desk) paired_none.0 (ap (λ (z : DeskState). next_of z.config (state_of z)) (sym asked) ∙ next),
      ))
