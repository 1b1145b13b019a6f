-- A shared stack behind its first start-up.
use Rattle.std.specs.Prelude.{Result, Ok, Err, IfErr, IfOk}
use Rattle.std.proofs.Common.{◌≡◌, inr, ℕ, Bool, true, List, Option, None, sym, ap, ◌∙◌, subst}
use Rattle.nvm_core.specs.memif.Told.{DeviceTold, Part, PartTold, ops_of}
use Rattle.nvm_core.specs.memif.Clock.{Clock}
use Rattle.nvm_core.specs.block_machine.Words.{Entry, Instance, Mark, Configuration}
use Rattle.nvm_core.specs.block_machine.Legal.{IsLegal}
use Rattle.nvm_core.specs.ram_blocks.Told.{Told}
use Rattle.nvm_core.specs.nvm_found.Found.{Finds}
use Rattle.nvm_core.specs.nv_desk.Desk.{DeskState, first_desk}
use Rattle.nvm_core.specs.job_progress.Hand.{HandState}
use Rattle.nvm_core.specs.nvm_laws.declared.turned.FoundAnswer.TheVariants as found
use Rattle.nvm_core.specs.nvm_laws.Keeps.{StackKeepsAsTold}
use Rattle.nvm_core.specs.Stack.{StackState, first_stack}
use Rattle.nvm_core.specs.StartUps.{StartsKeep, StartsUp}
use Rattle.turn_gate.specs.declared.pass.View.{View}
use Rattle.turn_gate.specs.Pass.{beginner, knows}
use Rattle.nvm_shared.specs.declared.terms.Terms.{Terms}
use Rattle.nvm_shared.specs.Locked.{desk_with}
use Rattle.nvm_shared.specs.Passes.{PassValue, SharedState}
use Rattle.nvm_shared.specs.Driving.{DriverState, Drives, stack_of}
use Rattle.nvm_shared.specs.declared.opening.ShareFault.{ShareFault}
use Rattle.nvm_shared.specs.declared.opening.ShareFault.TheVariants as why
use Rattle.nvm_shared.specs.Opening.{IsFirst, IsMade, IsShared, TellsAtFirst, WhyNot, terms_at}

pub if_ok : {A E : Type 0} (P Q : A → Type 0) → ((x : A) → P x → Q x) → (o : Result A E) → IfOk o P → IfOk o Q
if_ok P Q by (Ok x) p = by x p
if_ok P Q by (Err e) p = tt

pub if_err : {A E : Type 0} (P Q : E → Type 0) → ((x : E) → P x → Q x) → (o : Result A E) → IfErr o P → IfErr o Q
if_err P Q by (Ok x) p = tt
if_err P Q by (Err e) p = by e p

-- no memory was left behind the start-up
pub started : {D : Type 0} (told : D → DeviceTold) (old new device : D) (marks : List (Instance × Mark)) (cap : ℕ) (reason : ShareFault) → Finds marks (told old) (told new)
    → (reason ≡ why.Memory) × (device ≡ new) → WhyNot (told old) cap reason (told device)
started {D = D} told old new device marks cap reason finds is =
    subst (λ (f : ShareFault). WhyNot (told old) cap f (told device)) (sym is.0) (inr (marks, subst (λ (x : D). Finds marks (told old) (told x)) (sym is.1) finds))

module _ {D C : Type 0} (told : D → DeviceTold) (clock : D → Clock) (copies : C → List Told) (c : Configuration) (cap : ℕ) (device : D) (own : C) (new : StackState D C)
    (up : StartsUp told (first_stack c cap device own) new) where
  pub one : IsFirst new.desk.entries
  one = (up.marks, ops_of (told new.device), ap (λ (s : StackState D C). s.desk.entries) up.only)

  abbrev pub Keeps : Type 0
  Keeps = StartsKeep found.Ready (first_desk c cap) (told device) (clock device) new.desk (told new.device) (clock new.device)

  pub kept : Keeps → TellsAtFirst c cap (told device) (clock device) → (before : Part → PartTold) × StackKeepsAsTold before new.desk None (told new.device) (clock new.device)
  kept keeps tells = (tells.2.0, keeps tells.2.0 (λ told_now. inr (up.finds.up.restarted.ops ∙ tells.1)) tells.2.1)

  pub legal : Keeps → TellsAtFirst c cap (told device) (clock device) → IsLegal new.desk.config new.desk.cap new.desk.entries
  legal keeps tells =
      let kept_now = (kept keeps tells).1 in
      (kept_now.all (kept_now.begun (up.finds.up.restarted.tells ∙ tells.0) (up.finds.up.restarted.ops ∙ tells.1))).keeps.over.legal

  abbrev pub driver : DriverState D C
  driver = record { device = new.device; copies = new.copies; hand = new.hand }

  is_stack : new ≡ stack_of new.desk driver
  is_stack = ap (λ (b : Bool). record new { ready = b }) (ap (λ (s : StackState D C). s.ready) up.only)
      ∙ ap (λ (b : Bool). record new { ready = true; has_room = b }) (ap (λ (s : StackState D C). s.has_room) up.only)

  pub made : Keeps → (tells : Bool) → (tells ≡ true → TellsAtFirst c cap (told device) (clock device)) → (shared : SharedState) (p : PassValue) (r : DriverState D C)
      → IsShared told copies new tells shared p r → IsMade told clock copies (first_stack c cap device own) tells shared p r
  made keeps tells premise shared p r is =
      let seen : (knows p).seen ≡ new.desk.entries = ap (λ (v : View Entry Terms). v.seen) is.knows_it in
      let desk : new.desk ≡ desk_with shared.terms (knows p).seen =
      sym (ap (λ (t : Terms). desk_with t (knows p).seen) is.terms ∙ ap (desk_with (terms_at new.desk tells)) seen) in
      let parts : driver ≡ r = sym is.driver in
      let drives : Drives told clock copies tells new.desk driver = record {
        tied = is.tied;
        pending = is.pending;
        next = is.next;
        synchronized = is.synchronized;
        kept = λ now. subst (λ (h : Option HandState). (before : Part → PartTold) × StackKeepsAsTold before new.desk h (told new.device) (clock new.device))
            (sym (ap (λ (s : StackState D C). s.hand) up.only)) (kept keeps (premise now));
      } in record {
        terms = is.terms ∙ ap (λ (s : StackState D C). terms_at s.desk tells) up.only;
        own = is.own;
        knows_it = subst (λ (l : List Entry). knows p ≡ beginner l shared.terms) (sym seen) is.knows_it;
        starts = subst (λ (d : DriverState D C). StartsUp told (first_stack c cap device own) (stack_of (desk_with shared.terms (knows p).seen) d)) parts
            (subst (λ (y : DeskState). StartsUp told (first_stack c cap device own) (stack_of y driver)) desk
            (subst (λ (s : StackState D C). StartsUp told (first_stack c cap device own) s) is_stack up));
        drives = subst (λ (d : DriverState D C). Drives told clock copies tells (desk_with shared.terms (knows p).seen) d) parts
            (subst (λ (y : DeskState). Drives told clock copies tells y driver) desk drives);
        keeps = subst (λ (d : DriverState D C). StartsKeep found.Ready (first_desk c cap) (told device) (clock device) (desk_with shared.terms (knows p).seen) (told d.device) (clock d.device)) parts
            (subst (λ (y : DeskState). StartsKeep found.Ready (first_desk c cap) (told device) (clock device) y (told new.device) (clock new.device)) desk keeps);
      }
