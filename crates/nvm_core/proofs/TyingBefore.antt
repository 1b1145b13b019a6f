-- The parts of the stack behind an entry.
use Rattle.std.specs.Prelude.{IsTrue, option_map}
use Rattle.std.proofs.Common.{◌≡◌, ℕ, ◌≤◌, Bool, true, false, List, Option, Some, None, refl, sym, ap, ◌∙◌, subst, inl, inr, arith}
use Rattle.nvm_laws.specs.nv_base.Entry.{ops_of}
use Rattle.nvm_laws.specs.memif.Told as device
use Rattle.nvm_laws.specs.memif.Told.{DeviceTold, is_open}
use Rattle.nvm_laws.specs.block_config.Lengths.{lengths_of}
use Rattle.nvm_laws.specs.block_machine.Words.{Entry, Pick, JobKind, Taken, Configuration}
use Rattle.nvm_laws.specs.block_machine.State.{State, Job}
use Rattle.nvm_laws.specs.ram_blocks.Told.{Told}
use Rattle.nvm_laws.specs.block_machine.Steps.{step}
use Rattle.nvm_laws.specs.block_machine.Legal.{IsAllowed, IsDriving}
use Rattle.nvm_laws.specs.nv_desk.Desk.{DeskState, state_of}
use Rattle.nvm_laws.specs.nv_desk_copies.Picks.{IsPicked, PicksNext}
use Rattle.nvm_laws.specs.job_progress.Hand.{HandState}
use Rattle.nvm_laws.specs.job_progress.JobInHand.{IsInHand, IsPaired}
use Rattle.nvm_laws.specs.job_progress.Begins.{hand_for}
use Rattle.nvm_laws.specs.job_progress.Asks.{KeepsPower}
use Rattle.nvm_laws.specs.Ties.{IsTied}
use Rattle.nvm_laws.specs.Turns.{hand_in}
use Rattle.nvm_laws.specs.Halves.{Adds, AddsPick}
use Rattle.nvm_laws.proofs.block_laws.HistoryLaws.{histories_step}
use Rattle.nvm_laws.proofs.Powering.{jobs_keep_power}
use Rattle.nvm_laws.proofs.Beginning.{picks_take_jobs, hands_begin}
use Rattle.nvm_core.specs.Choice.{HasHand, HasNone, IsPickable}
use Rattle.nvm_core.specs.declared.choice.Case.{Case}

-- the driver works
pub drives : (s : State) (ops : ℕ) → IsTrue s.started → s.off ≡ false → s.ops ≤ ops → IsDriving s ops
drives s ops started on later = record { started = started; on = rw on refl; grows = later }

module _ (desk new : DeskState) (e : Entry) (d : DeviceTold) (adds : Adds e desk new) where
  pub state_is : state_of new ≡ step desk.config (state_of desk) e
  state_is = ap state_of adds ∙ histories_step desk.config desk.entries e

  pub tied_behind : (hand : Option HandState) → KeepsPower (state_of desk) (step desk.config (state_of desk) e) e → ops_of e ≡ Some (device.ops_of d)
      → d.started ≡ true → d.fixed.numbers ≡ lengths_of desk.config → IsTrue (state_of desk).started → (state_of desk).off ≡ false
      → IsPaired desk.config (step desk.config (state_of desk) e) hand d → IsTied new hand d
  tied_behind hand power timed up numbers started on paired = record {
    paired = subst (λ (x : DeskState). IsPaired x.config (state_of x) hand d) (sym adds)
        (subst (λ (s : State). IsPaired desk.config s hand d) (sym (histories_step desk.config desk.entries e)) paired);
    up = up;
    numbers = numbers ∙ ap (λ (x : DeskState). lengths_of x.config) (sym adds);
    started = ap (λ (s : State). s.started) state_is ∙ power.started ∙ started;
    later = let ops : (state_of new).ops ≡ device.ops_of d = ap (λ (s : State). s.ops) state_is ∙ power.ops (device.ops_of d) timed in omega (arith, ops);
    off = λ off. let no_off : (state_of new).off ≡ false = ap (λ (s : State). s.off) state_is ∙ power.off ∙ on in cc;
  }

  -- the hand of the job in hand behind the entry
  pub hand_is : option_map (hand_for new.config (state_of new)) (state_of new).hand
      ≡ option_map (hand_for desk.config (step desk.config (state_of desk) e)) (step desk.config (state_of desk) e).hand
  hand_is = ap (λ (x : DeskState). option_map (hand_for x.config (state_of x)) (state_of x).hand) adds
      ∙ ap (λ (s : State). option_map (hand_for desk.config s) s.hand) (histories_step desk.config desk.entries e)

-- PICKS
picked_paired : (c : Configuration) (most : ℕ) (s : State) (block ops : ℕ) (kind : JobKind) (t : Taken) (d : DeviceTold)
    → IsAllowed c most s (Pick block kind t ops) → is_open d.stand ≡ false
    → IsPaired c (step c s (Pick block kind t ops)) (option_map (hand_for c (step c s (Pick block kind t ops))) (step c s (Pick block kind t ops)).hand) d
picked_paired c most s block ops kind t d allowed closed = elim (picks_take_jobs c most s block ops kind t allowed) [
  | inl none ↦ subst (λ (x : Option Job). IsPaired c (step c s (Pick block kind t ops)) (option_map (hand_for c (step c s (Pick block kind t ops))) x) d) (sym none) (none, closed)
  | inr some ↦ subst (λ (x : Option Job). IsPaired c (step c s (Pick block kind t ops)) (option_map (hand_for c (step c s (Pick block kind t ops))) x) d) (sym some.1)
      (hands_begin c (step c s (Pick block kind t ops)) some.0 d some.1 some.2 closed)
]

pub picked_tied : (desk new : DeskState) (d : DeviceTold) (hand : Option HandState)
    (Holds : ℕ → Taken → Type 0) → IsPickable desk d → AddsPick Holds (device.ops_of d) desk new
    → hand ≡ hand_in new → IsTied new hand d
picked_tied desk new d hand Holds may picked begun =
    let (block, is) = picked in
    let e = Pick block is.kind is.taken (device.ops_of d) in
    tied_behind desk new e d is.adds hand (jobs_keep_power desk.config (state_of desk) e refl) refl may.up may.numbers may.started may.on
    (subst (λ (x : Option HandState). IsPaired desk.config (step desk.config (state_of desk) e) x d)
    (sym (begun ∙ hand_is desk new e d is.adds))
    (picked_paired desk.config desk.cap (state_of desk) block (device.ops_of d) is.kind is.taken d is.allowed may.closed))

pub picks_next : (Holds : ℕ → Taken → Type 0) (ops at : ℕ) (old new : DeskState) (before after : List Told) → ops ≡ at
    → PicksNext Holds ops old new before after → AddsPick Holds at old new
picks_next Holds ops at old new before after same is = (is.block, subst (λ (n : ℕ). IsPicked (Holds is.block) is.block n old new) same is.is)

-- THE HAND
pub held_in : (finished : Bool) (desk : DeskState) (hand : Option HandState) (d : DeviceTold) → IsTied desk hand d → (held : HasHand finished desk hand)
    → IsInHand desk.config (state_of desk) held.held d
held_in finished desk hand d tied held = subst (λ (x : Option HandState). IsPaired desk.config (state_of desk) x d) held.is tied.paired

pub none_in : (it : Case) (desk : DeskState) (hand : Option HandState) (d : DeviceTold) → IsTied desk hand d → HasNone it desk hand
    → ((state_of desk).hand ≡ None) × (is_open d.stand ≡ false)
none_in it desk hand d tied none = subst (λ (x : Option HandState). IsPaired desk.config (state_of desk) x d) none.is tied.paired
