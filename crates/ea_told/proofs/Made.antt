-- A device that is made, and what its flash is told of at the end.
use Rattle.std.specs.Prelude.{IfSome, replicate}
use Rattle.std.proofs.Common.{◌≡◌, inl, ◌≤◌, ℕ, zero, suc, List, length, Option, Some, None, refl, ap, arith}
use Rattle.nv_base.specs.Plan.{Planning}
use Rattle.nv_base.specs.declared.geometry.Geometry.{Geometry}
use Rattle.fls_model.specs.Attach.{IsFilled, AreBytesOf}
use Rattle.fls_model.specs.Told.{Told, ToldBytes, IfBothTold}
use Rattle.fls_jobs.specs.State.{FlsState}
use Rattle.fls_told.specs.Runs.{IsMade, HasRun, CountsEachCut}
use Rattle.fls_told.proofs.Making.{runs_begin}
use Rattle.fls_told.proofs.Runs.{runs_bridge}
use Rattle.fls_told.proofs.Counted.{run_counts}
use Rattle.ea_told.specs.Making.{Making, entry_of, at_entry}
use Rattle.ea_told.specs.Parts.{Parts}
use Rattle.ea_told.specs.States.{no_state}
use Rattle.ea_told.specs.Device.{state_at, flash_device}
use Rattle.ea_told.specs.Inside.{IsSound}
use Rattle.ea_told.specs.Made.{fresh, IsNew}
use Rattle.ea_told.specs.Laws.{PartsBegin, PartsBridge}
use Rattle.ea_told.proofs.Reading.{slots_attach_sound}

filled_bytes : (g : Geometry) (x y : Option ToldBytes) → IfBothTold x y (IsFilled g) → IfSome y (λ b. AreBytesOf g b.now)
filled_bytes g (Some x) (Some y) both = both.are_bytes
filled_bytes g (Some x) None both = tt
filled_bytes g None (Some y) both = absurd both
filled_bytes g None None both = tt

none_worn : (count i : ℕ) → (state_at (replicate count no_state) i).worn ≡ None
none_worn zero i = refl
none_worn (suc n) zero = refl
none_worn (suc n) (suc i) = none_worn n i

worn_none : (m : Making) (count : ℕ) (o : Option (ℕ × _)) → at_entry None (λ i x. (state_at (replicate count no_state) i).worn) o ≡ None
worn_none m count None = refl
worn_none m count (Some x) = none_worn count x.0

module _ (m : Making) (entry : Told) (f : FlsState) (content : List ℕ) (new : IsNew m entry f content) where
  abbrev s : Parts
  s = fresh m f content

  counted : entry.planning.unplanned ≤ entry.cuts
  counted =
      let same : f.flash.planning.unplanned ≡ entry.planning.unplanned = ap (λ (p : Planning). p.unplanned) new.attached.planning in
      let cuts = new.attached.cuts in
      let few = new.attached.unplanned in
      omega (arith, same, cuts, few)

  cuts : CountsEachCut entry f.flash
  cuts = record { before = counted; since = inl (let same : f.flash.planning.unplanned ≡ entry.planning.unplanned = ap (λ (p : Planning). p.unplanned) new.attached.planning in let c = new.attached.cuts in omega arith) }

  is_made : IsMade (flash_device m entry s)
  is_made = record { attaches = new.attached; operations = refl; faults = refl; worn = λ n. worn_none m (length m.numbers) (entry_of m n) }

  run : HasRun (flash_device m entry s)
  run = runs_begin (flash_device m entry s) is_made (slots_attach_sound m) (run_counts entry f.flash cuts)

  new_sound : IsSound m entry s
  new_sound = record {
    made_for = record {
      slots = new.slots;
      geometry = refl;
      driver = new.driver;
      numbers = refl;
      idle = new.idle;
      bytes = filled_bytes m.geometry entry.bytes f.flash.bytes new.attached.bytes;
      states = Rattle.std.proofs.lemmas.List.length-replicate (length m.numbers) no_state;
      room = new.room;
      small = new.small;
      given = omega arith;
      ended = λ e. cc e;
    };
    run = run;
    rests = λ up. refl;
    held = λ up. cc up;
    stands = λ up. cc up;
    job = tt;
    work = λ on. tt;
    cuts = cuts;
    worn = λ i since e. (let none = none_worn (length m.numbers) i in cc (none, e));
    faults = omega arith;
    ops = refl;
    off = λ up. cc up;
  }

pub parts_begin : PartsBegin
parts_begin m entry f content new = new_sound m entry f content new

pub parts_bridge : PartsBridge
parts_bridge m entry s sound = runs_bridge (flash_device m entry s) sound.run
