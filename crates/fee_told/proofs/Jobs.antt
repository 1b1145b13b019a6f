-- Jobs without a record, and start-ups.
use Rattle.std.proofs.Common.{inl, inr, ℕ, List, sym, subst}
use Rattle.nv_base.specs.declared.instance.DeviceNumber.{DeviceNumber}
use Rattle.memif.specs.Told.{Stand}
use Rattle.fee_image.specs.Bank.{Bank}
use Rattle.fee_image.specs.Image.{bank_in}
use Rattle.fee_image.specs.declared.place.Place.{Place}
use Rattle.fee_image.specs.LogLaws.{loaded_log, IsLoadedTail}
use Rattle.fee_image.specs.Log.{Tail}
use Rattle.fee_image.specs.Banks.{NoBank, OldBank, Idle, Holds}
use Rattle.fee_image.specs.BankLaws.{found_alone}
use Rattle.fee_image.proofs.Starts.{banks_load, no_bank_loads}
use Rattle.fee_told.specs.Slots.{Memory, banks_with, IsWorkOf, may_told}
use Rattle.fee_told.specs.Jobs.{JobsChange, BanksStart, NoBankStarts}
use Rattle.fee_told.proofs.Kept.{none_open, none_closed}
use Rattle.fee_told.proofs.Held.{held_anew}
use Rattle.fee_told.proofs.Steps.{starts_find}

pub jobs_change : JobsChange
jobs_change l numbers bytes m copied stand stands job = held_anew l numbers bytes (record m { stand = stand }) (may_told l numbers bytes m) copied stands.lengths stands.held.banks job stands.held.seal

loaded_work : (ns : List (DeviceNumber × ℕ)) (ps : List Place) (b : Bank) (bytes : List ℕ) (tail : Tail) (stand : Stand) → IsLoadedTail b bytes tail → IsWorkOf ns ps stand tail
loaded_work ns ps b bytes tail stand (inl is) = subst (IsWorkOf ns ps stand) (sym is.0) (none_open ns ps stand)
loaded_work ns ps b bytes tail stand (inr is) = subst (IsWorkOf ns ps stand) (sym is) (none_closed ns ps stand)

pub banks_start : BanksStart
banks_start l numbers bytes slots k target h tail copied stand may active other loaded =
    let b = bank_in l h.format k in
    let t : Memory = record { old = OldBank k h (loaded_log b numbers bytes tail); target = target; phase = Idle; stand = stand } in
    let holds : Holds l numbers bytes (banks_with t (found_alone l bytes) copied) = banks_load l numbers bytes k target h tail copied may.legal may.size active may.target_in other loaded in
    record {
      held = held_anew l numbers bytes t (found_alone l bytes) copied may.lengths holds (loaded_work numbers (loaded_log b numbers bytes tail).places b bytes tail stand loaded) tt;
      starts = starts_find l numbers bytes slots t copied may.possible holds may.shut;
    }

pub no_bank_starts : NoBankStarts
no_bank_starts l numbers bytes slots target copied stand may none =
    let t : Memory = record { old = NoBank; target = target; phase = Idle; stand = stand } in
    let holds : Holds l numbers bytes (banks_with t (found_alone l bytes) copied) = no_bank_loads l numbers bytes target copied may.size none may.target_in in
    record {
      held = held_anew l numbers bytes t (found_alone l bytes) copied may.lengths holds tt tt;
      starts = starts_find l numbers bytes slots t copied may.possible holds may.shut;
    }
