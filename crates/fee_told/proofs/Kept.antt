-- What is kept.
use Rattle.std.proofs.Common.{◌≡◌, inl, inr, ℕ, List, refl, ◌∙◌, subst}
use Rattle.nv_base.specs.declared.instance.DeviceNumber.{DeviceNumber}
use Rattle.nv_base.specs.Lengths.{AreLengths}
use Rattle.memif.specs.Told.{Held, Slot, Stand, Open as OpenJob, Ended, slot_at}
use Rattle.memif.specs.Marks.{IsPossible, Keeps}
use Rattle.fee_format.specs.declared.bank_head.BankHead.{BankHead}
use Rattle.fee_image.specs.Image.{Layout}
use Rattle.fee_image.specs.Sound.{IsSoundImage}
use Rattle.fee_image.specs.declared.place.Place.{Place}
use Rattle.fee_image.specs.Log.{Open, Closed, Log}
use Rattle.fee_image.specs.May.{May}
use Rattle.fee_image.specs.Banks.{Old, NoBank, OldBank, Phase, Idle, Erasing, Copying, Sealing, Holds, HoldsOld, HoldsBank}
use Rattle.fee_image.specs.BankLaws.{TakesAppends}
use Rattle.fee_image.proofs.Doubts.{banks_widen, takes_within}
use Rattle.fee_told.specs.Slots.{Memory, banks_with, IsWorkOf, HasJob, settled_in, slots_held, may_told, IsCopied}
use Rattle.fee_told.specs.SlotLaws.{IsHeld, SamePlaces, GoesOn}
use Rattle.fee_told.specs.Kept.{IsKept, KeptIsFound, CopiesWiden}
use Rattle.fee_told.proofs.Held.{held_anew, images_find, steps_keep}
use Rattle.fee_told.proofs.Steps.{jobs_keep}

keeps_possible : (s t : Slot) (h : Held) → Keeps s t → IsPossible t h → IsPossible s h
keeps_possible s t h keeps (inl is) = inl (is ∙ keeps.settled)
keeps_possible s t h keeps (inr has) = inr (keeps.doubts h has)

pub kept_is_found : KeptIsFound
kept_is_found l numbers old image m t copied legal kept n =
    keeps_possible (slot_at numbers (slots_held l numbers old m) n) (slot_at numbers (slots_held l numbers image t) n) _ (kept.keeps n)
    (images_find l numbers (slots_held l numbers image t) image (banks_with t (may_told l numbers image t) copied) legal kept.held.banks (λ number length x is. is) n)

-- PHASES AND TAILS
pub takes_copied : (l : Layout) (numbers : List (DeviceNumber × ℕ)) (bytes : List ℕ) (phase : Phase) (old : Old) (copied : May) → TakesAppends phase → IsCopied l numbers bytes phase old copied
takes_copied l numbers bytes Idle old copied takes = tt
takes_copied l numbers bytes (Erasing n) old copied takes = tt
takes_copied l numbers bytes (Copying log) old copied takes = tt
takes_copied l numbers bytes (Sealing log) old copied takes = absurd takes

pub none_open : (ns : List (DeviceNumber × ℕ)) (ps : List Place) (stand : Stand) → IsWorkOf ns ps stand Open
none_open ns ps (OpenJob j) = tt
none_open ns ps (Ended result given) = tt

pub none_closed : (ns : List (DeviceNumber × ℕ)) (ps : List Place) (stand : Stand) → IsWorkOf ns ps stand Closed
none_closed ns ps (OpenJob j) = tt
none_closed ns ps (Ended result given) = tt

-- a job that goes on, or ends, without a record
pub copies_widen : CopiesWiden
copies_widen l numbers bytes m copied wide is_held more takes = record {
  banks = banks_widen l numbers bytes (banks_with m (may_told l numbers bytes m) copied) (may_told l numbers bytes m) wide is_held.banks (λ number length x is. is) more (takes_within m.phase wide (may_told l numbers bytes m) takes);
  job = is_held.job;
  seal = takes_copied l numbers bytes m.phase m.old wide takes;
}

-- BANKS
pub old_of : (l : Layout) (numbers : List (DeviceNumber × ℕ)) (bytes : List ℕ) (t : ℕ) (o : Old) (may : May) (k : ℕ) (h : BankHead) (log : Log) → o ≡ OldBank k h log → HoldsOld l numbers bytes t o may → (k ≡ t → ⊥) × HoldsBank l numbers bytes k h log may
old_of l numbers bytes t o may k h log is holds = (let here : HoldsOld l numbers bytes t (OldBank k h log) may = subst (λ (x : Old). HoldsOld l numbers bytes t x may) is holds in here)

pub same_places : (o : Old) → SamePlaces o o
same_places NoBank = tt
same_places (OldBank k h log) = (refl, refl, refl)

-- a step behind which no more may be found, and in which the places stay
pub kept_by : (l : Layout) (numbers : List (DeviceNumber × ℕ)) (old new : List ℕ) (m t : Memory) (copied : May)
    → AreLengths 0 numbers → Holds l numbers new (banks_with t (may_told l numbers old m) copied) → settled_in l numbers new t.old ≡ settled_in l numbers old m.old → GoesOn m.stand t.stand
    → HasJob numbers t.stand t.old → IsCopied l numbers new t.phase t.old copied → (IsSoundImage l old → IsSoundImage l new) → IsKept l numbers old new m t copied
kept_by l numbers old new m t copied lengths holds same goes job seal sound = record {
  held = held_anew l numbers new t (may_told l numbers old m) copied lengths holds job seal;
  keeps = steps_keep l numbers old new m t copied holds same goes;
  sound = sound;
}

-- a change in memory alone
pub kept_memory : (l : Layout) (numbers : List (DeviceNumber × ℕ)) (bytes : List ℕ) (m t : Memory) (before may copied : May)
    → AreLengths 0 numbers → IsHeld l numbers bytes m before → Holds l numbers bytes (banks_with t may copied) → SamePlaces m.old t.old → GoesOn m.stand t.stand
    → HasJob numbers t.stand t.old → IsCopied l numbers bytes t.phase t.old copied → IsKept l numbers bytes bytes m t copied
kept_memory l numbers bytes m t before may copied lengths is_held holds same goes job seal = record {
  held = held_anew l numbers bytes t may copied lengths holds job seal;
  keeps = jobs_keep l numbers bytes m t before is_held same goes;
  sound = λ sound. sound;
}
