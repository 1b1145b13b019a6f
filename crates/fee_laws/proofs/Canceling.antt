-- A job is canceled that has no record in work.
use Rattle.std.specs.Prelude.{IsTrue}
use Rattle.std.proofs.Common.{◌≡◌, inr, ℕ, Bool, true, false, if◌then◌else◌, List, Option, Some, None, refl, sym, ◌∙◌, subst, arith}
use Rattle.nv_base.specs.declared.instance.DeviceNumber.{DeviceNumber}
use Rattle.memif.specs.Told.{Slot, Stand, Open, Ended, slot_at}
use Rattle.memif.specs.Marks.{Keeps, KeepsAll}
use Rattle.fls_model.specs.Told.{Told, bytes_now}
use Rattle.fee_image.specs.declared.place.Place.{Place}
use Rattle.fee_image.specs.Banks.{Old, NoBank, OldBank}
use Rattle.fee_switch_laws.specs.fee_switch.declared.active.ActiveBank.{ActiveBank}
use Rattle.fee_switch_laws.specs.fee_log.declared.tail.Tail.{Tail}
use Rattle.fee_switch_laws.specs.fee_log.declared.tail.Tail.TheVariants as tail
use Rattle.fee_switch_laws.specs.fee_log.Log.{LogState, work_in, tail_with}
use Rattle.fee_switch_laws.specs.fee_switch.Banks.{BanksState}
use Rattle.fee_switch_laws.specs.Shown.{old_shown}
use Rattle.promise_device.specs.Making.{Making, banks_of}
use Rattle.fee_told.specs.Slots.{Memory, HasJob, IsWorkOf, slots_held, slots_found}
use Rattle.fee_told.specs.SlotLaws.{SamePlaces, IsHeld}
use Rattle.fee_told.specs.fls_told.Device.{slot_with}
use Rattle.fee_told.proofs.Tells.{tells_keep}
use Rattle.fee_told.specs.Device.{Device, tells_now, told_of, flash_device}
use Rattle.fee_told.proofs.Kept.{same_places}
use Rattle.fee_told.proofs.Jobs.{jobs_change}
use Rattle.fee_told.proofs.Steps.{jobs_keep, places_tell}
use Rattle.fee_told.proofs.ToldBytes.{told_at}
use Rattle.fee_laws.specs.Inside.{Parts, device_of, memory_of, HoldsBehind, IsSound}
use Rattle.fee_laws.specs.Parts.{canceled}
use Rattle.fee_laws.proofs.Starting.{same_bytes}
use Rattle.memif.specs.declared.answer.JobResult.TheVariants.{JobCanceled}
use Rattle.fee_laws.proofs.CallsBehind.{holds_still}

-- WITHOUT A RECORD IN WORK
-- any job may end or open
pub idle_tail : (ns : List (DeviceNumber × ℕ)) (ps : List Place) (stand : Stand) (t : Tail) (body : List ℕ) → work_in t ≡ None → IsWorkOf ns ps stand (tail_with t body)
idle_tail ns ps (Open j) tail.Open body idle = tt
idle_tail ns ps (Open j) (tail.Writes head done) body idle = cc idle
idle_tail ns ps (Open j) (tail.Owes head next) body idle = tt
idle_tail ns ps (Open j) tail.Closed body idle = tt
idle_tail ns ps (Ended r g) tail.Open body idle = tt
idle_tail ns ps (Ended r g) (tail.Writes head done) body idle = cc idle
idle_tail ns ps (Ended r g) (tail.Owes head next) body idle = tt
idle_tail ns ps (Ended r g) tail.Closed body idle = tt

pub idle_job : (ns : List (DeviceNumber × ℕ)) (stand : Stand) (active : Option ActiveBank) (log : LogState) (body : List ℕ) → work_in log.tail ≡ None → HasJob ns stand (old_shown active log body)
idle_job ns stand None log body idle = tt
idle_job ns stand (Some a) log body idle = idle_tail ns log.places stand log.tail body idle

-- PLACES
pub places_on : (a b c : Old) → SamePlaces a b → SamePlaces b c → SamePlaces a c
places_on NoBank NoBank NoBank p q = tt
places_on NoBank NoBank (OldBank k h log) p q = absurd q
places_on NoBank (OldBank k h log) c p q = absurd p
places_on (OldBank k h log) NoBank c p q = absurd p
places_on (OldBank k h log) (OldBank i g next) NoBank p q = absurd q
places_on (OldBank k h log) (OldBank i g next) (OldBank j f last) p q = (q.0 ∙ p.0, q.1 ∙ p.1, q.2 ∙ p.2)

-- WHAT IS TOLD OF THE NUMBERS
-- with any banks of the same places
module _ (m : Making) (entry : Told) (s : Parts) (listed : List (DeviceNumber × ℕ)) (kept count : ℕ) (is_off : Bool) (sound : IsSound m entry s listed kept count is_off) (started : s.started ≡ true) (b : BanksState) (places : SamePlaces (memory_of s).old (memory_of (canceled b s)).old) where
  abbrev d : Device
  d = device_of m entry s

  abbrev t : Device
  t = device_of m entry (canceled b s)

  abbrev st : Stand
  st = (memory_of (canceled b s)).stand

  abbrev pub h : HoldsBehind d
  h = sound.device.held started

  chain : SamePlaces h.behind.old (memory_of (canceled b s)).old
  chain = places_on h.behind.old (memory_of s).old (memory_of (canceled b s)).old h.places places

  abbrev behind : Memory
  behind = record h.behind { stand = st }

  pub held_at : (bytes : List ℕ) → bytes_now s.fls.flash ≡ Some bytes → IsTrue (tells_now d) → IsHeld (banks_of m) m.numbers bytes h.behind h.copied
  held_at bytes at told = told_at s.fls.flash.bytes (λ (x : List ℕ). IsHeld (banks_of m) m.numbers x h.behind h.copied) bytes at (h.banks.held told)

  keeps_at : (bytes : List ℕ) → bytes_now s.fls.flash ≡ Some bytes → IsTrue (tells_now d) → (n : ℕ)
      → Keeps (slot_at m.numbers (slots_held (banks_of m) m.numbers bytes (memory_of s)) n) (slot_at m.numbers (slots_held (banks_of m) m.numbers bytes (memory_of (canceled b s))) n)
  keeps_at bytes at told n =
      let k = jobs_keep (banks_of m) m.numbers bytes h.behind behind h.copied (held_at bytes at told) (same_places h.behind.old) (inr refl) n in
      let before = sym (places_tell (banks_of m) m.numbers bytes h.behind (memory_of s) h.places (sym h.stand)) in
      let after = sym (places_tell (banks_of m) m.numbers bytes behind (memory_of (canceled b s)) chain refl) in
      subst (λ (slots : List Slot). Keeps (slot_at m.numbers (slots_held (banks_of m) m.numbers bytes (memory_of s)) n) (slot_at m.numbers slots n)) after
      (subst (λ (slots : List Slot). Keeps (slot_at m.numbers slots n) (slot_at m.numbers (slots_held (banks_of m) m.numbers bytes behind) n)) before k)

  pub keeps_all : KeepsAll (told_of d) (told_of t)
  keeps_all = tells_keep (flash_device d) (flash_device t) (record { reading = refl; numbers = refl; entry = refl; later = omega arith; old = sound.device.run.alike; new = sound.device.run.alike }) (λ old new told n.
      subst (λ (x : List ℕ). Keeps (slot_with (flash_device d) old n) (slot_with (flash_device t) x n)) (same_bytes (bytes_now s.fls.flash) old new told.1 told.2)
      (subst (λ (x : Bool). Keeps
      (slot_at m.numbers (if x then slots_held (banks_of m) m.numbers old (memory_of s) else slots_found (banks_of m) m.numbers old) n)
      (slot_at m.numbers (if x then slots_held (banks_of m) m.numbers old (memory_of (canceled b s)) else slots_found (banks_of m) m.numbers old) n)) (sym started) (keeps_at old told.1 told.0 n)))

  -- the bytes hold it where any job fits what is behind
  module _ (fits : (stand : Stand) → HasJob m.numbers stand h.behind.old) (on : s.fls.flash.off ≡ false → behind ≡ memory_of (canceled b s)) where
    holds_at : (bytes : List ℕ) → bytes_now s.fls.flash ≡ Some bytes → IsTrue (tells_now d) → IsHeld (banks_of m) m.numbers bytes behind h.copied
    holds_at bytes at told = jobs_change (banks_of m) m.numbers bytes h.behind h.copied st (record { lengths = sound.made_for.space.lengths; legal = h.banks.legal; held = held_at bytes at told }) (fits st)

    pub behind_it : HoldsBehind t
    behind_it = record {
      behind = behind;
      copied = h.copied;
      banks = holds_still m entry s b s.content None JobCanceled 0 h started behind holds_at;
      places = chain;
      stand = refl;
      on = on;
      idle = inr fits;
    }
