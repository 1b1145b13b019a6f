-- What a step of a switch leaves of the memory.
use Rattle.std.specs.Prelude.{IfSome, is_some}
use Rattle.std.proofs.Common.{◌≡◌, ℕ, Bool, false, List, [], ◌∷◌, Option, Some, None, refl, subst}
use Rattle.std.proofs.lemmas.Bool.{cond_both}
use Rattle.nv_base.specs.Geometry.{sectors_of_bank}
use Rattle.nv_base.specs.declared.geometry.Geometry.{Geometry}
use Rattle.nv_base.specs.declared.instance.DeviceNumber.{DeviceNumber}
use Rattle.nv_base.specs.Held.{Held}
use Rattle.memif.specs.Told.{Stand, slot_at}
use Rattle.fls_model.specs.declared.flash.FlashAnswer.{FlashAnswer}
use Rattle.fls_model.specs.Told.{Told}
use Rattle.fls_jobs.specs.State.{FlsState}
use Rattle.fee_format.specs.declared.rec_head.RecHead.{RecHead}
use Rattle.fee_image.specs.Image.{Layout}
use Rattle.fee_image.specs.declared.place.Place.{Place}
use Rattle.fee_image.specs.May.{May}
use Rattle.fee_image.specs.Copies.{Flag, Each}
use Rattle.fee_switch_laws.specs.fee_switch.declared.active.ActiveBank.{ActiveBank}
use Rattle.fee_switch_laws.specs.fee_log.Index.{clear_flags}
use Rattle.fee_switch_laws.specs.fee_log.Log.{LogState, work_in}
use Rattle.fee_course.specs.declared.course.Course.{Course}
use Rattle.fee_course.specs.declared.course.Course.TheVariants.{Copy, Head}
use Rattle.fee_course.specs.Copies.{next_copy}
use Rattle.fee_course.specs.Course.{settled, IsShort}
use Rattle.fee_switch_laws.specs.fee_switch.Banks.{BanksState}
use Rattle.fee_switch_laws.specs.Shown.{old_shown}
use Rattle.fee_switch_laws.specs.KeepsRoom.{IsRoomy}
use Rattle.promise_device.specs.Making.{Making, banks_of}
use Rattle.fee_told.specs.Slots.{Memory, HasJob, slots_held}
use Rattle.fee_told.specs.Kept.{IsKept}
use Rattle.fee_told.specs.Switches.{Stands}
use Rattle.fee_told.specs.SlotLaws.{IsHeld}
use Rattle.fee_laws.specs.Copied.{flags_of, IsCopying}
use Rattle.fee_laws.specs.Inside.{Parts, memory_of, body_of, IsActiveOf}
use Rattle.fee_laws.specs.Switches.{IsStepping}
use Rattle.fee_laws.proofs.Before.{power, lengths, legal}
use Rattle.fee_laws.proofs.Kept.{keeps_on}
use Rattle.fee_laws.proofs.Canceling.{idle_job}

-- KEPT
-- first the one, then the other
pub kept_both : (l : Layout) (numbers : List (DeviceNumber × ℕ)) (old mid new : List ℕ) (m t u : Memory) (first copied : May)
    → IsKept l numbers old mid m t first → IsKept l numbers mid new t u copied → IsKept l numbers old new m u copied
kept_both l numbers old mid new m t u first copied a b = record {
  held = b.held;
  keeps = λ n. keeps_on (slot_at numbers (slots_held l numbers old m) n) (slot_at numbers (slots_held l numbers mid t) n) (slot_at numbers (slots_held l numbers new u) n) (a.keeps n) (b.keeps n);
  sound = λ sound. b.sound (a.sound sound);
}

-- FLAGS
pub each_clear : (numbers : List (DeviceNumber × ℕ)) (places : List Place) (held : List Held) → Each (λ f. f.copied ≡ false) (flags_of numbers places (clear_flags numbers) held)
each_clear [] places held = tt
each_clear (n ∷ ns) [] held = tt
each_clear (n ∷ ns) (p ∷ ps) [] = tt
each_clear (n ∷ ns) (p ∷ ps) (x ∷ xs) = (refl, each_clear ns ps xs)

-- they are none of what a log shows
pub flags_hidden : (a : Option ActiveBank) (log : LogState) (flags : List Bool) (body : List ℕ) → old_shown a (record log { flags = flags }) body ≡ old_shown a log body
flags_hidden None log flags body = refl
flags_hidden (Some a) log flags body = refl

pub still_active : (s : BanksState) (flags : List Bool) (c : Option Course) (copies : LogState) (a : Option ActiveBank) → IsActiveOf s a → IsActiveOf (record s { course = c; log = record s.log { flags = flags }; copies = copies }) a
still_active s flags c copies None is = λ i. record (is i) { flags = flags }
still_active s flags c copies (Some a) is = is

-- THE COPIES COME
pub settled_copying : (ns : List (DeviceNumber × ℕ)) (ps : List Place) (cs : List Bool) (work : Option RecHead) (buffer : List ℕ) (fs : List Flag) → IsCopying (settled ns ps cs) work buffer fs
settled_copying ns ps cs work buffer fs = cond_both (is_some (next_copy ns ps cs)) (Copy None) Head (λ (c : Course). IsCopying c work buffer fs) (λ e. tt) (λ e. tt)

module _ (m : Making) (entry : Told) (s : Parts) (listed : List (DeviceNumber × ℕ)) (kept count : ℕ) (c : Course) (made : BanksState) (answer : FlashAnswer) (f : FlsState) (is : IsStepping m entry s listed kept count c made answer f) where
  abbrev mem : Memory
  mem = memory_of s

  abbrev l : Layout
  l = banks_of m

  pub roomy : IsRoomy m.reserve s.banks c
  roomy = subst (λ (o : Option Course). IfSome o (IsRoomy m.reserve s.banks)) is.course (is.on.sound.room is.on.started (power m entry s listed kept count is.on)).switch

  pub short : IsShort (sectors_of_bank m.geometry m.banks) c
  short =
      let geo = is.on.sound.made_for.banks_geometry in
      let same = is.on.sound.made_for.shared in
      subst (λ (n : ℕ). IsShort (sectors_of_bank m.geometry n) c) same (subst (λ (g : Geometry). IsShort (sectors_of_bank g s.banks.banks) c) geo
      (subst (λ (o : Option Course). IfSome o (IsShort (sectors_of_bank s.banks.geometry s.banks.banks))) is.course is.on.banks.course))

  pub no_job : (stand : Stand) → HasJob m.numbers stand mem.old
  no_job stand = idle_job m.numbers stand s.banks.active s.banks.log (body_of (work_in s.banks.log.tail) s.content) is.idle

  pub standing : (old : List ℕ) (copied : May) → IsHeld l m.numbers old mem copied → Stands l m.numbers old mem copied
  standing old copied held = record { lengths = lengths m entry s listed kept count is.on; legal = legal m entry s listed kept count is.on; held = held }
