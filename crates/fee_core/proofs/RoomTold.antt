-- What a device tells of its room and its turns.
use Rattle.std.specs.Prelude.{◌&&◌, IfSome, is_some, min, option_map}
use Rattle.std.proofs.Common.{◌≡◌, ◌≤◌, ◌+◌, Bool, true, false, List, ℕ, Option, Some, None, refl, ◌∙◌, subst, arith}
use Rattle.memif.specs.Told.{Fixed, Stand, Open, Ended, is_open}
use Rattle.memif.specs.Calls.{FreesReady, RoomIsLeft, job_first, pages_needed, pages_open, pages_urgent}
use Rattle.fls_model.specs.Told.{Told, ToldBytes}
use Rattle.fee_laws.specs.fee_log.Log.{IsLogState}
use Rattle.fee_course.specs.declared.course.Course.{Course}
use Rattle.fee_course.specs.declared.course.Course.TheVariants.{Erase, Copy, Head, Gate}
use Rattle.fee_laws.specs.fee_switch.Banks.{BanksState, IsBanksState}
use Rattle.fee_laws.specs.fee_switch_laws.Shown.{phase_shown}
use Rattle.promise_device.specs.Making.{Making}
use Rattle.promise_device.specs.Bridge.{free_pages}
use Rattle.promise_device.specs.Room.{TellsWorkOver}
use Rattle.fee_laws.proofs.Clocks.{free_now}
use Rattle.fee_laws.specs.fee_told.Device.{told_of, flash_device, is_switching}
use Rattle.fee_laws.specs.Inside.{device_of, IsSound}
use Rattle.fee_laws.specs.SwitchTold.{TellsSwitchOver}
use Rattle.fee_laws.proofs.FollowFree.{room_is_enough}
use Rattle.fee_laws.proofs.FollowReady.{free_is_ready}
use Rattle.fee_laws.proofs.FollowRoom.{room_is_told}
use Rattle.fee_laws.proofs.SwitchTold.{switch_is_told}
use Rattle.fee_core.specs.Whole.{Whole, Sound, told_in, clock_in}

none_open : (started : Bool) (c : Option Course) (s : BanksState) (body : List ℕ) → started ≡ true → started && is_switching (phase_shown c s body) ≡ false → c ≡ None
none_open true None s body up shut = refl
none_open true (Some (Erase done)) s body up shut = cc shut
none_open true (Some (Copy work)) s body up shut = cc shut
none_open true (Some Head) s body up shut = cc shut
none_open true (Some (Gate failed)) s body up shut = cc shut
none_open false c s body up shut = cc up

some_open : (started : Bool) (c : Option Course) (s : BanksState) (body : List ℕ) → started && is_switching (phase_shown c s body) ≡ true → is_some c ≡ true
some_open true None s body over = cc over
some_open true (Some c) s body over = refl
some_open false c s body over = cc over

pub work_told : (m : Making) (entry : Told) (w : Whole) → Sound m entry w → IsBanksState w.parts.banks → IsLogState w.parts.banks.log → TellsWorkOver m w.parts.operations w.parts.fls.flash (told_of (device_of m entry w.parts))
work_told m entry w sound banks log started on shut =
    let up = sound.parts.off started ∙ on in
    room_is_told m entry w.parts w.numbers w.reserve w.ops
    (record { sound = subst (λ (x : Bool). IsSound m entry w.parts w.numbers w.reserve w.ops x) up sound.parts; started = started; banks = banks; log = log })
    (none_open w.parts.started w.parts.banks.course w.parts.banks _ started shut) sound.follows

pub switch_told : (m : Making) (entry : Told) (w : Whole) → Sound m entry w → IsBanksState w.parts.banks → IsLogState w.parts.banks.log → TellsSwitchOver m entry w.parts.operations w.parts.fls.flash (told_of (device_of m entry w.parts))
switch_told m entry w sound banks log started on over =
    let up = sound.parts.off started ∙ on in
    switch_is_told m entry w.parts w.numbers w.reserve w.ops
    (record { sound = subst (λ (x : Bool). IsSound m entry w.parts w.numbers w.reserve w.ops x) up sound.parts; started = started; banks = banks; log = log })
    (some_open w.parts.started w.parts.banks.course w.parts.banks _ over) sound.follows

-- what is free is ready for urgent writes, as far as it is kept
now_is : (o : Option ToldBytes) (P : List ℕ → Type 0) (image : List ℕ) → option_map (λ (b : ToldBytes). b.now) o ≡ Some image → IfSome o (λ b. P b.now) → P image
now_is None P image is holds = cc is
now_is (Some b) P image is holds = subst P (cc is) holds

pub free_told : (m : Making) (entry : Told) (w : Whole) → Sound m entry w → IsBanksState w.parts.banks → IsLogState w.parts.banks.log → FreesReady (told_in m entry w) (clock_in m entry w)
free_told m entry w sound banks log started on s spare =
    let up = sound.parts.off started ∙ on in
    let (told, (image, is, few)) = free_now (flash_device (device_of m entry w.parts)) s spare in
    let d = told_in m entry w in
    let all = free_is_ready m entry w.parts w.numbers w.reserve w.ops
    (record { sound = subst (λ (x : Bool). IsSound m entry w.parts w.numbers w.reserve w.ops x) up sound.parts; started = started; banks = banks; log = log })
    sound.follows told in
    let most = now_is w.parts.fls.flash.bytes (λ x. min m.reserve (free_pages m w.parts.operations x) ≤ d.ready + pages_urgent d.fixed d.stand) image is all in
    omega (arith, few, most)

open_first : (f : Fixed) (stand : Stand) → job_first f stand ≡ true → is_open stand ≡ true
open_first f (Open j) first = refl
open_first f (Ended result given) first = cc first

-- and enough for a job that needs no more
pub enough_told : (m : Making) (entry : Told) (w : Whole) → Sound m entry w → IsBanksState w.parts.banks → IsLogState w.parts.banks.log → RoomIsLeft (told_in m entry w) (clock_in m entry w)
enough_told m entry w sound banks log started on shut first other s spare needed =
    let up = sound.parts.off started ∙ on in
    let (told, (image, is, few)) = free_now (flash_device (device_of m entry w.parts)) s spare in
    let d = told_in m entry w in
    let all = room_is_enough m entry w.parts w.numbers w.reserve w.ops
    (record { sound = subst (λ (x : Bool). IsSound m entry w.parts w.numbers w.reserve w.ops x) up sound.parts; started = started; banks = banks; log = log })
    (none_open w.parts.started w.parts.banks.course w.parts.banks _ started shut) sound.follows (open_first d.fixed d.stand first) other in
    now_is w.parts.fls.flash.bytes (λ x. pages_needed d.fixed d.stand ≤ free_pages m w.parts.operations x → d.left ≤ pages_open d.fixed d.stand) image is all (omega (arith, few, needed))

-- as its fields show it, w, of what is known, v
pub free_shown : {m : Making} {entry : Told} {w v : Whole} → w ≡ v → Sound m entry v → IsBanksState w.parts.banks → IsLogState w.parts.banks.log → FreesReady (told_in m entry v) (clock_in m entry v)
free_shown {m} {entry} {w} {v} shown sound banks log =
    free_told m entry v sound (subst (λ (x : Whole). IsBanksState x.parts.banks) shown banks) (subst (λ (x : Whole). IsLogState x.parts.banks.log) shown log)

pub enough_shown : {m : Making} {entry : Told} {w v : Whole} → w ≡ v → Sound m entry v → IsBanksState w.parts.banks → IsLogState w.parts.banks.log → RoomIsLeft (told_in m entry v) (clock_in m entry v)
enough_shown {m} {entry} {w} {v} shown sound banks log =
    enough_told m entry v sound (subst (λ (x : Whole). IsBanksState x.parts.banks) shown banks) (subst (λ (x : Whole). IsLogState x.parts.banks.log) shown log)
