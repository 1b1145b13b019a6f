-- A job opens, from what its calls answer.
use Rattle.std.specs.Prelude.{IfSome}
use Rattle.std.specs.List.{All}
use Rattle.std.proofs.Common.{◌≡◌, ◌<◌, ◌≤◌, ℕ, Bool, true, List, [], length, take, Option, Some, None, refl, sym, ap, ◌∙◌, subst, arith}
use Rattle.nv_base.specs.declared.instance.DeviceNumber.{DeviceNumber}
use Rattle.nv_base.specs.declared.job.DeviceOp.{DeviceOp}
use Rattle.nv_base.specs.declared.job.DeviceOp.TheVariants.{Read, Write, Invalidate, Erase}
use Rattle.nv_base.specs.declared.mark.Mark.{Mark}
use Rattle.nv_base.specs.declared.mark.Mark.TheVariants.{Content}
use Rattle.memif.specs.Told.{DeviceTold}
use Rattle.memif.specs.Calls.{Opens, ClockStays}
use Rattle.fls_model.specs.Told.{Told}
use Rattle.ea_image.specs.declared.step.SlotStep.TheVariants.{EraseHead}
use Rattle.ea_told.specs.declared.job.EaJob.{EaJob}
use Rattle.ea_told.specs.Making.{Making}
use Rattle.ea_told.specs.Parts.{Parts}
use Rattle.ea_told.specs.Calls.{opened}
use Rattle.ea_told.specs.Device.{mark_of, told_of, clock_of}
use Rattle.ea_told.specs.Inside.{IsSound}
use Rattle.ea_told.proofs.Lists.{entry_length}
use Rattle.ea_told.specs.Laws.{MayOpen}
use Rattle.ea_told.proofs.Opening.{parts_open}
use Rattle.ea_slots.specs.Jobs.{IsJobOf, IsContentOf, AsksFor}
use Rattle.ea_slots.proofs.Places.{of_length}

-- A CONTENT
-- the mark of a job by it
mark_at : (op : DeviceOp) (size : ℕ) (room content : List ℕ) → take (length content) room ≡ content → IsContentOf op size content → mark_of op (take size room) ≡ mark_of op content
mark_at Read size room content front of = refl
mark_at Write size room content front of = ap (λ (bytes : List ℕ). Some (Content bytes)) (ap (λ (k : ℕ). take k room) of ∙ front)
mark_at Invalidate size room content front of = refl
mark_at Erase size room content front of = refl

none_few : (n : ℕ) (content : List ℕ) → content ≡ [] → length content ≤ n
none_few n content none = (let e : length content ≡ 0 = ap (λ (l : List ℕ). length l) none in omega (arith, e))

content_few : (op : DeviceOp) (n : ℕ) (content : List ℕ) → IsContentOf op n content → length content ≤ n
content_few Read n content of = none_few n content of
content_few Write n content of = omega (arith, of)
content_few Invalidate n content of = none_few n content of
content_few Erase n content of = none_few n content of

content_of : (op : DeviceOp) (wanted : Option ℕ) (n : ℕ) (content : List ℕ) → AsksFor op wanted content → (op ≡ Write → IfSome wanted (λ k. k ≡ n)) → IsContentOf op n content
content_of Read wanted n content asks of = asks
content_of Write wanted n content asks of = sym (subst (λ (o : Option ℕ). IfSome o (λ k. k ≡ n)) asks (of refl))
content_of Invalidate wanted n content asks of = asks
content_of Erase wanted n content asks of = asks

-- A JOB
-- as it was asked for
abbrev pub asked_job : DeviceNumber → DeviceOp → Bool → EaJob → EaJob
asked_job number op urgent j = record { number = number; place = j.place; op = op; length = j.length; urgent = urgent; step = EraseHead }

pub its_content : (j : EaJob) (number : DeviceNumber) (op : DeviceOp) (urgent : Bool) (wanted : Option ℕ) (content : List ℕ) → j ≡ asked_job number op urgent j → AsksFor op wanted content → (op ≡ Write → IfSome wanted (λ k. k ≡ j.length))
    → IsContentOf j.op j.length content
its_content j number op urgent wanted content shape asks of = subst (λ (o : DeviceOp). IsContentOf o j.length content) (sym (ap (λ (x : EaJob). x.op) shape)) (content_of op wanted j.length content asks of)

pub opens_as : (j : EaJob) (number : DeviceNumber) (op : DeviceOp) (urgent : Bool) (content : List ℕ) (old new : DeviceTold) → j ≡ asked_job number op urgent j
    → Opens (record { number = j.number.0; mark = mark_of j.op content; urgent = j.urgent }) old new → Opens (record { number = number.0; mark = mark_of op content; urgent = urgent }) old new
opens_as j number op urgent content old new shape opens =
    let a : j.number ≡ number = ap (λ (x : EaJob). x.number) shape in
    let b : j.op ≡ op = ap (λ (x : EaJob). x.op) shape in
    let c : j.urgent ≡ urgent = ap (λ (x : EaJob). x.urgent) shape in
    subst (λ (n : DeviceNumber). Opens (record { number = n.0; mark = mark_of op content; urgent = urgent }) old new) a
    (subst (λ (o : DeviceOp). Opens (record { number = j.number.0; mark = mark_of o content; urgent = urgent }) old new) b
    (subst (λ (u : Bool). Opens (record { number = j.number.0; mark = mark_of j.op content; urgent = u }) old new) c opens))

-- with this room, at whose front its content stands
pub record HasOpened (m : Making) (entry : Told) (v : Parts) (j : EaJob) (content : List ℕ) (t : Parts) : Type 0 where
  pub sound : IsSound m entry t
  pub opens : Opens (record { number = j.number.0; mark = mark_of j.op content; urgent = j.urgent }) (told_of m entry v) (told_of m entry t)
  pub stays : ClockStays (clock_of m entry v) (told_of m entry t) (clock_of m entry t)

-- its fields show w of what was known, v
module _ {m : Making} {entry : Told} {w v : Parts} (shown : w ≡ v) (sound : IsSound m entry v) (started : v.started ≡ true) (shut : v.job ≡ None) {j : EaJob} (job : IsJobOf m j) where
  pub room_for_content : (content : List ℕ) → IsContentOf j.op j.length content → length content ≤ length w.content
  room_for_content content of =
      let few = content_few j.op j.length content of in
      let size = of_length j.op j.length job.size job.fits in
      let fit = (entry_length 0 0 m.numbers m.geometry.sector j.number.0 j.place (j.number, job.size) sound.made_for.slots.lengths sound.made_for.slots.fit job.entry).2 in
      let room = (subst (IsSound m entry) (sym shown) sound).made_for.room in
      omega (arith, few, size, fit, room)

  pub has_opened : (content room : List ℕ) → take (length content) room ≡ content → IsContentOf j.op j.length content → length room ≡ length w.content → All (λ x. x < 256) room
      → HasOpened m entry v j content (opened j room w)
  has_opened content room front of size small =
      let may : MayOpen m entry v j room = record { sound = sound; started = started; shut = shut; size = job.size; entry_is = job.entry; fits = job.fits; step = job.step; room = size ∙ ap (λ (x : Parts). length x.content) shown; small = small } in
      let taken = parts_open m entry v j room may in
      let own : HasOpened m entry v j content (opened j room v) = record {
        sound = taken.sound;
        opens = subst (λ (k : Option Mark). Opens (record { number = j.number.0; mark = k; urgent = j.urgent }) (told_of m entry v) (told_of m entry (opened j room v))) (mark_at j.op j.length room content front of) taken.opens;
        stays = taken.stays;
      } in
      subst (λ (x : Parts). HasOpened m entry v j content (opened j room x)) (sym shown) own
