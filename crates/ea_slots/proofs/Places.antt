-- Where the steps and the reads of a job lie.
use Rattle.std.specs.Prelude.{◌-◌, ◌/◌, ◌%◌}
use Rattle.std.proofs.Common.{◌≡◌, ◌<◌, ◌≤◌, ◌+◌, ◌*◌, ℕ, suc, List, length, take, Some, refl, sym, ap, ◌∙◌, subst, arith}
use Rattle.std.proofs.Math.Nat.{mul-mod_left, add-mul-mod_self_right}
use Rattle.nv_base.specs.declared.geometry.Geometry.{Geometry}
use Rattle.nv_base.specs.declared.job.DeviceOp.{DeviceOp}
use Rattle.nv_base.specs.declared.job.DeviceOp.TheVariants.{Read, Write, Invalidate, Erase}
use Rattle.nv_base.specs.Geometry.{IsLegal, size_of}
use Rattle.nv_base.specs.Count.{next_count}
use Rattle.memif.specs.declared.answer.JobResult.TheVariants.{JobOk, JobFailed}
use Rattle.nv_base.proofs.Shapes.{parts}
use Rattle.std.proofs.Math.Nat.{mul-le-mul_right, div-add-mod}
use Rattle.nv_base.specs.Pages.{body_pages_of}
use Rattle.std.specs.List.{All}
use Rattle.fls_model.specs.declared.flash.FlashAnswer.{FlashAnswer}
use Rattle.fls_model.specs.declared.flash.FlashAnswer.TheVariants.{Done, Failed, Off}
use Rattle.fls_model.specs.Read.{IsRead}
use Rattle.fls_model.specs.Step.{programs}
use Rattle.fls_model.specs.Told.{Told, HasRange}
use Rattle.fls_jobs.specs.CallOf.{closed_as}
use Rattle.fls_jobs.specs.State.{FlsState, IsDriverState}
use Rattle.ea_image.specs.declared.slot_head.SlotHead.{SlotHead}
use Rattle.ea_image.specs.declared.step.SlotStep.{SlotStep}
use Rattle.ea_image.specs.declared.step.SlotStep.TheVariants.{Head}
use Rattle.ea_image.specs.declared.which.Which.{Which}
use Rattle.ea_image.specs.SlotHead.{slot_head_page}
use Rattle.ea_image.specs.declared.which.Which.TheVariants.{Slot0, Slot1}
use Rattle.ea_image.specs.Slots.{head_sector, body_sector, other, place_of_page}
use Rattle.ea_image.proofs.Reach.{sector_inside}
use Rattle.ea_told.specs.Device.{state_at}
use Rattle.ea_told.specs.Turn.{ReadsContent, ended_as, read_as, read_failed}
use Rattle.ea_image.specs.Steps.{step_op, IsStepOf}
use Rattle.ea_told.specs.declared.job.EaJob.{EaJob}
use Rattle.ea_told.specs.Making.{Making}
use Rattle.ea_told.specs.Parts.{Parts}
use Rattle.ea_told.specs.Inside.{IsSound, IsLengthOf}
use Rattle.ea_told.proofs.Lists.{entry_is, entry_length}
use Rattle.ea_slots.specs.Calls.{page_of}
use Rattle.ea_slots.proofs.Telling.{job_in}

-- a page of a sector is one of the flash
pub page_aligned : (g : Geometry) (k q : ℕ) → IsLegal g → (k * g.sector + q * g.page) % g.page ≡ 0
page_aligned g k q legal =
    let whole : g.sector ≡ g.sector / g.page * g.page = parts g.sector g.page legal.whole_pages in
    let e : k * (g.sector / g.page * g.page) ≡ k * (g.sector / g.page) * g.page = grind arith in
    add-mul-mod_self_right (k * g.sector) q g.page ∙ ap (λ (x : ℕ). x % g.page) (ap (λ (x : ℕ). k * x) whole ∙ e) ∙ mul-mod_left (k * (g.sector / g.page)) g.page

-- the program of a head is its step
pub head_op : (g : Geometry) (j : ℕ) (w : Which) (h : SlotHead) (content : List ℕ) (step : SlotStep) (address : ℕ) (page before : List ℕ)
    → step ≡ Head → address ≡ place_of_page g (head_sector j w) 0 → page ≡ page_of g.page h content step before → programs address page ≡ step_op g j w h content step
head_op g j w h content step address page before is at put =
    let written : page ≡ slot_head_page g.page h = put ∙ ap (λ (x : SlotStep). page_of g.page h content x before) is in
    ap (λ (a : ℕ). programs a page) at ∙ ap (λ (p : List ℕ). programs (place_of_page g (head_sector j w) 0) p) written ∙ sym (ap (step_op g j w h content) is)

-- A JOB'S PLACE
pub of_length : (op : DeviceOp) (n size : ℕ) → IsLengthOf op n size → n ≤ size
of_length Read n size is = omega (arith, is)
of_length Write n size is = omega (arith, is)
of_length Invalidate n size is = omega (arith, is)
of_length Erase n size is = omega (arith, is)

module _ (m : Making) (entry : Told) (s : Parts) (j : EaJob) (sound : IsSound m entry s) (job : s.job ≡ Some j) where
  low_in : j.place < length m.numbers
  low_in =
      let is = job_in m entry s j sound job in
      let e = (entry_is 0 m.numbers j.number.0 j.place (j.number, is.size) is.entry).high in omega (arith, e)

  pub place_in : j.place < length s.states
  place_in = (let low = low_in in let states = sound.made_for.states in omega (arith, low, states))

  pub place_small : j.place < 16
  place_small = (let low = low_in in let room = sound.made_for.slots.room in let most = sound.made_for.slots.legal.sectors_high in omega (arith, low, room, most))

  pub few_in : j.length ≤ length s.content
  few_in =
      let is = job_in m entry s j sound job in
      let few = of_length j.op j.length is.size is.fits in
      let fit = (entry_length 0 0 m.numbers m.geometry.sector j.number.0 j.place (j.number, is.size) sound.made_for.slots.lengths sound.made_for.slots.fit is.entry).2 in
      let room = sound.made_for.room in
      omega (arith, few, fit, room)

  pub sector_below : (w : Which) (k : ℕ) → k ≡ head_sector j.place w → k + 1 < s.geometry.sectors
  sector_below w k is =
      let e = sector_inside (length m.numbers) j.place w low_in in
      let room = sound.made_for.slots.room in
      let g : s.geometry.sectors ≡ m.geometry.sectors = ap (λ (x : Geometry). x.sectors) sound.made_for.geometry in
      omega (arith, e, room, g, is)

  pub range_in : IsDriverState s.fls → (w : Which) (k a : ℕ) → k ≡ head_sector j.place w → a ≡ place_of_page s.geometry (k + 1) 0 → HasRange s.fls.flash a j.length
  range_in driver w k a is at =
      let flash : s.fls.flash.geometry ≡ s.geometry = (driver.attached sound.made_for.idle.attached).geometry ∙ sound.made_for.driver ∙ sym sound.made_for.geometry in
      let few = few_in in
      let room = sound.made_for.room in
      let same : s.geometry.sector ≡ m.geometry.sector = ap (λ (x : Geometry). x.sector) sound.made_for.geometry in
      let below : suc (k + 1) ≤ s.geometry.sectors = sector_below w k is in
      let le = mul-le-mul_right s.geometry.sector below in
      let one : (k + 1) * s.geometry.sector ≡ k * s.geometry.sector + s.geometry.sector = grind arith in
      let two : suc (k + 1) * s.geometry.sector ≡ k * s.geometry.sector + 2 * s.geometry.sector = grind arith in
      let all : s.geometry.sector * s.geometry.sectors ≡ s.geometry.sectors * s.geometry.sector = grind arith in
      let inside : a + j.length ≤ size_of s.geometry = omega (arith, few, room, same, le, one, two, all, at) in
      record { inside = subst (λ (g : Geometry). a + j.length ≤ size_of g) (sym flash) inside }

  pub length_in : j.length ≤ 4096
  length_in =
      let is = job_in m entry s j sound job in
      let few = of_length j.op j.length is.size is.fits in
      let fit = (entry_length 0 0 m.numbers m.geometry.sector j.number.0 j.place (j.number, is.size) sound.made_for.slots.lengths sound.made_for.slots.fit is.entry).1 in
      omega (arith, few, fit)

  pub step_in : (n p : ℕ) → n ≡ body_pages_of j.length p → p ≡ s.geometry.page → IsStepOf n j.step × (n ≤ 4096)
  step_in n p pages page =
      let own : n ≡ body_pages_of j.length m.geometry.page = pages ∙ ap (body_pages_of j.length) (page ∙ ap (λ (g : Geometry). g.page) sound.made_for.geometry) in
      let x = j.length + (m.geometry.page - 1) in
      let le = mul-le-mul_right (x / m.geometry.page) sound.made_for.slots.legal.page_low in
      let all = div-add-mod x m.geometry.page in
      let high = sound.made_for.slots.legal.page_high in
      let length = length_in in
      let few : n ≤ 4096 = omega (arith, own, le, all, high, length) in
      (subst (λ (k : ℕ). IsStepOf k j.step) (sym own) (job_in m entry s j sound job).step, few)

-- A READ OF A CONTENT
body_is : (place : ℕ) (w : Which) → head_sector place w + 1 ≡ body_sector place w
body_is place Slot0 = refl
body_is place Slot1 = refl

not_done : (a : FlashAnswer) (j : EaJob) (f : FlsState) (content : List ℕ) (s : Parts) → (a ≡ Done → ⊥) → read_failed f content s ≡ read_as a j f content s
not_done Done j f content s never = absurd (never refl)
not_done Failed j f content s never = refl
not_done Off j f content s never = refl

pub content_read : (s : Parts) (j : EaJob) (t : Parts) (w : Which) (k address : ℕ) (a : FlashAnswer) (f : FlsState) (content : List ℕ)
    → w ≡ other (state_at s.states j.place).memory.target → k ≡ head_sector j.place w → address ≡ place_of_page s.geometry (k + 1) 0
    → IsRead address s.fls.flash (take j.length s.content) a (take j.length content) f.flash → f ≡ record s.fls { flash = f.flash; result = closed_as a }
    → length content ≡ length s.content → All (λ (x : ℕ). x < 256) content → t ≡ read_as a j f content s → ReadsContent s j t
content_read s j t w k address a f content which sector at read only room small after =
    let place : address ≡ place_of_page s.geometry (body_sector j.place (other (state_at s.states j.place).memory.target)) 0 =
    at ∙ ap (λ (x : ℕ). place_of_page s.geometry (x + 1) 0) sector ∙ ap (λ (x : ℕ). place_of_page s.geometry x 0) (body_is j.place w) ∙ ap (λ (x : Which). place_of_page s.geometry (body_sector j.place x) 0) which in
    record { answer = a; fls = f; content = content; read = subst (λ (x : ℕ). IsRead x s.fls.flash (take j.length s.content) a (take j.length content) f.flash) place read; only = only; room = room; small = small; after = after }

-- v is what it was as its fields show it, and u what it is behind the end of its job
which_was : {v s : Parts} → v ≡ s → (place : ℕ) (w : Which) → w ≡ other (state_at s.states place).memory.target → w ≡ other (state_at v.states place).memory.target
which_was shown place w which = which ∙ ap (λ (x : Parts). other (state_at x.states place).memory.target) (sym shown)

module _ {v s : Parts} (shown : v ≡ s) (j : EaJob) {u : Parts} (w : Which) (k address : ℕ) (f : FlsState) (content : List ℕ)
    (which : w ≡ other (state_at s.states j.place).memory.target) (sector : k ≡ head_sector j.place w) (at : address ≡ place_of_page v.geometry (k + 1) 0)
    (room : length content ≡ length v.content) (small : All (λ (x : ℕ). x < 256) content) where
  pub content_done : u ≡ ended_as JobOk (record v { fls = f; content = content }) → IsRead address v.fls.flash (take j.length v.content) Done (take j.length content) f.flash → f ≡ record v.fls { flash = f.flash; result = closed_as Done } → ReadsContent s j (record u { given = j.length })
  content_done is read only = subst (λ (x : Parts). ReadsContent x j (record u { given = j.length })) shown
      (content_read v j (record u { given = j.length }) w k address Done f content (which_was shown j.place w which) sector at read only room small (ap (λ (x : Parts). record x { given = j.length }) is))

  pub content_failed : u ≡ ended_as JobFailed (record v { fls = f; content = content }) → (a : FlashAnswer) → (a ≡ Done → ⊥) → IsRead address v.fls.flash (take j.length v.content) a (take j.length content) f.flash → f ≡ record v.fls { flash = f.flash; result = closed_as a }
      → (n : ℕ) → n ≡ next_count u.faults → ReadsContent s j (record u { faults = n })
  content_failed is a never read only n counted =
      let failed : record u { faults = n } ≡ read_failed f content v = ap (λ (x : ℕ). record u { faults = x }) counted ∙ ap (λ (x : Parts). record x { faults = next_count x.faults }) is in
      subst (λ (x : Parts). ReadsContent x j (record u { faults = n })) shown
      (content_read v j (record u { faults = n }) w k address a f content (which_was shown j.place w which) sector at read only room small (failed ∙ not_done a j f content v never))
