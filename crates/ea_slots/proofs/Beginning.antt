-- A device that was just made.
use Rattle.std.specs.Prelude.{min}
use Rattle.std.specs.List.{All}
use Rattle.std.proofs.Common.{◌≡◌, ◌<◌, ℕ, true, false, List, [], length, replicate, None, refl, sym, ap, ◌∙◌, subst, arith}
use Rattle.std.proofs.lemmas.List.{length-replicate}
use Rattle.std.proofs.lemmas.List.Elements.{All-replicate}
use Rattle.nv_base.specs.Count.{last_count}
use Rattle.nv_base.specs.declared.geometry.Geometry.{Geometry}
use Rattle.nv_base.specs.declared.instance.DeviceNumber.{DeviceNumber}
use Rattle.memif.specs.declared.answer.JobResult.TheVariants.{JobOk}
use Rattle.fls_model.specs.Attach.{IsAttached}
use Rattle.fls_model.specs.Told.{Told, Change}
use Rattle.fls_jobs.specs.declared.answer.FlsResult.TheVariants as fls
use Rattle.fls_jobs.specs.State.{FlsState, just_made}
use Rattle.ea_told.specs.declared.state.SlotState.{SlotState}
use Rattle.ea_told.specs.Making.{Making, HasSlots}
use Rattle.ea_told.specs.Parts.{Parts}
use Rattle.ea_told.specs.States.{no_state}
use Rattle.ea_told.specs.Made.{fresh, IsNew}
use Rattle.ea_told.specs.Inside.{IsSound}
use Rattle.ea_told.specs.Device.{told_of}
use Rattle.ea_told.proofs.Made.{parts_begin}
use Rattle.ea_slots.specs.Whole.{IsMadeOf, part_at}

zeros_small : (n : ℕ) → All (λ (x : ℕ). x < 256) (replicate n 0)
zeros_small n = All-replicate (λ (x : ℕ). x < 256) n 0 (let lt : 0 < 256 = omega arith in lt)

pub makes : (m : Making) (entry : Told) → HasSlots m → (g : Geometry) (numbers : List (DeviceNumber × ℕ)) (flash : Told) (v f : FlsState) (listed : List (DeviceNumber × ℕ)) (states : List SlotState) (content : List ℕ) (starts : ℕ) (operations : List Change)
    → m ≡ record { geometry = g; numbers = numbers } → entry ≡ flash → v ≡ just_made flash g → IsAttached v.geometry v.flash f.flash → f ≡ record v { flash = f.flash; attached = true; job = None; result = fls.JobOk }
    → listed ≡ numbers → states ≡ replicate (length numbers) no_state → content ≡ replicate g.sector 0 → starts ≡ 0 → operations ≡ []
    → IsSound m entry (record { fls = f; geometry = g; numbers = listed; states = states; content = content; job = None; last = JobOk; given = 0; starts = starts; started = false; off = false; ops = 0; faults = 0; operations = operations })
makes m entry slots g numbers flash v f listed states content starts operations making told made attached is same states_are content_is none empty =
    let shape : v.geometry ≡ m.geometry = ap (λ (x : FlsState). x.geometry) made ∙ sym (ap (λ (x : Making). x.geometry) making) in
    let before : v.flash ≡ entry = ap (λ (x : FlsState). x.flash) made ∙ sym told in
    let size : g.sector ≡ m.geometry.sector = sym (ap (λ (x : Making). x.geometry.sector) making) in
    let at : IsAttached m.geometry entry f.flash = subst (λ (x : Geometry). IsAttached x entry f.flash) shape (subst (λ (x : Told). IsAttached v.geometry x f.flash) before attached) in
    let new : IsNew m entry f (replicate g.sector 0) = record {
      slots = slots;
      attached = at;
      driver = ap (λ (x : FlsState). x.geometry) is ∙ shape;
      idle = record { job = ap (λ (x : FlsState). x.job) is; attached = ap (λ (x : FlsState). x.attached) is };
      room = length-replicate {A = ℕ} g.sector 0 ∙ size;
      small = zeros_small g.sector;
    } in
    let first : fresh m f (replicate g.sector 0) ≡ fresh (record { geometry = g; numbers = numbers }) f (replicate g.sector 0) = ap (λ (x : Making). fresh x f (replicate g.sector 0)) making in
    let behind : Parts = record { fls = f; geometry = g; numbers = listed; states = states; content = content; job = None; last = JobOk; given = 0; starts = starts; started = false; off = false; ops = 0; faults = 0; operations = operations } in
    let all : behind ≡ fresh (record { geometry = g; numbers = numbers }) f (replicate g.sector 0) = (λ k. record { fls = f; geometry = g; numbers = same k; states = states_are k; content = content_is k; job = None; last = JobOk; given = 0; starts = none k; started = false; off = false; ops = 0; faults = 0; operations = empty k }) in
    subst (IsSound m entry) (first ∙ sym all) (parts_begin m entry f (replicate g.sector 0) new)

pub is_made : (m : Making) (entry : Told) (g : Geometry) (numbers : List (DeviceNumber × ℕ)) (f : FlsState) (states : List SlotState) (content : List ℕ) (starts : ℕ) (operations : List Change) → starts ≡ 0 → operations ≡ []
    → IsMadeOf m (told_of m entry (record { fls = f; geometry = g; numbers = numbers; states = states; content = content; job = None; last = JobOk; given = 0; starts = starts; started = false; off = false; ops = 0; faults = 0; operations = operations }))
is_made m entry g numbers f states content starts operations none empty = record {
  fixed = refl;
  started = refl;
  stand = refl;
  starts = none;
  ops = ap (λ (changes : List Change). min (length changes) last_count) empty;
  faults = refl;
}

-- its part is that of its flash before
pub has_part : (m : Making) (entry flash : Told) (g : Geometry) (v f : FlsState) (states : List SlotState) (content : List ℕ) → entry ≡ flash → v ≡ just_made flash g → IsAttached v.geometry v.flash f.flash
    → (told_of m entry (record { fls = f; geometry = g; numbers = []; states = states; content = content; job = None; last = JobOk; given = 0; starts = 0; started = false; off = false; ops = 0; faults = 0; operations = [] })).first ≡ part_at entry
has_part m entry flash g v f states content told made attached =
    let before : v.flash ≡ entry = ap (λ (x : FlsState). x.flash) made ∙ sym told in
    let at : IsAttached v.geometry entry f.flash = subst (λ (x : Told). IsAttached v.geometry x f.flash) before attached in
    λ i. record { faults = 0; flash_faults = at.faults i; off = at.off i; planning = at.planning i }
