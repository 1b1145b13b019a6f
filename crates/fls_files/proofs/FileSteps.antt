-- the changing operations of a flash in a file
use Rattle.std.proofs.Common.{◌≡◌, ◌⊎◌, ◌<◌, ◌≤◌, ℕ, suc, ◌+◌, ◌*◌, Bool, true, false, List, [], ◌∷◌, ◌++◌, length, Option, Some, None, IfSome, refl, ap, sym, ◌∙◌, subst, inl, inr, arith}
use Rattle.std.specs.Prelude.{option_map}
use Rattle.std.proofs.lemmas.List.{map-append}
use Rattle.std.proofs.Math.Nat.{mul_comm, mul-le-mul_right}
use Rattle.nv_base.specs.Count.{last_count, next_count}
use Rattle.nv_base.specs.Geometry.{size_of}
use Rattle.nv_base.specs.Plan.{no_planning}
use Rattle.nv_base.specs.declared.geometry.Geometry.{Geometry}
use Rattle.fls_model.proofs.Kept.{leaves_bytes}
use Rattle.fls_model.specs.Attach.{AreBytesOf}
use Rattle.fls_model.specs.Bytes.{AreBytes}
use Rattle.fls_model.specs.Call.{op_of, IsInside}
use Rattle.fls_model.specs.Op.{Op, MayLeave}
use Rattle.fls_model.specs.Plan.{PlanGoes}
use Rattle.fls_model.specs.Step.{IsStep, IsChanged, Leaves, HasCause, programs, erases}
use Rattle.fls_model.specs.Told.{Told, IfBothTold, Change, ToldBytes, HasPage, HasSector}
use Rattle.fls_model.specs.declared.call.Call.{Call}
use Rattle.fls_model.specs.declared.flash.FlashAnswer.{FlashAnswer}
use Rattle.fls_files.specs.ByteFile.{FileBytes}
use Rattle.fls_files.specs.FileFlash.{told_in_file, told_bytes, in_file_of, bytes_of, LeavesOnDisk}
use Rattle.fls_files.specs.FileFlashInside.{Answers, AskedOf, Finds, HasOperated, IsHeld, IsReady, IsShaped, Operates, changes_of, first_now}

-- an operation within a flash that is attached
pub record Holds (g : Geometry) (torn : Bool) (op : Op) (ok lost lost' : Bool) (f f' : FileBytes) : Type 0 where
  pub whole : torn ≡ false
  pub bytes : AreBytesOf g f.now
  pub some : 0 < length f.now
  pub before : IsReady lost f
  pub operates : HasOperated op ok lost' f f'

inside_of : (op : Op) (m n : ℕ) → n ≡ m → IsInside op m → IsInside op n
inside_of op m n is inside = subst (λ (k : ℕ). IsInside op k) (sym is) inside

-- what is told of it is on the disk
held_ready : (g : Geometry) (torn lost : Bool) (f : FileBytes) → IsHeld g torn lost f → torn ≡ false → IsReady lost f
held_ready g torn lost f held whole = elim held.still [
  | inl is ↦ let no_ : true ≡ false = sym is ∙ whole in cc no_
  | inr is ↦ (is, held.known)
]

attached_holds : (g : Geometry) (torn : Bool) (op : Op) (ok lost lost' : Bool) (h h' : Option FileBytes)
    → IfSome h (IsHeld g torn lost) → ((g.page ≡ 0) × (g.sectors ≡ 0) → ⊥) → IsInside op (size_of g) → IfBothTold h h' (λ f f'. AreBytes f.now → IsInside op (length f.now) → Operates op ok lost lost' f f')
    → IfBothTold h h' (Holds g torn op ok lost lost')
attached_holds g torn op ok lost lost' None None held attached inside operates = tt
attached_holds g torn op ok lost lost' None (Some f') held attached inside operates = absurd operates
attached_holds g torn op ok lost lost' (Some f) None held attached inside operates = absurd operates
attached_holds g torn op ok lost lost' (Some f) (Some f') held attached inside operates = elim held.shape [
  | inl none ↦ absurd (attached none)
  | inr is ↦
      let ready = held_ready g torn lost f held is.0 in
      record { whole = is.0; bytes = is.2; some = is.1; before = ready; operates = operates is.2.bytes (inside_of op (size_of g) (length f.now) is.2.size inside) ready }
]

-- of a page of the flash
pub program_holds : (t : Told) (g : Geometry) (torn : Bool) (address : ℕ) (page : List ℕ) (ok lost lost' : Bool) (h h' : Option FileBytes)
    → g ≡ t.geometry → HasPage t address (length page) → IfSome h (IsHeld g torn lost) → IfBothTold h h' (λ f f'. AreBytes f.now → address + length page ≤ length f.now → Operates (programs address page) ok lost lost' f f')
    → IfBothTold h h' (Holds g torn (programs address page) ok lost lost')
program_holds t g torn address page ok lost lost' h h' is has held operates =
    attached_holds g torn (programs address page) ok lost lost' h h' held (λ none. omega (arith, none.0, ap (λ (k : Geometry). k.page) is, has.attached)) (rw is has.inside) operates

-- of a sector of the flash
pub erase_holds : (t : Told) (g : Geometry) (torn : Bool) (sector : ℕ) (ok lost lost' : Bool) (h h' : Option FileBytes)
    → g ≡ t.geometry → HasSector t sector → IfSome h (IsHeld g torn lost) → IfBothTold h h' (λ f f'. AreBytes f.now → sector * g.sector + g.sector ≤ length f.now → Operates (erases g sector) ok lost lost' f f')
    → IfBothTold h h' (Holds g torn (erases g sector) ok lost lost')
erase_holds t g torn sector ok lost lost' h h' is has held operates =
    let lt : sector < g.sectors = omega (arith, ap (λ (k : Geometry). k.sectors) is, has.inside) in
    let most : suc sector * g.sector ≤ g.sectors * g.sector = mul-le-mul_right g.sector (let s : suc sector ≤ g.sectors = lt in s) in
    let next : suc sector * g.sector ≡ sector * g.sector + g.sector = omega arith in
    attached_holds g torn (erases g sector) ok lost lost' h h' held (λ none. omega (arith, none.1, lt)) (omega (arith, most, next, mul_comm g.sectors g.sector)) operates

-- its fields afterwards
pub still_held : (g : Geometry) (torn : Bool) (op : Op) (ok lost lost' : Bool) (h h' : Option FileBytes) → IfBothTold h h' (Holds g torn op ok lost lost') → IfSome h' (IsHeld g torn lost')
still_held g torn op ok lost lost' None None holds = tt
still_held g torn op ok lost lost' None (Some f') holds = absurd holds
still_held g torn op ok lost lost' (Some f) None holds = tt
still_held g torn op ok lost lost' (Some f) (Some f') holds =
    let are : AreBytesOf g f'.now = leaves_bytes g op f.now f'.now holds.operates.within holds.bytes in
    record { shape = inr (holds.whole, omega (arith, holds.some, are.size, holds.bytes.size), are); still = inr holds.operates.ready.0; known = holds.operates.ready.1 }

-- by its answer
leaves : (op : Op) (ok lost' : Bool) (f f' : FileBytes) (faults faults' : ℕ) (answer : FlashAnswer) → HasOperated op ok lost' f f' → Answers ok faults faults' answer → Leaves op answer f.now f'.now
leaves op true lost' f f' faults faults' answer operates answers = rw (answers.done refl).0 (operates.done refl)
leaves op false lost' f f' faults faults' answer operates answers = rw (answers.failed refl).0 operates.within

notes : (g : Geometry) (op : Op) (call : Call) (before : List ℕ) (answer : FlashAnswer) (asked asked' : List AskedOf) → asked' ≡ asked ++ record { call = call; before = before; answer = answer } ∷ [] → op_of g call ≡ op
    → changes_of g asked' ≡ changes_of g asked ++ record { op = op; before = before; answer = answer } ∷ []
notes g op call before answer asked asked' is of =
    ap (changes_of g) is ∙ map-append (λ a. record { op = op_of g a.call; before = a.before; answer = a.answer }) asked (record { call = call; before = before; answer = answer } ∷ [])
    ∙ (λ i. changes_of g asked ++ record { op = of i; before = before; answer = answer } ∷ [])

told_step : (g : Geometry) (op : Op) (torn ok lost lost' : Bool) (call : Call) (before : List ℕ) (answer : FlashAnswer) (asked asked' : List AskedOf) (faults faults' : ℕ) (h h' : Option FileBytes)
    → IfBothTold h h' (Holds g torn op ok lost lost') → Answers ok faults faults' answer → before ≡ first_now (h ∷ []) → asked' ≡ asked ++ record { call = call; before = before; answer = answer } ∷ [] → op_of g call ≡ op
    → IfBothTold (told_bytes torn (changes_of g asked) h) (told_bytes torn (changes_of g asked') h') (IsChanged op answer)
told_step g op torn ok lost lost' call before answer asked asked' faults faults' None None holds answers same is of = tt
told_step g op torn ok lost lost' call before answer asked asked' faults faults' None (Some f') holds answers same is of = absurd holds
told_step g op torn ok lost lost' call before answer asked asked' faults faults' (Some f) None holds answers same is of = absurd holds
told_step g op torn ok lost lost' call before answer asked asked' faults faults' (Some f) (Some f') holds answers same is of = rw holds.whole (record {
  bytes = leaves op ok lost' f f' faults faults' answer holds.operates answers;
  within = holds.operates.within;
  changes = subst (λ (b : List ℕ). changes_of g asked' ≡ changes_of g asked ++ record { op = op; before = b; answer = answer } ∷ []) same (notes g op call before answer asked asked' is of);
  room = λ n tells. (refl, omega (arith, tells.1));
})

goes : (ok : Bool) (faults faults' : ℕ) (answer : FlashAnswer) → Answers ok faults faults' answer → PlanGoes answer no_planning no_planning
goes true faults faults' answer answers = rw (answers.done refl).0 (record { early = λ due. due; planning = refl })
goes false faults faults' answer answers = rw (answers.failed refl).0 (inr refl)

cause : (g : Geometry) (ops ops' : ℕ) (bytes bytes' : Option ToldBytes) (ok : Bool) (faults faults' : ℕ) (answer : FlashAnswer) → Answers ok faults faults' answer → HasCause answer (told_in_file g ops faults bytes) (told_in_file g ops' faults' bytes')
cause g ops ops' bytes bytes' true faults faults' answer answers = rw (answers.done refl).0 ((answers.done refl).1, refl, refl)
cause g ops ops' bytes bytes' false faults faults' answer answers = rw (answers.failed refl).0 ((answers.failed refl).1, refl, refl)

pub stepped : (g : Geometry) (op : Op) (torn ok lost lost' : Bool) (call : Call) (before : List ℕ) (answer : FlashAnswer) (asked asked' : List AskedOf) (ops ops' faults faults' : ℕ) (h h' : Option FileBytes)
    → IfBothTold h h' (Holds g torn op ok lost lost') → Answers ok faults faults' answer → ops' ≡ next_count ops → before ≡ first_now (h ∷ []) → asked' ≡ asked ++ record { call = call; before = before; answer = answer } ∷ [] → op_of g call ≡ op
    → IsStep op (told_in_file g ops faults (told_bytes torn (changes_of g asked) h)) answer (told_in_file g ops' faults' (told_bytes torn (changes_of g asked') h'))
stepped g op torn ok lost lost' call before answer asked asked' ops ops' faults faults' h h' holds answers next same is of = record {
  geometry = refl;
  ops = next;
  bytes = told_step g op torn ok lost lost' call before answer asked asked' faults faults' h h' holds answers same is of;
  cause = cause g ops ops' _ _ ok faults faults' answer answers;
  planning = goes ok faults faults' answer answers;
  counted = inl (omega arith);
}

-- WHAT IS ON THE DISK
synced_then : (g : Geometry) (op : Op) (torn ok lost lost' : Bool) (cs : List Change) (h h' : Option FileBytes) → IfBothTold h h' (Holds g torn op ok lost lost') → option_map (λ f. f.disk) h' ≡ option_map (λ b. b.now) (told_bytes torn cs h')
synced_then g op torn ok lost lost' cs None None holds = refl
synced_then g op torn ok lost lost' cs None (Some f') holds = absurd holds
synced_then g op torn ok lost lost' cs (Some f) None holds = refl
synced_then g op torn ok lost lost' cs (Some f) (Some f') holds = rw holds.whole (ap (λ (l : List ℕ). Some l) holds.operates.ready.0)

left_on_disk : (g : Geometry) (op : Op) (torn ok lost lost' : Bool) (cs : List Change) (h h' : Option FileBytes) → IfBothTold h h' (Holds g torn op ok lost lost')
    → IfBothTold (option_map (λ b. b.now) (told_bytes torn cs h)) (option_map (λ f. f.disk) h') (MayLeave op)
left_on_disk g op torn ok lost lost' cs None None holds = tt
left_on_disk g op torn ok lost lost' cs None (Some f') holds = absurd holds
left_on_disk g op torn ok lost lost' cs (Some f) None holds = absurd holds
left_on_disk g op torn ok lost lost' cs (Some f) (Some f') holds =
    let now : bytes_of torn f ≡ f.now = ap (λ (t : Bool). bytes_of t f) holds.whole in
    subst (λ (l : List ℕ). MayLeave op l f'.disk) (sym now) (subst (λ (l : List ℕ). MayLeave op f.now l) (sym holds.operates.ready.0) holds.operates.within)

pub on_disk : (g : Geometry) (op : Op) (torn ok lost lost' : Bool) (cs cs' : List Change) (opened opened' : Bool) (ops ops' faults faults' : ℕ) (h h' : Option FileBytes)
    → IfBothTold h h' (Holds g torn op ok lost lost') → LeavesOnDisk op (in_file_of g ops faults torn cs opened h) (in_file_of g ops' faults' torn cs' opened' h')
on_disk g op torn ok lost lost' cs cs' opened opened' ops ops' faults faults' h h' holds = record {
  synced = synced_then g op torn ok lost lost' cs' h h' holds;
  kept = left_on_disk g op torn ok lost lost' cs h h' holds;
}

-- A READ
-- a file that is found is the flash that it was
same_told : (torn lost lost' : Bool) (f f' : FileBytes) → (torn ≡ true) ⊎ (f.disk ≡ f.now) → Finds lost lost' f f' → bytes_of torn f' ≡ bytes_of torn f
same_told true lost lost' f f' still found = refl
same_told false lost lost' f f' (inl is) found = cc is
same_told false lost lost' f f' (inr is) found = (found.same is).1

pub found_told : (g : Geometry) (torn lost lost' : Bool) (cs : List Change) (h h' : Option FileBytes) → IfSome h (IsHeld g torn lost) → IfBothTold h h' (Finds lost lost') → told_bytes torn cs h' ≡ told_bytes torn cs h
found_told g torn lost lost' cs None None held found = refl
found_told g torn lost lost' cs None (Some f') held found = absurd found
found_told g torn lost lost' cs (Some f) None held found = absurd found
found_told g torn lost lost' cs (Some f) (Some f') held found =
    ap (λ (l : List ℕ). Some (record { now = l; changes = Some cs; room = last_count })) (same_told torn lost lost' f f' held.still found)

found_shape : (g : Geometry) (torn lost lost' : Bool) (f f' : FileBytes) → IsHeld g torn lost f → Finds lost lost' f f' → IsShaped g torn f'
found_shape g torn lost lost' f f' held found = elim held.shape [
  | inl none ↦ inl none
  | inr is ↦ subst (λ (l : List ℕ). ((g.page ≡ 0) × (g.sectors ≡ 0)) ⊎ ((torn ≡ false) × (0 < length l) × AreBytesOf g l)) (sym (found.same (held_ready g torn lost f held is.0).0).1) (inr is)
]

found_still : (torn lost lost' : Bool) (f f' : FileBytes) → (torn ≡ true) ⊎ (f.disk ≡ f.now) → Finds lost lost' f f' → (torn ≡ true) ⊎ (f'.disk ≡ f'.now)
found_still torn lost lost' f f' (inl is) found = inl is
found_still torn lost lost' f f' (inr is) found = inr (found.same is).0

pub found_held : (g : Geometry) (torn lost lost' : Bool) (h h' : Option FileBytes) → IfSome h (IsHeld g torn lost) → IfBothTold h h' (Finds lost lost') → IfSome h' (IsHeld g torn lost')
found_held g torn lost lost' None None held found = tt
found_held g torn lost lost' None (Some f') held found = absurd found
found_held g torn lost lost' (Some f) None held found = tt
found_held g torn lost lost' (Some f) (Some f') held found = record {
  shape = found_shape g torn lost lost' f f' held found;
  still = found_still torn lost lost' f f' held.still found;
  known = λ now. found.known held.known now;
}

-- one that was opened is ready to be filled
pub found_ready : (g : Geometry) (torn lost : Bool) (h : Option FileBytes) → IfSome h (IsHeld g torn lost) → IfSome h (λ f. f.disk ≡ f.now) → IfSome h (IsReady lost)
found_ready g torn lost None held still = tt
found_ready g torn lost (Some f) held still = (still, held.known)

-- what was found of the flash holds of it when its file is settled
pub found_then : (P : List ℕ → Type 0) (g : Geometry) (torn lost lost' : Bool) (h h' : Option FileBytes) → IfSome h (IsHeld g torn lost) → IfBothTold h h' (Finds lost lost') → IfSome h (λ f. P (bytes_of torn f)) → IfSome h' (λ f. P (bytes_of torn f))
found_then P g torn lost lost' None None held found is = tt
found_then P g torn lost lost' None (Some f') held found is = absurd found
found_then P g torn lost lost' (Some f) None held found is = tt
found_then P g torn lost lost' (Some f) (Some f') held found is = subst P (sym (same_told torn lost lost' f f' held.still found)) is

no_bytes : AreBytes []
no_bytes k = omega arith

pub flash_bytes : (torn : Bool) (h : Option FileBytes) → IfSome h (λ f. AreBytes f.now) → IfSome h (λ f. AreBytes (bytes_of torn f))
flash_bytes torn None are = tt
flash_bytes true (Some f) are = no_bytes
flash_bytes false (Some f) are = are
