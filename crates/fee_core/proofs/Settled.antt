-- What a number holds, without its content.
use Rattle.std.specs.Prelude.{map, slice_get, option_map, is_some, IfSome}
use Rattle.std.proofs.Common.{◌≡◌, ◌⊎◌, inl, inr, ◌==◌, ◌+◌, ℕ, Bool, true, false, if◌then◌else◌, List, [], ◌∷◌, Option, Some, None, refl, sym, ap, ◌∙◌, subst, add-one}
use Rattle.nv_base.specs.Lengths.{place_of}
use Rattle.nv_base.specs.declared.instance.DeviceNumber.{DeviceNumber}
use Rattle.memif.specs.declared.answer.PlainMark.{PlainMark}
use Rattle.memif.specs.declared.answer.PlainMark.TheVariants as plain
use Rattle.memif.specs.Told.{Held, never_written, Slot, at_number, slot_at}
use Rattle.memif.specs.Calls.{kind_of}
use Rattle.fls_model.specs.Told.{Told}
use Rattle.fee_image.specs.Bank.{Bank}
use Rattle.fee_image.specs.Image.{bank_in}
use Rattle.fee_image.specs.declared.place.Place.{Place}
use Rattle.fee_image.specs.declared.place.Place.TheVariants.{Content, Invalid, Erased, Unwritten}
use Rattle.fee_image.specs.Places.{held_at}
use Rattle.fee_image.specs.Doubts.{shown_of}
use Rattle.fee_laws.specs.fee_switch.declared.active.ActiveBank.{ActiveBank}
use Rattle.fee_laws.specs.fee_log.Index.{at_index, or_else, place_in}
use Rattle.promise_device.specs.Making.{Making, banks_of}
use Rattle.fee_laws.specs.fee_told.Slots.{slots_held, slots_found, held_all, settled_in, job_leaves}
use Rattle.fee_laws.specs.fee_told.Device.{tells_now, slots_told}
use Rattle.fls_model.specs.Told.{bytes_now}
use Rattle.fee_laws.specs.fee_switch_laws.Shown.{old_shown}
use Rattle.fee_laws.specs.fee_log.Log.{LogState, work_in}
use Rattle.fee_laws.specs.Inside.{Parts, device_of, memory_of, body_of}
use Rattle.fee_laws.proofs.Marks.{none_at, settled_of}
use Rattle.fee_core.specs.Whole.{Whole, Sound}

-- of a place
abbrev pub kind_at : Place → PlainMark
kind_at (Content at count) = plain.Content
kind_at (Invalid count) = plain.Invalid
kind_at (Erased count) = plain.Erased
kind_at Unwritten = plain.Erased

kind_same : (b : Bank) (bytes : List ℕ) (size : ℕ) (place : Place) → kind_at place ≡ kind_of (held_at b bytes size place).mark
kind_same b bytes size (Content at count) = refl
kind_same b bytes size (Invalid count) = refl
kind_same b bytes size (Erased count) = refl
kind_same b bytes size Unwritten = refl

pub kind_erased : (p : Place) → ((count : ℕ) × (p ≡ Erased count)) ⊎ (p ≡ Unwritten) → plain.Erased ≡ kind_at p
kind_erased p (inl (count, e)) = sym (ap kind_at e)
kind_erased p (inr e) = sym (ap kind_at e)

-- WHAT IS SETTLED
settled_by : (a b : Slot) (x y : Held) (t : Bool) → a.settled ≡ x → b.settled ≡ y → (if t then a else b).settled ≡ (if t then x else y)
settled_by a b x y true p q = p
settled_by a b x y false p q = q

-- THE PLACE
later_place : (place : Place) (places : List Place) (o : Option ℕ) → or_else Unwritten (at_index (place ∷ places) (option_map (λ k. k + 1) o)) ≡ or_else Unwritten (at_index places o)
later_place place places None = refl
later_place place places (Some k) = ap (λ (j : ℕ). or_else Unwritten (slice_get (place ∷ places) j)) (add-one k)

place_by : (b : Bank) (bytes : List ℕ) (size : ℕ) (place : Place) (places : List Place) (o : Option ℕ) (y : Held) (t : Bool) → kind_at (or_else Unwritten (at_index places o)) ≡ kind_of y.mark
    → kind_at (or_else Unwritten (at_index (place ∷ places) (if t then Some 0 else option_map (λ k. k + 1) o))) ≡ kind_of (if t then held_at b bytes size place else y).mark
place_by b bytes size place places o y true rest = kind_same b bytes size place
place_by b bytes size place places o y false rest = ap kind_at (later_place place places o) ∙ rest

kind_shown : (b : Bank) (bytes : List ℕ) (ns : List (DeviceNumber × ℕ)) (places : List Place) (n : ℕ) → kind_at (place_in ns places n) ≡ kind_of (at_number never_written ns (held_all b bytes ns places) n).mark
kind_shown b bytes [] places n = refl
kind_shown b bytes (x ∷ xs) [] n = ap kind_at (none_at (place_of (x ∷ xs) n))
kind_shown b bytes (x ∷ xs) (place ∷ places) n = place_by b bytes x.1 place places (place_of xs n) (at_number never_written xs (held_all b bytes xs places) n) (x.0.0 == n) (kind_shown b bytes xs places n)

erased_by : (m : Held) (t : Bool) → m ≡ never_written → (if t then never_written else m) ≡ never_written
erased_by m true e = refl
erased_by m false e = e

none_held : (ns : List (DeviceNumber × ℕ)) (n : ℕ) → at_number never_written ns (map (λ x. never_written) ns) n ≡ never_written
none_held [] n = refl
none_held (x ∷ xs) n = erased_by (at_number never_written xs (map (λ y. never_written) xs) n) (x.0.0 == n) (none_held xs n)

-- WHERE IT IS TOLD
-- the place of a number; without an active bank it was never written
abbrev place_now : Parts → Option ActiveBank → ℕ → Place
place_now s None n = Unwritten
place_now s (Some a) n = place_in s.banks.log.numbers s.banks.log.places n

module _ (m : Making) (entry : Told) (s : Parts) (numbers : s.banks.log.numbers ≡ m.numbers) (n : ℕ) where
  kind_by : (active : Option ActiveBank) (bytes body : List ℕ) → kind_at (place_now s active n) ≡ kind_of (at_number never_written m.numbers (settled_in (banks_of m) m.numbers bytes (old_shown active s.banks.log body)) n).mark
  kind_by None bytes body = sym (ap (λ (h : Held). kind_of h.mark) (none_held m.numbers n))
  kind_by (Some a) bytes body =
      subst (λ (ns : List (DeviceNumber × ℕ)). kind_at (place_in ns s.banks.log.places n) ≡ kind_of (at_number never_written m.numbers (held_all (bank_in (banks_of m) a.head.format a.bank) bytes m.numbers s.banks.log.places) n).mark)
      (sym numbers) (kind_shown (bank_in (banks_of m) a.head.format a.bank) bytes m.numbers s.banks.log.places n)

  kind_in : (bytes : List ℕ) → kind_at (place_now s s.banks.active n) ≡ kind_of (slot_at m.numbers (slots_held (banks_of m) m.numbers bytes (memory_of s)) n).settled.mark
  kind_in bytes =
      let old = (memory_of s).old in
      kind_by s.banks.active bytes (body_of (work_in s.banks.log.tail) s.content)
      ∙ ap (λ (h : Held). kind_of h.mark) (sym (settled_of (shown_of (banks_of m) bytes old) (job_leaves (memory_of s).stand) m.numbers (settled_in (banks_of m) m.numbers bytes old) n))

  -- while it is started
  kind_told : (told started : Bool) (o : Option (List ℕ)) → started ≡ true
      → IfSome (if told then option_map (λ bytes. if started then slots_held (banks_of m) m.numbers bytes (memory_of s) else slots_found (banks_of m) m.numbers bytes) o else None)
      (λ slots. kind_at (place_now s s.banks.active n) ≡ kind_of (slot_at m.numbers slots n).settled.mark)
  kind_told true true (Some bytes) on = kind_in bytes
  kind_told true true None on = tt
  kind_told true false o on = cc on
  kind_told false started o on = tt

  kind_is : s.started ≡ true → IfSome (slots_told (device_of m entry s)) (λ slots. kind_at (place_now s s.banks.active n) ≡ kind_of (slot_at m.numbers slots n).settled.mark)
  kind_is on = kind_told (tells_now (device_of m entry s)) s.started (bytes_now s.fls.flash) on

place_is : (s : Parts) (active : Option ActiveBank) (n : ℕ) → is_some active ≡ true → place_now s active n ≡ place_in s.banks.log.numbers s.banks.log.places n
place_is s None n is = cc is
place_is s (Some a) n is = refl

kinds_told : (o : Option (List Slot)) (started : Bool) (kind : List Slot → PlainMark) (k x : PlainMark) → (started ≡ true → IfSome o (λ slots. k ≡ kind slots)) → x ≡ k → IfSome o (λ slots. started ≡ true → x ≡ kind slots)
kinds_told None started kind k x is same = tt
kinds_told (Some slots) started kind k x is same = λ on. same ∙ is on

module _ {m : Making} {entry : Told} {w v : Whole} (shown : w ≡ v) (sound : Sound m entry v) (n : ℕ) where
  abbrev IsKindOf : Whole → PlainMark → Type 0
  IsKindOf x kind = IfSome (slots_told (device_of m entry x.parts)) (λ slots. x.parts.started ≡ true → kind ≡ kind_of (slot_at m.numbers slots n).settled.mark)

  kind_known : (kind : PlainMark) → kind ≡ kind_at (place_now w.parts w.parts.banks.active n) → IsKindOf v kind
  kind_known kind is =
      let safe = subst (Sound m entry) (sym shown) sound in
      subst (λ (x : Whole). IsKindOf x kind) shown
      (kinds_told (slots_told (device_of m entry w.parts)) w.parts.started (λ slots. kind_of (slot_at m.numbers slots n).settled.mark) (kind_at (place_now w.parts w.parts.banks.active n)) kind (kind_is m entry w.parts safe.parts.made_for.numbers n) is)

  pub kind_none : w.parts.banks.active ≡ None → IsKindOf v plain.Erased
  kind_none none = kind_known plain.Erased (ap (λ (o : Option ActiveBank). kind_at (place_now w.parts o n)) (sym none))

  pub kind_found : (log : LogState) → is_some w.parts.banks.active ≡ true → log ≡ w.parts.banks.log → (place : Place) → place ≡ place_in log.numbers log.places n → (kind : PlainMark) → kind ≡ kind_at place → IsKindOf v kind
  kind_found log active same place found kind is =
      let here = found ∙ ap (λ (l : LogState). place_in l.numbers l.places n) same ∙ sym (place_is w.parts w.parts.banks.active n active) in
      kind_known kind (is ∙ ap kind_at here)
