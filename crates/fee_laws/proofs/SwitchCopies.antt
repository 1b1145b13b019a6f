-- What the target of an open switch holds of the numbers that are copied, by the records of the banks.
use Rattle.std.specs.Prelude.{map, ◌&&◌, if◌then◌else◌}
use Rattle.std.proofs.Common.{◌≡◌, ◌≤◌, ◌<◌, ◌==◌, ℕ, Bool, true, false, List, [], ◌∷◌, Option, Some, None, refl, ◌∙◌, subst, eq-eqb, arith}
use Rattle.std.proofs.lemmas.Bool.{ne_eqb}
use Rattle.nv_base.specs.Held.{Held, never_written}
use Rattle.nv_base.specs.Lengths.{AreLengths}
use Rattle.nv_base.specs.declared.instance.DeviceNumber.{DeviceNumber}
use Rattle.fee_format.specs.declared.rec_head.RecordKind.{RecordKind}
use Rattle.fee_format.specs.declared.rec_head.RecordKind.TheVariants as kind
use Rattle.fee_image.specs.Bank.{Bank}
use Rattle.fee_image.specs.Copies.{Flag, is_done, shown_by, copied_of}
use Rattle.fee_image.specs.Found.{held_of, held_shown, last_record, last_held}
use Rattle.fee_image.specs.May.{IsAmong}
use Rattle.fee_image.specs.Places.{is_written, place_of_kind, place_shown, held_at, places_of}
use Rattle.fee_image.specs.RecordList.{Rec, records_of, end_of}
use Rattle.fee_image.proofs.Placed.{places_show_last}
use Rattle.fee_image.proofs.Records.{logs_compute}
use Rattle.fee_told.specs.Slots.{held_all}
use Rattle.fee_laws.specs.Copied.{flags_of}
use Rattle.fee_laws.specs.SwitchTold.{AreCopied}
use Rattle.fee_laws.proofs.SwitchWhole.{only_one}

-- WHAT IS SETTLED
-- what these records hold of each number
abbrev pub last_of : List (DeviceNumber × ℕ) → List Rec → List Held
last_of numbers records = map (λ n. last_held n.0.0 n.1 records) numbers

module _ (b : Bank) (bytes : List ℕ) (big : 16 ≤ b.page) where
  abbrev records : List Rec
  records = records_of b bytes

  shows_last : (number length : ℕ) → held_at b bytes length (place_shown (last_record number length records)) ≡ last_held number length records
  shows_last number length = places_show_last b bytes number length records (end_of b bytes) big ((logs_compute b bytes records (end_of b bytes)).1 (refl, refl)).walk

  -- is what is found at their places
  pub placed_hold : (numbers : List (DeviceNumber × ℕ)) → held_all b bytes numbers (places_of numbers records) ≡ last_of numbers records
  placed_hold [] = refl
  placed_hold (n ∷ ns) = λ i. shows_last n.0.0 n.1 i ∷ placed_hold ns i

-- ONE NUMBER
kind_shown : (k : RecordKind) (at count : ℕ) (held : Held) → (if is_written (place_of_kind k at count) then held else never_written) ≡ held
kind_shown kind.Content at count held = refl
kind_shown kind.Invalid at count held = refl
kind_shown kind.Erased at count held = refl

last_shown : (o : Option Rec) → (if is_written (place_shown o) then held_shown o else never_written) ≡ held_shown o
last_shown None = refl
last_shown (Some r) = kind_shown r.head.kind r.at r.head.count (held_of r)

abbrev flag_for : List Rec → DeviceNumber × ℕ → Bool → Flag
flag_for active n copied = record { number = n.0.0; length = n.1; copied = copied; written = is_written (place_shown (last_record n.0.0 n.1 active)); settled = last_held n.0.0 n.1 active }

-- the first flag tells of its own number
own_shown : (f : Flag) (rest : Option (List Held)) (held : Held) → is_done f ≡ true
    → IsAmong (if (f.number == f.number) && (f.length == f.length) then (if is_done f then Some (shown_by f ∷ []) else None) else rest) held → held ≡ shown_by f
own_shown f rest held done among =
    let here = subst (λ (c : Bool). IsAmong (if c && (f.length == f.length) then (if is_done f then Some (shown_by f ∷ []) else None) else rest) held) (eq-eqb f.number f.number refl) among in
    let own = subst (λ (c : Bool). IsAmong (if c then (if is_done f then Some (shown_by f ∷ []) else None) else rest) held) (eq-eqb f.length f.length refl) here in
    only_one held (shown_by f) (subst (λ (c : Bool). IsAmong (if c then Some (shown_by f ∷ []) else None) held) done own)

-- and nothing of a later one
later_shown : (number other : ℕ) (same : Bool) (first rest : Option (List Held)) (held : Held) → number < other → IsAmong (if (number == other) && same then first else rest) held → IsAmong rest held
later_shown number other same first rest held less among = subst (λ (c : Bool). IsAmong (if c && same then first else rest) held) (ne_eqb number other (λ e. omega (arith, e, less))) among

-- ALL NUMBERS
-- where the flags say what the target may show it holds what the active bank holds of each that is copied
pub copies_are : (low : ℕ) (numbers : List (DeviceNumber × ℕ)) (copied : List Bool) (active target : List Rec) → AreLengths low numbers
    → ((number length : ℕ) → low < number → IsAmong (copied_of (flags_of numbers (places_of numbers active) copied (last_of numbers active)) number length) (last_held number length target))
    → AreCopied active target numbers copied
copies_are low [] copied active target are shows = tt
copies_are low (n ∷ ns) [] active target are shows = tt
copies_are low (n ∷ ns) (true ∷ copied) active target are shows =
    let fs = flags_of ns (places_of ns active) copied (last_of ns active) in (
      own_shown (flag_for active n true) (copied_of fs n.0.0 n.1) (last_held n.0.0 n.1 target) refl (shows n.0.0 n.1 are.0) ∙ last_shown (last_record n.0.0 n.1 active),
      copies_are n.0.0 ns copied active target are.4 (λ number length less.
          later_shown n.0.0 number (n.1 == length) (Some (shown_by (flag_for active n true) ∷ [])) (copied_of fs number length) (last_held number length target) less (shows number length (omega (arith, less, are.0)))),
    )
copies_are low (n ∷ ns) (false ∷ copied) active target are shows =
    let f = flag_for active n false in
    let fs = flags_of ns (places_of ns active) copied (last_of ns active) in
    copies_are n.0.0 ns copied active target are.4 (λ number length less.
    later_shown n.0.0 number (n.1 == length) (if is_done f then Some (shown_by f ∷ []) else None) (copied_of fs number length) (last_held number length target) less (shows number length (omega (arith, less, are.0))))
