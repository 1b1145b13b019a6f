-- The list of the marks that were found.
use Rattle.std.proofs.Common.{◌≡◌, ◌≢◌, ℕ, ◌/◌, ◌%◌, ◌<◌, ◌≤◌, true, false, List, [], ◌∷◌, map, length, get_or, Option, Some, None, IfSome, zero, suc, refl, sym, ◌∙◌, subst, inl, inr, arith}
use Rattle.std.proofs.lemmas.Bool.{cases_Bool}
use Rattle.std.proofs.lemmas.Bool.Decides.{nat_tests}
use Rattle.block_machine.specs.nv_base.Lengths.{AreLengths}
use Rattle.block_machine.specs.nv_base.Marks.{instance_of, listed}
use Rattle.block_machine.specs.nv_base.declared.instance.Instance.{Instance}
use Rattle.block_machine.specs.nv_base.declared.instance.DeviceNumber.{DeviceNumber}
use Rattle.block_machine.specs.nv_base.declared.mark.Mark.{Mark}
use Rattle.block_machine.specs.nv_base.declared.mark.Mark.TheVariants.{Content, Invalid, Erased}
use Rattle.memif.specs.Told.{DeviceTold, Slot, slot_at}
use Rattle.block_machine.specs.Blocks.{same_instance}
use Rattle.block_machine.specs.StartUp.{listed_mark}
use Rattle.nv_recorder.specs.declared.found_marks.FoundPlace.{FoundPlace}
use Rattle.nvm_found.specs.Found.{relisted, HasLength, IsListOf, AreHeld}
use Rattle.nv_recorder.specs.Event.{mark_of}
use Rattle.nv_recorder.specs.declared.event.MarkKind.{MarkKind}
use Rattle.nv_recorder.specs.declared.event.MarkKind.TheVariants as kind
use Rattle.nv_recorder.specs.FoundMarks.{number_at, content_at, AreWhole, mark_at, marks_at}
use Rattle.nvm_found.specs.Places.{FirstHeldIn, FirstHeld}

-- ONE INSTANCE
other_number : (a b : ℕ) → a ≢ b → same_instance (instance_of (record { 0 = a })) (instance_of (record { 0 = b })) ≡ false
other_number a b other = elim (cases_Bool (same_instance (instance_of (record { 0 = a })) (instance_of (record { 0 = b })))) [
  | inr off ↦ off
  | inl on ↦
      let blocks : a / 64 ≡ b / 64 = grind (arith, nat_tests) in
      let indices : a % 64 ≡ b % 64 = grind (arith, nat_tests) in
      absurd (other (omega (arith, blocks, indices)))
]

own_number : (i : Instance) → same_instance i i ≡ true
own_number i = grind (arith, nat_tests)

-- a mark before others is listed for its instance, and for no other one
first_listed : (i : Instance) (mark : Mark) (marks : List (Instance × Mark)) → listed_mark marks i ≡ Erased
    → listed_mark (listed i mark marks) i ≡ mark
first_listed i (Content bytes) marks none = rw (own_number i) refl
first_listed i Invalid marks none = rw (own_number i) refl
first_listed i Erased marks none = none

other_listed : (i k : Instance) (mark : Mark) (marks : List (Instance × Mark)) → same_instance i k ≡ false
    → listed_mark (listed k mark marks) i ≡ listed_mark marks i
other_listed i k (Content bytes) marks other = rw other refl
other_listed i k Invalid marks other = rw other refl
other_listed i k Erased marks other = refl

-- THE MARKS OF PLACES
-- a number below those of all places isn't listed
not_listed : (n low : ℕ) (ps : List FoundPlace) → n ≤ low → AreLengths low (map number_at ps) → listed_mark (marks_at ps) (instance_of (record { 0 = n })) ≡ Erased
not_listed n low [] below ascend = refl
not_listed n low (p ∷ ps) below ascend =
    other_listed (instance_of (record { 0 = n })) (instance_of p.number) (mark_at p) (marks_at ps) (other_number n p.number.0 (λ same. omega (arith, below, ascend.0, same)))
    ∙ not_listed n p.number.0 ps (omega (arith, below, ascend.0)) ascend.4

-- each place's mark is listed
abbrev pub AreListed : List (Instance × Mark) → List FoundPlace → Type 0
AreListed marks [] = Unit {0}
AreListed marks (p ∷ ps) = (listed_mark marks (instance_of p.number) ≡ mark_at p) × AreListed marks ps

with_first : (p : FoundPlace) (marks : List (Instance × Mark)) (low : ℕ) (qs : List FoundPlace) → p.number.0 ≤ low → AreLengths low (map number_at qs)
    → AreListed marks qs → AreListed (listed (instance_of p.number) (mark_at p) marks) qs
with_first p marks low [] below ascend each = tt
with_first p marks low (q ∷ qs) below ascend each = (
  other_listed (instance_of q.number) (instance_of p.number) (mark_at p) marks (other_number q.number.0 p.number.0 (λ same. omega (arith, below, ascend.0, same))) ∙ each.0,
  with_first p marks q.number.0 qs (omega (arith, below, ascend.0)) ascend.4 each.1,
)

all_listed : (low : ℕ) (ps : List FoundPlace) → AreLengths low (map number_at ps) → AreListed (marks_at ps) ps
all_listed low [] ascend = tt
all_listed low (p ∷ ps) ascend = (
  first_listed (instance_of p.number) (mark_at p) (marks_at ps) (not_listed p.number.0 p.number.0 ps (omega arith) ascend.4),
  with_first p (marks_at ps) p.number.0 ps (omega arith) ascend.4 (all_listed p.number.0 ps ascend.4),
)

relists : (marks : List (Instance × Mark)) (ps : List FoundPlace) → AreListed marks ps → relisted marks (map number_at ps) ≡ marks_at ps
relists marks [] each = refl
relists marks (p ∷ ps) each = λ i. listed (instance_of p.number) (each.0 i) (relists marks ps each.1 i)

whole_length : (k : MarkKind) (bytes : List ℕ) (n : ℕ) → length bytes ≡ n → HasLength (mark_of k (Some bytes)) n
whole_length kind.Content bytes n is = is
whole_length kind.Invalid bytes n is = tt
whole_length kind.Erased bytes n is = tt

-- a fact on each place's number is one on each number
each_length : (marks : List (Instance × Mark)) (ps : List FoundPlace) → AreWhole ps → AreListed marks ps → (x : DeviceNumber × ℕ) (k : ℕ)
    → (few : k < length (map number_at ps)) (is : get_or (map number_at ps) k x ≡ x) → HasLength (listed_mark marks (instance_of x.0)) x.1
each_length marks [] whole each x k few is = absurd (omega (arith, few))
each_length marks (p ∷ ps) whole each x zero few is =
    subst (λ (y : DeviceNumber × ℕ). HasLength (listed_mark marks (instance_of y.0)) y.1) is
    (subst (λ (m : Mark). HasLength m p.length) (sym each.0) (whole_length p.kind (content_at p) p.length whole.0))
each_length marks (p ∷ ps) whole each x (suc k) few is = each_length marks ps whole.1 each.1 x k (omega (arith, few)) is

each_held : (numbers : List (DeviceNumber × ℕ)) (slots : List Slot) (marks : List (Instance × Mark)) (ps : List FoundPlace)
    → FirstHeldIn numbers slots (length ps) ps → AreListed marks ps → (x : DeviceNumber × ℕ) (k : ℕ)
    → (few : k < length (map number_at ps)) (is : get_or (map number_at ps) k x ≡ x)
    → listed_mark marks (instance_of x.0) ≡ (slot_at numbers slots x.0.0).settled.mark
each_held numbers slots marks [] held each x k few is = absurd (omega (arith, few))
each_held numbers slots marks (p ∷ ps) held each x zero few is =
    subst (λ (y : DeviceNumber × ℕ). listed_mark marks (instance_of y.0) ≡ (slot_at numbers slots y.0.0).settled.mark) is (each.0 ∙ held.0)
each_held numbers slots marks (p ∷ ps) held each x (suc k) few is = each_held numbers slots marks ps held.1 each.1 x k (omega (arith, few)) is

pub is_list : (ps : List FoundPlace) → AreLengths 0 (map number_at ps) → AreWhole ps → IsListOf (map number_at ps) (marks_at ps)
is_list ps ascend whole =
    let each = all_listed 0 ps ascend in
    record { lists = sym (relists (marks_at ps) ps each); lengths = λ x (k, few, is). each_length (marks_at ps) ps whole each x k few is }

held_in : (numbers : List (DeviceNumber × ℕ)) (o : Option (List Slot)) (ps : List FoundPlace) → map number_at ps ≡ numbers
    → AreLengths 0 (map number_at ps) → IfSome o (λ slots. FirstHeldIn numbers slots (length ps) ps)
    → IfSome o (AreHeld numbers (marks_at ps))
held_in numbers (Some slots) ps same ascend held =
    let is : AreHeld (map number_at ps) (marks_at ps) slots = λ x (k, few, is). each_held (map number_at ps) slots (marks_at ps) ps
    (subst (λ ns. FirstHeldIn ns slots (length ps) ps) (sym same) held) (all_listed 0 ps ascend) x k few is in
    subst (λ ns. AreHeld ns (marks_at ps) slots) same is
held_in numbers None ps same ascend held = tt

pub are_held : (d : DeviceTold) (ps : List FoundPlace) → map number_at ps ≡ d.fixed.numbers → AreLengths 0 (map number_at ps)
    → FirstHeld d (length ps) ps → IfSome d.slots (AreHeld d.fixed.numbers (marks_at ps))
are_held d ps same ascend held = held_in d.fixed.numbers d.slots ps same ascend held
