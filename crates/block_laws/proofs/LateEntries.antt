-- Entries that come after the last operation change no mark.
use Rattle.std.specs.List.{list_any}
use Rattle.std.proofs.Common.{◌≡◌, ℕ, ◌<◌, ◌≤◌, nat_le, false, List, [], ◌∷◌, refl, sym, ◌∙◌, subst, ◌⊎◌, inl, inr, arith}
use Rattle.std.proofs.lemmas.Bool.{cases_Bool, or_parts}
use Rattle.std.proofs.lemmas.Bool.Decides.{nat_tests}
use Rattle.block_machine.specs.Words.{Entry, Ask, Pick, Wrote, Post, Off, Found, Configuration, Request, Reply}
use Rattle.block_machine.specs.State.{State, InstanceState}
use Rattle.block_machine.specs.StartUp.{at_first}
use Rattle.block_machine.specs.Steps.{step, after_from}
use Rattle.block_machine.specs.History.{is_driver_until, up_to, MayStandIn}
use Rattle.block_laws.specs.Laws.{AllowedStandNow, InstancesStandNow}
use Rattle.block_laws.proofs.HistoryLaws.{asks_are_local}
use Rattle.block_laws.proofs.MarkCells.{at_instance}

late_ops : (ops k : ℕ) → nat_le ops k ≡ false → k < ops
late_ops ops k is = grind (arith, nat_tests)

-- what requests leave stays in a history up to the operations that its entries tell of
module _ {A : Type 0} (of : State → A) (asks : (c : Configuration) (s : State) (caller : ℕ) (r : Request) (reply : Reply) → of (step c s (Ask caller r reply)) ≡ of s) where
  -- it stayed, or an entry told of more operations
  abbrev IsLate : ℕ → State → State → Type 0
  IsLate k s t = ((of t ≡ of s) × (t.ops ≡ s.ops)) ⊎ (k < t.ops)

  late_one : (c : Configuration) (k : ℕ) (s : State) (e : Entry) → is_driver_until k e ≡ false → IsLate k s (step c s e)
  late_one c k s (Ask caller r reply) late = inl (asks c s caller r reply, refl)
  late_one c k s (Pick block kind t ops) late = inr (late_ops ops k late)
  late_one c k s (Wrote i mark ops) late = inr (late_ops ops k late)
  late_one c k s (Post block r given refused ops) late = inr (late_ops ops k late)
  late_one c k s (Off ops) late = inr (late_ops ops k late)
  late_one c k s (Found marks ops) late = inr (late_ops ops k late)

  late_on : (k : ℕ) (s t u : State) → IsLate k s t → IsLate k t u → IsLate k s u
  late_on k s t u (inl (same, ops)) (inl (also, too)) = inl (also ∙ same, too ∙ ops)
  late_on k s t u (inr more) (inl (also, too)) = inr (rw too more)
  late_on k s t u first (inr more) = inr more

  late_by : (c : Configuration) (k : ℕ) (s : State) (es : List Entry) → list_any (is_driver_until k) es ≡ false → IsLate k s (after_from c s es)
  late_by c k s [] late = inl (refl, refl)
  late_by c k s (e ∷ es) late =
      let (one, rest) = or_parts (is_driver_until k e) (list_any (is_driver_until k) es) late in
      late_on k s (step c s e) (after_from c (step c s e) es) (late_one c k s e one) (late_by c k (step c s e) es rest)

  pub up_to_same : (c : Configuration) (k : ℕ) (s : State) (es : List Entry) → (after_from c s es).ops ≤ k → of (after_from c s (up_to k es)) ≡ of (after_from c s es)
  up_to_same c k s [] few = refl
  up_to_same c k s (e ∷ es) few = elim (cases_Bool (list_any (is_driver_until k) (e ∷ es))) [
    | inl on ↦ rw on (up_to_same c k (step c s e) es few)
    | inr off ↦ rw off (elim (late_by c k s (e ∷ es) off) [ inl (same, ops) ↦ sym same | inr more ↦ absurd (omega (arith, more, few)) ])
  ]

pub instances_stand_now : InstancesStandNow
instances_stand_now c h k few = up_to_same (λ (s : State). s.instances) (λ c s caller r reply. (asks_are_local c s caller r reply).0) c k at_first h few

pub allowed_stand_now : AllowedStandNow
allowed_stand_now c h k i mark few =
    let same = instances_stand_now c h k few in
    (λ stands. subst (λ (xs : List InstanceState). MayStandIn (at_instance i xs) mark) same stands, λ stands. subst (λ (xs : List InstanceState). MayStandIn (at_instance i xs) mark) (sym same) stands)
