-- In an instance that isn't configured no mark may stand.
use Rattle.std.specs.Prelude.{find}
use Rattle.std.specs.List.{Contains}
use Rattle.std.proofs.Common.{◌≡◌, ℕ, suc, true, List, [], ◌∷◌, map, refl, sym, ◌∙◌, subst, inl, inr, arith, IsTrue}
use Rattle.std.proofs.lemmas.Bool.{cases_Bool, eq-eqb}
use Rattle.std.proofs.lemmas.Bool.Decides.{nat_tests}
use Rattle.block_machine.specs.nv_base.Marks.{instance_of}
use Rattle.block_machine.specs.nv_base.declared.instance.DeviceNumber.{DeviceNumber}
use Rattle.block_machine.specs.block_config.Lengths.{lengths_of}
use Rattle.block_machine.specs.block_config.Rules.{IsLegalConfig}
use Rattle.block_machine.specs.Words.{Instance, Mark, Entry, Configuration}
use Rattle.block_machine.specs.State.{InstanceState}
use Rattle.block_machine.specs.Blocks.{same_instance, instance_at}
use Rattle.block_machine.specs.StartUp.{at_first}
use Rattle.block_machine.specs.Steps.{step, after}
use Rattle.block_machine.specs.Legal.{IsLegal}
use Rattle.block_machine.specs.History.{MayStandIn}
use Rattle.block_laws.proofs.JobBlocks.{places_are_configured}
use Rattle.rows_histories.specs.Instances.{IsConfigured}
use Rattle.rows_histories.proofs.Numbers.{pair_same, configured}
use Rattle.rows_histories.proofs.Walks.{starts, starts_all}

pub same_is : (a b : Instance) → same_instance a b ≡ true → a ≡ b
same_is a b is = pair_same a.block b.block a.index b.index (grind (arith, nat_tests)) (grind (arith, nat_tests))

pub same_from : (a b : Instance) → a ≡ b → same_instance a b ≡ true
same_from a b is = rw (is, eq-eqb b.block b.block refl, eq-eqb b.index b.index refl) refl

pub heads : {X : Type 0} (x y : X) (xs ys : List X) → x ∷ xs ≡ y ∷ ys → (x ≡ y) × (xs ≡ ys)
heads x y xs ys e = (cc, cc)

abbrev IsNoneOf : Instance → List (DeviceNumber × ℕ) → Type 0
IsNoneOf i ns = (n : DeviceNumber × ℕ) → Contains ns n → i ≡ instance_of n.0 → ⊥

none_in : (i : Instance) (mark : Mark) (xs : List InstanceState) (ns : List (DeviceNumber × ℕ)) → map (λ x. x.instance) xs ≡ map (λ x. instance_of x.0) ns
    → IsNoneOf i ns → MayStandIn (find (λ x. same_instance i x.instance) xs) mark → ⊥
none_in i mark [] ns same others h = absurd h
none_in i mark (x ∷ xs) [] same others h = cc
none_in i mark (x ∷ xs) (n ∷ ns) same others h =
    let (one, rest) = heads x.instance (instance_of n.0) (map (λ (y : InstanceState). y.instance) xs) (map (λ (y : DeviceNumber × ℕ). instance_of y.0) ns) same in
    elim (cases_Bool (same_instance i x.instance)) [
      | inl on ↦ others n (0, omega arith, refl) (same_is i x.instance on ∙ one)
      | inr off ↦ none_in i mark xs ns rest (λ m (k, within, is) own. others m (suc k, omega (arith, within), is) own) (rw off at h)
    ]

-- after a legal history a start-up stands, or there is no entry
absent_by : (c : Configuration) (cap : ℕ) (h : List Entry) (i : Instance) (mark : Mark) → (IsTrue (after c h).started → MayStandIn (instance_at (after c h) i) mark → ⊥)
    → IsLegal c cap h → MayStandIn (instance_at (after c h) i) mark → ⊥
absent_by c cap [] i mark started legal h = absurd h
absent_by c cap (e ∷ es) i mark started legal h = started (starts_all c cap (step c at_first e) es legal.1 (starts c cap at_first e legal.0)) h

pub absent : (c : Configuration) (cap : ℕ) (h : List Entry) (i : Instance) (mark : Mark) → IsLegalConfig c → (IsConfigured c i → ⊥) → IsLegal c cap h
    → MayStandIn (instance_at (after c h) i) mark → ⊥
absent c cap h i mark rules not_one legal stands =
    absent_by c cap h i mark
    (λ on. none_in i mark (after c h).instances (lengths_of c) (places_are_configured c cap h legal on).1
    (λ n has is. not_one (subst (λ (k : Instance). IsConfigured c k) (sym is) (configured c n rules has))))
    legal stands
