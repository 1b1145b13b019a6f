-- What a start-up may find, instance by instance.
use Rattle.std.specs.Prelude.{find}
use Rattle.std.specs.List.{Contains}
use Rattle.std.proofs.Common.{◌≡◌, ◌↔◌, ℕ, zero, suc, true, false, List, [], ◌∷◌, map, sym, ap, ◌∙◌, subst, inl, inr, arith, IsTrue}
use Rattle.std.proofs.lemmas.Bool.{cases_Bool}
use Rattle.block_machine.specs.nv_base.Cell.{MayStand}
use Rattle.block_machine.specs.nv_base.Marks.{instance_of}
use Rattle.block_machine.specs.nv_base.declared.instance.DeviceNumber.{DeviceNumber}
use Rattle.block_machine.specs.block_config.Lengths.{lengths_of}
use Rattle.block_machine.specs.block_config.Rules.{IsLegalConfig}
use Rattle.block_machine.specs.Words.{Instance, Mark, Entry, Configuration}
use Rattle.block_machine.specs.State.{InstanceState}
use Rattle.block_machine.specs.Blocks.{same_instance, instance_at}
use Rattle.block_machine.specs.StartUp.{listed_mark}
use Rattle.block_machine.specs.Steps.{after}
use Rattle.block_machine.specs.Legal.{IsLegal, MayBeFound}
use Rattle.block_machine.specs.History.{MayStandIn}
use Rattle.block_laws.proofs.JobBlocks.{places_are_configured}
use Rattle.block_laws.proofs.OwnInstances.{found_may_stand}
use Rattle.rows_histories.specs.Instances.{EachConfigured}
use Rattle.rows_histories.proofs.Numbers.{numbered, configured}
use Rattle.rows_histories.proofs.Absent.{same_is, same_from, heads}

abbrev Stands : Configuration → List Entry → List (Instance × Mark) → Instance → Type 0
Stands c h marks i = MayStandIn (instance_at (after c h) i) (listed_mark marks i)

later : (m : DeviceNumber × ℕ) (ns : List (DeviceNumber × ℕ)) (n : DeviceNumber × ℕ) → Contains (m ∷ ns) n → (m ≡ n → ⊥) → Contains ns n
later m ns n (zero, within, is) other = absurd (other is)
later m ns n (suc k, within, is) other = (k, omega (arith, within), is)

found_in : (marks : List (Instance × Mark)) (xs : List InstanceState) (ns : List (DeviceNumber × ℕ)) (n : DeviceNumber × ℕ)
    → map (λ x. x.instance) xs ≡ map (λ x. instance_of x.0) ns → Contains ns n → MayBeFound marks xs
    → MayStandIn (find (λ x. same_instance (instance_of n.0) x.instance) xs) (listed_mark marks (instance_of n.0))
found_in marks [] [] n same (k, within, is) found = absurd (omega (arith, within))
found_in marks [] (m ∷ ns) n same has found = cc
found_in marks (x ∷ xs) [] n same has found = cc
found_in marks (x ∷ xs) (m ∷ ns) n same (k, within, is) found =
    let (one, rest) = heads x.instance (instance_of m.0) (map (λ (y : InstanceState). y.instance) xs) (map (λ (y : DeviceNumber × ℕ). instance_of y.0) ns) same in
    elim (cases_Bool (same_instance (instance_of n.0) x.instance)) [
      | inl on ↦ rw on (subst (λ (i : Instance). MayStand x.cell (listed_mark marks i)) (sym (same_is (instance_of n.0) x.instance on)) found.0)
      | inr off ↦ rw off (found_in marks xs ns n rest (later m ns n (k, within, is) (λ own. let on : same_instance (instance_of n.0) x.instance ≡ true =
          same_from (instance_of n.0) x.instance (ap (λ (y : DeviceNumber × ℕ). instance_of y.0) (sym own) ∙ sym one) in let no_ : true ≡ false = sym on ∙ off in cc)) found.1)
    ]

pub may_find : (c : Configuration) (cap : ℕ) (h : List Entry) (marks : List (Instance × Mark)) → IsLegalConfig c → IsLegal c cap h
    → IsTrue (after c h).started → EachConfigured c (Stands c h marks) ↔ MayBeFound marks (after c h).instances
may_find c cap h marks rules legal on = (
  λ each. found_may_stand c cap h marks legal on (λ n has. each (instance_of n.0).block (instance_of n.0).index (configured c n rules has)),
  λ found id index one.
      let (n, has, is) = numbered c (record { block = id; index = index }) rules one in
      subst (Stands c h marks) is (found_in marks (after c h).instances (lengths_of c) n (places_are_configured c cap h legal on).1 has found),
)
