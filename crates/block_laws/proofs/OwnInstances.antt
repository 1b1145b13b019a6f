-- Each instance of a state is found as itself, so what may stand in each may be found.
use Rattle.std.proofs.Common.{◌≡◌, ℕ, ◌==◌, is_some, suc, ◌&&◌, List, [], ◌∷◌, map, Contains, Option, Some, None, if◌then◌else◌}
use Rattle.std.proofs.Common.{refl, sym, ap, ◌∙◌, subst, arith}
use Rattle.block_machine.specs.nv_base.Cell.{MayStand, settled_as, doubted}
use Rattle.block_machine.specs.nv_base.Marks.{instance_of}
use Rattle.block_machine.specs.nv_base.declared.instance.DeviceNumber.{DeviceNumber}
use Rattle.block_machine.specs.block_config.Lengths.{lengths_of}
use Rattle.block_machine.specs.Words.{Instance, Mark, Taken, Entry, Ask, Pick, Wrote, Post, Off, Found, Configuration}
use Rattle.block_machine.specs.State.{State, InstanceState, Job}
use Rattle.block_machine.specs.Blocks.{is_in, same_instance, instance_at, indices_of, job_block, mark_of}
use Rattle.block_machine.specs.Sweeps.{member_job}
use Rattle.block_machine.specs.StartUp.{at_first, listed_mark, found_instance}
use Rattle.block_machine.specs.Next.{Next, Nothing, PickJob, BeginSweep, PickMember, PostMember, EndSweep, next_of}
use Rattle.block_machine.specs.Steps.{step, after, with_doubt, settled_in, with_member, picked_job, picked, wrote}
use Rattle.block_machine.specs.Legal.{IsAllowed, MayBeFound}
use Rattle.block_machine.specs.History.{MayStandIn}
use Rattle.block_laws.specs.Consistent.{Each}
use Rattle.block_laws.specs.Laws.{FoundMayStand}
use Rattle.block_laws.proofs.Along.{kept_along}
use Rattle.block_laws.proofs.HistoryLaws.{asks_are_local}
use Rattle.block_laws.proofs.MarkCells.{at_instance}
use Rattle.block_laws.proofs.MarkOrigins.{posted_stays}
use Rattle.block_laws.proofs.CellChanges.{found_map, if_instance, found_cells}
use Rattle.block_laws.proofs.JobBlocks.{places_are_configured}

-- each of these is the one that is found under its instance among those
abbrev AreFound : List InstanceState → List InstanceState → Type 0
AreFound all xs = Each (λ x. at_instance x.instance all ≡ Some x) xs

map_found : (f : InstanceState → InstanceState) → ((y : InstanceState) → (f y).instance ≡ y.instance)
    → (all xs : List InstanceState) → AreFound all xs → AreFound (map f all) (map f xs)
map_found f same all [] found = tt
map_found f same all (x ∷ xs) found = (
  ap (λ (i : Instance). at_instance i (map f all)) (same x) ∙ found_map x.instance f same all x found.0,
  map_found f same all xs found.1,
)

doubt_found : (id : ℕ) (indices : List ℕ) (o : Option Mark) (xs : List InstanceState) → AreFound xs xs
    → AreFound (with_doubt id indices o xs) (with_doubt id indices o xs)
doubt_found id indices None xs found = found
doubt_found id indices (Some mark) xs found =
    map_found (λ y. if (y.instance.block == id) && is_in indices y.instance.index then record y { cell = doubted mark y.cell } else y)
    (λ y. if_instance ((y.instance.block == id) && is_in indices y.instance.index) y (doubted mark y.cell)) xs xs found

settle_found : (w : Instance) (mark : Mark) (xs : List InstanceState) → AreFound xs xs
    → AreFound (settled_in w mark xs) (settled_in w mark xs)
settle_found w mark xs found =
    map_found (λ y. if same_instance w y.instance then record y { cell = settled_as mark } else y)
    (λ y. if_instance (same_instance w y.instance) y (settled_as mark)) xs xs found

-- what a start-up settles depends on the instance alone
listed_all : (marks : List (Instance × Mark)) (all ns : List (DeviceNumber × ℕ)) → ((n : DeviceNumber × ℕ) → Contains ns n → Contains all n)
    → ((n : DeviceNumber × ℕ) → Contains all n
    → at_instance (instance_of n.0)
    (map (λ (x : DeviceNumber × ℕ). found_instance marks (instance_of x.0)) all) ≡ Some
    (found_instance marks (instance_of n.0)))
    → AreFound (map (λ (x : DeviceNumber × ℕ). found_instance marks (instance_of x.0)) all)
    (map (λ (x : DeviceNumber × ℕ). found_instance marks (instance_of x.0)) ns)
listed_all marks all [] within found = tt
listed_all marks all (n ∷ ns) within found = (
  found n (within n (0, omega arith, refl)),
  listed_all marks all ns
      (λ m (k, few, is). within m (suc k, omega (arith, few), is)) found,
)

-- each entry leaves them so
picked_found : (c : Configuration) (s : State) (t : Taken) (n : Next) → AreFound s.instances s.instances
    → AreFound (picked c s t n).instances (picked c s t n).instances
picked_found c s t (PickJob j) found =
    doubt_found (job_block j) (indices_of c s (job_block j)) (mark_of (picked_job t (if is_some s.hand then 2 else 0) j)) s.instances found
picked_found c s t (PickMember sw id) found =
    let j = member_job c sw id in
    doubt_found (job_block j) (indices_of c (with_member s sw id) (job_block j))
    (mark_of (picked_job t (if is_some s.hand then 2 else 0) j)) s.instances found
picked_found c s t (BeginSweep sw) found = found
picked_found c s t (PostMember sw id) found = found
picked_found c s t (EndSweep sw) found = found
picked_found c s t Nothing found = found

wrote_found : (s : State) (i : Instance) (mark : Mark) (o : Option Job) → AreFound s.instances s.instances
    → AreFound (wrote s i mark o).instances (wrote s i mark o).instances
wrote_found s i mark None found = found
wrote_found s i mark (Some j) found = settle_found i mark s.instances found

step_found : (c : Configuration) (cap : ℕ) (s : State) (e : Entry) → IsAllowed c cap s e
    → AreFound s.instances s.instances → AreFound (step c s e).instances (step c s e).instances
step_found c cap s (Ask caller r reply) allowed found = subst (λ (xs : List InstanceState). AreFound xs xs)
    (sym (asks_are_local c s caller r reply).0) found
step_found c cap s (Pick block kind t ops) allowed found = picked_found c s t (next_of c s) found
step_found c cap s (Wrote i mark ops) allowed found = wrote_found s i mark s.hand found
step_found c cap s (Post block r given refused ops) allowed found = subst
    (λ (xs : List InstanceState). AreFound xs xs) (sym (posted_stays c s r given s.hand).1) found
step_found c cap s (Off ops) allowed found = found
step_found c cap s (Found marks ops) allowed found = listed_all marks (lengths_of c) (lengths_of c) (λ n has. has)
    (λ n has. found_cells c s marks ops n has)

-- WHAT A LATER START-UP MAY FIND
same_some : (x y : InstanceState) → Some x ≡ Some y → x ≡ y
same_some x y is = cc

stands_here : (o : Option InstanceState) (x : InstanceState) (mark : Mark) → o ≡ Some x → MayStandIn o mark → MayStand x.cell mark
stands_here (Some y) x mark is stands = subst (λ (z : InstanceState). MayStand z.cell mark) (same_some y x is) stands
stands_here None x mark is stands = absurd stands

heads : (x y : Instance) (xs ys : List Instance) → x ∷ xs ≡ y ∷ ys → (x ≡ y) × (xs ≡ ys)
heads x y xs ys e = (cc, cc)

may_be_found : (s : State) (marks : List (Instance × Mark)) (all : List (DeviceNumber × ℕ))
    → ((n : DeviceNumber × ℕ) → Contains all n
    → MayStandIn (instance_at s (instance_of n.0)) (listed_mark marks (instance_of n.0)))
    → (xs : List InstanceState) (ns : List (DeviceNumber × ℕ)) → ((n : DeviceNumber × ℕ) → Contains ns n → Contains all n)
    → map (λ (x : InstanceState). x.instance) xs ≡ map (λ (x : DeviceNumber × ℕ). instance_of x.0) ns
    → AreFound s.instances xs → MayBeFound marks xs
may_be_found s marks all stands [] ns within same found = tt
may_be_found s marks all stands (x ∷ xs) [] within same found = cc
may_be_found s marks all stands (x ∷ xs) (n ∷ ns) within same found =
    let (head, rest) = heads x.instance (instance_of n.0) (map (λ (x : InstanceState). x.instance) xs)
    (map (λ (x : DeviceNumber × ℕ). instance_of x.0) ns) same in
    let here = subst (λ (i : Instance). MayStandIn (instance_at s i) (listed_mark marks i)) (sym head)
    (stands n (within n (0, omega arith, refl))) in (
      stands_here (instance_at s x.instance) x (listed_mark marks x.instance) found.0 here,
      may_be_found s marks all stands xs ns (λ m (k, few, is). within m (suc k, omega (arith, few), is)) rest found.1,
    )

pub found_may_stand : FoundMayStand
found_may_stand c cap h marks legal on stands =
    let s = after c h in
    let found = kept_along c cap (λ t. AreFound t.instances t.instances) (step_found c cap) at_first h legal tt in
    may_be_found s marks (lengths_of c) stands s.instances (lengths_of c) (λ n has. has) (places_are_configured c cap h legal on).1 found
