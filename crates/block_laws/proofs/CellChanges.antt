-- The cell of an instance behind each entry.
use Rattle.std.specs.Prelude.{cond}
use Rattle.std.specs.Option.{option_map_or, option_and_then}
use Rattle.std.proofs.Common.{◌≡◌, ℕ, zero, suc, ◌==◌, ◌&&◌, Bool, true, false, if◌then◌else◌, List, [], ◌∷◌, map, Contains, refl, sym, ap, ◌∙◌, subst, inl, inr, arith, Option, Some, None, is_some}
use Rattle.std.proofs.lemmas.Bool.{cases_Bool}
use Rattle.block_machine.specs.nv_base.Cell.{Cell, settled_as, doubted}
use Rattle.block_machine.specs.nv_base.Marks.{instance_of}
use Rattle.block_machine.specs.nv_base.declared.instance.DeviceNumber.{DeviceNumber}
use Rattle.block_machine.specs.block_config.Lengths.{lengths_of}
use Rattle.block_machine.specs.Words.{Pending, Instance, Mark, JobKind, Taken, Entry, Ask, Pick, Wrote, Post, Off, Found, Configuration}
use Rattle.block_machine.specs.State.{State, BlockState, InstanceState, Job}
use Rattle.block_machine.specs.Blocks.{block_at, desc_of, is_in, indices_by, indices_of, same_instance, instance_at, job_block, mark_of}
use Rattle.block_machine.specs.Sweeps.{member_job}
use Rattle.block_machine.specs.Next.{Next, Nothing, PickJob, BeginSweep, PickMember, PostMember, EndSweep, next_of}
use Rattle.block_machine.specs.StartUp.{found_instance}
use Rattle.block_machine.specs.Steps.{step, with_doubt, settled_in, with_member, picked_job, picked, wrote}
use Rattle.block_machine.specs.Legal.{MayPick, MayWrite, IsAllowed}
use Rattle.block_laws.specs.Laws.{is_found, cell_by, CellsChange, FoundCells, FoundIsSettled}
use Rattle.block_laws.proofs.BlockFields.{field_kept}
use Rattle.block_laws.proofs.HistoryLaws.{asks_are_local}
use Rattle.block_laws.proofs.ConsistentSteps.{idle}
use Rattle.block_laws.proofs.MarkCells.{at_instance, same_is, same_from}
use Rattle.block_laws.proofs.MarkOrigins.{posted_stays}

some_state : (x y : InstanceState) → Some x ≡ Some y → x ≡ y
some_state x y is = cc

-- WHAT IS FOUND

passes : (i : Instance) (xs : List InstanceState) (x : InstanceState) → at_instance i xs ≡ Some x → same_instance i x.instance ≡ true
passes i [] x is = cc
passes i (y ∷ xs) x is = elim (cases_Bool (same_instance i y.instance)) [
  | inl on ↦ let own : y ≡ x = some_state y x (rw on at is) in subst (λ (z : InstanceState). same_instance i z.instance ≡ true) own on
  | inr off ↦ passes i xs x (rw off at is)
]

one_map : (s t : Bool) (f : InstanceState → InstanceState) (y x : InstanceState) (rest more : Option InstanceState) → t ≡ s → (rest ≡ Some x → more ≡ Some (f x)) → cond s (Some y) rest ≡ Some x → cond t (Some (f y)) more ≡ Some (f x)
one_map true t f y x rest more same others is = rw same (ap (λ (z : InstanceState). Some (f z)) (some_state y x is))
one_map false t f y x rest more same others is = rw same (others is)

pub found_map : (i : Instance) (f : InstanceState → InstanceState) → ((y : InstanceState) → (f y).instance ≡ y.instance) → (xs : List InstanceState) (x : InstanceState) → at_instance i xs ≡ Some x → at_instance i (map f xs) ≡ Some (f x)
found_map i f same [] x is = cc
found_map i f same (y ∷ xs) x is =
    one_map (same_instance i y.instance) (same_instance i (f y).instance) f y x (at_instance i xs) (at_instance i (map f xs)) (ap (same_instance i) (same y)) (found_map i f same xs x) is

pub if_instance : (b : Bool) (x : InstanceState) (d : Cell) → (if b then record x { cell = d } else x).instance ≡ x.instance
if_instance true x d = refl
if_instance false x d = refl

if_cell : (b : Bool) (x : InstanceState) (d : Cell) → (if b then record x { cell = d } else x) ≡ record x { cell = if b then d else x.cell }
if_cell true x d = refl
if_cell false x d = refl

-- CHANGES

doubt_cell : (i : Instance) (id : ℕ) (indices : List ℕ) (o : Option Mark) (xs : List InstanceState) (x : InstanceState) → at_instance i xs ≡ Some x
    → at_instance i (with_doubt id indices o xs) ≡ Some (record x { cell = option_map_or (λ mark. if (i.block == id) && is_in indices i.index then doubted mark x.cell else x.cell) o x.cell })
doubt_cell i id indices None xs x is = is
doubt_cell i id indices (Some mark) xs x is =
    let same : i ≡ x.instance = same_is i x.instance (passes i xs x is) in
    found_map i (λ y. if (y.instance.block == id) && is_in indices y.instance.index then record y { cell = doubted mark y.cell } else y) (λ y. if_instance ((y.instance.block == id) && is_in indices y.instance.index) y (doubted mark y.cell)) xs x is
    ∙ ap Some (if_cell ((x.instance.block == id) && is_in indices x.instance.index) x (doubted mark x.cell))
    ∙ ap (λ (k : Instance). Some (record x { cell = if (k.block == id) && is_in indices k.index then doubted mark x.cell else x.cell })) (sym same)

settled_cell : (i w : Instance) (mark : Mark) (xs : List InstanceState) (x : InstanceState) → at_instance i xs ≡ Some x → at_instance i (settled_in w mark xs) ≡ Some (record x { cell = if same_instance w i then settled_as mark else x.cell })
settled_cell i w mark xs x is =
    let same : i ≡ x.instance = same_is i x.instance (passes i xs x is) in
    found_map i (λ y. if same_instance w y.instance then record y { cell = settled_as mark } else y) (λ y. if_instance (same_instance w y.instance) y (settled_as mark)) xs x is
    ∙ ap Some (if_cell (same_instance w x.instance) x (settled_as mark))
    ∙ ap (λ (k : Instance). Some (record x { cell = if same_instance w k then settled_as mark else x.cell })) (sym same)

-- PICK

abbrev Changed : Configuration → State → Instance → InstanceState → ℕ → Option Mark → Option InstanceState
Changed c s i x block o = Some (record x { cell = option_map_or (λ mark. if (i.block == block) && is_in (indices_of c s block) i.index then doubted mark x.cell else x.cell) o x.cell })

none_in_hand : (o : Option Job) → o ≡ None → option_and_then mark_of o ≡ None
none_in_hand None none = refl
none_in_hand (Some j) none = cc

picked_cell : (c : Configuration) (s : State) (i : Instance) (x : InstanceState) (block : ℕ) (kind : JobKind) (t : Taken) (n : Next) → next_of c s ≡ n → MayPick c s block kind t n → at_instance i s.instances ≡ Some x
    → at_instance i (picked c s t n).instances ≡ Changed c s i x block (option_and_then mark_of (picked c s t n).hand)
picked_cell c s i x block kind t (PickJob j) next may is =
    let after = picked_job t (if is_some s.hand then 2 else 0) j in
    subst (λ (n : ℕ). at_instance i (picked c s t (PickJob j)).instances ≡ Changed c s i x n (mark_of after)) (sym may.same_block) (doubt_cell i (job_block j) (indices_of c s (job_block j)) (mark_of after) s.instances x is)
picked_cell c s i x block kind t (PickMember sw id) next may is =
    let j = member_job c sw id in
    let after = picked_job t (if is_some s.hand then 2 else 0) j in
    let same : (block_at (with_member s sw id) (job_block j)).index ≡ (block_at s (job_block j)).index = field_kept (λ (x : BlockState). x.index) s.blocks id (record (block_at s id) { status = Pending }) (job_block j) refl in
    subst (λ (n : ℕ). at_instance i (picked c s t (PickMember sw id)).instances ≡ Changed c s i x n (mark_of after)) (sym may.same_block)
    (subst (λ (k : ℕ). at_instance i (picked c s t (PickMember sw id)).instances
    ≡ Some (record x { cell = option_map_or (λ mark. if (i.block == job_block j) && is_in (indices_by (desc_of c (job_block j)).kind (desc_of c (job_block j)).nv k) i.index then doubted mark x.cell else x.cell) (mark_of after) x.cell })) same
    (doubt_cell i (job_block j) (indices_of c (with_member s sw id) (job_block j)) (mark_of after) s.instances x is))
picked_cell c s i x block kind t (BeginSweep sw) next may is =
    let none = none_in_hand s.hand (idle c s sw (BeginSweep sw) next refl).hand in
    subst (λ (o : Option Mark). at_instance i s.instances ≡ Changed c s i x block o) (sym none) is
picked_cell c s i x block kind t (PostMember sw id) next may is = absurd may
picked_cell c s i x block kind t (EndSweep sw) next may is = absurd may
picked_cell c s i x block kind t Nothing next may is = absurd may

wrote_cell : (c : Configuration) (s : State) (i w : Instance) (mark : Mark) (x : InstanceState) (o : Option Job) → MayWrite c s w mark o → at_instance i s.instances ≡ Some x → at_instance i (wrote s w mark o).instances ≡ Some (record x { cell = if same_instance w i then settled_as mark else x.cell })
wrote_cell c s i w mark x None may is = absurd may
wrote_cell c s i w mark x (Some j) may is = settled_cell i w mark s.instances x is

-- THE STEP

cell_of : (c : Configuration) (cap : ℕ) (s : State) (e : Entry) (i : Instance) (x : InstanceState) → IsAllowed c cap s e → is_found e ≡ false → instance_at s i ≡ Some x → instance_at (step c s e) i ≡ Some (record x { cell = cell_by c s i x.cell e })
cell_of c cap s (Ask caller r reply) i x allowed found is = subst (λ (xs : List InstanceState). at_instance i xs ≡ Some x) (sym (asks_are_local c s caller r reply).0) is
cell_of c cap s (Pick block kind t ops) i x allowed found is = picked_cell c s i x block kind t (next_of c s) refl allowed.1 is
cell_of c cap s (Wrote w mark ops) i x allowed found is = wrote_cell c s i w mark x s.hand allowed.1 is
cell_of c cap s (Post block r given refused ops) i x allowed found is = subst (λ (xs : List InstanceState). at_instance i xs ≡ Some x) (sym (posted_stays c s r given s.hand).1) is
cell_of c cap s (Off ops) i x allowed found is = is
cell_of c cap s (Found marks ops) i x allowed found is = cc

pub cells_change : CellsChange
cells_change c cap s e i x allowed found is = cell_of c cap s e i x allowed found is

-- FOUND

later : {X : Type 0} (m : X) (ns : List X) (n : X) → Contains (m ∷ ns) n → (m ≡ n → ⊥) → Contains ns n
later m ns n (zero, within, is) other = absurd (other is)
later m ns n (suc k, within, is) other = (k, omega arith, is)

found_at : (marks : List (Instance × Mark)) (ns : List (DeviceNumber × ℕ)) (n : DeviceNumber × ℕ) (k : ℕ) → Contains ns n
    → at_instance (instance_of n.0) (map (λ (x : DeviceNumber × ℕ). found_instance marks (instance_of x.0)) ns) ≡ Some (found_instance marks (instance_of n.0))
found_at marks [] n k (p, within, is) = absurd (omega (arith, within))
found_at marks (m ∷ ns) n k has = elim (cases_Bool (same_instance (instance_of n.0) (instance_of m.0))) [
  | inl on ↦ rw on (ap (λ (i : Instance). Some (found_instance marks i)) (sym (same_is (instance_of n.0) (instance_of m.0) on)))
  | inr off ↦ rw off (found_at marks ns n k (later m ns n has (λ is. let on : same_instance (instance_of n.0) (instance_of m.0) ≡ true = subst (λ (z : DeviceNumber × ℕ). same_instance (instance_of n.0) (instance_of z.0) ≡ true) (sym is) (same_from (instance_of n.0) (instance_of n.0) refl refl) in let no_ : true ≡ false = sym on ∙ off in cc)))
]

pub found_cells : FoundCells
found_cells c s marks ops n has = found_at marks (lengths_of c) n 0 has

pub found_is_settled : FoundIsSettled
found_is_settled c cap s marks ops found = (found.lists, refl)
