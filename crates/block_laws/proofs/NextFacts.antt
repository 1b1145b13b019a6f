-- What is next: a job that waits, or a step of the sweep where none does.
use Rattle.std.proofs.Common.{◌≡◌, ℕ, Bool, true, false, if◌then◌else◌, List, [], ◌∷◌, refl, sym, ap, ◌∙◌, subst, inl, inr, Option, Some, None}
use Rattle.std.proofs.lemmas.Bool.{cases_Bool}
use Rattle.block_machine.specs.Words.{Configuration}
use Rattle.block_machine.specs.State.{State, Job, Sweep}
use Rattle.block_machine.specs.Blocks.{desc_of, block_at}
use Rattle.block_machine.specs.Sweeps.{is_picked}
use Rattle.block_machine.specs.Next.{Next, Nothing, PickJob, BeginSweep, PickMember, PostMember, EndSweep, next_by, next_member, next_in_sweep}

abbrev pub job_in : Next → Option Job
job_in (PickJob j) = Some j
job_in n = None

-- the sweep that goes on, and the member that is next in it
abbrev pub sweep_in : Next → Option Sweep
sweep_in (BeginSweep sw) = Some sw
sweep_in (PickMember sw id) = Some sw
sweep_in (PostMember sw id) = Some sw
sweep_in (EndSweep sw) = Some sw
sweep_in n = None

abbrev pub member_in : Next → Option ℕ
member_in (PickMember sw id) = Some id
member_in (PostMember sw id) = Some id
member_in n = None

same_sweep : (x y : Sweep) → Some x ≡ Some y → x ≡ y
same_sweep x y e = cc

same_id : (x y : ℕ) → Some x ≡ Some y → x ≡ y
same_id x y e = cc

member_sweep : (c : Configuration) (s : State) (sw : Sweep) (ids : List ℕ) → sweep_in (next_member c s sw ids) ≡ Some sw
member_sweep c s sw [] = refl
member_sweep c s sw (id ∷ ids) = elim (cases_Bool (is_picked (desc_of c id) (block_at s id) sw id)) [
  | inl holds ↦ rw holds refl
  | inr fails ↦ rw fails refl
]

any_sweep_by : (c : Configuration) (s : State) (sw : Sweep) (under_way : Bool) (ids : List ℕ) → sweep_in (if under_way then next_member c s sw ids else BeginSweep sw) ≡ Some sw
any_sweep_by c s sw true ids = member_sweep c s sw ids
any_sweep_by c s sw false ids = refl

any_sweep : (c : Configuration) (s : State) (sw : Sweep) → sweep_in (next_in_sweep c s sw) ≡ Some sw
any_sweep c s sw = any_sweep_by c s sw sw.under_way (if sw.canceled then [] else sw.left)

no_job : {j : Job} {sw : Sweep} (n : Next) → sweep_in n ≡ Some sw → job_in n ≡ Some j → ⊥
no_job (PickJob x) is_sweep is = cc
no_job (BeginSweep x) is_sweep is = cc
no_job (PickMember x id) is_sweep is = cc
no_job (PostMember x id) is_sweep is = cc
no_job (EndSweep x) is_sweep is = cc
no_job Nothing is_sweep is = cc

no_member : (id : ℕ) → None ≡ Some id → ⊥
no_member id is = cc

pub next_job_by : (c : Configuration) (s : State) (o hand : Option Job) (sweep : Option Sweep) (j : Job) → job_in (next_by c s o hand sweep) ≡ Some j → o ≡ Some j
next_job_by c s (Some x) hand sweep j is = is
next_job_by c s None (Some x) sweep j is = cc
next_job_by c s None None None j is = cc
next_job_by c s None None (Some sw) j is = absurd (no_job (next_in_sweep c s sw) (any_sweep c s sw) is)

pub next_sweep_by : (c : Configuration) (s : State) (o hand : Option Job) (sweep : Option Sweep) (sw : Sweep) → sweep_in (next_by c s o hand sweep) ≡ Some sw → (o ≡ None) × (hand ≡ None) × (sweep ≡ Some sw)
next_sweep_by c s (Some x) hand sweep sw is = cc
next_sweep_by c s None (Some x) sweep sw is = cc
next_sweep_by c s None None None sw is = cc
next_sweep_by c s None None (Some x) sw is = (refl, refl, sym (any_sweep c s x) ∙ is)

member_left_by : (c : Configuration) (s : State) (sw : Sweep) (ids : List ℕ) (id : ℕ) → member_in (next_member c s sw ids) ≡ Some id → (rest : List ℕ) × (ids ≡ id ∷ rest)
member_left_by c s sw [] id is = cc
member_left_by c s sw (x ∷ ids) id is = (
  ids,
  ap (λ n. n ∷ ids) (same_id x id (sym (elim (cases_Bool (is_picked (desc_of c x) (block_at s x) sw x)) [
    | inl holds ↦ rw holds refl
    | inr fails ↦ rw fails refl
  ]) ∙ is)),
)

left_by : (c : Configuration) (s : State) (sw : Sweep) (canceled : Bool) (id : ℕ) → member_in (next_member c s sw (if canceled then [] else sw.left)) ≡ Some id → (rest : List ℕ) × (sw.left ≡ id ∷ rest)
left_by c s sw true id is = cc
left_by c s sw false id is = member_left_by c s sw sw.left id is

under_by : (c : Configuration) (s : State) (sw : Sweep) (under_way : Bool) (id : ℕ) → member_in (if under_way then next_member c s sw (if sw.canceled then [] else sw.left) else BeginSweep sw) ≡ Some id → (rest : List ℕ) × (sw.left ≡ id ∷ rest)
under_by c s sw true id is = left_by c s sw sw.canceled id is
under_by c s sw false id is = absurd (no_member id is)

pub next_left : (c : Configuration) (s : State) (o hand : Option Job) (sweep : Option Sweep) (sw : Sweep) (id : ℕ) → sweep ≡ Some sw → member_in (next_by c s o hand sweep) ≡ Some id → (rest : List ℕ) × (sw.left ≡ id ∷ rest)
next_left c s (Some x) hand sweep sw id some is = cc
next_left c s None (Some x) sweep sw id some is = cc
next_left c s None None None sw id some is = cc
next_left c s None None (Some x) sw id some is = subst (λ (y : Sweep). (rest : List ℕ) × (y.left ≡ id ∷ rest)) (same_sweep x sw some) (under_by c s x x.under_way id is)
