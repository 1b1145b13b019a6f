-- Planned power cuts.
use Rattle.script_player.proofs.Common.{option_map, ◌≡◌, ◌≤◌, ℕ, Bool, true, false, List, [], ◌∷◌, Option, Some, None, refl, inl, arith, ops_behind, Plan, Entry, Configuration, State, after, after_from, step, at_first, DueCut, IsNoEarlier, due_cut, plan_from}

-- THE PLAN OF A PART

pub from_off : (off : Bool) (ops : ℕ) (plan : Option Plan) → off ≡ true → plan_from off ops plan ≡ None
from_off off ops plan is = rw is refl

pub from_on : (off : Bool) (ops : ℕ) (plan : Option Plan) → off ≡ false → plan_from off ops plan ≡ option_map (due_cut ops) plan
from_on off ops plan is = rw is refl

pub from_none : (off : Bool) (ops : ℕ) (plan : Option Plan) → plan ≡ None → plan_from off ops plan ≡ None
from_none true ops plan none = refl
from_none false ops plan none = rw none refl

-- where one stands the power is on
pub stands_on : (off : Bool) (ops : ℕ) (plan : Option Plan) {x : DueCut} → plan_from off ops plan ≡ Some x → off ≡ false
stands_on true ops plan is = absurd (cc is)
stands_on false ops plan is = refl

pub none_earlier : (plan now : Option DueCut) → now ≡ None → IsNoEarlier plan now
none_earlier plan now none = rw none tt

-- with more operations made of another part it comes no earlier
pub plan_waits : (off : Bool) (ops more : ℕ) (plan : Option Plan) → ops ≤ more → IsNoEarlier (plan_from off ops plan) (plan_from off more plan)
plan_waits false ops more (Some x) less = (inl (omega (arith, less)), refl)
plan_waits off ops more plan less = tt

-- THE OPERATIONS OF THE ENTRIES

pub ops_told_from : (c : Configuration) (s : State) (es : List Entry) → (after_from c s es).ops ≡ ops_behind s.ops es
ops_told_from c s [] = refl
ops_told_from c s (e ∷ es) = ops_told_from c (step c s e) es

pub ops_told : (c : Configuration) (h : List Entry) → (after c h).ops ≡ ops_behind 0 h
ops_told c h = ops_told_from c at_first h
