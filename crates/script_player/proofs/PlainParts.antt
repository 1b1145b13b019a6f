-- A turn of the device, by its parts.
use Rattle.script_player.proofs.Common.{◌-◌, option_map, ◌≡◌, ◌<◌, ◌≤◌, ◌+◌, ◌⊎◌, ℕ, Bool, true, false, List, [], ◌∷◌, ◌++◌, length, Option, Some, None, refl, sym, ap, ◌∙◌, subst, inl, inr, arith, append-nil, length-append, leb_tells, last_count, next_count, Rose, WereCounted, Planning, Plan, PartTold, PartTurns, Off, DueCut, Added, CutsAre, IsNoEarlier, due_cut, plan_from, nearer, IsDue, PlanStays}
use Rattle.script_player.proofs.PlainPlans.{plan_waits}

-- THE COUNTS OF ITS PLANS

pub part_unplanned : (cut : Bool) (n m : ℕ) (p q : PartTold) → PartTurns cut n m p q → p.planning.unplanned ≤ q.planning.unplanned
part_unplanned true n m p q turns = elim turns.plan [
  | inl comes ↦ comes.0.more
  | inr other ↦ elim other.unplanned [ inl less ↦ omega (arith, less) | inr last ↦ last.1 ]
]
part_unplanned false n m p q turns = elim turns.plan [
  | inl stays ↦ let same = ap (λ (x : Planning). x.unplanned) stays.0 in omega (arith, same)
  | inr nears ↦ let same = ap (λ (x : Planning). x.unplanned) nears.0.planning in omega (arith, same)
]

pub part_takes : (cut : Bool) (n m : ℕ) (p q : PartTold) → PartTurns cut n m p q → q.planning.takes ≡ p.planning.takes
part_takes true n m p q turns = elim turns.plan [
  | inl comes ↦ ap (λ (x : Planning). x.takes) comes.0.planning
  | inr other ↦ other.takes
]
part_takes false n m p q turns = elim turns.plan [
  | inl stays ↦ ap (λ (x : Planning). x.takes) stays.0
  | inr nears ↦ ap (λ (x : Planning). x.takes) nears.0.planning
]

-- without a cut none came
pub part_came : (n m : ℕ) (p q : PartTold) → PartTurns false n m p q → q.planning.came ≡ p.planning.came
part_came n m p q turns = elim turns.plan [
  | inl stays ↦ ap (λ (x : Planning). x.came) stays.0
  | inr nears ↦ ap (λ (x : Planning). x.came) nears.0.planning
]

pub part_longer : (n m : ℕ) (p q : PartTold) → PartTurns true n m p q → length p.planning.came ≤ length q.planning.came
part_longer n m p q turns = elim turns.plan [
  | inl comes ↦ let one = ap (λ (x : Planning). length x.came) comes.0.planning ∙ length-append p.planning.came (comes.0.plan.keep ∷ []) in omega (arith, one)
  | inr other ↦ let same = ap length other.came in omega (arith, same)
]

-- ITS PLAN

-- one operation nearer, behind one operation more
nearer_later : (n m a b left : ℕ) → m + a ≡ n + b → b ≤ m → b ≡ next_count a → 1 < left → (n + left ≤ m + (left - 1)) ⊎ (last_count ≤ m + (left - 1))
nearer_later n m a b left moved within next far = elim (leb_tells (a + 1) last_count) [
  | inl fits ↦ inl (let small = fits.1 in omega (arith, moved, next, small, far))
  | inr last ↦ inr (let large = last.1 in omega (arith, within, next, large))
]

near_plan : (off : Bool) (n m : ℕ) → m ≡ next_count n → (plan : Option Plan) → ¬ IsDue plan → IsNoEarlier (plan_from off n plan) (plan_from off m (nearer plan))
near_plan true n m next plan early = tt
near_plan false n m next None early = tt
near_plan false n m next (Some x) early = elim (leb_tells x.left 1) [
  | inl due ↦ absurd (early due.1)
  | inr far ↦ (nearer_later n m n m x.left (omega arith) (omega arith) next far.1, refl)
]

-- as many operations are made of all parts before and behind, without a cut
pub part_plan : (off : Bool) (n m : ℕ) (p q : PartTold) → n ≤ m → PlanStays n m p q → IsNoEarlier (plan_from off n p.planning.plan) (plan_from off m q.planning.plan)
part_plan off n m p q later (inl (same, why)) =
    subst (λ (x : Planning). IsNoEarlier (plan_from off n p.planning.plan) (plan_from off m x.plan)) (sym same) (plan_waits off n m p.planning.plan later)
part_plan off n m p q later (inr nears) =
    subst (λ (x : Planning). IsNoEarlier (plan_from off n p.planning.plan) (plan_from off m x.plan)) (sym nears.0.planning)
    (near_plan off n m nears.1 p.planning.plan nears.0.early)

-- ITS CUT COMES

-- a plan stands at a part that is on, no later than so, but for the faults since; a count of faults at its end tells none
abbrev pub ComesBy : (n m : ℕ) → DueCut → PartTold → PartTold → Type 0
ComesBy n m x p q = (last_count ≤ q.faults) ⊎ ((y : DueCut) × (option_map (due_cut m) q.planning.plan ≡ Some y) × (m < y.due) × (y.due + p.faults ≤ x.due + q.faults))

-- a turn in which nothing is cut
pub part_comes : (n m : ℕ) (x : DueCut) (p q : PartTold) → PartTurns false n m p q → option_map (due_cut n) p.planning.plan ≡ Some x → n < x.due → ComesBy n m x p q
part_comes n m x p q turns stands late = by p.planning.plan refl
  where
    most : m ≤ n + 1
    most = elim turns.one [ inl same ↦ omega (arith, same) | inr more ↦ omega (arith, more) ]

    here : (o : Option Plan) → q.planning.plan ≡ o → option_map (due_cut m) q.planning.plan ≡ option_map (due_cut m) o
    here o is = ap (option_map (due_cut m)) is

    there : (o : Option Plan) → p.planning.plan ≡ o → option_map (due_cut n) o ≡ Some x
    there o is = ap (option_map (due_cut n)) (sym is) ∙ stands

    same_due : (a b : DueCut) → Some a ≡ Some b → a.due ≡ b.due
    same_due a b is = let same : a ≡ b = cc is in ap (λ (y : DueCut). y.due) same

    due : (z : Plan) → p.planning.plan ≡ Some z → n + z.left ≡ x.due
    due z is = same_due (due_cut n z) x (there (Some z) is)

    by : (o : Option Plan) → p.planning.plan ≡ o → ComesBy n m x p q
    by None is = let none = there None is in absurd (cc none)
    by (Some z) is = elim turns.plan [
      | inl (same, inl none) ↦
          let at = due z is in
          let more = turns.faults.faults in inr (due_cut m z, here (Some z) (ap (λ (y : Planning). y.plan) same ∙ is), omega (arith, at, late, none), omega (arith, at, none, more))
      | inl (same, inr (inl rose)) ↦
          let at = due z is in inr (due_cut m z, here (Some z) (ap (λ (y : Planning). y.plan) same ∙ is), omega (arith, at, late), omega (arith, at, most, rose))
      | inl (same, inr (inr full)) ↦ inl (let last = full.0 in let more = full.1 in omega (arith, last, more))
      | inr nears ↦ near nears.0.early nears.0.planning
    ]
      where
        near : ¬ IsDue p.planning.plan → q.planning ≡ record p.planning { plan = nearer p.planning.plan } → ComesBy n m x p q
        near early goes = elim (leb_tells z.left 1) [
          | inl soon ↦ absurd (early (subst IsDue (sym is) soon.1))
          | inr far ↦
              let at = due z is in
              let left = far.1 in
              let more = turns.faults.faults in
              inr (due_cut m (record z { left = z.left - 1 }), here (Some (record z { left = z.left - 1 })) (ap (λ (y : Planning). y.plan) goes ∙ ap nearer is), omega (arith, left), omega (arith, at, most, left, more))
        ]

-- A CUT

one_counted : (u v : ℕ) → Rose u v → WereCounted 1 u v
one_counted u v (inl less) = inl (omega (arith, less))
one_counted u v (inr last) = inr (let a = last.0 in let b = last.1 in omega (arith, a, b))

-- the cut of the plan that stands came, with its bytes, or another one
pub record PartCut (m : ℕ) (plan : Option DueCut) (p q : PartTold) : Type 0 where
  pub cuts : List ℕ
  pub others : ℕ
  pub are : CutsAre plan 0 (Added (Off m) ∷ []) cuts others
  pub came : q.planning.came ≡ p.planning.came ++ cuts
  pub counted : WereCounted others p.planning.unplanned q.planning.unplanned

pub part_off : (n m : ℕ) (p q : PartTold) → PartTurns true n m p q → PartCut m (option_map (due_cut n) p.planning.plan) p q
part_off n m p q turns = elim turns.plan [
  | inl comes ↦ record {
    cuts = comes.0.plan.keep ∷ [];
    others = 0;
    are = inl (due_cut n comes.0.plan, [], ap (option_map (due_cut n)) comes.0.stood, soon comes.0.plan comes.0.due comes.1, refl, (refl, refl));
    came = ap (λ (x : Planning). x.came) comes.0.planning;
    counted = inl (let more = comes.0.more in omega (arith, more));
  }
  | inr other ↦ record {
    cuts = [];
    others = 1;
    are = inr (0, refl, (refl, refl));
    came = other.came ∙ sym (append-nil p.planning.came);
    counted = one_counted p.planning.unplanned q.planning.unplanned other.unplanned;
  }
]
  where
    soon : (z : Plan) → z.left ≤ 1 → m ≡ next_count n → (n + z.left ≤ m) ⊎ (last_count ≤ m)
    soon z due next = elim (leb_tells (n + 1) last_count) [
      | inl fits ↦ inl (let small = fits.1 in omega (arith, next, small, due))
      | inr last ↦ inr (let large = last.1 in omega (arith, next, large))
    ]

-- of a part whose cuts no step plans each is another one
pub other_off : (n m : ℕ) (p q : PartTold) → PartTurns true n m p q
    → WereCounted 1 (p.planning.unplanned + length p.planning.came) (q.planning.unplanned + length q.planning.came)
other_off n m p q turns = elim turns.plan [
  | inl comes ↦
      let more = comes.0.more in
      let one = ap (λ (x : Planning). length x.came) comes.0.planning ∙ length-append p.planning.came (comes.0.plan.keep ∷ []) in inl (omega (arith, more, one))
  | inr other ↦
      let same = ap length other.came in
      elim other.unplanned [ inl less ↦ inl (omega (arith, less, same)) | inr last ↦ inr (let a = last.0 in let b = last.1 in omega (arith, a, b)) ]
]
