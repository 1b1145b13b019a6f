-- Planned power cuts.
use Rattle.std.specs.Prelude.{◌≡◌, ◌≤◌, ◌-◌, ℕ, zero, suc, List, [], ◌∷◌, ◌++◌, Option, Some, None, nat_le, ◌&&◌, if◌then◌else◌}
use Rattle.nv_base.specs.Count.{Rose, next_count}
use Rattle.nv_base.specs.declared.plan.Plan.{Plan}

pub record Planning : Type 0 where
  -- the plan that stands
  pub plan : Option Plan
  -- how many plans it takes yet
  pub takes : ℕ
  -- the cuts that no plan asked for
  pub unplanned : ℕ
  -- of each planned cut that came since the attach, in their order, how many bytes of its operation it let be done
  pub came : List ℕ
  -- the operations of which such a cut let nothing be done
  pub withheld : ℕ

-- no plan stands, and none is taken
abbrev pub no_planning : Planning
no_planning = record { plan = None; takes = 0; unplanned = 0; came = []; withheld = 0 }

-- a new plan replaces one that stands, while plans are taken and nth isn't 0; else nothing changes
abbrev pub planned : ℕ → ℕ → Planning → Planning
planned nth keep p = if nat_le 1 p.takes && nat_le 1 nth then record p { plan = Some (record { left = nth; keep = keep }); takes = p.takes - 1 } else p

abbrev pub dropped : Planning → Planning
dropped p = record p { plan = None }

-- an attach begins the list of those that came
abbrev pub listed_anew : Planning → Planning
listed_anew p = record p { came = [] }

-- the plan is of the operation that comes now
abbrev pub IsDue : Option Plan → Type 0
IsDue (Some p) = p.left ≤ 1
IsDue None = ⊥

-- the plan, one operation nearer
abbrev pub nearer : Option Plan → Option Plan
nearer (Some p) = Some (record p { left = p.left - 1 })
nearer None = None

-- the operation was another one than the planned one
pub record Nears (p q : Planning) : Type 0 where
  pub early : ¬ IsDue p.plan
  pub planning : q ≡ record p { plan = nearer p.plan }

-- the operations that were withheld, behind a cut that lets so many bytes be done
abbrev pub withheld_by : ℕ → ℕ → ℕ
withheld_by zero n = next_count n
withheld_by (suc keep) n = n

-- the cut of this plan came, and maybe one that no plan asked for with it
abbrev pub behind_cut : Plan → ℕ → Planning → Planning
behind_cut plan unplanned p = record p { plan = None; unplanned = unplanned; came = p.came ++ plan.keep ∷ []; withheld = withheld_by plan.keep p.withheld }

-- it was the planned one, and its cut came
pub record Comes (p q : Planning) : Type 0 where
  pub plan : Plan
  pub stood : p.plan ≡ Some plan
  pub due : plan.left ≤ 1
  pub more : p.unplanned ≤ q.unplanned
  pub planning : q ≡ behind_cut plan q.unplanned p

-- a cut came that no plan asked for; what became of a plan is open until power_on drops it
pub record ComesUnplanned (p q : Planning) : Type 0 where
  pub unplanned : Rose p.unplanned q.unplanned
  pub takes : q.takes ≡ p.takes
  pub came : q.came ≡ p.came
  pub withheld : q.withheld ≡ p.withheld
