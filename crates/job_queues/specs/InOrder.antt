-- A queue whose jobs go in the order in which they came.
use Rattle.std.specs.Prelude.{◌≡◌, ◌<◌, ◌≤◌, List, [], ◌∷◌}
use Rattle.job_queues.specs.declared.waiting.Waiting.{Waiting}

-- of two jobs of one queue, the one that came first goes first, as its number is the lower one and its priority no lower
abbrev pub Leads : Waiting → Waiting → Type 0
Leads a b = (a.immediate ≡ b.immediate) × (a.priority ≤ b.priority) × (a.number < b.number)

abbrev pub LeadsAll : Waiting → List Waiting → Type 0
LeadsAll a [] = Unit {0}
LeadsAll a (b ∷ bs) = Leads a b × LeadsAll a bs

-- each job leads all that came behind it
abbrev pub InOrder : List Waiting → Type 0
InOrder [] = Unit {0}
InOrder (w ∷ ws) = LeadsAll w ws × InOrder ws
