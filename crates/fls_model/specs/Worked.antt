-- What the worked cases take.
use Rattle.std.specs.Prelude.{ℕ, Bool, List, [], ◌∷◌, Option, Some, None}
use Rattle.nv_base.specs.Plan.{Planning, no_planning}
use Rattle.fls_model.specs.declared.flash.FlashAnswer.TheVariants.{Done}
use Rattle.fls_model.specs.Op.{Program}
use Rattle.fls_model.specs.Told.{Told, ToldBytes, Change}

-- a plan of a cut at the nth operation from now, with 7 bytes of it done
abbrev pub planned_at : ℕ → Planning
planned_at nth = record no_planning { plan = Some (record { left = nth; keep = 7 }) }

-- at the next one, with so many done
abbrev pub planning_to_keep : ℕ → Planning
planning_to_keep keep = record no_planning { plan = Some (record { left = 1; keep = keep }) }

-- behind a cut that let so many be done, with so many operations withheld
abbrev pub behind : ℕ → ℕ → Planning
behind keep withheld = record no_planning { came = keep ∷ []; withheld = withheld }

-- a flash of no bytes that has this list, with room for so many more
abbrev pub listing : Option (List Change) → ℕ → ToldBytes
listing changes room = record { now = []; changes = changes; room = room }

-- a flash that tells no bytes and counted so many cuts, off or on
abbrev pub cut_so_often : ℕ → Bool → Told
cut_so_often cuts off = record { geometry = record { page = 2; sector = 4; sectors = 1 }; bytes = None; ops = 0; faults = 0; cuts = cuts; off = off; planning = no_planning }

-- a program of no bytes
abbrev pub one_change : List Change
one_change = record { op = Program 0 []; before = []; answer = Done } ∷ []
