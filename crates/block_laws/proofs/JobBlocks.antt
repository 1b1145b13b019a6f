-- The blocks of jobs, and the places, after a legal history.
use Rattle.std.proofs.Common.{ℕ, zero, suc, List, [], ◌∷◌, Contains, refl, subst, arith}
use Rattle.block_machine.specs.Words.{Entry, Configuration}
use Rattle.block_machine.specs.State.{State, jobs_of}
use Rattle.block_machine.specs.StartUp.{at_first}
use Rattle.block_machine.specs.Steps.{step, after, after_from}
use Rattle.block_machine.specs.Legal.{IsLegal, IsLegalFrom}
use Rattle.block_laws.specs.Consistent.{Each}
use Rattle.block_laws.specs.Laws.{JobsArePending, JobsHaveTheirBlocks, PlacesAreConfigured}
use Rattle.block_laws.proofs.ConsistentSteps.{at_first_consistent}
use Rattle.block_laws.proofs.PendingJobs.{IsJob, AreOnOtherBlocks, blocks_parts}
use Rattle.block_laws.proofs.MarkSteps.{Follows, steps_follow, at_first_follows}
use Rattle.block_laws.proofs.MarkOrigins.{IsRest, head_of, rest_of}

follows_along : (c : Configuration) (cap : ℕ) (h : List Entry) (s : State) (es : List Entry) → IsLegalFrom c cap s es → IsRest h s.count es → Follows c h s → Follows c h (after_from c s es)
follows_along c cap h s [] legal rest f = f
follows_along c cap h s (e ∷ es) legal rest f = follows_along c cap h (step c s e) es legal.1 (rest_of h s.count e es rest) (steps_follow c cap h s e (head_of h s.count e es rest) legal.0 f)

pub follows : (c : Configuration) (cap : ℕ) (h : List Entry) → IsLegal c cap h → Follows c h (after c h)
follows c cap h legal = follows_along c cap h at_first h legal ([], refl, refl) (at_first_follows c h (at_first_consistent c))

pub one_of : {X : Type 0} (P : X → Type 0) (xs : List X) (x : X) → Each P xs → Contains xs x → P x
one_of P [] x each (k, within, is) = absurd (omega (arith, within))
one_of P (y ∷ xs) x each (zero, within, is) = subst P is each.0
one_of P (y ∷ xs) x each (suc k, within, is) = one_of P xs x each.1 (k, omega arith, is)

pub jobs_are_pending : JobsArePending
jobs_are_pending c cap h j legal has there = (one_of (IsJob h (after c h).blocks) (jobs_of (after c h)) j (follows c cap h legal).jobs.each has).pending there

pub jobs_have_their_blocks : JobsHaveTheirBlocks
jobs_have_their_blocks c cap h before j more legal is = (blocks_parts before j more (subst AreOnOtherBlocks is (follows c cap h legal).jobs.apart)).0

pub places_are_configured : PlacesAreConfigured
places_are_configured c cap h legal on = let f = follows c cap h legal in (f.size on, f.instances on)
