-- What each allowed entry keeps, a legal history keeps; and what an Ask leaves.
use Rattle.std.proofs.Common.{◌≡◌, ℕ, List, [], ◌∷◌, Option, Some, None, refl}
use Rattle.block_machine.specs.Words.{Entry, Configuration, Request, SetIndex, Reply, Accepted, JobKind}
use Rattle.block_machine.specs.State.{State}
use Rattle.block_machine.specs.Blocks.{job_kind}
use Rattle.block_machine.specs.Steps.{step, after_from, changed, accepted_by, asked}
use Rattle.block_machine.specs.Legal.{IsAllowed, IsLegalFrom}

pub kept_along : (c : Configuration) (cap : ℕ) (P : State → Type 0) → ((s : State) (e : Entry) → IsAllowed c cap s e → P s → P (step c s e)) → (s : State) (es : List Entry) → IsLegalFrom c cap s es → P s → P (after_from c s es)
kept_along c cap P keeps s [] legal holds = holds
kept_along c cap P keeps s (e ∷ es) legal holds = kept_along c cap P keeps (step c s e) es legal.1 (keeps s e legal.0 holds)

-- a start-up, the job in hand and the power stay
abbrev pub Leaves : State → State → Type 0
Leaves s t = (t.started ≡ s.started) × (t.hand ≡ s.hand) × (t.off ≡ s.off)

changed_leaves : (c : Configuration) (s : State) (r : Request) → Leaves s (changed c s r)
changed_leaves c s (SetIndex block index) = (refl, refl, refl)
changed_leaves c s r = (refl, refl, refl)

accepted_leaves : (c : Configuration) (s : State) (r : Request) (kind : Option JobKind) → Leaves s (accepted_by c s r kind)
accepted_leaves c s r (Some kind) = (refl, refl, refl)
accepted_leaves c s r None = changed_leaves c s r

pub asked_leaves : (c : Configuration) (s : State) (r : Request) (reply : Reply) → Leaves s (asked c s r reply)
asked_leaves c s r Accepted = accepted_leaves c s r (job_kind r)
asked_leaves c s r reply = (refl, refl, refl)
