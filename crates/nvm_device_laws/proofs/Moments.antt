-- The history up to an operation, and what a map of marks keeps to.
use Rattle.std.specs.Prelude.{find}
use Rattle.std.specs.List.{Contains}
use Rattle.std.proofs.Common.{◌≡◌, ℕ, ◌≤◌, List, [], ◌∷◌, Some, refl, sym, ap, ◌∙◌, subst, arith}
use Rattle.block_machine.specs.nv_base.Entry.{ops_of}
use Rattle.block_machine.specs.nv_base.Marks.{instance_of}
use Rattle.block_machine.specs.nv_base.declared.instance.DeviceNumber.{DeviceNumber}
use Rattle.block_machine.specs.block_config.Lengths.{lengths_of}
use Rattle.block_machine.specs.block_config.Rules.{IsLegalConfig}
use Rattle.memif.specs.Told.{Held, more_writes}
use Rattle.block_machine.specs.Words.{Entry, Ask, Pick, Wrote, Post, Off, Found, Configuration}
use Rattle.block_machine.specs.State.{State, InstanceState}
use Rattle.block_machine.specs.Blocks.{instance_at, same_instance}
use Rattle.block_machine.specs.StartUp.{at_first}
use Rattle.block_machine.specs.Steps.{step, after, after_from}
use Rattle.block_machine.specs.Legal.{IsLegal}
use Rattle.block_machine.specs.History.{up_to, MayStandIn}
use Rattle.promise_blocks.specs.Counts.{MayCountIn, KeepsCounts, counts_in, count_due, wrotes}
use Rattle.promise_blocks.specs.Marks.{KeepsMarks, marks_in}
use Rattle.promise_blocks.specs.OverDevice.{TellsAtMost}
use Rattle.block_laws.proofs.HistoryLaws.{beginnings_are_legal, up_to_is_a_beginning}
use Rattle.block_laws.proofs.LateEntries.{allowed_stand_now, instances_stand_now}
use Rattle.block_laws.proofs.MarkOrigins.{marks_are_not_older}
use Rattle.block_laws.proofs.WholeSteps.{marks_are_accepted}
use Rattle.nvm_device_laws.proofs.Payments.{first_of, tells_rest}
use Rattle.nvm_device_laws.proofs.Writes.{wrotes_up_to}

-- the operations of a state are at most those that an entry told
step_ops : (c : Configuration) (n : ℕ) (s : State) (e : Entry) → s.ops ≤ n
    → ((ops : ℕ) → ops_of e ≡ Some ops → ops ≤ n) → (step c s e).ops ≤ n
step_ops c n s (Ask caller r reply) few tells = few
step_ops c n s (Pick block kind t ops) few tells = tells ops refl
step_ops c n s (Wrote i mark ops) few tells = tells ops refl
step_ops c n s (Post block r given refused ops) few tells = tells ops refl
step_ops c n s (Off ops) few tells = tells ops refl
step_ops c n s (Found marks ops) few tells = tells ops refl

pub ops_within : (c : Configuration) (n : ℕ) (s : State) (es : List Entry) → s.ops ≤ n → TellsAtMost n es → (after_from c s es).ops ≤ n
ops_within c n s [] few tells = few
ops_within c n s (e ∷ es) few tells = ops_within c n (step c s e) es
    (step_ops c n s e few (λ ops is. tells e ops (first_of e es) is)) (tells_rest n e es tells)

-- marks that may stand after a legal history are whole, accepted and not older
abbrev pub Stand : Configuration → State → (ℕ → Held) → Type 0
Stand c s m = (x : DeviceNumber × ℕ) → Contains (lengths_of c) x → MayStandIn (instance_at s (instance_of x.0)) (m x.0.0).mark

pub keeps_marks : (c : Configuration) (cap : ℕ) (h : List Entry) (m : ℕ → Held) → IsLegalConfig c
    → IsLegal c cap h → Stand c (after c h) m → KeepsMarks c h (marks_in m)
keeps_marks c cap h m rules legal stand = record {
  stands = stand;
  accepted = λ x has. marks_are_accepted c cap h (instance_of x.0) (m x.0.0).mark rules legal (stand x has);
  newest = λ x has. marks_are_not_older c cap h (instance_of x.0) (m x.0.0).mark legal (stand x has);
}

-- and from the operations of the last driver entry on, so they are up to an operation
pub keeps_up_to : (c : Configuration) (cap : ℕ) (h : List Entry) (n k : ℕ) (m : ℕ → Held)
    → IsLegalConfig c → IsLegal c cap h → TellsAtMost n h → n ≤ k
    → Stand c (after c h) m → KeepsMarks c (up_to k h) (marks_in m)
keeps_up_to c cap h n k m rules legal tells late stand =
    let beginning = up_to_is_a_beginning k h in
    let few : (after c h).ops ≤ n = ops_within c n at_first h (omega arith) tells in
    let then_legal : IsLegal c cap (up_to k h) = beginnings_are_legal c cap (up_to k h) beginning.0 (subst (IsLegal c cap) beginning.1 legal) in
    keeps_marks c cap (up_to k h) m rules then_legal
    (λ x has. (allowed_stand_now c h k (instance_of x.0) (m x.0.0).mark (omega (arith, few, late))).1 (stand x has))

-- counts that may stand after a history, from these bases on
abbrev pub Count : Configuration → State → (ℕ → ℕ) → (ℕ → Held) → Type 0
Count c s due m = (x : DeviceNumber × ℕ) → Contains (lengths_of c) x → MayCountIn (instance_at s (instance_of x.0)) (due x.0.0) (m x.0.0).count

-- from the operations of the last driver entry on they are those up to an operation, from what was found then
pub counts_up_to : (c : Configuration) (h : List Entry) (n k : ℕ) (base : ℕ → ℕ) (found m : ℕ → Held)
    → TellsAtMost n h → n ≤ k → ((x : DeviceNumber × ℕ) → Contains (lengths_of c) x → counts_in found x.0.0 ≡ base x.0.0)
    → Count c (after c h) (count_due h base) m → KeepsCounts c (up_to k h) (counts_in found) (counts_in m)
counts_up_to c h n k base found m tells late same count = λ x has.
    let few : (after c h).ops ≤ n = ops_within c n at_first h (omega arith) tells in
    let i = instance_of x.0 in
    let instances = instances_stand_now c h k (omega (arith, few, late)) in
    let due : count_due (up_to k h) (counts_in found) x.0.0 ≡ count_due h base x.0.0 =
    ap (λ (w : ℕ). more_writes w (counts_in found x.0.0)) (wrotes_up_to i 0 n k h tells late) ∙ ap (more_writes (wrotes i h)) (same x has) in
    subst (λ (d : ℕ). MayCountIn (instance_at (after c (up_to k h)) i) d (m x.0.0).count) (sym due)
    (subst (λ (xs : List InstanceState). MayCountIn (find (λ z. same_instance i z.instance) xs) (count_due h base x.0.0) (m x.0.0).count) (sym instances) (count x has))
