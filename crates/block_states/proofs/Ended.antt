-- A block whose job ends.
use Rattle.std.proofs.Common.{◌≡◌, ℕ, ◌&&◌, ◌||◌, Bool, true, false, if◌then◌else◌, List, refl, ap, ◌∙◌, slice_set, unwrap_or, Option}
use Rattle.block_machine.specs.Words.{ReqResult, Fine, Restored, JobKind, ReadJob, WriteJob, RestoreJob, BlockDesc}
use Rattle.block_machine.specs.State.{BlockState}
use Rattle.block_machine.specs.Steps.{ended, flagged, protects}
use Rattle.block_states.specs.States.{KeptBlocks, state_at, changed_at, given_to}
use Rattle.block_states.proofs.Shown.{changed_twice}

flags_apart : (kind : JobKind) (r : ReqResult) (b : BlockState) (x : List ℕ) (p : Bool)
    → record (flagged kind r (record b { ram = x })) {
      status = r;
      protected = (flagged kind r (record b { ram = x })).protected || p;
    } ≡ record
    (flagged kind r b) { status = r; protected = b.protected || p; ram = x }
flags_apart ReadJob Restored b x p = refl
flags_apart ReadJob r b x p = refl
flags_apart RestoreJob Fine b x p = refl
flags_apart RestoreJob r b x p = refl
flags_apart WriteJob Fine b x p = refl
flags_apart WriteJob r b x p = refl
flags_apart kind r b x p = refl

abbrev closed : ReqResult → Bool → BlockState → BlockState
closed r p b = record b { status = r; protected = b.protected || p }

in_parts : (d : BlockDesc) (keeps kept p : Bool) (kind : JobKind) (ram : Bool) (r : ReqResult) (given : Option (List ℕ)) (b : BlockState)
    → kept ≡ (ram && keeps) → p ≡ protects d kind r
    → (let a = given_to kept given b in closed r p (if ram then flagged kind r a else a)) ≡ ended d keeps kind ram r given b
in_parts d keeps kept p kind true r given b is protect = rw (is, protect)
    (flags_apart kind r b (if keeps then unwrap_or given b.ram else b.ram) (protects d kind r))
in_parts d keeps kept p kind false r given b is protect = rw (is, protect) refl

-- what was given, the flags, and then the status and protection
pub ends : (d : BlockDesc) (keeps kept p : Bool) (kind : JobKind) (ram : Bool) (r : ReqResult) (given : Option (List ℕ)) (id : ℕ)
    (k k1 k2 k3 : KeptBlocks) → kept ≡ (ram && keeps) → p ≡ protects d kind r
    → k1 ≡ changed_at id (given_to kept given) k → k2 ≡ changed_at id (λ b. if ram then flagged kind r b else b) k1 → k3 ≡ changed_at id (closed r p) k2
    → k3 ≡ changed_at id (ended d keeps kind ram r given) k
ends d keeps kept p kind ram r given id k k1 k2 k3 is protect first second third =
    third
    ∙ ap (changed_at id (closed r p)) (second ∙ ap (changed_at id (λ b. if ram then flagged kind r b else b)) first
    ∙ changed_twice id (given_to kept given) (λ b. if ram then flagged kind r b else b) k)
    ∙ changed_twice id (λ b. let a = given_to kept given b in if ram then flagged kind r a else a) (closed r p) k
    ∙ ap (λ b. record k { states = slice_set k.states id b }) (in_parts d keeps kept p kind ram r given (state_at k.states id) is protect)
