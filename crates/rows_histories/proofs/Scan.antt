-- What is kept behind each entry of a history.
use Rattle.std.specs.Prelude.{slice_get}
use Rattle.std.proofs.Common.{◌≡◌, ◌<◌, ℕ, suc, false, List, [], take, length, sym, ◌∙◌, subst, arith, Some, IsTrue}
use Rattle.block_machine.specs.block_config.Rules.{IsLegalConfig}
use Rattle.block_machine.specs.Words.{Instance, Mark, Entry, Configuration}
use Rattle.block_machine.specs.State.{State}
use Rattle.block_machine.specs.StartUp.{at_first}
use Rattle.block_machine.specs.Steps.{after}
use Rattle.block_machine.specs.Legal.{IsLegal}
use Rattle.block_laws.specs.Laws.{is_found}
use Rattle.block_laws.proofs.JobBlocks.{places_are_configured}
use Rattle.rows_histories.specs.declared.seen.Seen.{Seen}
use Rattle.rows_histories.specs.Instances.{IsConfigured}
use Rattle.rows_histories.specs.Seen.{IsSeenBy, IsSeen}
use Rattle.rows_histories.proofs.Walks.{allowed_at, legal_before, after_more}
use Rattle.block_laws.proofs.MarkOrigins.{stood}
use Rattle.rows_histories.proofs.Cells.{seen_more}
use Rattle.rows_histories.proofs.Numbers.{numbered, is_within}

-- nothing may stand before the first entry
pub seen_first : (c : Configuration) (i : Instance) (mark : Mark) (seen : Seen) → seen.stands ≡ false → seen.index ≡ 0 → IsSeen i mark seen (after c [])
seen_first c i mark seen none zero = record {
  stands = (λ on. let no_ : IsTrue false = sym none ∙ on in cc, λ h. absurd h);
  index = zero;
  there = λ on. cc;
}

-- one entry more of a legal history
pub scanned : (c : Configuration) (cap : ℕ) (h : List Entry) (k : ℕ) (e : Entry) (i : Instance) (mark : Mark) (old new : Seen)
    → IsLegalConfig c → IsConfigured c i → slice_get h k ≡ Some e → IsLegal c cap h → IsSeen i mark old (after c (take k h)) → IsSeenBy c i mark old e new
    → IsSeen i mark new (after c (take (suc k) h))
scanned c cap h k e i mark old new rules one at legal seen by =
    let (n, has, is) = numbered c i rules one in
    let s : State = after c (take k h) in
    let allowed = allowed_at c cap at_first h k e at legal in
    let within = λ (later : is_found e ≡ false).
    let blocks = (places_are_configured c cap (take k h) (legal_before c cap at_first h k legal) (stood c cap s e allowed later)).0 in
    let low = is_within c i one in
    let fits : i.block < length s.blocks = omega (arith, blocks, low) in fits in
    subst (λ (t : State). IsSeen i mark new t) (sym (after_more c at_first h k e at)) (seen_more c cap s e n i mark old new has is within allowed seen by)
