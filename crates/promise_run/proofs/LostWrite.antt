-- The run that loses an acknowledged write at a cut keeps all else that the promise says.
use Rattle.std.specs.Prelude.{Contains}
use Rattle.std.specs.Option.{option_and_then}
use Rattle.std.proofs.Common.{◌≡◌, ℕ, zero, suc, IsTrue, List, [], ◌∷◌, ◌++◌, ◌==◌, Option, Some, None, refl, sym, ap, subst, ◌∙◌, inl, inr, arith, ◌≤◌, ◌⊎◌}
use Rattle.std.proofs.lemmas.Bool.{cases_Bool}
use Rattle.block_machine.specs.nv_base.declared.instance.DeviceNumber.{DeviceNumber}
use Rattle.block_machine.specs.nv_base.Count.{last_count, next_count}
use Rattle.block_machine.specs.nv_base.Marks.{instance_of}
use Rattle.fls_model.specs.Told.{Change}
use Rattle.block_machine.specs.Words.{Instance, Mark, Content, Erased, Entry, Wrote, Found, Write}
use Rattle.block_machine.specs.State.{State, Job}
use Rattle.block_machine.specs.Blocks.{instance_at, job_block, mark_of}
use Rattle.block_machine.specs.History.{MayStandIn}
use Rattle.block_machine.specs.StartUp.{at_first}
use Rattle.block_machine.specs.Steps.{after, after_from}
use Rattle.block_machine.specs.Accepted.{IsAccepted, IsNotOlder, HasTaken}
use Rattle.block_machine.specs.Legal.{IsLegal}
use Rattle.fee_image.specs.Laws.{SoundImagesCompute}
use Rattle.promise_blocks.specs.Marks.{Lists}
use Rattle.promise_blocks.specs.OverDevice.{HasOffAt, TellsAtMost}
use Rattle.promise_device.specs.Making.{banks_of}
use Rattle.promise_device.specs.Image.{attached}
use Rattle.promise_device.specs.FlashRun.{IsChain, AreSeen, AreOperations}
use Rattle.promise_run.specs.Run.{cap, HasOrder, has_cutter}
use Rattle.promise_run.specs.Refusals.{RefusesAsAsked}
use Rattle.promise_run.specs.Promise.{BeginsWell, Keeps, StartUpsFind, FailuresArePaid, found_by, making_of}
use Rattle.promise_run.specs.Cases.{small, one, begun, operations, taken, lost_write}
use Rattle.promise_run.proofs.KeptRuns.{every, at_most, some_list, some_changes, tells, each}

abbrev whole : List Entry
whole = lost_write.history

pub keeps_order : HasOrder lost_write whole
keeps_order = ((refl, (((refl, refl), (tt, tt), (tt, tt)), ((record { played = refl; ends = refl }, (tt, (tt, (tt, tt))), (tt, (tt, (tt, tt)))), tt))), ((λ no. cc no), ((λ no. no), tt)), refl)

-- WHAT IS FOUND
abbrev FindsNothing : Entry → Type 0
FindsNothing e = (marks : List (Instance × Mark)) (ops : ℕ) → e ≡ Found marks ops → (marks ≡ []) × (ops ≡ 0)

founds : (e : Entry) → Contains whole e → FindsNothing e
founds = every FindsNothing whole
    ((λ marks ops is. (sym (cc is), sym (cc is))), ((λ marks ops is. absurd (cc is)), ((λ marks ops is. absurd (cc is)), ((λ marks ops is. absurd (cc is)), ((λ marks ops is. absurd (cc is)), tt)))))

lists : Lists small [] (found_by small (begun 0))
lists = each (λ x. Erased ≡ found_by small (begun 0) x.0.0) refl refl refl

pub start_ups_find : StartUpsFind lost_write
start_ups_find marks zero has few = subst (λ (ms : List (Instance × Mark)). Lists small ms (found_by small (begun 0))) (sym (founds (Found marks zero) has marks zero refl).0) lists
start_ups_find marks (suc ops) has few = let none : suc ops ≡ 0 = (founds (Found marks (suc ops)) has marks (suc ops) refl).1 in absurd (omega (arith, none))

-- THE EXIT
took : HasTaken small whole (after_from small at_first taken) (record { block = 2; index = 0 }) (Content one)
took = record { job = _; in_hand = refl; block = refl; index = (0, omega arith, refl); takes = refl; behind = omega arith; ask = record { caller = 0; request = Write 2 (Some one) 0; stands = refl; asks = (refl, refl) } }

abbrev Accepted_at : DeviceNumber × ℕ → Type 0
Accepted_at x = IsAccepted small whole (instance_of x.0) (found_by small (begun 4) x.0.0)

abbrev Newest_at : DeviceNumber × ℕ → Type 0
Newest_at x = IsNotOlder small whole (instance_of x.0) (found_by small (begun 4) x.0.0)

some_mark : (x y : Mark) → Some x ≡ Some y → x ≡ y
some_mark x y is = cc

some_block : (x y : ℕ) → Some x ≡ Some y → x ≡ y
some_block x y is = cc

abbrev blocks : Option Job → Option ℕ
blocks (Some j) = Some (job_block j)
blocks None = None

-- the Post speaks of block 2 alone
other_block : (s : State) (j k : Job) → s.hand ≡ Some k → job_block k ≡ 2 → s.hand ≡ Some j → job_block j ≡ 1 → ⊥
other_block s j k own two is one = let same : job_block k ≡ job_block j = some_block (job_block k) (job_block j) (ap blocks (sym own ∙ is)) in omega (arith, same, two, one)

abbrev marks_in : Option Job → Option Mark
marks_in o = option_and_then mark_of o

its_mark : (s : State) (j k : Job) (a : Mark) → s.hand ≡ Some k → mark_of k ≡ Some (Content one) → s.hand ≡ Some j → mark_of j ≡ Some a → Content one ≡ a
its_mark s j k a own takes is told = some_mark (Content one) a (sym takes ∙ ap marks_in (sym own ∙ is) ∙ told)

abbrev before_post : State
before_post = after_from small at_first (taken ++ Wrote (record { block = 2; index = 0 }) (Content one) 4 ∷ [])

-- nothing was acknowledged of block 1 but what the start-up found
newest_of_1 : (n : ℕ) → IsNotOlder small whole (record { block = 1; index = n }) Erased
newest_of_1 n = (
  λ a is. inl is,
  (λ a none. absurd none, (λ a none. absurd none, (λ a none. absurd none, (λ a (j, is, block, takes, told). absurd (other_block before_post j _ refl refl is block), tt)))),
)

newest_of_2 : IsNotOlder small whole (record { block = 2; index = 0 }) (Content one)
newest_of_2 = (
  λ a is. inr (inr (inl took)),
  (λ a none. absurd none, (λ a none. absurd none, (λ a none. absurd none, (λ a (j, is, block, takes, told). inl (its_mark before_post j _ a refl refl is takes), tt)))),
)

pub exit_keeps : SoundImagesCompute → Keeps small whole (begun 4)
exit_keeps computes = record {
  marks = record {
    stands = each (λ x. MayStandIn (instance_at (after small whole) (instance_of x.0)) (found_by small (begun 4) x.0.0)) (inl refl) (inl refl) (inl refl);
    accepted = each Accepted_at (record { whole = refl; brought = inl refl }) (record { whole = refl; brought = inl refl }) (record { whole = refl; brought = inr (inr (inl took)) });
    newest = each Newest_at (newest_of_1 0) (newest_of_1 1) newest_of_2;
  };
  sound = (computes (banks_of (making_of small)) (begun 4)).0 refl;
}

-- THE REST
pub is_legal : IsLegal small cap whole
is_legal = (
  record { room = omega arith; grows = omega arith; lists = refl; lengths = refl; stands = tt },
  (
    record { started = refl; caller_small = omega arith; store = refl; room = refl; replies = refl },
    (
      (record { started = refl; on = refl; grows = omega arith }, record { free = tt; same_block = refl; same_kind = refl; takes = refl }),
      (
        (record { started = refl; on = refl; grows = omega arith }, record { same_block = refl; one_of_its = refl; in_order = refl; left = omega arith; marks = refl }),
        ((record { started = refl; on = refl; grows = omega arith }, record { same_block = refl; results = inl (refl, refl) }), tt),
      ),
    ),
  ),
)

-- until the first operation the history is that of the Pick
pub begins_well : BeginsWell lost_write
begins_well = record {
  found = λ marks has. start_ups_find marks 0 has (omega arith);
  legal = let all = is_legal in (all.0, (all.1.0, (all.1.1.0, tt)));
}

pub is_paid : FailuresArePaid lost_write
is_paid = record { faults = 0; counted = inl (omega arith); pay = inl (omega arith, inl (omega arith, inl (omega arith, inl (omega arith, inl (omega arith, tt))))) }

pub no_refusals : (id : ℕ) → RefusesAsAsked small lost_write.course whole id
no_refusals id = elim (cases_Bool (2 == id)) [
  | inl own ↦ rw own (0, (0, (tt, refl), (0, (tt, (tt, (tt, refl))), refl)))
  | inr other ↦ rw other (0, (0, (tt, refl), (0, (tt, (tt, (tt, refl))), refl)))
]

chains : (first last : List ℕ) → begun 0 ≡ first → begun 4 ≡ last → IsChain (attached small.geometry first) operations last
chains first last a b = subst (λ (f : List ℕ). IsChain (attached small.geometry f) operations last) a
    (subst (λ (l : List ℕ). IsChain (begun 0) operations l) b (refl, (begun 1, refl, (refl, (begun 2, refl, (refl, (begun 3, refl, (refl, (begun 4, refl, (refl, (begun 4, refl, refl)))))))))))

abbrev Kept : ℕ → Type 0
Kept k = IsTrue (has_cutter lost_write.course) × ((last_count ≤ k) ⊎ HasOffAt whole (next_count k))

seen : (last : List ℕ) (changes : List Change) → operations ≡ changes → AreSeen Kept 0 last operations [] changes
seen last changes a =
    subst (λ (cs : List Change). AreSeen Kept 0 last operations [] cs) a (inl (_, refl, inl (_, refl, inl (_, refl, inl (_, refl, inl ([], refl, (refl, refl)))))))

pub are_operations : AreOperations small.geometry lost_write.flash Kept []
are_operations = record {
  told_alike = tt;
  chain = λ t. chains t.first t.last (some_list (begun 0) t.first t.entry) (some_list (begun 4) t.last t.exit);
  seen = λ t. seen t.bytes.last t.changes (some_changes operations t.changes t.told);
  counted = inl refl;
  told = λ h. absurd (let told = h.room.0 in cc told);
}

pub tells_few : TellsAtMost 5 whole
tells_few = at_most 5 whole (tells 5 0 (omega arith), ((λ ops is. absurd (cc is)), (tells 5 0 (omega arith), (tells 5 4 (omega arith), (tells 5 4 (omega arith), tt)))))
