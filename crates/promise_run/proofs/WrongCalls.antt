-- Calls that are none of a run, and runs in which a job isn't served.
use Rattle.std.proofs.Common.{◌≡◌, ℕ, Bool, List, [], ◌∷◌, length, Some, None, subst, refl, ap, inl, inr, arith}
use Rattle.std.specs.List.{concat}
use Rattle.block_machine.specs.nv_base.Count.{Rose}
use Rattle.nvm_script.specs.Printed.{history_lines}
use Rattle.promise_run.specs.Call.{IsRunOf, text_of}
use Rattle.fee_image.specs.Laws.{SoundImagesCompute}
use Rattle.block_machine.specs.Words.{Fine, Content, Write, Accepted, Ask, Wrote, Found}
use Rattle.block_machine.specs.State.{State, Job}
use Rattle.block_machine.specs.Blocks.{job_block}
use Rattle.block_machine.specs.Results.{own_of, failed_set}
use Rattle.block_machine.specs.Steps.{after}
use Rattle.promise_device.specs.Making.{banks_of}
use Rattle.promise_device.specs.Bridge.{IsWornOut}
use Rattle.promise_run.specs.Promise.{making_of}
use Rattle.promise_run.specs.Completeness.{Completeness, PostWell}
use Rattle.promise_run.specs.Run.{HasOrder}
use Rattle.promise_run.specs.Cases.{small, blank, one, picks_one, turned, not_drained, written_at, fails_for_nothing, demo_run, demo_call, last_in_two}

-- an output of more or fewer pieces than lines
other_pieces : (pieces : List (List ℕ)) → (length pieces ≡ length (text_of demo_run) → ⊥) → IsRunOf (demo_call 0 pieces) demo_run → ⊥
other_pieces pieces other run = elim run.ends [
  | inl (status, text) ↦ other (ap (λ (l : List (List ℕ)). length l) text.pieces)
  | inr (status, text) ↦ omega (arith, status)
]

pub no_last_line : IsRunOf (demo_call 0 (history_lines demo_run.history)) demo_run → ⊥
no_last_line = other_pieces (history_lines demo_run.history) (λ e. omega (arith, e))

pub two_lines_in_one : IsRunOf (demo_call 0 (concat (text_of demo_run) ∷ [])) demo_run → ⊥
two_lines_in_one = other_pieces (concat (text_of demo_run) ∷ []) (λ e. omega (arith, e))

pub one_line_in_two : IsRunOf (demo_call 0 last_in_two) demo_run → ⊥
one_line_in_two = other_pieces last_in_two (λ e. omega (arith, e))

no_rise : Rose 0 0 → ⊥
no_rise (inl rose) = omega (arith, rose)
no_rise (inr (end, more)) = omega (arith, end)

-- no operation of the write that is posted failed
abbrev before_post : State
before_post = after small (Found [] 0 ∷ Ask 0 (Write 2 (Some one) 0) Accepted ∷ picks_one ∷ Wrote (record { block = 2; index = 0 }) (Content one) 4 ∷ [])

some_same : (j k : Job) → Some j ≡ Some k → j ≡ k
some_same j k is = cc is

none_failed : (j : Job) → before_post.hand ≡ Some j → failed_set (own_of small before_post (job_block j)) j (Fine, None) ≡ Some []
none_failed j hand = subst (λ (k : Job). failed_set (own_of small before_post (job_block k)) k (Fine, None) ≡ Some []) (some_same _ j hand) refl

pub posted_well : Completeness (turned (written_at 4)) (turned (written_at 4)).course
posted_well calm = record { ends = λ is. cc is; results = λ alone told sound. (tt, (tt, (tt, (tt, (inl none_failed, tt))))) }

-- one that is posted as failed has a failed operation, and a blank flash isn't worn out
abbrev picked_state : State
picked_state = after small (Found [] 0 ∷ Ask 0 (Write 2 (Some one) 0) Accepted ∷ picks_one ∷ [])

not_worn : (k n : ℕ) (urgent : Bool) → IsWornOut (making_of small) fails_for_nothing.flash k n urgent → ⊥
not_worn k n urgent worn = let (b, h, active, last) = worn.last in cc active

pub not_failed : SoundImagesCompute → Completeness fails_for_nothing fails_for_nothing.course → ⊥
not_failed computes complete = elim posts.1.1.1.0 [
  | inl none ↦ let is = none _ refl in cc is
  | inr (j, hand, some, was) ↦ not_worn was.moment _ _ was.is
]
  where
    posts : PostWell fails_for_nothing
    posts = (complete (record { no_fault = no_rise; entries = refl })).results refl (record { first = _; entry = refl; last = _; exit = refl }) ((computes (banks_of (making_of small)) blank).0 refl)

-- a drain leaves no job in hand
pub not_drained_by_order : HasOrder not_drained not_drained.history → ⊥
not_drained_by_order order = let no_ = order.0.1.1.0.0.ends in cc no_
