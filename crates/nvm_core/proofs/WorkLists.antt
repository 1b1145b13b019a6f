-- The work of moves, one behind another.
use Rattle.std.proofs.Common.{◌≡◌, inl, ℕ, List, [], ◌∷◌, ◌++◌, Some, None, refl, sym, ap, subst, ◌∙◌, arith}
use Rattle.nvm_laws.specs.block_machine.Words.{Request, Reply, Ask, Configuration}
use Rattle.nvm_laws.specs.block_machine.State.{State}
use Rattle.nvm_laws.specs.block_machine.Steps.{after_from}
use Rattle.nvm_laws.specs.promise_blocks.Payment.{Worn}
use Rattle.nvm_laws.proofs.block_laws.HistoryLaws.{histories_go_on}
use Rattle.nvm_laws.specs.promise_blocks.Moves.{Moment, Move, entry_list, entries_of, moment_behind}
use Rattle.nvm_laws.specs.promise_blocks.Work.{Costs, Work, Effort, AreWorked, IsWorked, work_behind}
use Rattle.nvm_core.specs.DeviceWork.{AreWorkedTo}
use Rattle.nvm_core.proofs.DeviceWork.{none_some}

pub work_more : (w : Work) (xs ys : List Effort) → work_behind w (xs ++ ys) ≡ work_behind (work_behind w xs) ys
work_more w [] ys = refl
work_more w (x ∷ xs) ys = work_more x.behind xs ys

module _ (f : Costs) (room : ℕ → ℕ → Type 0) (worn : Worn) (c : Configuration) where
  pub many_more : (before : Moment) (s : State) (w : Work) (xs ys : List Move) (es fs : List Effort) → AreWorked f room worn c before s w xs es
      → AreWorked f room worn c (moment_behind before xs) (after_from c s (entries_of xs)) (work_behind w es) ys fs → AreWorked f room worn c before s w (xs ++ ys) (es ++ fs)
  many_more before s w [] ys [] fs one two = two
  many_more before s w [] ys (e ∷ es) fs one two = absurd one
  many_more before s w (m ∷ ms) ys [] fs one two = absurd one
  many_more before s w (m ∷ ms) ys (e ∷ es) fs (here, rest) two = (
    here,
    many_more m.behind (after_from c s (entry_list m.entry)) e.behind ms ys es fs rest
        (subst (λ (t : State). AreWorked f room worn c (moment_behind m.behind ms) t (work_behind e.behind es) ys fs) (histories_go_on c s (entry_list m.entry) (entries_of ms)) two),
  )

  pub worked_more : (before : Moment) (s : State) (w v u : Work) (xs ys : List Move) → AreWorkedTo f room worn c before s w v xs
      → AreWorkedTo f room worn c (moment_behind before xs) (after_from c s (entries_of xs)) v u ys → AreWorkedTo f room worn c before s w u (xs ++ ys)
  worked_more before s w v u xs ys one two = record {
    efforts = one.efforts ++ two.efforts;
    are = many_more before s w xs ys one.efforts two.efforts one.are
        (subst (λ (x : Work). AreWorked f room worn c (moment_behind before xs) (after_from c s (entries_of xs)) x ys two.efforts) (sym one.behind) two.are);
    behind = work_more w one.efforts two.efforts ∙ ap (λ (x : Work). work_behind x two.efforts) one.behind ∙ two.behind;
  }

  -- no move
  pub none_worked : (before : Moment) (s : State) (w : Work) → AreWorkedTo f room worn c before s w w []
  none_worked before s w = record { efforts = []; are = tt; behind = refl }

  -- one move
  pub one_worked : (before : Moment) (s : State) (w : Work) (m : Move) (e : Effort) → IsWorked f room worn c before s w m e → AreWorkedTo f room worn c before s w e.behind (m ∷ [])
  one_worked before s w m e is = record { efforts = e ∷ []; are = (is, tt); behind = refl }

  -- a request leaves what is open
  pub ask_is_worked : (before : Moment) (s : State) (w : Work) (caller : ℕ) (r : Request) (reply : Reply) → IsWorked f room worn c before s w (record { entry = Some (Ask caller r reply); behind = before }) (record { begins = None; behind = w })
  ask_is_worked before s w caller r reply = record {
    begins = λ n is. none_some n is;
    adds = λ test has. omega arith;
    ends = λ n is. inl is;
    none = λ is. is;
    over = λ posted. cc posted;
    tries = omega arith;
  }

  pub ask_worked : (before : Moment) (s : State) (w : Work) (caller : ℕ) (r : Request) (reply : Reply) → AreWorkedTo f room worn c before s w w (record { entry = Some (Ask caller r reply); behind = before } ∷ [])
  ask_worked before s w caller r reply = one_worked before s w (record { entry = Some (Ask caller r reply); behind = before }) (record { begins = None; behind = w }) (ask_is_worked before s w caller r reply)
