-- A run of callers at its end.
use Rattle.nvm_callers.proofs.Common.{map, IsTrue, list_all, ◌≡◌, ℕ, zero, suc, not, List, [], ◌∷◌, Option, Some, refl, sym, ap, ◌∙◌, subst, DeviceTold, Clock, Entry, Ask, Found, Instance, Mark, Told, PlainBlock, EndList, Pairs, told_by, DeskState, AreSynchronized, View, Step, IsInOrder, program_of, CopiesAreShown, has_ended, is_found, programs_of, AreRun, Terms, desk_with, DriverState, driver_of, stack_of, HasDriven, RefusesNone, LooksAreOrdered, BeginsUnasked, Stored, HaveRun, EndSo, IsClosedBy, Ending, KeepsOrder, WasRun, IsRun, RunsBy, end_of}
use Rattle.std.specs.Prelude.{drop}
use Rattle.driver_moves.specs.nvm_shared.Passes.{IsEntry}
use Rattle.nvm_callers.specs.Looked.{HasLooked}
use Rattle.nvm_callers.specs.declared.ending.Ending.TheVariants as ending
use Rattle.nvm_callers.proofs.Keeping.{driving_keeps}
use Rattle.nvm_callers.proofs.Adding.{driving_adds}
use Rattle.nvm_callers.proofs.Moved.{driving_moves}
use Rattle.nvm_callers.proofs.Looking.{driving_looks}
use Rattle.nvm_callers.proofs.KeptSteps.{callers_keep_steps}

-- mirrors refuse no copy
pub refuse_none : {N : Type 0} (es : EndList N) → RefusesNone (map told_by es)
refuse_none (Some e ∷ es) zero = refl
refuse_none (e ∷ es) (suc block) = refuse_none es block
refuse_none es block = tt

module _ {D C : Type 0} (told : D → DeviceTold) (clock : D → Clock) (copies : C → List Told) (is_store : C → ℕ → ℕ → List ℕ → Type 0) (looked : C → C → ℕ → ℕ → Type 0) (over : C → C → Type 0) (stands : C → ℕ → ℕ → List Entry → Type 0) (t : Terms) where
  -- WHAT WAS KEPT
  pub was_run : (begin seen : List Entry) (first : DriverState D (List PlainBlock)) (m : C) (now : DriverState D C) (e : Ending) (desk : DeskState) (device : D)
      → HasDriven told clock copies is_store looked over stands t begin seen (driver_of first.device m first.hand) now → AreSynchronized t.config (copies m) → RefusesNone (copies m)
      → IsTrue (has_ended t.config seen) → desk ≡ desk_with t seen → device ≡ now.device → WasRun told clock (stack_of (desk_with t begin) first) e desk device
  was_run begin seen first m now e desk device driven synchronized none ended is_desk is_device =
      let kept = driving_keeps told clock copies is_store looked over stands t begin seen (driver_of first.device m first.hand) now driven in
      let added = driving_adds told clock copies is_store looked over stands t begin seen (driver_of first.device m first.hand) now driven in
      let moved = driving_moves told clock copies is_store looked over stands t begin seen (driver_of first.device m first.hand) now driven in
      let was : WasRun told clock (stack_of (desk_with t begin) first) e (desk_with t seen) now.device = record {
        config = refl;
        cap = refl;
        more = added.more;
        grows = added.grows;
        no_start = added.no_start;
        starts = added.starts;
        no_refusal = (added.no_refusal synchronized none).1;
        hand = now.hand;
        keeps = kept.keeps;
        cuts = λ uncut. (moved.uncut uncut, added.counted uncut);
        moved = moved;
        ends = λ other. ended;
      } in
      subst (λ (y : DeskState). WasRun told clock (stack_of (desk_with t begin) first) e y device) (sym is_desk)
      (subst (λ (x : D). WasRun told clock (stack_of (desk_with t begin) first) e (desk_with t seen) x) (sym is_device) was)

  -- THE ORDER
  module _ (steps : List Step) (run : AreRun t.config steps) (marks : List (Instance × Mark)) (ops : ℕ) (h : List Entry) (old new : DriverState D C) (looks : HasLooked told clock copies is_store looked over stands t (Found marks ops ∷ []) h old new) (no_start : IsTrue (list_all (λ e. not (is_found e)) looks.more)) where
    grown : h ≡ Found marks ops ∷ looks.more
    grown = looks.grows

    unasked : BeginsUnasked h
    unasked caller r reply = subst (λ (l : List Entry). ¬ IsEntry l 0 (Ask caller r reply)) (sym grown) (λ is. cc is)

    is_run : ((caller : ℕ) → IsInOrder t.config caller (program_of caller steps) h) → CopiesAreShown t.config steps looks.looks [] h → IsRun t.config steps looks.looks h
    is_run order shown = record {
      one_start = subst (λ (l : List Entry). IsTrue (list_all (λ e. not (is_found e)) (drop 1 l))) (sym grown) no_start;
      order = order;
      in_order = looks.in_order;
      shown = shown;
    }

    runs_by : (e : Ending) → IsRun t.config steps looks.looks h → EndSo t.config t.cap steps h e → IsTrue (has_ended t.config h) → RunsBy t.config t.cap steps looks.looks (end_of e) h
    runs_by ending.All is ends ended = record { order = is; all = ends; ends = ended }
    runs_by ending.NoRoom is ends ended = record { order = is; caller = ends.0; full = ends.1; others = ends.2; ends = ended }
    runs_by ending.Memory is ends ended = is

    module _ {S : Type 0} (bytes : S → ℕ → Option ℕ) (stored : S → ℕ → List Stored) (mirrors : S → Pairs) where
      pub keeps_order : (firsts nows : List S) (e : Ending) (v : View Entry Terms) (desk : DeskState) → HaveRun bytes stored mirrors t (programs_of t.config steps) firsts nows e v → IsClosedBy v h
          → IsTrue (has_ended t.config h) → CopiesAreShown t.config steps looks.looks [] h → desk ≡ desk_with t h → KeepsOrder steps e desk
      keeps_order firsts nows e v desk ran closed ended shown is_desk =
          let kept = callers_keep_steps bytes stored mirrors t steps firsts nows e v h run ran closed unasked in
          let keeps : KeepsOrder steps e (desk_with t h) = record { looks = looks.looks; order = runs_by e (is_run kept.order shown) kept.ends ended } in
          subst (λ (y : DeskState). KeepsOrder steps e y) (sym is_desk) keeps

  -- behind one start-up
  module _ {S : Type 0} (bytes : S → ℕ → Option ℕ) (stored : S → ℕ → List Stored) (mirrors : S → Pairs) where
    pub keeps_order_of : LooksAreOrdered looked over → (steps : List Step) → AreRun t.config steps → (marks : List (Instance × Mark)) (ops : ℕ) (h : List Entry) (old new : DriverState D C)
        → HasDriven told clock copies is_store looked over stands t (Found marks ops ∷ []) h old new → (firsts nows : List S) (e : Ending) (v : View Entry Terms) (desk : DeskState)
        → HaveRun bytes stored mirrors t (programs_of t.config steps) firsts nows e v → IsClosedBy v h → IsTrue (has_ended t.config h)
        → ((looks : HasLooked told clock copies is_store looked over stands t (Found marks ops ∷ []) h old new) → CopiesAreShown t.config steps looks.looks [] h)
        → desk ≡ desk_with t h → KeepsOrder steps e desk
    keeps_order_of ordered steps run marks ops h old new driven firsts nows e v desk ran closed ended taken is_desk =
        let first = Found marks ops ∷ [] in
        let looks = driving_looks told clock copies is_store looked over stands t ordered first h old new driven in
        let added = driving_adds told clock copies is_store looked over stands t first h old new driven in
        let same : added.more ≡ looks.more = ap (drop 1) (sym added.grows ∙ looks.grows) in
        keeps_order steps run marks ops h old new looks (subst (λ (l : List Entry). IsTrue (list_all (λ x. not (is_found x)) l)) same added.no_start) bytes stored mirrors firsts nows e v desk ran closed ended
        (taken looks) is_desk
