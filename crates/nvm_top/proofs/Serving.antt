-- A run that serves requests keeps the promise, and the call tells it.
use Rattle.std.specs.Prelude.{IfSome}
use Rattle.std.specs.List.{list_any}
use Rattle.std.proofs.Common.{◌≡◌, ◌⊎◌, ℕ, true, List, [], ◌∷◌, ◌++◌, length, map, Option, Some, None, Result, Ok, Err, refl, sym, ap, ◌∙◌, subst, inl, inr}
use Rattle.nvm_lines.specs.nv_streams.Sink.{Written}
use Rattle.nvm_flash.specs.nv_base.Count.{WereCounted}
use Rattle.nvm_flash.specs.nv_base.Geometry.{size_of}
use Rattle.nvm_flash.specs.block_config.Config.{Configuration}
use Rattle.nvm_flash.specs.memif.Told.{PartTold}
use Rattle.nvm_flash.specs.fls_model.Told.{Told}
use Rattle.nvm_flash.specs.block_machine.Words.{Entry, Found}
use Rattle.nvm_flash.specs.block_machine.State.{State}
use Rattle.nvm_flash.specs.block_machine.Steps.{after}
use Rattle.nvm_flash.specs.promise_run.Call.{last_line}
use Rattle.nvm_flash.specs.promise_run.Run.{Run, Played, End, FlashFault, Memory, cap, LeavesFor, EndsAtStart}
use Rattle.nvm_script.specs.Lines.{entry_line}
use Rattle.nvm_callers.specs.nvm_moves.Beginning.{BeginsMoves}
use Rattle.nvm_callers.specs.nvm_moves.Seen.{Seen}
use Rattle.script_player.specs.Requests.{AreOfRequests, LeavesRequests, ServesRequests, HasServed}
use Rattle.script_player.specs.Told.{StackTold, state_of}
use Rattle.script_player.proofs.Served.{only_more}
use Rattle.script_player.specs.uds_gateway.Served.{AreServed}
use Rattle.script_player.specs.uds_gateway.declared.stop.ServeStop.{ServeStop}
use Rattle.script_player.specs.uds_gateway.declared.stop.ServeStop.TheVariants as serve
use Rattle.script_player.specs.script_walks.Walk.{IsWalkOf, joined}
use Rattle.script_player.specs.script_walks.Words.{Step, AskStep}
use Rattle.nvm_lines.specs.declared.status.Status.{Status}
use Rattle.nvm_lines.specs.declared.status.Status.TheVariants as status
use Rattle.nvm_lines.specs.declared.stop.Stop.{Stop}
use Rattle.nvm_lines.specs.declared.stop.Stop.TheVariants as stop
use Rattle.nvm_lines.specs.Output.{Writes}
use Rattle.nvm_top.specs.Play.{IsBeforeAttach, IsRightSize, IsFlashStop}
use Rattle.nvm_top.specs.Promised.{HasNoRun, WritesText, played_call}
use Rattle.nvm_top.specs.Stack.{AreToldOf, IsStarted, StopsAtStart, Vouches, run_of}
use Rattle.nvm_lines.specs.Stop.{IsStop}
use Rattle.nvm_top.specs.Uds.{lines_by, lines_of_history, lines_served, HasPieces, HasRequests, HasWrongRequest, UdsStopsBy, WritesLines, status_served, line_served, end_served, TellsServed, TellsRequests, HasServing, HasAnswered}
use Rattle.nvm_top.proofs.AnswerLines.{has_pieces, lines_of_pieces}
use Rattle.nvm_script.specs.declared.script.Mode.TheVariants as mode
use Rattle.nvm_top.proofs.Early.{early_has, found_in_use, no_second, wrong_size}
use Rattle.nvm_top.proofs.EndsTold.{ends_told, status_at}
use Rattle.nvm_top.proofs.Promised.{has_run}
use Rattle.nvm_top.proofs.WholeCalls.{sized}
use Rattle.nvm_top.proofs.ServedCuts.{is_off, rest_off, parts_off, off_is_another, one_counted}
use Rattle.nvm_top.proofs.Texts.{stop_alone}

-- THE LINES

-- those of a history by its pieces
pub lines_told : (c : Configuration) (requests first left : List (List ℕ)) (counts : List ℕ) (pieces : List (List Entry)) (start : Entry) (rest more h : List Entry) → h ≡ start ∷ more → more ≡ joined pieces ++ rest → requests ≡ first ++ left
    → counts ≡ map (λ (p : List Entry). length p) pieces → AreServed c first pieces → lines_of_history c requests counts h ≡ lines_served c start first pieces rest
lines_told c requests first left counts pieces start rest more h begins parts order numbers served =
    ap (λ (es : List Entry). lines_of_history c requests counts es) (begins ∙ ap (λ (es : List Entry). start ∷ es) parts)
    ∙ ap (λ (l : List (List ℕ)). entry_line start ∷ l)
    (ap (λ (rs : List (List ℕ)). lines_by c rs counts (joined pieces ++ rest)) order
    ∙ ap (λ (ns : List ℕ). lines_by c (first ++ left) ns (joined pieces ++ rest)) numbers
    ∙ lines_of_pieces c first left pieces rest served)

-- and it has them
pub pieces_told : (c : Configuration) (requests first left : List (List ℕ)) (counts : List ℕ) (pieces : List (List Entry)) (start : Entry) (rest more h : List Entry) → h ≡ start ∷ more → more ≡ joined pieces ++ rest → requests ≡ first ++ left
    → counts ≡ map (λ (p : List Entry). length p) pieces → AreServed c first pieces → HasPieces requests counts h
pieces_told c requests first left counts pieces start rest more h begins parts order numbers served =
    subst (λ (es : List Entry). HasPieces requests counts es) (sym (begins ∙ ap (λ (es : List Entry). start ∷ es) parts))
    (subst (λ (rs : List (List ℕ)). HasPieces rs counts (start ∷ joined pieces ++ rest)) (sym order)
    (subst (λ (ns : List ℕ). HasPieces (first ++ left) ns (start ∷ joined pieces ++ rest)) (sym numbers) (has_pieces c first left pieces start rest served)))

-- THE STEPS THAT ARE LEFT

left_steps : (c : Configuration) (most : ℕ) (s : State) (end : Result (Unit {0}) ServeStop) (left : List (List ℕ)) (rest : List Entry) → LeavesRequests c most s end left rest → List Step
left_steps c most s (Err serve.NoRoom) (request ∷ left) rest leaves = record { line = 0; caller = 0; kind = AskStep leaves.0.0 } ∷ []
left_steps c most s end left rest leaves = []

left_only : (c : Configuration) (most : ℕ) (s : State) (end : Result (Unit {0}) ServeStop) (left : List (List ℕ)) (rest : List Entry) (leaves : LeavesRequests c most s end left rest) → AreOfRequests (left_steps c most s end left rest leaves)
unfolding left_steps
left_only c most s (Ok done) left rest leaves = refl
left_only c most s (Err serve.Off) left rest leaves = refl
left_only c most s (Err serve.NoRoom) [] rest leaves = refl
left_only c most s (Err serve.NoRoom) (request ∷ left) rest leaves = refl
left_only c most s (Err serve.Memory) left rest leaves = refl

leaves_for : (r : Run) (s : State) (end : Result (Unit {0}) ServeStop) (left : List (List ℕ)) (rest : List Entry) (leaves : LeavesRequests r.configuration r.most s end left rest) → LeavesFor r s (end_served end) (left_steps r.configuration r.most s end left rest leaves)
unfolding left_steps
leaves_for r s (Ok done) left rest leaves = refl
leaves_for r s (Err serve.Off) [] rest leaves = refl
leaves_for r s (Err serve.Off) (request ∷ left) rest leaves = refl
leaves_for r s (Err serve.NoRoom) [] rest leaves = absurd leaves
leaves_for r s (Err serve.NoRoom) (request ∷ left) rest leaves = leaves.0.2
leaves_for r s (Err serve.Memory) left rest leaves = tt

no_fault : (end : Result (Unit {0}) ServeStop) → end_served end ≡ FlashFault → ⊥
no_fault (Ok done) is = cc is
no_fault (Err serve.Off) is = cc is
no_fault (Err serve.NoRoom) is = cc is
no_fault (Err serve.Memory) is = cc is

-- THE RUN

module _ {p q : Seen} (requests : List (List ℕ)) (counts : List ℕ) (end : Result (Unit {0}) ServeStop) (c : Configuration) (old t : StackTold) (before : PartTold) (started : IsStarted c 0 before old) (has : HasServed p q requests counts end old t) (same : t.configuration ≡ old.configuration) where
  of : t.configuration ≡ c
  of = same ∙ started.configuration

  pub history_told : t.entries ≡ Found started.fresh.marks started.fresh.ops ∷ has.more
  history_told = has.adds ∙ ap (λ (h : List Entry). h ++ has.more) started.fresh.entries

  leaves : LeavesRequests c cap (after c t.entries) end has.serves.left has.serves.rest
  leaves =
      subst (λ (x : Configuration). LeavesRequests c cap (after x t.entries) end has.serves.left has.serves.rest) of
      (subst (λ (n : ℕ). LeavesRequests c n (after t.configuration t.entries) end has.serves.left has.serves.rest) started.most
      (subst (λ (x : Configuration). LeavesRequests x old.cap (after t.configuration t.entries) end has.serves.left has.serves.rest) started.configuration has.serves.leaves))

  served : AreServed c has.serves.first has.serves.pieces
  served = subst (λ (x : Configuration). AreServed x has.serves.first has.serves.pieces) started.configuration has.serves.served

  pub served_pieces : (h : List Entry) → h ≡ t.entries → HasPieces requests counts h
  served_pieces h is = pieces_told c requests has.serves.first has.serves.left counts has.serves.pieces (Found started.fresh.marks started.fresh.ops) has.serves.rest has.more h (is ∙ history_told) has.serves.parts has.serves.order has.counts served

  -- the requests were served so
  serves : ServesRequests c cap (after c t.entries) requests end has.more
  serves = record { first = has.serves.first; left = has.serves.left; order = has.serves.order; pieces = has.serves.pieces; rest = has.serves.rest; parts = has.serves.parts; served = served; leaves = leaves }

  -- the flash counted the cut that the power went off with
  cut_counted : (Kept : Type 0) (entry exit : Told) → Vouches Kept q before t entry exit → end ≡ Err serve.Off → WereCounted 1 entry.cuts exit.cuts
  cut_counted Kept entry exit v off =
      v.cuts 1 (one_counted has.walked.off.0 before.planning.unplanned old.causes.unplanned t.causes.unplanned
      (off_is_another old.configuration [] _ has.made has.walked.pieces walk.1 has.only 0 has.walked.came has.walked.off.0 has.walked.off.1 went_off) started.unplanned has.walked.off.2)
    where
      walk : IsWalkOf old.configuration has.made has.walked.pieces (Found started.fresh.marks started.fresh.ops ∷ has.more)
      walk = subst (λ (h : List Entry). IsWalkOf old.configuration has.made has.walked.pieces h) history_told has.walked.walk

      in_rest : list_any is_off has.serves.rest ≡ true
      in_rest = rest_off old.configuration old.cap (state_of t) has.serves.left has.serves.rest (subst (λ (e : Result (Unit {0}) ServeStop). LeavesRequests old.configuration old.cap (state_of t) e has.serves.left has.serves.rest) off has.serves.leaves)

      went_off : list_any is_off (joined has.walked.pieces) ≡ true
      went_off =
          subst (λ (es : List Entry). list_any is_off es ≡ true) walk.0
          (subst (λ (es : List Entry). list_any is_off es ≡ true) (sym has.serves.parts) (parts_off (joined has.serves.pieces) has.serves.rest in_rest))

  pub serving_has : (Kept : Type 0) (entry exit : Told) (x : Status) (w w' : Written) (input : Option (List ℕ)) (h : List Entry) → h ≡ t.entries → Kept → BeginsMoves p → AreToldOf p q old t → Vouches Kept q before t entry exit → IsRightSize (size_of c.geometry) entry.bytes
      → WritesLines (status_served end) (lines_of_history c requests counts h) (line_served end h) w w' x → HasServing c requests (played_call input x entry exit w w') x
  unfolding serves
  serving_has Kept entry exit x w w' input h is keeps begins seen v size writes =
      let left = left_steps c cap (after c t.entries) end has.serves.left has.serves.rest leaves in (
        has.made ++ left,
        only_more has.made left has.only (left_only c cap (after c t.entries) end has.serves.left has.serves.rest leaves),
        has_run Kept p q c 0 (has.made ++ left) has.made left (end_served end) before old t entry exit (TellsRequests c requests (played_call input x entry exit w w') x) started has.walked same keeps begins seen v refl
            for_left (λ fails. absurd (no_fault end fails)) (inr told) size,
      )
    where
      for_left : LeavesFor (run_of t.configuration t.entries entry exit v.operations t.causes.came (Played has.made has.walked.pieces (left_steps c cap (after c t.entries) end has.serves.left has.serves.rest leaves)) (end_served end)) (after t.configuration t.entries) (end_served end)
          (left_steps c cap (after c t.entries) end has.serves.left has.serves.rest leaves)
      for_left =
          subst (λ (y : Configuration). LeavesFor (run_of y t.entries entry exit v.operations t.causes.came (Played has.made has.walked.pieces (left_steps c cap (after c t.entries) end has.serves.left has.serves.rest leaves)) (end_served end)) (after y t.entries) (end_served end)
          (left_steps c cap (after c t.entries) end has.serves.left has.serves.rest leaves)) (sym of)
          (leaves_for (run_of c t.entries entry exit v.operations t.causes.came (Played has.made has.walked.pieces (left_steps c cap (after c t.entries) end has.serves.left has.serves.rest leaves)) (end_served end)) (after c t.entries) end has.serves.left has.serves.rest leaves)

      told : TellsServed c requests (played_call input x entry exit w w') x (run_of t.configuration t.entries entry exit v.operations t.causes.came (Played has.made has.walked.pieces (left_steps c cap (after c t.entries) end has.serves.left has.serves.rest leaves)) (end_served end))
      told = record {
        marks = started.fresh.marks;
        ops = started.fresh.ops;
        more = has.more;
        history = history_told;
        end = end;
        ends = refl;
        serves = serves;
        cut = cut_counted Kept entry exit v;
        writes =
            subst (λ (l : List (List ℕ)). WritesLines (status_served end) l (line_served end t.entries) w w' x)
            (lines_told c requests has.serves.first has.serves.left counts has.serves.pieces (Found started.fresh.marks started.fresh.ops) has.serves.rest has.more h (is ∙ history_told) has.serves.parts has.serves.order has.counts served)
            (subst (λ (es : List Entry). WritesLines (status_served end) (lines_of_history c requests counts h) (line_served end es) w w' x) is writes);
      }

-- WITHOUT A START-UP

none_end : (c : Configuration) (requests : List (List ℕ)) (entry exit : Told) (why : Stop) (end : End) (x : Status) (w w' : Written) (input : Option (List ℕ)) → StopsAtStart c entry exit why → c.eeprom ≡ None → EndsAtStart (record { entry = entry; exit = exit; operations = [] }) end
    → WritesText (status_at end) [] (last_line end [] ∷ []) w w' x → HasServing c requests (played_call input x entry exit w w') x
none_end c requests entry exit why end status.Memory w w' input stops one ends is =
    ([], refl, early_has mode.Play c [] (TellsRequests c requests (played_call input status.Memory entry exit w w') status.Memory) entry exit why Memory stops one tt (inl (refl, ends_told mode.Play input entry exit w w' [] (λ e. last_line e [] ∷ []) end status.Memory is)))
none_end c requests entry exit why end x w w' input stops one ends is =
    ([], refl, early_has mode.Play c [] (TellsRequests c requests (played_call input x entry exit w w') x) entry exit why end stops one ends (inl (refl, ends_told mode.Play input entry exit w w' [] (λ e. last_line e [] ∷ []) end x is)))

-- the flash isn't attached for its size, or there is a run without a start-up
pub serving_none : (c : Configuration) (requests : List (List ℕ)) (entry exit : Told) (why : Stop) (x : Status) (w w' : Written) (input : Option (List ℕ)) → StopsAtStart c entry exit why → Writes (IsStop why) w w' x
    → HasServing c requests (played_call input x entry exit w w') x ⊎ HasNoRun (IsFlashStop c entry.bytes) w w' x entry exit
serving_none c requests entry exit (stop.WrongSize found needed) x w w' input stops is = inr (wrong_size c entry exit found needed x w w' stops is)
serving_none c requests entry exit stop.InUse x w w' input stops is = inr (found_in_use c entry exit x w w' stops is)
serving_none c requests entry exit stop.NoSecond x w w' input stops is = inr (no_second c entry exit x w w' stops is)
serving_none c requests entry exit stop.FlashFault x w w' input stops is = inl (none_end c requests entry exit stop.FlashFault FlashFault x w w' input stops stops.second stops.end (stop_alone stop.FlashFault status.FlashFault (last_line FlashFault [] ∷ []) w w' x refl refl is))
serving_none c requests entry exit stop.Memory x w w' input stops is = inl (none_end c requests entry exit stop.Memory Memory x w w' input stops stops.second tt (stop_alone stop.Memory status.Memory (last_line Memory [] ∷ []) w w' x refl refl is))
serving_none c requests entry exit _ x w w' input stops is = absurd stops.why

-- HOW IT ENDS
-- at none of the statuses before the attach

status_late : (end : Result (Unit {0}) ServeStop) → IsBeforeAttach (status_served end) → ⊥
status_late (Ok done) is = is
status_late (Err serve.Off) is = is
status_late (Err serve.NoRoom) is = is
status_late (Err serve.Memory) is = is

pub served_late : (end : Result (Unit {0}) ServeStop) (lines : List (List ℕ)) (last : List ℕ) (w w' : Written) (x : Status) → WritesLines (status_served end) lines last w w' x → IsBeforeAttach x → ⊥
served_late end lines last w w' status.Memory is early = early
served_late end lines last w w' status.WriteFault is early = early
served_late end lines last w w' x is early = status_late end (subst (λ (y : Status). IsBeforeAttach y) is.0 early)

-- OF THE WHOLE CALL

-- the input has this configuration, and requests
abbrev pub HasRequestsOf : Configuration → List ℕ → Type 0
HasRequestsOf c bytes = (requests : List (List ℕ)) × HasRequests bytes c requests

has_requests : (left : Option (List ℕ)) (c : Configuration) (requests : List (List ℕ)) → IfSome left (λ bytes. HasRequests bytes c requests) → IfSome left (HasRequestsOf c)
has_requests None c requests has = tt
has_requests (Some bytes) c requests has = (requests, has)

pub answered : (left : Option (List ℕ)) (reads reads' : ℕ) (x : Status) (c : Configuration) (requests : List (List ℕ)) (entry exit : Told) (w w' : Written) → IfSome left (λ bytes. HasRequests bytes c requests)
    → HasServing c requests (played_call left x entry exit w w') x ⊎ HasNoRun (IsFlashStop c entry.bytes) w w' x entry exit
    → HasAnswered left x (played_call left x entry exit w w') ⊎ HasNoRun (UdsStopsBy left reads reads' entry.bytes) w w' x entry exit
answered left reads reads' x c requests entry exit w w' has (inl run) = inl (c, requests, has, run)
answered left reads reads' x c requests entry exit w w' has (inr none) = inr (sized HasWrongRequest HasRequestsOf left reads reads' c w w' x entry exit (has_requests left c requests has) none)
