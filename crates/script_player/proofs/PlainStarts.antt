-- Each start-up that a player makes has its Found.
use Rattle.script_player.proofs.Common.{rules, ◌≡◌, ◌+◌, ℕ, Bool, true, false, List, [], ◌∷◌, ◌++◌, refl, sym, ap, ◌∙◌, subst, inl, inr, arith, DeviceTold, Clock, Entry, Ask, Found, Configuration, State, PlainBlock, Told, Turned, FoundAnswer, StackState, Restarts, HistoriesStep, SumsGrow, histories_go_on, histories_step, sums_grow, told_by, AreStartsFound, IfElse, founds, IsOneOrNone, device_starts, founds_add, EntriesAreCounted, HistoriesGoOn, entries_are_counted}
use Rattle.uds_gateway.specs.nvm_laws.declared.turned.FoundAnswer.TheVariants as found
use Rattle.uds_gateway.specs.nvm_core.Turns as core
use Rattle.script_player.specs.Calls as calls

-- where none was made and the entries tell none
starts_on : (ready : Bool) (starts was : ℕ) (h old es : List Entry) → h ≡ old ++ es → founds es ≡ 0 → starts ≡ was → IfElse ready (was ≡ founds old) (was ≡ founds old + 1) → IfElse ready (starts ≡ founds h) (starts ≡ founds h + 1)
starts_on true starts was h old es grows none same are = let all : founds h ≡ founds old + founds es = ap founds grows ∙ founds_add old es in omega (arith, all, none, same, are)
starts_on false starts was h old es grows none same are = let all : founds h ≡ founds old + founds es = ap founds grows ∙ founds_add old es in omega (arith, all, none, same, are)

pub starts_stay : {D : Type 0} (device : D → DeviceTold) (old new : StackState D (List PlainBlock)) (es : List Entry) → founds es ≡ 0 → new.ready ≡ old.ready → new.desk.entries ≡ old.desk.entries ++ es → (device new.device).starts ≡ (device old.device).starts
    → AreStartsFound old.ready old.desk (device old.device) → AreStartsFound new.ready new.desk (device new.device)
starts_stay device old new es none ready grows starts are =
    subst (λ (b : Bool). AreStartsFound b new.desk (device new.device)) (sym ready) (starts_on old.ready (device new.device).starts (device old.device).starts new.desk.entries old.desk.entries es grows none starts are)

-- A TURN
pub turn_founds : (c : Configuration) (s : State) (stores : List (ℕ × List ℕ)) (es : List Entry) → IsOneOrNone c s stores es → founds es ≡ 0
turn_founds c s stores (Ask caller r reply ∷ []) is = absurd is
turn_founds c s stores (Found marks ops ∷ []) is = absurd is
turn_founds c s stores (e ∷ f ∷ es) is = absurd is
turn_founds c s stores es is = refl

pub turned_starts : {D : Type 0} (device : D → DeviceTold) (clock : D → Clock) (old new : StackState D (List PlainBlock)) {copies : List PlainBlock → List Told} {is_store : List PlainBlock → ℕ → ℕ → List ℕ → Type 0} {looked : List PlainBlock → List PlainBlock → ℕ → ℕ → Type 0} (answer : Turned)
    → core.Turns device clock copies is_store looked answer old new → (device new.device).starts ≡ (device old.device).starts
turned_starts device clock old new answer (inl half) = ap (λ (d : DeviceTold). d.starts) half.device
turned_starts device clock old new answer (inr (between, first, second)) =
    device_starts answer (device between.device) (device new.device) (clock between.device) (clock new.device) second.turns ∙ ap (λ (d : DeviceTold). d.starts) first.device

-- A START-UP
module _ {D : Type 0} (device : D → DeviceTold) (old new : StackState D (List PlainBlock)) where
  found_starts : (ready : old.ready ≡ true) → AreStartsFound old.ready old.desk (device old.device) → (device old.device).starts ≡ founds old.desk.entries
  found_starts ready are = subst (λ (b : Bool). AreStartsFound b old.desk (device old.device)) ready are

  pub restart_starts : (answer : FoundAnswer) → Restarts device answer old new → old.ready ≡ true → AreStartsFound old.ready old.desk (device old.device) → AreStartsFound new.ready new.desk (device new.device)
  restart_starts found.Ready restarts ready are =
      let was = found_starts ready are in
      let more = restarts.finds.up.restarted.starts in
      let all = ap (λ (s : StackState D (List PlainBlock)). founds s.desk.entries) restarts.only ∙ founds_add old.desk.entries (Found restarts.marks (device new.device).ops ∷ []) in
      subst (λ (b : Bool). AreStartsFound b new.desk (device new.device)) (sym (ap (λ (s : StackState D (List PlainBlock)). s.ready) restarts.only)) (omega (arith, was, more, all))
  restart_starts found.Failed restarts ready are =
      let was = found_starts ready are in
      let more = restarts.fails.restarted.starts in
      let all = ap (λ (s : StackState D (List PlainBlock)). founds s.desk.entries) restarts.only in
      subst (λ (b : Bool). AreStartsFound b new.desk (device new.device)) (sym (ap (λ (s : StackState D (List PlainBlock)). s.ready) restarts.only)) (omega (arith, was, more, all))
  restart_starts found.NoRoom restarts ready are = subst (λ (s : StackState D (List PlainBlock)). AreStartsFound s.ready s.desk (device s.device)) (sym restarts.0) are
  restart_starts found.Memory restarts ready are = subst (λ (s : StackState D (List PlainBlock)). AreStartsFound s.ready s.desk (device s.device)) (sym restarts) are

-- what is told of it, by what it came to
pub restarts_told : {D : Type 0} (told : D → DeviceTold) (old new : StackState D (List PlainBlock)) (answer : FoundAnswer) → Restarts told answer old new → calls.Restarts answer (told_by told old) (told_by told new)
restarts_told told old new found.Ready restarts =
    let steps : HistoriesStep = histories_step in
    let goes_on : HistoriesGoOn = histories_go_on in
    let counted : EntriesAreCounted = entries_are_counted in
    let prices : SumsGrow = sums_grow in
    search rules
restarts_told told old new found.Failed restarts =
    let steps : HistoriesStep = histories_step in
    let goes_on : HistoriesGoOn = histories_go_on in
    let counted : EntriesAreCounted = entries_are_counted in
    let prices : SumsGrow = sums_grow in
    search rules
restarts_told told old new found.NoRoom restarts =
    let counted : EntriesAreCounted = entries_are_counted in
    search rules
restarts_told told old new found.Memory restarts = ap (told_by told) restarts
