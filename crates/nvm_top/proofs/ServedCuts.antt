-- Where the power went off in a request, its flash counted a power cut: no step that asks or makes turns plans one.
use Rattle.std.specs.Prelude.{◌||◌, ◌&&◌, IsTrue}
use Rattle.std.specs.List.{list_all, list_any}
use Rattle.std.proofs.Common.{◌≡◌, ◌≤◌, ℕ, Bool, true, false, List, [], ◌∷◌, ◌++◌, map, None, Err, refl, sym, ap, ◌∙◌, subst, inl, inr, arith}
use Rattle.std.proofs.lemmas.List.Folds.{list_any-append}
use Rattle.nvm_flash.specs.nv_base.Count.{WereCounted}
use Rattle.nvm_flash.specs.block_config.Config.{Configuration}
use Rattle.nvm_flash.specs.block_machine.Words.{Request, Entry, Ask, Pick, Wrote, Post, Off, Found}
use Rattle.nvm_flash.specs.block_machine.State.{State}
use Rattle.nvm_flash.specs.block_machine.Steps.{after_from}
use Rattle.nvm_flash.specs.promise_run.Run.{Event, Added, CutsAre, events_of, plan_after}
use Rattle.script_player.specs.Requests.{is_of_request, AreOfRequests, LeavesRequests}
use Rattle.script_player.specs.uds_gateway.Jobs.{EndsOff}
use Rattle.script_player.specs.uds_gateway.declared.stop.ServeStop.TheVariants as serve
use Rattle.script_player.specs.script_walks.Walk.{IsWalkBy, joined}
use Rattle.script_player.specs.script_walks.Words.{Step, StepKind, AskStep, Store, Turn, Drain, Restart, Cut, CutSecond, Refuse, Await}

-- WHERE IT WENT OFF

abbrev pub is_off : Entry → Bool
is_off (Off ops) = true
is_off e = false

ends_off : (asked : Request) (piece : List Entry) → EndsOff asked piece → list_any is_off piece ≡ true
ends_off asked piece off =
    ap (λ (es : List Entry). list_any is_off es) off.ends.is ∙ list_any-append is_off off.ends.way (Off off.ops ∷ []) ∙ last_true (list_any is_off off.ends.way)
  where
    last_true : (b : Bool) → (b || true) ≡ true
    last_true true = refl
    last_true false = refl

pub rest_off : (c : Configuration) (most : ℕ) (s : State) (left : List (List ℕ)) (rest : List Entry) → LeavesRequests c most s (Err serve.Off) left rest → list_any is_off rest ≡ true
rest_off c most s [] rest leaves = absurd leaves
rest_off c most s (request ∷ left) rest leaves = ends_off leaves.0 rest leaves.2

pub parts_off : (before rest : List Entry) → list_any is_off rest ≡ true → list_any is_off (before ++ rest) ≡ true
parts_off before rest off = list_any-append is_off before rest ∙ in_last (list_any is_off before) (list_any is_off rest) off
  where
    in_last : (a b : Bool) → b ≡ true → (a || b) ≡ true
    in_last true b is = refl
    in_last false b is = is

-- OF ENTRIES

-- none is planned in a piece, so an Off of it is another, or one behind it is
off_in : (p : List Entry) (es : List Event) (later : Bool) → ((ops : ℕ) (cuts : List ℕ) (others : ℕ) → CutsAre None ops es cuts others → later ≡ true → 1 ≤ others)
    → (ops : ℕ) (cuts : List ℕ) (others : ℕ) → CutsAre None ops (map Added p ++ es) cuts others → (list_any is_off p || later) ≡ true → 1 ≤ others
off_in [] es later next ops cuts others are off = next ops cuts others are off
off_in (Off now ∷ p) es later next ops cuts others (inl planned) off = absurd (let none = planned.2 in cc none)
off_in (Off now ∷ p) es later next ops cuts others (inr other) off = let is = other.1 in omega (arith, is)
off_in (Ask caller r reply ∷ p) es later next ops cuts others are off = off_in p es later next _ cuts others are off
off_in (Pick block kind taken now ∷ p) es later next ops cuts others are off = off_in p es later next _ cuts others are off
off_in (Wrote i mark now ∷ p) es later next ops cuts others are off = off_in p es later next _ cuts others are off
off_in (Post block r given refused now ∷ p) es later next ops cuts others are off = off_in p es later next _ cuts others are off
off_in (Found marks now ∷ p) es later next ops cuts others are off = off_in p es later next _ cuts others are off

-- OF STEPS

asks_or_turns : (kind : StepKind) (ops : ℕ) (more : Bool) → IsTrue (is_of_request kind && more) → IsTrue more × (plan_after kind None ops ≡ None)
asks_or_turns (AskStep r) ops more is = (is, refl)
asks_or_turns (Turn count) ops more is = (is, refl)
asks_or_turns (Store block content) ops more is = absurd (cc is)
asks_or_turns Drain ops more is = absurd (cc is)
asks_or_turns Restart ops more is = absurd (cc is)
asks_or_turns (Cut number keep) ops more is = absurd (cc is)
asks_or_turns (CutSecond number keep) ops more is = absurd (cc is)
asks_or_turns (Refuse block count) ops more is = absurd (cc is)
asks_or_turns (Await block) ops more is = absurd (cc is)

pub off_is_another : (c : Configuration) (before : List Step) (s : State) (made : List Step) (pieces : List (List Entry)) → IsWalkBy c before s made pieces → AreOfRequests made → (ops : ℕ) (cuts : List ℕ) (others : ℕ) → CutsAre None ops (events_of made pieces) cuts others
    → list_any is_off (joined pieces) ≡ true → 1 ≤ others
off_is_another c before s [] [] walk only ops cuts others are off = absurd (cc off)
off_is_another c before s [] (p ∷ ps) walk only ops cuts others are off = absurd walk
off_is_another c before s (x ∷ xs) [] walk only ops cuts others are off = absurd walk
off_is_another c before s (x ∷ xs) (p ∷ ps) walk only ops cuts others are off =
    let split = asks_or_turns x.kind ops (list_all (λ (y : Step). is_of_request y.kind) xs) only in
    off_in p (events_of xs ps) (list_any is_off (joined ps)) (λ ops' cuts' others' are' off'. off_is_another c (before ++ x ∷ []) (after_from c s p) xs ps walk.1 split.0 ops' cuts' others' are' off') ops cuts others
    (subst (λ plan. CutsAre plan ops (map Added p ++ events_of xs ps) cuts others) split.1 are) (sym (list_any-append is_off p (joined ps)) ∙ off)

-- COUNTED

pub one_counted : (others a b d : ℕ) → 1 ≤ others → a ≤ b → WereCounted others b d → WereCounted 1 a d
one_counted others a b d some less (inl is) = inl (omega (arith, some, less, is))
one_counted others a b d some less (inr full) = inr full
