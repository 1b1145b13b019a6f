-- How walks grow.
use Rattle.std.proofs.Common.{List, [], ◌∷◌, ◌++◌, sym, ap, ◌∙◌, subst, append_assoc, append-nil}
use Rattle.std.proofs.lemmas.Grind.{flat_map-append}
use Rattle.nvm_script.specs.declared.step.Step.{Step}
use Rattle.block_machine.specs.Words.{Entry, Ask, Pick, Wrote, Post, Off, Found, Configuration}
use Rattle.block_machine.specs.State.{State}
use Rattle.block_machine.specs.Steps.{after, after_from}
use Rattle.block_laws.proofs.HistoryLaws.{histories_go_on}
use Rattle.script_walks.specs.Walk.{IsPiece, IsWalkBy, joined, WalksGrow}

walk_push : (c : Configuration) (before : List Step) (s : State) (xs : List Step) (ps : List (List Entry)) (x : Step) (p : List Entry)
    → IsWalkBy c before s xs ps → IsPiece c (before ++ xs) (after_from c s (joined ps)) x p → IsWalkBy c before s (xs ++ x ∷ []) (ps ++ p ∷ [])
walk_push c before s [] [] x p walk piece = (subst (λ (b : List Step). IsPiece c b s x p) (append-nil before) piece, tt)
walk_push c before s (y ∷ ys) (q ∷ qs) x p walk piece = (
  walk.0,
  walk_push c (before ++ y ∷ []) (after_from c s q) ys qs x p walk.1
      (subst (λ (b : List Step). IsPiece c b (after_from c (after_from c s q) (joined qs)) x p) (sym (append_assoc before (y ∷ []) ys))
      (subst (λ (t : State). IsPiece c (before ++ y ∷ ys) t x p) (histories_go_on c s q (joined qs)) piece)),
)
walk_push c before s [] (q ∷ qs) x p walk piece = absurd walk
walk_push c before s (y ∷ ys) [] x p walk piece = absurd walk

pub walks_grow : WalksGrow
walks_grow c steps pieces (Found marks ops) h x p walk piece = (
  ap (λ (es : List Entry). es ++ p) walk.0 ∙ sym (flat_map-append (λ (q : List Entry). q) pieces (p ∷ []) ∙ ap (λ (es : List Entry). joined pieces ++ es) (append-nil p)),
  walk_push c [] (after c (Found marks ops ∷ [])) steps pieces x p walk.1 (subst (λ (es : List Entry). IsPiece c steps (after_from c (after c (Found marks ops ∷ [])) es) x p) walk.0 piece),
)
walks_grow c steps pieces (Ask caller r reply) h x p walk piece = absurd walk
walks_grow c steps pieces (Pick block kind t ops) h x p walk piece = absurd walk
walks_grow c steps pieces (Wrote i mark ops) h x p walk piece = absurd walk
walks_grow c steps pieces (Post block r given refused ops) h x p walk piece = absurd walk
walks_grow c steps pieces (Off ops) h x p walk piece = absurd walk
