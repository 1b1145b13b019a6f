-- What each step of a walk keeps, with a step more.
use Rattle.script_player.proofs.Common.{◌≡◌, List, [], ◌∷◌, ◌++◌, length, sym, ◌∙◌, subst, arith, Entry, Configuration, State, after_from, Step, joined, EachPiece, histories_go_on}

-- a fact of each place and one of a place more
pub each_more : (c : Configuration) (P Q : State → Step → List Entry → List Step → List (List Entry) → Type 0) (x : Step) (p : List Entry) (last : State)
    → ((s : State) (y : Step) (q : List Entry) (ys : List Step) (qs : List (List Entry)) → P s y q ys qs → Q s y q (ys ++ x ∷ []) (qs ++ p ∷ [])) → Q last x p [] []
    → (s : State) (xs : List Step) (ps : List (List Entry)) → length ps ≡ length xs → after_from c s (joined ps) ≡ last → EachPiece c P s xs ps → EachPiece c Q s (xs ++ x ∷ []) (ps ++ p ∷ [])
each_more c P Q x p last keeps here s [] [] many is each = (subst (λ (t : State). Q t x p [] []) (sym is) here, tt)
each_more c P Q x p last keeps here s [] (q ∷ qs) many is each = absurd (omega (arith, many))
each_more c P Q x p last keeps here s (y ∷ ys) [] many is each = absurd (omega (arith, many))
each_more c P Q x p last keeps here s (y ∷ ys) (q ∷ qs) many is (one, each) =
    (keeps s y q ys qs one, each_more c P Q x p last keeps here (after_from c s q) ys qs (omega (arith, many)) (sym (histories_go_on c s q (joined qs)) ∙ is) each)
