-- Requests one after another, each with the entries of its job.
use Rattle.std.proofs.Common.{◌≡◌, ℕ, List, [], ◌∷◌, ◌++◌, Some, refl, ap, ◌∙◌}
use Rattle.nvm_moves.specs.block_machine.Words.{Request, Entry, Post, Configuration}
use Rattle.nvm_moves.specs.block_machine.Blocks.{asked_block}
use Rattle.uds_gateway.specs.Answers.{posted_answer, answer_in}
use Rattle.uds_gateway.specs.Jobs.{EndsPosted}
use Rattle.uds_gateway.specs.Served.{IsServedBy, AreServed}
use Rattle.uds_gateway.proofs.Pieces.{answered}

-- one more
pub served_more : (c : Configuration) (rs : List (List ℕ)) (r : List ℕ) (ps : List (List Entry)) (p : List Entry) → AreServed c rs ps → IsServedBy c r p → AreServed c (rs ++ r ∷ []) (ps ++ p ∷ [])
served_more c [] r [] p has is = (is, tt)
served_more c [] r (q ∷ ps) p has is = absurd has
served_more c (x ∷ rs) r [] p has is = absurd has
served_more c (x ∷ rs) r (q ∷ ps) p has is = (has.0, served_more c rs r ps p has.1 is)

-- the answer of a job that was posted
pub posted_answers : (request : List ℕ) (asked : Request) (piece : List Entry) → (p : EndsPosted asked piece) → answer_in request piece ≡ Some (posted_answer request p.result p.given)
posted_answers request asked piece p =
    ap (λ (es : List Entry). answer_in request es) p.ends.is
    ∙ answered request p.ends.way (Post (asked_block asked) p.result p.given p.refused p.ops) (posted_answer request p.result p.given) p.ends.under_way refl
