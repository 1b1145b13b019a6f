-- A history entry by entry.
use Rattle.std.specs.Prelude.{slice_get}
use Rattle.std.proofs.Common.{◌≡◌, ℕ, zero, suc, List, [], ◌∷◌, take, refl, ap, ◌∙◌, subst, arith, Option, Some, None, IsTrue}
use Rattle.std.proofs.lemmas.Option.{slice_get_within}
use Rattle.block_machine.specs.Words.{ReqResult, Instance, Mark, Request, SetIndex, Accepted, Refused, StatusIs, IndexIs, Reply, Taken, Entry, Ask, Pick, Wrote, Post, Off, Found, Configuration}
use Rattle.block_machine.specs.State.{State, Job}
use Rattle.block_machine.specs.Next.{Next, Nothing, next_of}
use Rattle.block_machine.specs.Steps.{step, after_from, accepted, asked, picked, wrote, posted, posted_next}
use Rattle.block_machine.specs.Legal.{IsAllowed, IsLegalFrom}
use Rattle.rows_histories.proofs.Lists.{some_is}

-- what comes at a place may come there, behind a beginning that is legal
pub allowed_at : (c : Configuration) (cap : ℕ) (s : State) (es : List Entry) (k : ℕ) (e : Entry) → slice_get es k ≡ Some e → IsLegalFrom c cap s es
    → IsAllowed c cap (after_from c s (take k es)) e
allowed_at c cap s [] k e at legal = absurd (omega (arith, slice_get_within [] k e at))
allowed_at c cap s (x ∷ es) zero e at legal = subst (λ (y : Entry). IsAllowed c cap s y) (some_is x e at) legal.0
allowed_at c cap s (x ∷ es) (suc k) e at legal = allowed_at c cap (step c s x) es k e at legal.1

pub legal_before : (c : Configuration) (cap : ℕ) (s : State) (es : List Entry) (k : ℕ) → IsLegalFrom c cap s es → IsLegalFrom c cap s (take k es)
legal_before c cap s [] zero legal = tt
legal_before c cap s [] (suc k) legal = tt
legal_before c cap s (x ∷ es) zero legal = tt
legal_before c cap s (x ∷ es) (suc k) legal = (legal.0, legal_before c cap (step c s x) es k legal.1)

-- and it is one step more
pub after_more : (c : Configuration) (s : State) (es : List Entry) (k : ℕ) (e : Entry) → slice_get es k ≡ Some e
    → after_from c s (take (suc k) es) ≡ step c (after_from c s (take k es)) e
after_more c s [] k e at = absurd (omega (arith, slice_get_within [] k e at))
after_more c s (x ∷ es) zero e at = ap (step c s) (some_is x e at)
after_more c s (x ∷ es) (suc k) e at = after_more c (step c s x) es k e at

-- A START-UP STANDS

accepted_started : (c : Configuration) (s : State) (r : Request) → (accepted c s r).started ≡ s.started
accepted_started c s (SetIndex block index) = refl
accepted_started c s r = refl

asked_started : (c : Configuration) (s : State) (r : Request) (reply : Reply) → (asked c s r reply).started ≡ s.started
asked_started c s r Accepted = accepted_started c s r
asked_started c s r (Refused x) = refl
asked_started c s r (StatusIs x) = refl
asked_started c s r (IndexIs x) = refl

picked_started : (c : Configuration) (s : State) (t : Taken) (n : Next) → (picked c s t n).started ≡ s.started
picked_started c s t Nothing = refl
picked_started c s t n = refl

wrote_started : (s : State) (i : Instance) (mark : Mark) (o : Option Job) → (wrote s i mark o).started ≡ s.started
wrote_started s i mark None = refl
wrote_started s i mark (Some j) = refl

next_started : (c : Configuration) (s : State) (r : ReqResult) (given : Option (List ℕ)) (n : Next) → (posted_next c s r given n).started ≡ s.started
next_started c s r given Nothing = refl
next_started c s r given n = refl

posted_started : (c : Configuration) (s : State) (r : ReqResult) (given : Option (List ℕ)) (o : Option Job) → (posted c s r given o).started ≡ s.started
posted_started c s r given (Some j) = refl
posted_started c s r given None = next_started c s r given (next_of c s)

-- behind each entry that may come
pub starts : (c : Configuration) (cap : ℕ) (s : State) (e : Entry) → IsAllowed c cap s e → IsTrue (step c s e).started
starts c cap s (Ask caller r reply) allowed = asked_started c s r reply ∙ allowed.started
starts c cap s (Pick block kind t ops) allowed = picked_started c s t (next_of c s) ∙ allowed.0.started
starts c cap s (Wrote i mark ops) allowed = wrote_started s i mark s.hand ∙ allowed.0.started
starts c cap s (Post block r given refused ops) allowed = posted_started c s r given s.hand ∙ allowed.0.started
starts c cap s (Off ops) allowed = allowed.started
starts c cap s (Found marks ops) allowed = refl

pub starts_all : (c : Configuration) (cap : ℕ) (s : State) (es : List Entry) → IsLegalFrom c cap s es → IsTrue s.started → IsTrue (after_from c s es).started
starts_all c cap s [] legal on = on
starts_all c cap s (e ∷ es) legal on = starts_all c cap (step c s e) es legal.1 (starts c cap s e legal.0)
