-- Marks that a start-up found, one by one.
use Rattle.std.proofs.Common.{◌≡◌, ◌⊎◌, ℕ, zero, suc, ◌+◌, List, [], ◌∷◌, ◌++◌, take, slice_get, Some, refl, sym, ap, ◌∙◌, subst, inl, inr, add-one}
use Rattle.std.proofs.lemmas.List.{append-nil}
use Rattle.block_machine.specs.Words.{Configuration, Mark}
use Rattle.block_machine.specs.State.{State}
use Rattle.block_machine.specs.StartUp.{started_with}
use Rattle.block_machine.specs.nv_base.Marks.{instance_of}
use Rattle.nv_recorder.specs.declared.event.MarkKind.TheVariants as mark
use Rattle.nv_recorder.specs.declared.found_marks.FoundPlace.{FoundPlace}
use Rattle.nv_recorder.specs.FoundMarks.{marks_at, mark_at, listed_at}
use Rattle.nv_recorder.proofs.FoundPlaces.{marks_more}
use Rattle.nv_desk_state.specs.declared.kept.Kept.{Kept}
use Rattle.nv_desk_state.specs.Kept.{Agrees}

take_got : {X : Type 0} (xs : List X) (i : ℕ) (x : X) → slice_get xs i ≡ Some x → take (suc i) xs ≡ take i xs ++ x ∷ []
take_got [] i x is = absurd (cc is)
take_got (y ∷ ys) zero x is = let same : y ≡ x = (cc is) in ap (λ z. z ∷ []) same
take_got (y ∷ ys) (suc i) x is = ap (λ zs. y ∷ zs) (take_got ys i x is)

more : (ps : List FoundPlace) (i : ℕ) (p : FoundPlace) → slice_get ps i ≡ Some p → marks_at (take (i + 1) ps) ≡ marks_at (take i ps) ++ listed_at p []
more ps i p is = rw (add-one i) (ap marks_at (take_got ps i p is) ∙ marks_more (take i ps) p)

-- an erased place adds no mark
pub erased_noted : (c : Configuration) (k : Kept) (s : State) (ps : List FoundPlace) (i : ℕ) (p : FoundPlace) → slice_get ps i ≡ Some p → p.kind ≡ mark.Erased
    → Agrees c k (started_with c s (marks_at (take i ps))) → Agrees c k (started_with c s (marks_at (take (i + 1) ps)))
erased_noted c k s ps i p is kind agrees =
    let none : listed_at p [] ≡ [] = rw kind refl in
    let same : marks_at (take (i + 1) ps) ≡ marks_at (take i ps) = more ps i p is ∙ ap (λ ms. marks_at (take i ps) ++ ms) none ∙ append-nil (marks_at (take i ps)) in
    subst (λ ms. Agrees c k (started_with c s ms)) (sym same) agrees

-- any other one adds its own
abbrev pub AddsOwn : Configuration → Kept → Kept → State → List FoundPlace → ℕ → FoundPlace → Type 0
AddsOwn c old new s ps i p = (m : Mark) → Agrees c old (started_with c s (marks_at (take i ps))) → Agrees c new (started_with c s (marks_at (take i ps) ++ (instance_of p.number, m) ∷ []))

pub marked_noted : (c : Configuration) (old new : Kept) (s : State) (ps : List FoundPlace) (i : ℕ) (p : FoundPlace) → slice_get ps i ≡ Some p
    → (p.kind ≡ mark.Content) ⊎ (p.kind ≡ mark.Invalid)
    → AddsOwn c old new s ps i p → Agrees c old (started_with c s (marks_at (take i ps))) → Agrees c new (started_with c s (marks_at (take (i + 1) ps)))
marked_noted c old new s ps i p is kind adds agrees =
    subst (λ ms. Agrees c new (started_with c s ms)) (sym (more ps i p is ∙ ap (λ ms. marks_at (take i ps) ++ ms) (own kind))) (adds (mark_at p) agrees)
  where
    own : (p.kind ≡ mark.Content) ⊎ (p.kind ≡ mark.Invalid) → listed_at p [] ≡ (instance_of p.number, mark_at p) ∷ []
    own (inl is) = rw is refl
    own (inr is) = rw is refl
