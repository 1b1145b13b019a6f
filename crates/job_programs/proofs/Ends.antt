-- What a program ends with.
use Rattle.std.proofs.Common.{◌≡◌, ◌≢◌, ℕ, ◌-◌, ◌⊎◌, inl, inr, Bool, true, false, if◌then◌else◌, List, [], ◌∷◌, ◌++◌, length, map, replicate, slice_get, refl, sym, ap, ◌∙◌, subst, None}
use Rattle.std.specs.List.{list_any}
use Rattle.std.proofs.lemmas.Bool.{ne_eqb, eq-eqb}
use Rattle.block_machine.specs.Words.{Mark, JobKind, ReadJob, Outcome, ReadContent, FoundInvalid, Failed}
use Rattle.block_machine.specs.Blocks.{is_in}
use Rattle.block_machine.specs.ResultTable.{table}
use Rattle.block_machine.specs.Results.{outcome_of, outcomes_of}
use Rattle.job_programs.specs.Program.{settles, is_failed}
use Rattle.job_programs.specs.Laws.{failed_of, Fit, Works, EndsByTheMachine}

abbrev pub indices_in : List (ℕ × Mark) → List ℕ
indices_in marks = map (λ x. x.0) marks

-- one outcome is the machine's
same_by : (t : Bool) (kind : JobKind) (m : ℕ × Mark) (o : Outcome) (rest : List ℕ) → is_in rest m.0 ≡ false → outcome_of kind m.1 t ≡ o → outcome_of kind m.1 (is_in (if t then m.0 ∷ rest else rest) m.0) ≡ o
same_by true kind m o rest other fit = rw (eq-eqb m.0 m.0 refl) fit
same_by false kind m o rest other fit = rw other fit

one_outcome : (kind : JobKind) (m : ℕ × Mark) (o : Outcome) → outcome_of kind m.1 (is_failed o) ≡ o → outcome_of kind m.1 (is_in (failed_of (m.0 ∷ []) (o ∷ [])) m.0) ≡ o
one_outcome kind m o fit = same_by (is_failed o) kind m o [] refl fit

over_by : (kind : JobKind) (o : Outcome) (a b : ℕ) → (if list_any (settles kind) (o ∷ []) then None else slice_get (a ∷ b ∷ []) 1) ≡ None → (kind ≡ ReadJob) × ((o ≡ ReadContent) ⊎ (o ≡ FoundInvalid))
over_by ReadJob ReadContent a b e = (refl, inl refl)
over_by ReadJob FoundInvalid a b e = (refl, inr refl)
over_by kind o a b e = cc

-- where copy 0 settles a read, copy 1 doesn't count
early_by : (d : Bool) (o p x y : Outcome) → (o ≡ ReadContent) ⊎ (o ≡ FoundInvalid) → p ≡ o → table d ReadJob (o ∷ x ∷ []) ≡ table d ReadJob (p ∷ y ∷ [])
early_by d o p x y (inl e) f = rw (f, e) refl
early_by d o p x y (inr e) f = rw (f, e) refl

early : (kind : JobKind) (d : Bool) (a b : ℕ × Mark) (o : Outcome) → outcome_of kind a.1 (is_failed o) ≡ o → (kind ≡ ReadJob) × ((o ≡ ReadContent) ⊎ (o ≡ FoundInvalid))
    → table d kind (o ∷ Failed ∷ []) ≡ table d kind (outcomes_of kind (a ∷ b ∷ []) (failed_of (a.0 ∷ b.0 ∷ []) (o ∷ [])))
early kind d a b o fit over =
    let f = one_outcome kind a o fit in
    subst (λ k. table d k (o ∷ Failed ∷ []) ≡ table d k (outcome_of kind a.1 (is_in (failed_of (a.0 ∷ b.0 ∷ []) (o ∷ [])) a.0) ∷ outcome_of kind b.1 (is_in (failed_of (a.0 ∷ b.0 ∷ []) (o ∷ [])) b.0) ∷ [])) (sym over.0) (early_by d o _ Failed _ over.1 f)

-- both copies
other_by : (t : Bool) (a b : ℕ) → b ≢ a → is_in (if t then b ∷ [] else []) a ≡ false
other_by true a b e = rw (ne_eqb b a e) refl
other_by false a b e = refl

behind_by : (t : Bool) (a b : ℕ) (rest : List ℕ) → a ≢ b → is_in (if t then a ∷ rest else rest) b ≡ is_in rest b
behind_by true a b rest e = rw (ne_eqb a b e) refl
behind_by false a b rest e = refl

both : (kind : JobKind) (a b : ℕ × Mark) (o p : Outcome) → a.0 ≢ b.0 → outcome_of kind a.1 (is_failed o) ≡ o → outcome_of kind b.1 (is_failed p) ≡ p
    → outcomes_of kind (a ∷ b ∷ []) (failed_of (a.0 ∷ b.0 ∷ []) (o ∷ p ∷ [])) ≡ o ∷ p ∷ []
both kind a b o p e f g =
    let rest = failed_of (b.0 ∷ []) (p ∷ []) in
    let first : outcome_of kind a.1 (is_in (failed_of (a.0 ∷ b.0 ∷ []) (o ∷ p ∷ [])) a.0) ≡ o = same_by (is_failed o) kind a o rest (other_by (is_failed p) a.0 b.0 (λ h. e (sym h))) f in
    let second : outcome_of kind b.1 (is_in (failed_of (a.0 ∷ b.0 ∷ []) (o ∷ p ∷ [])) b.0) ≡ p = ap (outcome_of kind b.1) (behind_by (is_failed o) a.0 b.0 rest e) ∙ one_outcome kind b p g in
    cc

pub apart : (a b : ℕ) (xs : List ℕ) → Works (a ∷ b ∷ xs) → (a ≢ b) × (xs ≡ [])
apart a b xs (inl e) = cc
apart a b xs (inr (inl (i, e))) = cc
apart a b xs (inr (inr e)) = ((λ h. let f : a ≡ 0 = cc in let g : b ≡ 1 = cc in cc), cc)

by_marks : (kind : JobKind) (d : Bool) (marks : List (ℕ × Mark)) (done : List Outcome) → Works (indices_in marks) → Fit kind marks done → (if list_any (settles kind) done then None else slice_get (indices_in marks) (length done)) ≡ None
    → table d kind (done ++ replicate (length (indices_in marks) - length done) Failed) ≡ table d kind (outcomes_of kind marks (failed_of (indices_in marks) done))
by_marks kind d [] [] w f n = refl
by_marks kind d [] (o ∷ os) w f n = absurd f
by_marks kind d (m ∷ []) [] w f n = cc
by_marks kind d (m ∷ []) (o ∷ []) w f n = ap (λ x. table d kind (x ∷ [])) (sym (one_outcome kind m o f.0))
by_marks kind d (m ∷ []) (o ∷ p ∷ os) w f n = absurd f.1
by_marks kind d (a ∷ b ∷ []) [] w f n = cc
by_marks kind d (a ∷ b ∷ []) (o ∷ []) w f n = early kind d a b o f.0 (over_by kind o a.0 b.0 n)
by_marks kind d (a ∷ b ∷ []) (o ∷ p ∷ []) w f n = ap (table d kind) (sym (both kind a b o p (apart a.0 b.0 [] w).0 f.0 f.1.0))
by_marks kind d (a ∷ b ∷ []) (o ∷ p ∷ q ∷ os) w f n = absurd f.1.1
by_marks kind d (a ∷ b ∷ m ∷ ms) done w f n = let e = (apart a.0 b.0 (m.0 ∷ indices_in ms) w).1 in cc

pub ends_by_the_machine : EndsByTheMachine
ends_by_the_machine o p same works defaults fit over =
    rw (defaults, ← same) (by_marks p.kind p.defaults o.marks p.done (subst Works (sym same) works) fit (rw (← same) at over))
