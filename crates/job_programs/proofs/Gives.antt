-- What a program gives.
use Rattle.std.proofs.Common.{◌≡◌, ◌≢◌, ℕ, ◌+◌, ◌-◌, Bool, true, false, if◌then◌else◌, List, [], ◌∷◌, ◌++◌, length, replicate, slice_get, refl, sym, subst, Option, Some, None}
use Rattle.std.specs.List.{list_any}
use Rattle.block_machine.specs.nv_base.declared.job.Outcome.TheVariants.{First}
use Rattle.std.proofs.lemmas.Bool.{ne_eqb, eq-eqb, or_parts}
use Rattle.block_machine.specs.Words.{Mark, Content, Invalid, Erased, JobKind, ReadJob, Outcome, ReadContent, FoundErased, FoundInvalid, Failed, FromDevice}
use Rattle.block_machine.specs.ResultTable.{table}
use Rattle.block_machine.specs.Results.{outcome_of, device_content}
use Rattle.job_programs.specs.Program.{Program, settles, is_failed, next_in, is_again, after_by}
use Rattle.job_programs.specs.Laws.{failed_of, Fit, Works, last_content, GoesOnlyAsNeeded, ProgramsGoAsNeeded, GivesTheLastRead}
use Rattle.job_programs.proofs.Ends.{apart, indices_in}

one_by : (kind : JobKind) (d : Bool) (m : ℕ × Mark) (o : Outcome) → outcome_of kind m.1 (is_failed o) ≡ o → (table d kind (o ∷ [])).1 ≡ FromDevice → device_content (m ∷ []) (failed_of (m.0 ∷ []) (o ∷ [])) ≡ last_content (m ∷ []) 1
one_by ReadJob d (i, Content bytes) ReadContent f e = refl
one_by ReadJob true (i, mark) o f e = cc
one_by ReadJob false (i, mark) o f e = cc
one_by kind d m o f e = cc

first_by : (kind : JobKind) (d : Bool) (a b : ℕ × Mark) (o : Outcome) → outcome_of kind a.1 (is_failed o) ≡ o → settles kind o ≡ true → (table d kind (o ∷ Failed ∷ [])).1 ≡ FromDevice
    → device_content (a ∷ b ∷ []) (failed_of (a.0 ∷ b.0 ∷ []) (o ∷ [])) ≡ last_content (a ∷ b ∷ []) 1
first_by ReadJob d (i, Content bytes) b ReadContent f s e = refl
first_by ReadJob d (i, mark) b o f s e = cc
first_by kind d a b o f s e = cc

-- behind a copy 0 that doesn't settle a read, only copy 1 gives a content
from_second : (d : Bool) (o p : Outcome) → settles ReadJob o ≡ false → (table d ReadJob (o ∷ p ∷ [])).1 ≡ FromDevice → p ≡ ReadContent
from_second d ReadContent p s e = cc
from_second d o ReadContent s e = refl
from_second true o p s e = cc
from_second false o p s e = cc

given : (i j : ℕ) (m : Mark) (o : Outcome) (bytes : List ℕ) → i ≢ j → outcome_of ReadJob m (is_failed o) ≡ o → settles ReadJob o ≡ false
    → device_content ((i, m) ∷ (j, Content bytes) ∷ []) (failed_of (i ∷ j ∷ []) (o ∷ ReadContent ∷ [])) ≡ Some bytes
given i j (Content x) Failed bytes n f s = rw (eq-eqb i i refl, ne_eqb i j n) refl
given i j (Content x) ReadContent bytes n f s = cc
given i j (Content x) o bytes n f s = cc
given i j Erased FoundErased bytes n f s = refl
given i j Erased o bytes n f s = cc
given i j Invalid FoundInvalid bytes n f s = cc
given i j Invalid o bytes n f s = cc

second_by : (kind : JobKind) (d : Bool) (a b : ℕ × Mark) (o p : Outcome) → a.0 ≢ b.0 → outcome_of kind a.1 (is_failed o) ≡ o → outcome_of kind b.1 (is_failed p) ≡ p → settles kind o ≡ false → (table d kind (o ∷ p ∷ [])).1 ≡ FromDevice
    → device_content (a ∷ b ∷ []) (failed_of (a.0 ∷ b.0 ∷ []) (o ∷ p ∷ [])) ≡ last_content (a ∷ b ∷ []) 2
second_by ReadJob d (i, m) (j, Content bytes) o ReadContent n f g s e = given i j m o bytes n f s
second_by ReadJob d (i, m) (j, Invalid) o ReadContent n f g s e = cc
second_by ReadJob d (i, m) (j, Erased) o ReadContent n f g s e = cc
second_by ReadJob d a b o p n f g s e = let h = from_second d o p s e in cc
second_by kind d a b o p n f g s e = cc

settled_by : (kind : JobKind) (o : Outcome) (a b : ℕ) → (if list_any (settles kind) (o ∷ []) then None else slice_get (a ∷ b ∷ []) 1) ≡ None → settles kind o ≡ true
settled_by ReadJob ReadContent a b e = refl
settled_by ReadJob FoundInvalid a b e = refl
settled_by kind o a b e = cc

by_marks : (kind : JobKind) (d : Bool) (marks : List (ℕ × Mark)) (done : List Outcome) → Works (indices_in marks) → Fit kind marks done → (if list_any (settles kind) done then None else slice_get (indices_in marks) (length done)) ≡ None → GoesOnlyAsNeeded kind done
    → (table d kind (done ++ replicate (length (indices_in marks) - length done) Failed)).1 ≡ FromDevice → device_content marks (failed_of (indices_in marks) done) ≡ last_content marks (length done)
by_marks kind d [] [] w f n g e = refl
by_marks kind d [] (o ∷ os) w f n g e = absurd f
by_marks kind d (m ∷ []) [] w f n g e = cc
by_marks kind d (m ∷ []) (o ∷ []) w f n g e = one_by kind d m o f.0 e
by_marks kind d (m ∷ []) (o ∷ p ∷ os) w f n g e = absurd f.1
by_marks kind d (a ∷ b ∷ []) [] w f n g e = cc
by_marks kind d (a ∷ b ∷ []) (o ∷ []) w f n g e = first_by kind d a b o f.0 (settled_by kind o a.0 b.0 n) e
by_marks kind d (a ∷ b ∷ []) (o ∷ p ∷ []) w f n g e = second_by kind d a b o p (apart a.0 b.0 [] w).0 f.0 f.1.0 g.0 e
by_marks kind d (a ∷ b ∷ []) (o ∷ p ∷ q ∷ os) w f n g e = absurd f.1.1
by_marks kind d (a ∷ b ∷ m ∷ ms) done w f n g e = let h = (apart a.0 b.0 (m.0 ∷ indices_in ms) w).1 in cc

pub gives_the_last_read : GivesTheLastRead
gives_the_last_read o p same works fit over needed from =
    subst (λ is. device_content o.marks (failed_of is p.done) ≡ last_content o.marks (length p.done)) same
    (by_marks p.kind p.defaults o.marks p.done (subst Works (sym same) works) fit (rw (← same) at over) needed (rw (← same) at from))

further : (kind : JobKind) (done : List Outcome) (o : Outcome) → list_any (settles kind) done ≡ false → GoesOnlyAsNeeded kind (done ++ o ∷ [])
further kind [] o e = tt
further kind (x ∷ []) o e = ((or_parts (settles kind x) false e).0, tt)
further kind (x ∷ y ∷ ys) o e =
    let rest = list_any (settles kind) (y ∷ ys) in
    ((or_parts (settles kind x) rest e).0, further kind (y ∷ ys) o (or_parts (settles kind x) rest e).1)

tried_by : (p : Program) (o : Outcome) (again : Bool) → GoesOnlyAsNeeded p.kind p.done → list_any (settles p.kind) p.done ≡ false
    → GoesOnlyAsNeeded p.kind (if again then record p { failures = p.failures + 1 } else record p { done = p.done ++ o ∷ []; failures = 0 }).done
tried_by p o true g e = g
tried_by p o false g e = further p.kind p.done o e

some_by : (t : Bool) (x : Option ℕ) (i : ℕ) → (if t then None else x) ≡ Some i → t ≡ false
some_by true x i e = cc
some_by false x i e = refl

after_by_next : (p : Program) (n : Option ℕ) (o : Outcome) → next_in p ≡ n → GoesOnlyAsNeeded p.kind p.done → GoesOnlyAsNeeded p.kind (after_by p n o).done
after_by_next p None o e g = g
after_by_next p (Some i) First e g = g
after_by_next p (Some i) o e g = tried_by p o (is_again o p.failures p.retries) g (some_by (list_any (settles p.kind) p.done) (slice_get p.indices (length p.done)) i e)

pub programs_go_as_needed : ProgramsGoAsNeeded
programs_go_as_needed p outcome g = after_by_next p (next_in p) outcome refl g
