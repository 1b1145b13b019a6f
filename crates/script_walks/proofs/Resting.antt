-- At rest, and what is due, by what comes next.
use Rattle.std.specs.Prelude.{IsTrue, ◌==◌, ◌&&◌, ◌||◌, is_none, option_to_list}
use Rattle.std.proofs.Common.{◌≡◌, inl, inr, ℕ, Bool, true, false, List, [], ◌∷◌, ◌++◌, length, Option, Some, None, if◌then◌else◌, refl, sym, ap, ◌∙◌, arith}
use Rattle.std.proofs.lemmas.Bool.{and_parts, cases_Bool, eqb-true}
use Rattle.block_machine.specs.Words.{Configuration}
use Rattle.block_machine.specs.State.{State, Job, Sweep}
use Rattle.block_machine.specs.Blocks.{block_at, desc_of}
use Rattle.block_machine.specs.Sweeps.{is_picked}
use Rattle.block_machine.specs.Next.{Nothing, PickJob, BeginSweep, PickMember, PostMember, next_by, next_in, next_in_sweep, next_member, next_of}
use Rattle.block_laws.proofs.NextLaws.{none_waits}
use Rattle.script_walks.specs.Walk.{is_at_rest, is_due}

-- NOTHING COMES NEXT
rest_parts : (hand : Option Job) (waiting : List Job) (sweep : Option Sweep) → IsTrue ((length (option_to_list hand ++ waiting) == 0) && is_none sweep) → (hand ≡ None) × (waiting ≡ []) × (sweep ≡ None)
rest_parts None [] None rest = (refl, refl, refl)
rest_parts None [] (Some sw) rest = absurd (cc rest)
rest_parts None (j ∷ js) sweep rest = let none = eqb-true (length (j ∷ js)) 0 (and_parts (length (j ∷ js) == 0) (is_none sweep) rest).0 in absurd (omega (arith, none))
rest_parts (Some j) waiting sweep rest = let none = eqb-true (length (j ∷ waiting)) 0 (and_parts (length (j ∷ waiting) == 0) (is_none sweep) rest).0 in absurd (omega (arith, none))

pub some_none : (j : Job) → Some j ≡ None → ⊥
some_none j is = cc is

-- the manager turns to what comes next by what waits, what is in hand and the sweep
pub next_at : (c : Configuration) (s : State) (hand : Option Job) (waiting : List Job) (sweep : Option Sweep) → s.hand ≡ hand → s.waiting ≡ waiting → s.sweep ≡ sweep → next_of c s ≡ next_by c s (next_in c waiting) hand sweep
next_at c s hand waiting sweep h w o = rw (h, w, o) refl

pub rests_next : (c : Configuration) (s : State) → IsTrue (is_at_rest s) → (s.hand ≡ None) × (next_of c s ≡ Nothing)
rests_next c s rest = let (hand, waiting, sweep) = rest_parts s.hand s.waiting s.sweep rest in (hand, next_at c s None [] None hand waiting sweep)

-- WHAT IS DUE
pub due_off : (s : State) → s.off ≡ true → is_due s ≡ false
due_off s off = rw off refl

pub due_hand : (s : State) (j : Job) → s.hand ≡ Some j → is_due s ≡ false
due_hand s j hand = by s.off refl
  where
    by : (t : Bool) → s.off ≡ t → is_due s ≡ false
    by true off = rw off refl
    by false off = rw (off, hand) refl

pub due_rest : (s : State) → is_at_rest s ≡ true → is_due s ≡ false
due_rest s rest = by s.off (is_none s.hand) refl refl
  where
    by : (t u : Bool) → s.off ≡ t → is_none s.hand ≡ u → is_due s ≡ false
    by true u off hand = rw off refl
    by false true off hand = rw (off, hand, rest) refl
    by false false off hand = rw (off, hand) refl

-- nothing is in hand, and nothing comes next
some_member : (c : Configuration) (s : State) (sw : Sweep) (ids : List ℕ) → next_member c s sw ids ≡ Nothing → ⊥
some_member c s sw [] none = cc
some_member c s sw (id ∷ ids) none = by (is_picked (desc_of c id) (block_at s id) sw id) none
  where
    by : (t : Bool) → (if t then PickMember sw id else PostMember sw id) ≡ Nothing → ⊥
    by true e = cc
    by false e = cc

some_sweep : (c : Configuration) (s : State) (sw : Sweep) → next_in_sweep c s sw ≡ Nothing → ⊥
some_sweep c s sw none = by sw.under_way none
  where
    by : (t : Bool) → (if t then next_member c s sw (if sw.canceled then [] else sw.left) else BeginSweep sw) ≡ Nothing → ⊥
    by true e = some_member c s sw (if sw.canceled then [] else sw.left) e
    by false e = cc

rest_by : (s : State) → s.hand ≡ None → s.waiting ≡ [] → s.sweep ≡ None → is_at_rest s ≡ true
rest_by s hand waiting sweep = rw (hand, waiting, sweep) refl

pub at_rest : (c : Configuration) (s : State) → s.hand ≡ None → next_of c s ≡ Nothing → is_at_rest s ≡ true
at_rest c s hand none = by (next_in c s.waiting) refl s.sweep refl
  where
    by : (o : Option Job) → next_in c s.waiting ≡ o → (w : Option Sweep) → s.sweep ≡ w → is_at_rest s ≡ true
    by (Some j) is w sweep = absurd (no (sym (ap (λ (o : Option Job). next_by c s o s.hand s.sweep) is) ∙ none))
      where
        no : PickJob j ≡ Nothing → ⊥
        no e = cc
    by None is None sweep = rest_by s hand (none_waits c s.waiting is) sweep
    by None is (Some sw) sweep =
        absurd (some_sweep c s sw (sym (ap (λ (o : Option Job). next_by c s o s.hand s.sweep) is ∙ ap (λ (h : Option Job). next_by c s None h s.sweep) hand ∙ ap (λ (x : Option Sweep). next_by c s None None x) sweep) ∙ none))

-- THE END OF A DRAIN
pub rest_ends : (s : State) → is_at_rest s ≡ true → IsTrue (is_at_rest s || s.off)
rest_ends s rest = rw rest refl

pub off_ends : (s : State) → s.off ≡ true → IsTrue (is_at_rest s || s.off)
off_ends s off = elim (cases_Bool (is_at_rest s)) [ inl on ↦ rw on refl | inr none ↦ rw (none, off) refl ]
