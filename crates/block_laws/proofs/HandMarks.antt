-- The mark of the job in hand may stand in each instance that it works on.
use Rattle.std.proofs.Common.{◌≡◌, List, [], ◌∷◌, Some, ap, ◌∙◌, subst, inl, inr}
use Rattle.std.proofs.lemmas.Bool.{cases_Bool}
use Rattle.block_machine.specs.Words.{Instance, Configuration}
use Rattle.block_machine.specs.State.{BlockState, InstanceState, Job}
use Rattle.block_machine.specs.Blocks.{same_instance, indices_of, job_block, is_in}
use Rattle.block_machine.specs.Steps.{after}
use Rattle.block_laws.specs.Consistent.{Each}
use Rattle.block_laws.specs.Laws.{MarksInHandStand, MarksInHandAreDoubts}
use Rattle.block_laws.proofs.MarkCells.{FitsJob, at_instance, same_is}
use Rattle.block_laws.proofs.MarkSteps.{marks_in_hand}
use Rattle.block_laws.proofs.JobBlocks.{follows}

same_some : (x y : InstanceState) → Some x ≡ Some y → x ≡ y
same_some x y is = cc

fits_at : (c : Configuration) (bs : List BlockState) (j : Job) (i : Instance) (xs : List InstanceState)
    (x : InstanceState) → Each (FitsJob c bs j) xs
    → at_instance i xs ≡ Some x → FitsJob c bs j x × (i ≡ x.instance)
fits_at c bs j i [] x fits is = cc
fits_at c bs j i (y ∷ xs) x fits is = elim (cases_Bool (same_instance i y.instance)) [
  | inl on ↦
      let own : y ≡ x = same_some y x (rw on at is) in
      subst (λ (z : InstanceState). FitsJob c bs j z × (i ≡ z.instance)) own (fits.0, same_is i y.instance on)
  | inr off ↦ fits_at c bs j i xs x fits.1 (rw off at is)
]

same_back : (a b : Instance) → b ≡ a → a ≡ b
same_back a b is = cc

pub marks_in_hand_stand : MarksInHandStand
marks_in_hand_stand c cap h j mark i x legal hand takes block index is =
    let s = after c h in
    let f = follows c cap h legal in
    let (fits, same) = fits_at c s.blocks j i s.instances x (marks_in_hand c s j hand f.marks) is in
    fits.doubts mark takes (ap (λ (k : Instance). k.block) (same_back x.instance i same) ∙ block)
    (ap (λ (k : Instance). is_in (indices_of c s (job_block j)) k.index) (same_back x.instance i same) ∙ index)

pub marks_in_hand_are_doubts : MarksInHandAreDoubts
marks_in_hand_are_doubts c cap h j mark i x legal hand takes block index left is =
    let s = after c h in
    let f = follows c cap h legal in
    let (fits, same) = fits_at c s.blocks j i s.instances x (marks_in_hand c s j hand f.marks) is in
    fits.owed mark takes (ap (λ (k : Instance). k.block) (same_back x.instance i same) ∙ block)
    (ap (λ (k : Instance). is_in (indices_of c s (job_block j)) k.index) (same_back x.instance i same) ∙ index)
    (ap (λ (k : Instance). is_in j.written k.index) (same_back x.instance i same) ∙ left)
