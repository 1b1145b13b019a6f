-- The instances that a job works on.
use Rattle.std.proofs.Common.{◌≡◌, inl, inr, ℕ, Bool, true, false, if◌then◌else◌, List, [], ◌∷◌, map, nat_le, refl, ap}
use Rattle.block_machine.specs.Words.{Mark, BlockKind, Native, Redundant, Dataset}
use Rattle.block_machine.specs.Blocks.{indices_by, indices_of, settled_at}
use Rattle.job_programs.specs.Program.{works}
use Rattle.job_programs.specs.Laws.{Works, ProgramsWork, ProgramsWorkOnTheirOwn, RestoresEnd}

dataset_by : (t : Bool) (index : ℕ) → Works (if t then [] else index ∷ [])
dataset_by true index = inl refl
dataset_by false index = inr (inl (index, refl))

works_by : (t : Bool) (kind : BlockKind) (nv index : ℕ) → Works (if t then indices_by kind nv index else [])
works_by false kind nv index = inl refl
works_by true Native nv index = inr (inl (0, refl))
works_by true Redundant nv index = inr (inr refl)
works_by true Dataset nv index = dataset_by (nat_le nv index) index

pub programs_work : ProgramsWork
programs_work d defaults block index kind = works_by (works kind) d.kind d.nv index

indices_stay : (f : ℕ → Mark) (xs : List ℕ) → map (λ (x : ℕ × Mark). x.0) (map (λ (i : ℕ). (i, f i)) xs) ≡ xs
indices_stay f [] = refl
indices_stay f (x ∷ xs) = ap (λ ys. x ∷ ys) (indices_stay f xs)

pub programs_work_on_their_own : ProgramsWorkOnTheirOwn
programs_work_on_their_own c s id block defaults kind e = rw e (indices_stay (λ i. settled_at s (record { block = id; index = i })) (indices_of c s id))

pub restores_end : RestoresEnd
restores_end p defaults outcomes e = rw e refl
