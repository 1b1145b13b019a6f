-- What is known of one stored instance.
use Rattle.std.specs.Prelude.{◌≡◌, ◌⊎◌, List, [], ◌∷◌, ◌++◌}
use Rattle.std.specs.List.{Contains}
use Rattle.nv_base.specs.declared.mark.Mark.{Mark}
use Rattle.nv_base.specs.declared.mark.Mark.TheVariants.{Erased}

-- the mark that it holds for certain, and the marks beside it that a start-up may find: those that jobs took for it since
-- that one was settled
pub record Cell : Type 0 where
  pub settled : Mark
  pub doubts : List Mark

-- a mark that is settled, with no doubt
abbrev pub settled_as : Mark → Cell
settled_as mark = record { settled = mark; doubts = [] }

-- nothing was ever stored
abbrev pub erased_cell : Cell
erased_cell = settled_as Erased

-- a job took a mark
abbrev pub doubted : Mark → Cell → Cell
doubted mark c = record c { doubts = c.doubts ++ mark ∷ [] }

-- a start-up may find this mark
abbrev pub MayStand : Cell → Mark → Type 0
MayStand c mark = (mark ≡ c.settled) ⊎ Contains c.doubts mark
