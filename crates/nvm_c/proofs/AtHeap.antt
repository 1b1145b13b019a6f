-- The C library's heap as a call passes it, and the glue that lets it go.
use mathlib.Core.Path.{refl}
use mathlib.Core.List.{[], ◌∷◌}
use mir.Syntax.{Ty, Dict, impl, tnil, tcons, dnil, ty_struct, ty_unit}
use denote.Exit.{no}
use denote.Param.{arg, layout}
use denote.Param.Laws.{Laws, arg_laws}
use denote.RattleType.{RattleType}
use denote.Param.Glue.{Bound}
use denote.Param.NoDrop.{glues}
use prog.Routine.{Env}
use prog.Wired.{Wired}
use Rattle.nvm_c.proofs.Destruct++none.drop.Code as drop
use Rattle.std_heap.specs.contracts.Global as Global
use Rattle.std_heap.proofs.Global.TheLaws as global

abbrev pub heap_ty : Ty
heap_ty = ty_struct [] (tcons (ty_struct [] (tcons ty_unit tnil)) tnil)

abbrev pub heap : RattleType
heap = arg heap_ty no Global.the_row

abbrev pub heap_laws : Laws heap
heap_laws = arg_laws heap_ty no Global.the_row global.the_row_laws refl

abbrev pub heap_drop : Dict
heap_drop = impl ("nvm_c::Destruct++none::drop" ∷ []) (tcons (layout heap) tnil) dnil

-- nothing is to be done to let it go
pub heap_drops : (γ : Env) → Wired γ drop.code → Bound γ heap heap_drop
unfolding drop.code
heap_drops γ wired = glues "nvm_c::Destruct++none::drop" γ wired heap heap_laws
