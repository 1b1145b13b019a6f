-- What a handle owns, as a room at its types.
use mathlib.Core.List.{[]}
use mathlib.Core.Path.{◌≡◌, refl, subst}
use mir.Syntax.{tnil, ty_struct}
use seplogic.Ra.Ura.{Ura}
use base.Logic.{ent, id⊢}
use denote.Exit.{no}
use denote.Param.{arg}
use denote.Param.Laws.{Laws, arg_laws}
use denote.RattleType.{RattleType}
use denote.RawPtr.{Ptr}
use types.Logic.{Logic, sem}
use Rattle.std.proofs.Common.{Option, None, Some}
use Rattle.std.proofs.marker.Brand.TheLaws as brand
use Rattle.std.specs.contracts.marker.Brand as Brand
use Rattle.std.specs.declared.marker.Brand.{Brand as Marker}
use Rattle.nvm.specs.nvm_flash.fee_core.declared.origin.Origin.{Ghosts}
use Rattle.nvm_c.specs.Held.{Kept, CanRun, held, kept_as, origin_for, origin_of, row_at, state_in}
use Rattle.nvm_c.specs.Room.{room_owns}
use Rattle.nvm_c.specs.Unit.{UnitState}
use Rattle.nvm_c.specs.Work.{CanServe}
use Rattle.nvm_c.specs.contracts.room.Room as Room
use Rattle.nvm_c.specs.declared.work.UnitWork.{UnitWork}
use Rattle.nvm_c.specs.declared.work.UnitWork.TheVariants.{Open, Close, Serve}

-- what a call passes for `Brand`
abbrev pub marker : RattleType
marker = arg (ty_struct [] tnil) no Brand.the_row

abbrev pub marker_laws : Laws marker
marker_laws = arg_laws (ty_struct [] tnil) no Brand.the_row brand.the_row_laws refl

-- the room of a unit that was made of this
abbrev pub RoomAt : Ghosts Marker → RattleType
RoomAt o = Room.the_row (row_at o)

-- what a handle keeps was made of this
abbrev pub IsMadeOf : Ghosts Marker → Option Kept → Type 1
IsMadeOf o None = Unit {1}
IsMadeOf o (Some k) = origin_of k ≡ o

module _ {M : Type 1} {𝓤 : Ura M} (𝓛 : Logic 𝓤) (o : Ghosts Marker) (at : Ptr) where
  pub as_room : (kept : Option Kept) → IsMadeOf o kept → ent 𝓤 (sem 𝓛 (held at kept)) (sem 𝓛 (room_owns (row_at o) at (state_in kept)))
  as_room None made = id⊢ 𝓤 _
  as_room (Some k) made = subst (λ (p : Ghosts Marker). ent 𝓤 (sem 𝓛 (held at (Some k))) (sem 𝓛 (room_owns (row_at p) at (Some k.state)))) made (id⊢ 𝓤 _)

  pub as_held : (kept : Option Kept) → IsMadeOf o kept → ent 𝓤 (sem 𝓛 (room_owns (row_at o) at (state_in kept))) (sem 𝓛 (held at kept))
  as_held None made = id⊢ 𝓤 _
  as_held (Some k) made = subst (λ (p : Ghosts Marker). ent 𝓤 (sem 𝓛 (room_owns (row_at p) at (Some k.state))) (sem 𝓛 (held at (Some k)))) made (id⊢ 𝓤 _)

-- WORK
pub made_of : (kept : Option Kept) (work : UnitWork) → IsMadeOf (origin_for kept work) kept
made_of None work = tt
made_of (Some k) work = refl

-- what is kept behind it was made of the same
pub made_behind : (kept : Option Kept) (work : UnitWork) (s : Option UnitState) → IsMadeOf (origin_for kept work) (kept_as kept work s)
made_behind kept work None = tt
made_behind (Some k) work (Some s) = refl
made_behind None (Open config flash cuts) (Some s) = refl
made_behind None Close (Some s) = tt
made_behind None (Serve task) (Some s) = tt

-- no work but an opening begins with a closed handle
pub state_behind : (kept : Option Kept) (work : UnitWork) (s : Option UnitState) → CanRun kept work → state_in (kept_as kept work s) ≡ s
state_behind kept work None can = refl
state_behind (Some k) work (Some s) can = refl
state_behind None (Open config flash cuts) (Some s) can = refl
state_behind None Close (Some s) can = cc can
state_behind None (Serve task) (Some s) can = absurd can

pub can_serve : (kept : Option Kept) (work : UnitWork) → CanRun kept work → CanServe (origin_for kept work).making (origin_for kept work).entry work (state_in kept)
can_serve None (Open config flash cuts) can = (refl, record { made_for = refl; over = refl })
can_serve (Some k) (Open config flash cuts) can = cc can
can_serve None Close can = can
can_serve (Some k) Close can = can
can_serve None (Serve task) can = can
can_serve (Some k) (Serve task) can = can
