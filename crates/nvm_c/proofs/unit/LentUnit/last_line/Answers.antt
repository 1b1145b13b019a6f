use Rattle.std.specs.Prelude.{◌-◌, length, option_map, slice_get}
use Rattle.std.proofs.Common.{Some, ap, sym, ◌∙◌}
use Rattle.nvm.specs.nv_desk.Latest.{last_of}
use Rattle.nvm_c.specs.Unit.{UnitState}
use Rattle.nvm_c.proofs.StandingMarks.{found_last}
use Rattle.nvm_c.proofs.unit.LentUnit.last_line.Goals as goal

pub found_line-requires : goal.found_line-requires
found_line-requires g c =
    let same = ap (λ (s : UnitState). slice_get s.desk.entries (length s.desk.entries - 1)) (sym (c.stack.ensures.stack ∙ c.self.view_is)) in
    record { last = found_last _ _ _ (same ∙ sym c.last.ensures ∙ ap (λ o. option_map last_of o) c.in-Some-Found.is ∙ ap (λ l. Some (last_of l)) c.in-Some-Found.field-0-is) }
