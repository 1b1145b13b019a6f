use Rattle.std.proofs.Common.{◌≡◌, ◌++◌, ◌∷◌, [], List, map, ap, ◌∙◌, refl}
use Rattle.fls_model.specs.Step.{erases}
use Rattle.fls_model.specs.declared.call.Call.TheVariants.{Sector}
use Rattle.fls_files.specs.ByteFile.{held_by}
use Rattle.fls_files.specs.FileFlash.{InFile}
use Rattle.fls_files.specs.FileFlashInside.{first_now, changes_of}
use Rattle.fls_files.proofs.FileSteps.{erase_holds, still_held, stepped, on_disk}
use Rattle.fls_files.proofs.file_flash.FileFlashFlash.erase.Goals as goal

pub invariant_of-self : goal.invariant_of-self
invariant_of-self g c =
    let f = c.self.inside in
    let h = held_by g.T.ByteFile.held f.file in
    let there = erase_holds c.args.self.now.told f.geometry f.torn c.args.sector c.is_blanked-done.result f.lost c.is_blanked-done.new.lost h (held_by g.T.ByteFile.held c.is_blanked-done.new.file) (ap (λ (m : InFile). m.told.geometry) c.self.view_is) c.requires c.self.invariant.0 c.is_blanked-done.ensures.done in
    (still_held f.geometry f.torn (erases f.geometry c.args.sector) c.is_blanked-done.result f.lost c.is_blanked-done.new.lost h (held_by g.T.ByteFile.held c.is_blanked-done.new.file) there, c.self.invariant.1)

pub returns-clause-step : goal.returns-clause-step
returns-clause-step g c =
    let f = c.self.inside in
    let h = held_by g.T.ByteFile.held f.file in
    let there = erase_holds c.args.self.now.told f.geometry f.torn c.args.sector c.is_blanked-done.result f.lost c.is_blanked-done.new.lost h (held_by g.T.ByteFile.held c.is_blanked-done.new.file) (ap (λ (m : InFile). m.told.geometry) c.self.view_is) c.requires c.self.invariant.0 c.is_blanked-done.ensures.done in
    let same : first_now (map (held_by g.T.ByteFile.held) c.with-before.result.items) ≡ first_now (h ∷ []) = ap (λ (l : List _). first_now (map (held_by g.T.ByteFile.held) l)) (c.with-before.ensures ∙ (λ i. c.new.ensures i ++ f.file ∷ [])) in
    rw (← c.self.view_is) (stepped f.geometry (erases f.geometry c.args.sector) f.torn c.is_blanked-done.result f.lost c.is_blanked-done.new.lost (Sector c.args.sector) (first_now (map (held_by g.T.ByteFile.held) c.with-before.result.items)) c.count-answer.result f.asked.items c.with-self-inside.result.items f.ops c.count-answer.new.ops f.faults c.count-answer.new.faults h (held_by g.T.ByteFile.held c.is_blanked-done.new.file)
    there c.count-answer.ensures.answers c.count-answer.ensures.ops same c.with-self-inside.ensures refl)

pub returns-clause-on_disk : goal.returns-clause-on_disk
returns-clause-on_disk g c =
    let f = c.self.inside in
    let h = held_by g.T.ByteFile.held f.file in
    let there = erase_holds c.args.self.now.told f.geometry f.torn c.args.sector c.is_blanked-done.result f.lost c.is_blanked-done.new.lost h (held_by g.T.ByteFile.held c.is_blanked-done.new.file) (ap (λ (m : InFile). m.told.geometry) c.self.view_is) c.requires c.self.invariant.0 c.is_blanked-done.ensures.done in
    rw (← c.self.view_is) (on_disk f.geometry (erases f.geometry c.args.sector) f.torn c.is_blanked-done.result f.lost c.is_blanked-done.new.lost (changes_of f.geometry f.asked.items) (changes_of f.geometry c.with-self-inside.result.items) _ _ f.ops c.count-answer.new.ops f.faults c.count-answer.new.faults h (held_by g.T.ByteFile.held c.is_blanked-done.new.file) there)
