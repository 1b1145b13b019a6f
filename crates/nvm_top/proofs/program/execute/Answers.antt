use Rattle.std.proofs.Common.{◌≡◌, ◌∙◌, Bool, Some, None, map, string_bytes, refl, ap, arith}
use Rattle.nvm_flash.specs.fls_model.Memory.{InMemory}
use Rattle.nvm_words.specs.Words.{image_path, is_dump}
use Rattle.nvm_top.proofs.Executions.{on_file, in_none, on_nothing}
use Rattle.nvm_top.proofs.program.execute.Goals as goal

pub returns-in-Ok : goal.returns-in-Ok
returns-in-Ok g c =
    let opened = g.O.ImageOpener.opened c.args.opener in
    let was = c.in-Ok-Some.ensures in
    let named : image_path (map string_bytes c.args.words.now) ≡ Some c.in-Ok-Some.path.now = grind (arith, was, c.in-Ok-Some.field-0-is, c.in-Ok-Some.path-is) in
    on_file (map string_bytes c.args.words.now) opened g.O.Image.Flash.told c.args.opener _ _ _ _ _ _ _ _ _ c.in-Ok-Some.path.now c.command-status.result.1 c.command-status.result.0 _ _ c.code.ensures named
    (c.image-image.ensures ∙ ap (λ (alone : Bool). opened c.in-Ok-Some.path.now alone) (c.is_dump.ensures ∙ ap is_dump c.in-Ok.ensures)) c.command-status.ensures refl

pub returns-in-Ok-mem_flash : goal.returns-in-Ok-mem_flash
returns-in-Ok-mem_flash g c =
    let was = c.in-Ok-None.ensures in
    let named : image_path (map string_bytes c.args.words.now) ≡ None = grind (arith, was, c.in-Ok-None.field-0-is) in
    in_none (map string_bytes c.args.words.now) (g.O.ImageOpener.opened c.args.opener) g.O.Image.Flash.told c.args.opener _ _ _ _ _ _ _ _ _ c.command-status-in-Ok-mem_flash.result.0 _ _ c.code-in-Ok-mem_flash.ensures named
    (ap (λ (m : InMemory). m.told) c.in-Ok-mem_flash.ensures) c.command-status-in-Ok-mem_flash.ensures

pub returns-in-Err-command_of : goal.returns-in-Err-command_of
returns-in-Err-command_of g c =
    on_nothing (map string_bytes c.args.words.now) (g.O.ImageOpener.opened c.args.opener) g.O.Image.Flash.told c.args.opener _ _ _ _ _ c.code-in-Err-command_of.ensures

pub returns-in-Err-mem_flash : goal.returns-in-Err-mem_flash
returns-in-Err-mem_flash g c =
    on_nothing (map string_bytes c.args.words.now) (g.O.ImageOpener.opened c.args.opener) g.O.Image.Flash.told c.args.opener _ _ _ _ _ c.code-in-Err-mem_flash.ensures

pub returns-in-Err : goal.returns-in-Err
returns-in-Err g c =
    on_nothing (map string_bytes c.args.words.now) (g.O.ImageOpener.opened c.args.opener) g.O.Image.Flash.told c.args.opener _ _ _ _ _ c.code-in-Err.ensures
