use Rattle.std.proofs.Common.{arith}
use Rattle.nvm.specs.fls_model.Told.{bytes_now}
use Rattle.nvm.specs.nvm_flash.fee_image.Image.{layout_of}
use Rattle.nvm_c.proofs.SoundImages.{none_sound, not_sound, sound_more}
use Rattle.nvm_c.proofs.sound_image.is_sound.Goals as goal

pub loop-bank-init : goal.loop-bank-init
loop-bank-init c = none_sound (bytes_now c.args.flash.now) (layout_of c.args.geometry c.args.banks) c.len-size.result c.len-size.ensures

pub returns-then-not-is_bank_sound : goal.returns-then-not-is_bank_sound
returns-then-not-is_bank_sound c =
    not_sound (bytes_now c.args.flash.now) (layout_of c.args.geometry c.args.banks) c.loop-bank.bank c.is_bank_sound.result (omega arith)
    (λ is. let never = c.if-not-is_bank_sound.true in cc (never, is)) c.is_bank_sound.ensures

pub loop-bank-preserved : goal.loop-bank-preserved
loop-bank-preserved c =
    sound_more (bytes_now c.args.flash.now) (layout_of c.args.geometry c.args.banks) c.loop-bank.bank c.is_bank_sound.result
    (let is = c.if-not-is_bank_sound.false in cc is) c.loop-bank.invariant c.is_bank_sound.ensures
