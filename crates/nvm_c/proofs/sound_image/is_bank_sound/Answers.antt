use Rattle.nvm.specs.fls_model.Told.{bytes_now}
use Rattle.nvm.specs.nvm_flash.fee_image.Image.{layout_of}
use Rattle.nvm_c.proofs.SoundImages.{bank_sound}
use Rattle.nvm_c.proofs.sound_image.is_bank_sound.Goals as goal

pub returns : goal.returns
returns c =
    bank_sound (bytes_now c.args.flash.now) (layout_of c.args.geometry c.args.banks) c.args.bank c.copy_page.new.into c.copy_page-2.new.into c.is_sound_bank.result
    c.copy_page-2.ensures.room c.copy_page.ensures.page c.copy_page-2.ensures.page c.is_sound_bank.ensures
