-- What an operation over banks is by itself, by the page that it programs.
use Rattle.std.specs.Prelude.{◌+◌, ◌-◌, ◌*◌, ◌/◌, ◌==◌, ◌&&◌, ◌||◌, nat_le, ℕ, Bool, true, false}
use Rattle.nv_base.specs.declared.geometry.Geometry.{Geometry}
use Rattle.nv_base.specs.Geometry.{pages_of_bank}
use Rattle.memif.specs.Clock.{Trait, Seals, TakesKept}
use Rattle.fls_model.specs.declared.flash.FlashAnswer.{FlashAnswer}
use Rattle.fls_model.specs.declared.flash.FlashAnswer.TheVariants.{Done}
use Rattle.fls_model.specs.Op.{Op, Program, Erase}
use Rattle.fls_model.specs.Told.{Change}
use Rattle.promise_device.specs.Making.{Making}
use Rattle.promise_device.specs.Failures.{is_failed}

-- the page of its bank that lies at an address
abbrev pub page_in_bank : Geometry → (banks address : ℕ) → ℕ
page_in_bank g banks address = address / g.page - address / g.page / pages_of_bank g banks * pages_of_bank g banks

abbrev pub is_done : FlashAnswer → Bool
is_done Done = true
is_done answer = false

-- A switch is at its seal behind the head of a bank, which is its first page, and behind a gate that is in doubt, its second.
abbrev pub leaves_seal : (page : ℕ) → FlashAnswer → Bool
leaves_seal page answer = ((page == 0) && is_done answer) || ((page == 1) && is_failed answer)

-- a page is one of the last of its bank, which are kept for urgent writes
abbrev pub is_kept_page : Making → (page : ℕ) → Bool
is_kept_page m page = nat_le (pages_of_bank m.geometry m.banks - m.reserve) page && nat_le (page + 1) (pages_of_bank m.geometry m.banks)

abbrev pub is_such_page : Making → Trait → (page : ℕ) → FlashAnswer → Bool
is_such_page m Seals page answer = leaves_seal page answer
is_such_page m TakesKept page answer = is_kept_page m page

-- an erase is neither
abbrev pub is_such_op : Making → Trait → Op → FlashAnswer → Bool
is_such_op m trait (Program address page) answer = is_such_page m trait (page_in_bank m.geometry m.banks address) answer
is_such_op m trait (Erase address n) answer = false

abbrev pub is_such : Making → Trait → Change → Bool
is_such m trait x = is_such_op m trait x.op x.answer
