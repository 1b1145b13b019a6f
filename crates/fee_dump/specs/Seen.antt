-- A bank of an image, seen in its own bytes.
use Rattle.std.specs.Prelude.{◌≡◌, ◌↔◌, ℕ, List, IsTrue}
use Rattle.fee_image.specs.Image.{Layout, bank_in}
use Rattle.fee_image.specs.RecordList.{IsTailBlank, records_of, end_of}
use Rattle.fee_view.specs.View.{View, bank_of}
use Rattle.fee_dump.specs.Dump.{has_blank_tail}

-- a view shows the records and the tail of bank k
pub record Shows (l : Layout) (image : List ℕ) (k : ℕ) (v : View) : Type 0 where
  pub records : records_of (bank_of v) v.bytes ≡ records_of (bank_in l v.head.format k) image
  pub tail : IsTailBlank (bank_of v) v.bytes (end_of (bank_of v) v.bytes) ↔ IsTrue (has_blank_tail (bank_in l v.head.format k) image)
