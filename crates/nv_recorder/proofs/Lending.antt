-- A request that is lent is itself.
use Rattle.std.proofs.Common.{◌≡◌, refl, Some, None}
use Rattle.nv_base.specs.declared.request.Request.{Request}
use Rattle.nv_base.specs.declared.request.Request.TheVariants as request
use Rattle.nv_recorder.specs.Request.{content_in, kind_in, whole_request}

pub lends : (r : Request) → whole_request (kind_in r) (content_in r) ≡ r
lends (request.Read block ram) = refl
lends (request.Write block (Some content) store) = refl
lends (request.Write block None store) = refl
lends (request.Restore block ram) = refl
lends (request.Erase block) = refl
lends (request.Invalidate block) = refl
lends (request.SetIndex block index) = refl
lends (request.GetIndex block) = refl
lends (request.SetProtection block on) = refl
lends (request.SetLock block on) = refl
lends (request.SetRam block on) = refl
lends (request.PutRam block content) = refl
lends (request.Status block) = refl
lends request.ReadAll = refl
lends request.WriteAll = refl
lends request.CancelWriteAll = refl
