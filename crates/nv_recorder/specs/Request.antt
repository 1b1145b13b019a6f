-- A request whose content is lent.
use Rattle.std.specs.Prelude.{ℕ, List, [], Some, None}
use Rattle.nv_base.specs.declared.request.Request.{Request}
use Rattle.nv_base.specs.declared.request.Request.TheVariants as request
use Rattle.nv_recorder.specs.declared.request.LentRequest.{LentRequest}
use Rattle.nv_recorder.specs.declared.request.RequestKind.{RequestKind}
use Rattle.nv_recorder.specs.declared.request.RequestKind.TheVariants as kind

-- what is asked with this content
abbrev pub whole_request : RequestKind → List ℕ → Request
whole_request (kind.Read block ram) content = Request.Read block ram
whole_request (kind.Write block store) content = Request.Write block (Some content) store
whole_request (kind.WriteRam block store) content = Request.Write block None store
whole_request (kind.Restore block ram) content = Request.Restore block ram
whole_request (kind.Erase block) content = Request.Erase block
whole_request (kind.Invalidate block) content = Request.Invalidate block
whole_request (kind.SetIndex block index) content = Request.SetIndex block index
whole_request (kind.GetIndex block) content = Request.GetIndex block
whole_request (kind.SetProtection block on) content = Request.SetProtection block on
whole_request (kind.SetLock block on) content = Request.SetLock block on
whole_request (kind.SetRam block on) content = Request.SetRam block on
whole_request (kind.PutRam block) content = Request.PutRam block content
whole_request (kind.Status block) content = Request.Status block
whole_request kind.ReadAll content = Request.ReadAll
whole_request kind.WriteAll content = Request.WriteAll
whole_request kind.CancelWriteAll content = Request.CancelWriteAll

-- the request that is lent
abbrev pub request_lent : LentRequest → Request
request_lent r = whole_request r.kind r.content.now

-- what a request asks
abbrev pub kind_in : Request → RequestKind
kind_in (request.Read block ram) = kind.Read block ram
kind_in (request.Write block (Some content) store) = kind.Write block store
kind_in (request.Write block None store) = kind.WriteRam block store
kind_in (request.Restore block ram) = kind.Restore block ram
kind_in (request.Erase block) = kind.Erase block
kind_in (request.Invalidate block) = kind.Invalidate block
kind_in (request.SetIndex block index) = kind.SetIndex block index
kind_in (request.GetIndex block) = kind.GetIndex block
kind_in (request.SetProtection block on) = kind.SetProtection block on
kind_in (request.SetLock block on) = kind.SetLock block on
kind_in (request.SetRam block on) = kind.SetRam block on
kind_in (request.PutRam block content) = kind.PutRam block
kind_in (request.Status block) = kind.Status block
kind_in request.ReadAll = kind.ReadAll
kind_in request.WriteAll = kind.WriteAll
kind_in request.CancelWriteAll = kind.CancelWriteAll

-- the content that it brings, or no bytes
abbrev pub content_in : Request → List ℕ
content_in (request.Write block (Some content) store) = content
content_in (request.PutRam block content) = content
content_in r = []
