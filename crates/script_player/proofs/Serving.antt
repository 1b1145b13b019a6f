-- A stack in which nothing fails.
use Rattle.script_player.proofs.Common.{list_all, ◌≡◌, ◌≤◌, IsTrue, List, ◌++◌, sym, ◌∙◌, subst, and_parts, list_all-append, Entry, rose_since, is_calm_entry, StackTold, StaysCalm, rose_before}

-- what stays calm in all is calm up to a moment, and from it on
pub calm_until : (old mid new : StackTold) (more : List Entry) → new.entries ≡ mid.entries ++ more → mid.faults ≤ new.faults → StaysCalm old new → StaysCalm old mid
calm_until old mid new more adds counted calm = record {
  no_fault = λ rose. calm.no_fault (rose_before old.faults mid.faults new.faults rose counted);
  entries = (and_parts (list_all is_calm_entry mid.entries) (list_all is_calm_entry more)
      (sym (list_all-append is_calm_entry mid.entries more) ∙ subst (λ (h : List Entry). IsTrue (list_all is_calm_entry h)) adds calm.entries)).0;
}

pub calm_from : (old mid new : StackTold) → old.faults ≤ mid.faults → StaysCalm old new → StaysCalm mid new
calm_from old mid new counted calm = record { no_fault = λ rose. calm.no_fault (rose_since old.faults mid.faults new.faults counted rose); entries = calm.entries }
