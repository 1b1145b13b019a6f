-- the parts of events among the changes, one operation further
use Rattle.std.proofs.Common.{◌≡◌, ℕ, zero, suc, ◌+◌, ◌-◌, List, [], ◌∷◌, ◌++◌, length, drop, Some, None, refl, sym, subst, arith, length-drop}
use Rattle.std.specs.Prelude.{Option, IfSome}
use Rattle.std.proofs.lemmas.List.{drop-append-le, drop_all}
use Rattle.nv_base.specs.declared.geometry.Geometry.{Geometry}
use Rattle.fls_model.specs.declared.flash.FlashAnswer.{FlashAnswer}
use Rattle.fls_model.specs.Call.{op_of}
use Rattle.fls_model.specs.Op.{Op, part_of}
use Rattle.fls_model.specs.Step.{IsChanged, Notes}
use Rattle.fls_model.specs.Told.{Change, ToldBytes, IfBothTold, changes_in}
use Rattle.fls_devices.specs.Journal.{Harmed, has_reached, HasPart, HaveParts, without_part}
use Rattle.fls_devices.specs.Overlay.{span}
use Rattle.fls_devices.proofs.Merging.{without_push, left}

part_push : (keep : ℕ) (op : Op) (cs : List Change) (c : Change) → HasPart keep op cs → HasPart keep op (cs ++ c ∷ [])
part_push zero op cs c has = tt
part_push (suc keep) op [] c has = absurd has
part_push (suc keep) op (x ∷ cs) c has = has

part_first : (keep : ℕ) (op : Op) (cs : List Change) (c : Change) → c.op ≡ part_of keep op → HasPart keep op (c ∷ cs)
part_first zero op cs c is = tt
part_first (suc keep) op cs c is = is

-- an operation behind the events
have_push : (g : Geometry) (es : List Harmed) (cs : List Change) (c : Change) (k : ℕ) → length cs ≡ span es + k → HaveParts g es cs → HaveParts g es (cs ++ c ∷ [])
have_push g [] cs c k fits have = tt
have_push g (e ∷ es) cs c k fits have =
    let d : length (drop e.since cs) ≡ length cs - e.since = length-drop e.since cs in
    let rest : without_part (has_reached e.keep) (drop e.since cs ++ c ∷ []) ≡ without_part (has_reached e.keep) (drop e.since cs) ++ c ∷ [] = without_push (has_reached e.keep) (drop e.since cs) c (omega arith) in
    rw (drop-append-le e.since cs (c ∷ []) (omega arith), rest)
    (part_push e.keep (op_of g e.call) (drop e.since cs) c have.0, have_push g es (without_part (has_reached e.keep) (drop e.since cs)) c k (left e cs (span es) k fits) have.1)

-- an event of which nothing reached the inner flash
have_withheld : (g : Geometry) (es : List Harmed) (cs : List Change) (e : Harmed) → e.keep ≡ 0 → HaveParts g es cs → HaveParts g (es ++ e ∷ []) cs
have_withheld g [] cs e not have = rw not (tt, tt)
have_withheld g (x ∷ es) cs e not have = (have.0, have_withheld g es (without_part (has_reached x.keep) (drop x.since cs)) e not have.1)

-- an event of which a part reached it
have_reached : (g : Geometry) (es : List Harmed) (cs : List Change) (e : Harmed) (c : Change) → length cs ≡ span es + e.since → c.op ≡ part_of e.keep (op_of g e.call)
    → HaveParts g es cs → HaveParts g (es ++ e ∷ []) (cs ++ c ∷ [])
have_reached g [] cs e c fits is have =
    let none : drop e.since cs ≡ [] = drop_all e.since cs (omega arith) in
    rw (drop-append-le e.since cs (c ∷ []) (omega arith), none) (part_first e.keep (op_of g e.call) [] c is, tt)
have_reached g (x ∷ es) cs e c fits is have =
    let d : length (drop x.since cs) ≡ length cs - x.since = length-drop x.since cs in
    let rest : without_part (has_reached x.keep) (drop x.since cs ++ c ∷ []) ≡ without_part (has_reached x.keep) (drop x.since cs) ++ c ∷ [] = without_push (has_reached x.keep) (drop x.since cs) c (omega arith) in
    rw (drop-append-le x.since cs (c ∷ []) (omega arith), rest)
    (part_push x.keep (op_of g x.call) (drop x.since cs) c have.0, have_reached g es (without_part (has_reached x.keep) (drop x.since cs)) e c (left x cs (span es) e.since fits) is have.1)

-- WHERE THE CHANGES ARE TOLD
pub parts_withheld : (g : Geometry) (es : List Harmed) (e : Harmed) (c : Option (List Change)) → e.keep ≡ 0 → IfSome c (HaveParts g es) → IfSome c (HaveParts g (es ++ e ∷ []))
parts_withheld g es e None not have = tt
parts_withheld g es e (Some cs) not have = have_withheld g es cs e not have

parts_pass : (g : Geometry) (es : List Harmed) (k : ℕ) (change : Change) (c c' : Option (List Change)) → Notes change c c' → IfSome c (λ cs. length cs ≡ span es + k) → IfSome c (HaveParts g es) → IfSome c' (HaveParts g es)
parts_pass g es k change c None notes fits have = tt
parts_pass g es k change None (Some cs') notes fits have = absurd notes
parts_pass g es k change (Some cs) (Some cs') notes fits have = subst (HaveParts g es) (sym notes) (have_push g es cs change k fits have)

parts_reached : (g : Geometry) (es : List Harmed) (e : Harmed) (change : Change) (c c' : Option (List Change)) → change.op ≡ part_of e.keep (op_of g e.call) → Notes change c c'
    → IfSome c (λ cs. length cs ≡ span es + e.since) → IfSome c (HaveParts g es) → IfSome c' (HaveParts g (es ++ e ∷ []))
parts_reached g es e change c None is notes fits have = tt
parts_reached g es e change None (Some cs') is notes fits have = absurd notes
parts_reached g es e change (Some cs) (Some cs') is notes fits have = subst (HaveParts g (es ++ e ∷ [])) (sym notes) (have_reached g es cs e change fits is have)

pub told_parts_pass : (g : Geometry) (op : Op) (a : FlashAnswer) (es : List Harmed) (k : ℕ) (b b' : Option ToldBytes) → IfBothTold b b' (IsChanged op a)
    → IfSome (changes_in b) (λ cs. length cs ≡ span es + k) → IfSome (changes_in b) (HaveParts g es) → IfSome (changes_in b') (HaveParts g es)
told_parts_pass g op a es k b None changed fits have = tt
told_parts_pass g op a es k None (Some y) changed fits have = absurd changed
told_parts_pass g op a es k (Some x) (Some y) changed fits have = parts_pass g es k (record { op = op; before = x.now; answer = a }) x.changes y.changes changed.changes fits have

pub told_parts_reached : (g : Geometry) (keep : ℕ) (op : Op) (a : FlashAnswer) (es : List Harmed) (e : Harmed) (b b' : Option ToldBytes) → op_of g e.call ≡ op → e.keep ≡ keep → IfBothTold b b' (IsChanged (part_of keep op) a)
    → IfSome (changes_in b) (λ cs. length cs ≡ span es + e.since) → IfSome (changes_in b) (HaveParts g es) → IfSome (changes_in b') (HaveParts g (es ++ e ∷ []))
told_parts_reached g keep op a es e b None is kept changed fits have = tt
told_parts_reached g keep op a es e None (Some y) is kept changed fits have = absurd changed
told_parts_reached g keep op a es e (Some x) (Some y) is kept changed fits have =
    parts_reached g es e (record { op = part_of keep op; before = x.now; answer = a }) x.changes y.changes (rw (is, kept) refl) changed.changes fits have
