-- What runs in which copies are refused come to.
use Rattle.std.specs.Prelude.{◌-◌}
use Rattle.std.proofs.Common.{ℕ, true, List, Option, Some, None, refl, ap, ◌∙◌, subst}
use Rattle.block_machine.specs.Words.{ReqResult, Taken}
use Rattle.script_walks.specs.Words.{Refuse}
use Rattle.promise_run.specs.Refusals.{copied_out, copied_in, IsAsAsked, left_by, asked_by}
use Rattle.promise_run.specs.RefusedCases.{WriteComes, LaterComes, RestoreComes, SecondComes, CallersGet}

-- how many copies of block 2 are to be refused
abbrev left : (block count : ℕ) → ℕ
left block count = asked_by 2 (Refuse block count) 0

pub write_comes : (block count : ℕ) (t : Taken) → IsAsAsked 2 (left block count) (copied_out true t) → WriteComes block count None t
write_comes block count t is =
    let behind = left_by 2 (left block count) (copied_out true t) in (behind, (left block count, refl, (left block count, (tt, refl), (behind, (is, refl), refl))))

pub write_tells : (block count : ℕ) (t : Taken) → WriteComes block count None t → IsAsAsked 2 (left block count) (copied_out true t)
write_tells block count t (b, (n, asked, (m, (none, same), (l, (is, more), end)))) = subst (λ (k : ℕ). IsAsAsked 2 k (copied_out true t)) (same ∙ asked) is

pub later_comes : (count : ℕ) (t : Taken) → IsAsAsked 2 (left 2 count) (copied_out true t) → LaterComes count t
later_comes count t is =
    let behind = left_by 2 (left 2 count) (copied_out true t) in (
      behind,
      (left 2 count, refl, (left 2 count, (tt, refl), (left 2 count, (tt, refl), (behind, (is, refl), refl)))),
    )

pub later_tells : (count : ℕ) (t : Taken) → LaterComes count t → IsAsAsked 2 (left 2 count) (copied_out true t)
later_tells count t (b, (n, asked, (m, (none, same), (k, (no_more, as_before), (l, (is, more), end))))) =
    subst (λ (i : ℕ). IsAsAsked 2 i (copied_out true t)) (as_before ∙ same ∙ asked) is

pub restore_comes : (count : ℕ) (r : ReqResult) (given : Option (List ℕ)) (refused : ℕ) → IsAsAsked 2 (left 2 count) (copied_in true given refused) → RestoreComes count true r given refused
restore_comes count r given refused is =
    let behind = left_by 2 (left 2 count) (copied_in true given refused) in (
      behind,
      (left 2 count, refl, (left 2 count, (tt, refl), (left 2 count, (tt, refl), (behind, (is, refl), refl)))),
    )

pub restore_tells : (count : ℕ) (r : ReqResult) (given : Option (List ℕ)) (refused : ℕ) → RestoreComes count true r given refused → IsAsAsked 2 (left 2 count) (copied_in true given refused)
restore_tells count r given refused (b, (n, asked, (m, (none, same), (k, (no_more, as_before), (l, (is, more), end))))) =
    subst (λ (i : ℕ). IsAsAsked 2 i (copied_in true given refused)) (as_before ∙ same ∙ asked) is

pub second_comes : (count : ℕ) (t : Taken) → IsAsAsked 2 (left 2 count) (Some 2) → IsAsAsked 2 (left 2 count - 2) (copied_out true t) → SecondComes count t
second_comes count t first is =
    let fewer = left 2 count - 2 in
    let behind = left_by 2 fewer (copied_out true t) in (
      behind,
      (left 2 count, refl, (left 2 count, (tt, refl), (left 2 count, (tt, refl), (fewer, (first, refl), (fewer, (tt, refl), (behind, (is, refl), refl)))))),
    )

pub second_tells : (count : ℕ) (t : Taken) → SecondComes count t → IsAsAsked 2 (left 2 count - 2) (copied_out true t)
second_tells count t (b, (n, asked, (m, (none, same), (k, (no_more, as_before), (i, (first, fewer), (j, (nor_here, still), (l, (is, more), end))))))) =
    subst (λ (x : ℕ). IsAsAsked 2 x (copied_out true t)) (still ∙ fewer ∙ ap (λ (x : ℕ). x - 2) (as_before ∙ same ∙ asked)) is

pub callers_tell : (t : Taken) → CallersGet t → IsAsAsked 2 0 (copied_out true t)
callers_tell t (found, (asked, (is, end))) = is
