-- The lines of requests, put one behind the other.
use Rattle.std.proofs.Common.{◌≡◌, ◌≢◌, ◌≤◌, ◌<◌, ◌+◌, ◌-◌, ℕ, zero, suc, List, [], ◌∷◌, ◌++◌, length, get_or, map, take, drop, min, Option, Some, Result, Ok, Err, refl, sym, ap, ◌∙◌, subst, inl, inr, append_assoc, append-nil, arith, length-append}
use Rattle.std.specs.Prelude.{sum_by}
use Rattle.std.proofs.lemmas.List.Sums.{sum_by-cons}
use Rattle.std.proofs.lemmas.Bool.{cases_lt}
use Rattle.std.proofs.Math.Nat.{min-eq_left, min-eq_right}
use Rattle.std.proofs.lemmas.List.{take_all, length-drop, drop-drop, take-append-le, take-map}
use Rattle.std.proofs.Math.Seq.{drop-append_seam, take-append_seam, take-append-add}
use Rattle.nvm_lines.specs.nv_streams.Sink.{Written, Puts, PutsPart}
use Rattle.nvm_lines.proofs.nv_streams.Puts.{Puts-nil, Puts-trans, PutsPart-longer, PutsPart-behind}
use Rattle.nvm_flash.specs.block_config.Config.{Configuration}
use Rattle.nvm_flash.specs.nv_base.declared.entry.Entry.{Entry}
use Rattle.nvm_script.specs.Lines.{entry_line, end_line}
use Rattle.nvm_script.specs.Printed.{history_lines}
use Rattle.script_player.specs.uds_gateway.Answers.{uds}
use Rattle.script_player.specs.uds_gateway.Served.{AreServed}
use Rattle.script_player.specs.script_walks.Walk.{joined}
use Rattle.uds_script.specs.Lines.{uds_line}
use Rattle.nvm_lines.specs.declared.output.OutputFault.{OutputFault}
use Rattle.nvm_lines.specs.declared.output.OutputFault.TheVariants as output
use Rattle.nvm_lines.specs.declared.status.Status.{Status}
use Rattle.nvm_lines.specs.declared.status.Status.TheVariants as status
use Rattle.nvm_lines.specs.declared.stop.Stop.{Stop}
use Rattle.nvm_lines.specs.declared.stop.Stop.TheVariants as stop
use Rattle.nvm_lines.specs.Output.{BreaksOff, IsEndOf, Writes, fault_status}
use Rattle.nvm_lines.specs.Stop.{status_of, line_of, IsStop}
use Rattle.nvm_top.specs.Runs.{last_of, status_of_run}
use Rattle.script_player.specs.uds_gateway.declared.stop.ServeStop.{ServeStop}
use Rattle.nvm_top.specs.Uds.{answer_lines, served_lines, lines_by, BreaksOffIn, HasPieces, WritesLines, stopped_serving, status_served, line_served}
use Rattle.nvm_top.proofs.RunLines.{not_wanting}

-- SOME OF ALL LINES
-- these were put of all, and the others are left
pub record PutsSoFar (w w' : Written) (lines left : List (List ℕ)) : Type 0 where
  pub done : List (List ℕ)
  pub are : lines ≡ done ++ left
  pub put : Puts w w' done

pub none_put : (w : Written) (lines : List (List ℕ)) → PutsSoFar w w lines lines
none_put w lines = record { done = []; are = refl; put = Puts-nil w }

pub more_put : (w w1 w2 : Written) (lines next left : List (List ℕ)) → PutsSoFar w w1 lines (next ++ left) → Puts w1 w2 next → PutsSoFar w w2 lines left
more_put w w1 w2 lines next left before put = record {
  done = before.done ++ next;
  are = before.are ∙ sym (append_assoc before.done next left);
  put = Puts-trans w w1 w2 before.done next before.put put;
}

pub all_put : (w w' : Written) (lines : List (List ℕ)) → PutsSoFar w w' lines [] → Puts w w' lines
all_put w w' lines before = subst (λ (l : List (List ℕ)). Puts w w' l) (sym (before.are ∙ append-nil before.done)) before.put

-- they break off within the next ones
pub broken_put : (w w1 w2 : Written) (fault : OutputFault) (lines next left : List (List ℕ)) → PutsSoFar w w1 lines (next ++ left) → BreaksOffIn fault next w1 w2 → BreaksOffIn fault lines w w2
broken_put w w1 w2 output.Failed lines next left before part =
    subst (λ (l : List (List ℕ)). PutsPart w w2 l) (sym before.are) (PutsPart-behind w w1 w2 before.done (next ++ left) before.put (PutsPart-longer w1 w2 next left part))
broken_put w w1 w2 output.Memory lines next left before (n, put) = (
  length before.done + min n (length next),
  subst (λ (l : List (List ℕ)). Puts w w2 l) (sym some) (Puts-trans w w1 w2 before.done (take n next) before.put put),
)
  where
    short : take n next ≡ take (min n (length next)) next
    short = elim (cases_lt n (length next)) [
      | inl less ↦ let small : n ≤ length next = omega (arith, less) in ap (λ (k : ℕ). take k next) (sym (min-eq_left small))
      | inr more ↦ let all : min n (length next) ≡ length next = min-eq_right more in take_all n next more ∙ sym (ap (λ (k : ℕ). take k next) all ∙ take_all (length next) next (omega arith))
    ]

    some : take (length before.done + min n (length next)) lines ≡ before.done ++ take n next
    some =
        ap (take (length before.done + min n (length next))) before.are
        ∙ take-append-add before.done (next ++ left) (min n (length next))
        ∙ ap (λ (l : List (List ℕ)). before.done ++ l) (take-append-le (min n (length next)) next left (omega arith) ∙ sym short)

-- the lines of entries break off
pub entries_broken : (fault : OutputFault) (entries : List Entry) (w w' : Written) → BreaksOff fault entries w w' → BreaksOffIn fault (history_lines entries) w w'
entries_broken output.Failed entries w w' part = part
entries_broken output.Memory entries w w' (n, put) = (n, subst (λ (l : List (List ℕ)). Puts w w' l) (sym (take-map entry_line n entries)) put)

-- THE END
-- lines behind all of them
served_behind : (P : Status → List (List ℕ) → Type 0) (meant : Status) (lines : List (List ℕ)) (last : List ℕ) (w w1 w2 : Written) (x : Status) → ((y : Status) (l : List (List ℕ)) → P y l → (meant ≢ status.Memory) × (y ≡ meant) × (l ≡ last ∷ [])) → Puts w w1 lines → Writes P w1 w2 x
    → WritesLines meant lines last w w2 x
served_behind P meant lines last w w1 w2 status.Memory leads before is =
    (length lines, subst (λ (o : Written). Puts w o (take (length lines) lines)) (sym is) (subst (λ (l : List (List ℕ)). Puts w w1 l) (sym (take_all (length lines) lines (omega arith))) before))
served_behind P meant lines last w w1 w2 status.WriteFault leads before is =
    ((leads is.0 is.1 is.2).0, subst (λ (l : List (List ℕ)). PutsPart w w2 (lines ++ l)) (leads is.0 is.1 is.2).2 (PutsPart-behind w w1 w2 lines is.1 before is.3))
served_behind P meant lines last w w1 w2 x leads before is =
    ((leads x is.0 is.1).1, subst (λ (l : List (List ℕ)). Puts w w2 (lines ++ l)) (leads x is.0 is.1).2 (Puts-trans w w1 w2 lines is.0 before is.2))

-- by how they ended
pub served_stops : (run : Result (Unit {0}) Stop) (why : Stop) (entries : List Entry) (lines : List (List ℕ)) (w w1 w2 : Written) (x : Status) → run ≡ Err why → Puts w w1 lines → Writes (IsStop why) w1 w2 x
    → WritesLines (status_of_run run) lines (last_of run entries) w w2 x
served_stops run why entries lines w w1 w2 x is before writes =
    subst (λ (r : Result (Unit {0}) Stop). WritesLines (status_of_run r) lines (last_of r entries) w w2 x) (sym is)
    (served_behind (IsStop why) (status_of why) lines (line_of why) w w1 w2 x (λ y l at. (not_wanting why at.0, at.1, at.2)) before writes)

pub served_ends : (run : Result (Unit {0}) Stop) (done : Unit {0}) (entries : List Entry) (lines : List (List ℕ)) (w w1 w2 : Written) (x : Status) → run ≡ Ok done → Puts w w1 lines → Writes (IsEndOf entries) w1 w2 x
    → WritesLines (status_of_run run) lines (last_of run entries) w w2 x
served_ends run done entries lines w w1 w2 x is before writes =
    subst (λ (r : Result (Unit {0}) Stop). WritesLines (status_of_run r) lines (last_of r entries) w w2 x) (sym is)
    (served_behind (IsEndOf entries) status.Ok lines (end_line (length entries)) w w1 w2 x (λ y l at. (λ e. cc, at.0, at.1)) before writes)

served_wants_none : (run : Result (Unit {0}) Stop) → run ≢ Err stop.Memory → status_of_run run ≢ status.Memory
served_wants_none (Ok done) other e = cc
served_wants_none (Err s) other e = not_wanting s (λ is. other (ap (λ (y : Stop). Err y) is)) e

-- so by why no more requests were served
pub served_text : (end : Result (Unit {0}) ServeStop) (run : Result (Unit {0}) Stop) (entries : List Entry) (lines : List (List ℕ)) (w w' : Written) (x : Status) → run ≡ stopped_serving end → WritesLines (status_of_run run) lines (last_of run entries) w w' x
    → WritesLines (status_served end) lines (line_served end entries) w w' x
served_text (Ok done) run entries lines w w' x same is = subst (λ (r : Result (Unit {0}) Stop). WritesLines (status_of_run r) lines (last_of r entries) w w' x) same is
served_text (Err s) run entries lines w w' x same is = subst (λ (r : Result (Unit {0}) Stop). WritesLines (status_of_run r) lines (last_of r entries) w w' x) same is

-- the output broke off
broken_by : (meant : Status) (lines : List (List ℕ)) (last : List ℕ) (fault : OutputFault) (w w' : Written) → meant ≢ status.Memory → BreaksOffIn fault lines w w' → WritesLines meant lines last w w' (fault_status fault)
broken_by meant lines last output.Failed w w' other part = (other, PutsPart-longer w w' lines (last ∷ []) part)
broken_by meant lines last output.Memory w w' other part = part

pub served_broken : (run : Result (Unit {0}) Stop) (fault : OutputFault) (entries : List Entry) (lines : List (List ℕ)) (w w' : Written) (x : Status) → run ≢ Err stop.Memory → x ≡ fault_status fault → BreaksOffIn fault lines w w'
    → WritesLines (status_of_run run) lines (last_of run entries) w w' x
served_broken run fault entries lines w w' x other same is =
    subst (λ (y : Status). WritesLines (status_of_run run) lines (last_of run entries) w w' y) (sym same) (broken_by (status_of_run run) lines (last_of run entries) fault w w' (served_wants_none run other) is)

-- PIECES

-- the lines by the numbers of entries are those of the pieces
pub lines_of_pieces : (c : Configuration) (first left : List (List ℕ)) (pieces : List (List Entry)) (rest : List Entry) → AreServed c first pieces
    → lines_by c (first ++ left) (map (λ (p : List Entry). length p) pieces) (joined pieces ++ rest) ≡ served_lines c first pieces ++ history_lines rest
lines_of_pieces c [] [] [] rest served = refl
lines_of_pieces c [] (r ∷ left) [] rest served = refl
lines_of_pieces c [] left (p ∷ pieces) rest served = absurd served
lines_of_pieces c (r ∷ first) left [] rest served = absurd served
lines_of_pieces c (r ∷ first) left (p ∷ pieces) rest served =
    let parts = append_assoc p (joined pieces) rest in
    let one : take (length p) ((p ++ joined pieces) ++ rest) ≡ p = ap (take (length p)) parts ∙ take-append_seam p (joined pieces ++ rest) in
    let others : drop (length p) ((p ++ joined pieces) ++ rest) ≡ joined pieces ++ rest = ap (drop (length p)) parts ∙ drop-append_seam p (joined pieces ++ rest) in
    ap (λ (q : List Entry). history_lines q ++ (answer_lines (uds c r q) ++ lines_by c (first ++ left) (map (λ (x : List Entry). length x) pieces) (drop (length p) ((p ++ joined pieces) ++ rest)))) one
    ∙ ap (λ (es : List Entry). history_lines p ++ (answer_lines (uds c r p) ++ lines_by c (first ++ left) (map (λ (x : List Entry). length x) pieces) es)) others
    ∙ ap (λ (l : List (List ℕ)). history_lines p ++ (answer_lines (uds c r p) ++ l)) (lines_of_pieces c first left pieces rest served.1)
    ∙ sym (append_assoc (history_lines p) (answer_lines (uds c r p) ++ served_lines c first pieces) (history_lines rest) ∙ ap (λ (l : List (List ℕ)). history_lines p ++ l) (append_assoc (answer_lines (uds c r p)) (served_lines c first pieces) (history_lines rest)))

counted : (pieces : List (List Entry)) → sum_by (λ (n : ℕ). n) (map (λ (p : List Entry). length p) pieces) ≡ length (joined pieces)
counted [] = refl
counted (p ∷ pieces) =
    let more = counted pieces in
    let all = length-append p (joined pieces) in
    sum_by-cons (λ (n : ℕ). n) (length p) (map (λ (q : List Entry). length q) pieces) ∙ ap (λ (k : ℕ). length p + k) more ∙ sym all

as_many : (c : Configuration) (first : List (List ℕ)) (pieces : List (List Entry)) → AreServed c first pieces → length pieces ≡ length first
as_many c [] [] served = refl
as_many c [] (p ∷ pieces) served = absurd served
as_many c (r ∷ first) [] served = absurd served
as_many c (r ∷ first) (p ∷ pieces) served = ap suc (as_many c first pieces served.1)

count_all : (pieces : List (List Entry)) → length (map (λ (p : List Entry). length p) pieces) ≡ length pieces
count_all [] = refl
count_all (p ∷ pieces) = ap suc (count_all pieces)

pub has_pieces : (c : Configuration) (first left : List (List ℕ)) (pieces : List (List Entry)) (start : Entry) (rest : List Entry) → AreServed c first pieces → HasPieces (first ++ left) (map (λ (p : List Entry). length p) pieces) (start ∷ joined pieces ++ rest)
has_pieces c first left pieces start rest served = record {
  fewer = let a = as_many c first pieces served in let b = count_all pieces in let d = length-append first left in omega (arith, a, b, d);
  within = let a = counted pieces in let b = length-append (joined pieces) rest in omega (arith, a, b);
}

-- REQUEST AFTER REQUEST

drop_behind : {X : Type 0} (xs : List X) (i : ℕ) (x d : X) → i < length xs → x ≡ get_or xs i d → drop i xs ≡ x ∷ drop (suc i) xs
drop_behind [] i x d less is = absurd (omega (arith, less))
drop_behind (y ∷ ys) zero x d less is = ap (λ z. z ∷ ys) (sym is)
drop_behind (y ∷ ys) (suc i) x d less is = drop_behind ys i x d (omega (arith, less)) is

drop_get : {X : Type 0} (xs : List X) (i : ℕ) (x d : X) → i < length xs → x ≡ get_or xs i d → drop i xs ≡ x ∷ drop (i + 1) xs
drop_get xs i x d less is = let next : suc i ≡ i + 1 = omega arith in drop_behind xs i x d less is ∙ ap (λ k. x ∷ drop k xs) next

-- the lines of the next one, and of those behind it
pub next_lines : (c : Configuration) (rs : List (List ℕ)) (ns : List ℕ) (es : List Entry) (i from n : ℕ) (r : List ℕ) (dr : List ℕ) (dn : ℕ) → i < length rs → r ≡ get_or rs i dr → i < length ns → n ≡ get_or ns i dn
    → lines_by c (drop i rs) (drop i ns) (drop from es) ≡ (history_lines (take n (drop from es)) ++ answer_lines (uds c r (take n (drop from es)))) ++ lines_by c (drop (i + 1) rs) (drop (i + 1) ns) (drop (from + n) es)
next_lines c rs ns es i from n r dr dn less at fewer count =
    ap (λ (xs : List (List ℕ)). lines_by c xs (drop i ns) (drop from es)) (drop_get rs i r dr less at)
    ∙ ap (λ (ks : List ℕ). lines_by c (r ∷ drop (i + 1) rs) ks (drop from es)) (drop_get ns i n dn fewer count)
    ∙ ap (λ (xs : List Entry). history_lines (take n (drop from es)) ++ (answer_lines (uds c r (take n (drop from es))) ++ lines_by c (drop (i + 1) rs) (drop (i + 1) ns) xs)) (drop-drop n from es)
    ∙ sym (append_assoc (history_lines (take n (drop from es))) (answer_lines (uds c r (take n (drop from es)))) (lines_by c (drop (i + 1) rs) (drop (i + 1) ns) (drop (from + n) es)))

-- their counts
pub next_count : (ns : List ℕ) (i n dn : ℕ) → i < length ns → n ≡ get_or ns i dn → sum_by (λ (k : ℕ). k) (drop i ns) ≡ n + sum_by (λ (k : ℕ). k) (drop (i + 1) ns)
next_count ns i n dn fewer count = ap (λ (ks : List ℕ). sum_by (λ (k : ℕ). k) ks) (drop_get ns i n dn fewer count) ∙ sum_by-cons (λ (k : ℕ). k) n (drop (i + 1) ns)

-- one more is put
pub piece_put : (w w1 w2 : Written) (lines : List (List ℕ)) (c : Configuration) (rs : List (List ℕ)) (ns : List ℕ) (es : List Entry) (i from to n : ℕ) (r : List ℕ) (dr : List ℕ) (dn : ℕ) → i < length rs → r ≡ get_or rs i dr → i < length ns → n ≡ get_or ns i dn → to ≡ from + n
    → PutsSoFar w w1 lines (lines_by c (drop i rs) (drop i ns) (drop from es)) → Puts w1 w2 (history_lines (take (to - from) (drop from es)) ++ answer_lines (uds c r (take (to - from) (drop from es)))) → PutsSoFar w w2 lines (lines_by c (drop (i + 1) rs) (drop (i + 1) ns) (drop to es))
piece_put w w1 w2 lines c rs ns es i from to n r dr dn less at fewer count behind before put =
    let many : to - from ≡ n = omega (arith, behind) in
    subst (λ (k : ℕ). PutsSoFar w w2 lines (lines_by c (drop (i + 1) rs) (drop (i + 1) ns) (drop k es))) (sym behind)
    (more_put w w1 w2 lines (history_lines (take n (drop from es)) ++ answer_lines (uds c r (take n (drop from es)))) (lines_by c (drop (i + 1) rs) (drop (i + 1) ns) (drop (from + n) es))
    (subst (λ (l : List (List ℕ)). PutsSoFar w w1 lines l) (next_lines c rs ns es i from n r dr dn less at fewer count) before)
    (subst (λ (k : ℕ). Puts w1 w2 (history_lines (take k (drop from es)) ++ answer_lines (uds c r (take k (drop from es))))) many put))

-- or breaks off
pub piece_broken : (w w1 w2 : Written) (fault : OutputFault) (lines : List (List ℕ)) (c : Configuration) (rs : List (List ℕ)) (ns : List ℕ) (es : List Entry) (i from to n : ℕ) (r : List ℕ) (dr : List ℕ) (dn : ℕ) → i < length rs → r ≡ get_or rs i dr → i < length ns → n ≡ get_or ns i dn → to ≡ from + n
    → PutsSoFar w w1 lines (lines_by c (drop i rs) (drop i ns) (drop from es)) → BreaksOffIn fault (history_lines (take (to - from) (drop from es)) ++ answer_lines (uds c r (take (to - from) (drop from es)))) w1 w2 → BreaksOffIn fault lines w w2
piece_broken w w1 w2 fault lines c rs ns es i from to n r dr dn less at fewer count behind before part =
    let many : to - from ≡ n = omega (arith, behind) in
    broken_put w w1 w2 fault lines (history_lines (take n (drop from es)) ++ answer_lines (uds c r (take n (drop from es)))) (lines_by c (drop (i + 1) rs) (drop (i + 1) ns) (drop (from + n) es))
    (subst (λ (l : List (List ℕ)). PutsSoFar w w1 lines l) (next_lines c rs ns es i from n r dr dn less at fewer count) before)
    (subst (λ (k : ℕ). BreaksOffIn fault (history_lines (take k (drop from es)) ++ answer_lines (uds c r (take k (drop from es)))) w1 w2) many part)

-- behind the last one
lines_rest : (c : Configuration) (rs : List (List ℕ)) (ns : List ℕ) (es : List Entry) → ns ≡ [] → lines_by c rs ns es ≡ history_lines es
lines_rest c [] ns es none = refl
lines_rest c (r ∷ rs) [] es none = refl
lines_rest c (r ∷ rs) (n ∷ ns) es none = absurd (cc none)

drop_none : (ns : List ℕ) (i : ℕ) → length ns ≤ i → drop i ns ≡ []
drop_none [] zero past = refl
drop_none [] (suc i) past = refl
drop_none (n ∷ ns) zero past = absurd (omega (arith, past))
drop_none (n ∷ ns) (suc i) past = drop_none ns i (omega (arith, past))

rest_is : (c : Configuration) (rs : List (List ℕ)) (ns : List ℕ) (es : List Entry) (i from : ℕ) → length ns ≤ i → lines_by c (drop i rs) (drop i ns) (drop from es) ≡ history_lines (take (length es - from) (drop from es)) ++ []
rest_is c rs ns es i from past =
    lines_rest c (drop i rs) (drop i ns) (drop from es) (drop_none ns i past)
    ∙ ap history_lines (sym (take_all (length es - from) (drop from es) (let left = length-drop from es in omega (arith, left))))
    ∙ sym (append-nil (history_lines (take (length es - from) (drop from es))))

pub rest_put : (w w1 w2 : Written) (lines : List (List ℕ)) (c : Configuration) (rs : List (List ℕ)) (ns : List ℕ) (es : List Entry) (i from : ℕ) → length ns ≤ i → PutsSoFar w w1 lines (lines_by c (drop i rs) (drop i ns) (drop from es))
    → Puts w1 w2 (history_lines (take (length es - from) (drop from es))) → Puts w w2 lines
rest_put w w1 w2 lines c rs ns es i from past before put =
    all_put w w2 lines (more_put w w1 w2 lines (history_lines (take (length es - from) (drop from es))) [] (subst (λ (l : List (List ℕ)). PutsSoFar w w1 lines l) (rest_is c rs ns es i from past) before) put)

pub rest_broken : (w w1 w2 : Written) (fault : OutputFault) (lines : List (List ℕ)) (c : Configuration) (rs : List (List ℕ)) (ns : List ℕ) (es : List Entry) (i from : ℕ) → length ns ≤ i → PutsSoFar w w1 lines (lines_by c (drop i rs) (drop i ns) (drop from es))
    → BreaksOff fault (take (length es - from) (drop from es)) w1 w2 → BreaksOffIn fault lines w w2
rest_broken w w1 w2 fault lines c rs ns es i from past before part =
    broken_put w w1 w2 fault lines (history_lines (take (length es - from) (drop from es))) [] (subst (λ (l : List (List ℕ)). PutsSoFar w w1 lines l) (rest_is c rs ns es i from past) before)
    (entries_broken fault (take (length es - from) (drop from es)) w1 w2 part)

-- ONE REQUEST
-- the entries' lines break off
pub entries_first : (fault : OutputFault) (entries : List Entry) (others : List (List ℕ)) (w w' : Written) → BreaksOff fault entries w w' → BreaksOffIn fault (history_lines entries ++ others) w w'
entries_first fault entries others w w' part = broken_put w w w' fault (history_lines entries ++ others) (history_lines entries) others (none_put w (history_lines entries ++ others)) (entries_broken fault entries w w' part)

-- its answer's line is put behind them
pub answer_put : (w w1 w2 : Written) (entries : List Entry) (o : Option (List ℕ)) (answer : List ℕ) → Some answer ≡ o → Puts w w1 (history_lines entries) → Puts w1 w2 (uds_line answer ∷ []) → Puts w w2 (history_lines entries ++ answer_lines o)
answer_put w w1 w2 entries o answer is before put = subst (λ (p : Option (List ℕ)). Puts w w2 (history_lines entries ++ answer_lines p)) is (Puts-trans w w1 w2 (history_lines entries) (uds_line answer ∷ []) before put)

pub answer_broken : (w w1 w2 : Written) (fault : OutputFault) (entries : List Entry) (o : Option (List ℕ)) (answer : List ℕ) → Some answer ≡ o → Puts w w1 (history_lines entries) → BreaksOffIn fault (uds_line answer ∷ []) w1 w2 → BreaksOffIn fault (history_lines entries ++ answer_lines o) w w2
answer_broken w w1 w2 fault entries o answer is before part =
    subst (λ (p : Option (List ℕ)). BreaksOffIn fault (history_lines entries ++ answer_lines p) w w2) is
    (broken_put w w1 w2 fault (history_lines entries ++ uds_line answer ∷ []) (uds_line answer ∷ []) []
    (more_put w w w1 (history_lines entries ++ uds_line answer ∷ []) (history_lines entries) (uds_line answer ∷ []) (none_put w (history_lines entries ++ uds_line answer ∷ [])) before) part)

-- or no memory for it
pub answer_wanting : (w w1 : Written) (entries : List Entry) (others : List (List ℕ)) → Puts w w1 (history_lines entries) → BreaksOffIn output.Memory (history_lines entries ++ others) w w1
answer_wanting w w1 entries others before = (length (history_lines entries), subst (λ (l : List (List ℕ)). Puts w w1 l) (sym (take-append_seam (history_lines entries) others)) before)
