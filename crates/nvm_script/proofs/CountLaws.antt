-- Counts keep up with the entries.
use Rattle.std.proofs.Common.{◌≡◌, ◌≢◌, ◌<◌, ◌^◌, ◌+◌, ◌==◌, ℕ, Bool, true, false, cond, List, [], ◌∷◌, ◌++◌, length, get_or, slice_set, refl, sym, ap, ◌∙◌, arith}
use Rattle.std.proofs.lemmas.Bool.{eqb-true, eq-eqb}
use Rattle.std.proofs.lemmas.List.{get_or-set_same, get_or-set_other, length-set}
use Rattle.std.proofs.lemmas.List.Sums.{sum_by_push, fold_push, count_by-le-length}
use Rattle.std.specs.List.{count_by}
use Rattle.std.specs.Option.{unwrap_or}
use Rattle.nv_base.specs.Result.{code_of}
use Rattle.nv_base.specs.declared.request.Reply.TheVariants.{Refused}
use Rattle.nv_base.specs.declared.result.ReqResult.{ReqResult}
use Rattle.nv_base.specs.declared.result.ReqResult.TheVariants as outcome
use Rattle.nv_base.specs.declared.entry.Entry.{Entry}
use Rattle.nv_base.specs.declared.entry.Entry.TheVariants.{Ask, Post}
use Rattle.nvm_script.specs.declared.counts.Counts.{Counts}
use Rattle.nvm_script.specs.Counts.{AreCounts, HasRoom, one_more}
use Rattle.nvm_script.specs.Summary.{is_ask, is_refused, is_post, is_post_with, ops_of, last_ops}

pub code_small : (r : ReqResult) → code_of r < 9
code_small outcome.Fine = omega arith
code_small _ = omega arith

pub HasRoom-counts : (h : List Entry) (c : Counts) → AreCounts h c → length h + 1 < 2 ^ 32 → HasRoom c
HasRoom-counts h c are short = record {
  asks = omega (arith, are.asks, count_by-le-length is_ask h);
  refused = omega (arith, are.refused, count_by-le-length is_refused h);
  posts = omega (arith, are.posts, count_by-le-length is_post h);
  results = λ code within. omega (arith, are.results code within, count_by-le-length (is_post_with code) h);
}

-- a count with one entry more
count_more : (p : Entry → Bool) (h : List Entry) (e : Entry) → count_by p (h ++ e ∷ []) ≡ count_by p h + cond (p e) 1 0
count_more p h e = sum_by_push (λ x. cond (p x) 1 0) h e

ops_more : (h : List Entry) (e : Entry) → last_ops (h ++ e ∷ []) ≡ unwrap_or (ops_of e) (last_ops h)
ops_more h e = fold_push (λ ops e. unwrap_or (ops_of e) ops) 0 h e

-- what an entry adds to each count
record IsOneMore (c : Counts) (e : Entry) (d : Counts) : Type 0 where
  asks : d.asks ≡ c.asks + cond (is_ask e) 1 0
  refused : d.refused ≡ c.refused + cond (is_refused e) 1 0
  posts : d.posts ≡ c.posts + cond (is_post e) 1 0
  results : (code : ℕ) → code < 9 → get_or d.results code 0 ≡ get_or c.results code 0 + cond (is_post_with code e) 1 0
  ops : d.ops ≡ unwrap_or (ops_of e) c.ops
  size : length d.results ≡ length c.results

AreCounts-more : (h : List Entry) (e : Entry) (c d : Counts) → AreCounts h c → IsOneMore c e d → AreCounts (h ++ e ∷ []) d
AreCounts-more h e c d are more = record {
  asks = more.asks ∙ ap (λ n. n + cond (is_ask e) 1 0) are.asks ∙ sym (count_more is_ask h e);
  refused = more.refused ∙ ap (λ n. n + cond (is_refused e) 1 0) are.refused ∙ sym (count_more is_refused h e);
  posts = more.posts ∙ ap (λ n. n + cond (is_post e) 1 0) are.posts ∙ sym (count_more is_post h e);
  results = λ code within. more.results code within ∙ ap (λ n. n + cond (is_post_with code e) 1 0) (are.results code within) ∙ sym (count_more (is_post_with code) h e);
  ops = more.ops ∙ ap (λ n. unwrap_or (ops_of e) n) are.ops ∙ sym (ops_more h e);
  size = more.size ∙ are.size;
}

set_where : (results : List ℕ) (at code : ℕ) (b : Bool) → (at == code) ≡ b → at < length results → get_or (slice_set results at (get_or results at 0 + 1)) code 0 ≡ get_or results code 0 + cond b 1 0
set_where results at code true same within =
    let e : code ≡ at = sym (eqb-true at code same) in
    rw (e, get_or-set_same results at (get_or results at 0 + 1) 0 within) refl
set_where results at code false other within =
    let differ : code ≢ at = λ e. let same : (at == code) ≡ true = eq-eqb at code (sym e) in cc in
    get_or-set_other results at code (get_or results at 0 + 1) 0 differ ∙ omega arith

is_one_more : (c : Counts) (e : Entry) → length c.results ≡ 9 → IsOneMore c e (one_more c e)
is_one_more c (Ask caller request (Refused refusal)) size = record { asks = refl; refused = refl; posts = omega arith; results = λ code within. omega arith; ops = refl; size = refl }
is_one_more c (Ask caller request reply) size = record { asks = refl; refused = omega arith; posts = omega arith; results = λ code within. omega arith; ops = refl; size = refl }
is_one_more c (Post block r given refused ops) size = record {
  asks = omega arith;
  refused = omega arith;
  posts = refl;
  results = λ code within. let small = code_small r in set_where c.results (code_of r) code (code_of r == code) refl (omega (arith, size));
  ops = refl;
  size = length-set c.results (code_of r) (get_or c.results (code_of r) 0 + 1);
}
is_one_more c _ size = record { asks = omega arith; refused = omega arith; posts = omega arith; results = λ code within. omega arith; ops = refl; size = refl }

-- counts keep up with one entry more
pub AreCounts-one_more : (h : List Entry) (e : Entry) (c : Counts) → AreCounts h c → AreCounts (h ++ e ∷ []) (one_more c e)
AreCounts-one_more h e c are = AreCounts-more h e c (one_more c e) are (is_one_more c e are.size)
