use Rattle.std.proofs.Common.{◌≡◌, ◌<◌, ◌≤◌, ◌^◌, ℕ, Result, Ok, Err, MatchOption, arith}
use Rattle.std.proofs.lemmas.Str.Parse.{parse_digits}
use Rattle.std.specs.Result.{OkIff, result_ok}
use Rattle.nv_base.proofs.Numerals.{model, numeral_parts}
use Rattle.nv_base.proofs.decimal.parsed.Goals as goal

ok_part : {E : Type 0} (r : Result ℕ E) (some : Type 0) (v : ℕ) → some → OkIff r (some × (v < 2 ^ 32)) v → MatchOption (result_ok r) (2 ^ 32 ≤ v) (λ n. n ≡ v)
ok_part (Ok x) some v is h = h.1
ok_part (Err e) some v is h = let above : ¬ (v < 2 ^ 32) = λ below. h (is, below) in omega arith

pub returns : goal.returns
returns c =
    let text = numeral_parts c.args.text.now c.requires in
    rw c.ok.ensures.value (ok_part c.parse.result _ _ text.0 (parse_digits model 32 c.args.text.now _ c.parse.ensures.value.0 text.1))
