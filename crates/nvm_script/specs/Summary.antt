-- The summary of a history: how many entries of each kind it has, as six kinds of lines.
use Rattle.std.specs.Prelude.{ℕ, ◌==◌, Bool, true, false, List, ◌++◌, length, codes, unwrap_or}
use Rattle.std.specs.List.{count_by, fold, flat_map, range_with_len}
use Rattle.std.specs.Fmt.{decimal}
use Rattle.nv_base.specs.Result.{code_of}
use Rattle.nv_base.specs.declared.request.Reply.TheVariants.{Refused}
pub use Rattle.nv_base.specs.Entry.{ops_of}
use Rattle.nv_base.specs.declared.entry.Entry.{Entry}
use Rattle.nv_base.specs.declared.entry.Entry.TheVariants.{Ask, Post}

-- a request, whatever its reply
abbrev pub is_ask : Entry → Bool
is_ask (Ask caller request reply) = true
is_ask _ = false

-- a request that was refused
abbrev pub is_refused : Entry → Bool
is_refused (Ask caller request (Refused refusal)) = true
is_refused _ = false

-- the end of a job
abbrev pub is_post : Entry → Bool
is_post (Post block result_of given refused ops) = true
is_post _ = false

-- the end of a job with the result of this number
abbrev pub is_post_with : ℕ → Entry → Bool
is_post_with code (Post block result_of given refused ops) = code_of result_of == code
is_post_with code _ = false

-- the operations so far by the last entry that tells them, and 0 where none does
abbrev pub last_ops : List Entry → ℕ
last_ops h = fold (λ ops e. unwrap_or (ops_of e) ops) 0 h

-- how many jobs ended with the result of this number
abbrev pub result_line : ℕ → ℕ → List ℕ
result_line code count = codes "result " ++ (decimal code ++ (codes " " ++ (decimal count ++ codes "\n")))

-- the entries, the requests with those that were refused, and the ended jobs
abbrev pub head_lines : ℕ → ℕ → ℕ → ℕ → List ℕ
head_lines entries asks refused posts =
    codes "entries " ++ (decimal entries ++ (codes "\nasks " ++ (decimal asks ++ (codes " refused " ++ (decimal refused ++ (codes "\nposts " ++ (decimal posts ++ codes "\n")))))))

-- the summary of these entries: the head, the lines of the results 0 to 8, and the operations
abbrev pub summary : List Entry → List ℕ
summary h =
    head_lines (length h) (count_by is_ask h) (count_by is_refused h) (count_by is_post h)
    ++ (flat_map (λ code. result_line code (count_by (is_post_with code) h)) (range_with_len 0 9) ++ (codes "ops " ++ (decimal (last_ops h) ++ codes "\n")))
