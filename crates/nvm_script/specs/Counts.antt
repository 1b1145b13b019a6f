-- What is counted of a history.
use Rattle.std.specs.Prelude.{◌≡◌, ◌<◌, ◌^◌, ℕ, ◌+◌, List, length, slice_index, slice_set}
use Rattle.std.specs.List.{count_by}
use Rattle.nv_base.specs.Result.{code_of}
use Rattle.nv_base.specs.declared.request.Reply.TheVariants.{Refused}
use Rattle.nv_base.specs.declared.entry.Entry.{Entry}
use Rattle.nv_base.specs.declared.entry.Entry.TheVariants.{Ask, Pick, Wrote, Post, Off, Found}
use Rattle.nvm_script.specs.declared.counts.Counts.{Counts}
use Rattle.nvm_script.specs.Summary.{is_ask, is_refused, is_post, is_post_with, last_ops}

-- these are the counts of the entries
pub record AreCounts (h : List Entry) (c : Counts) : Type 0 where
  pub asks : c.asks ≡ count_by is_ask h
  pub refused : c.refused ≡ count_by is_refused h
  pub posts : c.posts ≡ count_by is_post h
  pub results : (code : ℕ) → code < 9 → slice_index c.results code ≡ count_by (is_post_with code) h
  pub ops : c.ops ≡ last_ops h
  pub size : length c.results ≡ 9

-- each count can rise by one
pub record HasRoom (c : Counts) : Type 0 where
  pub asks : c.asks + 1 < 2 ^ 32
  pub refused : c.refused + 1 < 2 ^ 32
  pub posts : c.posts + 1 < 2 ^ 32
  pub results : (code : ℕ) → code < 9 → slice_index c.results code + 1 < 2 ^ 32

-- the counts with one job more that ended
abbrev pub posted : Counts → ℕ → ℕ → Counts
posted c code ops = record c { posts = c.posts + 1; results = slice_set c.results code (slice_index c.results code + 1); ops = ops }

-- the counts with one entry more
abbrev pub one_more : Counts → Entry → Counts
one_more c (Ask caller request (Refused refusal)) = record c { asks = c.asks + 1; refused = c.refused + 1 }
one_more c (Ask caller request reply) = record c { asks = c.asks + 1 }
one_more c (Pick block job taken ops) = record c { ops = ops }
one_more c (Wrote instance mark ops) = record c { ops = ops }
one_more c (Post block result_of given refused ops) = posted c (code_of result_of) ops
one_more c (Off ops) = record c { ops = ops }
one_more c (Found marks ops) = record c { ops = ops }
