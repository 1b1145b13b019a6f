use Rattle.std.proofs.Common.{◌≡◌, drop, map, string_bytes}
use Rattle.nvm_words.specs.Words.{are_words}
use Rattle.nvm_words.proofs.words.are_words.Given as goal

-- all are words where those that are left are
abbrev pub invariant-loop-i : goal.invariant-loop-i
invariant-loop-i l = are_words (map string_bytes (drop l.i l.words)) ≡ are_words (map string_bytes l.words)
