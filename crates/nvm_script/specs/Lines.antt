-- The lines of a history: one for each entry, and the last.
use Rattle.std.specs.Prelude.{ℕ, List, ◌++◌, length, codes}
use Rattle.std.specs.List.{flat_map}
use Rattle.std.specs.Fmt.{decimal}
use Rattle.nv_base.specs.Result.{code_of}
use Rattle.nv_base.specs.declared.instance.Instance.{Instance}
use Rattle.nv_base.specs.declared.mark.Mark.{Mark}
use Rattle.nv_base.specs.declared.entry.Entry.{Entry}
use Rattle.nv_base.specs.declared.entry.Entry.TheVariants.{Ask, Pick, Wrote, Post, Off, Found}
use Rattle.nvm_script.specs.Words.{mark_text, request_text, reply_text, job_text, taken_text, given_text, refused_text}

-- the number of changing operations so far, and the end of the line
abbrev pub ops_text : ℕ → List ℕ
ops_text ops = codes " ops " ++ (decimal ops ++ codes "\n")

-- an instance with its mark
abbrev pub instance_text : Instance → Mark → List ℕ
instance_text instance mark = decimal instance.block ++ (codes "." ++ (decimal instance.index ++ (codes " " ++ mark_text mark)))

abbrev pub found_text : Instance × Mark → List ℕ
found_text x = codes " " ++ instance_text x.0 x.1

-- the line of an entry, with its newline
abbrev pub entry_line : Entry → List ℕ
entry_line (Ask caller request reply) = codes "ask " ++ (decimal caller ++ (codes " " ++ (request_text request ++ (codes " -> " ++ (reply_text reply ++ codes "\n")))))
entry_line (Pick block job taken ops) = codes "pick " ++ (decimal block ++ (codes " " ++ (job_text job ++ (taken_text taken ++ ops_text ops))))
entry_line (Wrote instance mark ops) = codes "wrote " ++ (instance_text instance mark ++ ops_text ops)
entry_line (Post block result_of given refused ops) =
    codes "post " ++ (decimal block ++ (codes " " ++ (decimal (code_of result_of) ++ (given_text given ++ (refused_text refused ++ ops_text ops)))))
entry_line (Off ops) = codes "off" ++ ops_text ops
entry_line (Found marks ops) = codes "found " ++ (decimal (length marks) ++ (flat_map found_text marks ++ ops_text ops))

-- the last line, with the number of entries
abbrev pub end_line : ℕ → List ℕ
end_line count = codes "end " ++ (decimal count ++ codes "\n")
