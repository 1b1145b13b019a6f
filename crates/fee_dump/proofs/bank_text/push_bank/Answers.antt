use Rattle.std.proofs.Common.{◌≡◌, ◌++◌, string_bytes}
use Rattle.fee_image.specs.Image.{layout_of, head_of_bank}
use Rattle.fee_dump.specs.Dump.{head_line, tail_line}
use Rattle.fee_dump.proofs.BankLines.{bank_lines}
use Rattle.fee_dump.proofs.Slices.{same_test}
use Rattle.fee_dump.proofs.bank_text.push_bank.Goals as goal

pub returns : goal.returns
returns c =
    let v = c.in-Some.view in
    let shows = c.in-Some.ensures.shows in
    let first : string_bytes c.push_str-2.new.self ≡ string_bytes c.args.text.now ++ head_line c.args.bank v.head =
    cc (c.in_ok-push_str-2.ensures.bytes, c.as_str-2.ensures.value, c.in_ok-line-2.ensures, c.head.ensures.head) in
    let last : string_bytes c.push_str-3.new.self ≡ string_bytes c.push_records.new.text ++ tail_line c.tail_blank.result = cc (c.in_ok-push_str-3.ensures.bytes, c.tail_line.ensures) in
    bank_lines (layout_of c.args.geometry c.args.banks) c.args.image.now c.args.bank (head_of_bank (layout_of c.args.geometry c.args.banks) c.args.image.now c.args.bank) v.head _ c.tail_blank.result (string_bytes c.args.text.now) (string_bytes c.push_str-2.new.self) (string_bytes c.push_records.new.text) (string_bytes c.push_str-3.new.self) c.in-Some.ensures.head shows.records (same_test _ _ c.tail_blank.ensures shows.tail) first c.in_ok-push_records.ensures last
