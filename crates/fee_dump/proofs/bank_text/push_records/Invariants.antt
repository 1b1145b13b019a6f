use Rattle.std.proofs.Common.{◌≡◌, ◌++◌, string_bytes}
use Rattle.std.specs.List.{flat_map}
use Rattle.fee_image.specs.RecordList.{records_of}
use Rattle.fee_view.specs.Record.{records_in}
use Rattle.fee_view.specs.View.{bank_of}
use Rattle.fee_dump.specs.Dump.{record_line}
use Rattle.fee_dump.proofs.bank_text.push_records.Given as goal

-- the lines so far, and those of the records that are left, are the lines of all
abbrev pub invariant-loop-record : goal.invariant-loop-record
invariant-loop-record l = record {
  can_next : (goal.iterator-loop-record).can_next l.record-iterator;
  is_finite : (goal.iterator-loop-record).is_finite l.record-iterator;
  lines : string_bytes l.text ++ flat_map (record_line l.view.head.format) (records_in l.record-iterator) ≡ string_bytes l.initial.text ++ flat_map (record_line l.view.head.format) (records_of (bank_of l.view) l.view.bytes);
}
