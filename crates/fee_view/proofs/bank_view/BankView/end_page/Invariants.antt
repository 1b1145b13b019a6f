use Rattle.std.proofs.Common.{◌≡◌, ◌≤◌, ◌-◌}
use Rattle.fee_image.specs.RecordList.{records_left, end_after, end_of}
use Rattle.fee_view.specs.View.{own_bank}
use Rattle.fee_view.proofs.bank_view.BankView.end_page.Given as goal

-- the records from here on end where all of them do
abbrev pub invariant-loop-seen : goal.invariant-loop-seen
invariant-loop-seen l =
    let b = own_bank l.self-inside.page l.self-inside.pages l.self-inside.head.format in
    record {
      ends : end_after b.page l.at (records_left b l.self-inside.bytes.now l.at) ≡ end_of b l.self-inside.bytes.now;
      low : 2 ≤ l.at;
      high : l.at ≤ b.pages;
    }

abbrev pub decreases-loop-seen : goal.decreases-loop-seen
decreases-loop-seen l = l.self-inside.pages - l.at
