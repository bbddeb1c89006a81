use Rattle.std.proofs.Common.{◌≡◌, ◌≤◌, length}
use Rattle.std.specs.List.{list_all, fold}
use Rattle.mail_values.specs.Ascii.{is_digit}
use Rattle.mailbox_view.specs.View.{with_digit, numeral_value}
use Rattle.mailbox_view.proofs.tags.has_value.Given as goal

abbrev pub invariant-loop-rest : goal.invariant-loop-rest
invariant-loop-rest l = record {
  digits : list_all is_digit l.rest ≡ list_all is_digit l.digits;
  value : fold with_digit l.value l.rest ≡ numeral_value l.digits;
  within : l.value ≤ l.number;
}

abbrev pub decreases-loop-rest : goal.decreases-loop-rest
decreases-loop-rest l = length l.rest
