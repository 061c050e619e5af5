use Rattle.std.proofs.Common.{◌≡◌, ◌<◌, drop}
use Rattle.std.specs.Char.{is_ascii_digit}
use Rattle.std.specs.List.{list_all}
use Rattle.csv_rows.specs.Numbers.{read_on}
use Rattle.csv_rows.proofs.Digits.{power}
use Rattle.csv_rows.proofs.number.read_number.Given as goal

abbrev pub invariant-digits : goal.invariant-digits
invariant-digits l = record {
  digits : list_all is_ascii_digit (drop l.byte-index l.field) ≡ list_all is_ascii_digit l.field;
  value : read_on l.number (drop l.byte-index l.field) ≡ read_on 0 l.field;
  small : l.number < power l.byte-index;
}
