-- Fields, and the numbers in them.
use Rattle.std.specs.Prelude.{◌≡◌, [], true, false, Some, None, codes}
use Rattle.csv_rows.specs.Numbers.{is_number, number_in, read_on}

pub record NumbersAreMet : Type 0 where
  pub one_digit : number_in (codes "9") ≡ Some 9
  pub nought : number_in (codes "0") ≡ Some 0
  pub two_digits : number_in (codes "10") ≡ Some 10
  pub three_digits : number_in (codes "504") ≡ Some 504
  pub five_digits : number_in (codes "65536") ≡ Some 65536
  pub six_digits : number_in (codes "987654") ≡ Some 987654
  pub seven_digits : number_in (codes "0000012") ≡ Some 12
  pub all_digits : number_in (codes "1234567") ≡ Some 1234567
  pub other_digits : number_in (codes "9080") ≡ Some 9080
  pub greatest : number_in (codes "9999999") ≡ Some 9999999
  pub no_digit : number_in [] ≡ None
  pub eight_digits : number_in (codes "00000012") ≡ None
  pub sign : number_in (codes "+5") ≡ None
  pub below_digits : number_in (codes "5/") ≡ None
  pub above_digits : number_in (codes "5:") ≡ None
  pub no_digit_before : number_in (codes "/5") ≡ None
  pub no_digit_within : number_in (codes "12:4567") ≡ None
  pub no_digit_last : number_in (codes "123456/") ≡ None
  pub blank_before : number_in (codes " 5") ≡ None
  pub nine_digits : number_in (codes "123456789") ≡ None
  pub read_on_further : read_on 12 (codes "034") ≡ 12034
  pub nothing_to_read : read_on 7 [] ≡ 7
  pub a_number : is_number (codes "0000000") ≡ true
  pub no_number : is_number (codes "00000000") ≡ false
