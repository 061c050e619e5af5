use Rattle.cell_rules.proofs.Names.{◌≡◌, ◌==◌, drop, length, map, take, list_all, is_flag}
use Rattle.cell_rules.proofs.start_digits.read_places.Given as goal

abbrev pub invariant-digits : goal.invariant-digits
invariant-digits l = record {
  ten : length l.places ≡ 10;
  flags : list_all is_flag (drop l.place l.digits) ≡ list_all is_flag l.digits;
  read : take l.place l.places ≡ map (λ digit. digit == 49) (take l.place l.digits);
}
