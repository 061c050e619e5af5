-- The turn of a letter, by its machine.
use Rattle.cell_config.proofs.Names.{arith, ℕ, ◌≡◌, Bool, true, false, option_map, nat_tests, machine_of, turn, turn_of}
use Rattle.std.specs.Char.{is_ascii_uppercase}

pub turn_found : (busy : Bool) (letter : ℕ) → is_ascii_uppercase letter ≡ busy → option_map (turn busy) (machine_of busy letter) ≡ turn_of letter
turn_found false letter e = grind (arith, nat_tests)
turn_found true letter e = grind (arith, nat_tests)
