-- A value for each machine, as literal rows; and the room of counts.
use Rattle.std.specs.Prelude.{◌≡◌, ℕ, ◌+◌, ◌<◌, true, false, [], ◌∷◌, map}
use Rattle.cell_rules.specs.Types.{Machine, Robot, all_machines, same_machine}
use Rattle.cell_notes.specs.declared.by_machine.ByMachine.{ByMachine}
use Rattle.cell_notes.specs.declared.counts.Counts.{Counts}
use Rattle.cell_notes.specs.ByMachine.{HoldsOfEach, IsMadeOf, at_machine, each_machine, in_order, map_machines}
use Rattle.cell_notes.specs.ByMachine.{values_of, with_machine}
use Rattle.cell_notes.specs.Notes.{AreBelow, HasRoom}

abbrev pub numbered : ByMachine ℕ
numbered = record { feed = 1; table = 2; robot = 3; press = 4; deposit = 5; crane = 6; watch = 7 }

abbrev pub none : ℕ
none = 0

abbrev pub eights : ByMachine ℕ
eights = each_machine 8

-- one for a machine, and nothing for the others
abbrev pub one_at : Machine → ByMachine ℕ
one_at m = with_machine (each_machine 0) m 1

abbrev pub ten_more : ℕ → ℕ
ten_more n = n + 10

abbrev pub counted : ℕ → ℕ → ℕ → ℕ → ℕ → Counts
counted turns done read refused busy =
    record { turns = turns; done = done; read = read; refused = refused; busy = busy }

pub record ValueRows : Type 0 where
  pub order : in_order numbered ≡ 1 ∷ 2 ∷ 3 ∷ 4 ∷ 5 ∷ 6 ∷ 7 ∷ []
  pub at : map (at_machine numbered) all_machines ≡ 1 ∷ 2 ∷ 3 ∷ 4 ∷ 5 ∷ 6 ∷ 7 ∷ []
  pub put : map (λ m. in_order (with_machine numbered m none)) all_machines
      ≡ (0 ∷ 2 ∷ 3 ∷ 4 ∷ 5 ∷ 6 ∷ 7 ∷ [])
      ∷ (1 ∷ 0 ∷ 3 ∷ 4 ∷ 5 ∷ 6 ∷ 7 ∷ [])
      ∷ (1 ∷ 2 ∷ 0 ∷ 4 ∷ 5 ∷ 6 ∷ 7 ∷ [])
      ∷ (1 ∷ 2 ∷ 3 ∷ 0 ∷ 5 ∷ 6 ∷ 7 ∷ [])
      ∷ (1 ∷ 2 ∷ 3 ∷ 4 ∷ 0 ∷ 6 ∷ 7 ∷ [])
      ∷ (1 ∷ 2 ∷ 3 ∷ 4 ∷ 5 ∷ 0 ∷ 7 ∷ [])
      ∷ (1 ∷ 2 ∷ 3 ∷ 4 ∷ 5 ∷ 6 ∷ 0 ∷ [])
      ∷ []
  pub given : in_order (values_of (same_machine Robot)) ≡ false ∷ false ∷ true ∷ false ∷ false ∷ false ∷ false ∷ []
  pub each : in_order eights ≡ 8 ∷ 8 ∷ 8 ∷ 8 ∷ 8 ∷ 8 ∷ 8 ∷ []
  pub mapped : in_order (map_machines ten_more numbered) ≡ 11 ∷ 12 ∷ 13 ∷ 14 ∷ 15 ∷ 16 ∷ 17 ∷ []
  pub small : HoldsOfEach (λ (n : ℕ). n < 8) numbered
  pub one_is_not : (m : Machine) → ¬ HoldsOfEach (λ (n : ℕ). n ≡ 0) (one_at m)
  pub made : IsMadeOf (λ (a b : ℕ). b ≡ ten_more a) numbered (map_machines ten_more numbered)
  pub one_is_made_otherwise : (m : Machine)
      → ¬ IsMadeOf (λ (a b : ℕ). b ≡ ten_more a) numbered (with_machine (map_machines ten_more numbered) m none)
  pub below : AreBelow 6 (counted 1 2 3 4 5)
  pub turns : ¬ AreBelow 6 (counted 6 2 3 4 5)
  pub done : ¬ AreBelow 6 (counted 1 6 3 4 5)
  pub read : ¬ AreBelow 6 (counted 1 2 6 4 5)
  pub refused : ¬ AreBelow 6 (counted 1 2 3 6 5)
  pub busy : ¬ AreBelow 6 (counted 1 2 3 4 6)
  pub room : HasRoom (counted 18446744073709551614 0 18446744073709551614 1 2)
  pub no_room : ¬ HasRoom (counted 0 0 0 0 18446744073709551615)
