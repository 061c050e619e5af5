-- Values by machine.
use Rattle.std.proofs.Common.{◌≡◌, false, refl}
use Rattle.cell_rules.specs.Types.{Machine, Feed, Table, Robot, Press, Deposit, Crane, Watch, same_machine}
use Rattle.cell_notes.specs.Names.{at_machine, map_machines, with_machine}
use Rattle.cell_notes.specs.declared.by_machine.ByMachine.{ByMachine}
use Rattle.cell_notes.specs.ByMachine.{PutIsFound}

module _ {T : Type 0} (b : ByMachine T) where
  pub put_found : (m : Machine) (v : T) → at_machine (with_machine b m v) m ≡ v
  put_found Feed v = refl
  put_found _ v = refl

  pub put_others : (m n : Machine) (v : T) → same_machine m n ≡ false → at_machine (with_machine b m v) n ≡ at_machine b n
  put_others Feed Feed v e = cc
  put_others Table Table v e = cc
  put_others Robot Robot v e = cc
  put_others Press Press v e = cc
  put_others Deposit Deposit v e = cc
  put_others Crane Crane v e = cc
  put_others Watch Watch v e = cc
  put_others m n v e = refl

  pub put-is-found : PutIsFound b
  put-is-found = record { found = put_found; others_stay = put_others }
