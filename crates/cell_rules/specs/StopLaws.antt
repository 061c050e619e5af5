-- What may still be done while the cell is stopped.
use Rattle.std.specs.Prelude.{◌≡◌, false, IsTrue}
use Rattle.cell_rules.specs.Types.{Machine, Call, Stopped, Refused}
use Rattle.cell_rules.specs.ModelState.{ModelState}
use Rattle.cell_rules.specs.Sound.{IsSound}
use Rattle.cell_rules.specs.Reply.{reply}
use Rattle.cell_rules.specs.FirstVersion.{has_call}
use Rattle.cell_rules.specs.Laws.{is_barred}

-- the same state with the cell running
abbrev pub running : ModelState → ModelState
running s = record s { stopped = false }

-- a call that isn't barred is answered as if the cell were running, and so never for being stopped: a standing pose, a
-- take, a release, a yield and a halt at the belt's end, so that what moves comes to its rest
pub record IsAnsweredAsRunning (s : ModelState) (m : Machine) (c : Call) : Type 0 where
  pub same : reply s m c ≡ reply (running s) m c
  pub never_stopped : ¬ (reply s m c ≡ Refused Stopped)

abbrev pub WhatMovesMayStop : Type 0
WhatMovesMayStop =
    (s : ModelState) (m : Machine) (c : Call) → IsSound s → IsTrue (has_call c) → is_barred c ≡ false
    → IsAnsweredAsRunning s m c
