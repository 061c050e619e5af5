-- Runs of the cell: what each turn of a schedule leads to.
use Rattle.std.specs.Prelude.{◌≡◌, Bool, true, false, List, [], ◌∷◌, None, is_none, ⊤}
use Rattle.cell_rules.specs.Types.{Machine, same_machine}
use Rattle.cell_notes.specs.Names.{TurnCall}
use Rattle.cell_notes.specs.declared.schedule.Turn.{Turn}
use Rattle.cell_unit.specs.Names.{side_moved, Takes}
use Rattle.cell_parts.specs.Axes.{CellScales}
use Rattle.cell_plant.specs.Machines.{CellGauges, any_near, steps_by, rig_of}
use Rattle.cell_plant.specs.CellStates.{CellState}

-- a step of a run: whose turn it was, whether it was taken, and what was asked; the state once the actuators are set,
-- and the state once the part has moved
pub record Step : Type 0 where
  pub machine : Machine
  pub taken : Bool
  pub asked : TurnCall
  pub set : CellState
  pub moved : CellState

-- a turn of a machine, by what its gauges may give, changes its own side, and leaves the others
pub record TakesTurnBy (c : CellScales) (gives : CellGauges) (m : Machine) (busy : Bool) (w : CellState) (s : Step)
    : Type 0 where
  pub taken : s.taken ≡ true
  -- as its program says, by what its part shows and what the interlock answers
  pub takes : Takes (steps_by c gives m) (rig_of c m) busy w.interlock (w.side m) s.asked s.set.interlock (s.set.side m)
  pub others_set : (n : Machine) → same_machine m n ≡ false → s.set.side n ≡ w.side n
  pub moved : s.moved.side m ≡ side_moved (rig_of c m) (s.set.side m)
  pub others_moved : (n : Machine) → same_machine m n ≡ false → s.moved.side n ≡ s.set.side n
  pub interlock : s.moved.interlock ≡ s.set.interlock

-- a turn that isn't taken leaves everything as it is
pub record IsPassedOver (w : CellState) (s : Step) : Type 0 where
  pub not_taken : s.taken ≡ false
  pub asked : s.asked ≡ None
  pub set : s.set ≡ w
  pub moved : s.moved ≡ w

abbrev pub LeadsIfBy : Bool → CellScales → CellGauges → Machine → Bool → CellState → Step → Type 0
LeadsIfBy true c gives m busy w s = TakesTurnBy c gives m busy w s
LeadsIfBy false c gives m busy w s = IsPassedOver w s

-- a machine takes its turn unless it has stopped
abbrev pub goes_on : CellState → Machine → Bool
goes_on w m = is_none (w.side m).stopped

abbrev pub LeadsBy : CellScales → CellGauges → Machine → Bool → CellState → Step → Type 0
LeadsBy c gives m busy w s = LeadsIfBy (goes_on w m) c gives m busy w s

-- a run of a schedule from a state, by what the gauges may give: a step for each of its turns
abbrev pub IsRunBy : CellScales → CellGauges → CellState → List Turn → List Step → Type 0
IsRunBy c gives w [] [] = ⊤
IsRunBy c gives w (t ∷ ts) (s ∷ ss) = (s.machine ≡ t.machine)
    × (LeadsBy c gives t.machine t.busy w s × IsRunBy c gives s.moved ts ss)
IsRunBy c gives w [] (s ∷ ss) = ⊥
IsRunBy c gives w (t ∷ ts) [] = ⊥

-- likewise by gauges that may give any position near their lines
abbrev pub TakesTurn : CellScales → Machine → Bool → CellState → Step → Type 0
TakesTurn c = TakesTurnBy c (any_near c)

abbrev pub IsRun : CellScales → CellState → List Turn → List Step → Type 0
IsRun c = IsRunBy c (any_near c)

-- the state at the end of a run
abbrev pub end_of : CellState → List Step → CellState
end_of w [] = w
end_of w (s ∷ ss) = end_of s.moved ss
