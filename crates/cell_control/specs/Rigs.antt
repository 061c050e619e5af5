-- How a part of a machine behaves.
use Rattle.cell_types.specs.declared.answer.Event.{Event}

-- State: what is known of the part; Sense: what its sensors show; Act: the commands to its actuators
pub record Rig (State Sense Act : Type 0) : Type 1 where
  -- what the sensors may show
  pub shows : State → Sense → Type 0
  -- the part after an event
  pub notes : State → Event → State
  -- the part after its actuators are set, and after a tick
  pub set : State → Act → State
  pub moves : State → State
