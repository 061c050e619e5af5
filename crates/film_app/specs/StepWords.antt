-- The words of statuses.
use Rattle.std.specs.Prelude.{ℕ, List, [], codes}
use Rattle.cell_notes.specs.declared.status.Status.{Status}
use Rattle.cell_notes.specs.declared.status.Status.TheVariants.{Fine, Worn, Sensor, Refused, Memory, GateLimit}

-- what follows the step of a machine that has stopped
abbrev pub stopped_text : Status → List ℕ
stopped_text Fine = []
stopped_text Worn = codes "!worn"
stopped_text Sensor = codes "!sensor"
stopped_text Refused = codes "!refused"
stopped_text Memory = codes "!memory"
stopped_text GateLimit = codes "!gatelimit"
