-- The words of statuses.
use Rattle.std.specs.Prelude.{ℕ, List, codes}
use Rattle.cell_notes.specs.declared.status.Status.{Status}
use Rattle.cell_notes.specs.declared.status.Status.TheVariants.{Fine, Worn, Sensor, Refused, Memory, GateLimit}

abbrev pub status_word : Status → List ℕ
status_word Fine = codes "ok"
status_word Worn = codes "worn"
status_word Sensor = codes "sensor"
status_word Refused = codes "refused"
status_word Memory = codes "memory"
status_word GateLimit = codes "gatelimit"
