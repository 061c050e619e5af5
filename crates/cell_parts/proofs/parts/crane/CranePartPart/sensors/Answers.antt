use Rattle.std.proofs.Common.{rules}
use Rattle.cell_parts.proofs.parts.crane.CranePartPart.sensors.Goals as goal

pub returns : goal.returns
returns c = record { deposit = search rules; feed = search rules; raw = search rules }
