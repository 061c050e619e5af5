use Rattle.std.proofs.Common.{rules}
use Rattle.cell_parts.proofs.parts.table.TablePartPart.sensors.Goals as goal

pub returns : goal.returns
returns c = record { bottom = search rules; top = search rules; raw = search rules }
