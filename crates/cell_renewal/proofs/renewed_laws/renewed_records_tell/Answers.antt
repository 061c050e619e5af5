use Rattle.cell_renewal.proofs.RenewedRecording.{none_refused_through, none_worn}
use Rattle.cell_renewal.proofs.renewed_laws.renewed_records_tell.Goals as goal

pub returns-clause-none_refused : goal.returns-clause-none_refused
returns-clause-none_refused g c =
    none_refused_through _ _ _ _ _ _ _ _ _ _ _ _ _ _ _ _ _ _ _ g.D1.Devices.shows g.D1.Devices.sets g.D2.Devices.shows g.D2.Devices.sets g.D3.Devices.shows g.D3.Devices.sets g.D4.Devices.shows g.D4.Devices.sets g.D5.Devices.shows g.D5.Devices.sets
    g.D6.Devices.shows g.D6.Devices.sets g.H.Watching.watches g.S.RoundSink.takes (g.G.Gate.may_answer c.args._gate.now) c.args._workers.now

pub returns-clause-none_worn : goal.returns-clause-none_worn
returns-clause-none_worn g c =
    none_worn _ _ _ _ _ _ _ _ _ _ _ _ _ _ _ _ _ _ _ g.D1.Devices.shows g.D1.Devices.sets g.D2.Devices.shows g.D2.Devices.sets g.D3.Devices.shows g.D3.Devices.sets g.D4.Devices.shows g.D4.Devices.sets g.D5.Devices.shows g.D5.Devices.sets
    g.D6.Devices.shows g.D6.Devices.sets g.H.Watching.watches g.S.RoundSink.takes (g.G.Gate.may_answer c.args._gate.now) c.args._workers.now
