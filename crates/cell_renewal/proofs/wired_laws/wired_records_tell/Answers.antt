use Rattle.cell_renewal.specs.WiredRecords.{wired_gauges, wired_scales}
use Rattle.cell_renewal.proofs.WiredRecording.{none-recorded, wired-tell}
use Rattle.cell_renewal.proofs.WiredTold.{turns-told}
use Rattle.cell_renewal.proofs.wired_laws.wired_records_tell.Goals as goal

pub returns-clause-tell : goal.returns-clause-tell
returns-clause-tell g c =
    wired-tell g.D1.Devices.shows g.D1.Devices.sets g.D2.Devices.shows g.D2.Devices.sets g.D3.Devices.shows g.D3.Devices.sets g.D4.Devices.shows g.D4.Devices.sets g.D5.Devices.shows g.D5.Devices.sets g.D6.Devices.shows g.D6.Devices.sets
    c.args._workers.now (g.G.Gate.may_answer c.args._gate.now)

pub returns-clause-told : goal.returns-clause-told
returns-clause-told g c =
    turns-told (wired_scales c.args._workers.now) (wired_gauges c.args._workers.now) g.D1.Devices.shows g.D1.Devices.sets g.D2.Devices.shows g.D2.Devices.sets g.D3.Devices.shows g.D3.Devices.sets
    g.D4.Devices.shows g.D4.Devices.sets g.D5.Devices.shows g.D5.Devices.sets g.D6.Devices.shows g.D6.Devices.sets (g.G.Gate.may_answer c.args._gate.now)

pub returns-clause-none_refused : goal.returns-clause-none_refused
returns-clause-none_refused g c =
    none-recorded (wired_scales c.args._workers.now) (wired_gauges c.args._workers.now) g.D1.Devices.shows g.D1.Devices.sets g.D2.Devices.shows g.D2.Devices.sets g.D3.Devices.shows g.D3.Devices.sets
    g.D4.Devices.shows g.D4.Devices.sets g.D5.Devices.shows g.D5.Devices.sets g.D6.Devices.shows g.D6.Devices.sets (g.G.Gate.may_answer c.args._gate.now)
