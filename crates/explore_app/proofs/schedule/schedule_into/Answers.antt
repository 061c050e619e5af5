use Rattle.std.proofs.Common.{ap, sym, refl}
use Rattle.cell_config.specs.Configured.{shown}
use Rattle.explore_app.proofs.Played.{ends_asking, still_asking}
use Rattle.explore_app.proofs.schedule.schedule_into.Goals.{in-Some+then-is_about+in_ok-last+else-not-is_answered, in_default}
use Rattle.explore_app.proofs.schedule.schedule_into.Goals as goal

pub machines-preserved : goal.machines-preserved
machines-preserved c =
    let given = shown c.args.config.now in
    let walk = c.args.walk.now in
    let new = c.match-next.schedule.items in
    elim c.match-next.branch [
      | in-Some+then-is_about+in_ok-last+else-not-is_answered w ↦
          ends_asking given c.args.ending walk _ new c.match-next.end w.in_ok-last.last _ c.at-next.result.now w.in-Some.call (ap (λ v. v.items) w.schedule-is) w.end-is w.in_ok-last.ensures c.at-next.ensures w.in-Some.is (sym w.if-is_about.ensures)
          (w.if-not-is_answered.ensures refl)
      | in_default w ↦ still_asking given c.args.ending walk c.machines.schedule.items new c.machines.end c.match-next.end (ap (λ v. v.items) w.schedule-is) w.end-is c.machines.invariant
    ]
