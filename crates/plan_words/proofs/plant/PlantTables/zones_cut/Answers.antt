use Rattle.std.proofs.Common.{◌∙◌, sym, arith, ◌≤◌, length}
use Rattle.plan_words.specs.PlantCut.{cuts_at}
use Rattle.plan_words.proofs.CutLoops.{zones_step, zones_end}
use Rattle.plan_words.proofs.plant.PlantTables.zones_cut.Goals as goal

pub loop-zone-preserved : goal.loop-zone-preserved
loop-zone-preserved c = (
  zones_step c.args.self.now c.args.places.now c.loop-zone.zone c.loop-zone.next.exit c.loop-zone.next.entry c.next_after-then.result.exit c.next_after-then.result.entry
      c.loop-zone.rows.items c.push.new.self.items c.row_cut-made.result (omega arith) c.in_ok-push.ensures.items c.row_cut-made.ensures c.next_after-then.ensures.exit c.next_after-then.ensures.entry
      ∙ c.loop-zone.invariant.0,
  omega arith,
  omega arith,
)

pub returns : goal.returns
returns c =
    let all : length c.args.self.now.zones ≤ c.loop-zone.zone = omega arith in
    sym (zones_end (cuts_at c.args.self.now c.args.places.now) c.args.self.now.zones c.loop-zone.rows.items c.loop-zone.next.exit c.loop-zone.next.entry c.loop-zone.zone all) ∙ c.loop-zone.invariant.0
