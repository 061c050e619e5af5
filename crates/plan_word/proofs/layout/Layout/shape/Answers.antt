use Rattle.std.proofs.Common.{◌≤◌, false, sym, ap, ◌∙◌, arith}
use Rattle.plan_types.specs.Table.{no_shape}
use Rattle.plan_word.specs.Kept.{shape_in}
use Rattle.plan_word.proofs.Laying.{row_there, shape_kept}
use Rattle.plan_word.proofs.layout.Layout.shape.Goals as goal

pub returns-then-zone-lt-MAX_ZONES : goal.returns-then-zone-lt-MAX_ZONES
returns-then-zone-lt-MAX_ZONES c =
    row_there c.self.inside.shapes c.from-zone.result (record { guests = 0; flag = false; moves = false; opens_in = false; opens_out = false }) no_shape
    (omega (arith, c.self.invariant.ten, c.if-zone-lt-MAX_ZONES.true, c.from-zone.ensures))
    ∙ ap (shape_in c.self.inside.shapes) c.from-zone.ensures
    ∙ shape_kept c.self.inside c.args.self.now c.args.zone c.self.invariant c.self.view_is

pub returns-else-zone-lt-MAX_ZONES : goal.returns-else-zone-lt-MAX_ZONES
returns-else-zone-lt-MAX_ZONES c =
    let past : c.self.inside.zones ≤ c.args.zone = omega (arith, c.self.invariant.few, c.if-zone-lt-MAX_ZONES.false, c.from-zone.ensures) in
    sym (c.self.invariant.blank c.args.zone past)
    ∙ shape_kept c.self.inside c.args.self.now c.args.zone c.self.invariant c.self.view_is
