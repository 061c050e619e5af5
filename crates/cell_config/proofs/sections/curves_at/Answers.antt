use Rattle.std.proofs.Common.{refl}
use Rattle.cell_config.proofs.sections.curves_at.Goals as goal

pub returns-clause-value : goal.returns-clause-value
returns-clause-value c =
    rw (c.in_ok-arm1.ensures.value, c.in_ok-arm2.ensures.value, c.in_ok-rotation.ensures.value, c.in_ok-turn.ensures.value, c.in_ok-gripper.ensures.value) refl

pub returns-clause-axes : goal.returns-clause-axes
returns-clause-axes c = (
  record {
    arm1 = c.in_ok-arm1.arm1.scale;
    arm2 = c.in_ok-arm2.arm2.scale;
    rotation = c.in_ok-rotation.rotation.scale;
    turn = c.in_ok-turn.turn.scale;
    gripper = c.in_ok-gripper.gripper.scale;
  },
  refl,
  record {
    arm1 = c.in_ok-arm1.ensures.axis;
    arm2 = c.in_ok-arm2.ensures.axis;
    rotation = c.in_ok-rotation.ensures.axis;
    turn = c.in_ok-turn.ensures.axis;
    gripper = c.in_ok-gripper.ensures.axis;
  },
)
