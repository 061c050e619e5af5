use Rattle.plan_drives.proofs.lemmas.Going.{start_opens}
use Rattle.plan_drives.proofs.laws.starts_open_by_poses.Goals as goal

pub returns : goal.returns
returns c =
    start_opens c.args.plan.now c.args.start.now c.requires
