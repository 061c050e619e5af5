use Rattle.cell_renewal.proofs.renewed.go_on_after.Goals as goal

pub all_go_on-workers-requires : goal.all_go_on-workers-requires
all_go_on-workers-requires g c = record { may_go_on = c.requires.may_go_on c.opening_after-opening.result c.opening_after-opening.ensures }
