use Rattle.cell_config.proofs.Names.{◌≡◌, true, sym, rules, table_view, is_known}
use Rattle.cell_config.proofs.SettingsLemmas.{settings_made}
use Rattle.cell_config.proofs.configuration.config_in.Goals as goal

pub returns-clause-says : goal.returns-clause-says
returns-clause-says c =
    let known : is_known (table_view c.args.table.now) ≡ true = search rules in
    settings_made (table_view c.args.table.now) c.in_ok-start.start c.in_ok-schedule.schedule.items c.in_ok-curves.curves c.points_of_curves.result known (sym c.in_ok-start.ensures.value) c.in_ok-schedule.ensures c.in_ok-curves.ensures.value c.points_of_curves.ensures

pub returns-clause-points : goal.returns-clause-points
returns-clause-points c = rw c.points_of_curves.ensures c.in_ok-curves.ensures.axes

pub returns-clause-curves : goal.returns-clause-curves
returns-clause-curves c = sym c.points_of_curves.ensures
