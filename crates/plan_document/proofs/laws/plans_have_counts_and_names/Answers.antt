use Rattle.plan_document.proofs.TableLaws.{counted, named, two_for_c, two_sensors_for_c}
use Rattle.plan_document.proofs.laws.plans_have_counts_and_names.Goals as goal

pub returns-clause-counts : goal.returns-clause-counts
returns-clause-counts c = counted

pub returns-clause-names : goal.returns-clause-names
returns-clause-names c = named

pub returns-clause-for_c : goal.returns-clause-for_c
returns-clause-for_c c = two_for_c

pub returns-clause-sensors_for_c : goal.returns-clause-sensors_for_c
returns-clause-sensors_for_c c = two_sensors_for_c
