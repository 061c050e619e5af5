-- The examples of runs, and of what isn't one.
use Rattle.cell_plant.proofs.Names.{◌≢◌, true, false, refl, CellScales, ScheduleExamples}
use Rattle.cell_types.specs.declared.machine.Machine.TheVariants.{Feed, Press}
use Rattle.cell_plant.specs.RunExamples.{at_first, at_entered}
use Rattle.cell_plant.proofs.Deciding.{true_false, false_true}
use Rattle.cell_plant.proofs.ExampleTurns.{turn_busy, turn_no_room, turn_down, turn_further, turn_stops, turn_resumes, literal_run}
use Rattle.cell_plant.proofs.TurnRows.{one_zero, zero_one, answered, stamps_apart}

feed_press : Feed ≢ Press
feed_press e = cc

pub schedule_examples : (c : CellScales) → ScheduleExamples c
schedule_examples c = record {
  starts = λ s. refl;
  run = literal_run c;
  ends = refl;
  all_go_on = refl;
  others_go_on = refl;
  no_turn = tt;
  two_turns = (refl, (turn_busy c, (refl, (turn_no_room c, tt))));
  two_ticks = (refl, (turn_down c, (refl, (turn_further c, tt))));
  stop_and_resume = (refl, (turn_stops c, (refl, (turn_resumes c, tt))));
  turns_swapped = λ r. false_true (answered c Press false at_entered _ r.1.0).0;
  steps_swapped = λ r. stamps_apart c _ _ one_zero (answered c Feed false at_first _ r.1.0).3;
  turn_left_out = λ r. feed_press r.1.1.0;
  last_left_out = λ r. r.1.1;
  step_too_many = λ r. r.1.1;
  all_left_out = λ r. r;
  of_another = λ m apart r. apart r.0;
  passed_by_another = λ m apart r. apart r.0;
  from_elsewhere = λ r. zero_one (answered c Press true at_entered _ r.1.1.1.0).2;
  stopped_asks = λ r. true_false r.1.0.not_taken;
  stopped_goes_on = λ r. true_false r.1.0.not_taken;
  watch_passed_over = λ r. false_true r.1.0.taken;
  passed_over = λ r. false_true r.1.0.taken;
}
