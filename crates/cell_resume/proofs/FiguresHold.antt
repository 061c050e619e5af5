-- What the fourteen bytes mean, computed.
use Rattle.std.proofs.Common.{◌≡◌, ◌≤◌, ℕ, ◌/◌, refl, sym, ◌∙◌, arith}
use Rattle.std.proofs.lemmas.Option.{slice_get_past}
use Rattle.cell_rules.proofs.lemmas.SoundnessTest.{sound_by_test}
use Rattle.cell_rules.specs.Names.{ModelState}
use Rattle.cell_word.specs.Layout.{packed}
use Rattle.cell_resume.specs.Checkpoints.{IsCheckpointOf, checkpoint_in}
use Rattle.cell_resume.specs.FeedKeeps as feed
use Rattle.cell_resume.specs.TableKeeps as table
use Rattle.cell_resume.specs.RobotKeeps as robot
use Rattle.cell_resume.specs.PressKeeps as press
use Rattle.cell_resume.specs.DepositKeeps as deposit
use Rattle.cell_resume.specs.CraneKeeps as crane
use Rattle.cell_resume.specs.Figures.{NumberRows, WrongRows, FigureRows, start_bytes, start_state, start_team, full_bytes, full_state, full_team, forged_bytes, forged_state, forged_team}

-- two numbers name one step of the press
halved : (n : ℕ) → 30 ≤ n → 15 ≤ n / 2
halved n past = grind arith

numbers : (s : ModelState) → NumberRows s
numbers s = record {
  feed = (refl, (refl, (refl, (refl, (refl, (refl, (refl, (refl, (refl, (refl, (refl, (refl, tt))))))))))));
  table = (refl, (refl, (refl, (refl, (refl, (refl, (refl, (refl, (refl, (refl, (refl, (refl, tt))))))))))));
  robot = (refl, (refl, (refl, (refl, (refl, (refl, (refl, (refl, (refl, (refl, (refl, (refl, (refl, (refl, (refl, (refl, (refl, (refl, (refl, (refl, (refl, (refl, (refl, (refl, (refl, (refl, (refl, (refl, tt))))))))))))))))))))))))))));
  press_downward = (refl, (refl, (refl, (refl, (refl, (refl, (refl, (refl, (refl, (refl, (refl, (refl, (refl, (refl, (refl, tt)))))))))))))));
  press_upward = (refl, (refl, (refl, (refl, (refl, (refl, (refl, (refl, (refl, (refl, (refl, (refl, (refl, (refl, (refl, tt)))))))))))))));
  deposit = (refl, (refl, (refl, (refl, (refl, (refl, (refl, (refl, (refl, (refl, (refl, (refl, tt))))))))))));
  crane = (refl, (refl, (refl, (refl, (refl, (refl, (refl, (refl, (refl, (refl, (refl, (refl, (refl, (refl, tt))))))))))))));
  no_feed = λ n past. rw (slice_get_past feed.steps n past);
  no_table = λ n past. rw (slice_get_past table.steps n past);
  no_robot = λ n past. rw (slice_get_past robot.steps n past);
  no_press = λ n past. rw (slice_get_past press.steps (n / 2) (halved n past));
  no_deposit = λ n past. rw (slice_get_past deposit.steps n past);
  no_crane = λ n past. rw (slice_get_past crane.steps n past);
}

start_word : packed start_state ≡ (checkpoint_in start_bytes).word
unfolding packed
start_word = refl

start : IsCheckpointOf (checkpoint_in start_bytes) start_state start_team
start = record {
  sound = sound_by_test start_state refl;
  word = start_word;
  numbers = record { feed = refl; table = refl; robot = refl; press = refl; deposit = refl; crane = refl };
  in_step = record { feed = refl; table = refl; robot = refl; press = refl; deposit = refl; crane = refl };
}

full_word : packed full_state ≡ (checkpoint_in full_bytes).word
unfolding packed
full_word = refl

full : IsCheckpointOf (checkpoint_in full_bytes) full_state full_team
full = record {
  sound = sound_by_test full_state refl;
  word = full_word;
  numbers = record { feed = refl; table = refl; robot = refl; press = refl; deposit = refl; crane = refl };
  in_step = record { feed = refl; table = refl; robot = refl; press = refl; deposit = refl; crane = refl };
}

forged_word : packed forged_state ≡ (checkpoint_in forged_bytes).word
unfolding packed
forged_word = refl

forged : IsCheckpointOf (checkpoint_in forged_bytes) forged_state forged_team
forged = record {
  sound = sound_by_test forged_state refl;
  word = forged_word;
  numbers = record { feed = refl; table = refl; robot = refl; press = refl; deposit = refl; crane = refl };
  in_step = record { feed = refl; table = refl; robot = refl; press = refl; deposit = refl; crane = refl };
}

wrong : WrongRows
wrong = record {
  other_word = λ k. let e : 1073741824 ≡ 0 = sym start_word ∙ k.word in absurd (omega (arith, e));
  other_number = λ k. let e = k.numbers.feed in cc;
  astray = λ k. let e = k.in_step.feed in cc;
  unsound = λ k. absurd (omega (arith, k.sound.stamp_in_range));
}

pub figures-hold : FigureRows
figures-hold = record { numbers = numbers; start = start; full = full; forged = forged; wrong = wrong }
