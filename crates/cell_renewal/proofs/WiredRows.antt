-- How a worker with devices may end.
use Rattle.std.proofs.Common.{◌≡◌, ◌≢◌, ◌+◌, ◌≤◌, ◌<◌, ℕ, Bool, true, false, None, refl, sym, ap, ◌∙◌, arith}
use Rattle.cell_devices.specs.declared.motor.Motor.TheVariants.{Off, Plus}
use Rattle.cell_control.specs.declared.commands.Commands.{Commands}
use Rattle.cell_devices.specs.declared.act.PressAct.{PressAct}
use Rattle.cell_notes.specs.declared.status.Status.{Status}
use Rattle.cell_notes.specs.declared.status.Status.TheVariants.{Fine, GateLimit, Sensor}
use Rattle.cell_table_press.specs.Names.{press_steps}
use Rattle.cell_table_press.specs.declared.press.PressProgress.{PressProgress}
use Rattle.cell_table_press.specs.declared.press.PressStep.TheVariants.{ClaimFirst}
use Rattle.cell_devices.specs.declared.motor.Direction.TheVariants.{Minus as Downward}
use Rattle.cell_renewal.specs.WiredLaws.{AreToldToRest, WiredWorkerEnds, told_clash, told_unread}
use Rattle.cell_threads.specs.Laws.{gate_by}
use Rattle.cell_renewal.proofs.WiredEnding.{ended}
use Rattle.cell_renewal.specs.WiredExamples.{PressEnds, PressGivesBack, Remembering, keeps_told, shows_any, WiredEndsAreTold, any_gate, open_gate, shut_gate, told_on}

some_step : PressProgress
some_step = record { step = ClaimFirst; loaded = false; forged = false; direction = Downward }

abbrev ToldLast : Commands PressAct → Type 0
ToldLast last = AreToldToRest press_steps (λ (before : Unit {0}) told now. told ≡ last) tt

clash_rests : ToldLast told_clash
clash_rests = record { progress = some_step; before = tt; told = told_clash; set = refl; is_fault = λ e. cc; rest = refl }

fine_and_kept_out : ¬ (Fine ≡ GateLimit)
fine_and_kept_out e = cc

sensor_and_fine : ¬ (Sensor ≡ Fine)
sensor_and_fine e = cc

sensor_and_kept_out : ¬ (Sensor ≡ GateLimit)
sensor_and_kept_out e = cc

kept_out_and_fine : ¬ (GateLimit ≡ Fine)
kept_out_and_fine e = cc

differ : ¬ (true ≡ false)
differ e = cc

differ_too : ¬ (false ≡ true)
differ_too e = cc

fine : PressEnds open_gate told_clash 3 Fine
fine = record {
  within = omega arith;
  let_in = λ cycle h. refl;
  fine = λ e. refl;
  kept_out = λ e. absurd (fine_and_kept_out e);
  rests = λ e f. absurd (e refl);
}

fault : PressEnds open_gate told_clash 2 Sensor
fault = record {
  within = omega arith;
  let_in = λ cycle h. refl;
  fine = λ e. absurd (sensor_and_fine e);
  kept_out = λ e. absurd (sensor_and_kept_out e);
  rests = λ e f. clash_rests;
}

kept_out : PressEnds any_gate told_clash 2 GateLimit
kept_out = record {
  within = omega arith;
  let_in = λ cycle h. tt;
  fine = λ e. absurd (kept_out_and_fine e);
  kept_out = λ e. (omega arith, tt);
  rests = λ e f. absurd (f refl);
}

too_many : ¬ PressEnds open_gate told_clash 4 Sensor
too_many k = let lie : 4 ≤ 3 = k.within in omega (arith, lie)

too_few : ¬ PressEnds open_gate told_clash 2 Fine
too_few k = let lie : 2 ≡ 3 = k.fine refl in omega (arith, lie)

not_let_in : ¬ PressEnds shut_gate told_clash 1 Sensor
not_let_in k = differ (k.let_in 0 (omega arith))

not_kept_out : ¬ PressEnds open_gate told_clash 2 GateLimit
not_kept_out k = differ_too (k.kept_out refl).1

none_left : ¬ PressEnds any_gate told_clash 3 GateLimit
none_left k = let lie : 3 < 3 = (k.kept_out refl).0 in omega (arith, lie)

stays_on : (t : ToldLast told_on) → ⊥
stays_on t = let lie : told_on.act ≡ press_steps.rest t.progress = sym (ap (λ (c : Commands PressAct). c.act) t.set) ∙ t.rest in let off : Plus ≡ Off = ap (λ (a : PressAct). a.press) lie in cc

on : ¬ PressEnds open_gate told_on 2 Sensor
on k = stays_on (k.rests sensor_and_fine sensor_and_kept_out)

untold_of : (t : ToldLast told_unread) → ⊥
untold_of t = t.is_fault (ap (λ (c : Commands PressAct). c.fault) t.set)

untold : ¬ PressEnds open_gate told_unread 2 Sensor
untold k = untold_of (k.rests sensor_and_fine sensor_and_kept_out)

-- what the law says of it
law : (lets : ℕ → Bool) (limit turns missed : ℕ) (status : Status) (devices : Remembering) → PressGivesBack lets limit turns missed status devices → WiredWorkerEnds press_steps keeps_told (gate_by lets) limit (turns + missed) status devices
law lets limit turns missed status devices k = ended k.0 press_steps shows_any keeps_told (gate_by lets) limit k.1 k.2 k.3 k.4 devices turns missed status k.5

at_rest : (devices : Remembering) → AreToldToRest press_steps keeps_told devices → (devices.act.press ≡ Off) × (devices.fault ≢ None)
at_rest devices k = (ap (λ (c : Commands PressAct). c.act.press) k.set ∙ ap (λ (a : PressAct). a.press) k.rest, λ none. k.is_fault (sym (ap (λ (c : Commands PressAct). c.fault) k.set) ∙ none))

pub wired_ends_are_told : WiredEndsAreTold
wired_ends_are_told = record {
  within = λ lets limit turns missed status devices k. (law lets limit turns missed status devices k).within;
  let_in = λ lets limit turns missed status devices k cycle low. sym ((law lets limit turns missed status devices k).let_in cycle low);
  all_cycles = λ lets limit turns missed devices k. (law lets limit turns missed Fine devices k).fine refl;
  next_refused = λ lets limit turns missed devices k. let shut = (law lets limit turns missed GateLimit devices k).kept_out refl in (shut.0, sym shut.1);
  motor_off = λ lets limit turns missed status devices k not_fine not_shut. at_rest devices ((law lets limit turns missed status devices k).rests not_fine not_shut);
  fine = fine;
  fault = fault;
  kept_out = kept_out;
  too_many = too_many;
  too_few = too_few;
  not_let_in = not_let_in;
  not_kept_out = not_kept_out;
  none_left = none_left;
  on = on;
  untold = untold;
  feed_refused = λ r e k. k.feed e;
  table_refused = λ r e k. k.table e;
  robot_refused = λ r e k. k.robot e;
  press_refused = λ r e k. k.press e;
  deposit_refused = λ r e k. k.deposit e;
  crane_refused = λ r e k. k.crane e;
  feed_worn = λ left e k. k.feed e;
  table_worn = λ left e k. k.table e;
  robot_worn = λ left e k. k.robot e;
  press_worn = λ left e k. k.press e;
  deposit_worn = λ left e k. k.deposit e;
  crane_worn = λ left e k. k.crane e;
  start = λ c devices opening r apart k. apart k.start;
  end = λ c devices opening r k. k.end;
  journals = λ c devices opening r k m. k.journals m;
  audited = λ c devices opening r k. k.audited;
}
