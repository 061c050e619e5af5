-- What six workers and a watch leave: the examples.
use Rattle.std.proofs.Common.{◌≡◌, ◌≢◌, ◌+◌, ◌<◌, ◌≤◌, ◌⊎◌, ℕ, Bool, true, false, List, [], ◌∷◌, Some, None, inl, inr, ⊎_elim, refl, sym, ◌∙◌, ap, arith}
use Rattle.cell_rules.specs.Types.{Machine, Feed, Table, Robot, Press, Deposit, Crane, Watch, Entry, Call}
use Rattle.cell_rules.specs.Names.{ModelState}
use Rattle.cell_interlock.specs.Views.{PassView, InterlockView}
use Rattle.cell_interlock.specs.declared.pass.Passes.{Passes}
use Rattle.cell_control.specs.declared.fault.CtlFault.TheVariants as cause
use Rattle.cell_notes.specs.declared.status.Status.TheVariants.{Fine, GateLimit, Worn, Memory}
use Rattle.cell_threads.specs.Laws.{gate_by}
use Rattle.cell_threads.specs.Results.{outputs_in}
use Rattle.cell_threads.specs.Workers.{Ends}
use Rattle.cell_threads.specs.TeamExamples.{EndsAreTold, FaultTexts, FieldsAreOwn, Left, RecordsAreTold, SixDone, SixNumbers, StartsAreTold, TeamsAreTold, TellsOf, WatchedOf, gives_number, sums, three, told_otherwise}

texts : FaultTexts
texts = record { tries = refl; memory = refl; spawn = refl }

fields : (r : Left) (p : Passes) (i : InterlockView) (pass : PassView) (journal : List Entry) → FieldsAreOwn r p i pass journal
fields r p i pass journal = record {
  journal_of_table = refl;
  journal_of_crane = refl;
  journals_with_the_watch = refl;
  journal_of_robot = refl;
  no_journal_of_the_watch = refl;
  seen_by_feed = refl;
  seen_by_deposit = refl;
  seen_by_press = refl;
  seen_by_the_watch = refl;
  nothing_seen_by_the_watch = refl;
  six_outputs = refl;
  seven_passes = refl;
  six_passes = refl;
  fresh_robot = refl;
  fresh_crane = refl;
  fresh_opening = refl;
}

six_numbers : (each : SixNumbers) (opening : ModelState) (r : SixDone) → TellsOf (gives_number each) opening r → r.outputs ≡ each
six_numbers each opening r k =
    let g = k.given in
    k.outputs ∙ (λ i. record { feed = g.feed.1 i; table = g.table.1 i; robot = g.robot.1 i; press = g.press.1 i; deposit = g.deposit.1 i; crane = g.crane.1 i })

six_watched : (each : SixNumbers) (opening : ModelState) (r : SixDone) (later : ℕ) → WatchedOf (gives_number each) sums opening r later → r.outputs ≡ each
six_watched each opening r later k =
    let g = k.given in
    k.outputs ∙ (λ i. record { feed = g.feed.1 i; table = g.table.1 i; robot = g.robot.1 i; press = g.press.1 i; deposit = g.deposit.1 i; crane = g.crane.1 i })

told_so : (m : Machine) → m ≢ Watch → (opening : ModelState) (r : SixDone) → TellsOf (told_otherwise m) opening r → ⊥
told_so Feed other opening r k = k.given.feed.1 refl (refl, k.losing, refl)
told_so Table other opening r k = k.given.table.1 refl (refl, k.losing, refl)
told_so Robot other opening r k = k.given.robot.1 refl (refl, k.losing, refl)
told_so Press other opening r k = k.given.press.1 refl (refl, k.losing, refl)
told_so Deposit other opening r k = k.given.deposit.1 refl (refl, k.losing, refl)
told_so Crane other opening r k = k.given.crane.1 refl (refl, k.losing, refl)
told_so Watch other opening r k = other refl

watched_so : (m : Machine) → m ≢ Watch → (opening : ModelState) (r : SixDone) (later : ℕ) → WatchedOf (told_otherwise m) sums opening r later → ⊥
watched_so Feed other opening r later k = k.given.feed.1 refl (refl, k.losing, refl)
watched_so Table other opening r later k = k.given.table.1 refl (refl, k.losing, refl)
watched_so Robot other opening r later k = k.given.robot.1 refl (refl, k.losing, refl)
watched_so Press other opening r later k = k.given.press.1 refl (refl, k.losing, refl)
watched_so Deposit other opening r later k = k.given.deposit.1 refl (refl, k.losing, refl)
watched_so Crane other opening r later k = k.given.crane.1 refl (refl, k.losing, refl)
watched_so Watch other opening r later k = other refl

records : RecordsAreTold
records = record {
  six_numbers = six_numbers;
  one_told_otherwise = told_so;
  starts_there = λ opening r k. k.start;
  ends_after = λ opening r k. k.end;
  six_numbers_watched = six_watched;
  one_told_otherwise_watched = watched_so;
  watch_tries = λ opening r later k. k.watch_is ∙ (k.watched_so.does ∙ ap (λ n. 4 + n) k.losing);
  another_journal = λ got kept journal apart k. apart k.journal_is;
  another_pass = λ got kept journal apart k. apart k.same.machine;
}

not_all : ¬ Ends (gate_by three) 5 None 4 Fine
not_all (inl k) = let lie : 4 ≡ 5 = k.1 in omega (arith, lie)
not_all (inr k) = let lie = k.0 in cc

let_in : ¬ Ends (gate_by three) 5 None 2 GateLimit
let_in (inl k) = let lie = k.0 in cc
let_in (inr k) = let lie : false ≡ true = k.2 in cc

none_left : ¬ Ends (gate_by three) 3 None 3 GateLimit
none_left (inl k) = let lie = k.0 in cc
none_left (inr k) = let lie : 3 < 3 = k.1 in omega (arith, lie)

running_and_worn : ¬ ((Worn ≡ Fine) ⊎ (Worn ≡ GateLimit))
running_and_worn (inl k) = cc
running_and_worn (inr k) = cc

ends : EndsAreTold
ends = record {
  all_turns = inl (refl, refl);
  not_all_turns = not_all;
  kept_out = inr (refl, omega arith, refl);
  let_in = let_in;
  none_left = none_left;
  worn = (refl, omega arith);
  fine_though_worn = λ k. let lie = k.0 in cc;
  too_many = λ k. let lie : 6 ≤ 5 = k.1 in omega (arith, lie);
  no_memory = refl;
  worn_without_memory = λ k. let lie = k in cc;
  running_and_worn = running_and_worn;
  last = refl;
  first = refl;
  taken = (refl, (refl, (refl, tt)));
  one_left_out = λ k. let lie : 6 ≡ 5 = k.1.0 in omega (arith, lie);
  answers = refl;
  one_entry = λ c. (refl, refl);
  two_entries = λ c k. let lie = k.1 in cc;
  entry_of_no_call = λ c k. let lie = k.0 in cc;
  robot_first = refl;
  watch_ended = refl;
  had = omega arith;
  not_had = λ k. let lie : 4 ≤ 3 = k in omega (arith, lie);
  ended = tt;
  before_any = record { feed = omega arith; table = omega arith; robot = omega arith; press = omega arith; deposit = omega arith; crane = omega arith; watch = tt };
  not_one = λ k. let lie : 1 ≤ 0 = k.feed in omega (arith, lie);
}

starts : StartsAreTold
starts = record {
  two_started = record { table = λ e. cc; robot = λ e. refl; press = λ e. refl; deposit = λ e. refl; crane = λ e. refl };
  table_after_none = λ k. let lie = k.table refl in cc;
  robot_after_none = λ k. let lie = k.robot refl in cc;
  press_after_none = λ k. let lie = k.press refl in cc;
  deposit_after_none = λ k. let lie = k.deposit refl in cc;
  crane_after_none = λ k. let lie = k.crane refl in cc;
  all_there = record { feed = refl; table = refl; robot = refl; press = refl; deposit = refl; crane = refl };
  no_crane = λ k. let lie = k.crane in cc;
  another_table = λ k. let lie = k.table in cc;
}

pub teams_are_told : TeamsAreTold
teams_are_told = record { texts = texts; fields = fields; records = records; ends = ends; starts = starts }
