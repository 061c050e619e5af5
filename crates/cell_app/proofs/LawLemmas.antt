-- Proofs of the laws of runs.
use Rattle.std.proofs.Common.{◌≡◌, ◌≢◌, ◌≤◌, ℕ, true, false, List, [], ◌∷◌, ◌++◌, map, refl, subst}
use Rattle.std.proofs.lemmas.List.Elements.{All-head, All-tail}
use Rattle.cell_rules.specs.Types.{Machine, Feed, Table, Robot, Press, Deposit, Crane, Watch, all_machines}
use Rattle.cell_rules.specs.ModelState.{ModelState}
use Rattle.cell_notes.specs.declared.run_record.RunRecord.{RunRecord}
use Rattle.cell_notes.specs.declared.status.Status.{Status}
use Rattle.cell_notes.specs.declared.counts.Counts.{Counts}
use Rattle.cell_notes.specs.declared.status.Status.TheVariants.{Fine, GateLimit}
use Rattle.cell_workers.specs.Records.{has_worker}
use Rattle.cell_parts.specs.Axes.{CellScales}
use Rattle.cell_plant.specs.Machines.{CellGauges, on_curves}
use Rattle.cell_workers.proofs.lemmas.Recording.{work_near}
use Rattle.cell_workers.proofs.lemmas.Telling.{records_tell}
use Rattle.cell_app.specs.Reported.{AreFine}
use Rattle.cell_app.specs.Served.{TellsWorkers}
use Rattle.cell_app.specs.Laws.{EachHadTurns, EachIsFine, FaultLinesAreMet, StatusZeroIsWell, TurnsAreTold}
use Rattle.cell_app.proofs.RunLemmas.{audited_work}

-- ---- turns and status 0

at_each : (before after : List Status) (s : Status) → AreFine (before ++ s ∷ after) → s ≡ Fine
at_each [] after s k = All-head (λ x. x ≡ Fine) s after k
at_each (x ∷ xs) after s k = at_each xs after s (All-tail (λ y. y ≡ Fine) x (xs ++ s ∷ after) k)

each_fine : (r : RunRecord) → AreFine r.status → EachIsFine r
each_fine r k before after s e = at_each before after s (subst AreFine e k)

pub told : TurnsAreTold
told =
    record {
      turns = λ c opening tries limit r did statuses k counts status m e.
          let had = records_tell.turns c opening tries limit (λ n turn. true) r did statuses k counts status m e in
          (had, λ out. let lie : true ≡ false = (had.kept_out out).1 in cc);
    }

fine_in : (statuses : Machine → Status) (before after : List Machine) (m : Machine) → AreFine (map statuses (before ++ m ∷ after)) → statuses m ≡ Fine
fine_in statuses [] after m k = All-head (λ x. x ≡ Fine) (statuses m) (map statuses after) k
fine_in statuses (x ∷ xs) after m k = fine_in statuses xs after m (All-tail (λ y. y ≡ Fine) (statuses x) (map statuses (xs ++ m ∷ after)) k)

each_status : (statuses : Machine → Status) → AreFine (map statuses all_machines) → (m : Machine) → statuses m ≡ Fine
each_status statuses k Feed = fine_in statuses [] (Table ∷ Robot ∷ Press ∷ Deposit ∷ Crane ∷ Watch ∷ []) Feed k
each_status statuses k Table = fine_in statuses (Feed ∷ []) (Robot ∷ Press ∷ Deposit ∷ Crane ∷ Watch ∷ []) Table k
each_status statuses k Robot = fine_in statuses (Feed ∷ Table ∷ []) (Press ∷ Deposit ∷ Crane ∷ Watch ∷ []) Robot k
each_status statuses k Press = fine_in statuses (Feed ∷ Table ∷ Robot ∷ []) (Deposit ∷ Crane ∷ Watch ∷ []) Press k
each_status statuses k Deposit = fine_in statuses (Feed ∷ Table ∷ Robot ∷ Press ∷ []) (Crane ∷ Watch ∷ []) Deposit k
each_status statuses k Crane = fine_in statuses (Feed ∷ Table ∷ Robot ∷ Press ∷ Deposit ∷ []) (Watch ∷ []) Crane k
each_status statuses k Watch = fine_in statuses (Feed ∷ Table ∷ Robot ∷ Press ∷ Deposit ∷ Crane ∷ []) [] Watch k

-- a machine that is fine had all its turns
all_turns : (c : CellScales) (gives : CellGauges) (opening : ModelState) (tries turns : ℕ) (r : RunRecord) → TellsWorkers c gives opening tries turns r → AreFine r.status → EachHadTurns turns r
all_turns c gives opening tries turns r k fine did counts m e =
    let any = work_near c gives opening tries turns (λ n turn answer. answer ≡ true) r k in
    let had = told.turns c opening tries turns r did k.statuses any counts k.status m e in
    had.0.fine (each_status k.statuses (subst AreFine k.status fine) m)

-- no gate keeps a machine out, and none has more turns than it may
pub had_turns : (c : CellScales) (gives : CellGauges) (opening : ModelState) (tries turns : ℕ) (r : RunRecord) (did : Machine → Counts) (statuses : Machine → Status) → TellsWorkers c gives opening tries turns r
    → r.counts ≡ map did all_machines → r.status ≡ map statuses all_machines → (m : Machine) → has_worker m ≡ true → (statuses m ≢ GateLimit) × ((did m).turns ≤ turns)
had_turns c gives opening tries turns r did statuses k counts status m e =
    let any = work_near c gives opening tries turns (λ n turn answer. answer ≡ true) r k in
    let had = told.turns c opening tries turns r did statuses any counts status m e in
    (had.1, had.0.within)

pub well : StatusZeroIsWell
well =
    record {
      reported = λ r old new k. (each_fine r k.0, k.1.0);
      replayed = λ bytes text k. k;
      simulated = λ bytes text k. (k.0, k.1.0.0, k.1.1.1, each_fine k.0 k.1.1.0);
      ran = λ turns tries bytes text k.
          let tells = k.1.0 in
          (k.0, tells, k.1.1.1, (each_fine k.0 k.1.1.0, (tells.run.history, audited_work tells.scales (on_curves tells.settings.curves) tells.settings.start tries turns k.0 tells.run)), all_turns tells.scales (on_curves tells.settings.curves) tells.settings.start tries turns k.0 tells.run k.1.1.0);
    }

-- ---- lines

pub lines : FaultLinesAreMet
lines = record { memory = refl; missing = refl; range = refl; unread = refl; no_room = refl; spawn = refl }
