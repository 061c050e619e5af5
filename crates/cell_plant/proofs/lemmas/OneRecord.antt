-- Records of runs of one schedule from one opening, in which no machine was stopped, say the same.
use Rattle.cell_plant.proofs.Names.{◌≡◌, List, map, Option, Some, None, refl, sym, ap, ◌∙◌, subst, arith, Machine, Feed, Table, Robot, Press, Deposit, Crane, Watch, all_machines, noted, ModelState, CtlFault, RunRecord, Turn, Status, Fine, status_of, in_order, statuses_in, CellScales, TellsRun, CellState, cell_at_start, plant_of, HadMemory, SayTheSame, CellGauges, counts_in, events_in, positions_in, Step, end_of, SaysOneThing}
use Rattle.std.proofs.Common.{All}
use Rattle.cell_control.specs.declared.fault.CtlFault.TheVariants as cause
use Rattle.cell_plant.proofs.FineRuns.{had_memory}
use Rattle.cell_plant.proofs.OneRun.{has_one_run}

-- a machine that is fine isn't stopped
fine_runs : (o : Option CtlFault) → status_of o ≡ Fine → o ≡ None
fine_runs None e = refl
fine_runs (Some cause.Worn) e = cc
fine_runs _ e = cc

abbrev AllFine : List Status → Type 0
AllFine status = All (λ s. s ≡ Fine) status

each_fine : (statuses : Machine → Status) → AllFine (map statuses all_machines) → (m : Machine) → statuses m ≡ Fine
each_fine statuses k Feed = k 0 Fine (omega arith)
each_fine statuses k Table = k 1 Fine (omega arith)
each_fine statuses k Robot = k 2 Fine (omega arith)
each_fine statuses k Press = k 3 Fine (omega arith)
each_fine statuses k Deposit = k 4 Fine (omega arith)
each_fine statuses k Crane = k 5 Fine (omega arith)
each_fine statuses k Watch = k 6 Fine (omega arith)

module _ (c : CellScales) (gives : CellGauges) (opening : ModelState) (turns : List Turn) where
  abbrev last : List Step → CellState
  last steps = end_of (cell_at_start opening) steps

  memory : (r : RunRecord) (k : TellsRun c gives opening turns r) → AllFine r.status → HadMemory k.steps
  memory r k fine =
      had_memory c gives (cell_at_start opening) turns k.steps k.run
      (λ m. fine_runs ((last k.steps).side m).stopped (each_fine (λ n. status_of ((last k.steps).side n).stopped) (subst AllFine k.told.status fine) m))

  one_record : (r s : RunRecord) (k : TellsRun c gives opening turns r) (l : TellsRun c gives opening turns s) → l.steps ≡ k.steps → SayTheSame r s
  one_record r s k l same =
      record {
        start = l.told.start ∙ sym k.told.start;
        counts = l.told.counts ∙ ap (λ steps. map (counts_in steps) all_machines) same ∙ sym k.told.counts;
        status = l.told.status ∙ ap (λ steps. in_order (statuses_in (last steps))) same ∙ sym k.told.status;
        journals = λ m. l.told.journals m ∙ ap (λ steps. noted opening (events_in steps) m) same ∙ sym (k.told.journals m);
        end = l.told.end ∙ ap (λ steps. Some (last steps).interlock) same ∙ sym k.told.end;
        axes = l.told.axes ∙ ap (λ steps. positions_in (plant_of (last steps))) same ∙ sym k.told.axes;
      }

pub says_one : (c : CellScales) (gives : CellGauges) → SaysOneThing c gives
says_one c gives opening turns r s scales one k l fine fine' =
    one_record c gives opening turns r s k l
    (has_one_run c gives (cell_at_start opening) turns k.steps l.steps scales one k.run l.run (memory c gives opening turns r k fine) (memory c gives opening turns s l fine'))
