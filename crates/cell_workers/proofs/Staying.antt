-- The record of workers that end at once.
use Rattle.cell_workers.proofs.Names.{◌≡◌, ℕ, true, [], map, None, refl, sym, ap, subst, Machine, Feed, Table, Robot, Press, Deposit, Crane, Watch, ModelState, event_by, EndsIn, Lawful, InterlockView, no_counts, RunRecord, Status, Fine, CellScales, steps_of, rig_of, passes, HasEnded, Ends, AreCountsOf, MomentOf, first_moment, TellsAnyWork, has_worker, Rule, by_rule, TellsNothingDone, stays}
use Rattle.cell_rules.proofs.lemmas.Assembly.{lawful}
use Rattle.cell_rules.proofs.lemmas.Histories.{throughout}

module _ (c : CellScales) (opening : ModelState) (tries limit : ℕ) (lets : Rule) (r : RunRecord) (status : Status) where
  -- a worker may end at once, with this status
  abbrev statuses_so : Machine → Status
  statuses_so Watch = Fine
  statuses_so _ = status

  module _ (ends : (m : Machine) → Ends (by_rule lets m) limit None 0 status) (k : TellsNothingDone opening status r) where
    abbrev interlock : InterlockView
    interlock = record { table = record { words = 0; slots = 0; views_name = 0; atom = 0; block = 0; offset = 0; slot_names = [] }; opening = opening; tries = tries }

    abbrev at : (m : Machine) → MomentOf m
    at m = first_moment interlock m

    works : (m : Machine) → has_worker m ≡ true → HasEnded (passes tries) (steps_of c m) (rig_of c m) (by_rule lets m) limit (at m) (at m) (statuses_so m)
    works Feed e = stays tries (steps_of c Feed) (rig_of c Feed) (by_rule lets Feed) limit (at Feed) status (ends Feed)
    works Table e = stays tries (steps_of c Table) (rig_of c Table) (by_rule lets Table) limit (at Table) status (ends Table)
    works Robot e = stays tries (steps_of c Robot) (rig_of c Robot) (by_rule lets Robot) limit (at Robot) status (ends Robot)
    works Press e = stays tries (steps_of c Press) (rig_of c Press) (by_rule lets Press) limit (at Press) status (ends Press)
    works Deposit e = stays tries (steps_of c Deposit) (rig_of c Deposit) (by_rule lets Deposit) limit (at Deposit) status (ends Deposit)
    works Crane e = stays tries (steps_of c Crane) (rig_of c Crane) (by_rule lets Crane) limit (at Crane) status (ends Crane)
    works Watch e = cc

    pub told : TellsAnyWork c opening tries limit (by_rule lets) r
    told =
        record {
          interlock = interlock;
          opened = refl;
          last = at;
          statuses = statuses_so;
          works = works;
          watch_rests = (refl, refl);
          history = [];
          lawful = throughout opening (Lawful opening) (lawful opening k.sound) [] tt;
          seen = λ m. record { begins = ([], refl); own = refl };
          start = k.start;
          counts = k.counts;
          status = k.status;
          journals = k.journals;
          counted = λ m. subst (λ j. AreCountsOf j no_counts) (sym (k.journals m)) (record { done = refl; read = refl; refused = refl });
          audited = record { legal = tt; own = λ m. sym (ap (map (event_by m)) (k.journals m)); noted = λ m. sym (k.journals m); ends = subst (EndsIn opening) (sym k.end) refl };
          end = k.end;
          axes = k.axes;
        }
