-- A whole run, in the words of the cell.
use Rattle.cell_interlock.proofs.Names.{◌≡◌, List, [], ◌∷◌, sym, ◌∙◌, subst, Machine, Feed, Table, Robot, Press, Deposit, Crane, Watch, Event, ModelState, view_of, cell_book, EnginePass, pass_from, HasPart, ArePassesOf, pass_in, InterlockView, Passes, Moments, IsInTime, IsRun}
use Rattle.word_interlock.specs.Moments as moments
use Rattle.word_interlock.specs.Moments.{events_of}
use Rattle.word_interlock.specs.Run as engine
use Rattle.cell_interlock.proofs.Instance.{after_here, lawful_here}
use Rattle.cell_interlock.proofs.Closing.{part_here, audited_here}

time_here : (ms : Moments) (p : EnginePass) (m : Machine) → moments.IsInTime cell_book ms (view_of p) → p.actor ≡ m → IsInTime ms m (pass_from p)
time_here ms p m f named =
    subst (λ (k : Machine). IsInTime ms k (pass_from p)) named record { begins = f.begins; own = f.own }

module _ (i : InterlockView) (o : ModelState) (p : Passes) (feed table robot press deposit crane watch : EnginePass) (s : ModelState) (e : engine.IsRun cell_book o (view_of feed ∷ view_of table ∷ view_of robot ∷ view_of press ∷ view_of deposit ∷ view_of crane ∷ view_of watch ∷ []) s) (is : p ≡ record { feed = pass_from feed; table = pass_from table; robot = pass_from robot; press = pass_from press; deposit = pass_from deposit; crane = pass_from crane; watch = pass_from watch }) (are : ArePassesOf i p) where
  abbrev h : List Event
  h = events_of e.moments

  all_parts : (m : Machine) → HasPart o h m (pass_in p m) × IsInTime e.moments m (pass_in p m)
  all_parts m = elim m as (λ k. HasPart o h k (pass_in p k) × IsInTime e.moments k (pass_in p k)) [
    | Feed ↦ let n = subst (λ (x : Passes). x.feed.machine ≡ Feed) is are.feed.machine in subst (λ (x : Passes). HasPart o h Feed x.feed × IsInTime e.moments Feed x.feed) (sym is) (part_here o h feed Feed e.parts.0 n, time_here e.moments feed Feed e.in_time.0 n)
    | Table ↦ let n = subst (λ (x : Passes). x.table.machine ≡ Table) is are.table.machine in subst (λ (x : Passes). HasPart o h Table x.table × IsInTime e.moments Table x.table) (sym is) (part_here o h table Table e.parts.1.0 n, time_here e.moments table Table e.in_time.1.0 n)
    | Robot ↦ let n = subst (λ (x : Passes). x.robot.machine ≡ Robot) is are.robot.machine in subst (λ (x : Passes). HasPart o h Robot x.robot × IsInTime e.moments Robot x.robot) (sym is) (part_here o h robot Robot e.parts.1.1.0 n, time_here e.moments robot Robot e.in_time.1.1.0 n)
    | Press ↦ let n = subst (λ (x : Passes). x.press.machine ≡ Press) is are.press.machine in subst (λ (x : Passes). HasPart o h Press x.press × IsInTime e.moments Press x.press) (sym is) (part_here o h press Press e.parts.1.1.1.0 n, time_here e.moments press Press e.in_time.1.1.1.0 n)
    | Deposit ↦ let n = subst (λ (x : Passes). x.deposit.machine ≡ Deposit) is are.deposit.machine in subst (λ (x : Passes). HasPart o h Deposit x.deposit × IsInTime e.moments Deposit x.deposit) (sym is) (part_here o h deposit Deposit e.parts.1.1.1.1.0 n, time_here e.moments deposit Deposit e.in_time.1.1.1.1.0 n)
    | Crane ↦ let n = subst (λ (x : Passes). x.crane.machine ≡ Crane) is are.crane.machine in subst (λ (x : Passes). HasPart o h Crane x.crane × IsInTime e.moments Crane x.crane) (sym is) (part_here o h crane Crane e.parts.1.1.1.1.1.0 n, time_here e.moments crane Crane e.in_time.1.1.1.1.1.0 n)
    | Watch ↦ let n = subst (λ (x : Passes). x.watch.machine ≡ Watch) is are.watch.machine in subst (λ (x : Passes). HasPart o h Watch x.watch × IsInTime e.moments Watch x.watch) (sym is) (part_here o h watch Watch e.parts.1.1.1.1.1.1.0 n, time_here e.moments watch Watch e.in_time.1.1.1.1.1.1.0 n)
  ]

  pub run_here : IsRun o p s
  run_here = record {
    moments = e.moments;
    calls = e.calls;
    lawful = lawful_here o h e.lawful;
    reached = e.reached ∙ after_here o h;
    in_time = λ m. (all_parts m).1;
    passes = λ m. (all_parts m).0;
    audited = audited_here i o p feed table robot press deposit crane watch s (record { history = h; lawful = e.lawful; reached = e.reached; parts = e.parts }) is are;
  }
