-- All passes come together at the end.
use Rattle.cell_interlock.proofs.Names.{◌≡◌, List, [], ◌∷◌, Some, sym, ◌∙◌, subst, Machine, Feed, Table, Robot, Press, Deposit, Crane, Watch, Event, ModelState, after, IsAudited, Waits, told, view_of, cell_book, EnginePass, pass_from, HasPart, IsEnd, ArePassesOf, journals_by, pass_in, InterlockView, Passes}
use Rattle.word_interlock.specs.Bunches as engine
use Rattle.cell_interlock.proofs.Instance.{after_here, legal_here, lawful_here, waits_here}

-- the part of a pass in the history
pub part_here : (o : ModelState) (h : List Event) (p : EnginePass) (m : Machine) → engine.HasPart cell_book o h (view_of p) → p.actor ≡ m → HasPart o h m (pass_from p)
part_here o h p m f named = record {
  opened = f.opened;
  seen = subst (λ (k : Machine). Waits k p.seen h) named (waits_here p.actor p.seen h f.seen);
}

module _ (i : InterlockView) (o : ModelState) (p : Passes) (feed table robot press deposit crane watch : EnginePass) (s : ModelState) (e : engine.IsEnd cell_book o (view_of feed ∷ view_of table ∷ view_of robot ∷ view_of press ∷ view_of deposit ∷ view_of crane ∷ view_of watch ∷ []) s) (is : p ≡ record { feed = pass_from feed; table = pass_from table; robot = pass_from robot; press = pass_from press; deposit = pass_from deposit; crane = pass_from crane; watch = pass_from watch }) (are : ArePassesOf i p) where
  all_parts : (m : Machine) → HasPart o e.history m (pass_in p m)
  all_parts m = elim m as (λ k. HasPart o e.history k (pass_in p k)) [
    | Feed ↦ subst (λ (x : Passes). HasPart o e.history Feed x.feed) (sym is) (part_here o e.history feed Feed e.parts.0 (subst (λ (x : Passes). x.feed.machine ≡ Feed) is are.feed.machine))
    | Table ↦ subst (λ (x : Passes). HasPart o e.history Table x.table) (sym is) (part_here o e.history table Table e.parts.1.0 (subst (λ (x : Passes). x.table.machine ≡ Table) is are.table.machine))
    | Robot ↦ subst (λ (x : Passes). HasPart o e.history Robot x.robot) (sym is) (part_here o e.history robot Robot e.parts.1.1.0 (subst (λ (x : Passes). x.robot.machine ≡ Robot) is are.robot.machine))
    | Press ↦ subst (λ (x : Passes). HasPart o e.history Press x.press) (sym is) (part_here o e.history press Press e.parts.1.1.1.0 (subst (λ (x : Passes). x.press.machine ≡ Press) is are.press.machine))
    | Deposit ↦ subst (λ (x : Passes). HasPart o e.history Deposit x.deposit) (sym is) (part_here o e.history deposit Deposit e.parts.1.1.1.1.0 (subst (λ (x : Passes). x.deposit.machine ≡ Deposit) is are.deposit.machine))
    | Crane ↦ subst (λ (x : Passes). HasPart o e.history Crane x.crane) (sym is) (part_here o e.history crane Crane e.parts.1.1.1.1.1.0 (subst (λ (x : Passes). x.crane.machine ≡ Crane) is are.crane.machine))
    | Watch ↦ subst (λ (x : Passes). HasPart o e.history Watch x.watch) (sym is) (part_here o e.history watch Watch e.parts.1.1.1.1.1.1.0 (subst (λ (x : Passes). x.watch.machine ≡ Watch) is are.watch.machine))
  ]

  reached_here : s ≡ after o e.history
  reached_here = e.reached ∙ after_here o e.history

  -- an audit accepts the journals by this history
  pub audited_here : IsAudited o (journals_by o p) (Some s) e.history
  audited_here =
      subst (λ (x : ModelState). IsAudited o (journals_by o p) (Some x) e.history) (sym reached_here) (told o e.history (λ m. (pass_in p m).seen) (legal_here o e.history e.lawful.legal) (λ m. (all_parts m).seen))

  pub end_here : IsEnd o p s
  end_here = record { history = e.history; lawful = lawful_here o e.history e.lawful; reached = reached_here; passes = all_parts; audited = audited_here }
