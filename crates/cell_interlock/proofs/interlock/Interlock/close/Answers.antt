use Rattle.cell_interlock.proofs.Names.{List, ◌∷◌, sym, ap, ◌∙◌, subst, Machine, Event, ModelState, view_of, cell_book, InterlockView, IsEnd}
use Rattle.word_interlock.specs.declared.views.ActorView.{ActorView}
use Rattle.word_interlock.specs.Bunches as engine
use Rattle.cell_interlock.specs.declared.rules.CellRules.{CellRules}
use Rattle.word_interlock.specs.Run as engine_run
use Rattle.cell_interlock.specs.Timing.{IsRun}
use Rattle.cell_interlock.proofs.Closing.{end_here}
use Rattle.cell_interlock.proofs.Timing.{run_here}
use Rattle.cell_interlock.proofs.interlock.Interlock.close.Goals as goal

pub returns : goal.returns
returns c =
    let f = c.feed.inside.inner in let t = c.table.inside.inner in let r = c.robot.inside.inner in let q = c.press.inside.inner in let d = c.deposit.inside.inner in let k = c.crane.inside.inner in let w = c.watch.inside.inner in
    let one = c.give_back.ensures.given ∙ ap (λ (l : List (ActorView CellRules ModelState Machine Event)). view_of k ∷ l) c.of-all.ensures.actors in
    let two = c.give_back-2.ensures.given ∙ ap (λ (l : List (ActorView CellRules ModelState Machine Event)). view_of d ∷ l) one in
    let three = c.give_back-3.ensures.given ∙ ap (λ (l : List (ActorView CellRules ModelState Machine Event)). view_of q ∷ l) two in
    let four = c.give_back-4.ensures.given ∙ ap (λ (l : List (ActorView CellRules ModelState Machine Event)). view_of r ∷ l) three in
    let five = c.give_back-5.ensures.given ∙ ap (λ (l : List (ActorView CellRules ModelState Machine Event)). view_of t ∷ l) four in
    let six = c.give_back-6.ensures.given ∙ ap (λ (l : List (ActorView CellRules ModelState Machine Event)). view_of f ∷ l) five in
    let o = c.self.inside.inner.opening in
    let end = subst (λ (l : List (ActorView CellRules ModelState Machine Event)). engine.IsEnd cell_book o l c.close.result) six c.close.ensures.end in
    let run = subst (λ (l : List (ActorView CellRules ModelState Machine Event)). engine_run.IsRun cell_book o l c.close.result) six c.close.ensures.run in
    record {
      end = subst (λ (i : InterlockView). IsEnd i.opening c.args.passes c.close.result) c.self.view_is
          (end_here c.args.self o c.args.passes f t r q d k w c.close.result end
          (λ i. record { feed = sym c.feed.view_is i; table = sym c.table.view_is i; robot = sym c.robot.view_is i; press = sym c.press.view_is i; deposit = sym c.deposit.view_is i; crane = sym c.crane.view_is i; watch = sym c.watch.view_is i }) c.requires.own);
      run = subst (λ (i : InterlockView). IsRun i.opening c.args.passes c.close.result) c.self.view_is
          (run_here c.args.self o c.args.passes f t r q d k w c.close.result run
          (λ i. record { feed = sym c.feed.view_is i; table = sym c.table.view_is i; robot = sym c.robot.view_is i; press = sym c.press.view_is i; deposit = sym c.deposit.view_is i; crane = sym c.crane.view_is i; watch = sym c.watch.view_is i }) c.requires.own);
    }
