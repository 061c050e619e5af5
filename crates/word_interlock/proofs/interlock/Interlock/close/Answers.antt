use Rattle.std.proofs.Common.{◌≡◌, sym, subst}
use Rattle.word_interlock.specs.History.{after}
use Rattle.word_interlock.specs.Views.{InterlockView, PassesView}
use Rattle.word_interlock.specs.Bunches.{IsEnd}
use Rattle.word_interlock.specs.Run.{IsRun}
use Rattle.word_interlock.proofs.Closing.{ended, end_state, end_run}
use Rattle.word_interlock.proofs.interlock.Interlock.close.Goals as goal

pub unpack-requires : goal.unpack-requires
unpack-requires g c =
    let key = c.self.inside.table.shared.key in let b = g.R.Rules.book key.rules in
    let e = ended b (g.met.R.Rules.lawful key.rules) key.rules key.opening _ _ _ _ _ c.close_with-closed.ensures.values.2 c.word-word.ensures in
    subst (λ (x : g.row.R.Denot). (s : g.row.R-State.Denot) × (g.R.Rules.book x).is_sound s × ((g.R.Rules.book x).packed s ≡ c.word-word.result)) (sym c.self.invariant.2)
    (after b key.opening e.history, e.sound, e.found)

pub returns : goal.returns
returns g c =
    let key = c.self.inside.table.shared.key in let b = g.R.Rules.book key.rules in let law = g.met.R.Rules.lawful key.rules in
    let e = ended b law key.rules key.opening _ _ _ _ _ c.close_with-closed.ensures.values.2 c.word-word.ensures in
    let says = subst (λ (x : g.row.R.Denot). (s : g.row.R-State.Denot) → (g.R.Rules.book x).is_sound s → (g.R.Rules.book x).packed s ≡ c.word-word.result → c.unpack.result ≡ s) c.self.invariant.2 c.unpack.ensures in
    let is : c.unpack.result ≡ after b key.opening e.history = says (after b key.opening e.history) e.sound e.found in
    let end = end_state b law key.rules key.opening _ _ c.unpack.result e is in
    let run = end_run b law key.rules key.opening _ _ c.unpack.result e is in
    record {
      end = subst (λ (i : InterlockView g.row.R.Denot g.row.R-State.Denot). IsEnd (g.R.Rules.book i.rules) i.opening c.args.passes.actors c.unpack.result) c.self.view_is
          (subst (λ (p : PassesView g.row.R.Denot g.row.R-State.Denot g.row.R-Actor.Denot g.row.R-Event.Denot). IsEnd b key.opening p.actors c.unpack.result) c.passes.view_is end);
      run = subst (λ (i : InterlockView g.row.R.Denot g.row.R-State.Denot). IsRun (g.R.Rules.book i.rules) i.opening c.args.passes.actors c.unpack.result) c.self.view_is
          (subst (λ (p : PassesView g.row.R.Denot g.row.R-State.Denot g.row.R-Actor.Denot g.row.R-Event.Denot). IsRun b key.opening p.actors c.unpack.result) c.passes.view_is run);
    }
