use Rattle.std.proofs.Common.{◌≡◌, ◌+◌, List, []}
use Rattle.word_interlock.specs.declared.views.HistoryView.{HistoryView}
use Rattle.word_interlock.specs.History.{BeginsWith}
use Rattle.word_interlock.specs.Views.{PassView}
use Rattle.word_interlock.specs.Seen.{IsUnmade}
use Rattle.word_interlock.specs.Steps.{Loaded}
use Rattle.word_interlock.specs.Going.{IsUnderWay}
use Rattle.word_interlock.specs.Timing.{Lasts}
use Rattle.word_interlock.proofs.interlock.Interlock.reply_from.Given as goal

abbrev pub invariant-loop-lost : goal.invariant-loop-lost
invariant-loop-lost g l = let b = g.R.Rules.book l.fn.self.rules in
    (l.pass.table ≡ l.fn.pass.table) × IsUnderWay b l.pass l.call l.answer l.word l.new l._lost
    × ((heard : List (HistoryView g.row.R-State.Denot g.row.R-Actor.Denot g.row.R-Event.Denot)) (v : PassView g.row.R.Denot g.row.R-State.Denot g.row.R-Actor.Denot g.row.R-Event.Denot)
    → Loaded b l.fn.self.rules l.call heard v l.fn.found l.fn.pass
    → IsUnmade b v l.call l.pass × BeginsWith l.pass.since v.seen × (l.pass.loads ≡ v.loads + 1) × (l.pass.exchanges ≡ v.exchanges + l._lost) × Lasts b heard v [] l.pass)
