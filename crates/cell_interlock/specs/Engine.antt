-- The engine's views, with the rules of the cell, and the cell's own views of the same.
use Rattle.cell_types.specs.declared.machine.Machine.{Machine}
use Rattle.cell_types.specs.declared.call.Call.{Call}
use Rattle.cell_types.specs.declared.answer.Answer.{Answer}
use Rattle.cell_types.specs.declared.answer.Event.{Event}
use Rattle.cell_types.specs.declared.reply.Reply.{Reply}
use Rattle.cell_types.specs.declared.reply.Reply.TheVariants.{Settled, Busy}
use Rattle.cell_rules.specs.ModelState.{ModelState}
use Rattle.word_interlock.specs.Views as engine
use Rattle.word_interlock.specs.declared.reply.Reply.{Reply as EngineReply}
use Rattle.word_interlock.specs.declared.reply.Reply.TheVariants.{Settled as EngineSettled, Busy as EngineBusy}
use Rattle.cell_interlock.specs.declared.rules.CellRules.{CellRules}
use Rattle.cell_interlock.specs.Views.{PassView, ReceiptView, InterlockView, TryView}

abbrev pub EnginePass : Type 0
EnginePass = engine.PassView CellRules ModelState Machine Event

abbrev pub EngineInterlock : Type 0
EngineInterlock = engine.InterlockView CellRules ModelState

abbrev pub EngineReceipt : Type 0
EngineReceipt = engine.ReceiptView ModelState Machine Event

abbrev pub EngineTry : Type 0
EngineTry = engine.TryView CellRules ModelState Machine Call Event

abbrev pub pass_from : EnginePass → PassView
pass_from p = record {
  table = p.table;
  opening = p.opening;
  machine = p.actor;
  seen = p.seen;
  since = p.since;
  loads = p.loads;
  exchanges = p.exchanges;
  moments = p.moments;
}

-- the engine's view of a pass
abbrev pub pass_to : PassView → EnginePass
pass_to v = record {
  table = v.table;
  rules = record {};
  opening = v.opening;
  actor = v.machine;
  seen = v.seen;
  since = v.since;
  loads = v.loads;
  exchanges = v.exchanges;
  moments = v.moments;
}

abbrev pub interlock_from : EngineInterlock → InterlockView
interlock_from i = record { table = i.table; opening = i.opening; tries = i.tries }

abbrev pub receipt_from : EngineReceipt → ReceiptView
receipt_from r = record { table = r.table; opening = r.opening; seen = r.seen; moments = r.moments }

abbrev pub try_from : EngineTry → TryView
try_from t = record { pass = pass_from t.pass; call = t.call; lost = t.lost; tries = t.tries }

abbrev pub reply_from : EngineReply Answer → Reply
reply_from (EngineSettled answer stamp) = Settled answer stamp
reply_from (EngineBusy lost stamp) = Busy lost stamp
