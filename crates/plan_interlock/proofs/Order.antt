-- What the engine says of the order of calls, by a plan.
use Rattle.std.proofs.Common.{ℕ, arith}
use Rattle.plan_types.specs.Table.{PlanTable}
use Rattle.word_interlock.proofs.lemmas.Histories.{sound-after}
use Rattle.word_interlock.proofs.lemmas.One.{history_is_seen, moments_are_shown}
use Rattle.word_interlock.proofs.lemmas.Receipts.{receipts_come_first}
use Rattle.word_interlock.proofs.lemmas.Running.{calls_follow_receipts, runs_keep_order}
use Rattle.word_interlock.proofs.lemmas.Settling as engine
use Rattle.plan_interlock.specs.declared.rules.PlanRules.{PlanRules}
use Rattle.plan_interlock.specs.Book.{plan_book, plan_of}
use Rattle.plan_interlock.specs.BookKept.{plan_is_rule_book}
use Rattle.plan_interlock.specs.Order.{BusyCallsAreFew, CallsKeepOrder, HistoryIsOne}

pub calls_keep_order : (t : PlanTable) → CallsKeepOrder t
calls_keep_order t = record { runs = runs_keep_order (plan_book t) (plan_is_rule_book t); receipts = calls_follow_receipts (plan_book t) PlanRules }

pub history_is_one : (rules : PlanRules) → HistoryIsOne rules
history_is_one rules = let t = plan_of rules in record {
  seen = history_is_seen (plan_book t) (plan_is_rule_book t) rules (Unit {0});
  shown = moments_are_shown (plan_book t) (plan_is_rule_book t) rules (Unit {0});
  receipts = receipts_come_first (plan_book t) (plan_is_rule_book t) rules (Unit {0});
}

pub busy_is_paid : (t : PlanTable) (tries : ℕ) → BusyCallsAreFew t tries
busy_is_paid t tries = let paid = engine.busy_is_paid (plan_book t) (plan_is_rule_book t) tries in record {
  paid = paid;
  few = λ v w calls makes lawful.
      let raised = paid.stamps v w calls makes lawful.legal in
      let most = (sound-after (plan_book t) (plan_is_rule_book t) v.opening w.seen lawful.opened).1.sound.stamp_in_range in
      omega (arith, raised, most);
}
