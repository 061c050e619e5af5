-- The rules of a plant, by its plan.
use Rattle.std.specs.Prelude.{ℕ, nat_eq, min, List, [], ◌∷◌, ◌++◌}
use Rattle.std.specs.List.{range_with_len}
use Rattle.plan_types.specs.declared.call.Call.{Call}
use Rattle.plan_types.specs.declared.answer.Answer.{Answer}
use Rattle.plan_types.specs.declared.answer.Event.{Event}
use Rattle.plan_types.specs.Table.{PlanTable, watch}
use Rattle.plan_types.specs.Plan.{IsPlan}
use Rattle.plan_rules.specs.declared.state.State.{State}
use Rattle.plan_rules.specs.Reply.{reply, next}
use Rattle.plan_rules.specs.History.{is_done_answer}
use Rattle.plan_word.specs.OfPlan.{IsOfPlan}
use Rattle.plan_word.specs.Packed.{packed}
use Rattle.word_interlock.specs.RuleBook.{RuleBook}
use Rattle.plan_interlock.specs.declared.rules.PlanRules.{PlanRules}

-- the plan of some rules
abbrev pub plan_of : PlanRules → PlanTable
plan_of rules = rules.plan.table

-- the machines of a plan, which has at most 30, and the watch
abbrev pub callers_of : PlanTable → List ℕ
callers_of t = range_with_len 0 (min t.machines 30) ++ watch ∷ []

-- states are those of the plan; answers and the states after calls are those of the sequential interlock
abbrev pub plan_book : PlanTable → RuleBook State ℕ Call Answer Event
plan_book t = record {
  is_sound = λ s. IsPlan t × IsOfPlan t s;
  reply = reply t;
  next = next t;
  is_done = is_done_answer;
  stamp = λ s. s.stamp;
  packed = packed t;
  same = nat_eq;
  actors = callers_of t;
  event = λ m c a. record { machine = m; call = c; answer = a };
  actor_of = λ e. e.machine;
  call_of = λ e. e.call;
  answer_of = λ e. e.answer;
}
