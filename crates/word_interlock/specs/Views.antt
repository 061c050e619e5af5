-- What contracts see of an interlock and of a pass. No program stores these lists of events.
use Rattle.std.specs.Prelude.{ℕ, List}
use Rattle.atomic_table.specs.Seated.{TableId}
use Rattle.word_interlock.specs.declared.views.ActorView.{ActorView}
use Rattle.word_interlock.specs.declared.views.HistoryView.{HistoryView}
use Rattle.word_interlock.specs.declared.views.Moment.{Moment}

-- a pass: the table of its interlock, the rules of this and the state that it opened with, its actor, the history that
-- it has seen, the part of it that it had seen right after its last load, the numbers of its loads and exchanges, and
-- the moments so far at the last step of its calls
pub record PassView (R S M E : Type 0) : Type 0 where
  pub table : TableId
  pub rules : R
  pub opening : S
  pub actor : M
  pub seen : List E
  pub since : List E
  pub loads : ℕ
  pub exchanges : ℕ
  pub moments : List (Moment M E)

-- an interlock: its table, its rules, the state that it opened with, and how many exchanges a call may lose
pub record InterlockView (R S : Type 0) : Type 0 where
  pub table : TableId
  pub rules : R
  pub opening : S
  pub tries : ℕ

-- a receipt: the table of its interlock, the state that this opened with, the history that its pass had seen, and the
-- moments so far at the last step of that pass's calls
pub record ReceiptView (S M E : Type 0) : Type 0 where
  pub table : TableId
  pub opening : S
  pub seen : List E
  pub moments : List (Moment M E)

-- a call that isn't made yet: its pass, how many exchanges it has lost, and how many it may lose
pub record TryView (R S M C E : Type 0) : Type 0 where
  pub pass : PassView R S M E
  pub call : C
  pub lost : ℕ
  pub tries : ℕ

-- several passes in one: the table of their interlock, and a view for each actor
pub record PassesView (R S M E : Type 0) : Type 0 where
  pub table : TableId
  pub actors : List (ActorView R S M E)

-- the receipt with a table and a history's view, and back
abbrev pub receipt_with : {S M E : Type 0} → TableId → HistoryView S M E → ReceiptView S M E
receipt_with table told =
    record { table = table; opening = told.opening; seen = told.seen; moments = told.moments }

abbrev pub told_by : {S M E : Type 0} → ReceiptView S M E → HistoryView S M E
told_by r = record { opening = r.opening; seen = r.seen; moments = r.moments }

module _ {R S M E : Type 0} where
  -- the receipt of all that a pass has seen
  abbrev pub receipt_of : PassView R S M E → ReceiptView S M E
  receipt_of v = record { table = v.table; opening = v.opening; seen = v.seen; moments = v.moments }

  -- the pass with a table and an actor's view
  abbrev pub pass_of : TableId → ActorView R S M E → PassView R S M E
  pass_of table p = record {
    table = table;
    rules = p.rules;
    opening = p.opening;
    actor = p.actor;
    seen = p.seen;
    since = p.since;
    loads = p.loads;
    exchanges = p.exchanges;
    moments = p.moments;
  }

  abbrev pub view_of : PassView R S M E → ActorView R S M E
  view_of v = record {
    rules = v.rules;
    opening = v.opening;
    actor = v.actor;
    seen = v.seen;
    since = v.since;
    loads = v.loads;
    exchanges = v.exchanges;
    moments = v.moments;
  }
