-- Busy calls are paid for by changes, in the words of the cell.
use Rattle.cell_interlock.proofs.Names.{◌≡◌, ℕ, ◌+◌, ◌≤◌, List, [], ◌∷◌, refl, sym, ap, ◌∙◌, subst, arith, append-nil, Machine, Call, Answer, Event, Reply, Settled, Busy, ModelState, reply, after, is_done_answer, LawfulThroughout, cell_book, EnginePass, PassView, pass_from, pass_to, IsSamePass, HasChanges, IsOvertaken}
use Rattle.std.proofs.Common.{◌*◌}
use Rattle.word_interlock.specs.Seen as engine_seen
use Rattle.word_interlock.specs.Calls as engine_calls
use Rattle.word_interlock.specs.Settling as engine
use Rattle.word_interlock.proofs.lemmas.Settling as engine_proofs
use Rattle.cell_interlock.specs.declared.rules.CellRules.{CellRules}
use Rattle.cell_interlock.specs.BookKept.{cell_is_rule_book}
use Rattle.cell_interlock.specs.Calls.{IfBusy}
use Rattle.cell_interlock.specs.Settling.{MadeCall, once_busy, times_busy, IsMade, MakesCalls, BusyIsPaid, IsAskedUntilAnswered}
use Rattle.cell_interlock.proofs.Instance.{after_here, legal_there, changes_here}
use Rattle.cell_interlock.proofs.lemmas.Order.{reply_to, seen_there}

pub asked_here : (tries : ℕ) (v : EnginePass) (c : Call) (a : Answer) (stamp : ℕ) (w : EnginePass) → engine.IsAskedUntilAnswered cell_book tries v c a stamp w → IsAskedUntilAnswered tries (pass_from v) c a stamp (pass_from w)
asked_here tries v c a stamp w f = record {
  busy = f.busy;
  paid = record { loads = f.paid.loads; exchanges = f.paid.exchanges; risen = subst (λ (s : ModelState). s.stamp + f.busy * tries ≤ stamp) (after_here v.opening v.seen) f.paid.risen };
  last = f.last;
}

abbrev EngineCall : Type 0
EngineCall = engine.MadeCall CellRules ModelState Machine Call Answer Event

abbrev call_to : MadeCall → EngineCall
call_to x = record { before = pass_to x.before; call = x.call; reply = reply_to x.reply; after = pass_to x.after }

abbrev calls_to : List MadeCall → List EngineCall
calls_to [] = []
calls_to (x ∷ rest) = call_to x ∷ calls_to rest

once_there : (r : Reply) → engine.once_busy (reply_to r) ≡ once_busy r
once_there (Settled a stamp) = refl
once_there (Busy lost stamp) = refl

times_there : (calls : List MadeCall) → engine.times_busy (calls_to calls) ≡ times_busy calls
times_there [] = refl
times_there (x ∷ rest) = (λ i. once_there x.reply i + times_there rest i)

same_there : (v w : PassView) → IsSamePass v w → engine_seen.IsSamePass (pass_to v) (pass_to w)
same_there v w f = record { table = f.table; rules = refl; opening = f.opening; actor = f.machine }

overtaken_there : (tries : ℕ) (v w : PassView) (c : Call) (r : Reply) → IfBusy r (λ lost. IsOvertaken v v.seen c tries lost w) → engine_calls.IfBusy (reply_to r) (λ lost. engine_seen.IsOvertaken cell_book (pass_to v) v.seen c tries lost (pass_to w))
overtaken_there tries v w c (Settled a stamp) f = tt
overtaken_there tries v w c (Busy lost stamp) f = record {
  all_lost = f.all_lost;
  ready = ap is_done_answer (ap (λ (s : ModelState). reply s v.machine c) (after_here v.opening w.seen) ∙ f.ready);
  changed = record { more = f.changed.more; is = f.changed.is; many = f.changed.many };
}

made_there : (tries : ℕ) (x : MadeCall) → IsMade tries x → engine.IsMade cell_book tries (call_to x)
made_there tries x f = record {
  pass = same_there x.before x.after f.pass;
  seen = seen_there x.before.machine x.call x.reply x.before.opening x.before.seen x.after.seen f.seen;
  busy = overtaken_there tries x.before x.after x.call x.reply f.busy;
}

all_there : (tries : ℕ) (v w : PassView) (calls : List MadeCall) → MakesCalls tries v calls w → engine.MakesCalls cell_book tries (pass_to v) (calls_to calls) (pass_to w)
all_there tries v w [] f = record { pass = same_there v w f.pass; seen = f.seen }
all_there tries v w (x ∷ rest) f = (record { pass = same_there v x.before f.0.pass; seen = f.0.seen }, made_there tries x f.1, all_there tries x.after w rest f.2)

paid : (tries : ℕ) → engine.BusyIsPaid CellRules cell_book tries
paid tries = engine_proofs.busy_is_paid cell_book cell_is_rule_book tries

changes : (tries : ℕ) (v w : PassView) (calls : List MadeCall) → MakesCalls tries v calls w → HasChanges v.machine v.seen w.seen (times_busy calls * tries)
changes tries v w calls f =
    subst (λ (n : ℕ). HasChanges v.machine v.seen w.seen (n * tries)) (times_there calls) (changes_here v.machine v.seen w.seen (engine.times_busy (calls_to calls) * tries) ((paid tries).changes (pass_to v) (pass_to w) (calls_to calls) (all_there tries v w calls f)))

stamps : (tries : ℕ) (v w : PassView) (calls : List MadeCall) → MakesCalls tries v calls w → LawfulThroughout v.opening w.seen → (after v.opening v.seen).stamp + times_busy calls * tries ≤ (after v.opening w.seen).stamp
stamps tries v w calls f lawful =
    subst (λ (x : ℕ × ModelState × ModelState). x.1.stamp + x.0 * tries ≤ x.2.stamp) (λ i. (times_there calls i, after_here v.opening v.seen i, after_here v.opening w.seen i))
    ((paid tries).stamps (pass_to v) (pass_to w) (calls_to calls) (all_there tries v w calls f) (legal_there v.opening w.seen (lawful w.seen [] (sym (append-nil w.seen))).legal))

pub busy_is_paid : BusyIsPaid
busy_is_paid = record {
  changes = changes;
  stamps = stamps;
  few = λ tries v w calls f lawful. let most = (lawful w.seen [] (sym (append-nil w.seen))).stays_sound.stamp_in_range in omega (arith, stamps tries v w calls f lawful, most);
}
