-- What holds of the passes of an interlock, of its end and of calls one after another.
use Rattle.cell_interlock.proofs.Names.{◌≡◌, ℕ, List, [], ◌∷◌, ◌++◌, refl, sym, ◌∙◌, subst, append-nil, Machine, Feed, Table, Robot, Press, Deposit, Crane, Watch, Call, Event, Reply, Settled, Busy, Ok, ModelState, BeginsWith, SeenAfter, event, PassView, InterlockView, IsSamePass, ArePassesOf, pass_in, Passes}
use Rattle.cell_interlock.specs.Settling.{MadeCall, MakesCalls, IsLater}
use Rattle.cell_interlock.specs.EachLaws.{EndsAreAudited, CallsAddUp, EachLaws}
use Rattle.word_interlock.specs.Moments.{events_of}
use Rattle.word_interlock.proofs.lemmas.Histories.{begins-trans, begins-more}

-- each machine's own pass
own : (i : InterlockView) (p : Passes) → ArePassesOf i p → (m : Machine) → ((pass_in p m).table ≡ i.table) × ((pass_in p m).machine ≡ m)
own i p f Feed = (f.feed.table, f.feed.machine)
own i p f Table = (f.table.table, f.table.machine)
own i p f Robot = (f.robot.table, f.robot.machine)
own i p f Press = (f.press.table, f.press.machine)
own i p f Deposit = (f.deposit.table, f.deposit.machine)
own i p f Crane = (f.crane.table, f.crane.machine)
own i p f Watch = (f.watch.table, f.watch.machine)

own_back : (i : InterlockView) (p : Passes) → ((m : Machine) → ((pass_in p m).table ≡ i.table) × ((pass_in p m).machine ≡ m)) → ArePassesOf i p
own_back i p f = record {
  feed = record { table = (f Feed).0; machine = (f Feed).1 };
  table = record { table = (f Table).0; machine = (f Table).1 };
  robot = record { table = (f Robot).0; machine = (f Robot).1 };
  press = record { table = (f Press).0; machine = (f Press).1 };
  deposit = record { table = (f Deposit).0; machine = (f Deposit).1 };
  crane = record { table = (f Crane).0; machine = (f Crane).1 };
  watch = record { table = (f Watch).0; machine = (f Watch).1 };
}

ends : (opening : ModelState) (p : Passes) (s : ModelState) → EndsAreAudited opening p s
ends opening p s = record {
  run = λ r. record { history = events_of r.moments; lawful = r.lawful; reached = r.reached; passes = r.passes; audited = r.audited };
  end = λ e none. none e.history e.audited;
}

-- ---- calls one after another

later_itself : (v : PassView) → IsLater v v
later_itself v = record { pass = record { table = refl; opening = refl; machine = refl }; seen = ([], sym (append-nil v.seen)) }

later_on : (v u w : PassView) → IsLater v u → IsLater u w → IsLater v w
later_on v u w f g = record {
  pass = record { table = g.pass.table ∙ f.pass.table; opening = g.pass.opening ∙ f.pass.opening; machine = g.pass.machine ∙ f.pass.machine };
  seen = begins-trans v.seen u.seen w.seen f.seen g.seen;
}

-- a call that was made leaves its pass later
call_of : (v w : PassView) (c : Call) (r : Reply) → IsSamePass v w → SeenAfter v.machine c (Ok r) v.opening v.seen w.seen → IsLater v w
call_of v w c (Settled a stamp) pass seen =
    let e : List Event = event v.machine c a ∷ [] in
    record { pass = pass; seen = subst (λ (l : List Event). BeginsWith l v.seen) (sym seen.0.ends) (begins-more seen.0.point e v.seen seen.0.begins) }
call_of v w c (Busy lost stamp) pass seen = record { pass = pass; seen = seen.0.begins }

module _ (tries : ℕ) where
  joined : (v u w : PassView) (xs ys : List MadeCall) → MakesCalls tries v xs u → MakesCalls tries u ys w → MakesCalls tries v (xs ++ ys) w
  joined v u w [] [] f g = later_on v u w f g
  joined v u w [] (y ∷ ys) f g = (later_on v u y.before f g.0, g.1, g.2)
  joined v u w (x ∷ xs) ys f g = (f.0, f.1, joined x.after u w xs ys f.2 g)

  calls_of : (v w : PassView) (calls : List MadeCall) → MakesCalls tries v calls w → IsLater v w
  calls_of v w [] k = k
  calls_of v w (x ∷ rest) k = later_on v x.before w k.0 (later_on x.before x.after w (call_of x.before x.after x.call x.reply k.1.pass k.1.seen) (calls_of x.after w rest k.2))

  calls : CallsAddUp tries
  calls = record {
    asked = λ heard v w c reply k. (later_itself v, record { pass = k.pass; seen = k.seen; busy = k.busy }, later_itself w);
    saw_more = λ v w k. record { pass = k.pass; seen = k.seen.begins };
    joined = joined;
    forgets_nothing = λ v w made k. let later = calls_of v w made k in (later.seen, later.pass.machine);
  }

pub each_laws : EachLaws
each_laws = record { passes = λ i p. (own i p, own_back i p); ends = ends; calls = calls }
