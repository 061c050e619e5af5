-- What isn't a round.
use Rattle.std.proofs.Common.{◌≡◌, ◌≢◌, ◌+◌, ◌<◌, ◌≤◌, ℕ, true, false, List, [], ◌∷◌, inl, inr, refl, sym, ◌∙◌, ap, subst, arith}
use Rattle.cell_rules.specs.Types.{Machine, Feed, Table, Robot, Press, Deposit, Crane, Watch}
use Rattle.cell_rules.specs.Names.{ModelState}
use Rattle.cell_interlock.specs.Views.{InterlockView}
use Rattle.cell_notes.specs.declared.status.Status.{Status}
use Rattle.cell_notes.specs.declared.status.Status.TheVariants.{Fine, Worn}
use Rattle.cell_threads.specs.Results.{outputs_in}
use Rattle.cell_threads.specs.Workers.{AreTaken, last_of}
use Rattle.cell_threads.specs.declared.six_of.SixOf.{SixOf}
use Rattle.cell_renewal.specs.Renewing.{AreAllFine, OpensAfter}
use Rattle.cell_renewal.specs.declared.renewed.RoundEnd.TheVariants.{GoesOn}
use Rattle.cell_renewal.specs.RenewalExamples.{six}
use Rattle.cell_renewal.specs.RoundExamples.{AreRounds, Counting, IsOver, LeadsOn, Left, Nothings, Over, RoundsAreTold, SixEnds, TurnoverIsTold, how}
use Rattle.cell_renewal.specs.RoundExamples.{IsOverBy, IsOverOf, LeadsOnBy, all_but, all_ready_but, each_goes, each_ready, ends_as, tells_tries, told_otherwise}

watched : (before : Counting) (left : Left) (sink : ℕ) → IsOver before left sink → left.watch ≡ before.watch + 1
watched before left sink k = k.told.watch_is ∙ k.told.watched_so.does

another_watch : (before now : Counting) → now.watch ≢ before.watch + 1 → LeadsOn before now → ⊥
another_watch before now apart k = apart (k.watch_is ∙ watched before k.left now.sink k.ends)

abbrev AllFine : SixOf Status Status Status Status Status Status → Type 0
AllFine each = AreAllFine how how how how how how each

fine : AllFine (six Fine Fine Fine Fine Fine Fine)
fine = record { feed = refl; table = refl; robot = refl; press = refl; deposit = refl; crane = refl }

all_fine : (first : Counting) (left : Left) (sink : ℕ) → left.outputs ≡ six Fine Fine Fine Fine Fine Fine → AreRounds first left sink → ⊥
all_fine first left sink e k = k.not_all_fine (subst AllFine (sym e) fine)

watch_tries : (before : Counting) (left : Left) (sink : ℕ) → IsOverBy tells_tries before left sink → left.watch ≡ 7
watch_tries before left sink k = k.told.watch_is ∙ (k.told.watched_so.does ∙ k.told.losing)

-- the worker of a machine was told what all are told
told_so : (m : Machine) → m ≢ Watch → (before : Counting) (left : Left) (sink : ℕ) → IsOverOf (told_otherwise m) before left sink → ⊥
told_so Feed other before left sink k = k.told.given.feed.1 refl (refl, k.told.losing, refl)
told_so Table other before left sink k = k.told.given.table.1 refl (refl, k.told.losing, refl)
told_so Robot other before left sink k = k.told.given.robot.1 refl (refl, k.told.losing, refl)
told_so Press other before left sink k = k.told.given.press.1 refl (refl, k.told.losing, refl)
told_so Deposit other before left sink k = k.told.given.deposit.1 refl (refl, k.told.losing, refl)
told_so Crane other before left sink k = k.told.given.crane.1 refl (refl, k.told.losing, refl)
told_so Watch other before left sink k = other refl

given : (each : SixEnds) (before : Counting) (left : Left) (sink : ℕ) → IsOverOf (ends_as each) before left sink → left.outputs ≡ each
given each before left sink k =
    let g = k.told.given in
    let all : outputs_in k.told.results ≡ each = (λ i. record {
      feed = g.feed.1 i;
      table = g.table.1 i;
      robot = g.robot.1 i;
      press = g.press.1 i;
      deposit = g.deposit.1 i;
      crane = g.crane.1 i;
    }) in
    ap (λ (l : Left). l.outputs) k.is ∙ (k.told.outputs ∙ all)

differ : ¬ (true ≡ false)
differ e = cc

worn_is_not_fine : ¬ (Worn ≡ Fine)
worn_is_not_fine e = cc

stays_of : (m : Machine) → m ≢ Watch → (before now : Counting) → LeadsOnBy how (all_but m) before now → ⊥
stays_of Feed other before now k = differ k.goes_on.feed
stays_of Table other before now k = differ k.goes_on.table
stays_of Robot other before now k = differ k.goes_on.robot
stays_of Press other before now k = differ k.goes_on.press
stays_of Deposit other before now k = differ k.goes_on.deposit
stays_of Crane other before now k = differ k.goes_on.crane
stays_of Watch other before now k = other refl

low : (end next : ModelState) → OpensAfter 9 end next → next.stamp ≤ 9
low end next (inl k) = let again : next.stamp ≡ 0 = ap (λ (s : ModelState). s.stamp) k.1 in omega (arith, again)
low end next (inr k) = let same : next.stamp ≡ end.stamp = ap (λ (s : ModelState). s.stamp) k.1 in omega (arith, same, k.0)

more_rounds : (before : Counting) (rounds : List Counting) → AreTaken LeadsOn before rounds → (before.watch ≤ (last_of before rounds).watch) × (before.sink ≤ (last_of before rounds).sink)
more_rounds before [] k = (omega arith, omega arith)
more_rounds before (now ∷ rounds) k =
    let rest = more_rounds now rounds k.1 in
    let one : now.watch ≡ before.watch + 1 = k.0.watch_is ∙ watched before k.0.left now.sink k.0.ends in
    let more : now.sink ≡ before.sink + 1 = k.0.ends.taken in
    (omega (arith, rest.0, one), omega (arith, rest.1, more))

counted : (first : Counting) (left : Left) (sink : ℕ) → AreRounds first left sink → (first.watch < left.watch) × (first.sink < sink)
counted first left sink k =
    let most = more_rounds first k.come.turns k.come.taken in
    let at_watch : (last_of first k.come.turns).watch ≡ k.last.watch = ap (λ (r : Counting). r.watch) k.come.last in
    let at_sink : (last_of first k.come.turns).sink ≡ k.last.sink = ap (λ (r : Counting). r.sink) k.come.last in
    let one : left.watch ≡ k.last.watch + 1 = watched k.last left sink k.ends in
    let more : sink ≡ k.last.sink + 1 = k.ends.taken in
    (omega (arith, most.0, at_watch, one), omega (arith, most.1, at_sink, more))

-- ---- what comes after a round

one_stays : (m : Machine) → m ≢ Watch → (left : Left) (workers : Nothings) (watch : ℕ) (opening : ModelState) → Over (all_but m) each_ready left (GoesOn workers watch opening) → ⊥
one_stays Feed other left workers watch opening k = differ k.goes_on.feed
one_stays Table other left workers watch opening k = differ k.goes_on.table
one_stays Robot other left workers watch opening k = differ k.goes_on.robot
one_stays Press other left workers watch opening k = differ k.goes_on.press
one_stays Deposit other left workers watch opening k = differ k.goes_on.deposit
one_stays Crane other left workers watch opening k = differ k.goes_on.crane
one_stays Watch other left workers watch opening k = other refl

unready : (m : Machine) → m ≢ Watch → (left : Left) (workers : Nothings) (watch : ℕ) (opening : ModelState) (i : InterlockView) → i.opening ≡ opening → Over each_goes (all_ready_but m) left (GoesOn workers watch opening) → ⊥
unready Feed other left workers watch opening i is k = differ (k.ready i is).feed
unready Table other left workers watch opening i is k = differ (k.ready i is).table
unready Robot other left workers watch opening i is k = differ (k.ready i is).robot
unready Press other left workers watch opening i is k = differ (k.ready i is).press
unready Deposit other left workers watch opening i is k = differ (k.ready i is).deposit
unready Crane other left workers watch opening i is k = differ (k.ready i is).crane
unready Watch other left workers watch opening i is k = other refl

turnover : TurnoverIsTold
turnover = record {
  ends = λ left worn. (refl, λ k. worn_is_not_fine (sym worn ∙ k.crane));
  all_fine = λ left are k. k.1 (subst AllFine (sym are) fine);
  left_otherwise = λ left last apart k. apart k.0;
  one_is_worn = λ left workers watch opening worn k. worn_is_not_fine (sym worn ∙ k.fine.press);
  another_watch = λ left workers watch opening apart k. apart k.watch_is;
  stamp_past_the_mark = λ left workers watch opening past k. let most = low left.end opening k.opens in omega (arith, past, most);
  one_stays = one_stays;
  one_is_not_ready = unready;
}

pub rounds_are_told : RoundsAreTold
rounds_are_told = record {
  watch_tries = watch_tries;
  watch_pass = λ before left sink k. k.told.watched_so.does refl;
  one_told_otherwise = told_so;
  given = given;
  not_fine = λ before now k. worn_is_not_fine k.fine.feed;
  stays = stays_of;
  low_stamp = λ before now k. low k.left.end now.opening k.opens;
  counted = counted;
  turnover = turnover;
  not_taken = λ before left sink apart k. apart k.taken;
  not_watched = λ before left sink apart k. apart (watched before left sink k);
  another_watch = another_watch;
  another_sink = λ before now apart k. apart k.ends.taken;
  all_fine = all_fine;
  start = λ r. refl;
  journals = λ r. refl;
  end = λ r. refl;
  left_end = λ r watch. refl;
  outputs = λ r watch. refl;
}
