-- The examples of what a call may and may not leave of its pass.
use Rattle.cell_interlock.proofs.Names.{◌≡◌, ℕ, ◌+◌, ◌<◌, ◌≤◌, true, List, [], ◌∷◌, ◌++◌, length, None, inr, refl, sym, ap, ◌∙◌, arith, same_from_push, Machine, Feed, Table, Press, Crane, Watch, Zone, Z3, Release, Stop, Done, Refused, Stopped, Event, ModelState, IsSound, IsLegal, Holds, changes_by_others, LawfulThroughout, needs, Waits, zone_at, PassView, InterlockView, IsSettled, HasSeenMore, HasChanges, StandsBefore, Passes, inl, subst, append-nil, cell_book, Moments, Lasts, IsInTime, HasPart}
use Rattle.atomic_table.specs.Seated.{TableId}
use Rattle.word_interlock.specs.History.{BeginsWith}
use Rattle.word_interlock.specs.Moments.{events_of, own_moments}
use Rattle.word_interlock.specs.declared.views.Moment.TheVariants.{Begins, Answered}
use Rattle.word_interlock.proofs.lemmas.Moments.{no_end, rest_of, none_begun}
use Rattle.cell_interlock.specs.BookKept.{cell_is_rule_book}
use Rattle.cell_rules.specs.declared.zones.ZoneState.{ZoneState}
use Rattle.cell_rules.proofs.lemmas.Lawful.{lawful_in, sound_from}
use Rattle.cell_rules.proofs.lemmas.Puts.{each_zone}
use Rattle.cell_rules.proofs.lemmas.UnchangedStates.{changes-append}
use Rattle.cell_rules.specs.Journal.{noted}
use Rattle.cell_rules.specs.Seen.{event}
use Rattle.cell_interlock.specs.Fresh.{IsFresh, AreFresh}
use Rattle.cell_interlock.specs.OutcomeExamples.{opened, claim, claimed, released, by_feed, again_by_feed, by_table, by_robot, by_watch, barred, press_pass, watch_pass, before, begun, after_claim, lost_both, AskExamples, LookExamples, AttemptExamples, MoreExamples, ChangeExamples, AnswerExamples, OrderExamples, StampExamples, ReceiptExamples, RunExamples, PaidExamples, FreshExamples, LineExamples, ViewExamples, CaseExamples, FieldExamples, BookExamples, PartExamples, JournalExamples, OutcomeExamples}
use Rattle.cell_interlock.proofs.EachCases.{each_laws}
use Rattle.cell_interlock.proofs.Settled.{lawful_history, settled, replied}

sound : IsSound opened
sound = sound_from opened (omega arith) (each_zone (λ z. lawful_in opened.full z (zone_at opened z) ≡ true) refl refl refl refl refl refl)

-- ---- what is wrong

-- changes that were seen before aren't new
counted : (m : Machine) (earlier now : List Event) (n : ℕ) → HasChanges m earlier now n → n + changes_by_others earlier m ≤ changes_by_others now m
counted m earlier now n f = omega (arith, changes-append m earlier f.more, ap (λ (h : List Event). changes_by_others h m) f.is, f.many)

abbrev first_by : List Event → Machine
first_by [] = Watch
first_by (e ∷ h) = e.machine

-- the first event of such a history is unlawful
unlawful : (rest : List Event) → LawfulThroughout opened (again_by_feed ∷ rest) → ⊥
unlawful rest l = let e = (l (again_by_feed ∷ []) rest refl).legal.0 in cc

-- ---- what is right

saw_nothing : Waits Press [] []
saw_nothing = record { begins = ([], refl); own = refl }

-- a claim that is Done, from a pass that has seen nothing
claim_done : (t : TableId) (l x : ℕ) → IsSettled (press_pass t [] [] l x) claim Done 1 (after_claim t)
claim_done t l x = settled (press_pass t [] [] l x) (after_claim t) claim Done 1 [] sound tt saw_nothing (record { table = refl; opening = refl; machine = refl }) refl refl refl

-- a stop that is Done
stop_done : (t : TableId) → IsSettled (watch_pass t [] 3 5) Stop Done 1 (record (watch_pass t (by_watch ∷ []) 4 6) { moments = Begins Watch ∷ Answered by_watch ∷ [] })
stop_done t = settled (watch_pass t [] 3 5) (record (watch_pass t (by_watch ∷ []) 4 6) { moments = Begins Watch ∷ Answered by_watch ∷ [] }) Stop Done 1 [] sound tt (record { begins = ([], refl); own = refl }) (record { table = refl; opening = refl; machine = refl }) refl refl refl

-- a claim that is refused after the stop
claim_barred : (t : TableId) → IsSettled (press_pass t [] [] 4 5) claim (Refused Stopped) 1 (press_pass t (by_watch ∷ barred ∷ []) [] 4 6)
claim_barred t =
    settled (press_pass t [] [] 4 5) (press_pass t (by_watch ∷ barred ∷ []) [] 4 6) claim (Refused Stopped) 1 (by_watch ∷ []) sound (refl, tt) (record { begins = (by_watch ∷ [], refl); own = refl })
    (record { table = refl; opening = refl; machine = refl }) refl refl refl

-- others have made changes meanwhile
more : (t : TableId) (seen now : List Event) (since : List Event) (l x k y : ℕ) → IsLegal opened now → Waits Press seen now → HasSeenMore (press_pass t seen since l x) (press_pass t now since k y)
more t seen now since l x k y legal waits = record { pass = record { table = refl; opening = refl; machine = refl }; lawful = lawful_history opened now sound legal; seen = waits }

both_by_feed : HasChanges Press [] (by_feed ∷ again_by_feed ∷ []) 2
both_by_feed = record { more = by_feed ∷ again_by_feed ∷ []; is = refl; many = omega arith }

-- ---- a whole call

-- a call of a pass that has seen nothing, whose load found nothing
alone : (v w : PassView) (between last : Moments) → v.moments ≡ [] → v.seen ≡ [] → w.moments ≡ (Begins v.machine ∷ between) ++ last → own_moments cell_book between v.machine ≡ [] → w.seen ≡ events_of w.moments → w.since ≡ [] → Lasts [] v last w
alone v w between last none unseen is quiet seen since = record {
  first = [];
  between = between;
  is = is;
  begins = subst (λ (l : Moments). BeginsWith [] l) (sym none) ([], refl);
  had_seen = subst (λ (l : List Event). BeginsWith [] l) (sym unseen) ([], refl);
  told = tt;
  shown = tt;
  own_first = ap (λ (l : Moments). own_moments cell_book l v.machine) (sym none);
  own_between = quiet;
  seen = seen;
  load = inl since;
}

-- the feed belt's beginning isn't the press's
another : (first between : Moments) → Begins Feed ∷ [] ≡ first ++ Begins Press ∷ between → ⊥
another [] between e = cc
another (x ∷ first) between e = no_end first (Begins Press) between (ap rest_of e)

abbrev by_feed_alone : Moments
by_feed_alone = Begins Feed ∷ Answered by_feed ∷ Begins Feed ∷ Answered again_by_feed ∷ []

ask : (t : TableId) → AskExamples t
ask t = record {
  done = replied [] _ _ _ _ _ _ (claim_done t 3 5) refl (omega arith) (alone (before t) (after_claim t) [] (Answered claimed ∷ []) refl refl refl refl refl refl);
  stops = replied [] _ _ _ _ _ _ (stop_done t) refl (omega arith) (alone (watch_pass t [] 3 5) (record (watch_pass t (by_watch ∷ []) 4 6) { moments = Begins Watch ∷ Answered by_watch ∷ [] }) [] (Answered by_watch ∷ []) refl refl refl refl refl refl);
  no_beginning = λ r. no_end r.real_time.first (Begins Press) r.real_time.between (same_from_push [] (r.real_time.first ++ Begins Press ∷ r.real_time.between) (Answered claimed) (Answered claimed) r.real_time.is).0;
  begun_by_another = λ r. another r.real_time.first r.real_time.between (same_from_push (Begins Feed ∷ []) (r.real_time.first ++ Begins Press ∷ r.real_time.between) (Answered claimed) (Answered claimed) r.real_time.is).0;
  other_table = λ u apart r. apart r.pass.table;
  other_opening = λ r. let e : 7 ≡ 0 = ap (λ (s : ModelState). s.stamp) r.pass.opening in omega arith;
  other_machine = λ r. let e = r.pass.machine in cc;
  unlawful = λ r. unlawful (claimed ∷ []) r.lawful;
  not_last = λ r. let e : Feed ≡ Press = ap (λ (x : Event). x.machine) (same_from_push (claimed ∷ []) r.seen.0.point by_feed claimed r.seen.0.ends).1 in cc;
  forgets = λ r. let e = (same_from_push [] r.seen.0.point claimed claimed r.seen.0.ends).0 ∙ r.seen.0.begins.1 in cc;
  two_events = λ r. let e : 2 ≡ 1 = ap length r.seen.0.own in omega arith;
  other_stamp = λ r. let e : 2 ≡ 1 = r.seen.1 in omega arith;
  no_load = λ r. let e : 3 ≡ 4 = r.one_load in omega arith;
  two_loads = λ r. let e : 5 ≡ 4 = r.one_load in omega arith;
  three_exchanges = λ r. let e : 8 ≤ 7 = r.few_exchanges in omega arith;
  busy = (let m = more t [] (by_feed ∷ again_by_feed ∷ []) [] 3 5 4 7 (refl, (refl, tt)) (record { begins = (by_feed ∷ again_by_feed ∷ [], refl); own = refl }) in record {
    pass = record { table = refl; opening = refl; machine = refl };
    lawful = m.lawful;
    seen = (m.seen, refl);
    answer = tt;
    right = tt;
    busy = record { all_lost = refl; ready = refl; changed = both_by_feed };
    one_load = refl;
    few_exchanges = omega arith;
    all_lost = refl;
    since = both_by_feed;
    real_time = alone (before t) (lost_both t) by_feed_alone [] refl refl refl refl refl refl;
  });
  busy_without_a_beginning = λ r. none_begun cell_book cell_is_rule_book Press by_feed_alone refl r.real_time.first r.real_time.between (r.real_time.is ∙ append-nil (r.real_time.first ++ Begins Press ∷ r.real_time.between));
  busy_with_other_stamp = λ r. let e : 1 ≡ 2 = r.seen.1 in omega arith;
  busy_with_an_event = λ r. let e : 1 ≡ 0 = ap length r.seen.0.own in omega arith;
  busy_after_one_exchange = λ r. let e : 6 ≡ 7 = r.all_lost in omega arith;
  busy_having_lost_one = λ r. let e : 1 ≡ 2 = r.busy.all_lost in omega arith;
  busy_though_refused = λ r. let e = r.busy.ready in cc;
  busy_by_changes_seen_before = λ r. let e : 3 ≤ 2 = counted _ _ _ _ r.busy.changed in omega arith;
  busy_by_changes_before_its_load = λ r. let e : 3 ≤ 2 = counted _ _ _ _ r.since in omega arith;
}

-- ---- single steps

look : (t : TableId) → LookExamples t
look t = record {
  pending = record {
    unmade = record { more = more t [] [] [] 3 5 4 5 tt saw_nothing; ready = refl };
    call = refl;
    tries = refl;
    lost = refl;
    since = refl;
  };
  settles_done = λ r. r.1 refl;
  has_own_event = λ r. let e : 1 ≡ 0 = ap length r.unmade.more.seen.own in omega arith;
  though_refused = λ r. let e = r.unmade.ready in cc;
  other_call = λ r. let e = r.call in cc;
  other_tries = λ r. let e : 3 ≡ 2 = r.tries in omega arith;
  has_lost_one = λ r. let e : 1 ≡ 0 = r.lost in omega arith;
  begun = alone (before t) (begun t) [] [] refl refl refl refl refl refl;
  not_begun = λ r. no_end r.first (Begins Press) r.between (r.is ∙ append-nil (r.first ++ Begins Press ∷ r.between));
  pass_of_pending = refl;
  pass_of_settled = refl;
  seen_since = λ r. let e : 0 ≡ 1 = ap length r.since in omega arith;
}

attempt : (t : TableId) → AttemptExamples t
attempt t = record {
  lost = record {
    unmade = record { more = more t [] (by_feed ∷ []) [] 4 5 4 6 (refl, tt) (record { begins = (by_feed ∷ [], refl); own = refl }); ready = refl };
    call = refl;
    tries = refl;
    since = refl;
    lost = refl;
    room = omega arith;
    changed = record { more = by_feed ∷ []; is = refl; many = omega arith };
  };
  has_own_event = λ r. let e : 1 ≡ 0 = ap length r.unmade.more.seen.own in omega arith;
  though_refused = λ r. let e = r.unmade.ready in cc;
  other_call = λ r. let e = r.call in cc;
  other_tries = λ r. let e : 3 ≡ 2 = r.tries in omega arith;
  other_since = λ r. let e : 1 ≡ 0 = ap length r.since in omega arith;
  lost_none = λ r. let e : 0 ≡ 1 = r.lost in omega arith;
  lost_two = λ r. let e : 2 ≡ 1 = r.lost in omega arith;
  lost_last = λ r. let e : 2 < 2 = r.room in omega arith;
  no_change = λ r. let e : 1 ≤ 0 = counted _ _ _ _ r.changed in omega arith;
  busy = record {
    more = (let m = more t (by_feed ∷ []) (by_feed ∷ again_by_feed ∷ []) [] 4 6 4 7 (refl, (refl, tt)) (record { begins = (again_by_feed ∷ [], refl); own = refl }) in record { pass = record { table = refl; opening = refl; machine = refl }; lawful = m.lawful; seen = m.seen });
    stamped = refl;
    last = refl;
    overtaken = record { all_lost = refl; ready = refl; changed = both_by_feed };
  };
  busy_with_other_stamp = λ r. let e : 1 ≡ 2 = r.stamped in omega arith;
  busy_early = λ r. let e : 1 ≡ 2 = r.last in omega arith;
  busy_having_lost_one = λ r. let e : 1 ≡ 2 = r.overtaken.all_lost in omega arith;
  busy_though_refused = λ r. let e = r.overtaken.ready in cc;
  busy_by_changes_before_its_look = λ r. let e : 3 ≤ 2 = counted _ _ _ _ r.overtaken.changed in omega arith;
  busy_forgets = λ r. let e : Table ≡ Feed = ap first_by r.more.seen.begins.1 in cc;
  settled_without_its_event = λ f.
      let k = f [] (before t) refl (alone (before t) (begun t) [] [] refl refl refl refl refl refl) in
      let last = (same_from_push [] (k.first ++ Begins Press ∷ k.between) (Begins Press) (Answered claimed) k.is).1 in cc;
  lost_without_its_beginning = λ f.
      let k = f [] (before t) refl (alone (before t) (begun t) [] [] refl refl refl refl refl refl) in
      no_end k.first (Begins Press) k.between (k.is ∙ append-nil (k.first ++ Begins Press ∷ k.between));
  pass_of_lost = refl;
  pass_of_busy = refl;
  pass_of_settled = refl;
  settled = claim_done t 4 5;
  settled_with_other_stamp = λ r. let e : 2 ≡ 1 = r.stamped in omega arith;
  stopped = claim_barred t;
  done_while_stopped = λ r. let e = (r.lawful (by_watch ∷ claimed ∷ []) [] refl).legal.1.0 in cc;
  lost_while_stopped = λ r. let e = r.unmade.ready in cc;
}

-- ---- effects of calls

grows : (t : TableId) → MoreExamples t
grows t = record {
  more = more t [] (by_feed ∷ []) [] 3 5 4 6 (refl, tt) (record { begins = (by_feed ∷ [], refl); own = refl });
  other_table = λ u apart r. apart r.pass.table;
  other_opening = λ r. let e : 7 ≡ 0 = ap (λ (s : ModelState). s.stamp) r.pass.opening in omega arith;
  other_machine = λ r. let e = r.pass.machine in cc;
  unlawful = λ r. unlawful [] r.lawful;
  forgets = λ r. let e = r.seen.begins.1 in cc;
  own_event = λ r. let e : 1 ≡ 0 = ap length r.seen.own in omega arith;
}

changes : ChangeExamples
changes = record {
  one = record { more = by_feed ∷ []; is = refl; many = omega arith };
  one_only = λ f. let e : 2 ≤ 1 = counted _ _ _ _ f in omega arith;
  own = λ f. let e : 1 ≤ 0 = counted _ _ _ _ f in omega arith;
  refused = λ f. let e : 1 ≤ 0 = counted _ _ _ _ f in omega arith;
  seen_earlier = λ f. let e : 2 ≤ 1 = counted _ _ _ _ f in omega arith;
  other_beginning = λ f. let e : Table ≡ Feed = ap first_by f.is in cc;
  three = record { more = by_table ∷ claimed ∷ again_by_feed ∷ by_robot ∷ []; is = refl; many = omega arith };
  any_own = λ c f. let e : 1 ≤ 0 = counted _ _ _ _ f in omega arith;
  any_of_the_watch = λ c. record { more = event Watch c Done ∷ []; is = refl; many = omega arith };
}

has_claimed : Holds opened (claimed ∷ []) Press Z3
has_claimed = inr (record { before = []; gain = claimed; since = []; split = refl; gained = refl; kept = λ k d h. absurd (omega (arith, h)) })

holds_what_it_needs : (z : Zone) → needs Press (Release Z3) z ≡ true → Holds opened (claimed ∷ []) Press z
holds_what_it_needs = each_zone _ (λ e. cc) (λ e. cc) (λ e. has_claimed) (λ e. cc) (λ e. cc) (λ e. cc)

answers : (t : TableId) → AnswerExamples t
answers t = record {
  other_answer = λ f. let e = f [] refl in cc;
  loses_what_it_held = λ f. let e = ap (λ (v : ZoneState). v.owner) ((f.keeps (claimed ∷ released ∷ []) refl).zone Z3 has_claimed) in cc;
  is_disowned = λ f. f.never_disowned holds_what_it_needs None refl;
}

-- ---- calls in order

-- a history of one event
single : (x e : Event) (point between : List Event) → x ∷ [] ≡ point ++ e ∷ between → (point ≡ []) × (x ≡ e)
single x e [] between f = (refl, cc)
single x e (y ∷ []) between f = cc
single x e (y ∷ z ∷ zs) between f = cc

-- what stands before the last event of two
alone_before : (seen : List Event) (x e last : Event) → StandsBefore seen e last (x ∷ last ∷ []) → (x ≡ e) × ((more : List Event) × ([] ≡ seen ++ more))
alone_before seen x e last r =
    let f = single x e r.point r.between (same_from_push (x ∷ []) (r.point ++ e ∷ r.between) last last r.is).0 in (f.1, (r.begins.0, sym f.0 ∙ r.begins.1))

order : OrderExamples
order = record {
  before = record { point = by_table ∷ []; between = by_robot ∷ []; is = refl; begins = ([], refl); new = refl };
  after = λ r. let e : Press ≡ Feed = ap (λ (x : Event). x.machine) (same_from_push (by_feed ∷ []) (r.point ++ claimed ∷ r.between) claimed by_feed r.is).1 in cc;
  missing = λ r. let e : Table ≡ Press = ap (λ (x : Event). x.machine) (alone_before [] by_table claimed by_feed r).0 in cc;
  forgets = λ r. let e = (alone_before (by_table ∷ []) claimed claimed by_feed r).1.1 in cc;
  seen_earlier = λ r. let e = (alone_before (claimed ∷ []) claimed claimed by_feed r).1.1 in cc;
}

stamps : StampExamples
stamps = record {
  done = (omega arith, λ is. omega arith);
  done_with_same_stamp = λ told f. let less : told < told = f.1 refl in omega (arith, less);
  refused = (omega arith, λ is. cc);
  answered_with_lower_stamp = λ told a f. let least : told + 1 ≤ told = f.0 in omega (arith, least);
  busy = omega arith;
  busy_with_lower_stamp = λ told lost f. let least : told + 1 ≤ told = f in omega (arith, least);
}

receipts : (t : TableId) → ReceiptExamples t
receipts t = record { seen = refl; tells = refl }

-- ---- a run, and what Busy costs

runs : (t : TableId) → RunExamples t
runs t = record {
  in_time = record { begins = (Begins Feed ∷ [], refl); own = refl };
  another_call = λ f. let e : 3 ≡ 2 = ap length f.own in omega arith;
  other_beginning = λ f. let e = f.begins.1 in cc;
  never_began = λ p s is run.
      let shown = subst (λ (v : PassView). IsInTime run.moments Press v) is (run.in_time Press) in
      let has = run.calls [] claimed shown.begins.0 shown.begins.1 in
      no_end has.earlier (Begins Press) [] has.is;
  unlawful = λ p s is run.
      let part = subst (λ (v : PassView). HasPart opened (events_of run.moments) Press v) is (run.passes Press) in
      unlawful part.seen.begins.0 (subst (LawfulThroughout opened) part.seen.begins.1 run.lawful);
}

paid : (t : TableId) → PaidExamples t
paid t = record {
  at_once = record { loads = refl; exchanges = omega arith; risen = omega arith };
  busy_once = record { loads = refl; exchanges = omega arith; risen = omega arith };
  unpaid = λ f. let risen : 2 ≤ 1 = f.risen in omega (arith, risen);
  free_loads = λ f. let loads : 5 ≡ 4 = f.loads in omega (arith, loads);
  free_exchanges = λ f. let few : 8 ≤ 7 = f.exchanges in omega (arith, few);
  one_busy = (
    record { pass = record { table = refl; opening = refl; machine = refl }; seen = ([], refl) },
    record { pass = record { table = refl; opening = refl; machine = refl }; seen = (ask t).busy.seen; busy = (ask t).busy.busy },
    record { pass = record { table = refl; opening = refl; machine = refl }; seen = ([], refl) },
  );
  twice = refl;
  each = λ lost stamp. refl;
  none = λ a stamp. refl;
  called_nothing = record { pass = record { table = refl; opening = refl; machine = refl }; seen = (by_feed ∷ again_by_feed ∷ [], refl) };
  forgets = λ m. let e = m.seen.1 in cc;
  called_by_another = λ m. let e : Press ≡ Watch = m.pass.machine in cc;
  lost_one_alone = λ m. let e : 1 ≡ 2 = m.1.busy.all_lost in omega (arith, e);
  busy_with_another_stamp = λ m. let e : 3 ≡ 2 = m.1.seen.1 in omega (arith, e);
}

-- ---- a new interlock

fresh : (i : InterlockView) (p : Passes) → AreFresh i p → FreshExamples i p
fresh i p f = record {
  feed = machine_of p.feed f.feed;
  table = machine_of p.table f.table;
  robot = machine_of p.robot f.robot;
  press = f.press;
  deposit = machine_of p.deposit f.deposit;
  crane = machine_of p.crane f.crane;
  watch = machine_of p.watch f.watch;
}
  where
    machine_of : {m : Machine} (v : PassView) → IsFresh i m v → v.machine ≡ m
    machine_of v e = ap (λ (x : PassView). x.machine) e

-- ---- a line

lines : (t : TableId) → LineExamples t
lines t = record {
  no_memory = refl;
  asks = (ask t).busy;
  asks_with_other_tries = λ f. let e : 2 ≡ 3 = f.busy.all_lost in omega (arith, e);
  loads_without_memory = λ f. let e : 4 ≡ 3 = ap (λ (v : PassView). v.loads) f in omega arith;
  other_tries = λ l d apart f. apart f.tries;
  survey_with_other_tries = λ l d apart f. apart f.tries;
  survey_forgets = λ l d was is f. let e = subst (λ (v : PassView). BeginsWith v.seen (by_feed ∷ [])) is (subst (λ (v : PassView). BeginsWith d.pass.seen v.seen) was f.more.seen.begins) in let none = e.1 in cc;
}

-- ---- views, and what replies tell by cases

views : (t : TableId) → ViewExamples t
views t = record {
  there_and_back = λ v. refl;
  interlock = refl;
  receipt = refl;
  pending = refl;
  settled = λ a stamp. refl;
  busy = λ lost stamp. refl;
}

cases : CaseExamples
cases = record {
  settled = λ a stamp test. (λ is. is, λ is. is);
  settled_is_not_busy = λ a stamp. tt;
  busy = λ lost stamp test. (λ is. is, λ is. is);
  busy_is_not_settled = λ lost stamp. tt;
  stamp_of_settled = λ a stamp. refl;
  stamp_of_busy = λ lost stamp. refl;
}

fields : (p : Passes) → FieldExamples p
fields p = record {
  feed = refl;
  table = refl;
  robot = refl;
  press = refl;
  deposit = refl;
  crane = refl;
  watch = refl;
  journal_of_press = λ saw. ap (λ (h : List Event). noted opened h Press) saw;
  journal_of_watch = λ saw. ap (λ (h : List Event). noted opened h Watch) saw;
}

-- ---- the rules, what a pass has of a history, and a line's journal

book : BookExamples
book = record {
  done = refl;
  shown = refl;
  refused = refl;
  stamp = refl;
  claimed_here = refl;
  stamped = refl;
  actors = refl;
  one_machine = refl;
  two_machines = refl;
  event = refl;
  actor = refl;
  call = refl;
  answer = refl;
}

parts : (t : TableId) → PartExamples t
parts t = record {
  part = record { opened = refl; seen = record { begins = (by_feed ∷ [], refl); own = refl } };
  other_opening = λ f. let e : 0 ≡ 7 = ap (λ (s : ModelState). s.stamp) f.opened in omega (arith, e);
  missing = λ f. let e : Feed ≡ Press = ap first_by f.seen.begins.1 in cc;
  unseen_own_event = λ f. let e : 2 ≡ 1 = ap length f.seen.own in omega (arith, e);
  of_another_opening = λ p s other end. let e : 7 ≡ 0 = ap (λ (s : ModelState). s.stamp) (sym other ∙ (end.passes Crane).opened) in omega (arith, e);
  saw_an_unlawful_event = λ p s is end.
      let part = subst (λ (v : PassView). HasPart opened end.history Press v) is (end.passes Press) in
      unlawful part.seen.begins.0 (subst (LawfulThroughout opened) part.seen.begins.1 end.lawful);
}

journals : (t : TableId) → JournalExamples t
journals t = record {
  line = record { sound = sound; legal = (refl, tt); noted_all = refl };
  no_entry = λ f. let e : 0 ≡ 1 = ap length f.noted_all in omega (arith, e);
  unlawful = λ f. let e = f.legal.0 in cc;
}

pub outcomes_are_known : OutcomeExamples
outcomes_are_known = record { ask = ask; look = look; attempt = attempt; more = grows; changes = changes; answers = answers; order = order; stamps = stamps; receipts = receipts; runs = runs; paid = paid; fresh = fresh; lines = lines; views = views; cases = cases; fields = fields; book = book; parts = parts; journals = journals; each = each_laws }
