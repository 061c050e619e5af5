-- More examples of what breaks a law, and of what keeps one by little.
use Rattle.cell_rules.proofs.Names.{◌≡◌, true, List, [], ◌∷◌, ◌++◌, length, refl, sym, ap, ◌∙◌, arith, Machine, Feed, Robot, Press, Deposit, Watch, Zone, Z1, Z3, Z4, Z5, Z6, PressIn, PressOut, Arm2, FeedEnd, Closed, Moving, OpenIn, OpenOut, Turning, Unloading, Travelling, Middle}
use Rattle.cell_rules.proofs.Names.{Low, Top, Running, Landing, Standing, Event, Claim, Give, Yield, Take, Release, SetPose, Advance, Inquire, Stop, Resume, Refusal, Refused, event, Worn, NotParty, Jump, ModelState, Holds, empty, insert_place, number_of, is_no_later, append-nil}
use Rattle.cell_types.specs.declared.machine.Machine.TheVariants.{Table as TableMachine, Crane as CraneMachine}
use Rattle.cell_rules.specs.declared.zones.ZoneState.{ZoneState}
use Rattle.cell_rules.specs.BreakExamples.{HolderBreaks, CountBreaks, PrefixBreaks, BeltBreaks, FittingBreaks, StopBreaks, RefusalBreaks, SeenExamples, BenchExamples, AnyBench, IsShownWhole, KeptExamples, AnswersAlikeWhileRunning, LawfulKeepsEach, BreakExamples, halted_cell, full_at}
use Rattle.cell_rules.specs.BreakExamples.{feed_claims, halts_uncounted, press_claims}
use Rattle.cell_rules.specs.Benches.{Desk, BenchAsks}
use Rattle.cell_rules.specs.Stored.{IsHistory}
use Rattle.cell_rules.specs.declared.bench.Bench.{Bench}
use Rattle.cell_rules.specs.declared.heard.LineFault.{LineFault}
use Rattle.cell_rules.specs.Types.{Call, Reply, Settled, Busy}
use Rattle.std.specs.Prelude.{Result, Ok, Err}
use Rattle.cell_rules.proofs.lemmas.SeenLemmas.{history-push}
use Rattle.cell_rules.specs.Audited.{IsAudited}
use Rattle.cell_rules.specs.LawExamples.{after_claim, only, unused}
use Rattle.cell_rules.specs.StateExamples.{cell_with, free_in, held_in}
use Rattle.cell_rules.specs.Laws.{done}
use Rattle.cell_rules.proofs.lemmas.FirstVersion.{first_version}
use Rattle.cell_rules.proofs.HeldZones.{holds}
use Rattle.cell_rules.proofs.Names.{Some, entry_of, if◌then◌else◌, noted, state_left}
use Rattle.cell_rules.proofs.lemmas.Holders.{same_machine-self}
use Rattle.cell_rules.proofs.lemmas.HoldsLemmas.{holds_by_test}
use Rattle.cell_rules.proofs.lemmas.Puts.{each_zone, each_place}
use Rattle.cell_rules.proofs.lemmas.Stopping.{by_test}
use Rattle.cell_rules.proofs.LawExamplesMet.{audits}
use Rattle.cell_rules.specs.StopLaws.{running}

-- who holds a zone, by the test
held : (s : ModelState) (h : List Event) (m : Machine) (z : Zone) → holds s h m z ≡ true → Holds s h m z
held s h m z = (holds_by_test s h m z).1

unheld : (s : ModelState) (h : List Event) (m : Machine) (z : Zone) → Holds s h m z → holds s h m z ≡ true
unheld s h m z = (holds_by_test s h m z).0

holders : HolderBreaks
holders = record {
  two_holders = λ f. let e = f.alone Press Robot Z3 (held (cell_with Z3 (held_in Press OpenIn) empty) (only Robot (Claim Z3)) Press Z3 refl) (held (cell_with Z3 (held_in Press OpenIn) empty) (only Robot (Claim Z3)) Robot Z3 refl) in cc;
  held_by_stranger = λ f. let e = f.party Robot Z5 (held (cell_with Z5 (held_in Robot OpenOut) empty) [] Robot Z5 refl) in cc;
  held_but_not_owned = λ f. let e = (f.owner Feed Z6).0 (held halted_cell (only Feed (Claim Z6)) Feed Z6 refl) in cc;
  owned_but_not_held = λ f. let e = unheld (cell_with Z3 (held_in Press Moving) empty) (only Press (Release Z3)) Press Z3 ((f.owner Press Z3).1 refl) in cc;
  table_turns_unheld = λ f. let e = unheld (cell_with Z1 (free_in Moving) empty) [] TableMachine Z1 (f.host Z1 refl) in cc;
  deposit_runs_unheld = λ f. let e = unheld (cell_with Z5 (free_in Moving) empty) [] Deposit Z5 (f.host Z5 refl) in cc;
  feed_runs_unheld = λ f. let e = unheld (cell_with Z6 (free_in Moving) empty) [] Feed Z6 (f.host Z6 refl) in cc;
  feed_at_closed_table = λ f. let e = f Z1 (held (cell_with Z1 (held_in Feed Closed) empty) [] Feed Z1 refl) in cc;
  robot_at_moving_belt = λ f. let e = f Z4 (held (cell_with Z4 (held_in Robot Moving) empty) [] Robot Z4 refl) in cc;
  crane_at_closed_feed = λ f. let e = f Z6 (held (cell_with Z6 (held_in CraneMachine Closed) empty) [] CraneMachine Z6 refl) in cc;
  gives_unowned = λ f. let e = (f.give (done Feed (Claim Z6) ∷ []) [] Feed Z6 refl).1 in cc;
  yields_unowned = λ f. let e = (f.yield (done Feed (Claim Z6) ∷ []) [] Feed Z6 refl).1 in cc;
  takes_unowned = λ f. let e = (f.take (done Feed (Claim Z6) ∷ []) [] Feed Z6 refl).1 in cc;
  releases_unowned = λ f. let e = (f.release (done Feed (Claim Z6) ∷ []) [] Feed Z6 refl).1 in cc;
}

counts : CountBreaks
counts = record {
  place_from_nowhere = λ f. let e = f.at_place PressOut in cc;
  one_of_two_is_lost = λ f. let e : 1 ≡ 2 = f.total in omega (arith, e);
  second_without_stamp = λ f. let e : 1 ≡ 2 = f in omega (arith, e);
  halt_without_posture = λ f. let e = f Z6 in cc;
  unsound = λ f. let e = f.owner_is_party Z4 in cc;
  changed_by_others = λ f. let e = ap (λ (v : ZoneState). v.posture) (f.zone Robot Z3 refl (held (full_at Press Closed (insert_place empty PressIn)) (only Robot (Claim Z3)) Robot Z3 refl)) in cc;
}

prefixes : PrefixBreaks
prefixes = record {
  first = λ f. f (done Watch Stop ∷ []) (done Watch Resume ∷ []) refl refl;
  all = λ f. f (done Watch Stop ∷ done Watch Resume ∷ []) [] refl refl;
  none = λ f. f [] (done Watch Stop ∷ done Watch Resume ∷ []) refl refl;
}

belts : BeltBreaks
belts = record {
  feed_holds_z1 = record { feed = λ moves full. refl; entry = λ moves. refl; end = λ moves. refl };
  end_is_empty = record { feed = λ moves full. cc; entry = λ moves. refl; end = λ moves. refl };
  feed = λ f. let e = unheld (cell_with Z6 (held_in Feed Moving) (insert_place empty FeedEnd)) (halts_uncounted Feed) Feed Z1 (f.feed refl refl) in cc;
  entry = λ f. let e = f.entry refl in cc;
  end = λ f. let e = f.end refl in cc;
  state = λ f. let e = f.state.entry refl in cc;
}

fitting : FittingBreaks
fitting = record {
  moves_unheld = λ f. let e = unheld unused [] Press Z3 (f.pose_by_holder [] [] Press Travelling refl Z3 Moving refl (λ same. cc)) in cc;
  shuts_unheld = λ f. let e = unheld (cell_with Z3 (free_in Moving) empty) [] Press Z3 (f.pose_by_holder [] [] Press Top refl Z3 Closed refl (λ same. cc)) in cc;
  opens_outward_unheld = λ f. let e = unheld (cell_with Z3 (free_in Moving) empty) [] Press Z3 (f.pose_by_holder [] [] Press Low refl Z3 OpenOut refl (λ same. cc)) in cc;
  feed_opens_onto_full = λ f. let e = f.opens_onto_empty [] [] Feed Landing refl Z6 _ refl (λ same. cc) refl in cc;
  deposit_opens_onto_full = λ f. let e = f.opens_onto_empty [] [] Deposit Landing refl Z4 _ refl (λ same. cc) refl in cc;
  deposit_stands_onto_full = λ f. let e = f.opens_onto_empty [] [] Deposit Standing refl Z4 _ refl (λ same. cc) refl in cc;
  press_opens_onto_full = λ f. let e = (f.press_opens_empty [] [] Press Middle refl refl (λ same. cc)).0 in cc;
  table_jumps = λ f. let e = f.no_jump [] [] TableMachine Unloading refl refl refl Z1 refl in cc;
  press_jumps_open = λ f. let e = f.no_jump [] [] Press Middle refl refl refl Z3 refl in cc;
  stands_after_a_stop = λ f. let e = f.feed_works_running (done Watch Stop ∷ []) [] refl in cc;
  unloads_standing = λ f. let e = (f.table [] [] Unloading refl (λ same. cc)).1 in cc;
  unloads_open = λ f. let e = (f.table [] [] Unloading refl (λ same. cc)).0 in cc;
  lowers_standing = λ f. let e = f.press [] [] Low refl (λ same. cc) in cc;
  opens_standing = λ f. let e = f.press [] [] Middle refl (λ same. cc) in cc;
  jumps_after_a_stop = λ f. let e = f.press (done Watch Stop ∷ []) [] Low refl (λ same. cc) in cc;
}

stops : StopBreaks
stops = record {
  stop_without_mark = λ f. let e = (f.mark).0 ((by_test (record unused { stamp = 1048575 }) (only Watch Stop)).1 refl) in cc;
  mark_without_stop = λ f. let e = (by_test unused (event Watch Stop (Refused Jump) ∷ [])).0 ((f.mark).1 refl) in cc;
  gives_while_stopped = λ f. let e = f.barred [] [] Robot (Give Z4) refl ((by_test halted_cell []).1 refl) in cc;
  turns_while_stopped = λ f. let e = f.barred [] [] TableMachine (SetPose Turning) refl ((by_test halted_cell []).1 refl) in cc;
  travels_while_stopped = λ f. let e = f.barred [] [] Press (SetPose Travelling) refl ((by_test halted_cell []).1 refl) in cc;
  runs_while_stopped = λ f. let e = f.barred [] [] Deposit (SetPose Running) refl ((by_test halted_cell []).1 refl) in cc;
  claims_after_a_stop = λ f. let e = f.barred (only Watch Stop) [] Feed (Claim Z6) refl ((by_test unused (only Watch Stop)).1 refl) in cc;
  stops_by_feed = λ f. let e = (f.stop [] [] Feed refl).0 in cc;
  resumes_by_press = λ f. let e = (f.resume [] [] Press refl).0 in cc;
}

-- a worn state refuses as worn
worn_only : (a : Refusal) → Refused Worn ≡ Refused a → is_no_later (1 ∷ 14 ∷ 3 ∷ 2 ∷ 4 ∷ 13 ∷ []) (number_of a) 1 ≡ true → ⊥
worn_only Worn e o = cc
worn_only _ e o = cc

refusals : RefusalBreaks
refusals = record {
  without_cause = λ f. let e = f [] [] Press (Claim Z3) Worn refl in cc;
  second_without_cause = λ f. let e = f (only Press (Claim Z3)) [] Press (Claim Z3) NotParty refl in cc;
  not_refused = λ f. let e = f.answer in cc;
  later_only = λ f. worn_only f.answered f.answer f.order;
}

abbrev first_machine : List Event → Machine
first_machine [] = Watch
first_machine (e ∷ h) = e.machine

not_first : (more : List Event) → press_claims ∷ feed_claims ∷ [] ≡ (feed_claims ∷ []) ++ more → ⊥
not_first more e = let m : Press ≡ first_machine ((feed_claims ∷ []) ++ more) = ap first_machine e in cc

seen : SeenExamples
seen = record {
  begins = (press_claims ∷ [], refl);
  forgets = λ b. let e = b.1 in cc;
  another = λ b. not_first b.0 b.1;
  settles = record { point = feed_claims ∷ press_claims ∷ []; begins = (press_claims ∷ [], refl); ends = refl; own = refl };
  own_call_missed = λ s. let e : 3 ≡ 2 = ap length s.own in omega (arith, e);
  not_called = λ s. let e : 1 ≡ 2 = ap length s.own in omega (arith, e);
  waits = record { begins = (press_claims ∷ [], refl); own = refl };
  waits_with_own = λ s. let e : 2 ≡ 1 = ap length s.own in omega (arith, e);
  waits_in_the_past = λ s. let e = s.begins.1 in cc;
  told = (record { point = []; begins = ([], refl); ends = refl; own = refl }, refl);
  other_stamp = λ s. let e : 2 ≡ 1 = s.1 in omega (arith, e);
  busy = (record { begins = (press_claims ∷ [], refl); own = refl }, refl);
  busy_with_own = λ s. let e : 1 ≡ 0 = ap length s.0.own in omega (arith, e);
  busy_at_other_stamp = λ s. let e : 0 ≡ 1 = s.1 in omega (arith, e);
  out_of_memory = refl;
  sees_more_without_memory = λ s. let e : 1 ≡ 0 = ap length s in omega (arith, e);
}

benches : BenchExamples
benches = record {
  told = (refl, refl, refl, refl);
  wrong_stamp = λ b. let e : 1 ≡ 2 = b.2 in omega (arith, e);
  wrong_answer = λ b. let e = b.1 in cc;
  not_in_history = λ b. let e : 1 ≡ 2 = ap (λ (d : Desk). length d.history) b.3 in omega (arith, e);
  told_while_busy = λ b. let e = b.0 in cc;
  busy = (refl, refl, refl, refl);
  busy_when_free = λ b. let e = b.0 in cc;
  lost_twice = λ b. let e : 2 ≡ 1 = b.1 in omega (arith, e);
  busy_at_other_stamp = λ b. let e : 0 ≡ 1 = b.2 in omega (arith, e);
  busy_and_changed = λ b. let e : 0 ≡ 1 = ap (λ (d : Desk). length d.history) b.3 in omega (arith, e);
  out_of_memory = (refl, refl);
  out_of_memory_while_busy = λ b. let e = b.0 in cc;
  changed_without_memory = λ b. let e : 0 ≡ 1 = ap (λ (d : Desk). length d.history) b.1 in omega (arith, e);
}

history_kept : (b d : Desk) (c : Call) (r : Result Reply LineFault) → IsHistory b.opening b.state b.history → BenchAsks b c r d → IsHistory d.opening d.state d.history
history_kept b d c (Ok (Busy lost stamp)) k (busy, l, s, e) = rw e k
history_kept b d c (Err fault) k (free, e) = rw e k
history_kept b d c (Ok (Settled a stamp)) k (free, e, s, n) = rw n (history-push _ _ _ _ _ _ _ k e refl)

any_bench : (b d : Desk) (c : Call) → AnyBench b d c
any_bench b d c = record {
  busy = λ lost stamp asked. asked.3;
  out_of_memory = λ fault asked. asked.1;
  opening = λ a stamp asked. ap (λ (x : Desk). x.opening) asked.3;
  machine = λ a stamp asked. ap (λ (x : Desk). x.machine) asked.3;
  free = λ a stamp asked. ap (λ (x : Desk). x.busy) asked.3 ∙ asked.0;
  history = λ r k asked. history_kept b d c r k asked;
}

shown : (b : Bench) → IsShownWhole b
shown b = record { desk = refl; asks = refl }

-- each event is noted by its machine
no_history : (h : List Event) → ¬ IsAudited unused (λ m. []) (Some after_claim) h
no_history [] a = let e : 0 ≡ 1 = ap (λ (s : ModelState). s.stamp) a.ends in omega (arith, e)
no_history (e ∷ h) a =
    let later = noted (state_left unused e) h e.machine in
    let here = ap (λ b. if b then entry_of unused e ∷ later else later) (same_machine-self e.machine) in
    let none = a.noted e.machine in
    cc

kept : KeptExamples
kept = record {
  stored = record {
    sound = record {
      stamp_in_range = omega arith;
      owner_is_party = each_zone _ refl refl refl refl refl refl;
      flag_has_transfer = each_zone _ refl refl refl refl refl refl;
      guest_only_while_open = each_zone _ refl refl refl refl refl refl;
      moving_belongs_to_host = each_zone _ refl refl refl refl refl refl;
      posture_of_some_pose = each_zone _ refl refl refl refl refl refl;
      press_holds_one_plate = refl;
    };
    legal = (refl, tt);
    reached = refl;
  };
  unsound_opening = λ k. let e = k.sound.owner_is_party Z4 in cc;
  illegal = λ k. let e = k.legal.0 in cc;
  elsewhere = λ k. let e : 1 ≡ 0 = ap (λ (s : ModelState). s.stamp) k.reached in omega (arith, e);
  no_end_given = let a = audits.accepted in record { legal = a.legal; own = a.own; noted = a.noted; ends = tt };
  has_a_history = λ none. none (only Press (Claim Z3)) audits.accepted;
  nothing_noted = no_history;
  same_for_robot = record {
    owned = each_zone _ (λ e. cc) (λ e. cc) (λ e. cc) (λ e. cc) (λ e. cc) (λ e. cc);
    hosted = each_zone _ (λ e. cc) (λ e. cc) (λ e. cc) (λ e. cc) (λ e. cc) (λ e. cc);
    places = each_place _ (λ e. cc) (λ e. cc) (λ e. refl) (λ e. refl) (λ e. refl) (λ e. refl) (λ e. refl) (λ e. refl) (λ e. refl) (λ e. refl);
  };
  lost_its_zone = λ k. let e = ap (λ (v : ZoneState). v.owner) (k.owned Z3 refl) in cc;
  other_posture = λ k. let e = k.hosted Z3 refl in cc;
  other_place = λ k. let e = k.places Arm2 refl in cc;
}

alike : AnswersAlikeWhileRunning
alike s m (SetPose p) has = (first_version (running s) m (SetPose p) refl has).answer
alike s m (Claim z) has = (first_version (running s) m (Claim z) refl has).answer
alike s m (Give z) has = (first_version (running s) m (Give z) refl has).answer
alike s m (Yield z) has = (first_version (running s) m (Yield z) refl has).answer
alike s m (Take z) has = (first_version (running s) m (Take z) refl has).answer
alike s m (Release z) has = (first_version (running s) m (Release z) refl has).answer
alike s m Advance has = (first_version (running s) m Advance refl has).answer
alike s m (Inquire z) has = (first_version (running s) m (Inquire z) refl has).answer
alike s m Stop has = cc
alike s m Resume has = cc

lawful : (s : ModelState) (h : List Event) → LawfulKeepsEach s h
lawful s h = record {
  one_holder = λ no l. no l.one_holder;
  mover_is_host = λ no l. no l.mover_is_host;
  guest_only_while_open = λ no l. no l.guest_only_while_open;
  plates_are_kept = λ no l. no l.plates_are_kept;
  stamp_counts_changes = λ no l. no l.stamp_counts_changes;
  belts_run_clear = λ clear no l. no (l.belts_run_clear clear);
  right_lasts = λ no l. no (l.right_lasts h [] (sym (append-nil h)));
  posture_by_events = λ no l. no l.posture_by_events;
  stays_sound = λ no l. no l.stays_sound;
  events_fit = λ no l. no l.events_fit;
  no_jump = λ no l. no l.no_jump;
  handover_by_holder = λ no l. no l.handover_by_holder;
  stopped_until_resumed = λ no l. no l.stopped_until_resumed;
  changes_are_counted = λ no l. no l.changes_are_counted;
  refusals_tell = λ no l. no l.refusals_tell;
}

pub break_examples : BreakExamples
break_examples = record {
  holders = holders;
  counts = counts;
  prefixes = prefixes;
  belts = belts;
  fitting = fitting;
  stops = stops;
  refusals = refusals;
  seen = seen;
  benches = benches;
  any_bench = any_bench;
  shown = shown;
  kept = kept;
  first_version = alike;
  lawful = lawful;
}
