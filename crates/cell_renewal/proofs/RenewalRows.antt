-- Literal examples of what the rounds rest on.
use Rattle.std.proofs.Common.{◌≡◌, ◌≢◌, ◌≤◌, ◌<◌, ◌+◌, ◌*◌, ◌⊎◌, ℕ, false, inl, inr, List, [], ◌∷◌, length, None, Some, refl, sym, ◌∙◌, ap, subst, arith}
use Rattle.cell_rules.specs.Types.{Machine, Watch, Stop, Done, Event}
use Rattle.cell_rules.specs.Names.{ModelState, empty, event, start_state, after, own_events, restamped, last_stamp}
use Rattle.cell_interlock.specs.Views.{PassView}
use Rattle.cell_control.specs.Wiring.{Unwiring}
use Rattle.cell_notes.specs.declared.status.Status.TheVariants.{Fine, Worn}
use Rattle.cell_renewal.specs.Going.{GoesOnFrom}
use Rattle.cell_renewal.specs.Renewing.{Leaves, OpensAfter}
use Rattle.cell_renewal.specs.RenewedRecords.{LeavesRoom, MakesAtMost}
use Rattle.cell_renewal.specs.RenewalExamples.{RenewalIsTold, at_stamp, stops_once}

not_yet : OpensAfter 9 (at_stamp 9) (at_stamp 0) → ⊥
not_yet (inl k) = let lie : 9 < 9 = k.0 in omega (arith, lie)
not_yet (inr k) = let lie : 0 ≡ 9 = ap (λ (s : ModelState). s.stamp) k.1 in omega (arith, lie)

too_late : OpensAfter 9 (at_stamp 10) (at_stamp 10) → ⊥
too_late (inl k) = let lie : 10 ≡ 0 = ap (λ (s : ModelState). s.stamp) k.1 in omega (arith, lie)
too_late (inr k) = let lie : 10 ≤ 9 = k.0 in omega (arith, lie)

room : LeavesRoom 1000000 8095 4
room = let most : last_stamp ≡ 1048575 = refl in omega (arith, most)

no_room : LeavesRoom 1000000 8095 5 → ⊥
no_room k = let most : last_stamp ≡ 1048575 = refl in let lie : 1000000 + 6 * 8095 + 5 < last_stamp = k in omega (arith, most, lie)

abbrev stop : List Event
stop = event Watch Stop Done ∷ []

calls : MakesAtMost stops_once 1
calls watch later got kept tries none k = subst (λ h. length (own_events h Watch) ≤ 1) (sym k) (omega (arith, one)) where
  one : length (own_events stop Watch) ≡ 1
  one = refl

one_call_more : (got kept : PassView) → got.seen ≡ [] → kept.seen ≡ stop → MakesAtMost stops_once 0 → ⊥
one_call_more got kept none seen most =
    let lie : 1 ≤ 0 = subst (λ h. length (own_events h Watch) ≤ 0) seen (most tt tt got kept 0 none seen) in
    omega (arith, lie)

differ : ¬ (Worn ≡ Fine)
differ e = cc

other_devices : (m : Unwiring ℕ ℕ) → GoesOnFrom {D = ℕ} m 1 (at_stamp 0) (record { machine = m; opening = at_stamp 0; devices = 2 }) → ⊥
other_devices m k = let lie : 2 ≡ 1 = k.same_devices in omega (arith, lie)

elsewhere : (m : Unwiring ℕ ℕ) → GoesOnFrom {D = ℕ} m 1 (at_stamp 0) (record { machine = m; opening = at_stamp 9; devices = 1 }) → ⊥
elsewhere m k = let lie : 9 ≡ 0 = ap (λ (s : ModelState). s.stamp) k.opens in omega (arith, lie)

old_state : (got kept : PassView) → kept.opening ≡ at_stamp 0 → kept.seen ≡ stop → Leaves got.machine (at_stamp 0) got kept → ⊥
old_state got kept opened seen k =
    let now : at_stamp 0 ≡ after (at_stamp 0) stop = k.state ∙ ap (λ s. after s kept.seen) opened ∙ ap (λ h. after (at_stamp 0) h) seen in
    let lie : 0 ≡ 1 = ap (λ (s : ModelState). s.stamp) now in
    omega (arith, lie)

zero_and : (n : ℕ) → ¬ (0 ≡ n + 1)
zero_and n e = omega (arith, e)

pub renewal_is_told : RenewalIsTold
renewal_is_told = record {
  goes_on = inr (omega arith, refl);
  begins_again = inl (omega arith, refl);
  not_yet = not_yet;
  too_late = too_late;
  room = room;
  no_room = no_room;
  calls = calls;
  one_call_more = one_call_more;
  fine = record { feed = refl; table = refl; robot = refl; press = refl; deposit = refl; crane = refl };
  feed = λ k. differ k.feed;
  table = λ k. differ k.table;
  robot = λ k. differ k.robot;
  press = λ k. differ k.press;
  deposit = λ k. differ k.deposit;
  crane = λ k. differ k.crane;
  all_go_on = record { feed = refl; table = refl; robot = refl; press = refl; deposit = refl; crane = refl };
  feed_stays = λ k. zero_and 0 k.feed;
  table_stays = λ k. zero_and 1 k.table;
  robot_stays = λ k. zero_and 2 k.robot;
  press_stays = λ k. zero_and 3 k.press;
  deposit_stays = λ k. zero_and 4 k.deposit;
  crane_stays = λ k. zero_and 5 k.crane;
  same = λ m. record { same_machine = refl; same_devices = refl; opens = refl };
  another_machine = λ m n apart k. apart k.same_machine;
  other_devices = other_devices;
  elsewhere = elsewhere;
  own_machine = λ m s got kept apart k. apart k.own;
  old_state = old_state;
}
