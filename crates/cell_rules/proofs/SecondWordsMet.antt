-- Laws of stamps, stops and the first version in other words; and a small program.
use Rattle.cell_rules.proofs.Names.{◌≡◌, ◌+◌, false, List, [], ◌∷◌, ◌++◌, Some, None, refl, sym, ap, arith, ◌∙◌, Machine, Feed, Press, Z3, Pose, Turning, Travelling, Running, Yield, Take, Release, SetPose, Advance, Event}
use Rattle.cell_rules.proofs.Names.{ℕ, next, subst, ModelState, model_state, IsSound, reply, restamped, is_barred, is_moving_pose, running}
use Rattle.cell_types.specs.declared.pose.Pose.TheVariants as pose
use Rattle.cell_rules.specs.BreakExamples.{feed_waits, press_claims}
use Rattle.cell_rules.specs.LawExamples.{unused}
use Rattle.cell_rules.specs.Seen.{BeginsWith}
use Rattle.cell_rules.specs.SecondWords.{SecondWords, DifferInStamps, StampsDoNotTell, RestsAlike, LeavesAlikeWhileRunning, ProgramExamples, OwnerExamples, stopped_cell}
use Rattle.cell_rules.proofs.lemmas.FirstVersion.{first_version}
use Rattle.cell_rules.proofs.lemmas.HoldsLemmas.{holds_by_test}
use Rattle.cell_rules.proofs.lemmas.Restamps.{stamps_only_wear}
use Rattle.cell_rules.proofs.Unbarred.{what_moves_may_stop}
use Rattle.cell_rules.specs.declared.heard.Heard.{Heard}

same_state : (s t : ModelState) → s.zones ≡ t.zones → s.full ≡ t.full → s.stopped ≡ t.stopped → restamped s t.stamp ≡ t
same_state s t z f p =
    ap (λ x. model_state x s.full t.stamp s.stopped) z ∙ ap (λ x. model_state t.zones x t.stamp s.stopped) f
    ∙ ap (λ x. model_state t.zones t.full t.stamp x) p

only_zones : (u v : ModelState) (n : ℕ) → u ≡ restamped v n → DifferInStamps u v
only_zones u v n e = record {
  zones = ap (λ (x : ModelState). x.zones) e;
  places = ap (λ (x : ModelState). x.full) e;
  mark = ap (λ (x : ModelState). x.stopped) e;
}

stamps : (s t : ModelState) → DifferInStamps s t → StampsDoNotTell s t
stamps s t d =
    let same = same_state s t d.zones d.places d.mark in
    record {
      answers = λ m c sound low lower.
          ap (λ (u : ModelState). reply u m c) (sym same)
          ∙ (stamps_only_wear s).answer t.stamp m c lower ((stamps_only_wear s).unworn m c sound low);
      leaves = λ m c sound low lower.
          let left = (stamps_only_wear s).next t.stamp m c lower ((stamps_only_wear s).unworn m c sound low) in
          only_zones (next t m c) (next s m c) _ (subst (λ (u : ModelState). next u m c ≡ restamped (next s m c) (next u m c).stamp) same left);
      sound = λ k low. subst IsSound same ((stamps_only_wear s).sound t.stamp low k);
    }

stops_sound : (s : ModelState) → IsSound s → IsSound (stopped_cell s)
stops_sound s k = record {
  stamp_in_range = k.stamp_in_range;
  owner_is_party = k.owner_is_party;
  flag_has_transfer = k.flag_has_transfer;
  guest_only_while_open = k.guest_only_while_open;
  moving_belongs_to_host = k.moving_belongs_to_host;
  posture_of_some_pose = k.posture_of_some_pose;
  press_holds_one_plate = k.press_holds_one_plate;
}

unbarred : (p : Pose) → is_moving_pose p ≡ false → is_barred (SetPose p) ≡ false
unbarred pose.Turning e = cc
unbarred pose.Travelling e = cc
unbarred pose.Running e = cc
unbarred _ e = refl

rests : (s : ModelState) (m : Machine) → IsSound s → RestsAlike s m
rests s m k = record {
  take = λ z. (what_moves_may_stop (stopped_cell s) m (Take z) (stops_sound s k) refl refl).same;
  release = λ z. (what_moves_may_stop (stopped_cell s) m (Release z) (stops_sound s k) refl refl).same;
  yield = λ z. (what_moves_may_stop (stopped_cell s) m (Yield z) (stops_sound s k) refl refl).same;
  work = (what_moves_may_stop (stopped_cell s) m Advance (stops_sound s k) refl refl).same;
  pose = λ p e. (what_moves_may_stop (stopped_cell s) m (SetPose p) (stops_sound s k) refl (unbarred p e)).same;
}

leaves : LeavesAlikeWhileRunning
leaves s m c has = (first_version (running s) m c refl has).left

programs : ProgramExamples
programs = record {
  none_moved = refl;
  two_moved = (4, refl, (5, refl, refl));
  not_in_one = λ k. let e : k.0 ≡ 4 = k.1 in let f : k.0 ≡ 5 = k.2 in omega (arith, e, f);
  not_in_none = λ k. let e : 3 ≡ 4 = k in omega (arith, e);
  goes_on = (2, (3, refl, (4, refl, refl)));
  asks = (0, 5, (0, refl), refl, (refl, refl), (2, (6, refl, (7, refl, refl))));
  answered_otherwise = λ r n k. let e = k.4.0 in cc;
  hears_nothing = refl;
  hears_a_call = (_, refl);
  hears_without_a_call = λ k. let e : 1 ≡ 0 = ap (λ (h : Heard). h.asks) k in omega (arith, e);
  hears_twice = λ k. let e : 2 ≡ 1 = ap (λ (h : Heard). h.asks) k.1 in omega (arith, e);
}

-- the history before a call that is the only one
only_call : (x y z : Event) (point : List Event) → x ∷ [] ≡ point ++ y ∷ [] → BeginsWith point (z ∷ []) → ⊥
only_call x y z [] e b = let f = b.1 in cc
only_call x y z (p ∷ []) e b = cc
only_call x y z (p ∷ q ∷ point) e b = cc

second_call : (point : List Event) → feed_waits ∷ press_claims ∷ [] ≡ point ++ feed_waits ∷ [] → ⊥
second_call [] e = cc
second_call (p ∷ []) e = let f : press_claims ≡ feed_waits = cc in let m : Press ≡ Feed = ap (λ (x : Event). x.machine) f in cc
second_call (p ∷ q ∷ []) e = cc
second_call (p ∷ q ∷ r ∷ point) e = cc

owners : OwnerExamples
owners = record {
  done = λ owner e. cc;
  held = λ owner e. cc;
  nobody = λ f. f None refl;
  another = λ f. f (Some Feed) refl;
  not_held = λ has owner e. let k = (holds_by_test unused [] Press Z3).0 (has Z3 refl) in cc;
  other_refusal = λ has owner e. cc;
  forgotten = λ s. only_call _ _ _ s.point s.ends s.begins;
  not_the_last = λ s. second_call s.point s.ends;
}

pub second_words : SecondWords
second_words = record { stamps = stamps; rests = rests; first_version = leaves; programs = programs; owners = owners }
