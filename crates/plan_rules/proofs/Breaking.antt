-- Literal histories that break the laws.
use Rattle.std.proofs.Common.{◌≡◌, ℕ, ◌<◌, true, false, List, [], ◌∷◌, ◌++◌, Option, Some, None, inl, inr, IsTrue, refl, sym, ap, ◌∙◌, subst, arith}
use Rattle.std.proofs.lemmas.List.Elements.{All-nil, All-cons, All-head}
use Rattle.plan_types.specs.declared.posture.Posture.TheVariants.{Closed, Moving, OpenIn}
use Rattle.plan_types.specs.declared.call.Call.TheVariants.{Claim, Release, Stop, Resume}
use Rattle.plan_types.specs.declared.answer.Refusal.{Refusal}
use Rattle.plan_types.specs.declared.answer.Refusal.TheVariants.{NotParty, Stopped}
use Rattle.plan_types.specs.declared.answer.Answer.TheVariants.{Refused}
use Rattle.plan_types.specs.declared.answer.Event.{Event}
use Rattle.plan_types.specs.Table.{watch}
use Rattle.plan_types.specs.Examples.{press_table, press_zone, press_poses}
use Rattle.plan_rules.proofs.Changes.{has_no_ends}
use Rattle.plan_rules.specs.declared.state.State.{State}
use Rattle.plan_rules.specs.declared.state.ZoneState.{ZoneState}
use Rattle.plan_rules.specs.Refusals.{owns}
use Rattle.plan_rules.specs.History.{IsLoss, is_gain, is_stop, is_resume, Holds, StopsAndStays, IsStopped}
use Rattle.plan_rules.specs.Laws.{done, HasZone}
use Rattle.plan_rules.specs.Causes.{number_of, order_of}
use Rattle.plan_rules.specs.RefusalLaws.{is_no_later}
use Rattle.plan_rules.specs.OrderExamples.{free, moving, with_stop}
use Rattle.plan_rules.specs.BrokenLaws.{clear, HoldersBroken, CountsBroken, RightsBroken, PosesBroken, HandoversBroken, StopsBroken, RefusalsBroken, LiteralFigures}

-- who owns a zone at first holds it
holds_at_first : (s : State) (m : ℕ) → owns s m 0 ≡ true → Holds press_table s [] m 0
holds_at_first s m e = inl (e, All-nil (λ x. ¬ IsLoss press_table x m 0))

pub no_event : (before : List Event) (e : Event) (since : List Event) → [] ≡ before ++ e ∷ since → ⊥
no_event [] e since is = cc
no_event (x ∷ before) e since is = cc

-- a history of one event has that one alone
only_event : (x e : Event) (before since : List Event) → x ∷ [] ≡ before ++ e ∷ since → x ≡ e
only_event x e [] since is = cc
only_event x e (y ∷ before) since is = let rest : [] ≡ before ++ e ∷ since = cc in absurd (no_event before e since rest)

-- who has released a zone doesn't hold it, and the plant goes on once it is resumed: by the events
pub lost_by_release : Holds press_table moving (done 1 (Release 0) ∷ []) 1 0 → ⊥
lost_by_release (inl held) = All-head (λ x. ¬ IsLoss press_table x 1 0) (done 1 (Release 0)) [] held.1 refl
lost_by_release (inr held) =
    let is = only_event (done 1 (Release 0)) held.gain held.before held.since held.split in
    let e : false ≡ true = subst (λ (x : Event). is_gain press_table x 1 0 ≡ true) (sym is) held.gained in
    cc

pub going_by_resume : IsStopped (with_stop free) (done 1 Resume ∷ []) → ⊥
going_by_resume (inl stopped) = All-head (λ x. ¬ IsTrue (is_resume x)) (done 1 Resume) [] stopped.1 refl
going_by_resume (inr stopped) =
    let is = only_event (done 1 Resume) stopped.stop stopped.before stopped.since stopped.split in
    let e : false ≡ true = subst (λ (x : Event). is_stop x ≡ true) (sym is) stopped.stopped in
    cc

-- nobody else does
unheld : (s : State) (m : ℕ) → owns s m 0 ≡ false → Holds press_table s [] m 0 → ⊥
unheld s m e (inl held) = let t : true ≡ false = sym held.0 ∙ e in cc
unheld s m e (inr held) = no_event held.before held.gain held.since held.split

-- who has claimed a zone holds it
loader_claimed : Holds press_table free (done 0 (Claim 0) ∷ []) 0 0
loader_claimed = inr (record { before = []; gain = done 0 (Claim 0); since = []; split = refl; gained = refl; kept = All-nil (λ x. ¬ IsLoss press_table x 0 0) })

-- the loader claims the zone, and then the press: by the events both hold it
abbrev both_claimed : List Event
both_claimed = done 0 (Claim 0) ∷ done 1 (Claim 0) ∷ []

loader_keeps : Holds press_table free both_claimed 0 0
loader_keeps = inr (record { before = []; gain = done 0 (Claim 0); since = done 1 (Claim 0) ∷ []; split = refl; gained = refl; kept = All-cons (λ x. ¬ IsLoss press_table x 0 0) (done 1 (Claim 0)) [] (λ e. cc) (All-nil (λ x. ¬ IsLoss press_table x 0 0)) })

press_claimed : Holds press_table free both_claimed 1 0
press_claimed = inr (record { before = done 0 (Claim 0) ∷ []; gain = done 1 (Claim 0); since = []; split = refl; gained = refl; kept = All-nil (λ x. ¬ IsLoss press_table x 1 0) })

pub holders : HoldersBroken
holders = record {
  alone = λ law. let e : 0 ≡ 1 = law.alone 0 1 0 loader_keeps press_claimed in absurd (omega arith);
  party = λ law. let e : false ≡ true = law.party 2 0 (omega arith) (holds_at_first (clear (Some 2) Closed) 2 refl) in cc;
  owner = λ law. let e : false ≡ true = (law.owner 0 0).0 loader_claimed in cc;
  moves = λ law. unheld (clear None Moving) 1 refl (law.moves 0 (omega arith) refl);
  changes_unheld = λ law. unheld (clear None OpenIn) 1 refl (law.changes [] [] 1 2 refl 0 Closed (omega arith) refl (λ e. cc)).1;
  changes_anothers = λ law. let e : 1 ≡ 0 = (law.changes [] [] 0 2 refl 0 Closed (omega arith) refl (λ e. cc)).0 in absurd (omega arith);
  guest = λ law. let e : false ≡ true = law 0 (omega arith) (holds_at_first (clear (Some 0) Closed) 0 refl) in cc;
}

pub counts : CountsBroken
counts = record {
  sound = λ law. let e : false ≡ true = (law.zone_is_lawful 0 (omega arith)).owner_is_party in cc;
  plates = λ law. let e : 1 ≡ 2 = law (has_no_ends 2 (press_zone ∷ []) press_poses (0 ∷ 1 ∷ [])) in absurd (omega arith);
  stamp = λ law. let e : 7 ≡ 8 = law in absurd (omega arith);
}

pub rights : RightsBroken
rights = record {
  zone = λ law. let e : ◌≡◌ {A = Option ℕ} (Some 1) None = ap (λ (v : ZoneState). v.owner) (law.zone 0 0 (omega arith) refl loader_claimed) in cc;
  places = λ law. let e : true ≡ false = law.places 1 (omega arith) refl in cc;
  posture = λ law. let e : Moving ≡ Closed = law.posture 0 (omega arith) refl in cc;
}

pub poses : PosesBroken
poses = record {
  by_events = λ law. let e : Moving ≡ Closed = law 0 (omega arith) in cc;
  own = λ law. let e : 1 ≡ 0 = (law.own [] [] 0 3 refl).1 in absurd (omega arith);
  past_the_end = λ law. let e : 4 < 4 = (law.own [] [] 0 4 refl).0 in absurd (omega arith);
  no_jump = λ law. let e : Closed ≡ Moving = law.no_jump [] [] 1 0 refl refl 0 (omega arith) refl in cc;
  all_held = λ law. let e : ◌≡◌ {A = Option ℕ} None (Some 1) = law.all_held [] [] 1 3 0 refl refl 0 (omega arith) refl in cc;
  all_clear = λ law. let e : true ≡ false = law.all_clear [] [] 1 3 0 refl refl 0 (omega arith) refl in cc;
  opens_onto_empty = λ law. let e : 1 ≡ 0 = law.opens_onto_empty [] [] 1 0 refl 0 (record { giver = 0; receiver = 1; from = 0; to = 1 }) (omega arith) refl (λ e. cc) refl in absurd (omega arith);
}

unowned : HasZone press_table free [] 0 0 → ⊥
unowned has = let e : ◌≡◌ {A = Option ℕ} None (Some 0) = has.2 in cc

pub handovers : HandoversBroken
handovers = record {
  give = λ law. unowned (law.give [] [] 0 0 refl);
  yield = λ law. unowned (law.yield [] [] 0 0 refl);
  take = λ law. unowned (law.take [] [] 0 0 refl);
  release = λ law. unowned (law.release [] [] 0 0 refl);
  zone = λ has. let e : 1 < 1 = has.0 in absurd (omega arith);
  held = λ has. lost_by_release has.1;
  owner = λ has. let e : ◌≡◌ {A = Option ℕ} None (Some 0) = has.2 in cc;
}

stopped_at_first : IsStopped (with_stop free) []
stopped_at_first = inl (refl, All-nil (λ e. ¬ IsTrue (is_resume e)))

going_at_first : IsStopped free [] → ⊥
going_at_first (inl stopped) = let e : false ≡ true = stopped.0 in cc
going_at_first (inr stopped) = no_event stopped.before stopped.stop stopped.since stopped.split

pub stops : StopsBroken
stops = record {
  mark = λ law.
      let by_events : StopsAndStays (done watch Stop ∷ []) = record { before = []; stop = done watch Stop; since = []; split = refl; stopped = refl; kept = All-nil (λ e. ¬ IsTrue (is_resume e)) } in
      let e : false ≡ true = law.mark.0 (inr by_events) in
      cc;
  barred = λ law. let e : true ≡ false = law.barred [] [] 0 (Claim 0) refl stopped_at_first in cc;
  stop = λ law. let e : 1 ≡ 30 = (law.stop [] (done watch Resume ∷ []) 1 refl).0 in absurd (omega arith);
  resume = λ law. let e : 1 ≡ 30 = (law.resume (done watch Stop ∷ []) (done watch Stop ∷ []) 1 refl).0 in absurd (omega arith);
  stop_again = λ law. (law.stop [] [] watch refl).1 stopped_at_first;
  resume_again = λ law. going_at_first (law.resume [] [] watch refl).1;
}

pub refusals : RefusalsBroken
refusals = record {
  order = λ law.
      let said : Refused Stopped ≡ Refused law.answered = law.answer in
      let is : Stopped ≡ law.answered = cc in
      let e : false ≡ true = subst (λ (r : Refusal). is_no_later (order_of (Claim 0)) (number_of r) (number_of NotParty) ≡ true) (sym is) law.order in
      cc;
  answer = λ law. let e = law.answer in cc;
}

pub figures : LiteralFigures
figures = record { one_plate = refl; three_plates = refl; past_the_table = refl; own = refl; moves = refl; start = record { stamp_in_range = omega arith; has_sixteen_places = refl; same = refl } }
