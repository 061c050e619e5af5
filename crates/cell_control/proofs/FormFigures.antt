-- The small program meets its figures.
use Rattle.std.proofs.Common.{◌≡◌, ℕ, zero, suc, ◌+◌, ◌<◌, Bool, true, false, refl, sym, ap, arith, subst, inl, inr, List, [], ◌∷◌, Option, Some, None, Result, Ok, Err}
use Rattle.std.specs.Prelude.{◌⊎◌, ⊤}
use Rattle.cell_rules.specs.Types.{Machine, Posture, Press, Robot, Refusal, Z2, Z3, Call, Claim, Inquire, Release, Held, Shut, OpenIn, Closed, Done, Settled, Reply, Event}
use Rattle.cell_rules.specs.declared.heard.LineFault.{LineFault}
use Rattle.cell_sensors.specs.declared.sense.SensorFault.{SensorFault}
use Rattle.cell_sensors.specs.declared.sense.SensorFault.TheVariants.{High}
use Rattle.cell_control.specs.Names.{waits_on, is_inquiry, Performed, PerformsSensed}
use Rattle.cell_control.specs.Rows.{NoOtherAnswers}
use Rattle.cell_control.specs.Steps.{Drives, GoesOn, IsReached, program_of}
use Rattle.cell_rules.specs.Programs.{Hears, MovesIn, Reached}
use Rattle.cell_rules.specs.Names.{IsSameFor, IsSound, ModelState, empty, own_events, start_state, zone_at}
use Rattle.cell_rules.proofs.lemmas.Lawful.{lawful_in, sound_from}
use Rattle.cell_rules.proofs.lemmas.Puts.{each_zone}
use Rattle.cell_control.specs.Turns.{asked_at}
use Rattle.cell_rules.specs.Seen.{heard_after}
use Rattle.cell_rules.specs.declared.heard.Heard.{Heard}
use Rattle.cell_control.proofs.lemmas.StepLemmas.{drives_on}
use Rattle.cell_control.specs.FormExamples.{SmallStep, Claiming, Falling, Rising, Stuck, Inquiring, Prying, Giving, small, by, row_at, shown_at, led_by, FormsAreMet}
use Rattle.cell_control.proofs.lemmas.WaitLemmas.{stays_never, stays_until_free, stays_until_room}

says_only : (other : Result ℕ SensorFault) → (((other ≡ Ok 3) × (0 < 3)) ⊎ ((other ≡ Err High) × (9 < 3))) → other ≡ Ok 3
says_only other (inl k) = k.0
says_only other (inr k) = absurd (omega (arith, k.1))

says_nothing : (said : Result ℕ SensorFault) → ¬ (((said ≡ Ok 0) × (0 < 0)) ⊎ ((said ≡ Err High) × (9 < 0)))
says_nothing said (inl k) = absurd (omega (arith, k.1))
says_nothing said (inr k) = absurd (omega (arith, k.1))

not_done : (p : SmallStep) → is_inquiry (row_at p).call ≡ true → (row_at p).next ≡ p
not_done Inquiring h = refl
not_done Prying h = refl
not_done Claiming h = absurd (cc)
not_done Falling h = absurd (cc)
not_done Rising h = absurd (cc)
not_done Stuck h = absurd (cc)
not_done Giving h = absurd (cc)

not_shown : (p : SmallStep) (owner : Option Machine) (flag : Bool) (posture : Posture) → is_inquiry (row_at p).call ≡ false → shown_at p owner flag posture ≡ p
not_shown Inquiring owner flag posture h = absurd (cc)
not_shown Prying owner flag posture h = refl
not_shown Claiming owner flag posture h = refl
not_shown Falling owner flag posture h = refl
not_shown Rising owner flag posture h = refl
not_shown Stuck owner flag posture h = refl
not_shown Giving owner flag posture h = refl

not_refused : (p : SmallStep) (r : Refusal) → (row_at p).call ≡ None → waits_on (row_at p).waits r ≡ false
not_refused Falling r h = refl
not_refused Rising r h = refl
not_refused Stuck r h = refl
not_refused Inquiring r h = refl
not_refused Claiming r h = absurd (cc)
not_refused Prying r h = absurd (cc)
not_refused Giving r h = absurd (cc)

led_on : (reading act : ℕ) → act ≡ reading + 1 → ¬ (Inquiring ≡ led_by act)
led_on reading zero up e = absurd (omega (arith, up))
led_on reading (suc act) up e = cc

moves : Drives small Rising Giving
moves = record { asks_nothing = refl; sense = 3; reading = 3; senses = inl (refl, omega arith); act = 4; drives = refl; is = refl }

no_other : NoOtherAnswers small
no_other = record { not_done = not_done; not_shown = not_shown; not_refused = not_refused }

-- its turn at step 0 claims, and tells it
claims_only : (asked : Option (Call × Result Reply LineFault)) (sense : ℕ) (sensed : Result ℕ SensorFault) (r : Performed SmallStep ℕ) → sense ≡ 3 → (by 7).senses sense sensed
    → PerformsSensed (by 7) sensed (⊤ × (asked ≡ None)) (λ q x. ⊤ × (asked ≡ Some (q, x))) Claiming r → (x : Result Reply LineFault) × (asked ≡ Some (Claim Z3, x))
claims_only asked sense (Err f) r e (inl k) h = absurd (cc)
claims_only asked sense (Err f) r e (inr k) h = absurd (omega (arith, e, k.1))
claims_only asked sense (Ok reading) r e s h = (h.0, h.1.1)

-- a step that asks is not passed by driving
asks_first : (n : ℕ) → ¬ MovesIn (program_of small) n Claiming Falling
asks_first zero k = cc
asks_first (suc n) k = let lie : Some (Claim Z3) ≡ None = k.1.asks_nothing in cc

on_from : (p q : SmallStep) → Drives small p q → GoesOn small [] p [] q
on_from p q d = drives_on small p q [] d

-- a turn that claims has been heard
hears_claim : (before now : Heard) (sensed : Result ℕ SensorFault) (r : Performed SmallStep ℕ) → small.senses 3 sensed
    → PerformsSensed small sensed (now ≡ before) (λ c x. (x ≡ Ok (Settled Done 5)) × (now ≡ heard_after before c x)) Claiming r → now ≡ heard_after before (Claim Z3) (Ok (Settled Done 5))
hears_claim before now (Err f) r (inl k) h = absurd (cc)
hears_claim before now (Err f) r (inr k) h = absurd (omega (arith, k.1))
hears_claim before now (Ok reading) r s h = subst (λ x. now ≡ heard_after before (Claim Z3) x) h.1.0 h.1.1

-- what a turn hears by what its sensors say
heard_claim : (before now : Heard) (sensed : Result ℕ SensorFault) → small.senses 3 sensed → Hears (asked_at small sensed Claiming) before now → (r : Result Reply LineFault) × (now ≡ heard_after before (Claim Z3) r)
heard_claim before now (Err f) (inl k) h = absurd (cc)
heard_claim before now (Err f) (inr k) h = absurd (omega (arith, k.1))
heard_claim before now (Ok reading) k h = h

heard_nothing : (before now : Heard) (sensed : Result ℕ SensorFault) → Hears (asked_at small sensed Rising) before now → now ≡ before
heard_nothing before now (Err f) h = h
heard_nothing before now (Ok reading) h = h

unread : (before now : Heard) (sensed : Result ℕ SensorFault) → sensed ≡ Err High → Hears (asked_at small sensed Claiming) before now → now ≡ before
unread before now (Err f) e h = h
unread before now (Ok reading) e h = absurd (cc)

-- from a step that can't drive, nothing is reached but itself
stuck : (n : ℕ) (q : SmallStep) → MovesIn (program_of small) n Stuck q → Stuck ≡ q
stuck zero q k = k
stuck (suc n) q k = absurd (k.1.drives)

none_from_stuck : (events : List Event) → ¬ Reached (program_of small) Stuck events Rising
none_from_stuck [] k = let lie : Stuck ≡ Rising = stuck k.0 Rising k.1 in cc
none_from_stuck (e ∷ events) k =
    let here : Stuck ≡ k.0 = stuck k.2.0 k.0 k.2.1 in
    let lie : None ≡ Some e.call = subst (λ p. (row_at p).call ≡ Some e.call) (sym here) k.3 in
    cc

from_stuck : (first : SmallStep) (events : List Event) → first ≡ Stuck → ¬ Reached (program_of small) first events Rising
from_stuck first events e k = none_from_stuck events (subst (λ p. Reached (program_of small) p events Rising) e k)

same_for_itself : (s : ModelState) → IsSameFor Press s s
same_for_itself s = record { owned = λ z e. refl; hosted = λ z e. refl; places = λ p e. refl }

start_is_sound : IsSound (start_state empty 0)
start_is_sound = sound_from (start_state empty 0) (omega arith) (each_zone (λ z. lawful_in empty z (zone_at (start_state empty 0) z) ≡ true) refl refl refl refl refl refl)

rising : IsReached (record small { start = λ s. Rising }) (start_state empty 0) [] Rising
rising = record { renewals = 0; first = Rising; in_step = refl; come = (0, refl) }

abbrev call_in : Option (Call × Result Reply LineFault) → Option Call
call_in None = None
call_in (Some asked) = Some asked.0

pub forms : FormsAreMet
forms = record {
  rows = record { asking = refl; driving = refl; waiting = refl; inquires = refl; claims = refl; drives = refl };
  asks = record {
    claims = record { asks = refl; stays = stays_until_free; leads = refl };
    gives = record { asks = refl; stays = stays_until_room; leads = refl };
    other_call = λ k. (let lie : Some (Claim Z3) ≡ Some (Release Z3) = k.asks in cc);
    other_zone = λ k. (let lie : Some (Claim Z3) ≡ Some (Claim Z2) = k.asks in cc);
    waits_for_nothing = λ k. (let lie : true ≡ false = k.stays (Held Robot) in cc);
    waits_for_more = λ k. (let lie : false ≡ true = k.stays (Shut Closed) in cc);
    other_wait = λ k. (let lie : false ≡ true = k.stays (Shut Closed) in cc);
    other_next = λ k. (let lie : Falling ≡ Rising = k.leads in cc);
    inquires = record { asks = refl; stays = stays_never; leads = λ owner flag posture. refl };
    inquires_another = λ k. (let lie : Some (Inquire Z2) ≡ Some (Inquire Z3) = k.asks in cc);
    inquires_and_waits = λ k. (let lie : true ≡ false = k.stays (Held Robot) in cc);
    leads_elsewhere = λ k. (let lie : Stuck ≡ Inquiring = k.leads None true OpenIn in cc);
  };
  drives = record {
    drives = record { asks_nothing = refl; drives = omega arith; drives_only = λ other also. omega (arith, also); leads = refl };
    further = record { asks_nothing = refl; drives = refl; drives_only = λ other also. also; leads = refl };
    asks = λ k. (let lie : Some (Claim Z3) ≡ None = k.asks_nothing in cc);
    drives_not = λ k. k.drives;
    drives_otherwise_too = λ k. (let lie : 1 ≡ 0 = k.drives_only 1 (omega arith) in omega (arith, lie));
    leads_elsewhere = λ k. (let lie : Inquiring ≡ Giving = k.leads in cc);
    moves = moves;
    moves_not_on = λ k. led_on k.reading k.act k.drives k.is;
    moves_not_where_it_asks = λ k. (let lie : Some (Claim Z3) ≡ None = k.asks_nothing in cc);
    moves_not_blindly = λ k. k.senses;
    moves_not_by_a_fault = λ k. (let lie : Ok k.reading ≡ Err High = k.senses in cc);
    moves_not_idly = λ k. k.drives;
  };
  checks = record {
    says = record { says = inl (refl, omega arith); says_only = says_only };
    says_another = λ k. (let lie : Ok 3 ≡ Ok 4 = k.says_only (Ok 3) (inl (refl, omega arith)) in cc);
    says_nothing = λ k. says_nothing _ k.says;
    says_two = λ k. (let lie : Err High ≡ Ok 10 = k.says_only (Err High) (inr (refl, omega arith)) in cc);
    two_said = inr (refl, omega arith);
    by_others = refl;
    not_by_others = λ k. cc;
    the_rest_stays = refl;
  };
  answers = record {
    none = no_other;
    done_inquiry = λ k. (let lie : Stuck ≡ Inquiring = k.not_done Inquiring refl in cc);
    shown_elsewhere = λ k. (let lie : Stuck ≡ Claiming = k.not_shown Claiming None true OpenIn refl in cc);
    drive_that_waits = λ k. (let lie : true ≡ false = k.not_refused Falling (Held Robot) refl in cc);
    of_machine = refl;
    calls = refl;
    done = refl;
    done_elsewhere = λ k. (let lie : Ok Falling ≡ Ok Claiming = k in cc);
    waits = refl;
    stops = λ k. cc;
    shown = refl;
    moves = moves;
  };
  controllers = record {
    program = refl;
    step = refl;
    fault = refl;
    rest = refl;
    owns_line = λ k. refl;
    owns_no_other = λ k. (let lie : Robot ≡ Press = k refl in cc);
    stopped_on_any_line = λ k. cc;
    stopped_anywhere = λ opening seen k. absurd (cc);
    reached = λ opening seen k. k refl;
    demands = λ opening seen. refl;
    demands_not = λ opening seen k. absurd (omega (arith, k));
    asks = (3, refl, (Ok (Falling, 7), record { sensed = Ok 3; senses = inl (refl, omega arith); performs = (Ok (Settled Done 5), (tt, refl), refl) }, refl));
    tells_what_it_asks = λ k. (let c = claims_only _ k.0 k.2.1.sensed k.2.0 k.1 k.2.1.senses k.2.1.performs in let lie : Some (Release Z3) ≡ Some (Claim Z3) = ap call_in c.1 in cc);
    asks_what_it_tells = λ k. (let c = claims_only _ k.0 k.2.1.sensed k.2.0 k.1 k.2.1.senses k.2.1.performs in let lie : None ≡ Some (Claim Z3, c.0) = c.1 in cc);
    stopped_asks_nothing = λ k. (let lie : Some (Claim Z3, Ok (Settled Done 5)) ≡ None = k.2.0.1 in cc);
    well = refl;
    faulty = λ fault. refl;
    with_commands = refl;
    with_fault = λ fault. refl;
    turned_well = refl;
    turned_faulty = λ fault. refl;
  };
  wirings = record {
    wiring = refl;
    stopped = λ opening seen. record { own = refl; reached = λ k. absurd (cc) };
    other_line = λ opening seen k. (let lie : Robot ≡ Press = k.own in cc);
    running = λ opening seen k. k.reached refl;
    stopped_off_line = λ left sound. record { own = refl; sound = sound; reached = λ k. absurd (cc) };
    other_off_line = λ left k. (let lie : Robot ≡ Press = k.own in cc);
    sound_off_line = λ left not_sound k. not_sound k.sound;
    running_off_line = λ left k. k.reached refl;
  };
  going = record {
    drives = on_from Rising Giving moves;
    asks_first = λ k. (let come = k Claiming (0, refl) in asks_first come.0 come.1);
    controller_drives = λ runs. on_from Rising Giving moves;
    controller_asks_first = λ k. (let come = k refl Claiming (0, refl) in asks_first come.0 come.1);
    controller_stops = λ runs. absurd (cc);
    line_drives = λ runs. on_from Rising Giving moves;
    line_asks_first = λ k. (let come = k refl Claiming (0, refl) in asks_first come.0 come.1);
    line_stops = λ runs. absurd (cc);
  };
  hearing = record {
    hears = λ heard. ((Ok (Falling, 100)), record { sensed = Ok 3; senses = inl (refl, omega arith); performs = (Ok (Settled Done 5), (refl, refl), refl) }, refl);
    hears_no_other = λ before now k. hears_claim before now k.1.sensed k.0 k.1.senses k.1.performs;
  };
  lines = record {
    asks = λ before c r. (refl, refl);
    asks_another = λ before now c other r apart k. apart k.0;
    hears_another = λ before now c r apart k. apart k.1;
    hears_what_it_asks = λ before now k. heard_claim before now k.sensed k.senses k.hears;
    hears_any_reply = λ before r. record { sensed = Ok 3; senses = inl (refl, omega arith); hears = (r, refl) };
    hears_nothing = λ before now k. heard_nothing before now k.sensed k.hears;
    stopped_hears_nothing = λ before now k. k;
    unread_hears_nothing = λ before now k. unread before now k.sensed k.senses k.hears;
  };
  carrying = record {
    carried =
        λ p s sound. record { opening = s; sound = sound; seen = []; legal = tt; first = p; in_step = (refl, refl); come = (0, refl); same = same_for_itself s };
    not_in_step = λ p s k. k.in_step;
    unsound = λ p s k. k.in_step k.sound;
    came_not = λ s k. from_stuck k.first (own_events k.seen Press) k.in_step k.come;
    same = λ p s k. (k.opening, k.seen, k.legal, k.same);
    meets = λ none opening seen sound legal reached. refl;
    any_while_it_asks = λ none. absurd (cc);
    meets_not = λ k. (let lie : 4 ≡ 1 = k refl (start_state empty 0) [] start_is_sound tt rising in omega (arith, lie));
  };
}
