-- Laws of each word, and motors that look at several words.
use Rattle.std.proofs.Common.{◌≡◌, ℕ, ◌<◌, ◌≤◌, ◌⊎◌, inl, inr, Bool, true, false, arith, ◌&&◌, ◌||◌, nat_eq, map, is_some, List, [], ◌∷◌, length, Option, Some, None, option_map, refl, sym, subst, ap, ◌∙◌, IsTrue, eq-eqb}
use Rattle.std.proofs.lemmas.List.{get_or-map, get_or_past, length-map}
use Rattle.std.proofs.lemmas.Bool.{cases_lt, lt-ltb, eqb-true}
use Rattle.plan_motors.specs.declared.motor.ZoneNeed.{ZoneNeed}
use Rattle.plan_motors.specs.OfPlan.{is_needed}
use Rattle.plan_types.specs.declared.table.PlanPlace.{PlanPlace}
use Rattle.plan_types.specs.Table.{is_party, is_hosted, is_place_of, enters, space_of, same_space}
use Rattle.plan_types.specs.Below.{any_below}
use Rattle.plan_types.specs.declared.posture.Posture.TheVariants.{Moving}
use Rattle.plan_types.specs.declared.table.Transfer.{Transfer}
use Rattle.plan_types.specs.Table.{PlanTable, zone_count, place_count, host_of, guest_of, transfer_of}
use Rattle.plan_types.specs.Same.{same_posture}
use Rattle.plan_rules.specs.declared.state.ZoneState.{ZoneState}
use Rattle.plan_rules.specs.declared.state.State.{State}
use Rattle.plan_rules.specs.State.{zone_at, is_full}
use Rattle.plan_rules.specs.Sound.{IsSound, IsLawfulZone, implies, is_open, is_owned_by, is_received_by, is_entrant}
use Rattle.plan_rules.specs.Reply.{next}
use Rattle.plan_rules.specs.History.{after}
use Rattle.plan_rules.proofs.lemmas.Lawful.{every_history}
use Rattle.plan_motors.specs.declared.motor.Motor.{Motor}
use Rattle.plan_motors.specs.Motor.{no_need, need_of, place_need, meets, meets_place, Permits}
use Rattle.plan_motors.specs.Decided.{IsApartByZone, IsApartByPlace, SharesSpace, KeepsRules, MeetsSpace}
use Rattle.plan_rules.proofs.lemmas.Spaces.{shared_owner, shared_motion}
use Rattle.plan_words.specs.Groups.{number_in}
use Rattle.plan_words.proofs.Below.{tests_alike}
use Rattle.plan_words.proofs.Spaces.{same_space_out, other_space}
use Rattle.plan_words.proofs.Tables.{number_found}
use Rattle.plan_motors.proofs.lemmas.Lasting.{sound_after}
use Rattle.plan_motors.proofs.lemmas.Running.{may_run_permits}
use Rattle.plan_words.specs.Group.{Group, zone_out, place_out, IsGroup, IsTableOf, past}
use Rattle.plan_words.specs.Words.{call_out, IsIn, seen_by}
use Rattle.plan_words.specs.Run.{left, Word, WordEvent, IsLaidOut, states_after, events_of, AreCallsOf, IsWhole}
use Rattle.plan_words.specs.Motors.{motor_in, whole_after, WordsKeepLaws, PermittedByWords, IsMotorByWords, MayRunByWords, PermissionsLastByWords, HazardsNeverRunByWords, OneWordKeepsApart, PartsAreMotors}
use Rattle.plan_words.proofs.Answers.{lt_true, party_same, transfer_out, host_same, guest_same, transfer_same, rising_zones, rising_apart}
use Rattle.plan_words.proofs.Runs.{put_each, events_here, events_elsewhere, stays_whole}

pub words_keep_laws : (t : PlanTable) (count : ℕ) (words : ℕ → Word) → IsLaidOut t count words → WordsKeepLaws t count words
words_keep_laws t count words is states whole h w legal n l = every_history (words n).table (states n) (events_of h n) (is.plan n l) (w.sound n l) (legal n l)

-- ---- what a motor needs, by both numbers

pub need_in : (g : Group) (m : Motor) (i : ℕ) → i < length g.zones → need_of (motor_in g m) i ≡ need_of m (zone_out g i)
need_in g m i l = get_or-map (need_of m) g.zones i past no_need l

pub place_need_in : (g : Group) (m : Motor) (j : ℕ) → j < length g.places → place_need (motor_in g m) j ≡ place_need m (place_out g j)
place_need_in g m j l = get_or-map (place_need m) g.places j past None l

zone_met : (g : Group) (s whole : State) → IsIn g s whole → (m : Motor) (i : ℕ) → i < length g.zones
    → meets m.machine (need_of (motor_in g m) i) (zone_at s i) ≡ meets m.machine (need_of m (zone_out g i)) (zone_at whole (zone_out g i))
zone_met g s whole k m i l = ap (λ x. meets m.machine x (zone_at s i)) (need_in g m i l) ∙ ap (meets m.machine (need_of m (zone_out g i))) (sym (k.zone i l))

place_met : (g : Group) (s whole : State) → IsIn g s whole → (m : Motor) (j : ℕ) → j < length g.places
    → meets_place (place_need (motor_in g m) j) (is_full s j) ≡ meets_place (place_need m (place_out g j)) (is_full whole (place_out g j))
place_met g s whole k m j l = ap (λ x. meets_place x (is_full s j)) (place_need_in g m j l) ∙ ap (meets_place (place_need m (place_out g j))) (sym (k.place j l))

part_permitted : (t : PlanTable) (g : Group) (u : PlanTable) (s whole : State) (m : Motor) → IsGroup t g → IsTableOf t g u → IsIn g s whole → Permits t whole m → Permits u s (motor_in g m)
part_permitted t g u s whole m k b i p = record {
  zones = λ j l. let h = subst (λ n. j < n) b.zone_count l in subst IsTrue (sym (zone_met g s whole i m j h)) (p.zones (zone_out g j) (k.zones.below j h));
  places = λ j l. let h = subst (λ n. j < n) b.place_count l in subst IsTrue (sym (place_met g s whole i m j h)) (p.places (place_out g j) (k.places.below j h));
}

pub permitted_by_words : (t : PlanTable) (count : ℕ) (words : ℕ → Word) → IsLaidOut t count words → PermittedByWords t count words
permitted_by_words t count words is states whole m w = (
  λ p n l. part_permitted t (words n).group (words n).table (states n) whole m (is.group n l) (is.table n l) (w.is_in n l) p,
  λ each. record {
    zones = λ z l.
        let at = is.zone_somewhere z l in
        let n = at.0 in
        let i = at.2.0 in
        let g = (words n).group in
        let here = (each n at.1).zones i (subst (λ x. i < x) (sym (is.table n at.1).zone_count) at.2.1) in
        subst (λ x. IsTrue (meets m.machine (need_of m x) (zone_at whole x))) at.2.2 (subst IsTrue (zone_met g (states n) whole (w.is_in n at.1) m i at.2.1) here);
    places = λ p l.
        let at = is.place_somewhere p l in
        let n = at.0 in
        let j = at.2.0 in
        let g = (words n).group in
        let here = (each n at.1).places j (subst (λ x. j < x) (sym (is.table n at.1).place_count) at.2.1) in
        subst (λ x. IsTrue (meets_place (place_need m x) (is_full whole x))) at.2.2 (subst IsTrue (place_met g (states n) whole (w.is_in n at.1) m j at.2.1) here);
  },
)

-- ---- after a history

along : (ℕ → Word) → (ℕ → State) → List WordEvent → ℕ → State
along words states [] = states
along words states (x ∷ h) = along words (states_after words states x) h

whole_along : (t : PlanTable) (count : ℕ) (words : ℕ → Word) → IsLaidOut t count words → (states : ℕ → State) (whole : State) (h : List WordEvent) → IsWhole t count words states whole
    → AreCallsOf count words h → IsWhole t count words (along words states h) (whole_after t words states whole h)
unfolding along
whole_along t count words is states whole [] w of = w
whole_along t count words is states whole (x ∷ h) w of =
    whole_along t count words is (states_after words states x) (left t (seen_by (states x.word) whole) x.event.machine (call_out (words x.word).group x.event.call)) h
    (stays_whole t count words states whole x is w of.0.0 of.0.1) of.1

along_is : (words : ℕ → Word) (states : ℕ → State) (h : List WordEvent) (n : ℕ) → along words states h n ≡ after (words n).table (states n) (events_of h n)
unfolding along
along_is words states [] n = refl
along_is words states (x ∷ h) n =
    along_is words (states_after words states x) h n
    ∙ put_each (λ k y. after (words k).table y (events_of h k) ≡ after (words k).table (states k) (events_of (x ∷ h) k)) states x.word (next (words x.word).table (states x.word) x.event.machine x.event.call)
    (sym (ap (after (words x.word).table (states x.word)) (events_here x h)))
    (λ k ne. sym (ap (after (words k).table (states k)) (events_elsewhere x h k ne))) n

pub permissions_last : (t : PlanTable) (count : ℕ) (words : ℕ → Word) → IsLaidOut t count words → PermissionsLastByWords t count words
permissions_last t count words is states whole h m w of motors runs =
    (permitted_by_words t count words is (along words states h) (whole_after t words states whole h) m (whole_along t count words is states whole h w of)).1 (λ n l.
    subst (λ y. Permits (words n).table y (motor_in (words n).group m)) (sym (along_is words states h n))
    (may_run_permits every_history (words n).table (motor_in (words n).group m) (states n) (events_of h n) (is.plan n l) (motors n l) (w.sound n l) (runs n l)))

-- ---- hazards: a zone that keeps the rules on its word keeps those of the plan

received_out : (g : Group) (owner : Option ℕ) (w : Option Transfer) → is_received_by owner (option_map (transfer_out g) w) ≡ is_received_by owner w
received_out g owner None = refl
received_out g owner (Some way) = refl

-- who enters a space of the group enters it by the group alone
enters_out : (t : PlanTable) (g : Group) (u : PlanTable) → IsGroup t g → IsTableOf t g u → (m i : ℕ) → i < length g.zones → enters t m (zone_out g i) ≡ enters u m i
enters_out t g u is b m i l =
    tests_alike (λ y. same_space t y (zone_out g i) && (nat_eq m (host_of t y) || nat_eq m (guest_of t y))) (λ j. same_space u j i && (nat_eq m (host_of u j) || nat_eq m (guest_of u j)))
    (zone_out g) (zone_count t) (length g.zones) (rising_zones t g is)
    (λ j h. ap (λ x. x && (nat_eq m (host_of t (zone_out g j)) || nat_eq m (guest_of t (zone_out g j)))) (same_space_out t g u is b j i h l)
    ∙ (ap (λ n. same_space u j i && (nat_eq m n || nat_eq m (guest_of t (zone_out g j)))) (host_same t g u b j h)
    ∙ ap (λ n. same_space u j i && (nat_eq m (host_of u j) || nat_eq m n)) (guest_same t g u b j h)))
    (λ z in_plan miss. ap (λ x. x && (nat_eq m (host_of t z) || nat_eq m (guest_of t z))) (other_space t g is i z l in_plan miss))
    ∙ ap (any_below (λ j. same_space u j i && (nat_eq m (host_of u j) || nat_eq m (guest_of u j)))) (sym b.zone_count)

entrant_out : (t : PlanTable) (g : Group) (u : PlanTable) → IsGroup t g → IsTableOf t g u → (i : ℕ) (o : Option ℕ) → i < length g.zones → is_entrant t (zone_out g i) o ≡ is_entrant u i o
entrant_out t g u is b i None l = refl
entrant_out t g u is b i (Some m) l = enters_out t g u is b m i l

lawful_out : (t : PlanTable) (g : Group) (u : PlanTable) (i : ℕ) (v : ZoneState) → IsGroup t g → IsTableOf t g u → i < length g.zones → IsLawfulZone u i v → IsLawfulZone t (zone_out g i) v
lawful_out t g u i v is b l k =
    let host = sym (host_same t g u b i l) in
    let guest = sym (guest_same t g u b i l) in
    let way = sym (ap (is_received_by v.owner) (transfer_same t g u b i v.posture l) ∙ received_out g v.owner (transfer_of u i v.posture)) in
    record {
      owner_is_party = subst IsTrue (sym (entrant_out t g u is b i v.owner l)) k.owner_is_party;
      flag_has_transfer = subst (λ x. IsTrue (implies v.flag x)) way k.flag_has_transfer;
      guest_only_while_open = subst (λ n. IsTrue (implies (is_owned_by v.owner n) (is_open v.posture))) guest k.guest_only_while_open;
      moving_belongs_to_host = subst (λ n. IsTrue (implies (same_posture v.posture Moving) (is_owned_by v.owner n))) host k.moving_belongs_to_host;
    }

-- a zone of the space of a group's zone, by the group's numbers
pub record Shared (g : Group) (u : PlanTable) (i y k : ℕ) : Type 0 where
  pub below : k < length g.zones
  pub is : zone_out g k ≡ y
  pub same : space_of u k ≡ space_of u i

shared_in : (t : PlanTable) (g : Group) (u : PlanTable) → IsGroup t g → IsTableOf t g u → (i y : ℕ) → i < length g.zones → SharesSpace t (zone_out g i) y → Shared g u i y (number_in g.zones y)
shared_in t g u is b i y l shares =
    let has = is.by_space y (zone_out g i) (i, l, refl) shares.there shares.same in
    let found = number_found g.zones y (has.0, (has.1, has.2)) in
    let k = number_in g.zones y in
    let same : same_space u k i ≡ true = sym (same_space_out t g u is b k i found.0 l) ∙ (ap (λ z. same_space t z (zone_out g i)) found.1 ∙ eq-eqb _ _ shares.same) in
    record { below = found.0; is = found.1; same = eqb-true _ _ same }

-- what a word's state says of a zone of the plan
here : Group → State → ℕ → ZoneState
here g s y = zone_at s (number_in g.zones y)

here_is : (t : PlanTable) (g : Group) (s : State) → IsGroup t g → (i : ℕ) → i < length g.zones → here g s (zone_out g i) ≡ zone_at s i
unfolding here
here_is t g s is i l =
    let found = number_found g.zones (zone_out g i) (i, (l, refl)) in
    ap (zone_at s) (rising_apart g.zones (zone_count t) (number_in g.zones (zone_out g i)) i is.zones found.0 l found.1)

rules_out : (t : PlanTable) (g : Group) (u : PlanTable) (s : State) → IsGroup t g → IsTableOf t g u → IsSound u s → (i : ℕ) → i < length g.zones → KeepsRules t (zone_out g i) (here g s)
unfolding here
rules_out t g u s is b sound i l =
    let within : (k : ℕ) → k < length g.zones → k < zone_count u = λ k h. subst (λ n. k < n) (sym b.zone_count) h in
    let own = here_is t g s is i l in
    record {
      lawful = λ y shares.
          let at = shared_in t g u is b i y l shares in
          subst (λ z. IsLawfulZone t z (zone_at s (number_in g.zones y))) at.is
          (lawful_out t g u (number_in g.zones y) (zone_at s (number_in g.zones y)) is b at.below (sound.zone_is_lawful (number_in g.zones y) (within (number_in g.zones y) at.below)));
      owner = λ y shares.
          let at = shared_in t g u is b i y l shares in
          shared_owner u s (number_in g.zones y) i sound (within (number_in g.zones y) at.below) (within i l) at.same ∙ sym (ap (λ (v : ZoneState). v.owner) own);
      motion = λ y shares.
          let at = shared_in t g u is b i y l shares in
          shared_motion u s (number_in g.zones y) i sound (within (number_in g.zones y) at.below) (within i l) at.same ∙ sym (ap (λ (v : ZoneState). same_posture v.posture Moving) own);
    }

space_met : (t : PlanTable) (g : Group) (u : PlanTable) (s : State) (a : Motor) → IsGroup t g → IsTableOf t g u → (i : ℕ) → i < length g.zones → Permits u s (motor_in g a) → MeetsSpace t a (zone_out g i) (here g s)
unfolding here
space_met t g u s a is b i l x y shares =
    let at = shared_in t g u is b i y l shares in
    let k = number_in g.zones y in
    subst (λ z. IsTrue (meets a.machine (need_of a z) (zone_at s k))) at.is
    (subst (λ n. IsTrue (meets a.machine n (zone_at s k))) (need_in g a k at.below) (x.zones k (subst (λ n. k < n) (sym b.zone_count) at.below)))

apart_on_word : (t : PlanTable) (g : Group) (u : PlanTable) (s : State) (a b : Motor) (i : ℕ) → IsGroup t g → IsTableOf t g u → IsSound u s → i < length g.zones
    → IsApartByZone t a b (zone_out g i) → Permits u s (motor_in g a) → Permits u s (motor_in g b) → ⊥
apart_on_word t g u s a b i is k sound l apart x y =
    apart (here g s) (rules_out t g u s is k sound i l) (space_met t g u s a is k i l x) (space_met t g u s b is k i l y)

apart_by_place : (t : PlanTable) (g : Group) (u : PlanTable) (s : State) (a b : Motor) (j : ℕ) → IsTableOf t g u → j < length g.places
    → IsApartByPlace a b (place_out g j) → Permits u s (motor_in g a) → Permits u s (motor_in g b) → ⊥
apart_by_place t g u s a b j k l apart x y =
    let here = subst (λ n. j < n) (sym k.place_count) l in
    apart (is_full s j)
    (subst (λ n. IsTrue (meets_place n (is_full s j))) (place_need_in g a j l) (x.places j here))
    (subst (λ n. IsTrue (meets_place n (is_full s j))) (place_need_in g b j l) (y.places j here))

pub hazards_never_run : (t : PlanTable) (count : ℕ) (words : ℕ → Word) → IsLaidOut t count words → HazardsNeverRunByWords t count words
hazards_never_run t count words is states whole h a b w legal one two (inl z) x y =
    let at = is.zone_somewhere z.0 z.1 in
    let n = at.0 in
    let g = (words n).group in
    let u = (words n).table in
    let s = after u (states n) (events_of h n) in
    let permits : (m : Motor) → IsMotorByWords count words m → MayRunByWords count words states h m → Permits u s (motor_in g m) =
    λ m motor runs. may_run_permits every_history u (motor_in g m) (states n) (events_of h n) (is.plan n at.1) (motor n at.1) (w.sound n at.1) (runs n at.1) in
    apart_on_word t g u s a b at.2.0 (is.group n at.1) (is.table n at.1) (sound_after u (states n) (events_of h n) (is.plan n at.1) (w.sound n at.1)) at.2.1
    (subst (IsApartByZone t a b) (sym at.2.2) z.2) (permits a one x) (permits b two y)
hazards_never_run t count words is states whole h a b w legal one two (inr p) x y =
    let at = is.place_somewhere p.0 p.1 in
    let n = at.0 in
    let g = (words n).group in
    let u = (words n).table in
    let s = after u (states n) (events_of h n) in
    let permits : (m : Motor) → IsMotorByWords count words m → MayRunByWords count words states h m → Permits u s (motor_in g m) =
    λ m motor runs. may_run_permits every_history u (motor_in g m) (states n) (events_of h n) (is.plan n at.1) (motor n at.1) (w.sound n at.1) (runs n at.1) in
    apart_by_place t g u s a b at.2.0 (is.table n at.1) at.2.1 (subst (IsApartByPlace a b) (sym at.2.2) p.2) (permits a one x) (permits b two y)

pub one_word_keeps_apart : (t : PlanTable) (count : ℕ) (words : ℕ → Word) → IsLaidOut t count words → OneWordKeepsApart t count words
one_word_keeps_apart t count words is states whole h a b w legal one two apart x y =
    let n = apart.0 in
    let l = apart.1 in
    let g = (words n).group in
    let u = (words n).table in
    let permits : (m : Motor) → IsMotorByWords count words m → MayRunByWords count words states h m → Permits u (after u (states n) (events_of h n)) (motor_in g m) =
    λ m motor runs. may_run_permits every_history u (motor_in g m) (states n) (events_of h n) (is.plan n l) (motor n l) (w.sound n l) (runs n l) in
    apart.2 (events_of h n) (legal n l) (permits a one x) (permits b two y)

-- ---- parts of a motor

no : {A : Type 0} (b : Bool) → b ≡ false → IsTrue b → A
no true e x = absurd (let h = e in cc)
no false e x = absurd (let h : false ≡ true = x in cc)

party_part : (t : PlanTable) (g : Group) (u : PlanTable) → IsGroup t g → IsTableOf t g u → (m : Motor) → ((z : ℕ) → IsTrue (is_needed (need_of m z)) → IsTrue (is_party t m.machine z))
    → (i : ℕ) → (i < length g.zones) ⊎ (length g.zones ≤ i) → IsTrue (is_needed (need_of (motor_in g m) i)) → IsTrue (is_party u m.machine i)
party_part t g u k b m shared i (inl l) x = subst IsTrue (party_same t g u k b m.machine i l) (shared (zone_out g i) (subst (λ n. IsTrue (is_needed n)) (need_in g m i l) x))
party_part t g u k b m shared i (inr l) x = no (is_needed (need_of (motor_in g m) i)) (ap is_needed (get_or_past (map (need_of m) g.zones) i no_need (omega (arith, l, length-map g.zones (need_of m))))) x

pub hosted_part : (t : PlanTable) (g : Group) (u : PlanTable) → IsGroup t g → IsTableOf t g u → (m i : ℕ) → i < length g.zones → is_hosted t (zone_out g i) m ≡ is_hosted u i m
hosted_part t g u k b m i l = rw (lt-ltb (zone_out g i) (zone_count t) (k.zones.below i l), lt_true i (length g.zones) (zone_count u) l b.zone_count, host_same t g u b i l) refl

posture_part : (t : PlanTable) (g : Group) (u : PlanTable) → IsGroup t g → IsTableOf t g u → (m : Motor) → ((z : ℕ) → IsTrue (is_some (need_of m z).posture) → IsTrue ((need_of m z).holds || is_hosted t z m.machine))
    → (i : ℕ) → (i < length g.zones) ⊎ (length g.zones ≤ i) → IsTrue (is_some (need_of (motor_in g m) i).posture) → IsTrue ((need_of (motor_in g m) i).holds || is_hosted u i m.machine)
posture_part t g u k b m kept i (inl l) x =
    let there = kept (zone_out g i) (subst (λ (n : ZoneNeed). IsTrue (is_some n.posture)) (need_in g m i l) x) in
    subst (λ (n : ZoneNeed). IsTrue (n.holds || is_hosted u i m.machine)) (sym (need_in g m i l))
    (subst (λ h. IsTrue ((need_of m (zone_out g i)).holds || h)) (hosted_part t g u k b m.machine i l) there)
posture_part t g u k b m kept i (inr l) x =
    no (is_some (need_of (motor_in g m) i).posture) (ap (λ (n : ZoneNeed). is_some n.posture) (get_or_past (map (need_of m) g.zones) i no_need (omega (arith, l, length-map g.zones (need_of m))))) x

place_part : (t : PlanTable) (g : Group) (u : PlanTable) → IsGroup t g → IsTableOf t g u → (m : Motor) → ((p : ℕ) → IsTrue (is_some (place_need m p)) → IsTrue (is_place_of t p m.machine))
    → (j : ℕ) → (j < length g.places) ⊎ (length g.places ≤ j) → IsTrue (is_some (place_need (motor_in g m) j)) → IsTrue (is_place_of u j m.machine)
place_part t g u k b m own j (inl l) x =
    let there = own (place_out g j) (subst (λ n. IsTrue (is_some n)) (place_need_in g m j l) x) in
    let same : is_place_of t (place_out g j) m.machine ≡ is_place_of u j m.machine =
    rw (lt-ltb (place_out g j) (place_count t) (k.places.below j l), lt_true j (length g.places) (place_count u) l b.place_count, ap (λ (r : PlanPlace). r.keeper) (b.place j l)) refl in
    subst IsTrue same there
place_part t g u k b m own j (inr l) x = no (is_some (place_need (motor_in g m) j)) (ap is_some (get_or_past (map (place_need m) g.places) j None (omega (arith, l, length-map g.places (place_need m))))) x

pub parts_are_motors : (t : PlanTable) (count : ℕ) (words : ℕ → Word) → IsLaidOut t count words → PartsAreMotors t count words
parts_are_motors t count words is m f n l =
    let g = (words n).group in
    let u = (words n).table in
    let k = is.group n l in
    let b = is.table n l in
    let able = f.can_be in
    record {
      machine_is_of_plan = subst (λ x. m.machine < x) (sym b.machines) f.machine_is_of_plan;
      zone_is_shared = λ i _. party_part t g u k b m f.zone_is_shared i (cases_lt i (length g.zones));
      posture_is_kept = λ i _. posture_part t g u k b m f.posture_is_kept i (cases_lt i (length g.zones));
      place_is_own = λ j _. place_part t g u k b m f.place_is_own j (cases_lt j (length g.places));
      can_be = (able.0 n, able.3 n l, part_permitted t g u (able.0 n) able.1 m k b (able.2.is_in n l) able.4);
    }
