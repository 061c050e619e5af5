-- What a state with another stamp answers.
use Rattle.cell_rules.proofs.Names.{◌≡◌, ◌≢◌, ◌≤◌, ◌<◌, ℕ, Bool, true, false, not, ◌&&◌, nat_lt, nat_eq, List, [], ◌∷◌, ◌++◌, ◌↔◌, Option, None, refl, sym, subst, ap, ◌∙◌, lt-ltb, arith, then_some, list_all, Machine, Zone, Posture, all_zones, all_places, host_of, keeper_of, same_machine, same_posture, one_machine, one_posture, Call, Claim, Inquire, Refusal, Worn, Answer, Done, Refused, ModelState, zone_at, is_full, last_stamp, IsSound}
use Rattle.cell_rules.proofs.Names.{is_owned_by, implies, owns, posture_at, after, IsLegal, own_events, reply, next, next_by, changed, done_unless, is_cause, restamped, IsSameFor, same_flag, ZoneState, is_worn, StampsOnlyWear, EndsAreSame, is_same_zone, is_same_place}
use Rattle.std.specs.Prelude.{IsTrue}
use Rattle.cell_rules.specs.Refusals
use Rattle.cell_rules.proofs.lemmas.Tables.{never, and_left, and_right, and_both, implied, all_pass, from_zones, from_places}
use Rattle.cell_rules.proofs.lemmas.Histories.{legal-left}
use Rattle.cell_rules.proofs.lemmas.HoldsLemmas.{holds_iff_owns}
use Rattle.cell_rules.proofs.lemmas.Postures.{posture-after}
use Rattle.cell_rules.proofs.lemmas.Keepers.{right_lasts}
use Rattle.cell_rules.proofs.lemmas.Soundness.{stamped}
use Rattle.cell_rules.proofs.lemmas.Holders.{owner_is, same_machine-self}
use Rattle.cell_rules.proofs.lemmas.Tellings.{same_posture-self}
use Rattle.cell_rules.proofs.lemmas.SeenLemmas.{own-append}
use Rattle.cell_rules.proofs.Refusing.{refusals_tell}

-- being worn is looked at last
last_alike : (rest : Option Refusal) (b c : Bool) → done_unless (Refusals.◌or◌ rest (then_some b Worn)) ≢ Refused Worn → c ≡ false
    → done_unless (Refusals.◌or◌ rest (then_some c Worn)) ≡ done_unless (Refusals.◌or◌ rest (then_some b Worn))
last_alike None b true n e = cc
last_alike None true false n e = absurd (n refl)
last_alike _ _ _ n e = refl

not_worn : (stamp : ℕ) → stamp < last_stamp → not (nat_lt stamp last_stamp) ≡ false
not_worn stamp l = ap not (lt-ltb stamp last_stamp l)

answers_alike : (s : ModelState) (stamp : ℕ) (m : Machine) (c : Call) → stamp < last_stamp → reply s m c ≢ Refused Worn → reply (restamped s stamp) m c ≡ reply s m c
answers_alike s stamp m (Inquire z) l n = refl
answers_alike s stamp m _ l n = last_alike _ _ _ n (not_worn stamp l)

-- the next state is the same but for the stamp
changed_alike : (s : ModelState) (stamp : ℕ) (m : Machine) (c : Call) → changed (restamped s stamp) m c ≡ restamped (changed s m c) (changed (restamped s stamp) m c).stamp
changed_alike s stamp m (Claim z) = refl
changed_alike s stamp m _ = refl

next_by_alike : (a : Answer) (s : ModelState) (stamp : ℕ) (m : Machine) (c : Call) → next_by a (restamped s stamp) m c ≡ restamped (next_by a s m c) (next_by a (restamped s stamp) m c).stamp
next_by_alike Done s stamp m c = changed_alike s stamp m c
next_by_alike _ s stamp m c = refl

next_alike : (s : ModelState) (stamp : ℕ) (m : Machine) (c : Call) → reply (restamped s stamp) m c ≡ reply s m c → next (restamped s stamp) m c ≡ restamped (next s m c) (next (restamped s stamp) m c).stamp
next_alike s stamp m c e = subst (λ a. next_by a (restamped s stamp) m c ≡ restamped (next s m c) (next_by a (restamped s stamp) m c).stamp) (sym e) (next_by_alike (reply s m c) s stamp m c)

-- what refuses a call as worn is the last stamp
worn_by : (s : ModelState) (m : Machine) (c : Call) → IsTrue (is_cause s m c Worn) → IsTrue (is_worn s)
worn_by s m (Inquire z) k = cc
worn_by s m _ k = k

below_last : (stamp : ℕ) → stamp < last_stamp → ¬ IsTrue (nat_eq stamp 1048575)
below_last stamp l k = grind arith

pub restamped_sound : (s : ModelState) (stamp : ℕ) → stamp ≤ last_stamp → IsSound s → IsSound (restamped s stamp)
restamped_sound s stamp l h = stamped s stamp s.stopped h l

pub stamps_only_wear : (s : ModelState) → StampsOnlyWear s
stamps_only_wear s = record {
  sound = λ stamp l h. restamped_sound s stamp l h;
  answer = λ stamp m c l n. answers_alike s stamp m c l n;
  next = λ stamp m c l n. next_alike s stamp m c (answers_alike s stamp m c l n);
  unworn = λ m c sound l e. below_last s.stamp l (worn_by s m c (refusals_tell.cause s m c Worn sound e));
}

-- ---- the same for a machine

none_after : {X : Type 0} → (xs ys : List X) → xs ++ ys ≡ xs → ys ≡ []
none_after [] ys e = e
none_after (x ∷ xs) ys e =
    let rest : xs ++ ys ≡ xs = cc in
    none_after xs ys rest

pub same_after : EndsAreSame
same_after opening m seen history stamp sound legal w =
    let more = w.begins.0 in
    let split : history ≡ seen ++ more = w.begins.1 in
    let whole : IsLegal opening (seen ++ more) = subst (IsLegal opening) split legal in
    let first : IsLegal opening seen = legal-left opening seen more whole in
    let none : own_events more m ≡ [] = none_after (own_events seen m) (own_events more m) (sym (own-append seen more m) ∙ ap (λ h. own_events h m) (sym split) ∙ w.own) in
    let lasts = right_lasts opening seen more sound whole in
    let at : (z : Zone) → zone_at (after opening history) z ≡ zone_at (after opening (seen ++ more)) z = λ z. ap (λ h. zone_at (after opening h) z) split in
    record {
      owned = λ z o. at z ∙ lasts.zone m z none ((holds_iff_owns opening seen m z first).1 o);
      hosted = λ z e. ap (λ v. v.posture) (at z) ∙ posture-after opening (seen ++ more) z whole ∙ lasts.posture z (ap (own_events more) e ∙ none) ∙ sym (posture-after opening seen z first);
      places = λ p e. ap (λ h. is_full (after opening h) p) split ∙ lasts.places p (ap (own_events more) e ∙ none);
    }

one_flag : (a b : Bool) → same_flag a b ≡ true → a ≡ b
one_flag true true e = refl
one_flag false false e = refl
one_flag _ _ e = cc

own_flag : (a b : Bool) → a ≡ b → same_flag a b ≡ true
own_flag true true e = refl
own_flag false false e = refl
own_flag _ _ e = cc

implied_by : (a b : Bool) → (a ≡ true → b ≡ true) → implies a b ≡ true
implied_by true b f = f refl
implied_by false b f = refl

zone_alike : (v w : ZoneState) (m : Machine) → is_owned_by v.owner m ≡ true → is_owned_by w.owner m ≡ true → w.flag ≡ v.flag → w.posture ≡ v.posture → w ≡ v
zone_alike v w m a b f q = let o : w.owner ≡ v.owner = owner_is w.owner m b ∙ sym (owner_is v.owner m a) in λ i. record { owner = o i; flag = f i; posture = q i }

same_of : (a b : Machine) → a ≡ b → same_machine a b ≡ true
same_of a b e = ap (same_machine a) (sym e) ∙ same_machine-self a

posture_of_same : (a b : Posture) → a ≡ b → same_posture a b ≡ true
posture_of_same a b e = ap (same_posture a) (sym e) ∙ same_posture-self a

pub same_by_test : (m : Machine) (s t : ModelState) → list_all (is_same_zone m s t) all_zones ≡ true → list_all (is_same_place m s t) all_places ≡ true → IsSameFor m s t
same_by_test m s t zs ps =
    let both : (z : Zone) → (implies (owns s m z) (owns t m z && same_flag (zone_at t z).flag (zone_at s z).flag && same_posture (posture_at t z) (posture_at s z)) ≡ true) × (implies (same_machine (host_of z) m) (same_posture (posture_at t z) (posture_at s z)) ≡ true) =
    λ z. (and_left _ _ (from_zones (is_same_zone m s t) zs z), and_right _ _ (from_zones (is_same_zone m s t) zs z)) in
    record {
      owned = λ z o.
          let three = implied (owns s m z) _ (both z).0 o in
          let two = and_left _ _ three in
          zone_alike (zone_at s z) (zone_at t z) m o (and_left _ _ two) (one_flag _ _ (and_right _ _ two)) (one_posture _ _ (and_right _ _ three));
      hosted = λ z e. one_posture _ _ (implied (same_machine (host_of z) m) _ (both z).1 (same_of (host_of z) m e));
      places = λ p e. one_flag _ _ (implied (same_machine (keeper_of p) m) _ (from_places (is_same_place m s t) ps p) (same_of (keeper_of p) m e));
    }

pub test_of_same : (m : Machine) (s t : ModelState) → IsSameFor m s t → (list_all (is_same_zone m s t) all_zones ≡ true) × (list_all (is_same_place m s t) all_places ≡ true)
test_of_same m s t k = (
  all_pass (is_same_zone m s t)
      (λ z. and_both _ _
      (implied_by (owns s m z) _ (λ o. and_both _ _ (and_both _ _ (ap (λ v. is_owned_by v.owner m) (k.owned z o) ∙ o) (own_flag _ _ (ap (λ v. v.flag) (k.owned z o)))) (posture_of_same _ _ (ap (λ v. v.posture) (k.owned z o)))))
      (implied_by (same_machine (host_of z) m) _ (λ e. posture_of_same _ _ (k.hosted z (one_machine (host_of z) m e)))))
      all_zones,
  all_pass (is_same_place m s t)
      (λ p. implied_by (same_machine (keeper_of p) m) _ (λ e. own_flag _ _ (k.places p (one_machine (keeper_of p) m e))))
      all_places,
)

-- by the tests of all zones and all places
pub same_if_places : (m : Machine) (s t : ModelState) (zs ps : Bool) → zs ≡ list_all (is_same_zone m s t) all_zones → ps ≡ list_all (is_same_place m s t) all_places → zs ≡ true → (ps ≡ true) ↔ IsSameFor m s t
same_if_places m s t zs ps of_zones of_places e = (λ f. same_by_test m s t (sym of_zones ∙ e) (sym of_places ∙ f), λ k. of_places ∙ (test_of_same m s t k).1)

pub not_same : (m : Machine) (s t : ModelState) (zs : Bool) → zs ≡ list_all (is_same_zone m s t) all_zones → zs ≡ false → (zs ≡ true) ↔ IsSameFor m s t
not_same m s t zs of_zones e = (λ f. absurd (never (sym f ∙ e)), λ k. of_zones ∙ (test_of_same m s t k).0)
