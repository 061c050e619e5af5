-- Each row of a motor, wherever it stands, has its needs in the plan, and each row of a hazard its motors.
use Rattle.std.proofs.Common.{◌≡◌, ◌∙◌, ◌+◌, ◌∷◌, [], ◌⊎◌, inl, inr, ℕ, Bool, true, false, ◌&&◌, ◌||◌, not, List, codes, refl, sym, ap, string_bytes, eq-eqb}
use Rattle.std.proofs.Common.{Option, Some, None, is_none, is_some}
use Rattle.std.proofs.lemmas.List.Folds.{list_any-append}
use Rattle.std.proofs.lemmas.Slice.Eq.{bytes_eq-Decides}
use Rattle.std.specs.List.{list_all, list_any}
use Rattle.std.specs.Prelude.{String}
use Rattle.std.specs.Str.{bytes_eq}
use Rattle.std.specs.declared.alloc.Global.{Global}
use Rattle.plan_types.specs.declared.posture.Posture.{Posture}
use Rattle.plan_motors.specs.declared.motor.Motor.{Motor}
use Rattle.plan_motors.specs.declared.motor.ZoneNeed.{ZoneNeed}
use Rattle.plan_text.specs.Answers.{posture_of}
use Rattle.plan_text.specs.Named.{Named}
use Rattle.plan_text.specs.Names.{Text, number_in}
use Rattle.plan_document.specs.declared.document.MotorRow.{MotorRow}
use Rattle.plan_document.specs.declared.document.PostureRow.{PostureRow}
use Rattle.plan_document.specs.Motors.{IsHazardOf, IsMotorOf, full_or_empty, held_need, is_known, is_listed, is_named, is_under_one, need}
use Rattle.plan_document.specs.PlanLaws.{AreOfOtherPlaces, HasPostureWord, HasZoneName, HazardsHaveNames, MotorHasNeeds, MotorsHaveNeeds, StandsAt}
use Rattle.plan_document.specs.Postures.{given, gives_zone}
use Rattle.plan_document.proofs.PlanRows.{both, impossible}
use Rattle.plan_document.proofs.PostureLaws.{given_nothing, known_by, last_says, other_number, says_something}
use Rattle.plan_document.proofs.Standing.{all_at, begins, later, name_of, zipped}

-- ---- needs of zones

held_one : (a : Option ZoneNeed) (b : Option Posture) (x : ZoneNeed) → a ≡ Some x → need a b ≡ x
held_one a b x e = ap (λ o. need o b) e

standing_one : (a : Option ZoneNeed) (b : Option Posture) (q : Posture) → is_under_one a b ≡ true → b ≡ Some q → need a b ≡ record { holds = false; posture = Some q }
standing_one None b q one e = ap (λ o. need None o) e
standing_one (Some x) None q one e = absurd (cc)
standing_one (Some x) (Some p) q one e = absurd (impossible one)

neither_one : (a : Option ZoneNeed) (b : Option Posture) → a ≡ None → b ≡ None → need a b ≡ record { holds = false; posture = None }
neither_one a b left right = ap (λ o. need o b) left ∙ ap (λ o. need None o) right

-- one of two that are not both said is none
one_none : {A B : Type 0} (a : Option A) (b : Option B) → (is_none a || is_none b) ≡ true → (a ≡ None → ⊥) → (b ≡ None → ⊥) → ⊥
one_none None b e left right = left refl
one_none (Some x) None e left right = right refl
one_none (Some x) (Some y) e left right = impossible e

-- ---- words under `holds`

any_held : (word : Text) → word ≡ codes "any" → held_need word ≡ Some (record { holds = true; posture = None })
any_held word e = ap held_need e

-- a posture's word isn't the word for any
word_held : (word : Text) (q : Posture) → posture_of word ≡ Some q → held_need word ≡ Some (record { holds = true; posture = Some q })
word_held word q e = by (bytes_eq word (codes "any")) refl
  where
    by : (b : Bool) → bytes_eq word (codes "any") ≡ b → held_need word ≡ Some (record { holds = true; posture = Some q })
    by true is =
        let same : word ≡ codes "any" = (bytes_eq-Decides word (codes "any")).0 is in
        let h : None ≡ Some q = sym (ap posture_of same) ∙ e in
        absurd (cc)
    by false is = rw (is, e) refl

held_word : (word : Text) → is_some (held_need word) ≡ true → (word ≡ codes "any") ⊎ (is_some (posture_of word) ≡ true)
held_word word e = by (bytes_eq word (codes "any")) refl (posture_of word) refl
  where
    by : (b : Bool) → bytes_eq word (codes "any") ≡ b → (o : Option Posture) → posture_of word ≡ o → (word ≡ codes "any") ⊎ (is_some (posture_of word) ≡ true)
    by true is o said = inl ((bytes_eq-Decides word (codes "any")).0 is)
    by false is (Some q) said = inr (ap (λ (x : Option Posture). is_some x) said)
    by false is None said =
        let h : is_some (held_need word) ≡ false = rw (is, said) refl in
        absurd (impossible (sym h ∙ e))

held_by : (n : Named) (rows : List PostureRow) → list_all (gives_zone held_need n.zones) rows ≡ true → (i : ℕ) (one : PostureRow) → StandsAt rows i one → HasZoneName n one × ((string_bytes one.posture ≡ codes "any") ⊎ HasPostureWord one)
held_by n rows all i one here =
    let h = both (is_some (number_in n.zones (string_bytes one.zone))) (is_some (held_need (string_bytes one.posture))) (all_at (gives_zone held_need n.zones) rows i one all here) in
    (h.0, held_word (string_bytes one.posture) h.1)

-- ---- places

or_true : (a b : Bool) → (a || (true || b)) ≡ true
or_true true b = refl
or_true false b = refl

-- a place of which the name stands in a list is listed
listed : (places : List Text) (names : List (String Global)) (nth : ℕ) (name : String Global) (place : ℕ) → StandsAt names nth name → number_in places (string_bytes name) ≡ Some place → is_listed places names place ≡ true
listed places names nth name place here has =
    let own : is_named places place name ≡ true = rw (has, eq-eqb place place refl) refl in
    ap (λ ns. is_listed places ns place) here.is
    ∙ list_any-append (is_named places place) here.before (name ∷ here.after)
    ∙ ap (λ b. list_any (is_named places place) here.before || (b || list_any (is_named places place) here.after)) own
    ∙ or_true (list_any (is_named places place) here.before) (list_any (is_named places place) here.after)

-- a place that no name is of isn't listed
unlisted : (n : Named) (names : List (String Global)) (place : ℕ) → AreOfOtherPlaces n place names → is_listed n.places names place ≡ false
unlisted n [] place others = refl
unlisted n (name ∷ names) place others =
    ap (λ b. b || is_listed n.places names place) (other_number (number_in n.places (string_bytes name)) place (others 0 name (begins name names)))
    ∙ unlisted n names place (λ i one here. others (i + 1) one (later name names i one here))

not_full : (a b : Bool) → not (a && b) ≡ true → b ≡ true → a ≡ false
not_full false b e is = refl
not_full true true e is = absurd (impossible e)
not_full true false e is = absurd (impossible is)

full_one : (a b : Bool) → a ≡ true → full_or_empty a b ≡ Some true
full_one a b e = ap (λ x. full_or_empty x b) e

empty_one : (a b : Bool) → not (a && b) ≡ true → b ≡ true → full_or_empty a b ≡ Some false
empty_one a b apart e = ap (λ x. full_or_empty x b) (not_full a b apart e) ∙ ap (full_or_empty false) e

unnamed_one : (a b : Bool) → a ≡ false → b ≡ false → full_or_empty a b ≡ None
unnamed_one a b left right = ap (λ x. full_or_empty x b) left ∙ ap (full_or_empty false) right

-- ---- motors and hazards

needs_of : (n : Named) (row : MotorRow) (motor : Motor) → IsMotorOf n row motor → MotorHasNeeds n row motor
needs_of n row motor is = record {
  machine = name_of n.machines (string_bytes row.machine) motor.machine is.machine;
  holds = λ zone one q small last word. is.zones.each zone small
      ∙ held_one (held zone) (stand zone) _ (last_says held_need n row.holds.items zone one _ last (word_held (string_bytes one.posture) q word));
  holds_any = λ zone one small last word. is.zones.each zone small
      ∙ held_one (held zone) (stand zone) _ (last_says held_need n row.holds.items zone one _ last (any_held (string_bytes one.posture) word));
  stands = λ zone one q small last word. is.zones.each zone small
      ∙ standing_one (held zone) (stand zone) q (is.zones.apart zone small) (last_says posture_of n row.stands.items zone one q last word);
  full = λ place nth name small here has. is.places.each place small
      ∙ full_one (filled place) (emptied place) (listed n.places row.full.items nth name place here has);
  empty = λ place nth name small here has. is.places.each place small
      ∙ empty_one (filled place) (emptied place) (is.places.apart place small) (listed n.places row.empty.items nth name place here has);
  no_zone = λ zone small holds stands. is.zones.each zone small
      ∙ neither_one (held zone) (stand zone) (given_nothing held_need n row.holds.items zone holds) (given_nothing posture_of n row.stands.items zone stands);
  no_place = λ place small full empty. is.places.each place small
      ∙ unnamed_one (filled place) (emptied place) (unlisted n row.full.items place full) (unlisted n row.empty.items place empty);
  zone_once = λ zone i j a b small here held_a there stand_b. one_none (held zone) (stand zone) (is.zones.apart zone small)
      (says_something held_need n row.holds.items zone i a is.zones.holds_known here held_a)
      (says_something posture_of n row.stands.items zone j b is.zones.stands_known there stand_b);
  place_once = λ place i j a b small here full there empty.
      impossible
      (sym (not_full (filled place) (emptied place) (is.places.apart place small) (listed n.places row.empty.items j b place there empty))
      ∙ listed n.places row.full.items i a place here full);
  known_holds = held_by n row.holds.items is.zones.holds_known;
  known_stands = known_by n row.stands.items is.zones.stands_known;
  known_full = λ i name here. all_at (is_known n.places) row.full.items i name is.places.full_known here;
  known_empty = λ i name here. all_at (is_known n.places) row.empty.items i name is.places.empty_known here;
}
  where
    held : ℕ → Option ZoneNeed
    held zone = given held_need n.zones row.holds.items zone

    stand : ℕ → Option Posture
    stand zone = given posture_of n.zones row.stands.items zone

    filled : ℕ → Bool
    filled place = is_listed n.places row.full.items place

    emptied : ℕ → Bool
    emptied place = is_listed n.places row.empty.items place

pub needed : MotorsHaveNeeds
needed d p is number row motor here there =
    needs_of p.named row motor (zipped (IsMotorOf p.named) d.motors.items p.motors.motors.items number row motor is.motors.motors here there)

pub endangered : HazardsHaveNames
endangered d p is number row hazard here there =
    let h = zipped (IsHazardOf p.motors.names) d.hazards.items p.motors.hazards.items number row hazard is.motors.hazards here there in
    record {
      first = name_of p.motors.names (string_bytes row.first) hazard.first h.first;
      second = name_of p.motors.names (string_bytes row.second) hazard.second h.second;
    }
