-- If some zones of a space that keep the rules are as two motors need them, then so are those that their needs are put
-- together to.
use Rattle.std.proofs.Common.{◌≡◌, ℕ, zero, suc, ◌<◌, inl, inr, ◌⊎◌, Bool, true, false, ◌&&◌, ◌||◌, nat_eq, if◌then◌else◌, Option, Some, None, refl, sym, ap, ◌∙◌, subst, unwrap_or, IsTrue, arith}
use Rattle.std.specs.Option.{option_or}
use Rattle.std.specs.Bool.{then_some}
use Rattle.std.proofs.lemmas.Bool.{eqb-true, and_parts}
use Rattle.plan_types.specs.declared.posture.Posture.{Posture}
use Rattle.plan_types.specs.declared.posture.Posture.TheVariants.{Closed, Moving, OpenIn, OpenOut}
use Rattle.plan_types.specs.Same.{same_posture, one_posture}
use Rattle.plan_types.specs.Below.{any_below}
use Rattle.plan_types.specs.Table.{PlanTable, zone_count, host_of, guest_of, is_moving, space_of, same_space}
use Rattle.plan_types.proofs.lemmas.Below.{any_below_none, first_below_none, first_of}
use Rattle.plan_rules.specs.declared.state.ZoneState.{ZoneState}
use Rattle.plan_rules.specs.Sound.{IsLawfulZone, implies, is_open, is_owned_by, is_entrant}
use Rattle.plan_rules.proofs.lemmas.Puts.{nat_eq-self}
use Rattle.plan_motors.specs.declared.motor.Motor.{Motor}
use Rattle.plan_motors.specs.Motor.{need_of, meets, has_posture}
use Rattle.plan_motors.specs.Decided.{SharesSpace, KeepsRules, MeetsSpace}
use Rattle.plan_motors.specs.Exclusion.{is_shared, is_lawful, zone_for, owner_for, owner_needed, posture_needed, owner_near, owner_in, moves_near, moves_in}
use Rattle.plan_motors.specs.Poses.{fits_in}

pub holder_is : (o : Option ℕ) (m : ℕ) → is_owned_by o m ≡ true → o ≡ Some m
holder_is None m e = cc
holder_is (Some k) m e = ap (λ (x : ℕ). Some x) (eqb-true k m e)

and_true : (a b : Bool) → a ≡ true → b ≡ true → (a && b) ≡ true
and_true a b e f = rw (e, f) refl

-- ---- a zone, as motors of machines m and n need it, of owner o and posture p
module _ (t : PlanTable) (z m n : ℕ) where
  abbrev h : ℕ
  h = host_of t z

  abbrev g : ℕ
  g = guest_of t z

  record Parts (ha hb : Bool) (qa qb : Option Posture) (o : Option ℕ) (p : Posture) : Type 0 where
    party : is_entrant t z o ≡ true
    guest : implies (is_owned_by o g) (is_open p) ≡ true
    moves : implies (same_posture p Moving) (is_owned_by o h) ≡ true
    first_holds : implies ha (is_owned_by o m) ≡ true
    first_posture : has_posture qa p ≡ true
    second_holds : implies hb (is_owned_by o n) ≡ true
    second_posture : has_posture qb p ≡ true

  moved : (ha hb : Bool) (qa qb : Option Posture) (o w : Option ℕ) (p x : Posture) → o ≡ w → p ≡ x → Parts ha hb qa qb o p → Parts ha hb qa qb w x
  moved ha hb qa qb o w p x e f q = subst (λ y. Parts ha hb qa qb w y) f (subst (λ y. Parts ha hb qa qb y p) e q)

  open_by : (b : Bool) → implies b (is_open (if b then OpenIn else Closed)) ≡ true
  open_by true = refl
  open_by false = refl

  still : (b c : Bool) → implies (same_posture (if b then OpenIn else Closed) Moving) c ≡ true
  still true c = refl
  still false c = refl

  -- no posture is needed
  with_owner : (k : ℕ) (ha hb : Bool) (o : Option ℕ) (p : Posture) → o ≡ Some k → Parts ha hb None None o p → Parts ha hb None None (Some k) (if nat_eq k g then OpenIn else Closed)
  with_owner k ha hb o p e q =
      let at = subst (λ y. Parts ha hb None None y p) e q in
      record {
        party = at.party;
        guest = open_by (nat_eq k g);
        moves = still (nat_eq k g) (nat_eq k h);
        first_holds = at.first_holds;
        first_posture = refl;
        second_holds = at.second_holds;
        second_posture = refl;
      }

  -- no owner is needed
  free : (qa qb : Option Posture) (o : Option ℕ) (p : Posture) → same_posture p Moving ≡ false → Parts false false qa qb o p → Parts false false qa qb None p
  free qa qb o p e q = record {
    party = refl;
    guest = refl;
    moves = ap (λ b. implies b false) e;
    first_holds = refl;
    first_posture = q.first_posture;
    second_holds = refl;
    second_posture = q.second_posture;
  }

  abbrev Wanted : Bool → Bool → Option Posture → Option Posture → Option ℕ → Bool → Type 0
  Wanted ha hb qa qb needed moving =
      Parts ha hb qa qb (option_or needed (then_some (is_moving (then_some moving Moving)) h))
      (unwrap_or (option_or (then_some moving Moving) (option_or qa qb)) (if is_owned_by needed g then OpenIn else Closed))

  -- the space moves
  found_moving : (needed : Option ℕ) (ha hb : Bool) (qa qb : Option Posture) (o : Option ℕ) (p : Posture) → ((k : ℕ) → needed ≡ Some k → o ≡ Some k) → p ≡ Moving
      → Parts ha hb qa qb o p → Wanted ha hb qa qb needed true
  found_moving (Some k) ha hb qa qb o p own e q = moved ha hb qa qb o (Some k) p Moving (own k refl) e q
  found_moving None ha hb qa qb o p own e q =
      let here = subst (λ x. Parts ha hb qa qb o x) e q in
      moved ha hb qa qb o (Some h) Moving Moving (holder_is o h here.moves) refl here

  -- it has an owner, and doesn't move
  found_owned : (k : ℕ) (ha hb : Bool) (qa qb : Option Posture) (o : Option ℕ) (p : Posture) → o ≡ Some k → Parts ha hb qa qb o p → Wanted ha hb qa qb (Some k) false
  found_owned k ha hb (Some x) qb o p own q = moved ha hb (Some x) qb o (Some k) p x own (one_posture p x q.first_posture) q
  found_owned k ha hb None (Some x) o p own q = moved ha hb None (Some x) o (Some k) p x own (one_posture p x q.second_posture) q
  found_owned k ha hb None None o p own q = with_owner k ha hb o p own q

  -- it has none
  found_free : (qa qb : Option Posture) (o : Option ℕ) (p : Posture) → is_moving (option_or qa qb) ≡ false → Parts false false qa qb o p → Wanted false false qa qb None false
  found_free (Some x) qb o p e q = free (Some x) qb o x e (subst (λ y. Parts false false (Some x) qb o y) (one_posture p x q.first_posture) q)
  found_free None (Some x) o p e q = free None (Some x) o x e (subst (λ y. Parts false false None (Some x) o y) (one_posture p x q.second_posture) q)
  found_free None None o p e q = record { party = refl; guest = refl; moves = refl; first_holds = refl; first_posture = refl; second_holds = refl; second_posture = refl }

  abbrev Unheld : Bool → Bool → Type 0
  Unheld ha hb = (ha ≡ false) × (hb ≡ false)

  found_unowned : (ha hb : Bool) (qa qb : Option Posture) (o : Option ℕ) (p : Posture) → Unheld ha hb → is_moving (option_or qa qb) ≡ false → Parts ha hb qa qb o p → Wanted ha hb qa qb None false
  found_unowned ha hb qa qb o p none e q =
      subst (λ x. Wanted x hb qa qb None false) (sym none.0)
      (subst (λ y. Wanted false y qa qb None false) (sym none.1)
      (found_free qa qb o p e (subst (λ x. Parts x false qa qb o p) none.0 (subst (λ y. Parts ha y qa qb o p) none.1 q))))

  found : (needed : Option ℕ) (moving : Bool) (ha hb : Bool) (qa qb : Option Posture) (o : Option ℕ) (p : Posture) → ((k : ℕ) → needed ≡ Some k → o ≡ Some k) → (needed ≡ None → Unheld ha hb)
      → (moving ≡ true → p ≡ Moving) → (moving ≡ false → is_moving (option_or qa qb) ≡ false) → Parts ha hb qa qb o p → Wanted ha hb qa qb needed moving
  found needed true ha hb qa qb o p own none moves still_so q = found_moving needed ha hb qa qb o p own (moves refl) q
  found (Some k) false ha hb qa qb o p own none moves still_so q = found_owned k ha hb qa qb o p (own k refl) q
  found None false ha hb qa qb o p own none moves still_so q = found_unowned ha hb qa qb o p (none refl) (still_so refl) q

  -- the same of the zone by itself, in the posture that it has
  abbrev owner_wanted : Bool → Bool → Option ℕ
  owner_wanted ha hb = if ha then Some m else if hb then Some n else None

  abbrev FoundAt : Bool → Bool → Option Posture → Option Posture → Posture → Type 0
  FoundAt ha hb qa qb p = Parts ha hb qa qb (option_or (owner_wanted ha hb) (then_some (is_moving (Some p)) h)) p

  with_posture : (qa qb : Option Posture) (o : Option ℕ) (p : Posture) → Parts false false qa qb o p → Parts false false qa qb (then_some (is_moving (Some p)) h) p
  with_posture qa qb o Moving q = moved false false qa qb o (Some h) Moving Moving (holder_is o h q.moves) refl q
  with_posture qa qb o Closed q = free qa qb o Closed refl q
  with_posture qa qb o OpenIn q = free qa qb o OpenIn refl q
  with_posture qa qb o OpenOut q = free qa qb o OpenOut refl q

  found_at : (ha hb : Bool) (qa qb : Option Posture) (o : Option ℕ) (p : Posture) → Parts ha hb qa qb o p → FoundAt ha hb qa qb p
  found_at true hb qa qb o p q = moved true hb qa qb o (Some m) p p (holder_is o m q.first_holds) refl q
  found_at false true qa qb o p q = moved false true qa qb o (Some n) p p (holder_is o n q.second_holds) refl q
  found_at false false qa qb o p q = with_posture qa qb o p q

-- ---- of motors
abbrev PartsOf : PlanTable → Motor → Motor → ℕ → Option ℕ → Posture → Type 0
PartsOf t a b z o p = Parts t z a.machine b.machine (need_of a z).holds (need_of b z).holds (need_of a z).posture (need_of b z).posture o p

given : (t : PlanTable) (a b : Motor) (z : ℕ) (v : ZoneState) → IsLawfulZone t z v
    → IsTrue (meets a.machine (need_of a z) v) → IsTrue (meets b.machine (need_of b z) v) → PartsOf t a b z v.owner v.posture
given t a b z v k x y =
    let xs = and_parts (implies (need_of a z).holds (is_owned_by v.owner a.machine)) (has_posture (need_of a z).posture v.posture) x in
    let ys = and_parts (implies (need_of b z).holds (is_owned_by v.owner b.machine)) (has_posture (need_of b z).posture v.posture) y in
    record {
      party = k.owner_is_party;
      guest = k.guest_only_while_open;
      moves = k.moving_belongs_to_host;
      first_holds = xs.0;
      first_posture = xs.1;
      second_holds = ys.0;
      second_posture = ys.1;
    }

shared_by : (t : PlanTable) (a b : Motor) (z : ℕ) (o : Option ℕ) (p : Posture) → PartsOf t a b z o p → is_shared t a b z (record { owner = o; flag = false; posture = p }) ≡ true
shared_by t a b z o p q =
    let w : ZoneState = record { owner = o; flag = false; posture = p } in
    let lawful : is_lawful t z w ≡ true = and_true _ _ (and_true _ _ q.party q.guest) q.moves in
    let first : meets a.machine (need_of a z) w ≡ true = and_true _ _ q.first_holds q.first_posture in
    let second : meets b.machine (need_of b z) w ≡ true = and_true _ _ q.second_holds q.second_posture in
    and_true _ _ (and_true _ _ lawful first) second

pub fits_if : (t : PlanTable) (a b : Motor) (z : ℕ) (v : ZoneState) → IsLawfulZone t z v
    → IsTrue (meets a.machine (need_of a z) v) → IsTrue (meets b.machine (need_of b z) v) → fits_in t a b z v.posture ≡ true
fits_if t a b z v k x y =
    let na = need_of a z in
    let nb = need_of b z in
    shared_by t a b z (owner_for t z (owner_needed a b z) (Some v.posture)) v.posture
    (found_at t z a.machine b.machine na.holds nb.holds na.posture nb.posture v.owner v.posture (given t a b z v k x y))

-- ---- what they need of a space
none_is : {A : Type 0} (x : A) → ◌≡◌ {A = Option A} None (Some x) → ⊥
none_is x e = cc

pub near : (b : Bool) (o : Option ℕ) (k : ℕ) → (if b then o else None) ≡ Some k → (b ≡ true) × (o ≡ Some k)
near true o k e = (refl, e)
near false o k e = absurd (none_is k e)

not_near : (b : Bool) (o : Option ℕ) → b ≡ true → (if b then o else None) ≡ None → o ≡ None
not_near b o e f = sym (ap (λ c. if c then o else None) e) ∙ f

-- the machine that is needed as the owner owns the zone
owner_met : (ha hb : Bool) (m n k : ℕ) (o : Option ℕ) → implies ha (is_owned_by o m) ≡ true → implies hb (is_owned_by o n) ≡ true → (if ha then Some m else if hb then Some n else None) ≡ Some k → o ≡ Some k
owner_met true hb m n k o x y e = holder_is o m x ∙ e
owner_met false true m n k o x y e = holder_is o n y ∙ e
owner_met false false m n k o x y e = absurd (none_is k e)

unheld : (ha hb : Bool) (m n : ℕ) → (if ha then Some m else if hb then Some n else None) ≡ None → (ha ≡ false) × (hb ≡ false)
unheld true hb m n e = absurd (none_is m (sym e))
unheld false true m n e = absurd (none_is n (sym e))
unheld false false m n e = (refl, refl)

-- a zone that is needed moving moves
motion_met : (qa qb : Option Posture) (p : Posture) → has_posture qa p ≡ true → has_posture qb p ≡ true → is_moving (option_or qa qb) ≡ true → p ≡ Moving
motion_met (Some x) qb p u v e = one_posture p x u ∙ one_posture x Moving e
motion_met None (Some x) p u v e = one_posture p x v ∙ one_posture x Moving e
motion_met None None p u v e = cc

pub some_below : (f : ℕ → Bool) (n : ℕ) → any_below f n ≡ true → (i : ℕ) × (i < n) × (f i ≡ true)
some_below f zero e = cc
some_below f (suc n) e =
    elim (either (any_below f n) (f n) e) [
      | inl k ↦ let r = some_below f n k in let l = r.1 in (r.0, omega (arith, l), r.2)
      | inr k ↦ (n, omega arith, k)
    ]
  where
    either : (a b : Bool) → (a || b) ≡ true → (a ≡ true) ⊎ (b ≡ true)
    either true b e = inl refl
    either false b e = inr e

pub stays_still : (t : PlanTable) (a b : Motor) (z : ℕ) → z < zone_count t → moves_in t a b z ≡ false → is_moving (posture_needed a b z) ≡ false
stays_still t a b z l e = second (same_space t z z) (is_moving (posture_needed a b z)) (nat_eq-self (space_of t z)) (any_below_none (moves_near t a b z) (zone_count t) e z l)
  where
    second : (c d : Bool) → c ≡ true → (c && d) ≡ false → d ≡ false
    second true d e f = f
    second false d e f = cc

-- zones that are as both motors need them
module _ (t : PlanTable) (a b : Motor) (z : ℕ) (v : ℕ → ZoneState) (l : z < zone_count t) (k : KeepsRules t z v) (x : MeetsSpace t a z v) (y : MeetsSpace t b z v) where
  here : SharesSpace t z z
  here = record { there = l; same = refl }

  of_space : (i : ℕ) → i < zone_count t → same_space t i z ≡ true → SharesSpace t z i
  of_space i m e = record { there = m; same = eqb-true _ _ e }

  parts : (i : ℕ) → SharesSpace t z i → PartsOf t a b i (v i).owner (v i).posture
  parts i s = given t a b i (v i) (k.lawful i s) (x i s) (y i s)

  needed_owns : (n : ℕ) → owner_in t a b z ≡ Some n → (v z).owner ≡ Some n
  needed_owns n e =
      let first = first_of (owner_near t a b z) (zone_count t) n e in
      let i = first.at in
      let at = near (same_space t i z) (owner_needed a b i) n first.has in
      let s = of_space i first.below at.0 in
      let q = parts i s in
      sym (k.owner i s) ∙ owner_met (need_of a i).holds (need_of b i).holds a.machine b.machine n (v i).owner q.first_holds q.second_holds at.1

  none_holds : owner_in t a b z ≡ None → ((need_of a z).holds ≡ false) × ((need_of b z).holds ≡ false)
  none_holds e =
      unheld (need_of a z).holds (need_of b z).holds a.machine b.machine
      (not_near (same_space t z z) (owner_needed a b z) (nat_eq-self (space_of t z)) (first_below_none (owner_near t a b z) (zone_count t) e z l))

  needed_moves : moves_in t a b z ≡ true → (v z).posture ≡ Moving
  needed_moves e =
      let some = some_below (moves_near t a b z) (zone_count t) e in
      let i = some.0 in
      let at = and_parts (same_space t i z) (is_moving (posture_needed a b i)) some.2 in
      let s = of_space i some.1 at.0 in
      let q = parts i s in
      let moving : (v i).posture ≡ Moving = motion_met (need_of a i).posture (need_of b i).posture (v i).posture q.first_posture q.second_posture at.1 in
      one_posture (v z).posture Moving (sym (k.motion i s) ∙ ap (λ r. same_posture r Moving) moving)

  pub shared_if : is_shared t a b z (zone_for t a b z) ≡ true
  shared_if =
      let na = need_of a z in
      let nb = need_of b z in
      let w = zone_for t a b z in
      shared_by t a b z w.owner w.posture
      (found t z a.machine b.machine (owner_in t a b z) (moves_in t a b z) na.holds nb.holds na.posture nb.posture (v z).owner (v z).posture
      needed_owns none_holds needed_moves (stays_still t a b z l) (parts z here))
