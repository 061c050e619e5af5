-- A test of all values of a type, and what it says of each.
use Rattle.cell_rules.proofs.Names.{◌≡◌, Bool, true, false, ◌&&◌, Option, Some, None, List, [], ◌∷◌, refl, list_all, Machine, Feed, Zone, Z1, Posture, Closed, Pose, Turning, Place, FeedEntry, implies, ZoneState}
use Rattle.cell_types.specs.Everything as everything

pub never : true ≡ false → ⊥
never e = cc

pub and_left : (a b : Bool) → (a && b) ≡ true → a ≡ true
and_left true b e = refl
and_left false b e = e

pub and_right : (a b : Bool) → (a && b) ≡ true → b ≡ true
and_right true b e = e
and_right false b e = cc

pub and_both : (a b : Bool) → a ≡ true → b ≡ true → (a && b) ≡ true
and_both true b e f = f
and_both false b e f = e

pub implied : (a b : Bool) → implies a b ≡ true → a ≡ true → b ≡ true
implied true b e f = e
implied false b e f = cc

abbrev pub all_bools : (Bool → Bool) → Bool
all_bools P = P false && P true

pub from_bools : (P : Bool → Bool) → all_bools P ≡ true → (b : Bool) → P b ≡ true
from_bools P e false = and_left (P false) (P true) e
from_bools P e true = and_right (P false) (P true) e

-- a test holds of each member of a list
abbrev pub Passed : {X : Type 0} → (X → Bool) → List X → Type 0
Passed P [] = Unit {0}
Passed P (x ∷ xs) = (P x ≡ true) × Passed P xs

pub passed : {X : Type 0} → (P : X → Bool) (xs : List X) → list_all P xs ≡ true → Passed P xs
passed P [] e = tt
passed P (x ∷ xs) e = (and_left (P x) (list_all P xs) e, passed P xs (and_right (P x) (list_all P xs) e))

-- and of each member if it holds of all values
pub all_pass : {X : Type 0} → (P : X → Bool) → ((x : X) → P x ≡ true) → (xs : List X) → list_all P xs ≡ true
all_pass P each [] = refl
all_pass P each (x ∷ xs) = and_both (P x) (list_all P xs) (each x) (all_pass P each xs)

abbrev pub all_machines : (Machine → Bool) → Bool
all_machines P = list_all P everything.all_machines

pub from_machines : (P : Machine → Bool) → all_machines P ≡ true → (m : Machine) → P m ≡ true
from_machines P e Feed = assumption (passed P everything.all_machines e)
from_machines P e _ = assumption (passed P everything.all_machines e)

abbrev pub all_zones : (Zone → Bool) → Bool
all_zones P = list_all P everything.all_zones

pub from_zones : (P : Zone → Bool) → all_zones P ≡ true → (z : Zone) → P z ≡ true
from_zones P e Z1 = assumption (passed P everything.all_zones e)
from_zones P e _ = assumption (passed P everything.all_zones e)

abbrev pub all_postures : (Posture → Bool) → Bool
all_postures P = list_all P everything.all_postures

pub from_postures : (P : Posture → Bool) → all_postures P ≡ true → (p : Posture) → P p ≡ true
from_postures P e Closed = assumption (passed P everything.all_postures e)
from_postures P e _ = assumption (passed P everything.all_postures e)

abbrev pub all_poses : (Pose → Bool) → Bool
all_poses P = list_all P everything.all_poses

pub from_poses : (P : Pose → Bool) → all_poses P ≡ true → (p : Pose) → P p ≡ true
from_poses P e Turning = assumption (passed P everything.all_poses e)
from_poses P e _ = assumption (passed P everything.all_poses e)

abbrev pub all_places : (Place → Bool) → Bool
all_places P = list_all P everything.all_places

pub from_places : (P : Place → Bool) → all_places P ≡ true → (p : Place) → P p ≡ true
from_places P e FeedEntry = assumption (passed P everything.all_places e)
from_places P e _ = assumption (passed P everything.all_places e)

abbrev pub all_owners : (Option Machine → Bool) → Bool
all_owners P = P None && all_machines (λ m. P (Some m))

pub from_owners : (P : Option Machine → Bool) → all_owners P ≡ true → (o : Option Machine) → P o ≡ true
from_owners P e None = and_left (P None) (all_machines (λ m. P (Some m))) e
from_owners P e (Some m) = from_machines (λ m. P (Some m)) (and_right (P None) (all_machines (λ m. P (Some m))) e) m

abbrev pub zone_state : Option Machine → Bool → Posture → ZoneState
zone_state o f p = record { owner = o; flag = f; posture = p }

abbrev pub all_states : (ZoneState → Bool) → Bool
all_states P = all_owners (λ o. all_bools (λ f. all_postures (λ p. P (zone_state o f p))))

pub from_states : (P : ZoneState → Bool) → all_states P ≡ true → (v : ZoneState) → P v ≡ true
from_states P e v =
    from_postures (λ p. P (zone_state v.owner v.flag p))
    (from_bools (λ f. all_postures (λ p. P (zone_state v.owner f p)))
    (from_owners (λ o. all_bools (λ f. all_postures (λ p. P (zone_state o f p)))) e v.owner) v.flag) v.posture

-- ---- tests of the values of several types

pub record Finite (X : Type 0) : Type 0 where
  pub all : (X → Bool) → Bool
  pub holds : (P : X → Bool) → all P ≡ true → (x : X) → P x ≡ true

pub holds2 : {X Y : Type 0} (a : Finite X) (b : Finite Y) (P : X → Y → Bool) → a.all (λ x. b.all (P x)) ≡ true → (x : X) (y : Y) → P x y ≡ true
holds2 a b P e x = b.holds (P x) (a.holds (λ x. b.all (P x)) e x)

pub holds3 : {X Y Z : Type 0} (a : Finite X) (b : Finite Y) (c : Finite Z) (P : X → Y → Z → Bool) → a.all (λ x. b.all (λ y. c.all (P x y))) ≡ true → (x : X) (y : Y) (z : Z) → P x y z ≡ true
holds3 a b c P e x y = c.holds (P x y) (holds2 a b (λ x y. c.all (P x y)) e x y)

pub holds4 : {X Y Z V : Type 0} (a : Finite X) (b : Finite Y) (c : Finite Z) (d : Finite V) (P : X → Y → Z → V → Bool) → a.all (λ x. b.all (λ y. c.all (λ z. d.all (P x y z)))) ≡ true
    → (x : X) (y : Y) (z : Z) (v : V) → P x y z v ≡ true
holds4 a b c d P e x y z = d.holds (P x y z) (holds3 a b c (λ x y z. d.all (P x y z)) e x y z)

abbrev pub pairs : {X Y : Type 0} → Finite X → Finite Y → Finite (X × Y)
pairs a b = record { all = λ P. a.all (λ x. b.all (λ y. P (x, y))); holds = λ P e k. holds2 a b (λ x y. P (x, y)) e k.0 k.1 }

abbrev pub bools : Finite Bool
bools = record { all = all_bools; holds = from_bools }

abbrev pub machines : Finite Machine
machines = record { all = all_machines; holds = from_machines }

abbrev pub zones : Finite Zone
zones = record { all = all_zones; holds = from_zones }

abbrev pub postures : Finite Posture
postures = record { all = all_postures; holds = from_postures }

abbrev pub poses : Finite Pose
poses = record { all = all_poses; holds = from_poses }

abbrev pub places : Finite Place
places = record { all = all_places; holds = from_places }

abbrev pub states : Finite ZoneState
states = record { all = all_states; holds = from_states }
