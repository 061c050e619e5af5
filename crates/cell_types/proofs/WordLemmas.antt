-- No two values have the same word: a search for a word finds the value that has it.
use Rattle.std.proofs.Common.{ℕ, ◌≡◌, Bool, true, false, cond, List, [], ◌∷◌, Some, refl, sym, ◌∙◌, ap, ◌↔◌}
use Rattle.std.specs.List.{find}
use Rattle.std.specs.Str.{bytes_eq}
use Rattle.std.proofs.lemmas.Option.{same_Some}
use Rattle.std.proofs.lemmas.Slice.Eq.{bytes_eq-Decides}
use Rattle.cell_types.specs.declared.machine.Machine.{Machine}
use Rattle.cell_types.specs.declared.machine.Machine.TheVariants.{Feed}
use Rattle.cell_types.specs.declared.zone.Zone.{Zone}
use Rattle.cell_types.specs.declared.zone.Zone.TheVariants.{Z1}
use Rattle.cell_types.specs.declared.place.Place.{Place}
use Rattle.cell_types.specs.declared.place.Place.TheVariants.{FeedEntry}
use Rattle.cell_types.specs.declared.posture.Posture.{Posture}
use Rattle.cell_types.specs.declared.posture.Posture.TheVariants.{Closed}
use Rattle.cell_types.specs.declared.pose.Pose.{Pose}
use Rattle.cell_types.specs.declared.pose.Pose.TheVariants.{Turning}
use Rattle.cell_types.specs.Words.{named, machine_word, zone_word, place_word, posture_word, pose_word}
use Rattle.cell_types.specs.Everything.{all_machines, all_zones, all_places, all_postures, all_poses}

passes : {X : Type 0} (p : X → Bool) (xs : List X) (x : X) → find p xs ≡ Some x → p x ≡ true
passes p [] x e = cc
passes p (y ∷ ys) x e =
    elim (p y) as (λ b. p y ≡ b → cond b (Some y) (find p ys) ≡ Some x → p x ≡ true) [
      | true ↦ λ here is. let same : y ≡ x = same_Some y x is in cc
      | false ↦ λ _ is. passes p ys x is
    ] refl e

-- something holds of each of some values
abbrev pub Each : {X : Type 0} → (X → Type 0) → List X → Type 0
Each Q [] = Unit {0}
Each Q (x ∷ xs) = Q x × Each Q xs

pub holds_of_found : {X : Type 0} (Q : X → Type 0) (p : X → Bool) (xs : List X) → Each Q xs → (x : X) → find p xs ≡ Some x → Q x
holds_of_found Q p [] each x e = cc
holds_of_found Q p (y ∷ ys) each x e =
    elim (p y) as (λ b. cond b (Some y) (find p ys) ≡ Some x → Q x) [
      | true ↦ λ is. let same : x ≡ y = sym (same_Some y x is) in rw same each.0
      | false ↦ λ is. holds_of_found Q p ys each.1 x is
    ] e

-- what is found by a word has it
pub has_word : {X : Type 0} (word_of : X → List ℕ) (all : List X) (word : List ℕ) (x : X) → named word_of all word ≡ Some x → word ≡ word_of x
has_word word_of all word x e = sym ((bytes_eq-Decides (word_of x) word).0 (passes (λ y. bytes_eq (word_of y) word) all x e))

-- if each value is found by its word, no other word finds it
pub read_by : {X : Type 0} (word_of : X → List ℕ) (all : List X) → ((x : X) → named word_of all (word_of x) ≡ Some x) → (word : List ℕ) (x : X) → (named word_of all word ≡ Some x) ↔ (word ≡ word_of x)
read_by word_of all found word x = (
  λ e. has_word word_of all word x e,
  λ e. ap (named word_of all) e ∙ found x,
)

machine_found : (x : Machine) → named machine_word all_machines (machine_word x) ≡ Some x
machine_found Feed = refl
machine_found _ = refl

pub machine_read : (word : List ℕ) (x : Machine) → (named machine_word all_machines word ≡ Some x) ↔ (word ≡ machine_word x)
machine_read = read_by machine_word all_machines machine_found

zone_found : (x : Zone) → named zone_word all_zones (zone_word x) ≡ Some x
zone_found Z1 = refl
zone_found _ = refl

pub same_zone : (x y : Zone) → zone_word x ≡ zone_word y → x ≡ y
same_zone x y e = same_Some x y (sym (zone_found x) ∙ ap (named zone_word all_zones) e ∙ zone_found y)

pub zone_read : (word : List ℕ) (x : Zone) → (named zone_word all_zones word ≡ Some x) ↔ (word ≡ zone_word x)
zone_read = read_by zone_word all_zones zone_found

place_found : (x : Place) → named place_word all_places (place_word x) ≡ Some x
place_found FeedEntry = refl
place_found _ = refl

pub place_read : (word : List ℕ) (x : Place) → (named place_word all_places word ≡ Some x) ↔ (word ≡ place_word x)
place_read = read_by place_word all_places place_found

posture_found : (x : Posture) → named posture_word all_postures (posture_word x) ≡ Some x
posture_found Closed = refl
posture_found _ = refl

pub posture_read : (word : List ℕ) (x : Posture) → (named posture_word all_postures word ≡ Some x) ↔ (word ≡ posture_word x)
posture_read = read_by posture_word all_postures posture_found

pose_found : (x : Pose) → named pose_word all_poses (pose_word x) ≡ Some x
pose_found Turning = refl
pose_found _ = refl

pub pose_read : (word : List ℕ) (x : Pose) → (named pose_word all_poses word ≡ Some x) ↔ (word ≡ pose_word x)
pose_read = read_by pose_word all_poses pose_found
