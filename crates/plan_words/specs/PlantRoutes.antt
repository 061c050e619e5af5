-- Where the zones, poses, places and calls of a plant go.
use Rattle.std.specs.Prelude.{◌≡◌, ℕ, ◌<◌, length, ⊤}
use Rattle.plan_types.specs.declared.call.Call.{Call}
use Rattle.plan_types.specs.declared.call.Call.TheVariants.{Claim, Give, Yield, Take, Release, SetPose, Inquire, Stop}
use Rattle.plan_types.specs.declared.call.Call.TheVariants.{Resume, Advance}
use Rattle.plan_words.specs.declared.routing.OnWord.{OnWord}
use Rattle.plan_words.specs.declared.routing.Routed.{Routed}
use Rattle.plan_words.specs.Group.{zone_out, pose_out, place_out, HasZone, HasPose, HasPlace}
use Rattle.plan_words.specs.Words.{call_out, IsCallOf}
use Rattle.plan_words.specs.Plant.{PlantWords, word_at}

-- a zone, a pose or a place of the plant is this one on its word
pub record IsZone (v : PlantWords) (zone : ℕ) (on : OnWord) : Type 0 where
  pub word : on.word < length v.words
  pub number : on.number < length (word_at v on.word).group.zones
  pub is : zone_out (word_at v on.word).group on.number ≡ zone

pub record IsPose (v : PlantWords) (pose : ℕ) (on : OnWord) : Type 0 where
  pub word : on.word < length v.words
  pub number : on.number < length (word_at v on.word).group.poses
  pub is : pose_out (word_at v on.word).group on.number ≡ pose

pub record IsPlace (v : PlantWords) (place : ℕ) (on : OnWord) : Type 0 where
  pub word : on.word < length v.words
  pub number : on.number < length (word_at v on.word).group.places
  pub is : place_out (word_at v on.word).group on.number ≡ place

-- no word has it
abbrev pub HasNoZone : PlantWords → ℕ → Type 0
HasNoZone v zone = (n : ℕ) → n < length v.words → ¬ HasZone (word_at v n).group zone

abbrev pub HasNoPose : PlantWords → ℕ → Type 0
HasNoPose v pose = (n : ℕ) → n < length v.words → ¬ HasPose (word_at v n).group pose

abbrev pub HasNoPlace : PlantWords → ℕ → Type 0
HasNoPlace v place = (n : ℕ) → n < length v.words → ¬ HasPlace (word_at v n).group place

-- no word has the row that a call is about. A stop and a resumption each word has of its own
abbrev pub IsOfNoWord : PlantWords → Call → Type 0
IsOfNoWord v (Claim zone) = HasNoZone v zone
IsOfNoWord v (Give zone) = HasNoZone v zone
IsOfNoWord v (Yield zone) = HasNoZone v zone
IsOfNoWord v (Take zone) = HasNoZone v zone
IsOfNoWord v (Release zone) = HasNoZone v zone
IsOfNoWord v (SetPose pose) = HasNoPose v pose
IsOfNoWord v (Inquire zone) = HasNoZone v zone
IsOfNoWord v Stop = ⊤
IsOfNoWord v Resume = ⊤
IsOfNoWord v (Advance place) = HasNoPlace v place

-- the row that a call is about is this one on its word
abbrev pub IsRow : PlantWords → Call → OnWord → Type 0
IsRow v (Claim zone) on = IsZone v zone on
IsRow v (Give zone) on = IsZone v zone on
IsRow v (Yield zone) on = IsZone v zone on
IsRow v (Take zone) on = IsZone v zone on
IsRow v (Release zone) on = IsZone v zone on
IsRow v (SetPose pose) on = IsPose v pose on
IsRow v (Inquire zone) on = IsZone v zone on
IsRow v Stop on = ⊥
IsRow v Resume on = ⊥
IsRow v (Advance place) on = IsPlace v place on

abbrev pub renumbered : Call → ℕ → Call
renumbered (Claim zone) n = Claim n
renumbered (Give zone) n = Give n
renumbered (Yield zone) n = Yield n
renumbered (Take zone) n = Take n
renumbered (Release zone) n = Release n
renumbered (SetPose pose) n = SetPose n
renumbered (Inquire zone) n = Inquire n
renumbered Stop n = Stop
renumbered Resume n = Resume
renumbered (Advance place) n = Advance n

-- a call of the plant is this one on its word
pub record IsRoute (v : PlantWords) (call : Call) (on : Routed) : Type 0 where
  pub word : on.word < length v.words
  pub own : IsCallOf (word_at v on.word).group on.call
  pub is : call_out (word_at v on.word).group on.call ≡ call
