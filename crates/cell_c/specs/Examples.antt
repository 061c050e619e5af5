-- The numbers for C, and replies, in figures.
use Rattle.std.specs.Prelude.{◌≡◌, ℕ, Bool, true, false, Option, Some, None, [], ◌∷◌, map, replicate}
use Rattle.cell_rules.specs.Types.{Machine, Robot, Zone, Z4, Z5, Posture, OpenOut, Pose, Claim, Give, Yield, Take}
use Rattle.cell_rules.specs.Types.{Release, SetPose, Advance, Inquire, Stop, Resume, Held, NotOwner, PlateInZone, Shut}
use Rattle.cell_rules.specs.Types.{NotParty, AlreadyMine, NoPlate, PlaceFull, WrongWay, Jump, NotAtWork, NoPose, Worn}
use Rattle.cell_rules.specs.Types.{Stopped, NotStopped, InUse, Done, Shown, Refused}
use Rattle.cell_rules.specs.Types.{all_machines, all_places, all_poses, all_postures, all_zones}
use Rattle.cell_c.specs.Numbers.{machine_number, owner_number, zone_number, place_number, posture_number, pose_number}
use Rattle.cell_c.specs.Numbers.{verb_number, object_number, IsNamed}
use Rattle.cell_c.specs.Replies.{reply_of, bare_reply, no_call, no_state, no_word}

-- names are numbered in the order of the types
pub record NumberExamples : Type 0 where
  pub machines : map machine_number all_machines ≡ 1 ∷ 2 ∷ 3 ∷ 4 ∷ 5 ∷ 6 ∷ 7 ∷ []
  pub nobody : owner_number None ≡ 0
  pub owners : (m : Machine) → owner_number (Some m) ≡ machine_number m
  pub zones : map zone_number all_zones ≡ 1 ∷ 2 ∷ 3 ∷ 4 ∷ 5 ∷ 6 ∷ []
  pub places : map place_number all_places ≡ 1 ∷ 2 ∷ 3 ∷ 4 ∷ 5 ∷ 6 ∷ 7 ∷ 8 ∷ 9 ∷ 10 ∷ []
  pub postures : map posture_number all_postures ≡ 0 ∷ 1 ∷ 2 ∷ 3 ∷ []
  pub poses : map pose_number all_poses ≡ 1 ∷ 2 ∷ 3 ∷ 4 ∷ 5 ∷ 6 ∷ 7 ∷ 8 ∷ 9 ∷ 10 ∷ 11 ∷ 12 ∷ []
  -- whatever the object is
  pub verbs : (z : Zone) (p : Pose) → map verb_number (
      Claim z ∷ Give z ∷ Yield z ∷ Take z ∷ Release z ∷ SetPose p ∷ Advance ∷ Inquire z ∷ Stop ∷ Resume ∷ []
      ) ≡ 1 ∷ 2 ∷ 3 ∷ 4 ∷ 5 ∷ 6 ∷ 7 ∷ 8 ∷ 9 ∷ 10 ∷ []
  pub zone_objects : (z : Zone) → map object_number (
      Claim z ∷ Give z ∷ Yield z ∷ Take z ∷ Release z ∷ Inquire z ∷ []
      ) ≡ replicate 6 (zone_number z)
  pub pose_objects : (p : Pose) → object_number (SetPose p) ≡ pose_number p
  pub no_objects : map object_number (Advance ∷ Stop ∷ Resume ∷ []) ≡ 0 ∷ 0 ∷ 0 ∷ []
  -- the third machine gives in the fifth zone
  pub named : IsNamed 3 2 5 Robot (Give Z5)
  pub other_machine : ¬ IsNamed 4 2 5 Robot (Give Z5)
  pub other_verb : ¬ IsNamed 3 1 5 Robot (Give Z5)
  pub other_object : ¬ IsNamed 3 2 4 Robot (Give Z5)

-- what each field of a reply may name
pub record ReplyExamples : Type 0 where
  pub done : reply_of Done 11
      ≡ record { next = 11; answer = 0; owner = 0; zone = 0; posture = 0; plate = false }
  pub shown : reply_of (Shown (Some Robot) true OpenOut) 12
      ≡ record { next = 12; answer = 32; owner = 3; zone = 0; posture = 3; plate = true }
  pub held : reply_of (Refused (Held Robot)) 13
      ≡ record { next = 13; answer = 2; owner = 3; zone = 0; posture = 0; plate = false }
  pub not_owner : reply_of (Refused (NotOwner (Some Robot))) 14
      ≡ record { next = 14; answer = 5; owner = 3; zone = 0; posture = 0; plate = false }
  pub plate_in_zone : reply_of (Refused (PlateInZone Z4)) 15
      ≡ record { next = 15; answer = 6; owner = 0; zone = 4; posture = 0; plate = false }
  pub shut : reply_of (Refused (Shut OpenOut)) 16
      ≡ record { next = 16; answer = 4; owner = 0; zone = 0; posture = 3; plate = false }

-- the same of all machines, zones, postures and words
pub record AnyReply (next : ℕ) : Type 0 where
  pub done : reply_of Done next ≡ bare_reply 0 next
  pub shown : (o : Option Machine) (f : Bool) (q : Posture) → reply_of (Shown o f q) next
      ≡ record { next = next; answer = 32; owner = owner_number o; zone = 0; posture = posture_number q; plate = f }
  pub held : (m : Machine) → reply_of (Refused (Held m)) next
      ≡ record { next = next; answer = 2; owner = machine_number m; zone = 0; posture = 0; plate = false }
  pub not_owner : (o : Option Machine) → reply_of (Refused (NotOwner o)) next
      ≡ record { next = next; answer = 5; owner = owner_number o; zone = 0; posture = 0; plate = false }
  pub plate_in_zone : (z : Zone) → reply_of (Refused (PlateInZone z)) next
      ≡ record { next = next; answer = 6; owner = 0; zone = zone_number z; posture = 0; plate = false }
  pub shut : (q : Posture) → reply_of (Refused (Shut q)) next
      ≡ record { next = next; answer = 4; owner = 0; zone = 0; posture = posture_number q; plate = false }
  -- a refusal that names nothing has its number alone
  pub plain : map (λ r. reply_of (Refused r) next) (
      NotParty ∷ AlreadyMine ∷ NoPlate ∷ PlaceFull ∷ WrongWay ∷ Jump ∷ NotAtWork ∷ NoPose ∷ Worn ∷ Stopped
      ∷ NotStopped ∷ InUse ∷ []
      ) ≡ map (λ n. bare_reply n next) (1 ∷ 3 ∷ 7 ∷ 8 ∷ 9 ∷ 10 ∷ 11 ∷ 12 ∷ 13 ∷ 14 ∷ 15 ∷ 16 ∷ [])
  pub bare : (n : ℕ) → bare_reply n next
      ≡ record { next = next; answer = n; owner = 0; zone = 0; posture = 0; plate = false }

-- what says that there is no call, no state
pub record NothingExamples : Type 0 where
  pub call : no_call ≡ 64
  pub state : no_state ≡ 65
  pub word : no_word ≡ 18446744073709551615

pub record Examples : Type 0 where
  pub numbers : NumberExamples
  pub replies : ReplyExamples
  pub any_reply : (next : ℕ) → AnyReply next
  pub nothing : NothingExamples
