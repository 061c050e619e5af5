-- The text, the party and the call of each request, and the words of replies.
use Rattle.std.specs.Prelude.{◌≡◌, ℕ, Bool, List, [], ◌∷◌, codes, map, replicate, Option, Some, None}
use Rattle.cell_rules.specs.Types.{Claim, Release, SetPose, Z3, Travelling, Middle, Settled, Busy, Done, Refused}
use Rattle.cell_rules.specs.Types.{AlreadyMine, Held, Jump, NoPlate, NoPose, NotAtWork, NotOwner, NotParty, PlaceFull}
use Rattle.cell_rules.specs.Types.{PlateInZone, Robot, Shown, Shut, Stopped, WrongWay, Worn, Z4, Machine, Posture}
use Rattle.two_by_hand.specs.declared.requests.Party.TheVariants.{Ram, Loader}
use Rattle.two_by_hand.specs.declared.requests.Request.{Request}
use Rattle.two_by_hand.specs.declared.requests.Request.TheVariants.{RamIn, RamMoves, RamOpens, RamOut}
use Rattle.two_by_hand.specs.declared.requests.Request.TheVariants.{LoaderIn, LoaderOut}
use Rattle.two_by_hand.specs.Requests.{call_of, party_of, reply_word, request_text}

abbrev pub all_requests : List Request
all_requests = RamIn ∷ RamMoves ∷ RamOpens ∷ RamOut ∷ LoaderIn ∷ LoaderOut ∷ []

pub record RequestsAreMet : Type 0 where
  pub texts : map request_text all_requests
      ≡ codes "ram in" ∷ codes "ram moves" ∷ codes "ram opens" ∷ codes "ram out" ∷ codes "loader in"
      ∷ codes "loader out" ∷ []
  pub parties : map party_of all_requests ≡ Ram ∷ Ram ∷ Ram ∷ Ram ∷ Loader ∷ Loader ∷ []
  pub calls : map call_of all_requests
      ≡ Claim Z3 ∷ SetPose Travelling ∷ SetPose Middle ∷ Release Z3 ∷ Claim Z3 ∷ Release Z3 ∷ []
  -- whatever the stamp is, and whoever has the zone
  pub go : (stamp : ℕ) → reply_word (Settled Done stamp) ≡ codes "go"
  pub held : (stamp : ℕ) (machine : Machine) → reply_word (Settled (Refused (Held machine)) stamp)
      ≡ codes "wait: the other has it"
  pub shut : (stamp : ℕ) (posture : Posture) → reply_word (Settled (Refused (Shut posture)) stamp)
      ≡ codes "wait: it isn't open"
  pub no : map (λ r. reply_word (Settled (Refused r) 7)) (NotParty ∷ NotOwner None ∷ Jump ∷ Stopped ∷ [])
      ≡ codes "no" ∷ codes "no" ∷ codes "no" ∷ codes "no" ∷ []
  pub no_others : map (λ r. reply_word (Settled (Refused r) 0)) (AlreadyMine ∷ NotOwner (Some Robot) ∷ PlateInZone Z4
      ∷ NoPlate ∷ PlaceFull ∷ WrongWay ∷ NotAtWork ∷ NoPose ∷ Worn ∷ [])
      ≡ replicate 9 (codes "no")
  pub shown : (owner : Option Machine) (flag : Bool) (posture : Posture) (stamp : ℕ)
      → reply_word (Settled (Shown owner flag posture) stamp) ≡ codes "no"
  pub again : (lost stamp : ℕ) → reply_word (Busy lost stamp) ≡ codes "again"
