-- What ram and loader ask, as texts and as calls, and the words of the replies.
use Rattle.std.specs.Prelude.{ℕ, List, codes}
use Rattle.cell_rules.specs.Types.{Call, Claim, Release, SetPose, Z3, Travelling, Middle, Reply, Settled, Busy, Done}
use Rattle.cell_rules.specs.Types.{Refused, Held, Shut}
use Rattle.two_by_hand.specs.declared.requests.Party.{Party}
use Rattle.two_by_hand.specs.declared.requests.Party.TheVariants.{Ram, Loader}
use Rattle.two_by_hand.specs.declared.requests.Request.{Request}
use Rattle.two_by_hand.specs.declared.requests.Request.TheVariants.{RamIn, RamMoves, RamOpens, RamOut}
use Rattle.two_by_hand.specs.declared.requests.Request.TheVariants.{LoaderIn, LoaderOut}

abbrev pub request_text : Request → List ℕ
request_text RamIn = codes "ram in"
request_text RamMoves = codes "ram moves"
request_text RamOpens = codes "ram opens"
request_text RamOut = codes "ram out"
request_text LoaderIn = codes "loader in"
request_text LoaderOut = codes "loader out"

abbrev pub party_of : Request → Party
party_of LoaderIn = Loader
party_of LoaderOut = Loader
party_of _ = Ram

-- The interior of the press is z3: the ram is its host, the loader its guest.
abbrev pub call_of : Request → Call
call_of RamIn = Claim Z3
call_of RamMoves = SetPose Travelling
call_of RamOpens = SetPose Middle
call_of RamOut = Release Z3
call_of LoaderIn = Claim Z3
call_of LoaderOut = Release Z3

abbrev pub reply_word : Reply → List ℕ
reply_word (Settled Done _) = codes "go"
reply_word (Settled (Refused (Held _)) _) = codes "wait: the other has it"
reply_word (Settled (Refused (Shut _)) _) = codes "wait: it isn't open"
reply_word (Settled _ _) = codes "no"
reply_word (Busy _ _) = codes "again"
