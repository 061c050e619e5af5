-- Literal examples of words: keys, names, bytes that part words, and lines that may be.
use Rattle.std.specs.Prelude.{◌≡◌, true, false, List, [], ◌∷◌, codes, filter, map, replicate, Some, None}
use Rattle.std.specs.List.{range_with_len}
use Rattle.toml.specs.Data.{Members, member, no_members, string}
use Rattle.plan_types.specs.Table.{plan_table}
use Rattle.plan_types.specs.Examples.{lift_table, lift_zones, pose, through_table}
use Rattle.plan_types.specs.declared.call.Call.TheVariants.{Claim, Give, Yield, Take, Release, SetPose, Inquire, Stop}
use Rattle.plan_types.specs.declared.call.Call.TheVariants.{Resume, Advance}
use Rattle.plan_text.specs.Names.{Text}
use Rattle.plan_text.specs.Named.{Named, named}
use Rattle.plan_text.specs.declared.calls.Verb.TheVariants as verbs
use Rattle.plan_document.specs.declared.fault.Key.TheVariants as key
use Rattle.plan_document.specs.declared.fault.RowOf.TheVariants as row
use Rattle.plan_document.specs.Keys.{has_only, is_word_of, key_word, keys_in}
use Rattle.plan_document.specs.Laws.{is_line, loaded}
use Rattle.plan_document.specs.Limits.{byte_limit, max_bytes_read}
use Rattle.plan_document.specs.NameLaws.{is_one_word, parts_words}
use Rattle.plan_document.specs.Names.{identifier, is_title}
use Rattle.plan_document.specs.Saying.{is_free, may_be_done, own_call}

-- ---- keys

pub record KeysHaveWords : Type 0 where
  pub machine : key_word key.Machine ≡ codes "machine"
  pub zone : key_word key.Zone ≡ codes "zone"
  pub name : key_word key.Name ≡ codes "name"
  pub places : key_word key.Places ≡ codes "places"
  pub sources : key_word key.Sources ≡ codes "sources"
  pub sinks : key_word key.Sinks ≡ codes "sinks"
  pub poses : key_word key.Poses ≡ codes "poses"
  pub sensors : key_word key.Sensors ≡ codes "sensors"
  pub program : key_word key.Program ≡ codes "program"
  pub gives : key_word key.Gives ≡ codes "gives"
  pub after_moving : key_word key.AfterMoving ≡ codes "after_moving"
  pub host : key_word key.Host ≡ codes "host"
  pub guest : key_word key.Guest ≡ codes "guest"
  pub guests : key_word key.Guests ≡ codes "guests"
  pub inward : key_word key.Inward ≡ codes "inward"
  pub outward : key_word key.Outward ≡ codes "outward"
  pub motor : key_word key.Motor ≡ codes "motor"
  pub hazard : key_word key.Hazard ≡ codes "hazard"
  pub holds : key_word key.Holds ≡ codes "holds"
  pub stands : key_word key.Stands ≡ codes "stands"
  pub full : key_word key.Full ≡ codes "full"
  pub empty : key_word key.Empty ≡ codes "empty"
  pub motors : key_word key.Motors ≡ codes "motors"

-- all words of keys, and some that are none
abbrev pub candidates : List Text
candidates =
    [] ∷ codes "after_moving" ∷ codes "empty" ∷ codes "full" ∷ codes "gives" ∷ codes "guest" ∷ codes "guests"
    ∷ codes "hazard" ∷ codes "holds" ∷ codes "host" ∷ codes "inward" ∷ codes "machine" ∷ codes "machines" ∷ codes "motor"
    ∷ codes "motors" ∷ codes "nam" ∷ codes "name" ∷ codes "Name" ∷ codes "outward" ∷ codes "places" ∷ codes "poses"
    ∷ codes "program" ∷ codes "sensors" ∷ codes "sinks" ∷ codes "sources" ∷ codes "stands"
    ∷ codes "zone" ∷ []

-- the keys that a row may have
pub record RowsHaveKeys : Type 0 where
  pub document : filter (is_word_of (keys_in row.Document)) candidates
      ≡ codes "hazard" ∷ codes "machine" ∷ codes "motor" ∷ codes "zone" ∷ []
  pub machine : filter (is_word_of (keys_in (row.Machine 3))) candidates
      ≡ codes "name" ∷ codes "places" ∷ codes "poses" ∷ codes "program" ∷ codes "sensors" ∷ codes "sinks"
      ∷ codes "sources" ∷ []
  pub pose : filter (is_word_of (keys_in (row.Pose 3 1))) candidates
      ≡ codes "after_moving" ∷ codes "gives" ∷ codes "name" ∷ []
  pub zone : filter (is_word_of (keys_in (row.Zone 3))) candidates
      ≡ codes "guest" ∷ codes "host" ∷ codes "inward" ∷ codes "name" ∷ codes "outward" ∷ []
  pub space : filter (is_word_of (keys_in (row.Space 3))) candidates
      ≡ codes "guests" ∷ codes "host" ∷ codes "name" ∷ []
  pub side : filter (is_word_of (keys_in (row.Side 3 1))) candidates
      ≡ codes "guest" ∷ codes "inward" ∷ codes "name" ∷ codes "outward" ∷ []
  pub motor : filter (is_word_of (keys_in (row.Motor 3))) candidates
      ≡ codes "empty" ∷ codes "full" ∷ codes "holds" ∷ codes "machine" ∷ codes "name" ∷ codes "stands" ∷ []
  pub hazard : filter (is_word_of (keys_in (row.Hazard 3))) candidates ≡ codes "motors" ∷ codes "name" ∷ []

abbrev pub named_key : Text → Members → Members
named_key word members = member word (string []) members

-- the first key, the last, and any other are looked at
pub record KeysAreJudged : Type 0 where
  pub no_keys : has_only (key.Name ∷ []) no_members ≡ true
  pub both : has_only (key.Host ∷ key.Name ∷ []) (named_key (codes "host") (named_key (codes "name") no_members)) ≡ true
  pub first : has_only (key.Name ∷ []) (named_key (codes "host") (named_key (codes "name") no_members)) ≡ false
  pub last : has_only (key.Host ∷ []) (named_key (codes "host") (named_key (codes "name") no_members)) ≡ false
  pub none : has_only [] (named_key (codes "host") no_members) ≡ false

pub record LimitsAreMet : Type 0 where
  pub bytes : byte_limit ≡ 65536
  pub read : max_bytes_read ≡ 65537

-- ---- names

-- of all bytes, those that part words: ends of lines, blanks, quotes and commas
pub record WordsAreParted : Type 0 where
  pub bytes : filter parts_words (range_with_len 0 256) ≡ 10 ∷ 13 ∷ 32 ∷ 34 ∷ 44 ∷ []
  pub one : is_one_word (codes "take_out9") ≡ true
  pub last_byte : is_one_word (codes "take,") ≡ false
  pub first_byte : is_one_word (codes " take") ≡ false

-- which texts name a hazard
pub record TitlesAreTold : Type 0 where
  pub blanks : is_title (codes "arm 2, at the die") ≡ true
  pub capital : is_title (codes "Arm_9~") ≡ true
  pub empty : is_title [] ≡ false
  pub colon : is_title (codes "arm: crushed") ≡ false
  pub line : is_title (codes "arm\n") ≡ false
  pub not_ascii : is_title (127 ∷ []) ≡ false
  pub sixty : is_title (replicate 60 97) ≡ true
  pub more : is_title (replicate 61 97) ≡ false

pub record NamesAreMade : Type 0 where
  pub parts : identifier (codes "a") (codes "b_c") ≡ codes "a_b_c"
  pub other_parts : identifier (codes "a_b") (codes "c") ≡ codes "a_b_c"
  pub free : is_free (codes "lift") ≡ true
  pub watch : is_free (codes "watch") ≡ false
  pub verb : is_free (codes "inquire") ≡ false

-- ---- lines

-- of a machine's poses the lower floor has none; the lift and the upper floor have one of the same name
abbrev pub parked : Named
parked =
    named (plan_table 3 lift_zones (pose 0 false None None ∷ pose 2 false None None ∷ []) (0 ∷ 1 ∷ 2 ∷ []))
    (codes "lift" ∷ codes "low" ∷ codes "high" ∷ []) (codes "below" ∷ codes "above" ∷ [])
    (codes "cabin" ∷ codes "ground" ∷ codes "attic" ∷ []) (codes "open" ∷ codes "open" ∷ [])

-- what a machine means by a verb and a name
pub record OwnCalls : Type 0 where
  pub first_pose : own_call parked 0 verbs.Pose (codes "open") ≡ Some (SetPose 0)
  pub own_pose : own_call parked 2 verbs.Pose (codes "open") ≡ Some (SetPose 1)
  pub others_pose : own_call parked 1 verbs.Pose (codes "open") ≡ None
  pub claim : own_call parked 1 verbs.Claim (codes "below") ≡ Some (Claim 0)
  pub give : own_call parked 2 verbs.Give (codes "above") ≡ Some (Give 1)
  pub yield : own_call parked 2 verbs.Yield (codes "above") ≡ Some (Yield 1)
  pub take : own_call parked 0 verbs.Take (codes "above") ≡ Some (Take 1)
  pub release : own_call parked 0 verbs.Release (codes "below") ≡ Some (Release 0)
  pub inquire : own_call parked 1 verbs.Inquire (codes "above") ≡ Some (Inquire 1)
  pub advance : own_call parked 0 verbs.Advance (codes "attic") ≡ Some (Advance 2)
  pub no_zone : own_call parked 1 verbs.Claim (codes "ground") ≡ None
  pub no_place : own_call parked 1 verbs.Advance (codes "below") ≡ None

-- the calls of a line that are about a zone, a pose or a place
pub record LinesAreCalls : Type 0 where
  pub claim : is_line (Claim 1) ≡ true
  pub give : is_line (Give 1) ≡ true
  pub yield : is_line (Yield 1) ≡ true
  pub take : is_line (Take 1) ≡ true
  pub release : is_line (Release 1) ≡ true
  pub pose : is_line (SetPose 1) ≡ true
  pub advance : is_line (Advance 1) ≡ true

-- lines about the second zone, which the upper floor shares with the lift; plates go through it both ways
pub record LiftLines : Type 0 where
  pub claims : may_be_done lift_table 2 (Claim 1) ≡ true
  pub host_claims : may_be_done lift_table 0 (Claim 1) ≡ true
  pub stranger_claims : may_be_done lift_table 1 (Claim 1) ≡ false
  pub other_zone : may_be_done lift_table 2 (Claim 0) ≡ false
  pub yields : may_be_done lift_table 2 (Yield 1) ≡ true
  pub stranger_yields : may_be_done lift_table 1 (Yield 1) ≡ false
  pub releases : may_be_done lift_table 2 (Release 1) ≡ true
  pub stranger_releases : may_be_done lift_table 1 (Release 1) ≡ false
  pub gives : may_be_done lift_table 2 (Give 1) ≡ true
  pub host_gives : may_be_done lift_table 0 (Give 1) ≡ true
  pub stranger_gives : may_be_done lift_table 1 (Give 1) ≡ false
  pub takes : may_be_done lift_table 2 (Take 1) ≡ true
  pub host_takes : may_be_done lift_table 0 (Take 1) ≡ true
  pub stranger_takes : may_be_done lift_table 1 (Take 1) ≡ false
  pub past_zones : may_be_done lift_table 0 (Give 2) ≡ false
  pub last_pose : may_be_done lift_table 0 (SetPose 4) ≡ true
  pub no_pose : may_be_done lift_table 0 (SetPose 5) ≡ false
  pub floors_pose : may_be_done lift_table 2 (SetPose 4) ≡ false
  -- the loader's hand is a source, its tray a sink, and the press's place neither
  pub advances : map (λ p. may_be_done through_table 0 (Advance p)) (0 ∷ 1 ∷ 2 ∷ 3 ∷ [])
      ≡ true ∷ true ∷ false ∷ false ∷ []
  pub press_advances : map (λ p. may_be_done through_table 1 (Advance p)) (0 ∷ 1 ∷ 2 ∷ []) ≡ false ∷ false ∷ false ∷ []
  -- anyone may look, and none of these is refused for whose it is
  pub inquires : may_be_done lift_table 2 (Inquire 0) ≡ true
  pub stops : may_be_done loaded 2 Stop ≡ true
  pub resumes : may_be_done loaded 2 Resume ≡ true
