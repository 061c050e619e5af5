-- Calls by names.
use Rattle.std.specs.Prelude.{ℕ, List, [], ◌∷◌, ◌++◌, ◌&&◌, nat_eq, length, codes, find, Option, Some, option_map}
use Rattle.std.specs.Prelude.{if◌then◌else◌}
use Rattle.std.specs.Bool.{then_some}
use Rattle.std.specs.Option.{option_or}
use Rattle.std.specs.Str.{bytes_eq}
use Rattle.plan_types.specs.Below.{first_below}
use Rattle.plan_types.specs.Table.{watch, machine_of}
use Rattle.plan_types.specs.declared.call.Call.{Call}
use Rattle.plan_types.specs.declared.call.Call.TheVariants as call
use Rattle.plan_text.specs.Names.{Text, name_in, number_in}
use Rattle.plan_text.specs.Named.{Named}
use Rattle.plan_text.specs.declared.calls.Verb.{Verb}
use Rattle.plan_text.specs.declared.calls.Verb.TheVariants.{Claim, Give, Yield, Take, Release, Inquire, Pose, Advance}

abbrev pub verb_word : Verb → Text
verb_word Claim = codes "claim"
verb_word Give = codes "give"
verb_word Yield = codes "yield"
verb_word Take = codes "take"
verb_word Release = codes "release"
verb_word Inquire = codes "inquire"
verb_word Pose = codes "pose"
verb_word Advance = codes "advance"

abbrev pub all_verbs : List Verb
all_verbs = Claim ∷ Give ∷ Yield ∷ Take ∷ Release ∷ Inquire ∷ Pose ∷ Advance ∷ []

-- the verb with this word
abbrev pub verb_of : Text → Option Verb
verb_of word = find (λ verb. bytes_eq word (verb_word verb)) all_verbs

-- the machine with this name, or the watch
abbrev pub caller_of : Named → Text → Option ℕ
caller_of n name = if bytes_eq name (codes "watch") then Some watch else number_in n.machines name

-- the number of a pose, if the machine has it and its name is this
abbrev pub pose_if : Named → ℕ → Text → ℕ → Option ℕ
pose_if n machine name pose =
    then_some (nat_eq (machine_of n.plan pose) machine && bytes_eq (name_in n.poses pose) name) pose

-- the pose of a machine with this name
abbrev pub own_pose : Named → ℕ → Text → Option ℕ
own_pose n machine name = first_below (pose_if n machine name) (length n.poses)

-- the pose of this name that a machine means: its own, or else the first of another
abbrev pub pose_named : Named → ℕ → Text → Option ℕ
pose_named n machine name = option_or (own_pose n machine name) (number_in n.poses name)

-- the call of a machine with this verb and this name of a zone, a pose or a place
abbrev pub call_of : Named → ℕ → Verb → Text → Option Call
call_of n machine Claim name = option_map call.Claim (number_in n.zones name)
call_of n machine Give name = option_map call.Give (number_in n.zones name)
call_of n machine Yield name = option_map call.Yield (number_in n.zones name)
call_of n machine Take name = option_map call.Take (number_in n.zones name)
call_of n machine Release name = option_map call.Release (number_in n.zones name)
call_of n machine Inquire name = option_map call.Inquire (number_in n.zones name)
call_of n machine Pose name = option_map call.SetPose (pose_named n machine name)
call_of n machine Advance name = option_map call.Advance (number_in n.places name)

-- the words of a call about a zone, a pose or a place, and of one without
abbrev pub words : Verb → Text → Text
words verb name = verb_word verb ++ codes " " ++ name

abbrev pub call_text : Named → Call → Text
call_text n (call.Claim zone) = words Claim (name_in n.zones zone)
call_text n (call.Give zone) = words Give (name_in n.zones zone)
call_text n (call.Yield zone) = words Yield (name_in n.zones zone)
call_text n (call.Take zone) = words Take (name_in n.zones zone)
call_text n (call.Release zone) = words Release (name_in n.zones zone)
call_text n (call.Inquire zone) = words Inquire (name_in n.zones zone)
call_text n (call.SetPose pose) = words Pose (name_in n.poses pose)
call_text n call.Stop = codes "stop"
call_text n call.Resume = codes "resume"
call_text n (call.Advance place) = words Advance (name_in n.places place)
