-- Laws of any text: which texts are names, which are taken, and whose words they are; which name has the number.
use Rattle.std.specs.Prelude.{◌≡◌, ◌≢◌, ◌⊎◌, ℕ, ◌<◌, ◌≤◌, false, List, [], ◌∷◌, ◌++◌, codes, length, All, Contains}
use Rattle.std.specs.Prelude.{IsTrue, Some, None}
use Rattle.plan_types.specs.Table.{machine_of}
use Rattle.plan_types.specs.declared.posture.Posture.{Posture}
use Rattle.plan_text.specs.Answers.{posture_of, posture_word}
use Rattle.plan_text.specs.Calls.{call_of, own_pose, verb_of, verb_word}
use Rattle.plan_text.specs.Named.{Named}
use Rattle.plan_text.specs.Names.{Text, is_name, is_reserved, name_in, number_in}
use Rattle.plan_text.specs.declared.calls.Verb.{Verb}
use Rattle.plan_text.specs.declared.calls.Verb.TheVariants.{Pose, Advance}

-- ---- names

-- the bytes of a to z; and with those of 0 to 9 and of the underscore, all that a name has
abbrev pub IsLetter : ℕ → Type 0
IsLetter byte = (97 ≤ byte) × (byte ≤ 122)

abbrev pub IsOfNames : ℕ → Type 0
IsOfNames byte = IsLetter byte ⊎ (((48 ≤ byte) × (byte ≤ 57)) ⊎ (byte ≡ 95))

-- no text of more than 32 bytes is a name, none that begins otherwise, none with another byte anywhere; all others are
pub record TextsAreNames (first : ℕ) (rest : Text) : Type 0 where
  pub longer : 32 < length (first ∷ rest) → is_name (first ∷ rest) ≡ false
  pub other_first : ¬ IsLetter first → is_name (first ∷ rest) ≡ false
  pub other_byte : (before : Text) (byte : ℕ) (after : Text) → ¬ IsOfNames byte
      → is_name (before ++ byte ∷ after) ≡ false
  pub others : IsLetter first → All IsOfNames rest → length (first ∷ rest) ≤ 32 → IsTrue (is_name (first ∷ rest))

-- a taken text is the word of a verb, or one of these; each of them is taken
abbrev pub IsTaken : Text → Type 0
IsTaken name =
    ((verb : Verb) × (name ≡ verb_word verb))
    ⊎ Contains (codes "watch" ∷ codes "free" ∷ codes "start" ∷ codes "stop" ∷ codes "resume" ∷ []) name

pub record TextsAreTaken (name : Text) (verb : Verb) : Type 0 where
  pub taken : IsTrue (is_reserved name) → IsTaken name
  pub verbs : IsTrue (is_reserved (verb_word verb))

-- ---- words

-- the words of verbs are each verb's own and read as no other's, and no other text is read as a verb; so of postures
pub record WordsAreOfOne (word : Text) (verb : Verb) (posture : Posture) : Type 0 where
  pub of_verb : verb_of word ≡ Some verb → word ≡ verb_word verb
  pub verb_told : verb_of (verb_word verb) ≡ Some verb
  pub of_posture : posture_of word ≡ Some posture → word ≡ posture_word posture
  pub posture_told : posture_of (posture_word posture) ≡ Some posture

-- ---- numbers

-- the number that a name has is that of the first of the same names
pub record FirstsHaveNumbers (names : List Text) (name : Text) (number : ℕ) : Type 0 where
  pub within : number_in names name ≡ Some number → number < length names
  pub first : (earlier : ℕ) → number_in names name ≡ Some number → earlier < number → name_in names earlier ≢ name

-- and so it is of a machine's own poses
pub record FirstOwnPosesCount (n : Named) (machine pose : ℕ) (name : Text) : Type 0 where
  pub within : own_pose n machine name ≡ Some pose → pose < length n.poses
  pub named : own_pose n machine name ≡ Some pose → name_in n.poses pose ≡ name
  pub first : (earlier : ℕ) → own_pose n machine name ≡ Some pose → earlier < pose
      → machine_of n.plan earlier ≡ machine → name_in n.poses earlier ≢ name

-- no verb about a name that nothing has is a call, whatever the name: nor about the empty one
pub record UnknownNamesCallNothing (n : Named) (machine : ℕ) (verb : Verb) (name : Text) : Type 0 where
  pub no_zone : verb ≢ Pose → verb ≢ Advance → number_in n.zones name ≡ None → call_of n machine verb name ≡ None
  pub no_pose : own_pose n machine name ≡ None → number_in n.poses name ≡ None → call_of n machine Pose name ≡ None
  pub no_place : number_in n.places name ≡ None → call_of n machine Advance name ≡ None
