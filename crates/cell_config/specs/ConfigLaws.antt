-- Laws of configurations: the limits of bytes and letters come before everything else; settings are calibrated; all keys,
-- letters and numbers are read.
use Rattle.std.specs.Prelude.{◌≡◌, ◌≢◌, ◌<◌, ◌≤◌, ℕ, pos, negsuc, List, [], ◌∷◌, length, chars, true, false, ◌&&◌}
use Rattle.std.specs.Prelude.{Some, None, Ok, Err, ⊤, ◌⊎◌}
use Rattle.std.specs.List.{flat_map}
use Rattle.std.specs.Str.{is_utf8}
use Rattle.toml.specs.Data.{Data, Members, member}
use Rattle.toml.specs.Parse.{parse_document}
use Rattle.cell_notes.specs.declared.schedule.Turn.{Turn}
use Rattle.cell_sensors.specs.Names.{IsCurve, Pair, ends_of, Scale}
use Rattle.cell_config.specs.Configured.{AreAxisScales}
use Rattle.cell_config.specs.Keys.{has_inner_keys, inner_keys, is_known, is_known_entry, is_one_of}
use Rattle.cell_config.specs.Letters.{letter_word, turns_of}
use Rattle.cell_config.specs.Settings.{Settings, number_within, settings_in, settings_of}
use Rattle.cell_config.specs.declared.fault.ConfigFault.TheVariants.{Long, Text, Range}

-- a text that is too long is refused for that alone; any other is what its table says, if it has one
pub record TextLimits (bytes : List ℕ) : Type 0 where
  pub too_long : 2097152 < length bytes → settings_of bytes ≡ Err Long
  pub not_utf8 : length bytes ≤ 2097152 → is_utf8 bytes ≡ false → settings_of bytes ≡ Err Text
  pub not_toml : length bytes ≤ 2097152 → is_utf8 bytes ≡ true → parse_document bytes ≡ None
      → settings_of bytes ≡ Err Text
  pub read : length bytes ≤ 2097152 → is_utf8 bytes ≡ true → (table : Members)
      → parse_document bytes ≡ Some table → settings_of bytes ≡ settings_in table

-- a schedule is out of range exactly if it has too many letters, whatever they are
pub record LetterLimits (text : List ℕ) : Type 0 where
  pub too_long : 1000000 < length (chars text) → turns_of text ≡ Err Range
  pub short : length (chars text) ≤ 1000000 → turns_of text ≢ Err Range

-- the letters of a schedule's turns are the letters of its text, in order, and no others
abbrev pub letters_of : List Turn → List ℕ
letters_of turns = flat_map (λ turn. letter_word turn.busy turn.machine) turns

abbrev pub SchedulesAreRead : Type 0
SchedulesAreRead = (text : List ℕ) (turns : List Turn) → turns_of text ≡ Ok turns → letters_of turns ≡ chars text

-- all keys are looked at, at the top and in a section
pub record KeysAreLookedAt (key : List ℕ) (value : Data) (others : Members) : Type 0 where
  pub top : is_known (member key value others) ≡ (is_known_entry (key, value) && is_known others)
  pub inner : has_inner_keys (member key value others) ≡ (is_one_of inner_keys key && has_inner_keys others)

-- a number is taken just if it is within its limits
pub record NumbersAreWithin (least most n : ℕ) : Type 0 where
  pub within : least ≤ n → n ≤ most → number_within least most (pos n) ≡ Ok n
  pub below : n < least → number_within least most (pos n) ≡ Err Range
  pub above : most < n → number_within least most (pos n) ≡ Err Range
  pub negative : number_within least most (negsuc n) ≡ Err Range

-- the two points of a scale's line, or a curve near it
abbrev pub IsCurveOf : Scale → List Pair → Type 0
IsCurveOf s pairs = (pairs ≡ ends_of s) ⊎ IsCurve s pairs

-- each scale has a curve
abbrev pub HaveCurves : List Scale → List (List Pair) → Type 0
HaveCurves [] [] = ⊤
HaveCurves (s ∷ scales) (pairs ∷ curves) = IsCurveOf s pairs × HaveCurves scales curves
HaveCurves [] (pairs ∷ curves) = ⊥
HaveCurves (s ∷ scales) [] = ⊥

-- five scales that fit the axes, and of each a curve
pub record AreCalibrated (settings : Settings) : Type 0 where
  pub points : AreAxisScales settings.points
  pub curves : HaveCurves settings.points settings.curves
