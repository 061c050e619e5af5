-- Laws of the documents of a plant's words.
use Rattle.std.specs.Prelude.{◌≡◌, ℕ, true, List, length, Some, None}
use Rattle.std.specs.List.{flat_map, range_with_len}
use Rattle.plan_text.specs.Names.{Text, number_in}
use Rattle.plan_words.specs.Group.{Group}
use Rattle.plan_document.specs.Names.{AreDistinct}
use Rattle.plan_document.specs.OnWord.{has_number, is_here, names_on, texts_on}
use Rattle.plan_document.specs.Texts.{DocumentTexts, MachineTexts}

-- a name of the plant stands on a word exactly if its number is the word's; a name that isn't the plant's, on each word
pub record NamesStandByNumbers (names : List Text) (numbers : List ℕ) (name : Text) : Type 0 where
  pub known : (number : ℕ) → number_in names name ≡ Some number
      → is_here (names_on names numbers) name ≡ has_number numbers number
  pub unknown : number_in names name ≡ None → is_here (names_on names numbers) name ≡ true

abbrev pub NamesAreOnWords : Type 0
NamesAreOnWords =
    (names : List Text) → AreDistinct names → (numbers : List ℕ) (name : Text)
    → NamesStandByNumbers names numbers name

-- ---- a word with all

abbrev pub pose_count : List MachineTexts → ℕ
pose_count machines = length (flat_map (λ (row : MachineTexts). row.poses) machines)

abbrev pub place_count : List MachineTexts → ℕ
place_count machines = length (flat_map (λ (row : MachineTexts). row.places) machines)

-- the group of all zones, poses and places
abbrev pub whole : DocumentTexts → Group
whole d = record {
  zones = range_with_len 0 (length d.zones);
  poses = range_with_len 0 (pose_count d.machines);
  places = range_with_len 0 (place_count d.machines);
}

-- its document is the plant's
abbrev pub WholeWordsKeepAll : Type 0
WholeWordsKeepAll = (d : DocumentTexts) → texts_on d (whole d) ≡ d
