-- Laws of which TOML the rows of a document are read: of lists and tables of any length.
use Rattle.std.specs.Prelude.{◌≡◌, ℕ, Bool, false, ◌&&◌, ◌||◌, List, [], ◌∷◌, length, string_bytes, Some}
use Rattle.std.specs.Str.{bytes_eq}
use Rattle.toml.specs.Data.{Data, Items, Members, array, boolean, item, member, no_items, no_members, string, table}
use Rattle.plan_text.specs.Names.{Text}
use Rattle.plan_document.specs.declared.document.PostureRow.{PostureRow}
use Rattle.plan_document.specs.declared.document.WayRow.{WayRow}
use Rattle.plan_document.specs.declared.fault.Key.{Key}
use Rattle.plan_document.specs.Keys.{has_only, is_word_of, key_word}
use Rattle.plan_document.specs.PlanLaws.{StandsAt}
use Rattle.plan_document.specs.Reading.{ArePostures, HasRows, IsTruth, IsWay, gives_written, items_at, items_in}
use Rattle.plan_document.specs.ReadingExamples.{two_items}

-- ---- lists

-- each item of a list is a row, and there are no others
pub record AreRowsOfItems {Row : Type 0} (IsRow : Data → Row → Type 0) (items : List Data) (rows : List Row)
    : Type 0 where
  pub count : length rows ≡ length items
  pub each : (number : ℕ) (value : Data) (row : Row) → StandsAt items number value → StandsAt rows number row
      → IsRow value row

-- so it is of rows of any kind, under any key
abbrev pub ItemsAreRows : {Row : Type 0} → (Data → Row → Type 0) → Type 0
ItemsAreRows IsRow =
    (key : Text) (members : Members) (rows : List _) (items : List Data) → HasRows IsRow key members rows
    → items_at key members ≡ Some items → AreRowsOfItems IsRow items rows

-- the items of a list are all its items, in order
pub record ListsHaveItems (value : Data) (items : Items) (rest : List Data) : Type 0 where
  pub none : items_in (Some (array no_items)) ≡ Some []
  pub more : items_in (Some (array items)) ≡ Some rest
      → items_in (Some (array (item value items))) ≡ Some (value ∷ rest)

-- ---- tables

-- all members of a table are looked at, and each key
pub record KeysAreLookedAt (known : List Key) (key : Key) (name : Text) (value : Data) (others : Members)
    : Type 0 where
  pub members : has_only known (member name value others) ≡ (is_word_of known name && has_only known others)
  pub keys : is_word_of (key ∷ known) name ≡ (bytes_eq (key_word key) name || is_word_of known name)
  pub no_keys : is_word_of [] name ≡ false

-- the postures in a table, of each zone
pub record PosturesAreWritten (row : PostureRow) (rows : List PostureRow) (value : Data) : Type 0 where
  pub none : gives_written [] ≡ no_members
  pub more : gives_written (row ∷ rows)
      ≡ member (string_bytes row.zone) (string (string_bytes row.posture)) (gives_written rows)
  pub read : ArePostures (Some value) rows → value ≡ table (gives_written rows)

-- ---- single values

pub record ValuesAreWritten (value : Data) (flag : Bool) (row : WayRow) : Type 0 where
  pub truth : IsTruth (Some value) flag → value ≡ boolean flag
  pub way : IsWay (Some value) (Some row)
      → value ≡ two_items (string (string_bytes row.from)) (string (string_bytes row.to))
