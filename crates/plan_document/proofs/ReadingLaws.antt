-- Lists and tables of any length are read item by item.
use Rattle.std.proofs.Common.{◌≡◌, ◌∙◌, ◌∷◌, Bool, Some, List, ap, refl, subst, sym}
use Rattle.std.proofs.lemmas.Slice.Zip.{AllZip-long}
use Rattle.std.specs.List.{AllZip}
use Rattle.toml.specs.Data.{Data, Items}
use Rattle.plan_document.specs.declared.document.PostureRow.{PostureRow}
use Rattle.plan_document.specs.declared.document.WayRow.{WayRow}
use Rattle.plan_document.specs.Reading.{list_of}
use Rattle.plan_document.specs.ReadingLaws.{ItemsAreRows, ListsHaveItems, PosturesAreWritten, ValuesAreWritten}
use Rattle.plan_document.proofs.Standing.{zipped}

same_items : (xs ys : List Data) → Some xs ≡ Some ys → xs ≡ ys
same_items xs ys e = cc

pub items_are_rows : {Row : Type 0} (IsRow : Data → Row → Type 0) → ItemsAreRows IsRow
items_are_rows IsRow key table rows items has is =
    let same : has.0 ≡ items = same_items has.0 items (sym has.1 ∙ is) in
    let all : AllZip IsRow items rows = subst (λ xs. AllZip IsRow xs rows) same has.2 in
    record {
      count = AllZip-long IsRow items rows all;
      each = λ i value row here there. zipped IsRow items rows i value row all here there;
    }

pub lists_have_items : (value : Data) (items : Items) (rest : List Data) → ListsHaveItems value items rest
lists_have_items value items rest = record {
  none = refl;
  more = λ e. ap (λ xs. Some (value ∷ xs)) (same_items (list_of items) rest e);
}

pub postures_are_written : (row : PostureRow) (rows : List PostureRow) (value : Data) → PosturesAreWritten row rows value
postures_are_written row rows value = record { none = refl; more = refl; read = λ is. is }

pub values_are_written : (value : Data) (truth : Bool) (row : WayRow) → ValuesAreWritten value truth row
values_are_written value truth row = record { truth = λ is. is; way = λ is. is }
