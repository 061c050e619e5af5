use Rattle.std.proofs.Common.{◌≡◌, ◌∙◌, map, ap, Some, sym}
use Rattle.toml.specs.Data.{array, get_member}
use Rattle.toml.specs.View.{items_view, table_view, view}
use Rattle.plan_document.specs.Keys.{key_word}
use Rattle.plan_document.specs.Reading.{items_in}
use Rattle.plan_document.proofs.Written.{array_is, list_of-items_of}
use Rattle.plan_document.proofs.values.tables_at.Goals as goal

pub returns-in-Some-as_array : goal.returns-in-Some-as_array
returns-in-Some-as_array c =
    let there : get_member (key_word c.args.key) (table_view c.args.table.now) ≡ Some (view c.in-Some.value.now) = sym c.in-Some.ensures in
    let is : view c.in-Some.value.now ≡ array (items_view c.in-Some-as_array.items.now.items) = array_is _ _ (sym c.in-Some-as_array.ensures) in
    ap items_in (there ∙ ap Some is)
    ∙ ap Some (list_of-items_of (map view c.in-Some-as_array.items.now.items))
    ∙ ap (λ vs. Some (map view vs)) (sym c.as_slice.ensures.value)
