use Rattle.std.proofs.Common.{◌≡◌, ◌∙◌, map, ap, Some, sym}
use Rattle.std.specs.Prelude.{String, Vec}
use Rattle.std.specs.declared.alloc.Global.{Global}
use Rattle.toml.specs.Data.{array, get_member}
use Rattle.toml.specs.View.{items_view, table_view, view}
use Rattle.plan_document.specs.Keys.{key_word}
use Rattle.plan_document.specs.Reading.{HasTexts, items_at, items_in, written}
use Rattle.plan_document.proofs.Written.{array_is, if_ok_more, list_of-items_of}
use Rattle.plan_document.proofs.values.texts_at.Goals as goal

pub returns-in-Some-as_array : goal.returns-in-Some-as_array
returns-in-Some-as_array c =
    let there : get_member (key_word c.args.key) (table_view c.args.table.now) ≡ Some (view c.in-Some.value.now) = sym c.in-Some.ensures in
    let is : view c.in-Some.value.now ≡ array (items_view c.in-Some-as_array.items.now.items) = array_is _ _ (sym c.in-Some-as_array.ensures) in
    let found : items_at (key_word c.args.key) (table_view c.args.table.now) ≡ Some (map view c.as_slice.result.now)
    = ap items_in (there ∙ ap Some is) ∙ ap Some (list_of-items_of (map view c.in-Some-as_array.items.now.items)) ∙ ap (λ vs. Some (map view vs)) (sym c.as_slice.ensures.value) in
    if_ok_more c.texts_in.result
    (λ (texts : Vec (String Global) Global). map view c.as_slice.result.now ≡ map written texts.items)
    (λ (texts : Vec (String Global) Global). HasTexts (key_word c.args.key) (table_view c.args.table.now) texts.items)
    (λ texts read. found ∙ ap Some read)
    c.texts_in.ensures
