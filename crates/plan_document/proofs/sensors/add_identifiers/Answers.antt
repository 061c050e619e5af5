use Rattle.std.proofs.Common.{◌≡◌, ◌∙◌, ◌++◌, ◌∷◌, [], ap, append-nil, append_assoc, arith, map, take, take_all, sym, string_bytes}
use Rattle.plan_document.specs.Names.{identifier}
use Rattle.plan_document.proofs.Growing.{sensor_identifiers_in_more}
use Rattle.plan_document.proofs.sensors.add_identifiers.Goals as goal

pub loop-item-preserved : goal.loop-item-preserved
loop-item-preserved c =
    let taken = map string_bytes c.args.taken.now.items in
    let machine = string_bytes c.args.row.now.name in
    let own = c.index.result.now in
    let names = c.args.row.now.sensors.items in
    let before = map (λ name. identifier machine (string_bytes name)) (take c.loop-item.item names) in
    let name : string_bytes c.in_ok-name.name ≡ identifier machine (string_bytes own) =
    c.in_ok-name.ensures ∙ ap (λ m. identifier m c.as_str-in-loop-item.result.now) c.as_str.ensures.value
    ∙ ap (identifier machine) c.as_str-in-loop-item.ensures.value in
    record {
      names =
          c.in_ok-add_identifier.ensures.name
          ∙ ap (λ ns. ns ++ string_bytes c.in_ok-name.name ∷ []) c.loop-item.invariant.names
          ∙ append_assoc taken before (string_bytes c.in_ok-name.name ∷ [])
          ∙ ap (λ n. taken ++ (before ++ n ∷ [])) name
          ∙ ap (λ ns. taken ++ ns) (sym (sensor_identifiers_in_more machine names c.loop-item.item own (omega arith) c.index.ensures));
      distinct = λ all. c.in_ok-add_identifier.ensures.distinct (c.loop-item.invariant.distinct all);
    }

pub loop-item-init : goal.loop-item-init
loop-item-init c = record { names = sym (append-nil (map string_bytes c.args.taken.now.items)); distinct = λ all. all }

pub returns : goal.returns
returns c =
    let machine = string_bytes c.args.row.now.name in
    record {
      names =
          c.loop-item.invariant.names
          ∙ ap (λ names. map string_bytes c.args.taken.now.items ++ map (λ name. identifier machine (string_bytes name)) names) (take_all c.loop-item.item c.args.row.now.sensors.items (omega arith));
      distinct = c.loop-item.invariant.distinct;
    }
