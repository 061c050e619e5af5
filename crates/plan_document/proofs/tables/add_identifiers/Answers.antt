use Rattle.std.proofs.Common.{◌≡◌, ◌∙◌, ap, append-nil, arith, sym, string_bytes}
use Rattle.plan_document.specs.Names.{identifier}
use Rattle.plan_document.specs.declared.document.PoseRow.{PoseRow}
use Rattle.plan_document.proofs.Growing.{listed_all, listed_more}
use Rattle.plan_document.proofs.tables.add_identifiers.Goals as goal

pub loop-pose-init : goal.loop-pose-init
loop-pose-init c = record { names = sym (append-nil c.args.names.now); distinct = λ all. all }

pub loop-pose-preserved : goal.loop-pose-preserved
loop-pose-preserved c =
    let machine = string_bytes c.args.row.now.name in
    let own = c.index-said.result.now in
    let name : string_bytes c.in_ok-name.name ≡ identifier machine (string_bytes own.name) =
    c.in_ok-name.ensures ∙ ap (λ m. identifier m c.as_str-in-loop-pose.result.now) c.as_str.ensures.value
    ∙ ap (identifier machine) c.as_str-in-loop-pose.ensures.value in
    record {
      names =
          listed_more (λ (row : PoseRow). identifier machine (string_bytes row.name)) c.args.names.now c.args.row.now.poses.items c.loop-pose.pose own c.loop-pose.names c.add_identifier.new.names (string_bytes c.in_ok-name.name)
          (omega arith) c.index-said.ensures name c.in_ok-add_identifier.ensures.name c.loop-pose.invariant.names;
      distinct = λ all. c.in_ok-add_identifier.ensures.distinct (c.loop-pose.invariant.distinct all);
    }

pub returns : goal.returns
returns c =
    let machine = string_bytes c.args.row.now.name in
    record {
      names = listed_all (λ (row : PoseRow). identifier machine (string_bytes row.name)) c.args.names.now c.args.row.now.poses.items c.loop-pose.pose c.loop-pose.names (omega arith) c.loop-pose.invariant.names;
      distinct = c.loop-pose.invariant.distinct;
    }
