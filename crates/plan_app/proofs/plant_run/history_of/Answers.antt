use Rattle.std.proofs.Common.{◌≡◌, ◌∙◌, [], ap, get_or, IfErr, IfOk, subst}
use Rattle.plan_workers.specs.Audited.{journals_in}
use Rattle.plan_workers.specs.PlantClosing.{journals_on}
use Rattle.plan_app.specs.PlantRuns.{IsExplained, IsUnexplained}
use Rattle.plan_app.proofs.plant_run.history_of.Goals as goal

pub returns : goal.returns
returns c =
    let plan = c.args.plan.now in
    let start = c.args.start.now in
    let own : journals_in c.deref.result.now ≡ journals_on c.args.word c.args.backs.now =
    ap journals_in c.deref.ensures.value ∙ ap (λ xs m. get_or xs m []) c.in_ok-journals.ensures in
    record {
      history = subst (λ js. IfOk c.audit_word.result (λ history. IsExplained plan start js history.items)) own
          c.audit_word.ensures.history;
      fault = subst (λ js. IfErr c.audit_word.result (IsUnexplained plan start js)) own c.audit_word.ensures.fault;
    }
