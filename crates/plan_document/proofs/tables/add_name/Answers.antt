use Rattle.plan_document.proofs.tables.add_name.Goals as goal

pub returns : goal.returns
returns c = record {
  name = c.in_ok-push_name.ensures.name;
  few = c.in_ok-check_name.ensures.few;
  spelled = c.in_ok-check_name.ensures.spelled;
  distinct = c.in_ok-push_name.ensures.distinct c.in_ok-check_name.ensures.other;
}
