use Rattle.plan_words.proofs.Plain.{large_is_plain as plain}
use Rattle.plan_words.proofs.laws.large_is_plain.Goals as goal

pub returns : goal.returns
returns c = plain
