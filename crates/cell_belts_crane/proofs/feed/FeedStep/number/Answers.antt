use Rattle.cell_belts_crane.proofs.lemmas.StepNumbers.{feed_tag}
use Rattle.cell_belts_crane.proofs.feed.FeedStep.number.Goals as goal

pub returns : goal.returns
returns c = feed_tag c.args.self
