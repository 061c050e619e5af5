use Rattle.cell_resume.proofs.FeedResumes.{feed_resumable}
use Rattle.cell_resume.proofs.feed.FeedProgramResumable.meets_demands.Goals as goal

pub returns : goal.returns
returns c = feed_resumable
