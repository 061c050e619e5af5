use Rattle.cell_resume.proofs.PressResumes.{press_resumable}
use Rattle.cell_resume.proofs.press.PressProgramResumable.meets_demands.Goals as goal

pub returns : goal.returns
returns c = press_resumable
