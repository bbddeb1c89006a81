use Rattle.page_frames.proofs.Law.{frame_pages_safe}
use Rattle.page_frames.proofs.laws.frame_pages_are_safe.Goals as goal

pub returns : goal.returns
returns c = frame_pages_safe
