use Rattle.remote_images.proofs.First.{decides}
use Rattle.remote_images.proofs.laws.remote_images_decide.Goals as goal

pub returns : goal.returns
returns c = decides
