use Rattle.wash_attributes.proofs.SafeReferences.{remote_picture}
use Rattle.wash_attributes.proofs.values.picture_address.Goals as goal

pub returns-then-images : goal.returns-then-images
returns-then-images c = remote_picture c.args.place.now c.args.images c.args.reference c.in-Remote.text _ c.if-images.true c.in-Remote.is c.requires c.into_string.ensures
