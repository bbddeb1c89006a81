use Rattle.wash_attributes.proofs.SafeReferences.{remote_link, other_link}
use Rattle.wash_attributes.proofs.values.link_address.Goals as goal

pub returns-in-Remote : goal.returns-in-Remote
returns-in-Remote c place = remote_link place c.args.reference c.in-Remote.text _ c.in-Remote.is c.requires c.into_string.ensures

pub returns-in-Link : goal.returns-in-Link
returns-in-Link c place = other_link place c.args.reference c.in-Link.text _ c.in-Link.is c.requires c.into_string-in-Link.ensures
