use Rattle.std.proofs.Common.{sym, ◌∙◌, append_assoc, append-nil}
use Rattle.std.specs.Str.{chars}
use Rattle.wash_attributes.specs.Attributes.{link_protection}
use Rattle.wash_attributes.proofs.attributes.protect.Goals as goal

pub returns-in_ok-push-2 : goal.returns-in_ok-push-2
unfolding chars link_protection
returns-in_ok-push-2 c = rw (c.in_ok-push-2.ensures.appended, c.in_ok-push.ensures.appended, sym c.contains.ensures ∙ c.if-contains.true) (append_assoc c.args.attributes.now _ _)

pub returns-else-contains : goal.returns-else-contains
unfolding chars link_protection
returns-else-contains c = rw (sym c.contains.ensures ∙ c.if-contains.false) (sym (append-nil c.args.attributes.now))
