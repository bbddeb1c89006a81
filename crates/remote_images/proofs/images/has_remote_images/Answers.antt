use Rattle.std.proofs.Common.{Bool, ◌∙◌, ap, chars}
use Rattle.html_syntax.specs.Tokenizer.{tokens}
use Rattle.remote_images.specs.Remote.{has_remote_images}
use Rattle.remote_images.proofs.Scanning.{found_decides, if_ok_map}
use Rattle.remote_images.proofs.images.has_remote_images.Goals as goal

pub returns-clause-decides : goal.returns-clause-decides
returns-clause-decides c =
    if_ok_map c.has_among.result _ _
    (λ (found : Bool) is. found_decides _ (tokens (chars c.args.html.now)) found (is ∙ ap (λ r. has_remote_images r (tokens (chars c.args.html.now))) c.in_ok-references.ensures))
    c.has_among.ensures
