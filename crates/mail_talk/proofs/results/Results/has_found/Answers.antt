use Rattle.std.proofs.Common.{◌==◌, sym, ap, ◌∙◌, List, Option}
use Rattle.std.specs.List.{list_any}
use Rattle.imap_commands.specs.declared.uid_set.UidRange.{UidRange}
use Rattle.imap_values.specs.Sets.{membership_or_none}
use Rattle.mail_talk.specs.Results.{ResultsState, uids_of}
use Rattle.mail_talk.proofs.UidLemmas.{finds_uid}
use Rattle.mail_talk.proofs.results.Results.has_found.Goals as goal

pub returns-in-Some : goal.returns-in-Some
returns-in-Some c =
    c.contains.ensures ∙ sym (finds_uid _ _ c.ranges.uid.fits)
    ∙ ap (λ (found : Option (List UidRange)). list_any (λ one. one == c.args.uid) (uids_of (membership_or_none found))) (sym c.in-Some.is)
    ∙ ap (λ (r : ResultsState). list_any (λ one. one == c.args.uid) r.found) c.self.view_is
