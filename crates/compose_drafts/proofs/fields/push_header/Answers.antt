use Rattle.std.specs.Prelude.{◌++◌, codes}
use Rattle.compose_drafts.specs.Message.{header, ids_or_none, optional, own_id}
use Rattle.compose_drafts.specs.Moments.{date_text}
use Rattle.compose_drafts.specs.Paragraphs.{coding_name}
use Rattle.compose_drafts.specs.References.{last_of_ids, references_of}
use Rattle.compose_drafts.specs.Texts.{ended, written}
use Rattle.compose_drafts.proofs.Steps.{whole_header}
use Rattle.compose_drafts.proofs.fields.push_header.Goals as goal

pub returns : goal.returns
unfolding header
returns c =
    let draft = c.args.draft.now in
    let parties = c.args.parties.now in
    whole_header ended c.args.out.now.items c.push_date_field.new.out.items c.push_parties.new.out.items c.push_subject.new.out.items c.push_answered.new.out.items c.push_id_field.new.out.items c.push_content.new.out.items
    (codes "Date: " ++ date_text c.args.clock) (codes "Subject: " ++ written draft.subject) (codes "Message-ID: " ++ own_id draft.form parties.domain)
    (codes "MIME-Version: 1.0") (codes "Content-Type: text/plain; charset=utf-8; format=flowed") (codes "Content-Transfer-Encoding: " ++ coding_name c.args.seven_bit)
    (optional (codes "From: ") parties.from) (optional (codes "To: ") parties.to) (optional (codes "Cc: ") parties.cc)
    (optional (codes "In-Reply-To: ") (ids_or_none (last_of_ids 1 (references_of draft.refs)))) (optional (codes "References: ") (ids_or_none (references_of draft.refs)))
    c.in_ok-push_date_field.ensures c.in_ok-push_parties.ensures c.in_ok-push_subject.ensures c.in_ok-push_answered.ensures c.in_ok-push_id_field.ensures c.in_ok-push_content.ensures
