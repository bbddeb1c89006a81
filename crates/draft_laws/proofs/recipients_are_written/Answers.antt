use Rattle.draft_laws.proofs.Recipients.{has_recipients, recipients_read, shared_fault}
use Rattle.draft_laws.proofs.recipients_are_written.Goals as goal

pub returns-clause-boxes : goal.returns-clause-boxes
returns-clause-boxes c = has_recipients

pub returns-clause-faults : goal.returns-clause-faults
returns-clause-faults c = shared_fault

pub returns-clause-read : goal.returns-clause-read
returns-clause-read c = recipients_read
