use Rattle.std.proofs.Common.{ap, sym, ◌∙◌, ◌++◌, []}
use Rattle.std.specs.Prelude.{string_bytes}
use Rattle.std.proofs.lemmas.List.{append-nil}
use Rattle.std.proofs.lemmas.Str.{IsUtf8-nil, IsUtf8-string_bytes}
use Rattle.page_frames.specs.Elements.{text}
use Rattle.mail_pages.proofs.Gathering.{gathers-more, gathers-written}
use Rattle.mail_pages.proofs.text.write_many.Goals as goal

pub returns-in_ok-chars : goal.returns-in_ok-chars
returns-in_ok-chars c =
    let gathered = string_bytes c.args.gathered.now in
    gathers-written c.args.out.now c.chars.new.self gathered gathered (string_bytes c.clear.new.self) []
    (IsUtf8-string_bytes c.args.gathered.now) IsUtf8-nil (sym (append-nil gathered))
    (c.in_ok-chars.ensures.ok ∙ ap (λ t. record { written = c.args.out.now.written ++ text t; opened = c.args.out.now.opened }) c.deref.ensures) c.clear.ensures.bytes

pub returns-else-len-ge-GATHERED : goal.returns-else-len-ge-GATHERED
returns-else-len-ge-GATHERED c =
    let gathered = string_bytes c.args.gathered.now in
    gathers-more c.args.out.now gathered gathered [] (IsUtf8-string_bytes c.args.gathered.now) IsUtf8-nil (sym (append-nil gathered))
