use lib.Utf8.{encode}
use Rattle.std.specs.Prelude.{string_bytes}
use Rattle.std.proofs.lemmas.Str.{IsUtf8-string_bytes}
use Rattle.mail_pages.proofs.Gathering.{gathers-on}
use Rattle.mail_pages.proofs.text.add_text.Goals as goal

pub returns : goal.returns
unfolding encode
returns c =
    gathers-on c.write_many.result c.args.out.now c.write_many.new.out (string_bytes c.args.gathered.now) (string_bytes c.push_str.new.self) (string_bytes c.write_many.new.gathered) c.args.text.now
    (IsUtf8-string_bytes c.args.gathered.now) c.utf8.text c.in_ok-push_str.ensures.bytes c.write_many.ensures
