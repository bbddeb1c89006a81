-- What contracts see in the code's use of characters.
use Rattle.std.specs.Prelude.{String, string_bytes, chars}
use Rattle.html_wash.specs.Styling.{Following}
use Rattle.html_wash.specs.Styling.Following.{Keeps, Drops, Reads}
use Rattle.html_wash.specs.declared.styling.TextUse.{TextUse}
use Rattle.html_wash.specs.declared.styling.TextUse.TheVariants as use_of

abbrev pub following_seen : {Z : Type 0} → TextUse → String Z → Following
following_seen use_of.Keep text = Keeps
following_seen use_of.Drop text = Drops
following_seen use_of.Read text = Reads (chars (string_bytes text))
