use Rattle.std.proofs.Common.{◌≡◌, take}
use Rattle.header_words.specs.EncodedWords.{blanks_written}
use Rattle.header_words.proofs.words.write_blanks.Given as goal

abbrev pub invariant-loop-byte : goal.invariant-loop-byte
invariant-loop-byte l = l.written.items ≡ blanks_written (take l.byte-index l.text)
