-- Where bytes of a command end with the size of a literal, `{n}` CR LF, after which the server's continuation request is awaited (RFC 9051 §4.3).
use Rattle.std.specs.Prelude.{ℕ, Bool, true, false, ◌&&◌, ◌==◌, List, [], ◌∷◌}
use Rattle.std.specs.List.{fold}
use Rattle.imap_commands.specs.Bytes.{line_feed}
use Rattle.imap_commands.specs.Items.{LexState, lex_step}
use Rattle.imap_commands.specs.Items.LexState.{Between, Octets, Expect}

-- only the LF after the size of a literal is missing. An empty literal is followed by more of the line, another by its octets.
abbrev pub lacks_line_feed_of_size : LexState → Bool
lacks_line_feed_of_size (Expect (byte ∷ []) (Between items)) = true
lacks_line_feed_of_size (Expect (byte ∷ []) (Octets items left text)) = true
lacks_line_feed_of_size place = false

-- a byte ends the size of a literal
abbrev pub ends_size : LexState → ℕ → Bool
ends_size place c = lacks_line_feed_of_size place && c == line_feed

-- the state of a lexer, and whether the last byte ended the size of a literal. Only the byte tells: after `{0}` CR LF the lexer is where it is after `""`.
pub record Scan : Type 0 where
  pub place : LexState
  pub asks : Bool

abbrev pub scan_step : Scan → ℕ → Scan
scan_step scan c = record { place = lex_step scan.place c; asks = ends_size scan.place c }

abbrev pub scan_from : Scan → List ℕ → Scan
scan_from scan bytes = fold scan_step scan bytes

-- whether some bytes end with the size of a literal
abbrev pub asks : List ℕ → Bool
asks bytes = (scan_from (record { place = Between []; asks = false }) bytes).asks
