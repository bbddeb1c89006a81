-- Charsets: their names, and the text of bytes in each.
use Rattle.std.specs.Prelude.{ℕ, if◌then◌else◌, ◌==◌, nat_lt, List, [], ◌∷◌, map, Option, Some, None, codes}
use Rattle.std.specs.Str.{encode_utf8_all, str_eq_ignore_ascii_case}
use Rattle.std.specs.Str.Lossy.{utf8_lossy}
use Rattle.transfer_codings.specs.declared.charset.Charset.{Charset}
use Rattle.transfer_codings.specs.declared.charset.Charset.TheVariants.{Utf8, Ascii, Latin1, Windows1252, Latin9}

-- a charset and one of its names
pub record CharsetName : Type 0 where
  pub name : List ℕ
  pub charset : Charset

abbrev pub charset_names : List CharsetName
charset_names =
    record { name = codes "utf-8"; charset = Utf8 }
    ∷ record { name = codes "utf8"; charset = Utf8 }
    ∷ record { name = codes "us-ascii"; charset = Ascii }
    ∷ record { name = codes "ascii"; charset = Ascii }
    ∷ record { name = codes "iso-8859-1"; charset = Latin1 }
    ∷ record { name = codes "latin1"; charset = Latin1 }
    ∷ record { name = codes "windows-1252"; charset = Windows1252 }
    ∷ record { name = codes "cp1252"; charset = Windows1252 }
    ∷ record { name = codes "iso-8859-15"; charset = Latin9 }
    ∷ record { name = codes "latin9"; charset = Latin9 }
    ∷ []

-- the first row of a name, in either case
abbrev pub charset_in : List CharsetName → List ℕ → Option Charset
charset_in [] name = None
charset_in (row ∷ rows) name = if str_eq_ignore_ascii_case name row.name then Some row.charset else charset_in rows name

-- the charset of a name
abbrev pub charset_named : List ℕ → Option Charset
charset_named name = charset_in charset_names name

-- the character of a byte in US-ASCII: U+FFFD if the byte is no ASCII
abbrev pub ascii_character : ℕ → ℕ
ascii_character byte = if nat_lt byte 128 then byte else 0xFFFD

-- a byte and the number of its character
pub record ByteRow : Type 0 where
  pub byte : ℕ
  pub character : ℕ

-- the bytes of windows-1252 that aren't the numbers of their characters (Encoding Standard, index windows-1252). Those of 81, 8D, 8F,
-- 90 and 9D are control characters, with the numbers of these bytes
abbrev pub windows_1252_rows : List ByteRow
windows_1252_rows =
    record { byte = 0x80; character = 0x20AC }
    ∷ record { byte = 0x82; character = 0x201A }
    ∷ record { byte = 0x83; character = 0x0192 }
    ∷ record { byte = 0x84; character = 0x201E }
    ∷ record { byte = 0x85; character = 0x2026 }
    ∷ record { byte = 0x86; character = 0x2020 }
    ∷ record { byte = 0x87; character = 0x2021 }
    ∷ record { byte = 0x88; character = 0x02C6 }
    ∷ record { byte = 0x89; character = 0x2030 }
    ∷ record { byte = 0x8A; character = 0x0160 }
    ∷ record { byte = 0x8B; character = 0x2039 }
    ∷ record { byte = 0x8C; character = 0x0152 }
    ∷ record { byte = 0x8E; character = 0x017D }
    ∷ record { byte = 0x91; character = 0x2018 }
    ∷ record { byte = 0x92; character = 0x2019 }
    ∷ record { byte = 0x93; character = 0x201C }
    ∷ record { byte = 0x94; character = 0x201D }
    ∷ record { byte = 0x95; character = 0x2022 }
    ∷ record { byte = 0x96; character = 0x2013 }
    ∷ record { byte = 0x97; character = 0x2014 }
    ∷ record { byte = 0x98; character = 0x02DC }
    ∷ record { byte = 0x99; character = 0x2122 }
    ∷ record { byte = 0x9A; character = 0x0161 }
    ∷ record { byte = 0x9B; character = 0x203A }
    ∷ record { byte = 0x9C; character = 0x0153 }
    ∷ record { byte = 0x9E; character = 0x017E }
    ∷ record { byte = 0x9F; character = 0x0178 }
    ∷ []

-- the bytes of ISO-8859-15 that aren't the numbers of their characters
abbrev pub latin9_rows : List ByteRow
latin9_rows =
    record { byte = 0xA4; character = 0x20AC }
    ∷ record { byte = 0xA6; character = 0x0160 }
    ∷ record { byte = 0xA8; character = 0x0161 }
    ∷ record { byte = 0xB4; character = 0x017D }
    ∷ record { byte = 0xB8; character = 0x017E }
    ∷ record { byte = 0xBC; character = 0x0152 }
    ∷ record { byte = 0xBD; character = 0x0153 }
    ∷ record { byte = 0xBE; character = 0x0178 }
    ∷ []

-- the character of a byte: that of its row, or else the one with its number
abbrev pub character_in : List ByteRow → ℕ → ℕ
character_in [] byte = byte
character_in (row ∷ rows) byte = if byte == row.byte then row.character else character_in rows byte

unfoldable pub windows_1252_character : ℕ → ℕ
windows_1252_character byte = character_in windows_1252_rows byte

unfoldable pub latin9_character : ℕ → ℕ
latin9_character byte = character_in latin9_rows byte

-- the text of bytes in a charset, in UTF-8. In ISO-8859-1 each byte is the number of its character
abbrev pub text_in : Charset → List ℕ → List ℕ
text_in Utf8 bytes = utf8_lossy bytes
text_in Ascii bytes = encode_utf8_all (map ascii_character bytes)
text_in Latin1 bytes = encode_utf8_all bytes
text_in Windows1252 bytes = encode_utf8_all (map windows_1252_character bytes)
text_in Latin9 bytes = encode_utf8_all (map latin9_character bytes)
