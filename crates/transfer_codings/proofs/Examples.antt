-- Worked examples of the definitions.
use Rattle.std.proofs.Common.{◌≡◌, [], ◌∷◌, ◌++◌, Some, None, refl}
use Rattle.std.specs.Prelude.{codes, map, replicate}
use Rattle.std.specs.Str.{encode_utf8_all}
use Rattle.std.specs.List.{range_with_len}
use Rattle.transfer_codings.specs.declared.charset.Charset.TheVariants.{Utf8, Ascii, Latin1, Windows1252, Latin9}
use Rattle.transfer_codings.specs.Base64.{base64_bytes, base64_line, base64_lines, base64_text, bytes_of, sextet_of}
use Rattle.transfer_codings.specs.declared.coding.Coding.TheVariants.{Plain, Base64, Quoted}
use Rattle.transfer_codings.specs.Codings.{decoded}
use Rattle.transfer_codings.specs.Charsets.{charset_named, latin9_character, text_in, windows_1252_character}
use Rattle.base64.specs.Rfc4648.{encode_symbols}
use Rattle.transfer_codings.specs.Quoted.{line_bytes, quoted_bytes, unescaped, without_blanks}
use Rattle.transfer_codings.specs.QuotedRows.{broken_lines, quoted_text, rows_text, unit_of}

-- ---- base64: the test vectors of RFC 4648 §10

vector_0 : base64_bytes [] ≡ []
unfolding bytes_of sextet_of
vector_0 = refl

vector_1 : base64_bytes (codes "Zg==") ≡ codes "f"
unfolding bytes_of sextet_of
vector_1 = refl

vector_2 : base64_bytes (codes "Zm8=") ≡ codes "fo"
unfolding bytes_of sextet_of
vector_2 = refl

vector_3 : base64_bytes (codes "Zm9v") ≡ codes "foo"
unfolding bytes_of sextet_of
vector_3 = refl

vector_4 : base64_bytes (codes "Zm9vYg==") ≡ codes "foob"
unfolding bytes_of sextet_of
vector_4 = refl

vector_5 : base64_bytes (codes "Zm9vYmE=") ≡ codes "fooba"
unfolding bytes_of sextet_of
vector_5 = refl

vector_6 : base64_bytes (codes "Zm9vYmFy") ≡ codes "foobar"
unfolding bytes_of sextet_of
vector_6 = refl

-- a line break, a blank and other characters within a group
passed_over : base64_bytes (codes "Zm" ++ 13 ∷ 10 ∷ codes " 9-v!Ym" ++ 200 ∷ codes "_Fy") ≡ codes "foobar"
unfolding bytes_of sextet_of
passed_over = refl

-- decoding stops at the first `=`
ended : base64_bytes (codes "Zg==Zm9v") ≡ codes "f"
unfolding bytes_of sextet_of
ended = refl

-- a character that is left over gives no byte, and neither do bits
left_alone : base64_bytes (codes "Zm9vY") ≡ codes "foo"
unfolding bytes_of sextet_of
left_alone = refl

left_over : base64_bytes (codes "Zh") ≡ codes "f"
unfolding bytes_of sextet_of
left_over = refl

-- ---- quoted-printable: the soft breaks of RFC 2045 §6.7

soft_breaks : quoted_bytes (codes "Now's the time =" ++ 13 ∷ 10 ∷ codes "for all folk to come=" ++ 13 ∷ 10 ∷ codes " to the aid of their country.")
    ≡ codes "Now's the time for all folk to come to the aid of their country."
unfolding line_bytes quoted_bytes unescaped without_blanks
soft_breaks = refl

-- digits of either case, and a soft break
either_case : quoted_bytes (codes "caf=e9 =3D 1=" ++ 13 ∷ 10 ∷ codes "0") ≡ codes "caf" ++ 0xE9 ∷ codes " = 10"
unfolding line_bytes quoted_bytes unescaped without_blanks
either_case = refl

-- an `=` that begins no escape and no soft break is itself
bad_equals : quoted_bytes (codes "a==b=4=G1= c=" ++ 13 ∷ codes "=3d=") ≡ codes "a==b=4=G1= c=" ++ 13 ∷ codes "="
unfolding line_bytes quoted_bytes unescaped without_blanks
bad_equals = refl

-- blanks before the end of a line are dropped, also after the `=` of a soft break; a line may end with LF alone
blanks : quoted_bytes (codes "a " ++ 9 ∷ 13 ∷ 10 ∷ codes "b= " ++ 9 ∷ 10 ∷ codes " c" ++ 10 ∷ codes "=20  ") ≡ codes "a" ++ 13 ∷ 10 ∷ codes "b c" ++ 10 ∷ codes " "
unfolding line_bytes quoted_bytes unescaped without_blanks
blanks = refl

-- a CR without LF ends no line
lone_return : quoted_bytes (codes "a " ++ 13 ∷ 13 ∷ 10 ∷ codes "b =" ++ 13 ∷ []) ≡ codes "a " ++ 13 ∷ 13 ∷ 10 ∷ codes "b =" ++ 13 ∷ []
unfolding line_bytes quoted_bytes unescaped without_blanks
lone_return = refl

-- ---- the codings

plain : decoded Plain (codes "a=" ++ 13 ∷ 10 ∷ codes "Zg==") ≡ codes "a=" ++ 13 ∷ 10 ∷ codes "Zg=="
plain = refl

base64 : decoded Base64 (codes "Zg==") ≡ codes "f"
unfolding bytes_of sextet_of
base64 = refl

quoted : decoded Quoted (codes "=66=") ≡ codes "f"
unfolding line_bytes quoted_bytes unescaped without_blanks
quoted = refl

-- ---- charsets

upper_case : charset_named (codes "UTF-8") ≡ Some Utf8
upper_case = refl

mixed_case : charset_named (codes "Iso-8859-1") ≡ Some Latin1
mixed_case = refl

short_name : charset_named (codes "ascii") ≡ Some Ascii
short_name = refl

short_utf8 : charset_named (codes "utf8") ≡ Some Utf8
short_utf8 = refl

us_ascii : charset_named (codes "US-ascii") ≡ Some Ascii
us_ascii = refl

latin1 : charset_named (codes "latin1") ≡ Some Latin1
latin1 = refl

windows_1252 : charset_named (codes "Windows-1252") ≡ Some Windows1252
windows_1252 = refl

cp1252 : charset_named (codes "CP1252") ≡ Some Windows1252
cp1252 = refl

latin9 : charset_named (codes "Latin9") ≡ Some Latin9
latin9 = refl

iso_8859_15 : charset_named (codes "ISO-8859-15") ≡ Some Latin9
iso_8859_15 = refl

-- a number that is longer or shorter is another charset
iso_8859_16 : charset_named (codes "iso-8859-16") ≡ None
iso_8859_16 = refl

windows_125 : charset_named (codes "windows-125") ≡ None
windows_125 = refl

no_name : charset_named [] ≡ None
no_name = refl

other_charset : charset_named (codes "koi8-r") ≡ None
other_charset = refl

longer_name : charset_named (codes "utf-88") ≡ None
longer_name = refl

latin1_text : text_in Latin1 (codes "caf" ++ 0xE9 ∷ []) ≡ codes "caf" ++ 0xC3 ∷ 0xA9 ∷ []
unfolding lib.Utf8.encode
latin1_text = refl

ascii_text : text_in Ascii (codes "a" ++ 0x80 ∷ codes "b") ≡ codes "a" ++ 0xEF ∷ 0xBF ∷ 0xBD ∷ codes "b"
unfolding lib.Utf8.encode
ascii_text = refl

-- quotation marks
quotation_marks : text_in Windows1252 (0x93 ∷ 0x61 ∷ 0x94 ∷ []) ≡ encode_utf8_all (0x201C ∷ 0x61 ∷ 0x201D ∷ [])
unfolding lib.Utf8.encode windows_1252_character
quotation_marks = refl

-- the bytes 80 to 9F, in order: five of them are the numbers of their characters
high_controls : map windows_1252_character (range_with_len 0x80 32)
    ≡ 0x20AC ∷ 0x81 ∷ 0x201A ∷ 0x0192 ∷ 0x201E ∷ 0x2026 ∷ 0x2020 ∷ 0x2021
    ∷ 0x02C6 ∷ 0x2030 ∷ 0x0160 ∷ 0x2039 ∷ 0x0152 ∷ 0x8D ∷ 0x017D ∷ 0x8F
    ∷ 0x90 ∷ 0x2018 ∷ 0x2019 ∷ 0x201C ∷ 0x201D ∷ 0x2022 ∷ 0x2013 ∷ 0x2014
    ∷ 0x02DC ∷ 0x2122 ∷ 0x0161 ∷ 0x203A ∷ 0x0153 ∷ 0x9D ∷ 0x017E ∷ 0x0178 ∷ []
unfolding windows_1252_character
high_controls = refl

-- the bytes before and after these
low_bytes : map windows_1252_character (range_with_len 0 128) ≡ range_with_len 0 128
unfolding windows_1252_character
low_bytes = refl

high_bytes : map windows_1252_character (range_with_len 0xA0 96) ≡ range_with_len 0xA0 96
unfolding windows_1252_character
high_bytes = refl

five_bytes : text_in Windows1252 (0x81 ∷ 0x8D ∷ 0x8F ∷ 0x90 ∷ 0x9D ∷ []) ≡ encode_utf8_all (0x81 ∷ 0x8D ∷ 0x8F ∷ 0x90 ∷ 0x9D ∷ [])
unfolding lib.Utf8.encode windows_1252_character
five_bytes = refl

-- the euro sign
euro_sign : text_in Latin9 (0xA4 ∷ []) ≡ 0xE2 ∷ 0x82 ∷ 0xAC ∷ []
unfolding lib.Utf8.encode latin9_character
euro_sign = refl

-- the eight places at which ISO-8859-15 differs from ISO-8859-1, and the bytes between them
latin9_differences : map latin9_character (range_with_len 0xA4 27)
    ≡ 0x20AC ∷ 0xA5 ∷ 0x0160 ∷ 0xA7 ∷ 0x0161 ∷ 0xA9 ∷ 0xAA ∷ 0xAB ∷ 0xAC ∷ 0xAD ∷ 0xAE ∷ 0xAF ∷ 0xB0 ∷ 0xB1 ∷ 0xB2 ∷ 0xB3
    ∷ 0x017D ∷ 0xB5 ∷ 0xB6 ∷ 0xB7 ∷ 0x017E ∷ 0xB9 ∷ 0xBA ∷ 0xBB ∷ 0x0152 ∷ 0x0153 ∷ 0x0178 ∷ []
unfolding latin9_character
latin9_differences = refl

-- ISO-8859-15 has control characters where windows-1252 has quotation marks
latin9_low_bytes : map latin9_character (range_with_len 0 0xA4) ≡ range_with_len 0 0xA4
unfolding latin9_character
latin9_low_bytes = refl

latin9_high_bytes : map latin9_character (range_with_len 0xBF 65) ≡ range_with_len 0xBF 65
unfolding latin9_character
latin9_high_bytes = refl

-- ---- what is written

encoded : base64_text (codes "foobar") ≡ codes "Zm9vYmFy" ++ 13 ∷ 10 ∷ []
unfolding encode_symbols base64_line base64_lines
encoded = refl

encoded_padded : base64_text (codes "foob") ≡ codes "Zm9vYg==" ++ 13 ∷ 10 ∷ []
unfolding encode_symbols base64_line base64_lines
encoded_padded = refl

nothing_encoded : base64_text [] ≡ []
unfolding encode_symbols base64_line base64_lines
nothing_encoded = refl

-- 58 bytes of zero are a line of 76 characters and one of four
second_line : base64_text (replicate 58 0) ≡ replicate 76 65 ++ 13 ∷ 10 ∷ codes "AA==" ++ 13 ∷ 10 ∷ []
unfolding encode_symbols base64_line base64_lines
second_line = refl

-- `=`, a TAB, a lone CR and other bytes as escapes, a space within a line and one at its end
escapes : quoted_text (codes "a =b " ++ 13 ∷ 10 ∷ 9 ∷ 0xE9 ∷ 13 ∷ codes "c ") ≡ codes "a =3Db=20" ++ 13 ∷ 10 ∷ codes "=09=E9=0Dc=20"
unfolding quoted_text rows_text broken_lines unit_of
escapes = refl

-- 76 characters are one row, and of 77 the first has 75 and the soft break
one_row : quoted_text (replicate 76 97) ≡ replicate 76 97
unfolding quoted_text rows_text broken_lines unit_of
one_row = refl

two_rows : quoted_text (replicate 77 97) ≡ replicate 75 97 ++ 61 ∷ 13 ∷ 10 ∷ replicate 2 97
unfolding quoted_text rows_text broken_lines unit_of
two_rows = refl

-- an escape is not cut
escape_at_end : quoted_text (replicate 74 97 ++ codes "=b") ≡ replicate 74 97 ++ 61 ∷ 13 ∷ 10 ∷ codes "=3Db"
unfolding quoted_text rows_text broken_lines unit_of
escape_at_end = refl

-- hexadecimal digits of either case; a letter after F is none
hexadecimal_digits : quoted_bytes (codes "=fF=Af=0a=9A=gf=fg") ≡ 255 ∷ 175 ∷ 10 ∷ 154 ∷ codes "=gf=fg"
unfolding line_bytes quoted_bytes unescaped without_blanks
hexadecimal_digits = refl
