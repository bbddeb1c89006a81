-- Types that have parts in them (RFC 2046 §5).
use Rattle.std.specs.Prelude.{ℕ, Bool, if◌then◌else◌, List, codes, bytes_eq, nat_eq}
use Rattle.std.specs.List.{starts_with}

abbrev pub is_multipart : List ℕ → Bool
is_multipart mime = starts_with nat_eq mime (codes "multipart/")

abbrev pub is_message : List ℕ → Bool
is_message mime = bytes_eq mime (codes "message/rfc822")

abbrev pub is_alternative : List ℕ → Bool
is_alternative mime = bytes_eq mime (codes "multipart/alternative")

-- the type of a part in a multipart that says none (RFC 2046 §5.1.5)
abbrev pub default_in : List ℕ → List ℕ
default_in mime = if bytes_eq mime (codes "multipart/digest") then codes "message/rfc822" else codes "text/plain"
