-- The scheme of a URL tells what its text is.
use Rattle.std.specs.Prelude.{◌≡◌, ℕ, true, ◌||◌, if◌then◌else◌, List, codes, bytes_eq}
use Rattle.std.specs.List.{list_all}
use Rattle.url.specs.Parts.{Parts, serialize, IsValid}
use Rattle.html_rules.specs.Values.{is_address_char}
use Rattle.cid_parts.specs.declared.refs.Ref.{Ref}
use Rattle.cid_parts.specs.declared.refs.Ref.TheVariants.{Remote, Link, Nothing}
use Rattle.cid_parts.specs.Refer.{ref_of_text}

-- what a text is by the scheme of its URL
abbrev pub ref_of_scheme : List ℕ → List ℕ → Ref
ref_of_scheme scheme text =
    if bytes_eq scheme (codes "http") || bytes_eq scheme (codes "https") then Remote text
    else if bytes_eq scheme (codes "mailto") then Link text else Nothing

-- a URL whose text has neither a space nor a control
abbrev pub SchemeDecides : Parts → Type 0
SchemeDecides url = IsValid url → list_all is_address_char (serialize url) ≡ true → ref_of_text (serialize url) ≡ ref_of_scheme url.scheme (serialize url)
