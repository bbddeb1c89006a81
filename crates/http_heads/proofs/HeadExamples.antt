-- Heads and the lengths of their bodies, worked out by hand.
use Rattle.std.proofs.Common.{◌≡◌, [], ◌∷◌, refl, Ok, Err}
use Rattle.std.specs.Prelude.{codes}
use Rattle.httparse.specs.Grammar.{is_token_byte}
use Rattle.http_heads.specs.Framing.{body_len, length_of}
use Rattle.http_heads.specs.Places.{place_of}
use Rattle.http_heads.specs.declared.framing.HeadFault.TheVariants.{Coding, Length, Body}
use Rattle.http_heads.specs.declared.places.Place.TheVariants.{Dead, FieldStart, Target, Whole}

no_body : body_len [] ≡ Ok 0
unfolding body_len
no_body = refl

some_body : body_len ((codes "content-length", codes "0020") ∷ []) ≡ Ok 20
unfolding body_len length_of
some_body = refl

longest_body : body_len ((codes "Content-Length", codes "1048576") ∷ []) ≡ Ok 1048576
unfolding body_len length_of
longest_body = refl

too_long : body_len ((codes "Content-Length", codes "1048577") ∷ []) ≡ Err (Body 1048577)
unfolding body_len length_of
too_long = refl

two_lengths : body_len ((codes "Content-Length", codes "1") ∷ (codes "CONTENT-LENGTH", codes "1") ∷ []) ≡ Err Length
unfolding body_len length_of
two_lengths = refl

signed_length : body_len ((codes "Content-Length", codes "+1") ∷ []) ≡ Err Length
unfolding body_len length_of
signed_length = refl

many_digits : body_len ((codes "Content-Length", codes "0000000000000000001") ∷ []) ≡ Err Length
unfolding body_len length_of
many_digits = refl

coding_first : body_len ((codes "Content-Length", codes "x") ∷ (codes "Transfer-Encoding", []) ∷ []) ≡ Err Coding
unfolding body_len length_of
coding_first = refl

-- ---- places

whole_head : place_of (codes "\r\nGET / HTTP/1.1\nHost: h\r\n\r\nbody") ≡ Whole
unfolding is_token_byte
whole_head = refl

in_a_target : place_of (codes "GET /x") ≡ Target
unfolding is_token_byte
in_a_target = refl

after_a_line : place_of (codes "GET / HTTP/1.0\n") ≡ FieldStart
unfolding is_token_byte
after_a_line = refl

other_version : place_of (codes "GET / HTTP/2") ≡ Dead
unfolding is_token_byte
other_version = refl

space_before_colon : place_of (codes "GET / HTTP/1.1\r\nHost :") ≡ Dead
unfolding is_token_byte
space_before_colon = refl
