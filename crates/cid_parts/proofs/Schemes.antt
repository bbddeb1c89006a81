-- What the text of a URL begins with is told by its scheme.
use Rattle.std.proofs.Common.{◌≡◌, ℕ, Bool, true, false, List, [], ◌∷◌, ◌++◌, ◌==◌, ◌&&◌, ◌||◌, codes, refl, ap, ◌∙◌, arith}
use Rattle.std.specs.Prelude.{drop, bytes_eq, if◌then◌else◌}
use Rattle.std.specs.List.{list_all, concat}
use Rattle.std.proofs.lemmas.Bool.{and_parts}
use Rattle.std.proofs.lemmas.Bool.Decides.{nat_tests}
use Rattle.std.proofs.lemmas.List.Sums.{list_all-from_AllPass}
use Rattle.std.proofs.lemmas.Slice.Eq.{bytes_eq-Decides}
use Rattle.url.specs.Scheme.{is_scheme_byte, scheme_type, is_special, default_port}
use Rattle.url.specs.Parts.{Parts, serialize, pieces, has_authority, IsValid}
use Rattle.url.proofs.SchemeLemmas.{scheme_bytes}
use Rattle.url.proofs.ValidLemmas.{special_has_authority}
use Rattle.html_syntax.specs.References.{begins_with}
use Rattle.html_rules.specs.Values.{is_address_char, is_remote, is_link}
use Rattle.cid_parts.specs.declared.refs.Ref.TheVariants.{Remote, Link, Nothing}
use Rattle.cid_parts.specs.Refer.{ref_of_text}
use Rattle.cid_parts.specs.Laws.{SchemeDecides}

not_colon : (c : ℕ) → is_scheme_byte c ≡ true → (58 == c) ≡ false
not_colon c is_byte = grind (arith, nat_tests)

eq_sym : (a b : ℕ) → (a == b) ≡ (b == a)
eq_sym a b = grind (arith, nat_tests)

and_assoc : (a b c : Bool) → (a && (b && c)) ≡ ((a && b) && c)
and_assoc true b c = refl
and_assoc false b c = refl

and_true : (b : Bool) → (b && true) ≡ b
and_true true = refl
and_true false = refl

-- a text of a scheme and a colon begins with another such text just if the schemes are equal
begins_by_scheme : (word more scheme rest : List ℕ) → list_all is_scheme_byte word ≡ true → list_all is_scheme_byte scheme ≡ true → begins_with (word ++ 58 ∷ more) (scheme ++ 58 ∷ rest) ≡ (bytes_eq scheme word && begins_with more rest)
begins_by_scheme [] more [] rest w s = refl
begins_by_scheme [] more (c ∷ cs) rest w s = ap (λ b. b && begins_with more (cs ++ 58 ∷ rest)) (not_colon c (and_parts (is_scheme_byte c) (list_all is_scheme_byte cs) s).0)
begins_by_scheme (x ∷ xs) more [] rest w s = ap (λ b. b && begins_with (xs ++ 58 ∷ more) rest) (eq_sym x 58 ∙ not_colon x (and_parts (is_scheme_byte x) (list_all is_scheme_byte xs) w).0)
begins_by_scheme (x ∷ xs) more (c ∷ cs) rest w s =
    ap (λ b. x == c && b) (begins_by_scheme xs more cs rest (and_parts (is_scheme_byte x) (list_all is_scheme_byte xs) w).1 (and_parts (is_scheme_byte c) (list_all is_scheme_byte cs) s).1)
    ∙ ap (λ b. b && (bytes_eq cs xs && begins_with more rest)) (eq_sym x c)
    ∙ and_assoc (c == x) (bytes_eq cs xs) (begins_with more rest)

-- the text after the scheme and its colon
abbrev after_colon : Bool → List ℕ → List ℕ
after_colon true tail = 47 ∷ 47 ∷ tail
after_colon false tail = tail

-- the pieces after the scheme and what separates it
abbrev tail_of : Parts → List ℕ
tail_of url = concat (drop 2 (pieces url))

separated : (b : Bool) (tail : List ℕ) → (if b then codes "://" else codes ":") ++ tail ≡ 58 ∷ after_colon b tail
separated true tail = refl
separated false tail = refl

text_is : (url : Parts) → serialize url ≡ url.scheme ++ 58 ∷ after_colon (has_authority url) (tail_of url)
text_is url = ap (λ more. url.scheme ++ more) (separated (has_authority url) (tail_of url))

text_begins : (url : Parts) (word more : List ℕ) → IsValid url → list_all is_scheme_byte word ≡ true → begins_with (word ++ 58 ∷ more) (serialize url) ≡ (bytes_eq url.scheme word && begins_with more (after_colon (has_authority url) (tail_of url)))
text_begins url word more valid bytes =
    ap (begins_with (word ++ 58 ∷ more)) (text_is url) ∙ begins_by_scheme word more url.scheme (after_colon (has_authority url) (tail_of url)) bytes (list_all-from_AllPass is_scheme_byte url.scheme (scheme_bytes url.scheme valid.head.scheme))

-- a special scheme is followed by `//`
web_begins : (url : Parts) (word : List ℕ) → IsValid url → list_all is_scheme_byte word ≡ true → is_special (scheme_type word) ≡ true → begins_with (word ++ 58 ∷ 47 ∷ 47 ∷ []) (serialize url) ≡ bytes_eq url.scheme word
web_begins url word valid bytes special =
    text_begins url word (47 ∷ 47 ∷ []) valid bytes ∙ by_case (bytes_eq url.scheme word) (λ same. authority ((bytes_eq-Decides url.scheme word).0 same))
  where
    slashes : Bool
    slashes = begins_with (47 ∷ 47 ∷ []) (after_colon (has_authority url) (tail_of url))

    authority : url.scheme ≡ word → slashes ≡ true
    authority same = ap (λ b. begins_with (47 ∷ 47 ∷ []) (after_colon b (tail_of url))) (special_has_authority url valid.head (ap (λ s. is_special (scheme_type s)) same ∙ special))

    by_case : (b : Bool) → (b ≡ true → slashes ≡ true) → (b && slashes) ≡ b
    by_case true follows = follows refl
    by_case false follows = refl

-- what is of the web begins with one of two schemes, and a link with a third one besides
remote_is : (url : Parts) → IsValid url → list_all is_address_char (serialize url) ≡ true → is_remote (serialize url) ≡ (bytes_eq url.scheme (codes "http") || bytes_eq url.scheme (codes "https"))
unfolding is_remote scheme_type default_port
remote_is url valid clean =
    ap (λ b. (begins_with (codes "http://") (serialize url) || begins_with (codes "https://") (serialize url)) && b) clean
    ∙ and_true (begins_with (codes "http://") (serialize url) || begins_with (codes "https://") (serialize url))
    ∙ ap (λ b. b || begins_with (codes "https://") (serialize url)) (web_begins url (codes "http") valid refl refl)
    ∙ ap (λ b. bytes_eq url.scheme (codes "http") || b) (web_begins url (codes "https") valid refl refl)

mailto_is : (url : Parts) → IsValid url → list_all is_address_char (serialize url) ≡ true → (begins_with (codes "mailto:") (serialize url) && list_all is_address_char (serialize url)) ≡ bytes_eq url.scheme (codes "mailto")
mailto_is url valid clean =
    ap (λ b. begins_with (codes "mailto:") (serialize url) && b) clean ∙ and_true (begins_with (codes "mailto:") (serialize url)) ∙ text_begins url (codes "mailto") [] valid refl ∙ and_true (bytes_eq url.scheme (codes "mailto"))

link_is : (url : Parts) → IsValid url → list_all is_address_char (serialize url) ≡ true → is_link (serialize url) ≡ (is_remote (serialize url) || bytes_eq url.scheme (codes "mailto"))
unfolding is_link
link_is url valid clean = ap (λ b. is_remote (serialize url) || b) (mailto_is url valid clean)

-- the choices by text are those by scheme
same_choice : (remote link web mailto : Bool) (text : List ℕ) → remote ≡ web → link ≡ (remote || mailto) → (if remote then Remote text else if link then Link text else Nothing) ≡ (if web then Remote text else if mailto then Link text else Nothing)
same_choice true link web mailto text r l = ap (λ b. if b then Remote text else if mailto then Link text else Nothing) r
same_choice false link web mailto text r l = ap (λ b. if b then Link text else Nothing) l ∙ ap (λ b. if b then Remote text else if mailto then Link text else Nothing) r

pub scheme_decides : (url : Parts) → SchemeDecides url
unfolding ref_of_text
scheme_decides url valid clean = same_choice (is_remote (serialize url)) (is_link (serialize url)) _ _ (serialize url) (remote_is url valid clean) (link_is url valid clean)
