-- The cookie of the fields of a head.
use Rattle.std.proofs.Common.{◌≡◌, ℕ, true, false, List, [], ◌∷◌, ◌++◌, refl, ap, sym, ◌∙◌, map, Option, Some, None}
use Rattle.std.specs.Prelude.{codes, filter, if◌then◌else◌}
use Rattle.std.specs.List.{flat_map}
use Rattle.std.specs.Str.{str_eq_ignore_ascii_case}
use Rattle.http_heads.specs.Framing.{values_of}
use Rattle.http_routes.specs.Cookies.{cookie_value, first_cookie, or_else, pieces_of}
use Rattle.http_front.specs.Answering.{first_cookies}

or_else_assoc : (a b c : Option (List ℕ)) → or_else a (or_else b c) ≡ or_else (or_else a b) c
or_else_assoc None b c = refl
or_else_assoc (Some x) b c = refl

first_append : (xs ys : List (List ℕ)) → first_cookie (xs ++ ys) ≡ or_else (first_cookie xs) (first_cookie ys)
first_append [] ys = refl
first_append (x ∷ xs) ys = ap (or_else (cookie_value x)) (first_append xs ys) ∙ or_else_assoc (cookie_value x) (first_cookie xs) (first_cookie ys)

-- the first cookie is that of the pieces of all Cookie fields
pub first_all : (fields : List (List ℕ × List ℕ)) → first_cookies fields ≡ first_cookie (flat_map pieces_of (values_of (codes "Cookie") fields))
first_all [] = refl
first_all (field ∷ fields) =
    elim (str_eq_ignore_ascii_case field.0 (codes "Cookie"))
    as (λ v. or_else (if v then first_cookie (pieces_of field.1) else None) (first_cookies fields)
    ≡ first_cookie (flat_map pieces_of (map (λ (f : List ℕ × List ℕ). f.1) (if v then field ∷ filter (λ (f : List ℕ × List ℕ). str_eq_ignore_ascii_case f.0 (codes "Cookie")) fields else filter (λ (f : List ℕ × List ℕ). str_eq_ignore_ascii_case f.0 (codes "Cookie")) fields)))) [
      | true ↦ ap (or_else (first_cookie (pieces_of field.1))) (first_all fields) ∙ sym (first_append (pieces_of field.1) (flat_map pieces_of (values_of (codes "Cookie") fields)))
      | false ↦ first_all fields
    ]
