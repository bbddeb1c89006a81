-- The ask of a request is that of its row's route.
use Rattle.std.proofs.Common.{◌≡◌, ℕ, List, [], sym, ap, ◌∙◌, append-nil, Option, Some, Result, subst}
use Rattle.site_asks.specs.declared.asks.Ask.{Ask}
use Rattle.http_routes.specs.declared.RouteFault.{RouteFault}
use Rattle.http_routes.specs.declared.fields.Field.{Field}
use Rattle.http_routes.specs.Asks.{route_ask, row_ask}
use Rattle.http_routes.specs.Fields.{KeepsLook, Look, look_in, request_fields}
use Rattle.http_routes.specs.Outcomes.{ReadsAs}
use Rattle.http_routes.specs.Routes.{Row}

same_look : (look other : Look) → ((name : List ℕ) → look name ≡ other name) → look ≡ other
same_look look other same = λ i. λ name. same name i

kept_look : (fields others : List Field) → KeepsLook fields others → look_in fields ≡ look_in others
kept_look fields others keeps =
    same_look (look_in fields) (look_in others) (λ name. ap (λ (all : List Field). look_in all name) (sym (append-nil fields)) ∙ keeps [] name ∙ ap (λ (all : List Field). look_in all name) (append-nil others))

-- what is read with the route of a row from the fields that were kept
pub asked : (result : Result Ask RouteFault) (row : Row) (rows : Option Row) (words : List (List ℕ)) (form_text : List ℕ) (form : ℕ) (fields : List Field)
    → ReadsAs result (route_ask row.route form (look_in fields)) → KeepsLook fields (request_fields row words form_text) → Some row ≡ rows → ReadsAs result (row_ask words form_text form rows)
asked result row rows words form_text form fields reads keeps is =
    subst (λ (r : Option Row). ReadsAs result (row_ask words form_text form r)) is
    (subst (λ (look : Look). ReadsAs result (route_ask row.route form look)) (kept_look fields (request_fields row words form_text) keeps) reads)
