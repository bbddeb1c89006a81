-- The values that fields may have.
use Rattle.std.proofs.Common.{◌≡◌, ℕ, zero, suc, ◌<◌, ◌≤◌, true, false, List, [], ◌∷◌, length, refl, arith, Option, Some, None, Ok, subst, get_or, ltb, leb}
use Rattle.std.specs.Prelude.{codes, ◌==◌, ◌&&◌, ◌||◌, if◌then◌else◌}
use Rattle.std.specs.List.{list_any}
use Rattle.std.proofs.lemmas.Bool.{leb-true, ltb-true}
use Rattle.http_routes.specs.Asks.{needed, optional, page_field, kept_field, user_field, password_field}
use Rattle.http_routes.specs.Fields.{Look, Occurs}
use Rattle.http_routes.specs.Fields.Occurs.{never, once, twice}
use Rattle.http_routes.specs.Outcomes.{or_wrong}
use Rattle.http_routes.specs.Servable.{HasNoNul, IsUserName}
use Rattle.http_routes.specs.Values.{below, kept_number, page_number, positive, small_number, user_name, without_nul}
use Rattle.http_routes.proofs.Numbers.{and_both}

positive_ok : (name : List ℕ) (number : Option ℕ) (n : ℕ) → or_wrong name (positive number) ≡ Ok n → 1 ≤ n
positive_ok name None n e = absurd cc
positive_ok name (Some m) n e =
    elim (ltb 0 m) as (λ v. ltb 0 m ≡ v → or_wrong name (if v then Some m else None) ≡ Ok n → 1 ≤ n) [
      | true ↦ λ test is. let same : m ≡ n = cc in let low : 0 < m = ltb-true 0 m test in omega arith
      | false ↦ λ _ is. absurd cc
    ] refl e

page_ok : (o : Occurs) (page : ℕ) → optional (codes "p") page_number 1 o ≡ Ok page → 1 ≤ page
page_ok never page e = let same : 1 ≡ page = cc in omega arith
page_ok (once text) page e = positive_ok (codes "p") (small_number text) page e
page_ok twice page e = absurd cc

-- a page is counted from 1
pub page_positive : (look : Look) (page : ℕ) → page_field look ≡ Ok page → 1 ≤ page
page_positive look page e = page_ok (look (codes "p")) page e

below_ok : (name : List ℕ) (bound : ℕ) (number : Option ℕ) (n : ℕ) → or_wrong name (positive (below (suc bound) number)) ≡ Ok n → n ≤ bound
below_ok name bound None n e = absurd cc
below_ok name bound (Some m) n e =
    elim (ltb m (suc bound)) as (λ v. ltb m (suc bound) ≡ v → or_wrong name (positive (if v then Some m else None)) ≡ Ok n → n ≤ bound) [
      | true ↦ λ test is.
          elim (ltb 0 m) as (λ w. or_wrong name (if w then Some m else None) ≡ Ok n → n ≤ bound) [
            | true ↦ λ here. let same : m ≡ n = cc in let high : m < suc bound = ltb-true m (suc bound) test in omega arith
            | false ↦ λ here. absurd cc
          ] is
      | false ↦ λ _ is. absurd cc
    ] refl e

kept_ok : (o : Occurs) (n : ℕ) → needed (codes "number") kept_number o ≡ Ok n → (1 ≤ n) × (n ≤ 16)
kept_ok never n e = absurd cc
kept_ok (once text) n e = (positive_ok (codes "number") (below 17 (small_number text)) n e, below_ok (codes "number") 16 (small_number text) n e)
kept_ok twice n e = absurd cc

-- identities are kept under the numbers 1 to 16
pub kept_in_range : (look : Look) (n : ℕ) → kept_field look ≡ Ok n → (1 ≤ n) × (n ≤ 16)
kept_in_range look n e = kept_ok (look (codes "number")) n e

no_nul_at : (text : List ℕ) → list_any (λ b. b == 0) text ≡ false → (k d : ℕ) → k < length text → get_or text k d ≡ 0 → ⊥
no_nul_at [] test k d h e = absurd (omega arith)
no_nul_at (b ∷ text) test zero d h e = let hit : (b == 0) ≡ true = rw e refl in absurd cc
no_nul_at (b ∷ text) test (suc k) d h e =
    elim (b == 0) as (λ v. (v || list_any (λ c. c == 0) text) ≡ false → ⊥) [
      | true ↦ λ t. absurd cc
      | false ↦ λ t. no_nul_at text t k d (omega arith) e
    ] test

no_nul : (text : List ℕ) → list_any (λ b. b == 0) text ≡ false → HasNoNul text
no_nul text test = no_nul_at text test

nul_ok : (name text value : List ℕ) → or_wrong name (without_nul text) ≡ Ok value → (text ≡ value) × HasNoNul text
nul_ok name text value e =
    elim (list_any (λ b. b == 0) text) as (λ v. list_any (λ b. b == 0) text ≡ v → or_wrong name (if v then None else Some text) ≡ Ok value → (text ≡ value) × HasNoNul text) [
      | true ↦ λ _ is. absurd cc
      | false ↦ λ test is. let same : text ≡ value = cc in (same, no_nul text test)
    ] refl e

password_ok : (o : Occurs) (value : List ℕ) → needed (codes "password") without_nul o ≡ Ok value → HasNoNul value
password_ok never value e = absurd cc
password_ok (once text) value e = let both = nul_ok (codes "password") text value e in subst HasNoNul both.0 both.1
password_ok twice value e = absurd cc

-- a password has no U+0000
pub password_without_nul : (look : Look) (value : List ℕ) → password_field look ≡ Ok value → HasNoNul value
password_without_nul look value e = password_ok (look (codes "password")) value e

name_ok : (text value : List ℕ) → or_wrong (codes "user") (user_name text) ≡ Ok value → IsUserName value
name_ok text value e =
    elim (ltb 0 (length text) && leb (length text) 120) as (λ v. (ltb 0 (length text) && leb (length text) 120) ≡ v → or_wrong (codes "user") (if v then without_nul text else None) ≡ Ok value → IsUserName value) [
      | true ↦ λ test is.
          let both = nul_ok (codes "user") text value is in
          let bounds = and_both (ltb 0 (length text)) (leb (length text) 120) test in
          let low : 0 < length text = ltb-true 0 (length text) bounds.0 in
          let high : length text ≤ 120 = leb-true (length text) 120 bounds.1 in
          subst IsUserName both.0 (record { nonempty = omega arith; short = high; no_nul = both.1 })
      | false ↦ λ _ is. absurd cc
    ] refl e

user_ok : (o : Occurs) (value : List ℕ) → needed (codes "user") user_name o ≡ Ok value → IsUserName value
user_ok never value e = absurd cc
user_ok (once text) value e = name_ok text value e
user_ok twice value e = absurd cc

-- the name of a user
pub user_is_name : (look : Look) (value : List ℕ) → user_field look ≡ Ok value → IsUserName value
user_is_name look value e = user_ok (look (codes "user")) value e
