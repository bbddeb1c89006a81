-- What a writer holds is nested.
use Rattle.std.proofs.Common.{◌≡◌, true, false, cond, List, [], ◌∷◌, Some, ap}
use Rattle.html_syntax.specs.Token.{Token}
use Rattle.html_syntax.specs.Token.Token.{Start, End, Char, Comment, Doctype}
use Rattle.html_rules.specs.Tables.{Name, is_void}
use Rattle.page_writer.specs.Page.{MayAppendAll}
use Rattle.html_rules.specs.Nesting.{open_elements_after}

-- what a writer holds is nested as far as it goes
pub open_after-led : (inside : List Name) (ts : List Token) (after : List Name) → MayAppendAll inside ts after → open_elements_after inside ts ≡ Some after
unfolding open_elements_after MayAppendAll
open_after-led inside [] after h = ap (λ (names : List Name). Some names) h
open_after-led inside (Start name attributes ∷ ts) after h =
    elim (is_void name) as (λ b. MayAppendAll (cond b inside (name ∷ inside)) ts after → cond b (open_elements_after inside ts) (open_elements_after (name ∷ inside) ts) ≡ Some after) [
      | true ↦ λ k. open_after-led inside ts after k
      | false ↦ λ k. open_after-led (name ∷ inside) ts after k
    ] h.1
open_after-led [] (End name ∷ ts) after h = absurd cc
open_after-led (inner ∷ outer) (End name ∷ ts) after h = rw h.0.1 (open_after-led outer ts after h.1)
open_after-led inside (Char c ∷ ts) after h = open_after-led inside ts after h.1
open_after-led inside (Comment text ∷ ts) after h = absurd h.0
open_after-led inside (Doctype ∷ ts) after h = open_after-led inside ts after h.1
