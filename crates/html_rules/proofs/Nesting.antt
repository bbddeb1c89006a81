-- What nested lists of tokens are made of.
use Rattle.std.proofs.Common.{◌≡◌, ℕ, true, false, cond, List, [], ◌∷◌, ◌++◌, Some, None, refl, ap, ◌∙◌}
use Rattle.html_syntax.specs.Token.{Token}
use Rattle.html_syntax.specs.Token.Token.{Start, End, Char, Comment, Doctype}
use Rattle.html_syntax.specs.Tokenizer.{same}
use Rattle.html_rules.specs.Tables.{Name, is_void}
use Rattle.html_rules.specs.Tokens.{text_tokens}
use Rattle.html_rules.specs.Nesting.{open_elements_after, IsNested}

-- what comes after tokens sees what is open after them
pub open_after-append : (inside : List Name) (xs ys : List Token) (between : List Name) → open_elements_after inside xs ≡ Some between → open_elements_after inside (xs ++ ys) ≡ open_elements_after between ys
unfolding open_elements_after
open_after-append inside [] ys between h = let e : inside ≡ between = cc in ap (λ (names : List Name). open_elements_after names ys) e
open_after-append inside (Start name attributes ∷ xs) ys between h =
    elim (is_void name) as (λ b. cond b (open_elements_after inside xs) (open_elements_after (name ∷ inside) xs) ≡ Some between → cond b (open_elements_after inside (xs ++ ys)) (open_elements_after (name ∷ inside) (xs ++ ys)) ≡ open_elements_after between ys) [
      | true ↦ λ k. open_after-append inside xs ys between k
      | false ↦ λ k. open_after-append (name ∷ inside) xs ys between k
    ] h
open_after-append [] (End name ∷ xs) ys between h = absurd cc
open_after-append (inner ∷ outer) (End name ∷ xs) ys between h =
    elim (same inner name) as (λ b. cond b (open_elements_after outer xs) None ≡ Some between → cond b (open_elements_after outer (xs ++ ys)) None ≡ open_elements_after between ys) [
      | true ↦ λ k. open_after-append outer xs ys between k
      | false ↦ λ k. absurd cc
    ] h
open_after-append inside (Char c ∷ xs) ys between h = open_after-append inside xs ys between h
open_after-append inside (Comment text ∷ xs) ys between h = open_after-append inside xs ys between h
open_after-append inside (Doctype ∷ xs) ys between h = open_after-append inside xs ys between h

-- elements further out change nothing
pub open_after-outer : (inside : List Name) (xs : List Token) (after outer : List Name) → open_elements_after inside xs ≡ Some after → open_elements_after (inside ++ outer) xs ≡ Some (after ++ outer)
unfolding open_elements_after
open_after-outer inside [] after outer h = let e : inside ≡ after = cc in ap (λ (names : List Name). Some (names ++ outer)) e
open_after-outer inside (Start name attributes ∷ xs) after outer h =
    elim (is_void name) as (λ b. cond b (open_elements_after inside xs) (open_elements_after (name ∷ inside) xs) ≡ Some after → cond b (open_elements_after (inside ++ outer) xs) (open_elements_after (name ∷ (inside ++ outer)) xs) ≡ Some (after ++ outer)) [
      | true ↦ λ k. open_after-outer inside xs after outer k
      | false ↦ λ k. open_after-outer (name ∷ inside) xs after outer k
    ] h
open_after-outer [] (End name ∷ xs) after outer h = absurd cc
open_after-outer (inner ∷ names) (End name ∷ xs) after outer h =
    elim (same inner name) as (λ b. cond b (open_elements_after names xs) None ≡ Some after → cond b (open_elements_after (names ++ outer) xs) None ≡ Some (after ++ outer)) [
      | true ↦ λ k. open_after-outer names xs after outer k
      | false ↦ λ k. absurd cc
    ] h
open_after-outer inside (Char c ∷ xs) after outer h = open_after-outer inside xs after outer h
open_after-outer inside (Comment text ∷ xs) after outer h = open_after-outer inside xs after outer h
open_after-outer inside (Doctype ∷ xs) after outer h = open_after-outer inside xs after outer h

-- a nested list may come anywhere
pub open_after-nested : (inside : List Name) (xs ys : List Token) → IsNested xs → open_elements_after inside (xs ++ ys) ≡ open_elements_after inside ys
open_after-nested inside xs ys h = open_after-append inside xs ys inside (open_after-outer [] xs [] inside h)

pub Nested-append : (xs ys : List Token) → IsNested xs → IsNested ys → IsNested (xs ++ ys)
Nested-append xs ys g h = open_after-nested [] xs ys g ∙ h

-- a text is nested
pub Nested-text : (cs : List ℕ) → IsNested (text_tokens cs)
unfolding open_elements_after
Nested-text [] = refl
Nested-text (c ∷ cs) = Nested-text cs

pub open_after-text : (inside : List Name) (cs : List ℕ) (ys : List Token) → open_elements_after inside (text_tokens cs ++ ys) ≡ open_elements_after inside ys
open_after-text inside cs ys = open_after-nested inside (text_tokens cs) ys (Nested-text cs)
