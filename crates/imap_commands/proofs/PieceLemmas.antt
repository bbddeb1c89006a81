-- Bytes before pieces.
use Rattle.std.proofs.Common.{◌≡◌, ℕ, List, [], ◌∷◌, ◌++◌, inl, inr, length, map, refl, sym, ap, ◌∙◌, append_assoc}
use Rattle.std.proofs.lemmas.Bool.{cases_Bool}
use Rattle.std.proofs.lemmas.List.{map-append}
use Rattle.imap_commands.specs.Pieces.{Part, pieces_of, onto_first, is_quotable, quoted, literal_size, line_end}
use Rattle.imap_commands.specs.Pieces.Part.{Words, Text, Literal}
use Rattle.imap_commands.specs.declared.pieces.Pieces.{Pieces}
use Rattle.imap_commands.specs.Written.{AppendsPart, AppendsParts}

onto_twice : (a b : List ℕ) (pieces : List (List ℕ)) → onto_first a (onto_first b pieces) ≡ onto_first (a ++ b) pieces
onto_twice a b [] = refl
onto_twice a b (first ∷ more) = ap (λ (x : List ℕ). x ∷ more) (sym (append_assoc a b first))

pub nothing_before : (more : List Part) → onto_first [] (pieces_of more) ≡ pieces_of more
unfolding pieces_of
nothing_before [] = refl
nothing_before (Words words ∷ more) = onto_twice [] words (pieces_of more)
nothing_before (Text text ∷ more) =
    elim (cases_Bool (is_quotable text)) [ inl short ↦ rw short (onto_twice [] (quoted text) (pieces_of more)) | inr long ↦ rw long refl ]
nothing_before (Literal text ∷ more) = refl

pub words_go : (whole : List (List ℕ)) (last words after : List ℕ) (more : List Part) → after ≡ last ++ words → whole ++ onto_first after (pieces_of more) ≡ whole ++ onto_first last (pieces_of (Words words ∷ more))
unfolding pieces_of
words_go whole last words after more is = ap (λ (x : List ℕ). whole ++ onto_first x (pieces_of more)) is ∙ ap (λ x. whole ++ x) (sym (onto_twice last words (pieces_of more)))

pub literal_goes : (whole : List (List ℕ)) (last text announced_last : List ℕ) (more : List Part) → announced_last ≡ last ++ literal_size (length text) → (whole ++ announced_last ∷ []) ++ onto_first text (pieces_of more) ≡ whole ++ onto_first last (pieces_of (Literal text ∷ more))
unfolding pieces_of
literal_goes whole last text announced_last more is =
    append_assoc whole (announced_last ∷ []) (onto_first text (pieces_of more)) ∙ ap (λ (x : List ℕ). whole ++ (x ∷ onto_first text (pieces_of more))) is

pub ends : (whole : List (List ℕ)) (last ended : List ℕ) → ended ≡ last ++ line_end → whole ++ ended ∷ [] ≡ whole ++ onto_first last (pieces_of [])
unfolding pieces_of
ends whole last ended is = ap (λ (x : List ℕ). whole ++ x ∷ []) is

-- a piece more
pub map_push : {X : Type 0} (f : X → List ℕ) (old new : List X) (x : X) → new ≡ old ++ x ∷ [] → map f new ≡ map f old ++ f x ∷ []
map_push f old new x is = ap (map f) is ∙ map-append f old (x ∷ [])

-- parts one after the other
pub goes_three : (a b c d : Pieces) (p1 p2 p3 : Part) → AppendsPart a b p1 → AppendsPart b c p2 → AppendsPart c d p3 → AppendsParts a d (p1 ∷ p2 ∷ p3 ∷ [])
goes_three a b c d p1 p2 p3 g1 g2 g3 = λ more. g3 more ∙ g2 (p3 ∷ more) ∙ g1 (p2 ∷ p3 ∷ more)
