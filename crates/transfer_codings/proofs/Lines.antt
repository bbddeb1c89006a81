-- The lines of a text that is written line by line.
use Rattle.std.proofs.Common.{◌≡◌, ℕ, ◌-◌, ◌<◌, false, List, [], ◌∷◌, ◌++◌, length, get_or, take, refl, sym, ap, ◌∙◌, arith, append_assoc}
use Rattle.std.specs.List.{All, slice_split}
use Rattle.std.specs.Str.Lines.{lines, lines_of_parts, strip_carriage_return}
use Rattle.std.proofs.lemmas.List.{length_push, get_or_push, take_at}
use Rattle.std.proofs.lemmas.List.Elements.{All-push}
use Rattle.std.proofs.lemmas.List.Splits.{slice_split_at, length-slice_split}
use Rattle.transfer_codings.specs.Quoted.{is_line_feed}

strip-push : (line : List ℕ) → strip_carriage_return (line ++ 13 ∷ []) ≡ line
strip-push line =
    let size : length (line ++ 13 ∷ []) - 1 ≡ length line = omega (arith, length_push line 13) in
    let last : get_or (line ++ 13 ∷ []) (length line) 0 ≡ 13 = get_or_push line 13 0 (length line) refl in
    let front : take (length line) (line ++ 13 ∷ []) ≡ line = take_at line (13 ∷ []) (length line) refl in
    rw (size, last) front

lines_of_parts-more : (part : List ℕ) (parts : List (List ℕ)) → 0 < length parts
    → lines_of_parts (part ∷ parts) ≡ strip_carriage_return part ∷ lines_of_parts parts
lines_of_parts-more part [] some = absurd (omega arith)
lines_of_parts-more part (next ∷ more) some = refl

-- a line and its break come before the lines of the rest
pub lines-break : (line rest : List ℕ) → All (λ byte. is_line_feed byte ≡ false) line
    → lines (line ++ 13 ∷ 10 ∷ rest) ≡ line ∷ lines rest
lines-break line rest plain =
    let ended : All (λ byte. is_line_feed byte ≡ false) (line ++ 13 ∷ []) = All-push (λ byte. is_line_feed byte ≡ false) line 13 plain refl in
    let cut = slice_split_at is_line_feed (line ++ 13 ∷ []) 10 rest ended refl in
    let parts = slice_split is_line_feed rest in
    ap lines (sym (append_assoc line (13 ∷ []) (10 ∷ rest))) ∙ ap lines_of_parts cut
    ∙ lines_of_parts-more (line ++ 13 ∷ []) parts (omega (arith, length-slice_split is_line_feed rest))
    ∙ ap (λ first. first ∷ lines_of_parts parts) (strip-push line)
