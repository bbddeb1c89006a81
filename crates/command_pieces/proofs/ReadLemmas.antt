-- Pieces that are said one after another read back.
use Rattle.std.proofs.Common.{◌≡◌, ℕ, zero, suc, ◌+◌, ◌<◌, ◌&&◌, Bool, true, false, not, Some, None, List, [], ◌∷◌, ◌++◌, length, length-append, take, drop, refl, sym, ap, ◌∙◌, arith, append_assoc}
use Rattle.std.specs.List.{concat, AllByRecursion}
use Rattle.std.proofs.Math.Seq.{drop-cons}
use Rattle.std.proofs.lemmas.Bool.{and_parts}
use Rattle.std.proofs.lemmas.List.{append-nil, take-append-drop, take-append-le}
use Rattle.imap_commands.specs.declared.command.Command.{Command}
use Rattle.imap_commands.specs.CommandGrammar.{command_of}
use Rattle.imap_commands.specs.Commands.{command_pieces}
use Rattle.imap_commands.specs.Items.{LexState, lex_step, lex_from}
use Rattle.imap_commands.specs.Items.LexState.{Between}
use Rattle.imap_commands.specs.ReadBack.{written_form}
use Rattle.imap_commands.proofs.ReadingLemmas.{read_back, end_once}
use Rattle.imap_commands.proofs.NonemptyLemmas.{command_pieces_nonempty}
use Rattle.command_pieces.specs.Asking.{ends_size, Scan, scan_step, scan_from, asks}
use Rattle.command_pieces.specs.Spoken.{spoken_with}
use Rattle.command_pieces.specs.Spoken.Spoken.{Complete, Pieces, Partial}
use Rattle.command_pieces.specs.ReadBack.{IsPartialWithin, ReadAs, PiecesReadBack}
use Rattle.command_pieces.proofs.PassLemmas.{never, place-append}
use Rattle.command_pieces.proofs.PieceLemmas.{AsksAtEnd, AreSent}
use Rattle.command_pieces.proofs.CommandLemmas.{command_sent}

abbrev start : Scan
start = record { place = Between []; asks = false }

scan_place : (scan : Scan) (bytes : List ℕ) → (scan_from scan bytes).place ≡ lex_from scan.place bytes
unfolding lex_from
scan_place scan [] = refl
scan_place scan (c ∷ bytes) = scan_place (scan_step scan c) bytes

scan-append : (scan : Scan) (xs ys : List ℕ) → scan_from scan (xs ++ ys) ≡ scan_from (scan_from scan xs) ys
scan-append scan [] ys = refl
scan-append scan (x ∷ xs) ys = scan-append (scan_step scan x) xs ys

from_not : (b : Bool) → not b ≡ true → b ≡ false
from_not true is = absurd cc
from_not false is = refl

-- silent bytes do not ask
silent_scan : (scan : Scan) (c : ℕ) (bytes : List ℕ) → never scan.place (c ∷ bytes) ≡ true → (scan_from scan (c ∷ bytes)).asks ≡ false
unfolding never
silent_scan scan c [] silent = from_not _ (and_parts _ _ silent).0
silent_scan scan c (d ∷ bytes) silent = silent_scan (scan_step scan c) d bytes (and_parts _ _ silent).1

silent_asks : (front : List ℕ) (c : ℕ) (bytes : List ℕ) → never (lex_from (Between []) front) (c ∷ bytes) ≡ true → asks (front ++ c ∷ bytes) ≡ false
silent_asks front c bytes silent =
    ap (λ (s : Scan). s.asks) (scan-append start front (c ∷ bytes)) ∙ silent_scan (scan_from start front) c bytes (ap (λ (p : LexState). never p (c ∷ bytes)) (scan_place start front) ∙ silent)

never_take : (place : LexState) (n : ℕ) (bytes : List ℕ) → never place bytes ≡ true → never place (take n bytes) ≡ true
unfolding never
never_take place zero bytes silent = refl
never_take place (suc n) [] silent = refl
never_take place (suc n) (c ∷ bytes) silent =
    let each = and_parts (not (ends_size place c)) (never (lex_step place c) bytes) silent in
    rw (each.0, never_take (lex_step place c) n bytes each.1) refl

-- bytes that are no whole command and do not ask
partial : (front bytes : List ℕ) → never (lex_from (Between []) front) bytes ≡ true → command_of (front ++ bytes) ≡ None → spoken_with front bytes ≡ Partial
partial front [] silent none = refl
partial front (c ∷ bytes) silent none = rw (none, silent_asks front c bytes silent) refl

-- a proper prefix of a command is none
prefix_none : (bytes front back : List ℕ) (tag : ℕ) (one : Command) → command_of bytes ≡ Some (tag, one) → bytes ≡ front ++ back → 0 < length back → command_of front ≡ None
prefix_none bytes front [] tag one whole is some = absurd (omega arith)
prefix_none bytes front (c ∷ back) tag one whole is some = end_once bytes (rw whole refl) front c back is

within : (front piece more : List ℕ) (n : ℕ) (tag : ℕ) (one : Command) → command_of (front ++ (piece ++ more)) ≡ Some (tag, one) → n < length piece → command_of (front ++ take n piece) ≡ None
within front piece more n tag one whole less =
    let cut : front ++ (piece ++ more) ≡ (front ++ take n piece) ++ (drop n piece ++ more) =
    ap (λ (x : List ℕ). front ++ (x ++ more)) (sym (take-append-drop n piece)) ∙ ap (λ (x : List ℕ). front ++ x) (append_assoc (take n piece) (drop n piece) more) ∙ sym (append_assoc front (take n piece) (drop n piece ++ more)) in
    let some : 0 < length (drop n piece ++ more) = rw (drop-cons piece n 0 less) (omega arith) in
    prefix_none _ _ _ tag one whole cut some

spoken_whole : (front : List ℕ) (piece : List ℕ) (tag : ℕ) (one : Command) → 0 < length piece → command_of (front ++ piece) ≡ Some (tag, one) → spoken_with front piece ≡ Complete tag one
spoken_whole front [] tag one some whole = absurd (omega arith)
spoken_whole front (c ∷ piece) tag one some whole = rw whole refl

-- a piece that asks at its end
asks_at_end : (front piece : List ℕ) → AsksAtEnd (lex_from (Between []) front) piece → asks (front ++ piece) ≡ true
asks_at_end front piece a =
    ap asks (ap (λ (x : List ℕ). front ++ x) a.whole ∙ sym (append_assoc front a.front (10 ∷ [])))
    ∙ ap (λ (s : Scan). s.asks) (scan-append start (front ++ a.front) (10 ∷ []))
    ∙ ap (λ (p : LexState). ends_size p 10) (scan_place start (front ++ a.front) ∙ place-append (Between []) front a.front)
    ∙ ap (λ (b : Bool). b && true) a.lacks

spoken_pieces : (front piece : List ℕ) → AsksAtEnd (lex_from (Between []) front) piece → command_of (front ++ piece) ≡ None → 0 < length piece → spoken_with front piece ≡ Pieces
spoken_pieces front [] a none some = absurd (omega arith)
spoken_pieces front (c ∷ piece) a none some = rw (none, asks_at_end front (c ∷ piece) a) refl

asking_within : (front piece more : List ℕ) (tag : ℕ) (one : Command) → AsksAtEnd (lex_from (Between []) front) piece → command_of (front ++ (piece ++ more)) ≡ Some (tag, one) → IsPartialWithin front piece
asking_within front piece more tag one a whole = λ n less.
    let long : length piece ≡ length a.front + 1 = ap length a.whole ∙ length-append a.front (10 ∷ []) in
    let same : take n piece ≡ take n a.front = ap (take n) a.whole ∙ take-append-le n a.front (10 ∷ []) (omega (arith, long, less)) in
    partial front (take n piece) (rw same (never_take _ n a.front a.silent)) (within front piece more n tag one whole less)

last_within : (front piece more : List ℕ) (tag : ℕ) (one : Command) → never (lex_from (Between []) front) piece ≡ true → command_of (front ++ (piece ++ more)) ≡ Some (tag, one) → IsPartialWithin front piece
last_within front piece more tag one silent whole = λ n less. partial front (take n piece) (never_take _ n piece silent) (within front piece more n tag one whole less)

rest_long : (next : List ℕ) (pieces : List (List ℕ)) → 0 < length next → 0 < length (concat (next ∷ pieces))
rest_long next pieces some = rw (length-append next (concat pieces)) (omega arith)

pieces_read : (front : List ℕ) (pieces : List (List ℕ)) (tag : ℕ) (one : Command) → AllByRecursion (λ piece. 0 < length piece) pieces → AreSent (lex_from (Between []) front) pieces → command_of (front ++ concat pieces) ≡ Some (tag, one) → ReadAs front pieces tag one
pieces_read front [] tag one some sent whole = tt
pieces_read front (piece ∷ []) tag one some sent whole =
    (last_within front piece [] tag one sent whole, spoken_whole front piece tag one some.0 (rw append-nil at whole), tt)
pieces_read front (piece ∷ next ∷ pieces) tag one some sent whole =
    let regrouped : (front ++ piece) ++ concat (next ∷ pieces) ≡ front ++ (piece ++ concat (next ∷ pieces)) = append_assoc front piece (concat (next ∷ pieces)) in
    let none : command_of (front ++ piece) ≡ None = prefix_none _ (front ++ piece) (concat (next ∷ pieces)) tag one whole (sym regrouped) (rest_long next pieces some.1.0) in (
      asking_within front piece (concat (next ∷ pieces)) tag one sent.0 whole,
      spoken_pieces front piece sent.0 none some.0,
      pieces_read (front ++ piece) (next ∷ pieces) tag one some.1 (rw (place-append (Between []) front piece) sent.1) (ap command_of regrouped ∙ whole),
    )

nothing_read : lex_from (Between []) [] ≡ Between []
unfolding lex_from
nothing_read = refl

pub commands_read : PiecesReadBack
commands_read tag one tag_fits fits = pieces_read [] (command_pieces tag one) tag (written_form one) (command_pieces_nonempty tag one) (rw nothing_read (command_sent tag one tag_fits fits)) (read_back tag one tag_fits fits)
