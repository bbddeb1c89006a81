-- Talks that grow, part by part.
use Rattle.std.proofs.Common.{List, [], ◌∷◌, ◌++◌, sym, ap, ◌∙◌, append_assoc, append-nil}
use Rattle.std.specs.Prelude.{Option, Some, None}
use Rattle.account_pictures.specs.declared.talk.Piece.{Piece}
use Rattle.mail_io.specs.Talks.{AppendsPiece, KeepsTalk}
use Rattle.submission.specs.Submits.{GrowsBy}

pub grows_kept : (a b : Option (List Piece)) (P : List Piece → Type 0) → KeepsTalk a b → P [] → GrowsBy a b P
grows_kept None b P kept p = tt
grows_kept (Some old) None P kept p = absurd kept
grows_kept (Some old) (Some new) P kept p = ([], kept ∙ sym (append-nil old), p)

pub grows_none : (a : Option (List Piece)) (P : List Piece → Type 0) → P [] → GrowsBy a a P
grows_none None P p = tt
grows_none (Some old) P p = ([], sym (append-nil old), p)

pub grows_piece : (a b : Option (List Piece)) (piece : Piece) (P : List Piece → Type 0) → AppendsPiece a b piece → P (piece ∷ []) → GrowsBy a b P
grows_piece None b piece P appends p = tt
grows_piece (Some old) None piece P appends p = absurd appends
grows_piece (Some old) (Some new) piece P appends p = (piece ∷ [], appends, p)

pub grows_weaker : (a b : Option (List Piece)) (P Q : List Piece → Type 0) → GrowsBy a b P → ((pieces : List Piece) → P pieces → Q pieces) → GrowsBy a b Q
grows_weaker None b P Q grows k = tt
grows_weaker (Some old) None P Q grows k = grows
grows_weaker (Some old) (Some new) P Q (pieces, is, p) k = (pieces, is, k pieces p)

pub grows_then : (a b c : Option (List Piece)) (P Q : List Piece → Type 0) → GrowsBy a b P → ((first : List Piece) → P first → GrowsBy b c (λ rest. Q (first ++ rest))) → GrowsBy a c Q
grows_then None b c P Q grows k = tt
grows_then (Some old) None c P Q grows k = absurd grows
grows_then (Some old) (Some middle) None P Q (first, is, p) k = k first p
grows_then (Some old) (Some middle) (Some new) P Q (first, is, p) k =
    let more = k first p in
    (first ++ more.0, more.1 ∙ ap (λ (l : List Piece). l ++ more.0) is ∙ append_assoc old first more.0, more.2)
