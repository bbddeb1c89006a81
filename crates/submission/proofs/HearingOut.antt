-- Pieces that are heard until a reply is there.
use Rattle.std.proofs.Common.{◌≡◌, ℕ, List, [], ◌∷◌, ◌++◌, sym, ap, ◌∙◌, subst, true, false, append-nil}
use Rattle.std.specs.Prelude.{Option}
use Rattle.account_pictures.specs.declared.talk.Piece.{Piece}
use Rattle.account_pictures.specs.declared.talk.Piece.TheVariants.{Dialled, Said, Heard}
use Rattle.mail_io.specs.Talks.{KeepsTalk}
use Rattle.submission.specs.Replies.{Hearing, hear, is_awaiting}
use Rattle.submission.specs.Hearings.{HearsPiece}
use Rattle.submission.specs.Submits.{GrowsBy, HearsOut, Hears, replied, lost}
use Rattle.submission.proofs.Growing.{grows_kept, grows_piece, grows_then, grows_weaker}

hears_push : (h : Hearing) (pieces : List Piece) (u : Hearing) (bytes : List ℕ) → HearsOut h pieces u → is_awaiting u ≡ true → HearsOut h (pieces ++ Heard bytes ∷ []) (hear u bytes)
hears_push h [] u bytes is awaiting = (ap is_awaiting (sym is) ∙ awaiting, ap (λ (x : Hearing). hear x bytes) is)
hears_push h (Heard more ∷ pieces) u bytes all awaiting = (all.0, hears_push (hear h more) pieces u bytes all.1 awaiting)
hears_push h (Said more ∷ pieces) u bytes all awaiting = absurd all
hears_push h (Dialled fresh ∷ pieces) u bytes all awaiting = absurd all

pub hears_more : (a b c : Option (List Piece)) (h u v : Hearing) → GrowsBy a b (λ pieces. HearsOut h pieces u) → is_awaiting u ≡ true → HearsPiece b c u v → GrowsBy a c (λ pieces. HearsOut h pieces v)
hears_more a b c h u v grows awaiting piece =
    grows_then a b c (λ pieces. HearsOut h pieces u) (λ pieces. HearsOut h pieces v) grows
    (λ first out. grows_piece b c (Heard piece.bytes) (λ rest. HearsOut h (first ++ rest) v) piece.says (subst (λ (x : Hearing). HearsOut h (first ++ Heard piece.bytes ∷ []) x) (sym piece.reads) (hears_push h first u piece.bytes out awaiting)))

pub hears_reply : (a b : Option (List Piece)) (h u : Hearing) → GrowsBy a b (λ pieces. HearsOut h pieces u) → is_awaiting u ≡ false → GrowsBy a b (λ pieces. Hears h pieces (replied u))
hears_reply a b h u grows done = grows_weaker a b (λ pieces. HearsOut h pieces u) (λ pieces. Hears h pieces (replied u)) grows (λ pieces out. (out, done))

pub hears_fault : (a b c : Option (List Piece)) (h u : Hearing) → GrowsBy a b (λ pieces. HearsOut h pieces u) → is_awaiting u ≡ true → KeepsTalk b c → GrowsBy a c (λ pieces. Hears h pieces lost)
hears_fault a b c h u grows awaiting kept =
    grows_then a b c (λ pieces. HearsOut h pieces u) (λ pieces. Hears h pieces lost) grows
    (λ first out. grows_kept b c (λ rest. Hears h (first ++ rest) lost) kept (u, subst (λ (l : List Piece). HearsOut h l u) (sym (append-nil first)) out, awaiting))
