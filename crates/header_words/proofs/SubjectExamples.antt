-- Worked examples of identifiers and base subjects.
use Rattle.std.proofs.Common.{◌≡◌, true, false, [], ◌∷◌, ◌++◌, codes, refl, map}
use Rattle.header_words.specs.MessageIds.{ids_in}
use Rattle.header_words.specs.BaseSubject.{base, single_spaced, blob_len, blobs_len_from, word_len, mark_len, marked_len, leader_len, front_len, without_front_from, is_trailer, back_len, without_back_from, is_forward, opened, base_of}

-- each identifier between `<` and `>`: an opening inside begins anew, and without an `@` there is none
ids_examples : map ids_in (codes "<a@x> <b@x>" ∷ codes "x <a@x" ∷ codes "<<a@x> <ab> <@>" ∷ codes "<a @x><c@d>" ∷ codes "a@x> <" ∷ codes "(<a@x>) <b>c@d<e@f>" ∷ (codes "<a@" ++ 9 ∷ codes "x>") ∷ [])
    ≡ (codes "a@x" ∷ codes "b@x" ∷ []) ∷ [] ∷ (codes "a@x" ∷ codes "@" ∷ []) ∷ (codes "c@d" ∷ []) ∷ [] ∷ (codes "a@x" ∷ codes "e@f" ∷ []) ∷ [] ∷ []
unfolding ids_in
ids_examples = refl

marks : map base_of (codes "Re: Re[2]: [x] y (fwd)" ∷ codes "[fwd: y]" ∷ codes "y" ∷ codes "[l] Fwd: x (fwd)" ∷ codes "FW : x" ∷ codes "fw [a] [b]: x" ∷ codes "regarding: x" ∷ codes "re" ∷ codes "re x: y" ∷ [])
    ≡ base (codes "y") true ∷ base (codes "y") true ∷ base (codes "y") false ∷ base (codes "x") true ∷ base (codes "x") true ∷ base (codes "fw [a] [b]: x") false ∷ base (codes "regarding: x") false ∷ base (codes "re") false ∷ base (codes "re x: y") false ∷ []
unfolding single_spaced blob_len blobs_len_from word_len mark_len marked_len leader_len front_len without_front_from is_trailer back_len without_back_from is_forward opened
marks = refl

-- a blob is removed if something is left, and no blob that doesn't close
blobs : map base_of (codes "[a] [b]" ∷ codes "[a]" ∷ codes "[x] [y] fw [z] : [q]" ∷ codes "[x y" ∷ codes "[x[y] z" ∷ codes "[] y" ∷ codes "re: [a] re: [b] c" ∷ [])
    ≡ base (codes "[b]") false ∷ base (codes "[a]") false ∷ base (codes "[q]") true ∷ base (codes "[x y") false ∷ base (codes "[x[y] z") false ∷ base (codes "y") false ∷ base (codes "c") true ∷ []
unfolding single_spaced blob_len blobs_len_from word_len mark_len marked_len leader_len front_len without_front_from is_trailer back_len without_back_from is_forward opened
blobs = refl

-- `[fwd:` and `]` are removed together, at any depth; what is left may be empty
forwards : map base_of (codes "[FWD: re: [fwd: a b (FWD) ]  (fwd)]" ∷ codes "[fwd:]" ∷ codes "[fwd: y" ∷ codes "[fwd]" ∷ codes "[fwd: a] b" ∷ [])
    ≡ base (codes "a b") true ∷ base [] true ∷ base (codes "[fwd: y") false ∷ base (codes "[fwd]") false ∷ base (codes "b") false ∷ []
unfolding single_spaced blob_len blobs_len_from word_len mark_len marked_len leader_len front_len without_front_from is_trailer back_len without_back_from is_forward opened
forwards = refl

-- white space, and what leaves nothing
spaces : map base_of (codes " a  b " ∷ (9 ∷ codes "a" ++ 13 ∷ 10 ∷ codes "b" ++ 9 ∷ []) ∷ codes "re :" ∷ codes " (fwd) " ∷ codes "a(fwd)(FWD) (Fwd)" ∷ codes "(fwd) a" ∷ [] ∷ codes "  " ∷ [])
    ≡ base (codes "a b") false ∷ base (codes "a b") false ∷ base [] true ∷ base [] true ∷ base (codes "a") true ∷ base (codes "(fwd) a") false ∷ base [] false ∷ base [] false ∷ []
unfolding single_spaced blob_len blobs_len_from word_len mark_len marked_len leader_len front_len without_front_from is_trailer back_len without_back_from is_forward opened
spaces = refl
