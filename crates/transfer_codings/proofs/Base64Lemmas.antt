-- The decoder's table against the alphabet, and the sextets of a text step by step.
use Rattle.std.proofs.Common.{◌≡◌, ℕ, ◌+◌, ◌*◌, ◌/◌, ◌%◌, ◌<◌, ◌≤◌, ◌==◌, nat_lt, nat_le, Bool, true, cond, List, [], ◌∷◌, ◌++◌, length, get_or, drop, slice_index, Option, Some, None, IfSome, refl, sym, ap, ◌∙◌, arith, inl, inr}
use Rattle.std.specs.List.{cons_option, position_or_len}
use Rattle.std.proofs.lemmas.Bool.{cases_Bool, eqb-true, leb-true, ltb-true}
use Rattle.std.proofs.lemmas.List.{append-nil, append_assoc, drop_more, nil_from_length}
use Rattle.base64.specs.Tables.{all_below}
use Rattle.base64.proofs.Tables.{all_below_at}
use Rattle.transfer_codings.specs.declared.base64_text.TheConstants.{SEXTETS}
use Rattle.transfer_codings.specs.Base64.{alphabet, bytes_of, sextet_of, sextets}

-- the table's entry is this sextet, or none
abbrev agrees : Option ℕ → ℕ → Bool
agrees (Some sextet) entry = sextet == entry
agrees None entry = nat_le 64 entry

abbrev table_agrees : ℕ → Bool
table_agrees x = agrees (sextet_of x) (slice_index SEXTETS x)

table_agrees_all : all_below table_agrees 256 ≡ true
unfolding sextet_of
table_agrees_all = refl

agrees-some : (o : Option ℕ) (entry : ℕ) → agrees o entry ≡ true → entry < 64 → o ≡ Some entry
agrees-some (Some sextet) entry h lt = ap Some (eqb-true sextet entry h)
agrees-some None entry h lt = let le = leb-true 64 entry h in absurd (omega arith)

agrees-none : (o : Option ℕ) (entry : ℕ) → IfSome o (λ sextet. sextet < 64) → agrees o entry ≡ true → 64 ≤ entry → o ≡ None
agrees-none (Some sextet) entry small h le = let e = eqb-true sextet entry h in absurd (omega arith)
agrees-none None entry small h le = refl

place-small : (n m : ℕ) → IfSome (cond (nat_lt n m) (Some n) None) (λ place. place < m)
place-small n m = elim (cases_Bool (nat_lt n m)) [
  | inl below ↦ rw below (ltb-true n m below)
  | inr above ↦ rw above tt
]

pub sextet_of-small : (x : ℕ) → IfSome (sextet_of x) (λ sextet. sextet < 64)
unfolding sextet_of
sextet_of-small x = place-small (position_or_len (λ letter. letter == x) alphabet) 64

pub sextet_of-table : (x : ℕ) → x < 256 → slice_index SEXTETS x < 64 → sextet_of x ≡ Some (slice_index SEXTETS x)
sextet_of-table x lt = agrees-some (sextet_of x) (slice_index SEXTETS x) (all_below_at table_agrees 256 x table_agrees_all lt)

pub sextet_of-none : (x : ℕ) → x < 256 → 64 ≤ slice_index SEXTETS x → sextet_of x ≡ None
sextet_of-none x lt = agrees-none (sextet_of x) (slice_index SEXTETS x) (sextet_of-small x) (all_below_at table_agrees 256 x table_agrees_all lt)

-- a text at a character of the alphabet, and at another
pub sextets-some : (text : List ℕ) (i sextet : ℕ) → i < length text → sextet_of (get_or text i 0) ≡ Some sextet → sextets (drop i text) ≡ sextet ∷ sextets (drop (i + 1) text)
sextets-some text i sextet lt e = ap sextets (drop_more text i 0 lt) ∙ ap (λ o. cons_option o (sextets (drop (i + 1) text))) e

pub sextets-none : (text : List ℕ) (i : ℕ) → i < length text → sextet_of (get_or text i 0) ≡ None → sextets (drop i text) ≡ sextets (drop (i + 1) text)
sextets-none text i lt e = ap sextets (drop_more text i 0 lt) ∙ ap (λ o. cons_option o (sextets (drop (i + 1) text))) e

-- the bytes of few sextets, after the bytes before them
pub bytes_of-none : (front text : List ℕ) → sextets text ≡ [] → front ≡ front ++ bytes_of (sextets text)
unfolding bytes_of
bytes_of-none front text e = rw e (sym (append-nil front))

pub bytes_of-one : (front text rest : List ℕ) (a : ℕ) → sextets text ≡ a ∷ sextets rest → sextets rest ≡ []
    → front ≡ front ++ bytes_of (sextets text)
unfolding bytes_of
bytes_of-one front text rest a e last = rw (e, last) (sym (append-nil front))

pub bytes_of-two : (text middle rest : List ℕ) (a b : ℕ) → sextets text ≡ a ∷ sextets middle
    → sextets middle ≡ b ∷ sextets rest → sextets rest ≡ [] → bytes_of (sextets text) ≡ (a * 4 + b / 16) ∷ []
unfolding bytes_of
bytes_of-two text middle rest a b e f last = rw (e, f, last) refl

pub bytes_of-three : (text second third rest : List ℕ) (a b c : ℕ) → sextets text ≡ a ∷ sextets second
    → sextets second ≡ b ∷ sextets third → sextets third ≡ c ∷ sextets rest → length (sextets text) < 4
    → bytes_of (sextets text) ≡ (a * 4 + b / 16) ∷ (b % 16 * 16 + c / 4) ∷ []
unfolding bytes_of
bytes_of-three text second third rest a b c e f g few =
    let all : sextets text ≡ a ∷ b ∷ c ∷ sextets rest = e ∙ ap (λ xs. a ∷ xs) f ∙ ap (λ xs. a ∷ b ∷ xs) g in
    let short = rw all at few in
    let last : sextets rest ≡ [] = nil_from_length (sextets rest) (omega arith) in
    rw (all, last) refl

-- four sextets more
pub bytes_of-four : (written front text rest : List ℕ) (a b c d : ℕ) → sextets text ≡ a ∷ b ∷ c ∷ d ∷ sextets rest
    → written ≡ front ++ (a * 4 + b / 16) ∷ (b % 16 * 16 + c / 4) ∷ (c % 4 * 64 + d) ∷ []
    → written ++ bytes_of (sextets rest) ≡ front ++ bytes_of (sextets text)
unfolding bytes_of
bytes_of-four written front text rest a b c d e w = rw (e, w, append_assoc) refl
