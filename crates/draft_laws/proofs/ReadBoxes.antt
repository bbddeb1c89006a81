-- Boxes that are written in a field are read with their addresses.
use Rattle.std.proofs.Common.{◌≡◌, ◌≤◌, ◌<◌, ℕ, zero, suc, ◌+◌, ◌*◌, ◌/◌, ◌%◌, inl, inr, Bool, true, false, not, List, [], ◌∷◌, ◌++◌, length, take, drop, get_or, replicate, append_assoc, refl, sym, ap, subst, ◌∙◌, arith, Ok, Err}
use Rattle.std.specs.Prelude.{◌&&◌, ◌||◌, ◌==◌, if◌then◌else◌, nat_le, nat_lt, Option, Some, None, Result, IfOk, codes}
use Rattle.std.specs.List.{All, flat_map, join_by, list_all, prefix_len}
use Rattle.std.proofs.lemmas.Bool.{and_parts, cases_Bool, eqb-true, not-true}
use Rattle.std.proofs.lemmas.Bool.Decides.{nat_tests}
use Rattle.std.proofs.lemmas.List.{append-nil, drop_at, length-append, take_all, take_at}
use Rattle.std.proofs.lemmas.List.Elements.{All-cons, All-nil}
use Rattle.std.proofs.lemmas.List.Folds.{length-prefix_len}
use Rattle.base64.specs.Engines.{standard}
use Rattle.base64.specs.GeneralPurpose.{encode_of}
use Rattle.base64.specs.Rfc4648.{encode_group, encode_symbols, padding_len}
use Rattle.mail_addresses.specs.declared.Mailbox.{Mailbox}
use Rattle.mail_addresses.specs.declared.runs.Class.{Class}
use Rattle.mail_addresses.specs.declared.runs.Class.TheVariants as classes
use Rattle.mail_addresses.specs.Runs.{◌>>=◌, begins_with, byte_at, in_class, is_local, is_name, is_run, run_at, skip_spaces, strip_at, take_while_at, trim_end}
use Rattle.mail_addresses.specs.Boxes.{address_at, angle_at, bare_at, box_after, box_at, boxes_of, boxes_within, continue_list, domain_at, is_address, is_domain_part, next_at, prepend, quoted_at, quoted_box_at, spaced_box_at, unquoted_box_at, with_offset}
use Rattle.header_words.specs.Fields.{is_blank}
use Rattle.compose_drafts.specs.Recipients.{addresses}
use Rattle.compose_drafts.specs.Texts.{box_text, encoded_word, encoded_words, escaped, in_angles, is_plain, phrase, pieces, quoted, word_len}
use Rattle.compose_drafts.proofs.AddressLines.{read_then}
use Rattle.compose_drafts.proofs.Unbroken.{all_append, all_get, all_join, all_prefix, all_replicate, all_weaker, both}
use Rattle.compose_drafts.proofs.WordLemmas.{pieces_step}

-- ---- runs

-- whether a run ends before a text
abbrev ends_run : (ℕ → Bool) → List ℕ → Bool
ends_run p [] = true
ends_run p (c ∷ rest) = not (p c)

prefix_whole : (p : ℕ → Bool) (run rest : List ℕ) → list_all p run ≡ true → ends_run p rest ≡ true → prefix_len p (run ++ rest) ≡ length run
prefix_whole p [] [] h e = refl
prefix_whole p [] (c ∷ rest) h e = let stop : p c ≡ false = not-true (p c) e in rw stop refl
prefix_whole p (c ∷ run) rest h e =
    let cut = and_parts (p c) (list_all p run) h in
    let here : p c ≡ true = cut.0 in
    let more : prefix_len p (run ++ rest) ≡ length run = prefix_whole p run rest cut.1 e in
    rw (here, more) (omega arith)

-- a run of a class, within a length
pub record IsRun (class : Class) (most : ℕ) (run : List ℕ) : Type 0 where
  pub all : list_all (in_class class) run ≡ true
  pub some : 1 ≤ length run
  pub short : length run ≤ most

taken_run : (class : Class) (run rest : List ℕ) → list_all (in_class class) run ≡ true → ends_run (in_class class) rest ≡ true → take_while_at class (run ++ rest) ≡ (run, rest)
taken_run class run rest h e =
    let size : prefix_len (in_class class) (run ++ rest) ≡ length run = prefix_whole (in_class class) run rest h e in
    let first : take (length run) (run ++ rest) ≡ run = take_at run rest (length run) refl in
    let second : drop (length run) (run ++ rest) ≡ rest = drop_at run rest (length run) refl in
    rw (size, first, second) refl

run_reads : (class : Class) (most : ℕ) (run rest : List ℕ) → IsRun class most run → ends_run (in_class class) rest ≡ true → run_at class most (run ++ rest) ≡ Ok (run, rest)
run_reads class most run rest is e =
    let size : prefix_len (in_class class) (run ++ rest) ≡ length run = prefix_whole (in_class class) run rest is.all e in
    let least = is.some in
    let bound = is.short in
    let some : (length run == 0) ≡ false = grind (arith, nat_tests) in
    let fits : nat_lt most (length run) ≡ false = grind (arith, nat_tests) in
    let first : take (length run) (run ++ rest) ≡ run = take_at run rest (length run) refl in
    let second : drop (length run) (run ++ rest) ≡ rest = drop_at run rest (length run) refl in
    rw (size, some, fits, first, second) refl

run_is : (class : Class) (most : ℕ) (run : List ℕ) → IsRun class most run → is_run class most run ≡ true
run_is class most run is =
    let size : prefix_len (in_class class) run ≡ length run = subst (λ t. prefix_len (in_class class) t ≡ length run) (append-nil run) (prefix_whole (in_class class) run [] is.all refl) in
    let least = is.some in
    let bound = is.short in
    rw size (grind (arith, nat_tests))

run_found : (class : Class) (most : ℕ) (text : List ℕ) → IfOk (run_at class most text) (λ r. IsRun class most r.0)
run_found class most text = elim (cases_Bool (prefix_len (in_class class) text == 0)) [
  | inl e ↦ rw e tt
  | inr e ↦ elim (cases_Bool (nat_lt most (prefix_len (in_class class) text))) [
    | inl f ↦ rw (e, f) tt
    | inr f ↦
        let size : length (take (prefix_len (in_class class) text) text) ≡ prefix_len (in_class class) text = length-prefix_len (in_class class) text in
        let least : 1 ≤ prefix_len (in_class class) text = grind (arith, nat_tests) in
        let bound : prefix_len (in_class class) text ≤ most = grind (arith, nat_tests) in
        rw (e, f) (record { all = all_prefix (in_class class) text; some = omega arith; short = omega arith })
  ]
]

pub run_from : (class : Class) (most : ℕ) (run : List ℕ) → is_run class most run ≡ true → IsRun class most run
run_from class most run e =
    let n : ℕ = prefix_len (in_class class) run in
    let parts = and_parts (nat_lt 0 n && nat_le n most) (n == length run) e in
    let bounds = and_parts (nat_lt 0 n) (nat_le n most) parts.0 in
    let whole : n ≡ length run = eqb-true n (length run) parts.1 in
    let least = bounds.0 in
    let bound = bounds.1 in
    let some : 1 ≤ n = grind (arith, nat_tests) in
    let short : n ≤ most = grind (arith, nat_tests) in
    record {
      all = subst (λ t. list_all (in_class class) t ≡ true) (ap (λ k. take k run) whole ∙ take_all (length run) run (omega arith)) (all_prefix (in_class class) run);
      some = omega arith;
      short = omega arith;
    }

-- ---- addresses

pub record IsAddress (address : List ℕ) : Type 0 where
  pub local : List ℕ
  pub domain : List ℕ
  pub parts : address ≡ local ++ 64 ∷ domain
  pub is_local_part : IsRun classes.Local 64 local
  pub is_domain : IsRun classes.Domain 255 domain

domain_reads : (local domain rest : List ℕ) → IsRun classes.Domain 255 domain → ends_run (in_class classes.Domain) rest ≡ true → domain_at local (64 ∷ (domain ++ rest)) ≡ Ok (local ++ 64 ∷ domain, rest)
unfolding domain_at
domain_reads local domain rest is e =
    let read : run_at classes.Domain 255 (domain ++ rest) ≡ Ok (domain, rest) = run_reads classes.Domain 255 domain rest is e in
    rw read refl

at_sign_ends : (rest : List ℕ) → ends_run (in_class classes.Local) (64 ∷ rest) ≡ true
unfolding is_local
at_sign_ends rest = refl

address_reads : (address rest : List ℕ) → IsAddress address → ends_run (in_class classes.Domain) rest ≡ true → address_at (address ++ rest) ≡ Ok (address, rest)
unfolding address_at
address_reads address rest a e =
    let whole : address ++ rest ≡ a.local ++ 64 ∷ (a.domain ++ rest) = ap (λ t. t ++ rest) a.parts ∙ append_assoc a.local (64 ∷ a.domain) rest in
    let first : run_at classes.Local 64 (a.local ++ 64 ∷ (a.domain ++ rest)) ≡ Ok (a.local, 64 ∷ (a.domain ++ rest)) = run_reads classes.Local 64 a.local (64 ∷ (a.domain ++ rest)) a.is_local_part (at_sign_ends (a.domain ++ rest)) in
    ap address_at whole ∙ ap (λ r. r >>= (λ local. domain_at local.0 local.1)) first ∙ domain_reads a.local a.domain rest a.is_domain e ∙ ap (λ t. Ok (t, rest)) (sym a.parts)

angle_reads : (name address rest : List ℕ) → IsAddress address → angle_at name (60 ∷ (address ++ 62 ∷ rest)) ≡ Ok (record { name = name; address = address }, rest)
unfolding angle_at
angle_reads name address rest a =
    let read : address_at (address ++ 62 ∷ rest) ≡ Ok (address, 62 ∷ rest) = address_reads address (62 ∷ rest) a refl in
    rw read refl

-- ---- the addresses of boxes that were read

read_any : {A : Type 0} (r : Result A ℕ) → IfOk r (λ _. Unit {0})
read_any (Ok a) = tt
read_any (Err left) = tt

domain_found : (local text : List ℕ) → IsRun classes.Local 64 local → IfOk (domain_at local text) (λ r. IsAddress r.0)
unfolding domain_at
domain_found local text l =
    read_then (λ _. Unit {0}) _ (byte_at 64 text) _ (read_any (byte_at 64 text)) (λ after _. read_then (λ r. IsRun classes.Domain 255 r.0) _ (run_at classes.Domain 255 after) _ (run_found classes.Domain 255 after)
    (λ domain d. record { local = local; domain = domain.0; parts = refl; is_local_part = l; is_domain = d }))

address_found : (text : List ℕ) → IfOk (address_at text) (λ r. IsAddress r.0)
unfolding address_at
address_found text = read_then (λ r. IsRun classes.Local 64 r.0) _ (run_at classes.Local 64 text) _ (run_found classes.Local 64 text) (λ local l. domain_found local.0 local.1 l)

abbrev HasAddress : Mailbox × List ℕ → Type 0
HasAddress box = IsAddress box.0.address

angle_found : (name text : List ℕ) → IfOk (angle_at name text) HasAddress
unfolding angle_at
angle_found name text =
    read_then (λ _. Unit {0}) HasAddress (byte_at 60 text) _ (read_any (byte_at 60 text)) (λ inner _. read_then (λ r. IsAddress r.0) HasAddress (address_at inner) _ (address_found inner)
    (λ address a. read_then (λ _. Unit {0}) HasAddress (byte_at 62 address.1) _ (read_any (byte_at 62 address.1)) (λ after _. a)))

bare_found : (local text : List ℕ) → IfOk (bare_at local text) HasAddress
unfolding bare_at
bare_found local text = elim (cases_Bool (is_run classes.Local 64 local)) [
  | inl e ↦ rw e (read_then (λ r. IsAddress r.0) HasAddress (domain_at local text) _ (domain_found local text (run_from classes.Local 64 local e)) (λ address a. a))
  | inr e ↦ rw e tt
]

unquoted_found : (text : List ℕ) → IfOk (unquoted_box_at text) HasAddress
unfolding unquoted_box_at
unquoted_found text = elim (cases_Bool (begins_with 64 (take_while_at classes.Name text).1)) [
  | inl e ↦ rw e (bare_found (take_while_at classes.Name text).0 (take_while_at classes.Name text).1)
  | inr e ↦ rw e (angle_found (trim_end (take_while_at classes.Name text).0) (take_while_at classes.Name text).1)
]

quoted_found : (text : List ℕ) → IfOk (quoted_box_at text) HasAddress
unfolding quoted_box_at
quoted_found text = read_then (λ _. Unit {0}) HasAddress (quoted_at text) _ (read_any (quoted_at text)) (λ name _. angle_found name.0 (skip_spaces name.1))

after_found : (text : List ℕ) (quoted : Option (List ℕ)) → IfOk (box_after text quoted) HasAddress
after_found text None = unquoted_found text
after_found text (Some quoted) = quoted_found quoted

spaced_found : (text : List ℕ) → IfOk (spaced_box_at text) HasAddress
unfolding spaced_box_at box_at
spaced_found text = read_then HasAddress HasAddress (box_at (skip_spaces text)) _ (after_found (skip_spaces text) (strip_at 34 (skip_spaces text))) (λ box b. b)

abbrev pub HaveAddresses : List Mailbox → Type 0
HaveAddresses [] = Unit {0}
HaveAddresses (box ∷ boxes) = IsAddress box.address × HaveAddresses boxes

continued : (more : List ℕ → Result (List Mailbox) ℕ) → ((text : List ℕ) → IfOk (more text) HaveAddresses) → (box : Mailbox) → IsAddress box.address → (rest : Option (List ℕ)) → IfOk (continue_list box more rest) HaveAddresses
continued more each box b None = (b, tt)
continued more each box b (Some text) = read_then HaveAddresses HaveAddresses (more text) _ (each text) (λ boxes h. (b, h))

within_found : (n : ℕ) (text : List ℕ) → IfOk (boxes_within n text) HaveAddresses
unfolding boxes_within
within_found zero text = tt
within_found (suc n) text =
    read_then HasAddress HaveAddresses (spaced_box_at text) _ (spaced_found text) (λ box b. read_then (λ _. Unit {0}) HaveAddresses (next_at box.1) _ (read_any (next_at box.1)) (λ more _. continued (boxes_within n) (within_found n) box.0 b more))

offset_found : (size : ℕ) (r : Result (List Mailbox) ℕ) → IfOk r HaveAddresses → IfOk (with_offset size r) HaveAddresses
offset_found size (Ok boxes) h = h
offset_found size (Err left) h = tt

pub boxes_found : (text : List ℕ) → IfOk (boxes_of text) HaveAddresses
unfolding boxes_of
boxes_found text = offset_found (length text) (boxes_within (length text) text) (within_found (length text) text)

-- ---- addresses that pass the test

address_is : (address : List ℕ) → IsAddress address → is_address address ≡ true
unfolding is_address
address_is address a =
    let taken : take_while_at classes.Local (a.local ++ 64 ∷ a.domain) ≡ (a.local, 64 ∷ a.domain) = taken_run classes.Local a.local (64 ∷ a.domain) a.is_local_part.all (at_sign_ends a.domain) in
    ap is_address a.parts ∙ ap (λ local. is_domain_part (strip_at 64 local.1) && is_run classes.Local 64 local.0) taken
    ∙ both (is_run classes.Domain 255 a.domain) (is_run classes.Local 64 a.local) (run_is classes.Domain 255 a.domain a.is_domain) (run_is classes.Local 64 a.local a.is_local_part)

pub addresses_are : (boxes : List Mailbox) → HaveAddresses boxes → All (λ address. is_address address ≡ true) (addresses boxes)
addresses_are [] h = All-nil (λ address. is_address address ≡ true)
addresses_are (box ∷ boxes) h = All-cons (λ address. is_address address ≡ true) box.address (addresses boxes) (address_is box.address h.0) (addresses_are boxes h.1)

-- ---- bytes that are apart

apart : (p : ℕ → Bool) (k c : ℕ) → p k ≡ false → p c ≡ true → (c == k) ≡ false
apart p k c n e = elim (cases_Bool (c == k)) [
  | inl f ↦ cc (e, n, ap p (eqb-true c k f))
  | inr f ↦ f
]

name_if : (p : ℕ → Bool) → p 44 ≡ false → p 60 ≡ false → p 62 ≡ false → p 34 ≡ false → p 64 ≡ false → (c : ℕ) → p c ≡ true → is_name c ≡ true
name_if p i j k l m c e =
    let first : (c == 44) ≡ false = apart p 44 c i e in
    let second : (c == 60) ≡ false = apart p 60 c j e in
    let third : (c == 62) ≡ false = apart p 62 c k e in
    let fourth : (c == 34) ≡ false = apart p 34 c l e in
    let fifth : (c == 64) ≡ false = apart p 64 c m e in
    rw (first, second, third, fourth, fifth) refl

local_name : (c : ℕ) → in_class classes.Local c ≡ true → in_class classes.Name c ≡ true
unfolding is_local
local_name c e = name_if (in_class classes.Local) refl refl refl refl refl c e

local_bright : (c : ℕ) → in_class classes.Local c ≡ true → is_blank c ≡ false
unfolding is_local
local_bright c e =
    let space : (c == 32) ≡ false = apart (in_class classes.Local) 32 c refl e in
    let tab : (c == 9) ≡ false = apart (in_class classes.Local) 9 c refl e in
    rw (space, tab) refl

local_unquoted : (c : ℕ) → in_class classes.Local c ≡ true → (c == 34) ≡ false
unfolding is_local
local_unquoted c e = apart (in_class classes.Local) 34 c refl e

-- ---- the first byte of a box

pub record Starts (text : List ℕ) : Type 0 where
  pub first : ℕ
  pub rest : List ℕ
  pub parts : text ≡ first ∷ rest
  pub bright : is_blank first ≡ false

run_starts : (run rest : List ℕ) → list_all (in_class classes.Local) run ≡ true → 1 ≤ length run → Starts (run ++ rest)
run_starts [] rest h some = absurd (omega arith)
run_starts (c ∷ run) rest h some = record { first = c; rest = run ++ rest; parts = refl; bright = local_bright c (and_parts (in_class classes.Local c) (list_all (in_class classes.Local) run) h).0 }

no_quote : (run rest : List ℕ) → list_all (in_class classes.Local) run ≡ true → 1 ≤ length run → strip_at 34 (run ++ rest) ≡ None
no_quote [] rest h some = absurd (omega arith)
no_quote (c ∷ run) rest h some =
    let other : (c == 34) ≡ false = local_unquoted c (and_parts (in_class classes.Local c) (list_all (in_class classes.Local) run) h).0 in
    rw other refl

-- ---- encoded words

symbols_all : (p : ℕ → Bool) (t m : List ℕ) → p 0 ≡ true → list_all p t ≡ true → list_all p (encode_symbols t m) ≡ true
unfolding encode_symbols
symbols_all p t [] z h = refl
symbols_all p t (a ∷ []) z h = both (p (get_or t (a / 4) 0)) (list_all p (get_or t (a % 4 * 16) 0 ∷ [])) (all_get p t (a / 4) 0 h z) (both (p (get_or t (a % 4 * 16) 0)) true (all_get p t (a % 4 * 16) 0 h z) refl)
symbols_all p t (a ∷ b ∷ []) z h =
    both (p (get_or t (a / 4) 0)) (list_all p (get_or t (a % 4 * 16 + b / 16) 0 ∷ get_or t (b % 16 * 4) 0 ∷ [])) (all_get p t (a / 4) 0 h z)
    (both (p (get_or t (a % 4 * 16 + b / 16) 0)) (list_all p (get_or t (b % 16 * 4) 0 ∷ [])) (all_get p t (a % 4 * 16 + b / 16) 0 h z) (both (p (get_or t (b % 16 * 4) 0)) true (all_get p t (b % 16 * 4) 0 h z) refl))
symbols_all p t (a ∷ b ∷ c ∷ rest) z h =
    all_append p (encode_group t a b c) (encode_symbols t rest)
    (both (p (get_or t (a / 4) 0)) (list_all p (get_or t (a % 4 * 16 + b / 16) 0 ∷ get_or t (b % 16 * 4 + c / 64) 0 ∷ get_or t (c % 64) 0 ∷ [])) (all_get p t (a / 4) 0 h z)
    (both (p (get_or t (a % 4 * 16 + b / 16) 0)) (list_all p (get_or t (b % 16 * 4 + c / 64) 0 ∷ get_or t (c % 64) 0 ∷ [])) (all_get p t (a % 4 * 16 + b / 16) 0 h z)
    (both (p (get_or t (b % 16 * 4 + c / 64) 0)) (list_all p (get_or t (c % 64) 0 ∷ [])) (all_get p t (b % 16 * 4 + c / 64) 0 h z) (both (p (get_or t (c % 64) 0)) true (all_get p t (c % 64) 0 h z) refl))))
    (symbols_all p t rest z h)

base64_names : (m : List ℕ) → list_all is_name (encode_of standard m) ≡ true
base64_names m =
    all_append is_name (encode_symbols standard.encode_table m) (replicate (padding_len (length m)) 61) (symbols_all is_name standard.encode_table m refl refl) (all_replicate is_name (padding_len (length m)) 61 refl)

word_names : (piece : List ℕ) → list_all is_name (encoded_word piece) ≡ true
word_names piece = all_append is_name (codes "=?utf-8?B?" ++ encode_of standard piece) (codes "?=") (all_append is_name (codes "=?utf-8?B?") (encode_of standard piece) refl (base64_names piece)) refl

words_names : (text : List ℕ) → list_all is_name (encoded_words text) ≡ true
words_names text = all_join is_name encoded_word (32 ∷ []) word_names refl (pieces text)

record Encoded (text : List ℕ) : Type 0 where
  rest : List ℕ
  parts : text ≡ 61 ∷ rest

words_start : (text : List ℕ) → 1 ≤ length text → Encoded (encoded_words text)
words_start text some =
    let words : List (List ℕ) = take (word_len text) text ∷ pieces (drop (word_len text) text) in
    record { rest = drop 1 (join_by encoded_word (32 ∷ []) words); parts = ap (join_by encoded_word (32 ∷ [])) (pieces_step text some) }

-- ---- one box

-- a text that is read as a box with this address, before a rest
record ReadsBox (text address rest : List ℕ) : Type 0 where
  name : List ℕ
  read : box_at text ≡ Ok (record { name = name; address = address }, rest)

bare_reads : (address rest : List ℕ) → IsAddress address → ends_run (in_class classes.Domain) rest ≡ true → ReadsBox (address ++ rest) address rest
unfolding box_at unquoted_box_at bare_at
bare_reads address rest a e =
    let after : List ℕ = a.domain ++ rest in
    let text : List ℕ = a.local ++ 64 ∷ after in
    let whole : address ++ rest ≡ text = ap (λ t. t ++ rest) a.parts ∙ append_assoc a.local (64 ∷ a.domain) rest in
    let unquoted : strip_at 34 text ≡ None = no_quote a.local (64 ∷ after) a.is_local_part.all a.is_local_part.some in
    let taken : take_while_at classes.Name text ≡ (a.local, 64 ∷ after) = taken_run classes.Name a.local (64 ∷ after) (all_weaker (in_class classes.Local) (in_class classes.Name) local_name a.local a.is_local_part.all) refl in
    let run : is_run classes.Local 64 a.local ≡ true = run_is classes.Local 64 a.local a.is_local_part in
    let domain : domain_at a.local (64 ∷ after) ≡ Ok (a.local ++ 64 ∷ a.domain, rest) = domain_reads a.local a.domain rest a.is_domain e in
    let bare : bare_at a.local (64 ∷ after) ≡ Ok (record { name = []; address = a.local ++ 64 ∷ a.domain }, rest) = rw (run, domain) refl in
    record {
      name = [];
      read = ap box_at whole ∙ ap (box_after text) unquoted ∙ ap (λ name. if begins_with 64 name.1 then bare_at name.0 name.1 else angle_at (trim_end name.0) name.1) taken ∙ bare
          ∙ ap (λ t. Ok (record { name = []; address = t }, rest)) (sym a.parts);
    }

quoted_step : (c : ℕ) (rest : List ℕ) → (c == 34) ≡ false → (c == 92) ≡ false → 0 < length rest → quoted_at (c ∷ rest) ≡ prepend c (quoted_at rest)
unfolding quoted_at
quoted_step c [] q b some = absurd (omega arith)
quoted_step c (d ∷ rest) q b some = rw (q, b) refl

quoted_end : (more : List ℕ) → quoted_at (34 ∷ more) ≡ Ok ([], more)
unfolding quoted_at
quoted_end [] = refl
quoted_end (c ∷ more) = refl

escaped_step : (c d : ℕ) (rest : List ℕ) → c ≡ 92 → quoted_at (c ∷ d ∷ rest) ≡ prepend d (quoted_at rest)
unfolding quoted_at
escaped_step c d rest e = rw e refl

quoted_reads : (name more : List ℕ) → quoted_at (flat_map escaped name ++ 34 ∷ more) ≡ Ok (name, more)
quoted_reads [] more = quoted_end more
quoted_reads (c ∷ name) more =
    let rest : List ℕ = flat_map escaped name ++ 34 ∷ more in
    let after : prepend c (quoted_at rest) ≡ Ok (c ∷ name, more) = ap (prepend c) (quoted_reads name more) in
    elim (cases_Bool (c == 34 || c == 92)) [
      | inl e ↦
          let first : flat_map escaped (c ∷ name) ++ 34 ∷ more ≡ 92 ∷ c ∷ rest = rw e refl in
          ap quoted_at first ∙ escaped_step 92 c rest refl ∙ after
      | inr e ↦
          let first : flat_map escaped (c ∷ name) ++ 34 ∷ more ≡ c ∷ rest = rw e refl in
          let quote : (c == 34) ≡ false = grind (arith, nat_tests) in
          let slash : (c == 92) ≡ false = grind (arith, nat_tests) in
          ap quoted_at first ∙ quoted_step c rest quote slash (omega (arith, length-append {A = ℕ})) ∙ after
    ]

named_reads : (name address rest : List ℕ) → IsAddress address → ReadsBox ((quoted name ++ 32 ∷ in_angles address) ++ rest) address rest
unfolding box_at quoted_box_at
named_reads name address rest a =
    let after : List ℕ = address ++ 62 ∷ rest in
    let text : List ℕ = flat_map escaped name ++ 34 ∷ 32 ∷ 60 ∷ after in
    let escapes : List ℕ = flat_map escaped name in
    let whole : (quoted name ++ 32 ∷ in_angles address) ++ rest ≡ 34 ∷ text =
    ap (λ t. 34 ∷ t) (append_assoc (escapes ++ 34 ∷ []) (32 ∷ in_angles address) rest ∙ ap (λ t. (escapes ++ 34 ∷ []) ++ 32 ∷ 60 ∷ t) (append_assoc address (62 ∷ []) rest) ∙ append_assoc escapes (34 ∷ []) (32 ∷ 60 ∷ after)) in
    record {
      name = name;
      read = ap box_at whole ∙ ap (λ r. r >>= (λ read. angle_at read.0 (skip_spaces read.1))) (quoted_reads name (32 ∷ 60 ∷ after)) ∙ angle_reads name address rest a;
    }

encoded_reads : (name address rest : List ℕ) → 1 ≤ length name → IsAddress address → ReadsBox ((encoded_words name ++ 32 ∷ in_angles address) ++ rest) address rest
unfolding box_at unquoted_box_at
encoded_reads name address rest some a =
    let after : List ℕ = address ++ 62 ∷ rest in
    let words : List ℕ = encoded_words name ++ 32 ∷ [] in
    let text : List ℕ = words ++ 60 ∷ after in
    let whole : (encoded_words name ++ 32 ∷ in_angles address) ++ rest ≡ text = simp append_assoc refl in
    let start = words_start name some in
    let unquoted : strip_at 34 text ≡ None = ap (λ w. strip_at 34 ((w ++ 32 ∷ []) ++ 60 ∷ after)) start.parts in
    let taken : take_while_at classes.Name text ≡ (words, 60 ∷ after) = taken_run classes.Name words (60 ∷ after) (all_append is_name (encoded_words name) (32 ∷ []) (words_names name) refl) refl in
    record {
      name = trim_end words;
      read = ap box_at whole ∙ ap (box_after text) unquoted ∙ ap (λ read. if begins_with 64 read.1 then bare_at read.0 read.1 else angle_at (trim_end read.0) read.1) taken ∙ angle_reads (trim_end words) address rest a;
    }

abbrev pub text_of : Mailbox → List ℕ
text_of box = box_text box.name box.address

phrase_reads : (name address rest : List ℕ) → 1 ≤ length name → IsAddress address → ReadsBox ((phrase name ++ 32 ∷ in_angles address) ++ rest) address rest
phrase_reads name address rest some a = elim (cases_Bool (is_plain name)) [
  | inl e ↦ rw e (named_reads name address rest a)
  | inr e ↦ rw e (encoded_reads name address rest some a)
]

box_reads : (box : Mailbox) (rest : List ℕ) → IsAddress box.address → ends_run (in_class classes.Domain) rest ≡ true → ReadsBox (text_of box ++ rest) box.address rest
unfolding box_text
box_reads box rest a e = elim (cases_Bool (length box.name == 0)) [
  | inl f ↦ rw f (bare_reads box.address rest a e)
  | inr f ↦ let some : 1 ≤ length box.name = grind (arith, nat_tests) in rw f (phrase_reads box.name box.address rest some a)
]

pub box_starts : (box : Mailbox) (rest : List ℕ) → IsAddress box.address → Starts (text_of box ++ rest)
unfolding box_text
box_starts box rest a = elim (cases_Bool (length box.name == 0)) [
  | inl f ↦
      let whole : box.address ++ rest ≡ a.local ++ 64 ∷ (a.domain ++ rest) = ap (λ t. t ++ rest) a.parts ∙ append_assoc a.local (64 ∷ a.domain) rest in
      rw f (subst Starts (sym whole) (run_starts a.local (64 ∷ (a.domain ++ rest)) a.is_local_part.all a.is_local_part.some))
  | inr f ↦
      let some : 1 ≤ length box.name = grind (arith, nat_tests) in
      elim (cases_Bool (is_plain box.name)) [
        | inl g ↦ rw (f, g) (record { first = 34; rest = drop 1 ((quoted box.name ++ 32 ∷ in_angles box.address) ++ rest); parts = refl; bright = refl })
        | inr g ↦
            let start = words_start box.name some in
            rw (f, g) (record { first = 61; rest = (start.rest ++ 32 ∷ in_angles box.address) ++ rest; parts = ap (λ w. (w ++ 32 ∷ in_angles box.address) ++ rest) start.parts; bright = refl })
      ]
]

-- ---- lists of boxes

-- the boxes after the first, each after a comma and a space
abbrev pub more_text : List Mailbox → List ℕ
more_text boxes = flat_map (λ box. 44 ∷ 32 ∷ text_of box) boxes

or_left : (a b : Bool) → (a || b) ≡ false → a ≡ false
or_left true b e = cc e
or_left false b e = refl

skipped_space : (text : List ℕ) → Starts text → skip_spaces (32 ∷ text) ≡ text
skipped_space text s =
    let dark : (s.first == 32) ≡ false = or_left (s.first == 32) (s.first == 9) s.bright in
    let read : skip_spaces (32 ∷ s.first ∷ s.rest) ≡ s.first ∷ s.rest = rw dark refl in
    ap (λ t. skip_spaces (32 ∷ t)) s.parts ∙ read ∙ sym s.parts

record ReadsList (n : ℕ) (text : List ℕ) (boxes : List Mailbox) : Type 0 where
  found : List Mailbox
  read : boxes_within n text ≡ Ok found
  same : addresses found ≡ addresses boxes

list_reads : (n : ℕ) (box : Mailbox) (boxes : List Mailbox) → length boxes < n → IsAddress box.address → HaveAddresses boxes → ReadsList n (32 ∷ (text_of box ++ more_text boxes)) (box ∷ boxes)
unfolding boxes_within spaced_box_at
list_reads zero box boxes small a h = absurd (omega arith)
list_reads (suc n) box [] small a h =
    let text : List ℕ = text_of box ++ [] in
    let one = box_reads box [] a refl in
    let here : Mailbox = record { name = one.name; address = box.address } in
    let skipped : skip_spaces (32 ∷ text) ≡ text = skipped_space text (box_starts box [] a) in
    let spaced : spaced_box_at (32 ∷ text) ≡ Ok (here, []) = rw (skipped, one.read) refl in
    record { found = here ∷ []; read = rw spaced refl; same = refl }
list_reads (suc n) box (next ∷ boxes) small a h =
    let rest : List ℕ = more_text (next ∷ boxes) in
    let text : List ℕ = text_of box ++ rest in
    let one = box_reads box rest a refl in
    let here : Mailbox = record { name = one.name; address = box.address } in
    let skipped : skip_spaces (32 ∷ text) ≡ text = skipped_space text (box_starts box rest a) in
    let spaced : spaced_box_at (32 ∷ text) ≡ Ok (here, rest) = rw (skipped, one.read) refl in
    let more = list_reads n next boxes (omega arith) h.0 h.1 in
    record { found = here ∷ more.found; read = rw (spaced, more.read) refl; same = ap (λ found. box.address ∷ found) more.same }

many : (boxes : List Mailbox) → length boxes ≤ length (more_text boxes)
many [] = omega arith
many (box ∷ boxes) =
    let rest = many boxes in
    let size : length (more_text (box ∷ boxes)) ≡ length (text_of box ++ more_text boxes) + 2 = omega arith in
    omega (arith, length-append (text_of box) (more_text boxes))

-- a field whose value is read as boxes with these addresses
pub record ReadsField (value : List ℕ) (boxes : List Mailbox) : Type 0 where
  pub found : List Mailbox
  pub read : boxes_of value ≡ Ok found
  pub same : addresses found ≡ addresses boxes

pub field_reads : (box : Mailbox) (boxes : List Mailbox) → HaveAddresses (box ∷ boxes) → ReadsField (32 ∷ (text_of box ++ more_text boxes)) (box ∷ boxes)
unfolding boxes_of
field_reads box boxes h =
    let text : List ℕ = 32 ∷ (text_of box ++ more_text boxes) in
    let fewer = many boxes in
    let l = list_reads (length text) box boxes (omega (arith, length-append (text_of box) (more_text boxes))) h.0 h.1 in
    record { found = l.found; read = ap (with_offset (length text)) l.read; same = l.same }
