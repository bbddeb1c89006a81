-- Texts of lines that end with CR LF, and headers that readers find their fields in.
use Rattle.std.proofs.Common.{◌≡◌, ◌≤◌, ◌<◌, ℕ, suc, ◌+◌, ◌-◌, inl, inr, Bool, true, false, not, cond, List, [], ◌∷◌, ◌++◌, length, take, get_or, map, append_assoc, refl, sym, ap, ◌∙◌, subst, arith}
use Rattle.std.specs.Prelude.{◌&&◌, ◌==◌, nat_lt, Option, Some, None, take_while}
use Rattle.std.specs.List.{flat_map, join_by, list_all, onto_first, prefix_len, slice_split}
use Rattle.std.specs.Str.Lines.{lines, lines_of_parts, strip_carriage_return}
use Rattle.std.proofs.lemmas.Bool.{and_parts, cases_Bool, eqb-true}
use Rattle.std.proofs.lemmas.Bool.Decides.{nat_tests}
use Rattle.std.proofs.lemmas.List.{append-nil, get_or_push, length-append, length_push, map-append, take-append-le, take_at}
use Rattle.std.proofs.lemmas.List.Concat.{flat_map-append}
use Rattle.std.proofs.lemmas.List.Splits.{length-slice_split}
use Rattle.std.proofs.lemmas.List.Sums.{take_while-cons}
use Rattle.header_words.specs.Fields.{begins_field, fields_of, is_colon, is_name_byte, name_of}
use Rattle.header_words.specs.Lines.{is_filled}
use Rattle.compose_drafts.specs.Lines.{IsLines, is_line, is_unbroken}
use Rattle.compose_drafts.specs.Message.{optional}
use Rattle.compose_drafts.specs.Texts.{ended, fold, line_end}
use Rattle.compose_drafts.proofs.Unbroken.{all_append, both}

pub no_lines : IsLines []
no_lines = record { lines = []; are_lines = refl; bytes_are = refl }

pub lines_join : (a b : List ℕ) → IsLines a → IsLines b → IsLines (a ++ b)
lines_join a b x y = record {
  lines = x.lines ++ y.lines;
  are_lines = all_append is_line x.lines y.lines x.are_lines y.are_lines;
  bytes_are = ap (λ t. t ++ b) x.bytes_are ∙ ap (λ t. flat_map ended x.lines ++ t) y.bytes_are ∙ sym (flat_map-append ended x.lines y.lines);
}

pub one_line : (line : List ℕ) → is_line line ≡ true → IsLines (ended line)
one_line line h = record { lines = line ∷ []; are_lines = both (is_line line) true h refl; bytes_are = sym (append-nil (ended line)) }

pub lines_same : (a b : List ℕ) → a ≡ b → IsLines b → IsLines a
lines_same a b e x = subst IsLines (sym e) x

-- ---- the fields that readers find in lines

abbrev pub names_of : List (List ℕ) → List (List ℕ)
names_of lines = map (λ field. field.name) (fields_of lines)

names_begin : (line : List ℕ) (more : List (List ℕ)) → begins_field line ≡ true → names_of (line ∷ more) ≡ name_of line ∷ names_of more
names_begin line more e = rw e refl

names_skip : (line : List ℕ) (more : List (List ℕ)) → begins_field line ≡ false → names_of (line ∷ more) ≡ names_of more
names_skip line more e = rw e refl

pub names_append : (a b : List (List ℕ)) → names_of (a ++ b) ≡ names_of a ++ names_of b
names_append [] b = refl
names_append (line ∷ a) b = elim (cases_Bool (begins_field line)) [
  | inl e ↦ names_begin line (a ++ b) e ∙ ap (λ names. name_of line ∷ names) (names_append a b) ∙ ap (λ names. names ++ names_of b) (sym (names_begin line a e))
  | inr e ↦ names_skip line (a ++ b) e ∙ names_append a b ∙ ap (λ names. names ++ names_of b) (sym (names_skip line a e))
]

and_no : (a b : Bool) → b ≡ false → (a && b) ≡ false
and_no true b e = e
and_no false b e = refl

-- a line that begins with a space begins no field
pub spaced : (text : List ℕ) → begins_field (32 ∷ text) ≡ false
spaced text =
    let size : ℕ = prefix_len (λ b. not (is_colon b)) text in
    let longer : 1 + size ≡ suc size = omega arith in
    let named : list_all is_name_byte (take (1 + size) (32 ∷ text)) ≡ false = rw longer refl in
    and_no (nat_lt (1 + size) (length (32 ∷ text))) (nat_lt 0 (1 + size) && list_all is_name_byte (take (1 + size) (32 ∷ text))) (and_no (nat_lt 0 (1 + size)) (list_all is_name_byte (take (1 + size) (32 ∷ text))) named)

abbrev begins_space : List ℕ → Bool
begins_space [] = false
begins_space (c ∷ text) = c == 32

spaced_names : (lines : List (List ℕ)) → list_all begins_space lines ≡ true → names_of lines ≡ []
spaced_names [] h = refl
spaced_names ([] ∷ more) h = cc h
spaced_names ((c ∷ text) ∷ more) h =
    let parts = and_parts (c == 32) (list_all begins_space more) h in
    names_skip (c ∷ text) more (subst (λ k. begins_field (k ∷ text) ≡ false) (sym (eqb-true c 32 parts.0)) (spaced text)) ∙ spaced_names more parts.1

spaced_filled : (lines : List (List ℕ)) → list_all begins_space lines ≡ true → list_all is_filled lines ≡ true
spaced_filled [] h = refl
spaced_filled ([] ∷ more) h = cc h
spaced_filled ((c ∷ text) ∷ more) h =
    let filled : is_filled (c ∷ text) ≡ true = grind (arith, nat_tests) in
    both (is_filled (c ∷ text)) (list_all is_filled more) filled (spaced_filled more (and_parts (c == 32) (list_all begins_space more) h).1)

-- ---- what a field begins with

front_prefix : (p : ℕ → Bool) (front more : List ℕ) → nat_lt (prefix_len p front) (length front) ≡ true → prefix_len p (front ++ more) ≡ prefix_len p front
front_prefix p [] more h = absurd (grind (arith, nat_tests))
front_prefix p (c ∷ front) more h = elim (cases_Bool (p c)) [
  | inl e ↦
      let shown : nat_lt (1 + prefix_len p front) (suc (length front)) ≡ true = subst (λ b. nat_lt (cond b (1 + prefix_len p front) 0) (suc (length front)) ≡ true) e h in
      let within : nat_lt (prefix_len p front) (length front) ≡ true = grind (arith, nat_tests) in
      rw e (ap (λ n. 1 + n) (front_prefix p front more within))
  | inr e ↦ rw e refl
]

pub record Begins (front more : List ℕ) : Type 0 where
  pub begins : begins_field (front ++ more) ≡ true
  pub named : name_of (front ++ more) ≡ name_of front

pub front_begins : (front more : List ℕ) → begins_field front ≡ true → Begins front more
front_begins front more e =
    let size : ℕ = prefix_len (λ b. not (is_colon b)) front in
    let parts = and_parts (nat_lt size (length front)) (nat_lt 0 size && list_all is_name_byte (take size front)) e in
    let rest = and_parts (nat_lt 0 size) (list_all is_name_byte (take size front)) parts.1 in
    let same : prefix_len (λ b. not (is_colon b)) (front ++ more) ≡ size = front_prefix (λ b. not (is_colon b)) front more parts.0 in
    let within : nat_lt size (length front) ≡ true = parts.0 in
    let sum : length (front ++ more) ≡ length front + length more = length-append front more in
    let longer : nat_lt size (length (front ++ more)) ≡ true = grind (arith, nat_tests) in
    let less : size ≤ length front = grind (arith, nat_tests) in
    let cut : take size (front ++ more) ≡ take size front = take-append-le size front more less in
    record {
      begins = rw (same, cut) (both (nat_lt size (length (front ++ more))) (nat_lt 0 size && list_all is_name_byte (take size front)) longer (both (nat_lt 0 size) (list_all is_name_byte (take size front)) rest.0 rest.1));
      named = ap (λ n. take n (front ++ more)) same ∙ cut;
    }

filled_if : (line : List ℕ) → begins_field line ≡ true → is_filled line ≡ true
filled_if line e =
    let size : ℕ = prefix_len (λ b. not (is_colon b)) line in
    let within : nat_lt size (length line) ≡ true = (and_parts (nat_lt size (length line)) (nat_lt 0 size && list_all is_name_byte (take size line)) e).0 in
    grind (arith, nat_tests)

-- ---- fields that are read as one field each

pub record AreFields (fields : List (List ℕ)) : Type 0 where
  pub lines : List (List ℕ)
  pub bytes_are : flat_map ended fields ≡ flat_map ended lines
  pub are_lines : list_all is_line lines ≡ true
  pub are_filled : list_all is_filled lines ≡ true
  pub names_are : names_of lines ≡ map name_of fields

abbrev pub IsField : List ℕ → Type 0
IsField field = AreFields (field ∷ [])

pub fields_lines : (fields : List (List ℕ)) → AreFields fields → IsLines (flat_map ended fields)
fields_lines fields x = record { lines = x.lines; are_lines = x.are_lines; bytes_are = x.bytes_are }

pub no_fields : AreFields []
no_fields = record { lines = []; bytes_are = refl; are_lines = refl; are_filled = refl; names_are = refl }

pub fields_join : (a b : List (List ℕ)) → AreFields a → AreFields b → AreFields (a ++ b)
fields_join a b x y = record {
  lines = x.lines ++ y.lines;
  bytes_are = flat_map-append ended a b ∙ ap (λ t. t ++ flat_map ended b) x.bytes_are ∙ ap (λ t. flat_map ended x.lines ++ t) y.bytes_are ∙ sym (flat_map-append ended x.lines y.lines);
  are_lines = all_append is_line x.lines y.lines x.are_lines y.are_lines;
  are_filled = all_append is_filled x.lines y.lines x.are_filled y.are_filled;
  names_are = names_append x.lines y.lines ∙ ap (λ names. names ++ names_of y.lines) x.names_are ∙ ap (λ names. map name_of a ++ names) y.names_are ∙ sym (map-append name_of a b);
}

pub field_same : (a b : List ℕ) → a ≡ b → IsField b → IsField a
field_same a b e x = subst IsField (sym e) x

pub line_field : (front more : List ℕ) → begins_field front ≡ true → is_line (front ++ more) ≡ true → IsField (front ++ more)
line_field front more b h =
    let begun = front_begins front more b in
    record {
      lines = (front ++ more) ∷ [];
      bytes_are = refl;
      are_lines = both (is_line (front ++ more)) true h refl;
      are_filled = both (is_filled (front ++ more)) true (filled_if (front ++ more) begun.begins) refl;
      names_are = names_begin (front ++ more) [] begun.begins;
    }

pub optional_field : (name : List ℕ) (value : Option (List ℕ)) → ((v : List ℕ) → value ≡ Some v → IsField (name ++ v)) → AreFields (optional name value)
optional_field name None each = no_fields
optional_field name (Some value) each = each value refl

-- ---- folded fields

-- a text that begins with `first`: a first line, and lines that begin with a space
record IsFolded (text first : List ℕ) : Type 0 where
  rest : List ℕ
  first_line : is_line (first ++ rest) ≡ true
  more : List (List ℕ)
  more_lines : list_all is_line more ≡ true
  more_begin : list_all begins_space more ≡ true
  bytes_are : ended text ≡ ended (first ++ rest) ++ flat_map ended more

-- `next` is a text after a comma and a fold
folded : {X : Type 0} (f next : X → List ℕ) (comma front : List ℕ) → ((x : X) → next x ≡ comma ++ line_end ++ 32 ∷ f x) → is_line front ≡ true → is_line comma ≡ true → (xs : List X) → list_all (λ x. is_line (f x)) xs ≡ true
    → IsFolded (front ++ flat_map next xs) front
folded f next comma front same h k [] each = record {
  rest = [];
  first_line = subst (λ t. is_line t ≡ true) (sym (append-nil front)) h;
  more = [];
  more_lines = refl;
  more_begin = refl;
  bytes_are = sym (append-nil (ended (front ++ [])));
}
folded f next comma front same h k (x ∷ xs) each =
    let parts = and_parts (is_line (f x)) (list_all (λ y. is_line (f y)) xs) each in
    let after : IsFolded ((32 ∷ f x) ++ flat_map next xs) (32 ∷ f x) = folded f next comma (32 ∷ f x) same parts.0 k xs parts.1 in
    let cut : ended (front ++ (next x ++ flat_map next xs)) ≡ ended (front ++ comma) ++ ended ((32 ∷ f x) ++ flat_map next xs) = rw (same x) (simp append_assoc refl) in
    record {
      rest = comma;
      first_line = all_append _ front comma h k;
      more = ((32 ∷ f x) ++ after.rest) ∷ after.more;
      more_lines = both (is_line ((32 ∷ f x) ++ after.rest)) (list_all is_line after.more) after.first_line after.more_lines;
      more_begin = after.more_begin;
      bytes_are = cut ∙ ap (λ t. ended (front ++ comma) ++ t) after.bytes_are;
    }

folded_field : (first more : List ℕ) → begins_field first ≡ true → IsFolded (first ++ more) first → IsField (first ++ more)
folded_field first more b x =
    let begun = front_begins first x.rest b in
    record {
      lines = (first ++ x.rest) ∷ x.more;
      bytes_are = append-nil (ended (first ++ more)) ∙ x.bytes_are;
      are_lines = both (is_line (first ++ x.rest)) (list_all is_line x.more) x.first_line x.more_lines;
      are_filled = both (is_filled (first ++ x.rest)) (list_all is_filled x.more) (filled_if (first ++ x.rest) begun.begins) (spaced_filled x.more x.more_begin);
      names_are = names_begin (first ++ x.rest) x.more begun.begins ∙ ap (λ names. name_of (first ++ x.rest) ∷ names) (spaced_names x.more x.more_begin)
          ∙ ap (λ name. name ∷ []) (begun.named ∙ sym (front_begins first more b).named);
    }

pub joined_field : {X : Type 0} (f : X → List ℕ) (name comma : List ℕ) → begins_field name ≡ true → is_line name ≡ true → is_line comma ≡ true → (xs : List X) → list_all (λ x. is_line (f x)) xs ≡ true → IsField (name ++ join_by f (comma ++ fold) xs)
joined_field f name comma b h k [] each = line_field name [] b (subst (λ t. is_line t ≡ true) (sym (append-nil name)) h)
joined_field f name comma b h k (x ∷ xs) each =
    let parts = and_parts (is_line (f x)) (list_all (λ y. is_line (f y)) xs) each in
    let rest : List ℕ = flat_map (λ y. (comma ++ fold) ++ f y) xs in
    field_same _ ((name ++ f x) ++ rest) (sym (append_assoc name (f x) rest))
    (folded_field (name ++ f x) rest (front_begins name (f x) b).begins (folded f (λ y. (comma ++ fold) ++ f y) comma (name ++ f x) (λ y. simp append_assoc refl) (all_append _ name (f x) h parts.0) k xs parts.1))

-- ---- the header of a message

not_line_feed : (c : ℕ) → is_unbroken c ≡ true → (c == 10) ≡ false
not_line_feed c h = grind (arith, nat_tests)

pub split_ended : (line rest : List ℕ) → is_line line ≡ true → slice_split (λ b. b == 10) (line ++ 13 ∷ 10 ∷ rest) ≡ (line ++ 13 ∷ []) ∷ slice_split (λ b. b == 10) rest
split_ended [] rest h = refl
split_ended (c ∷ line) rest h =
    let cut = and_parts (is_unbroken c) (is_line line) h in
    let other : (c == 10) ≡ false = not_line_feed c cut.0 in
    rw other (ap (onto_first c) (split_ended line rest cut.1))

pub strip_ended : (line : List ℕ) → strip_carriage_return (line ++ 13 ∷ []) ≡ line
strip_ended line =
    let size : length (line ++ 13 ∷ []) - 1 ≡ length line = omega (arith, length_push line 13) in
    let last : get_or (line ++ 13 ∷ []) (length line) 0 ≡ 13 = get_or_push line 13 0 (length line) refl in
    let front : take (length line) (line ++ 13 ∷ []) ≡ line = take_at line (13 ∷ []) (length line) refl in
    rw (size, last) front

parts_more : (part : List ℕ) (parts : List (List ℕ)) → 0 < length parts → lines_of_parts (part ∷ parts) ≡ strip_carriage_return part ∷ lines_of_parts parts
parts_more part [] some = absurd (omega arith)
parts_more part (next ∷ more) some = refl

pub lines_ended : (line rest : List ℕ) → is_line line ≡ true → lines (line ++ 13 ∷ 10 ∷ rest) ≡ line ∷ lines rest
lines_ended line rest h =
    let parts : List (List ℕ) = slice_split (λ b. b == 10) rest in
    ap lines_of_parts (split_ended line rest h) ∙ parts_more (line ++ 13 ∷ []) parts (omega (arith, length-slice_split (λ b. b == 10) rest)) ∙ ap (λ first. first ∷ lines_of_parts parts) (strip_ended line)

pub taken_lines : (found : List (List ℕ)) (rest : List ℕ) → list_all is_line found ≡ true → list_all is_filled found ≡ true → take_while is_filled (lines (flat_map ended found ++ 13 ∷ 10 ∷ rest)) ≡ found
taken_lines [] rest h g = ap (take_while is_filled) (lines_ended [] rest refl)
taken_lines (line ∷ more) rest h g =
    let cut = and_parts (is_line line) (list_all is_line more) h in
    let filled = and_parts (is_filled line) (list_all is_filled more) g in
    let after : List ℕ = flat_map ended more ++ 13 ∷ 10 ∷ rest in
    let first : flat_map ended (line ∷ more) ++ 13 ∷ 10 ∷ rest ≡ line ++ 13 ∷ 10 ∷ after = simp append_assoc refl in
    let kept : take_while is_filled (line ∷ lines after) ≡ line ∷ take_while is_filled (lines after) = take_while-cons is_filled line (lines after) ∙ ap (λ b. cond b (line ∷ take_while is_filled (lines after)) []) filled.0 in
    ap (λ t. take_while is_filled (lines t)) first ∙ ap (take_while is_filled) (lines_ended line after cut.0) ∙ kept ∙ ap (λ ls. line ∷ ls) (taken_lines more rest cut.1 filled.1)
