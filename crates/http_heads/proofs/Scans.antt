-- The places of heads: a whole head ends at its end, and bytes that end in a target are seen to.
use Rattle.std.proofs.Common.{◌≡◌, ℕ, zero, suc, ◌+◌, ◌<◌, ◌≤◌, Bool, true, false, List, [], ◌∷◌, ◌++◌, length, refl, sym, ap, ◌∙◌, arith, append_assoc, ltb}
use Rattle.std.specs.Prelude.{fold, All, slice_index, if◌then◌else◌, ◌==◌, ◌||◌}
use Rattle.std.specs.List.{flat_map}
use Rattle.std.proofs.lemmas.Bool.{eqb-true}
use Rattle.std.proofs.lemmas.List.Elements.{All-head, All-tail, All-nil}
use Rattle.std.proofs.lemmas.List.Sums.{fold-append}
use Rattle.httparse.specs.Grammar.{is_token_byte, is_uri_byte, is_value_byte, AllPass, IsToken, LineEnd, crlf, lf, print_end, print_blank, Field, IsField, print_field, print_section, print_version, print_request, EndsInTarget, HasNoRequest, IsRequestHead, NeverHasRequest, ReadsRequest, RequestHead}
use Rattle.http_heads.specs.Heads.{IsNotHttp}
use Rattle.http_heads.specs.declared.places.Place.{Place}
use Rattle.http_heads.specs.declared.places.Place.TheVariants.{Start, StartReturn, Method, TargetStart, Target, Version, VersionEnd, LineReturn, FieldStart, LastReturn, Name, Value, Whole, Dead}
use Rattle.http_heads.specs.Places.{at_line_end, expect, in_run, is_in_target, place_of, step, version_text}

-- ---- the parts of a head, read from their places

blank_stays : (ends : List LineEnd) → fold step Start (print_blank ends) ≡ Start
unfolding is_token_byte
blank_stays [] = refl
blank_stays (crlf ∷ ends) = blank_stays ends
blank_stays (lf ∷ ends) = blank_stays ends

method_stays : (method : List ℕ) → AllPass is_token_byte method → fold step Method method ≡ Method
method_stays [] all = refl
method_stays (b ∷ method) all =
    rw (All-head (λ v. is_token_byte v ≡ true) b method all) (method_stays method (All-tail (λ v. is_token_byte v ≡ true) b method all))

method_begins : (method : List ℕ) → IsToken method → fold step Start method ≡ Method
method_begins [] token = absurd (omega (arith, token.0))
method_begins (b ∷ method) token =
    rw (All-head (λ v. is_token_byte v ≡ true) b method token.1) (method_stays method (All-tail (λ v. is_token_byte v ≡ true) b method token.1))

target_stays : (target : List ℕ) → AllPass is_uri_byte target → fold step Target target ≡ Target
target_stays [] all = refl
target_stays (b ∷ target) all =
    rw (All-head (λ v. is_uri_byte v ≡ true) b target all) (target_stays target (All-tail (λ v. is_uri_byte v ≡ true) b target all))

target_begins : (target : List ℕ) → 0 < length target → AllPass is_uri_byte target → fold step TargetStart target ≡ Target
target_begins [] some all = absurd (omega arith)
target_begins (b ∷ target) some all =
    rw (All-head (λ v. is_uri_byte v ≡ true) b target all) (target_stays target (All-tail (λ v. is_uri_byte v ≡ true) b target all))

-- a target that is cut short
target_open : (target : List ℕ) → AllPass is_uri_byte target → is_in_target (fold step TargetStart target) ≡ true
target_open [] all = refl
target_open (b ∷ target) all = rw (target_begins (b ∷ target) (omega arith) all) refl

version_reads : (minor : ℕ) → minor ≤ 1 → fold step (Version 0) (print_version minor) ≡ VersionEnd
version_reads zero low = refl
version_reads (suc zero) low = refl
version_reads (suc (suc minor)) low = absurd (omega arith)

line_ends : (end : LineEnd) → fold step VersionEnd (print_end end) ≡ FieldStart
line_ends crlf = refl
line_ends lf = refl

name_stays : (name : List ℕ) → AllPass is_token_byte name → fold step Name name ≡ Name
name_stays [] all = refl
name_stays (b ∷ name) all =
    rw (All-head (λ v. is_token_byte v ≡ true) b name all) (name_stays name (All-tail (λ v. is_token_byte v ≡ true) b name all))

name_begins : (name : List ℕ) → IsToken name → fold step FieldStart name ≡ Name
name_begins [] token = absurd (omega (arith, token.0))
name_begins (b ∷ name) token =
    rw (All-head (λ v. is_token_byte v ≡ true) b name token.1) (name_stays name (All-tail (λ v. is_token_byte v ≡ true) b name token.1))

value_stays : (value : List ℕ) → AllPass is_value_byte value → fold step Value value ≡ Value
value_stays [] all = refl
value_stays (b ∷ value) all =
    rw (All-head (λ v. is_value_byte v ≡ true) b value all) (value_stays value (All-tail (λ v. is_value_byte v ≡ true) b value all))

value_ends : (end : LineEnd) → fold step Value (print_end end) ≡ FieldStart
value_ends crlf = refl
value_ends lf = refl

head_ends : (last : LineEnd) → fold step FieldStart (print_end last) ≡ Whole
unfolding is_token_byte
head_ends crlf = refl
head_ends lf = refl

colon_read : fold step Name (58 ∷ []) ≡ Value
unfolding is_token_byte
colon_read = refl

field_reads : (f : Field) → IsField f → fold step FieldStart (print_field f) ≡ FieldStart
field_reads f is =
    let name = name_begins f.name is.name in
    let value = value_stays f.raw is.raw in
    let split : print_field f ≡ f.name ++ ((58 ∷ []) ++ (f.raw ++ print_end f.end)) = simp append_assoc refl in
    rw (split, fold-append, name, fold-append, colon_read, fold-append, value) (value_ends f.end)

fields_read : (fields : List Field) → All IsField fields → fold step FieldStart (flat_map print_field fields) ≡ FieldStart
fields_read [] all = refl
fields_read (f ∷ fields) all =
    rw (fold-append, field_reads f (All-head IsField f fields all)) (fields_read fields (All-tail IsField f fields all))

section_reads : (fields : List Field) (last : LineEnd) → All IsField fields → fold step FieldStart (print_section fields last) ≡ Whole
section_reads fields last all = rw (fold-append, fields_read fields all) (head_ends last)

space_to_target : fold step Method (32 ∷ []) ≡ TargetStart
unfolding is_token_byte
space_to_target = refl

space_to_version : fold step Target (32 ∷ []) ≡ Version 0
space_to_version = refl

head_parts : (blank method target version end section : List ℕ)
    → blank ++ method ++ 32 ∷ target ++ 32 ∷ version ++ end ++ section ≡ blank ++ (method ++ ((32 ∷ []) ++ (target ++ ((32 ∷ []) ++ (version ++ (end ++ section))))))
head_parts blank method target version end section = simp append_assoc refl

pub head_reads : (h : RequestHead) → IsRequestHead h → fold step Start (print_request h) ≡ Whole
unfolding print_request
head_reads h is =
    ap (fold step Start) (head_parts (print_blank h.blank) h.method h.target (print_version h.minor) (print_end h.line_end) (print_section h.fields h.last))
    ∙ rw (
      fold-append,
      blank_stays h.blank,
      fold-append,
      method_begins h.method is.method,
      fold-append,
      space_to_target,
      fold-append,
      target_begins h.target is.target.0 is.target.1,
      fold-append,
      space_to_version,
      fold-append,
      version_reads h.minor is.minor,
      fold-append,
      line_ends h.line_end,
    ) (section_reads h.fields h.last is.fields)

-- ---- places that stay

whole_stays : (rest : List ℕ) → fold step Whole rest ≡ Whole
whole_stays [] = refl
whole_stays (b ∷ rest) = whole_stays rest

dead_stays : (rest : List ℕ) → fold step Dead rest ≡ Dead
dead_stays [] = refl
dead_stays (b ∷ rest) = dead_stays rest

-- ---- what a place tells

pub whole_at_head : (bytes : List ℕ) (h : RequestHead) (rest : List ℕ) → ReadsRequest bytes h rest → place_of bytes ≡ Whole
whole_at_head bytes h rest reads = rw (reads.1, fold-append, head_reads h reads.0) (whole_stays rest)

-- before the end of a head there is none
pub no_head_before : (bytes : List ℕ) → (place_of bytes ≡ Whole → ⊥) → HasNoRequest bytes
no_head_before bytes not h rest reads = not (whole_at_head bytes h rest reads)

-- after a byte that no head has there is never one
pub never_after_dead : (bytes : List ℕ) → place_of bytes ≡ Dead → NeverHasRequest bytes
never_after_dead bytes dead more h rest reads =
    let whole : place_of (bytes ++ more) ≡ Whole = whole_at_head (bytes ++ more) h rest reads in
    let here : place_of (bytes ++ more) ≡ Dead = rw (fold-append, dead) (dead_stays more) in
    let both : Whole ≡ Dead = sym whole ∙ here in absurd cc

pub in_target : (bytes : List ℕ) → EndsInTarget bytes → is_in_target (place_of bytes) ≡ true
in_target bytes (blank, method, target, token, all, is) =
    let split : print_blank blank ++ method ++ 32 ∷ target ≡ print_blank blank ++ (method ++ ((32 ∷ []) ++ target)) = simp append_assoc refl in
    rw (is, split, fold-append, blank_stays blank, fold-append, method_begins method token, fold-append, space_to_target) (target_open target all)

-- ---- bytes whose place is in a target

is_past : Place → Bool
is_past Start = false
is_past StartReturn = false
is_past Method = false
is_past TargetStart = false
is_past Target = false
is_past (Version at) = true
is_past VersionEnd = true
is_past LineReturn = true
is_past FieldStart = true
is_past LastReturn = true
is_past Name = true
is_past Value = true
is_past Whole = true
is_past Dead = true

past_if : (test : Bool) (place other : Place) → is_past place ≡ true → is_past other ≡ true → is_past (if test then place else other) ≡ true
past_if true place other p o = p
past_if false place other p o = o

past_line_end : (b : ℕ) → is_past (at_line_end b) ≡ true
unfolding is_past
past_line_end b = past_if (b == 10) FieldStart (if b == 13 then LineReturn else Dead) refl (past_if (b == 13) LineReturn Dead refl refl)

past_step : (place : Place) (b : ℕ) → is_past place ≡ true → is_past (step place b) ≡ true
unfolding is_past
past_step Start b p = absurd cc
past_step StartReturn b p = absurd cc
past_step Method b p = absurd cc
past_step TargetStart b p = absurd cc
past_step Target b p = absurd cc
past_step (Version at) b p =
    past_if (ltb at 7) (expect b (slice_index version_text at) (Version (at + 1))) (if b == 48 || b == 49 then VersionEnd else Dead)
    (past_if (b == slice_index version_text at) (Version (at + 1)) Dead refl refl) (past_if (b == 48 || b == 49) VersionEnd Dead refl refl)
past_step VersionEnd b p = past_line_end b
past_step LineReturn b p = past_if (b == 10) FieldStart Dead refl refl
past_step FieldStart b p = past_if (is_token_byte b) Name (if b == 13 then LastReturn else (if b == 10 then Whole else Dead)) refl (past_if (b == 13) LastReturn (if b == 10 then Whole else Dead) refl (past_if (b == 10) Whole Dead refl refl))
past_step LastReturn b p = past_if (b == 10) Whole Dead refl refl
past_step Name b p = past_if (is_token_byte b) Name (expect b 58 Value) refl (past_if (b == 58) Value Dead refl refl)
past_step Value b p = past_if (is_value_byte b) Value (at_line_end b) refl (past_line_end b)
past_step Whole b p = refl
past_step Dead b p = refl

not_past_target : (place : Place) → is_past place ≡ true → is_in_target place ≡ true → ⊥
unfolding is_past
not_past_target Start p t = cc
not_past_target StartReturn p t = cc
not_past_target Method p t = cc
not_past_target TargetStart p t = cc
not_past_target Target p t = cc
not_past_target (Version at) p t = cc
not_past_target VersionEnd p t = cc
not_past_target LineReturn p t = cc
not_past_target FieldStart p t = cc
not_past_target LastReturn p t = cc
not_past_target Name p t = cc
not_past_target Value p t = cc
not_past_target Whole p t = cc
not_past_target Dead p t = cc

-- what is past a target doesn't come back to it
never_back : (bytes : List ℕ) (place : Place) → is_past place ≡ true → is_in_target (fold step place bytes) ≡ true → ⊥
never_back [] place p t = not_past_target place p t
never_back (b ∷ bytes) place p t = never_back bytes (step place b) (past_step place b p) t

-- the rest of bytes that end in a target, from each place before its end
RestOf : Place → List ℕ → Type 0
RestOf Start bytes = EndsInTarget bytes
RestOf StartReturn bytes = (rest : List ℕ) × (bytes ≡ 10 ∷ rest) × EndsInTarget rest
RestOf Method bytes = (method : List ℕ) × (target : List ℕ) × AllPass is_token_byte method × AllPass is_uri_byte target × (bytes ≡ method ++ 32 ∷ target)
RestOf TargetStart bytes = AllPass is_uri_byte bytes
RestOf Target bytes = AllPass is_uri_byte bytes
RestOf (Version at) bytes = ⊥
RestOf VersionEnd bytes = ⊥
RestOf LineReturn bytes = ⊥
RestOf FieldStart bytes = ⊥
RestOf LastReturn bytes = ⊥
RestOf Name bytes = ⊥
RestOf Value bytes = ⊥
RestOf Whole bytes = ⊥
RestOf Dead bytes = ⊥

all_cons : (p : ℕ → Bool) (b : ℕ) (bytes : List ℕ) → p b ≡ true → AllPass p bytes → AllPass p (b ∷ bytes)
all_cons p b bytes here all zero d h = here
all_cons p b bytes here all (suc k) d h = all k d (omega arith)

token_cons : (b : ℕ) (method : List ℕ) → is_token_byte b ≡ true → AllPass is_token_byte method → IsToken (b ∷ method)
token_cons b method here all = (omega arith, all_cons is_token_byte b method here all)

same_byte : (b c : ℕ) → (b == c) ≡ true → b ≡ c
same_byte b c e = eqb-true b c e

method_more : (b : ℕ) (bytes : List ℕ) → is_token_byte b ≡ true → RestOf Method bytes → RestOf Method (b ∷ bytes)
unfolding RestOf
method_more b bytes here (method, target, token, all, is) = (b ∷ method, target, all_cons is_token_byte b method here token, all, ap (λ (l : List ℕ). b ∷ l) is)

method_first : (b : ℕ) (bytes : List ℕ) → is_token_byte b ≡ true → RestOf Method bytes → EndsInTarget (b ∷ bytes)
unfolding RestOf
method_first b bytes here (method, target, token, all, is) = ([], b ∷ method, target, token_cons b method here token, all, ap (λ (l : List ℕ). b ∷ l) is)

after_return : (b : ℕ) (bytes : List ℕ) → b ≡ 13 → RestOf StartReturn bytes → EndsInTarget (b ∷ bytes)
unfolding RestOf
after_return b bytes same (rest, is, (blank, method, target, token, all, e)) =
    (crlf ∷ blank, method, target, token, all, ap (λ (c : ℕ). c ∷ bytes) same ∙ ap (λ (l : List ℕ). 13 ∷ l) (is ∙ ap (λ (l : List ℕ). 10 ∷ l) e))

after_feed : (b : ℕ) (bytes : List ℕ) → b ≡ 10 → EndsInTarget bytes → EndsInTarget (b ∷ bytes)
after_feed b bytes same (blank, method, target, token, all, e) =
    (lf ∷ blank, method, target, token, all, ap (λ (c : ℕ). c ∷ bytes) same ∙ ap (λ (l : List ℕ). 10 ∷ l) e)

rest_of : (bytes : List ℕ) (place : Place) → is_in_target (fold step place bytes) ≡ true → RestOf place bytes
unfolding RestOf is_past
rest_of bytes (Version at) t = never_back bytes (Version at) refl t
rest_of bytes VersionEnd t = never_back bytes VersionEnd refl t
rest_of bytes LineReturn t = never_back bytes LineReturn refl t
rest_of bytes FieldStart t = never_back bytes FieldStart refl t
rest_of bytes LastReturn t = never_back bytes LastReturn refl t
rest_of bytes Name t = never_back bytes Name refl t
rest_of bytes Value t = never_back bytes Value refl t
rest_of bytes Whole t = never_back bytes Whole refl t
rest_of bytes Dead t = never_back bytes Dead refl t
rest_of [] Start t = absurd cc
rest_of [] StartReturn t = absurd cc
rest_of [] Method t = absurd cc
rest_of [] TargetStart t = All-nil _
rest_of [] Target t = All-nil _
rest_of (b ∷ bytes) Start t =
    elim (is_token_byte b) as (λ v. is_token_byte b ≡ v → is_in_target (fold step (if v then Method else (if b == 13 then StartReturn else (if b == 10 then Start else Dead))) bytes) ≡ true → EndsInTarget (b ∷ bytes)) [
      | true ↦ λ here h. method_first b bytes here (rest_of bytes Method h)
      | false ↦ λ _ h.
          elim (b == 13) as (λ v. (b == 13) ≡ v → is_in_target (fold step (if v then StartReturn else (if b == 10 then Start else Dead)) bytes) ≡ true → EndsInTarget (b ∷ bytes)) [
            | true ↦ λ same g. after_return b bytes (same_byte b 13 same) (rest_of bytes StartReturn g)
            | false ↦ λ _ g.
                elim (b == 10) as (λ v. (b == 10) ≡ v → is_in_target (fold step (if v then Start else Dead) bytes) ≡ true → EndsInTarget (b ∷ bytes)) [
                  | true ↦ λ same f. after_feed b bytes (same_byte b 10 same) (rest_of bytes Start f)
                  | false ↦ λ _ f. absurd (never_back bytes Dead refl f)
                ] refl g
          ] refl h
    ] refl t
rest_of (b ∷ bytes) StartReturn t =
    elim (b == 10) as (λ v. (b == 10) ≡ v → is_in_target (fold step (if v then Start else Dead) bytes) ≡ true → RestOf StartReturn (b ∷ bytes)) [
      | true ↦ λ same h. (bytes, ap (λ (c : ℕ). c ∷ bytes) (same_byte b 10 same), rest_of bytes Start h)
      | false ↦ λ _ h. absurd (never_back bytes Dead refl h)
    ] refl t
rest_of (b ∷ bytes) Method t =
    elim (is_token_byte b) as (λ v. is_token_byte b ≡ v → is_in_target (fold step (in_run v Method b 32 TargetStart) bytes) ≡ true → RestOf Method (b ∷ bytes)) [
      | true ↦ λ here h. method_more b bytes here (rest_of bytes Method h)
      | false ↦ λ _ h.
          elim (b == 32) as (λ v. (b == 32) ≡ v → is_in_target (fold step (if v then TargetStart else Dead) bytes) ≡ true → RestOf Method (b ∷ bytes)) [
            | true ↦ λ same g. ([], bytes, All-nil _, rest_of bytes TargetStart g, ap (λ (c : ℕ). c ∷ bytes) (same_byte b 32 same))
            | false ↦ λ _ g. absurd (never_back bytes Dead refl g)
          ] refl h
    ] refl t
rest_of (b ∷ bytes) TargetStart t =
    elim (is_uri_byte b) as (λ v. is_uri_byte b ≡ v → is_in_target (fold step (if v then Target else Dead) bytes) ≡ true → AllPass is_uri_byte (b ∷ bytes)) [
      | true ↦ λ here h. all_cons is_uri_byte b bytes here (rest_of bytes Target h)
      | false ↦ λ _ h. absurd (never_back bytes Dead refl h)
    ] refl t
rest_of (b ∷ bytes) Target t =
    elim (is_uri_byte b) as (λ v. is_uri_byte b ≡ v → is_in_target (fold step (in_run v Target b 32 (Version 0)) bytes) ≡ true → AllPass is_uri_byte (b ∷ bytes)) [
      | true ↦ λ here h. all_cons is_uri_byte b bytes here (rest_of bytes Target h)
      | false ↦ λ _ h. absurd (never_back bytes (expect b 32 (Version 0)) (past_if (b == 32) (Version 0) Dead refl refl) h)
    ] refl t

-- bytes whose place is in a target end there
pub seen_target : (bytes : List ℕ) → is_in_target (place_of bytes) ≡ true → EndsInTarget bytes
unfolding RestOf
seen_target bytes here = rest_of bytes Start here

-- a dead place is in no target
pub dead_is_not_http : (bytes : List ℕ) → place_of bytes ≡ Dead → IsNotHttp bytes
dead_is_not_http bytes dead = (never_after_dead bytes dead, λ ends. let here = in_target bytes ends in let not : is_in_target (place_of bytes) ≡ false = rw dead refl in absurd cc)

-- elsewhere but at the end of a head there is none
pub not_whole : (bytes : List ℕ) (place : Place) → place ≡ place_of bytes → (place ≡ Whole → ⊥) → HasNoRequest bytes
not_whole bytes place is not = no_head_before bytes (λ whole. not (is ∙ whole))

pub nothing_heard : HasNoRequest []
nothing_heard = no_head_before [] (λ whole. absurd cc)
