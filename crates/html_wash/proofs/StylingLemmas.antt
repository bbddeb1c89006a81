-- The rules that the code reads, and what they declare.
use Rattle.std.proofs.Common.{◌≡◌, ℕ, ◌<◌, ◌≤◌, Bool, true, false, nat_lt, if◌then◌else◌, List, [], ◌++◌, codes, chars, encode_utf8_all, String, string_bytes, IsUtf8, Result, Ok, Err, IfOk, OnOk, refl, sym, ap, ◌∙◌, arith}
use Rattle.std.specs.Result.{is_ok}
use Rattle.std.proofs.lemmas.Bool.Decides.{nat_tests}
use Rattle.std.proofs.lemmas.Str.{chars-append, chars-nil, encodes-chars, IsUtf8-string_bytes}
use Rattle.html_syntax.specs.Token.{Attribute}
use Rattle.html_syntax.specs.Tokenizer.{same}
use Rattle.html_rules.specs.Tables.{Name}
use Rattle.html_rules.specs.Values.{is_empty}
use Rattle.style_wash.specs.Characters.{trimmed}
use Rattle.style_rules.specs.Rules.{Rule, rules, with_rules}
use Rattle.style_rules.specs.Cascade.{declared, entries_of, last_of_each}
use Rattle.wash_attributes.specs.FirstValues.{attribute_text}
use Rattle.wash_attributes.proofs.StyleTexts.{empty_chars}
use Rattle.html_wash.specs.Styling.{Styling, Following, with_characters, with_following, is_screen, settled, following_of, taken_limit, declared_for, counted}
use Rattle.html_wash.specs.Styling.Following.{Keeps, Drops, Reads}
use Rattle.html_wash.specs.StylingSteps.{declared_by, is_sheet, IsFor}
use Rattle.html_wash.specs.TextSeen.{following_seen}
use Rattle.html_wash.specs.declared.styling.TextUse.{TextUse}
use Rattle.html_wash.specs.declared.styling.TextUse.TheVariants as use_of

pub if_ok_map : {T E : Type 0} (r : Result T E) (P Q : T → Type 0) → ((x : T) → P x → Q x) → IfOk r P → IfOk r Q
if_ok_map (Ok x) P Q f h = f x h
if_ok_map (Err e) P Q f h = tt

abbrev pub styled : List Rule → ℕ → Following → Styling
styled kept count following = record { rules = kept; count = count; following = following }

-- a text that was pushed
pub pushed : {T E : Type 0} (r : Result T E) (later all before : List ℕ) → later ≡ (if is_ok r then all else before) → OnOk r (later ≡ all)
pushed (Ok x) later all before e = e
pushed (Err x) later all before e = tt

-- ---- the text of a style element

pub settled_read : {Z : Type 0} (kept later : List Rule) (count : ℕ) (u : TextUse) (text : String Z) (bytes : List ℕ) (self : Styling) → u ≡ use_of.Read → bytes ≡ string_bytes text → styled kept count (following_seen u text) ≡ self → later ≡ with_rules kept (rules bytes) → styled later count Keeps ≡ settled self
unfolding settled
settled_read kept later count u text bytes self reads same view is =
    let spelled : bytes ≡ encode_utf8_all (chars (string_bytes text)) = same ∙ sym (encodes-chars (string_bytes text) (IsUtf8-string_bytes text)) in
    ap (λ (rs : List Rule). styled rs count Keeps) (is ∙ ap (λ (b : List ℕ). with_rules kept (rules b)) spelled)
    ∙ ap (λ (v : TextUse). settled (styled kept count (following_seen v text))) (sym reads)
    ∙ ap settled view

following_more : {Z : Type 0} (u : TextUse) (text later : String Z) (more : List ℕ) → string_bytes later ≡ string_bytes text ++ more → following_seen u later ≡ with_characters (following_seen u text) (chars more)
following_more use_of.Keep text later more e = refl
following_more use_of.Drop text later more e = refl
following_more use_of.Read text later more e = ap Reads (ap chars e ∙ chars-append (string_bytes text) more (IsUtf8-string_bytes text))

pub read_more : {Z : Type 0} (kept : List Rule) (count : ℕ) (u : TextUse) (text later : String Z) (more : List ℕ) (self : Styling) → styled kept count (following_seen u text) ≡ self → string_bytes later ≡ string_bytes text ++ more → styled kept count (following_seen u later) ≡ with_following (with_characters self.following (chars more)) self
read_more kept count u text later more self view e =
    ap (styled kept count) (following_more u text later more e) ∙ ap (λ (s : Styling). with_following (with_characters s.following (chars more)) s) view

sheet_reads : (name : Name) (attributes : List Attribute) → is_sheet name attributes ≡ true → following_of name attributes ≡ Reads []
unfolding following_of
sheet_reads name attributes e = rw e refl

other_drops : (name : Name) (attributes : List Attribute) → is_sheet name attributes ≡ false → following_of name attributes ≡ Drops
unfolding following_of
other_drops name attributes e = rw e refl

pub begins_sheet : {Z : Type 0} (kept : List Rule) (count : ℕ) (f : Following) (text : String Z) (self : Styling) (name : Name) (attributes : List Attribute) → is_sheet name attributes ≡ true → string_bytes text ≡ [] → styled kept count f ≡ self → styled kept count (Reads (chars (string_bytes text))) ≡ with_following (following_of name attributes) self
begins_sheet kept count f text self name attributes sheet none view =
    ap (λ (cs : List ℕ). styled kept count (Reads cs)) (ap chars none ∙ chars-nil)
    ∙ ap (styled kept count) (sym (sheet_reads name attributes sheet))
    ∙ ap (with_following (following_of name attributes)) view

pub begins_other : (kept : List Rule) (count : ℕ) (f : Following) (self : Styling) (name : Name) (attributes : List Attribute) → is_sheet name attributes ≡ false → styled kept count f ≡ self → styled kept count Drops ≡ with_following (following_of name attributes) self
begins_other kept count f self name attributes other view = ap (styled kept count) (sym (other_drops name attributes other)) ∙ ap (with_following (following_of name attributes)) view

pub sheet_is : (name : Name) (attributes : List Attribute) (media inner : List ℕ) (b : Bool) → same (codes "style") name ≡ true → IsUtf8 media → chars media ≡ attribute_text (codes "media") attributes → inner ≡ trimmed media → b ≡ is_screen inner → b ≡ is_sheet name attributes
sheet_is name attributes media inner b style utf8 is inside e =
    let spelled : media ≡ encode_utf8_all (attribute_text (codes "media") attributes) = sym (encodes-chars media utf8) ∙ ap encode_utf8_all is in
    e ∙ ap is_screen (inside ∙ ap trimmed spelled) ∙ rw style refl

-- ---- what rules declare

nothing_declared : (name : Name) (classes : List ℕ) → chars (declared [] name classes) ≡ []
unfolding declared entries_of last_of_each
nothing_declared name classes = chars-nil

none_for : (b : Bool) (cs : List ℕ) → cs ≡ [] → (if b then cs else []) ≡ []
none_for true cs e = e
none_for false cs e = refl

pub no_rules : (s : Styling) (name : Name) (attributes : List Attribute) (bytes : List ℕ) → s.rules ≡ [] → bytes ≡ [] → IsFor s name attributes bytes
unfolding declared_for
no_rules s name attributes bytes none e =
    let classes = encode_utf8_all (attribute_text (codes "class") attributes) in
    record {
      is = ap chars e ∙ chars-nil ∙ sym (none_for (nat_lt s.count taken_limit) (chars (declared s.rules name classes)) (ap (λ (rs : List Rule). chars (declared rs name classes)) none ∙ nothing_declared name classes));
      room = λ some. let no : true ≡ false = ap is_empty (sym e) ∙ some in absurd cc;
    }

not_less : (n : ℕ) → taken_limit ≤ n → nat_lt n taken_limit ≡ false
not_less n h = grind (arith, nat_tests)

less : (n : ℕ) → n < taken_limit → nat_lt n taken_limit ≡ true
less n h = grind (arith, nat_tests)

pub no_room : (s : Styling) (name : Name) (attributes : List Attribute) (bytes : List ℕ) → taken_limit ≤ s.count → bytes ≡ [] → IsFor s name attributes bytes
unfolding declared_for
no_room s name attributes bytes full e =
    record {
      is = ap chars e ∙ chars-nil ∙ rw (not_less s.count full) refl;
      room = λ some. let no : true ≡ false = ap is_empty (sym e) ∙ some in absurd cc;
    }

pub some_for : (s : Styling) (name : Name) (attributes : List Attribute) (bytes classes : List ℕ) → s.count < taken_limit → classes ≡ attribute_text (codes "class") attributes → chars bytes ≡ declared_by s.rules name classes → IsFor s name attributes bytes
unfolding declared_for
some_for s name attributes bytes classes room text e =
    record { is = e ∙ ap (declared_by s.rules name) text ∙ rw (less s.count room) refl; room = λ some. room }

pub counted_same : (s : Styling) (bytes style : List ℕ) → IsUtf8 bytes → chars bytes ≡ style → counted bytes s ≡ counted style s
unfolding counted
counted_same s bytes style utf8 e = rw (sym (empty_chars bytes utf8) ∙ ap is_empty e) refl
