-- Start tags that are written.
use Rattle.std.proofs.Common.{◌≡◌, ℕ, Bool, true, false, not, ◌||◌, if◌then◌else◌, nat_lt, List, [], ◌∷◌, ◌++◌, length, refl, sym, ap, subst, ◌∙◌}
use Rattle.std.specs.Str.{chars}
use Rattle.html_syntax.specs.Token.{Attribute, Token}
use Rattle.html_syntax.specs.Token.Token.{Start}
use Rattle.html_rules.specs.Tables.{Name, is_void, is_message_element, is_element as is_page_element, is_text_only, message_elements, frame_elements, text_only_elements}
use Rattle.html_rules.specs.Tokens.{replace_nulls}
use Rattle.html_rules.proofs.Facts.{and_true, or_false, among_all}
use Rattle.html_rules.proofs.Parts.{both_true}
use Rattle.page_writer.specs.Page.{takes_tags, are_attributes, are_distinct, MayStart}
use Rattle.page_writer.specs.Writer.{Page, with_token}
use Rattle.wash_attributes.specs.Given.{Given}
use Rattle.wash_attributes.specs.Attributes.{washed_attributes}
use Rattle.html_wash.specs.Closings.{After, closed_by, lookups_of}
use Rattle.html_wash.specs.Wash.{open_limit, open_element, washed_tag, after_start}
use Rattle.html_wash.specs.Law.{is_openable, are_openable}
use Rattle.html_wash.specs.Elements.{name_of}
use Rattle.html_wash.specs.Writing.{with_element, outside, IsInside, Wrote}
use Rattle.html_wash.specs.declared.element.Element.{Element}
use Rattle.html_wash.specs.declared.element.Element.TheVariants as element
use Rattle.html_wash.proofs.Elements.{is_element, of_name}
use Rattle.html_wash.proofs.Writing.{then_wrote, wrote_same, wrote_as}
use Rattle.html_wash.proofs.Distinct.{AreWritable, washed_writable}

-- ---- names

pub name_chars : (e : Element) → chars (name_of e) ≡ name_of e
unfolding chars
name_chars element.A = refl
name_chars _ = refl

page_element : (e : Element) → is_page_element (name_of e) ≡ true
unfolding is_page_element message_elements frame_elements
page_element e = of_name (λ name. is_page_element name) refl e

takes_tags_in : (name : Name) → is_message_element name ≡ true → not (is_text_only name) ≡ true
unfolding is_message_element message_elements is_text_only text_only_elements
takes_tags_in name h = among_all (λ n. not (is_text_only n)) message_elements name refl h

takes : (names outer : List Name) → are_openable names ≡ true → takes_tags outer ≡ true → takes_tags (names ++ outer) ≡ true
takes [] outer h t = t
takes (name ∷ names) outer h t =
    takes_tags_in name (and_true (is_message_element name) (not (is_void name)) (and_true (is_openable name) (are_openable names) h).0).0

-- ---- a tag

openable_with : (e : Element) (names : List Name) (v : Bool) → is_void (name_of e) ≡ v → are_openable names ≡ true → are_openable (if v then names else name_of e ∷ names) ≡ true
openable_with e names true void h = h
openable_with e names false void h = both_true (is_openable (name_of e)) (are_openable names) (both_true (is_message_element (name_of e)) (not (is_void (name_of e))) (is_element e) (rw void refl)) h

with_outer : (v : Bool) (name : Name) (names outer : List Name) → (if v then names ++ outer else name ∷ (names ++ outer)) ≡ (if v then names else name ∷ names) ++ outer
with_outer true name names outer = refl
with_outer false name names outer = refl

full_is : (name : Name) (tag : Token) (a : After) → (is_void name || nat_lt (length a.opened) open_limit) ≡ false → a ≡ open_element name tag a
full_is name tag a h = let both = or_false (is_void name) (nat_lt (length a.opened) open_limit) h in rw (both.0, both.1) refl

open_is : (name : Name) (tag : Token) (a : After) → (is_void name || nat_lt (length a.opened) open_limit) ≡ true → record { opened = (with_element name tag a.opened).opened; tokens = a.tokens ++ tag ∷ [] } ≡ open_element name tag a
open_is name tag a h =
    elim (is_void name) as (λ v. (v || nat_lt (length a.opened) open_limit) ≡ true → record { opened = (if v then a.opened else name ∷ a.opened); tokens = a.tokens ++ tag ∷ [] } ≡ (if v then record { opened = a.opened; tokens = a.tokens ++ tag ∷ [] } else (if nat_lt (length a.opened) open_limit then record { opened = name ∷ a.opened; tokens = a.tokens ++ tag ∷ [] } else a))) [
      | true ↦ λ e. refl
      | false ↦ λ e. rw e refl
    ] h

pub may_start : (e : Element) (bytes : List ℕ) (attributes : List Attribute) (names opened outer : List Name) → bytes ≡ name_of e → IsInside names opened outer → are_attributes attributes ≡ true → are_distinct attributes ≡ true → MayStart opened (chars bytes) attributes
may_start e bytes attributes names opened outer is i named distinct =
    let name : chars bytes ≡ name_of e = ap chars is ∙ name_chars e in
    let element : is_page_element (chars bytes) ≡ true = ap (λ (n : Name). is_page_element n) name ∙ page_element e in
    let tags : takes_tags opened ≡ true = ap takes_tags i.splits ∙ takes names outer i.openable i.tags in
    (element, tags, named, distinct)

pub start_wrote : (e : Element) (bytes : List ℕ) (attributes : List Attribute) (names outer : List Name) (old new : Page) (later : List Name) (v : Bool) → bytes ≡ name_of e → IsInside names old.opened outer → new ≡ with_token old (Start (chars bytes) attributes) → is_void (name_of e) ≡ v → later ≡ (if v then names else name_of e ∷ names) → Wrote (with_element (name_of e) (Start (name_of e) attributes) names) outer old new later
start_wrote e bytes attributes names outer old new later v is i written void next =
    let tag = Start (name_of e) attributes in
    let page : new ≡ with_token old tag = written ∙ ap (λ (n : Name). with_token old (Start n attributes)) (ap chars is ∙ name_chars e) in
    let opened : later ≡ (if is_void (name_of e) then names else name_of e ∷ names) = next ∙ ap (λ (b : Bool). if b then names else name_of e ∷ names) (sym void) in
    record {
      page = page;
      left = opened;
      inside = record {
        openable = ap are_openable next ∙ openable_with e names v void i.openable;
        splits = ap (λ (p : Page). p.opened) page ∙ ap (λ (o : List Name). if is_void (name_of e) then o else name_of e ∷ o) i.splits ∙ with_outer (is_void (name_of e)) (name_of e) names outer ∙ ap (λ (ns : List Name). ns ++ outer) (sym opened);
        tags = i.tags;
      };
    }

pub full_start : (given : Given) (declared : List ℕ) (names : List Name) (name : Name) (attributes : List Attribute) (outer : List Name) (old new : Page) (later : List Name) → (is_void name || nat_lt (length later) open_limit) ≡ false → Wrote (closed_by (lookups_of name) names) outer old new later → Wrote (after_start given declared names name attributes) outer old new later
unfolding after_start
full_start given declared names name attributes outer old new later full w =
    let a = closed_by (lookups_of name) names in
    wrote_same _ _ outer old new later (full_is name (washed_tag given declared name attributes) a (ap (λ (ns : List Name). is_void name || nat_lt (length ns) open_limit) (sym w.left) ∙ full)) w

pub open_start : (given : Given) (declared : List ℕ) (names : List Name) (e : Element) (attributes kept : List Attribute) (outer : List Name) (old mid new : Page) (opened later : List Name) → (is_void (name_of e) || nat_lt (length opened) open_limit) ≡ true → kept ≡ washed_attributes given declared (name_of e) attributes → Wrote (closed_by (lookups_of (name_of e)) names) outer old mid opened → Wrote (with_element (name_of e) (Start (name_of e) (replace_nulls kept)) opened) (outside opened mid.opened) mid new later → Wrote (after_start given declared names (name_of e) attributes) outer old new later
unfolding after_start
open_start given declared names e attributes kept outer old mid new opened later room is w v =
    let name = name_of e in
    let a = closed_by (lookups_of name) names in
    let tag = washed_tag given declared name attributes in
    let here : with_element name (Start name (replace_nulls kept)) opened ≡ with_element name tag a.opened =
    ap (λ (ks : List Attribute). with_element name (Start name (replace_nulls ks)) opened) is ∙ ap (with_element name tag) w.left in
    let second : Wrote (with_element name tag a.opened) outer mid new later = wrote_same _ _ outer mid new later here (wrote_as _ opened mid.opened outer mid new later w.inside v) in
    wrote_same _ _ outer old new later (open_is name tag a (ap (λ (ns : List Name). is_void name || nat_lt (length ns) open_limit) (sym w.left) ∙ room)) (then_wrote a (with_element name tag a.opened) outer old mid new opened later w second)

pub room_is : (name : Name) (count : ℕ) (names : List Name) (b c : Bool) → count ≡ length names → b ≡ (is_void name || nat_lt count open_limit) → b ≡ c → (is_void name || nat_lt (length names) open_limit) ≡ c
room_is name count names b c len is e = ap (λ (n : ℕ). is_void name || nat_lt n open_limit) (sym len) ∙ sym is ∙ e

pub kept_is : (given : Given) (declared : List ℕ) (bytes name : Name) (attributes kept : List Attribute) → bytes ≡ name → kept ≡ washed_attributes given declared bytes attributes → kept ≡ washed_attributes given declared name attributes
kept_is given declared bytes name attributes kept is e = e ∙ ap (λ (n : Name). washed_attributes given declared n attributes) is

pub kept_writable : (given : Given) (declared : List ℕ) (name : Name) (attributes kept : List Attribute) → kept ≡ washed_attributes given declared name attributes → AreWritable kept
kept_writable given declared name attributes kept e = subst AreWritable (sym e) (washed_writable given declared name attributes)
