-- Tokens that are written one after another.
use Rattle.std.proofs.Common.{◌≡◌, ℕ, zero, suc, ◌+◌, ◌<◌, ◌≤◌, true, false, not, ◌&&◌, ◌||◌, if◌then◌else◌, get_or, List, [], ◌∷◌, ◌++◌, length, map, take, drop, refl, sym, ap, subst, ◌∙◌, arith, append_assoc, append-nil, Result, Ok, Err, OnOk}
use Rattle.std.proofs.lemmas.List.{map-append, take_all, take_more, length-append, length-drop, length-take, drop_at, drop-drop}
use Rattle.html_syntax.specs.Token.{Token}
use Rattle.html_syntax.specs.Token.Token.{End}
use Rattle.std.specs.List.{position_or_len}
use Rattle.html_syntax.specs.Tokenizer.{is_among, same}
use Rattle.html_rules.specs.Tables.{Name, is_void, is_message_element}
use Rattle.html_rules.proofs.Facts.{and_true}
use Rattle.page_writer.specs.Page.{outer as rest}
use Rattle.page_writer.specs.Writer.{Page, with_token, with_all_tokens, innermost}
use Rattle.html_wash.specs.Closings.{After, none_closed, close_innermost, Lookup, looked_up, closed_by, blocks, begins_with_element, ended}
use Rattle.html_wash.specs.Wash.{after_end}
use Rattle.html_wash.specs.Elements.{name_of}
use Rattle.html_wash.specs.Seen.{lookup_of}
use Rattle.html_wash.specs.declared.element.Element.{Element}
use Rattle.html_wash.specs.declared.lookup.LookupKind.{LookupKind}
use Rattle.html_wash.proofs.Elements.{is_element}
use Rattle.html_wash.specs.Law.{is_openable, are_openable}
use Rattle.html_wash.specs.Writing.{outside, IsInside, Wrote}

pub with_all_tokens-append : (page : Page) (xs ys : List Token) → with_all_tokens page (xs ++ ys) ≡ with_all_tokens (with_all_tokens page xs) ys
with_all_tokens-append page [] ys = refl
with_all_tokens-append page (x ∷ xs) ys = with_all_tokens-append (with_token page x) xs ys

pub nothing_wrote : (names outer : List Name) (page : Page) → IsInside names page.opened outer → Wrote (none_closed names) outer page page names
nothing_wrote names outer page i = record { page = refl; left = refl; inside = i }

pub then_wrote : (a b : After) (outer : List Name) (old mid new : Page) (names later : List Name) → Wrote a outer old mid names → Wrote b outer mid new later → Wrote (record { opened = b.opened; tokens = a.tokens ++ b.tokens }) outer old new later
then_wrote a b outer old mid new names later w v = record {
  page = v.page ∙ ap (λ (p : Page). with_all_tokens p b.tokens) w.page ∙ sym (with_all_tokens-append old a.tokens b.tokens);
  left = v.left;
  inside = v.inside;
}

-- the elements outside stay the same
pub outside_is : (names opened outer : List Name) → IsInside names opened outer → outside names opened ≡ outer
outside_is names opened outer i = ap (drop (length names)) i.splits ∙ drop_at names outer (length names) refl

pub inside_outside : (names opened outer : List Name) → IsInside names opened outer → IsInside names opened (outside names opened)
inside_outside names opened outer i = subst (λ (o : List Name). IsInside names opened o) (sym (outside_is names opened outer i)) i

-- what was written with the elements outside named otherwise
pub wrote_as : (a : After) (names opened outer : List Name) (old new : Page) (later : List Name) → IsInside names opened outer → Wrote a (outside names opened) old new later → Wrote a outer old new later
wrote_as a names opened outer old new later i w = subst (λ (o : List Name). Wrote a o old new later) (outside_is names opened outer i) w

-- ---- end tags

close_more : (i : ℕ) (start : List Name) → i < length start → (close_innermost (suc i) start).tokens ≡ (close_innermost i start).tokens ++ End (innermost (drop i start)) ∷ []
close_more i [] h = absurd (omega arith)
close_more zero (name ∷ names) h = refl
close_more (suc i) (name ∷ names) h = ap (λ (ts : List Token). End name ∷ ts) (close_more i names (omega arith))

innermost-append : (names outer : List Name) → 0 < length names → innermost (names ++ outer) ≡ innermost names
innermost-append [] outer h = absurd (omega arith)
innermost-append (name ∷ names) outer h = refl

openable_rest : (names : List Name) → are_openable names ≡ true → are_openable (drop 1 names) ≡ true
openable_rest [] h = refl
openable_rest (name ∷ names) h = (and_true (is_openable name) (are_openable names) h).1

rest-append : (names outer : List Name) → 0 < length names → rest (names ++ outer) ≡ drop 1 names ++ outer
rest-append [] outer h = absurd (omega arith)
rest-append (name ∷ names) outer h = refl

pub close_some : (i count : ℕ) (start outer : List Name) (old page : Page) (names : List Name) → i < count → count ≤ length start → Wrote (close_innermost i start) outer old page names → 0 < length names
close_some i count start outer old page names lt le w = let left = w.left in omega (arith, ap length left, length-drop i start)

pub close_step : (i : ℕ) (start outer : List Name) (old page new : Page) (names later : List Name) → 0 < length names → new ≡ with_token page (End (innermost page.opened)) → later ≡ drop 1 names → Wrote (close_innermost i start) outer old page names → Wrote (close_innermost (i + 1) start) outer old new later
close_step i start outer old page new names later some is next w =
    let left = w.left in
    let within : i < length start = omega (arith, ap length left, length-drop i start) in
    let inner : innermost page.opened ≡ innermost (drop i start) = ap innermost w.inside.splits ∙ innermost-append names outer some ∙ ap innermost left in
    let last : Token = End (innermost (drop i start)) in
    let one : i + 1 ≡ suc i = omega arith in
    let tokens : (close_innermost (i + 1) start).tokens ≡ (close_innermost i start).tokens ++ last ∷ [] = ap (λ (k : ℕ). (close_innermost k start).tokens) one ∙ close_more i start within in
    let written : new ≡ with_token page last = is ∙ ap (λ (name : Name). with_token page (End name)) inner in
    record {
      page = written ∙ ap (λ (p : Page). with_token p last) w.page ∙ sym (ap (with_all_tokens old) tokens ∙ with_all_tokens-append old (close_innermost i start).tokens (last ∷ []));
      left = next ∙ ap (drop 1) left ∙ drop-drop 1 i start;
      inside = record {
        openable = ap are_openable next ∙ openable_rest names w.inside.openable;
        splits = ap (λ (p : Page). p.opened) written ∙ ap rest w.inside.splits ∙ rest-append names outer some ∙ ap (λ (ns : List Name). ns ++ outer) (sym next);
        tags = w.inside.tags;
      };
    }

pub close_none : (start outer : List Name) (page : Page) → IsInside start page.opened outer → Wrote (close_innermost 0 start) outer page page start
close_none start outer page i = nothing_wrote start outer page i

-- an answer that is about the same
pub on_ok_map : {T E : Type 0} (r : Result T E) (P Q : Type 0) → (P → Q) → OnOk r P → OnOk r Q
on_ok_map (Ok x) P Q f h = f h
on_ok_map (Err e) P Q f h = tt

pub page_some : (names opened outer : List Name) → IsInside names opened outer → 0 < length names → 0 < length opened
page_some names opened outer i some = omega (arith, ap length i.splits, length-append names outer)

pub wrote_same : (a b : After) (outer : List Name) (old new : Page) (names : List Name) → a ≡ b → Wrote a outer old new names → Wrote b outer old new names
wrote_same a b outer old new names e w = subst (λ (x : After). Wrote x outer old new names) e w

-- ---- lookups

pub looked_up_le : (l : Lookup) (opened : List Name) → looked_up l opened ≤ length opened
unfolding looked_up
looked_up_le l opened = omega (arith, length-take (position_or_len (is_among l.stops) opened) opened)

closed_by_more : (ls : List Lookup) (l : Lookup) (names : List Name) → let a = closed_by ls names in let b = close_innermost (looked_up l a.opened) a.opened in closed_by (ls ++ l ∷ []) names ≡ record { opened = b.opened; tokens = a.tokens ++ b.tokens }
unfolding closed_by
closed_by_more [] l names = let b = close_innermost (looked_up l names) names in ap (λ (ts : List Token). record { opened = b.opened; tokens = ts }) (append-nil b.tokens)
closed_by_more (k ∷ ls) l names =
    let first = close_innermost (looked_up k names) names in
    let a = closed_by ls first.opened in
    let b = close_innermost (looked_up l a.opened) a.opened in
    ap (λ (x : After). record { opened = x.opened; tokens = first.tokens ++ x.tokens }) (closed_by_more ls l first.opened)
    ∙ ap (λ (ts : List Token). record { opened = b.opened; tokens = ts }) (sym (append_assoc first.tokens a.tokens b.tokens))

pub lookups_none : (kinds : List LookupKind) (names outer : List Name) (page : Page) → IsInside names page.opened outer → Wrote (closed_by (map lookup_of (take 0 kinds)) names) outer page page names
unfolding closed_by
lookups_none kinds names outer page i = nothing_wrote names outer page i

pub lookups_step : (kinds : List LookupKind) (i : ℕ) (d : LookupKind) (start names outer : List Name) (old page new : Page) (later : List Name) (count : ℕ) → i < length kinds → count ≡ looked_up (lookup_of (get_or kinds i d)) names → Wrote (closed_by (map lookup_of (take i kinds)) start) outer old page names → Wrote (close_innermost count names) (outside names page.opened) page new later → Wrote (closed_by (map lookup_of (take (i + 1) kinds)) start) outer old new later
lookups_step kinds i d start names outer old page new later count lt counted w v =
    let kind = get_or kinds i d in
    let l = lookup_of kind in
    let a = closed_by (map lookup_of (take i kinds)) start in
    let more : map lookup_of (take (i + 1) kinds) ≡ map lookup_of (take i kinds) ++ l ∷ [] =
    ap (map lookup_of) (take_more kinds i d lt) ∙ map-append lookup_of (take i kinds) (kind ∷ []) in
    let here : close_innermost count names ≡ close_innermost (looked_up l a.opened) a.opened =
    ap (λ (n : ℕ). close_innermost n names) counted ∙ ap (λ (ns : List Name). close_innermost (looked_up l ns) ns) w.left in
    let b = close_innermost (looked_up l a.opened) a.opened in
    let second : Wrote b outer page new later = wrote_same (close_innermost count names) b outer page new later here (wrote_as (close_innermost count names) names page.opened outer page new later w.inside v) in
    wrote_same _ _ outer old new later (sym (ap (λ (ls : List Lookup). closed_by ls start) more ∙ closed_by_more (map lookup_of (take i kinds)) l start)) (then_wrote a b outer old page new names later w second)

pub lookups_done : (kinds : List LookupKind) (i : ℕ) (ls : List Lookup) (start outer : List Name) (old page : Page) (names : List Name) → length kinds ≤ i → map lookup_of kinds ≡ ls → Wrote (closed_by (map lookup_of (take i kinds)) start) outer old page names → Wrote (closed_by ls start) outer old page names
lookups_done kinds i ls start outer old page names le e w =
    wrote_same _ _ outer old page names (ap (λ (ks : List LookupKind). closed_by (map lookup_of ks) start) (take_all i kinds le) ∙ ap (λ (x : List Lookup). closed_by x start) e) w

-- ---- end tags

begins_some : (name : Name) (opened : List Name) → begins_with_element name opened ≡ true → 0 < length opened
begins_some name [] h = absurd cc
begins_some name (inner ∷ names) h = omega arith

pub ended_le : (name : Name) (opened : List Name) → ended name opened ≤ length opened
unfolding ended
ended_le name opened =
    let n = position_or_len (λ element. same element name || blocks name element) opened in
    elim (begins_with_element name (drop n opened)) as (λ b. begins_with_element name (drop n opened) ≡ b → (if b then suc n else 0) ≤ length opened) [
      | true ↦ λ e. omega (arith, length-drop n opened, begins_some name (drop n opened) e)
      | false ↦ λ e. omega arith
    ] refl

pub end_void : (names : List Name) (name : Name) → is_void name ≡ true → none_closed names ≡ after_end names name
unfolding after_end
end_void names name v =
    elim (is_message_element name) as (λ b. none_closed names ≡ (if b && not (is_void name) then close_innermost (ended name names) names else none_closed names)) [
      | true ↦ rw v refl
      | false ↦ refl
    ]

pub end_closes : (names : List Name) (e : Element) → is_void (name_of e) ≡ false → close_innermost (ended (name_of e) names) names ≡ after_end names (name_of e)
unfolding after_end
end_closes names e v = rw (is_element e, v) refl

pub end_unlisted : (names : List Name) (name : Name) → is_message_element name ≡ false → none_closed names ≡ after_end names name
unfolding after_end
end_unlisted names name e = rw e refl

pub counted_le : (count : ℕ) (l : Lookup) (names : List Name) → count ≡ looked_up l names → count ≤ length names
counted_le count l names e = omega (arith, looked_up_le l names)
