-- The place of a message in an allowed page.
use Rattle.std.proofs.Common.{◌≡◌, ℕ, ◌+◌, ◌≤◌, Bool, true, false, not, ◌&&◌, ◌||◌, cond, inl, inr, List, [], ◌∷◌, ◌++◌, codes, refl, sym, ap, subst, ◌∙◌, arith}
use Rattle.std.proofs.lemmas.List.Sums.{sum_by-append}
use Rattle.std.specs.List.{list_all, list_any, count_by}
use Rattle.html_syntax.specs.Token.{Attribute, Token}
use Rattle.html_syntax.specs.Token.Token.{Start, End, Char, Comment, Doctype}
use Rattle.html_syntax.specs.Tokenizer.{same}
use Rattle.html_rules.specs.Tables.{Name, is_element, message_elements, frame_elements, is_message_element, is_listed_attribute, common_attributes, attribute_rows}
use Rattle.html_rules.specs.MessageTokens.{is_message_token, is_message, is_message_attribute, are_links_protected}
use Rattle.html_rules.specs.FrameTokens.{is_frame_token, is_frame, opens_mail, has_class}
use Rattle.html_rules.specs.Allowed.{IsAllowed}
use Rattle.html_rules.proofs.Facts.{and_true, no_of, same-true}
use Rattle.html_rules.proofs.Parts.{all_both, both_true, or_left, or_right}

-- ---- each token is known

known : (images : Bool) (own : List ℕ → Bool) → Token → Bool
known images own t = is_frame_token t || is_message_token images own t

known_frame : (images : Bool) (own : List ℕ → Bool) (ts : List Token) → is_frame ts ≡ true → list_all (known images own) ts ≡ true
unfolding known
known_frame images own [] h = refl
known_frame images own (t ∷ ts) h =
    let both = and_true (is_frame_token t && not (opens_mail t)) (is_frame ts) h in
    both_true (known images own t) (list_all (known images own) ts) (or_left (is_frame_token t) (is_message_token images own t) (and_true (is_frame_token t) (not (opens_mail t)) both.0).0) (known_frame images own ts both.1)

known_message : (images : Bool) (own : List ℕ → Bool) (ts : List Token) → is_message images own ts ≡ true → list_all (known images own) ts ≡ true
unfolding known
known_message images own [] h = refl
known_message images own (t ∷ ts) h =
    let both = and_true (is_message_token images own t) (is_message images own ts) h in
    both_true (known images own t) (list_all (known images own) ts) (or_right (is_frame_token t) (is_message_token images own t) both.0) (known_message images own ts both.1)

end_known : (images : Bool) (own : List ℕ → Bool) → known images own (End (codes "div")) ≡ true
unfolding known is_frame_token is_element message_elements frame_elements
end_known images own = refl

pub allowed_known : (page : List Token) (images : Bool) (own : List ℕ → Bool) → IsAllowed page images own → list_all (λ t. is_frame_token t || is_message_token images own t) page ≡ true
unfolding known
allowed_known page images own (inl h) = known_frame images own page h
allowed_known page images own (inr h) =
    let p = known images own in
    let opens = and_true (is_frame_token h.mail) (opens_mail h.mail) h.opens in
    let closing : list_all p (End (codes "div") ∷ h.after) ≡ true = both_true (p (End (codes "div"))) (list_all p h.after) (end_known images own) (known_frame images own h.after h.after_is_frame) in
    let inside = all_both p h.message (End (codes "div") ∷ h.after) (known_message images own h.message h.is_a_message) closing in
    let from_mail : list_all p (h.mail ∷ h.message ++ (End (codes "div") ∷ h.after)) ≡ true = both_true (p h.mail) (list_all p (h.message ++ (End (codes "div") ∷ h.after))) (or_left (is_frame_token h.mail) (is_message_token images own h.mail) opens.0) inside in
    ap (list_all p) h.equals ∙ all_both p h.before (h.mail ∷ h.message ++ (End (codes "div") ∷ h.after)) (known_frame images own h.before h.before_is_frame) from_mail

-- ---- a message opens no message

class_not_listed : (images : Bool) (own : List ℕ → Bool) (name value : List ℕ) → codes "class" ≡ name → is_message_attribute images own (codes "div") (record { name = name; value = value }) ≡ false
unfolding is_listed_attribute common_attributes attribute_rows
class_not_listed images own name value e =
    subst (λ (n : List ℕ). is_message_attribute images own (codes "div") (record { name = n; value = value }) ≡ false) e refl

no_class : (images : Bool) (own : List ℕ → Bool) (class : List ℕ) (a : Attribute) → is_message_attribute images own (codes "div") a ≡ true → has_class class a ≡ false
no_class images own class a h =
    elim (has_class class a) as (λ b. has_class class a ≡ b → b ≡ false) [
      | true ↦ λ e.
          let named = (and_true (same (codes "class") a.name) _ e).0 in
          let k : true ≡ false = sym h ∙ class_not_listed images own a.name a.value (same-true (codes "class") a.name named) in
          cc
      | false ↦ λ e. refl
    ] refl

no_classes : (images : Bool) (own : List ℕ → Bool) (class : List ℕ) (attributes : List Attribute) → list_all (is_message_attribute images own (codes "div")) attributes ≡ true → list_any (has_class class) attributes ≡ false
no_classes images own class [] h = refl
no_classes images own class (a ∷ rest) h =
    let both = and_true (is_message_attribute images own (codes "div") a) (list_all (is_message_attribute images own (codes "div")) rest) h in
    rw (no_class images own class a both.0) (no_classes images own class rest both.1)

div_opens_none : (images : Bool) (own : List ℕ → Bool) (name : Name) (attributes : List Attribute) → codes "div" ≡ name → list_all (is_message_attribute images own name) attributes ≡ true → list_any (has_class (codes "mail")) attributes ≡ false
div_opens_none images own name attributes e h =
    no_classes images own (codes "mail") attributes (subst (λ (n : List ℕ). list_all (is_message_attribute images own n) attributes ≡ true) (sym e) h)

start_opens_none : (images : Bool) (own : List ℕ → Bool) (name : Name) (attributes : List Attribute) → list_all (is_message_attribute images own name) attributes ≡ true → (same (codes "div") name && list_any (has_class (codes "mail")) attributes) ≡ false
start_opens_none images own name attributes h =
    elim (same (codes "div") name) as (λ b. same (codes "div") name ≡ b → (b && list_any (has_class (codes "mail")) attributes) ≡ false) [
      | true ↦ λ e. div_opens_none images own name attributes (same-true (codes "div") name e) h
      | false ↦ λ e. refl
    ] refl

message_token_opens_none : (images : Bool) (own : List ℕ → Bool) (t : Token) → is_message_token images own t ≡ true → opens_mail t ≡ false
unfolding is_message_token opens_mail
message_token_opens_none images own (Start name attributes) h =
    let most = and_true (is_message_element name && list_all (is_message_attribute images own name) attributes) (are_links_protected attributes) h in
    start_opens_none images own name attributes (and_true (is_message_element name) (list_all (is_message_attribute images own name) attributes) most.0).1
message_token_opens_none images own (End name) h = refl
message_token_opens_none images own (Char c) h = refl
message_token_opens_none images own (Comment text) h = refl
message_token_opens_none images own Doctype h = refl

-- ---- how many open one

none_in_frame : (ts : List Token) → is_frame ts ≡ true → count_by opens_mail ts ≡ 0
none_in_frame [] h = refl
none_in_frame (t ∷ ts) h =
    let both = and_true (is_frame_token t && not (opens_mail t)) (is_frame ts) h in
    rw (no_of (opens_mail t) (and_true (is_frame_token t) (not (opens_mail t)) both.0).1, none_in_frame ts both.1) refl

none_in_message : (images : Bool) (own : List ℕ → Bool) (ts : List Token) → is_message images own ts ≡ true → count_by opens_mail ts ≡ 0
none_in_message images own [] h = refl
none_in_message images own (t ∷ ts) h =
    let both = and_true (is_message_token images own t) (is_message images own ts) h in
    rw (message_token_opens_none images own t both.0, none_in_message images own ts both.1) refl

count-append : (xs ys : List Token) → count_by opens_mail (xs ++ ys) ≡ count_by opens_mail xs + count_by opens_mail ys
count-append xs ys = sum_by-append (λ (t : Token). cond (opens_mail t) 1 0) xs ys

at_most_one : (b : Bool) → 0 + cond b 1 0 ≤ 1
at_most_one true = omega arith
at_most_one false = omega arith

count_one : (t : Token) (ts : List Token) → count_by opens_mail (t ∷ ts) ≤ 1 + count_by opens_mail ts
count_one t ts =
    let e : count_by opens_mail (t ∷ ts) ≡ (0 + cond (opens_mail t) 1 0) + count_by opens_mail ts = count-append (t ∷ []) ts in
    let one = at_most_one (opens_mail t) in
    omega (arith, e, one)

close_opens_none : (ts : List Token) → count_by opens_mail (End (codes "div") ∷ ts) ≡ count_by opens_mail ts
unfolding opens_mail
close_opens_none ts = omega arith

pub one_mail : (page : List Token) (images : Bool) (own : List ℕ → Bool) → IsAllowed page images own → count_by opens_mail page ≤ 1
one_mail page images own (inl h) = let none = none_in_frame page h in omega (arith, none)
one_mail page images own (inr h) =
    let rest = End (codes "div") ∷ h.after in
    let all : count_by opens_mail page ≡ count_by opens_mail h.before + count_by opens_mail (h.mail ∷ h.message ++ rest) = ap (count_by opens_mail) h.equals ∙ count-append h.before (h.mail ∷ h.message ++ rest) in
    let before = none_in_frame h.before h.before_is_frame in
    let mail = count_one h.mail (h.message ++ rest) in
    let inside = count-append h.message rest in
    let message = none_in_message images own h.message h.is_a_message in
    let closing = close_opens_none h.after in
    let after = none_in_frame h.after h.after_is_frame in
    omega (arith, all, before, mail, inside, message, closing, after)
