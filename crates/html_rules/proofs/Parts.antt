-- The parts of an allowed page, and what it loads.
use Rattle.std.proofs.Common.{◌≡◌, ℕ, Bool, true, false, not, ◌&&◌, ◌||◌, eqb, cond, inl, inr, List, [], ◌∷◌, ◌++◌, codes, refl, sym, ap, subst, ◌∙◌}
use Rattle.std.proofs.lemmas.List.Folds.{list_all-append}
use Rattle.std.proofs.lemmas.Grind.{flat_map-append}
use Rattle.std.specs.List.{list_all, AllByRecursion}
use Rattle.html_syntax.specs.Token.{Attribute, Token}
use Rattle.html_syntax.specs.Token.Token.{Start, End, Char, Comment, Doctype}
use Rattle.html_syntax.specs.Tokenizer.{same, replace_null}
use Rattle.html_rules.specs.Tables.{Name, is_message_element, message_elements, is_frame_attribute_name, frame_attributes, is_listed_attribute, kind_of, value_kind_rows}
use Rattle.html_rules.specs.Values.{is_source, is_value_of_attribute, is_value_of}
use Rattle.html_rules.specs.Tokens.{text_tokens}
use Rattle.html_rules.specs.MessageTokens.{is_message_token, is_message, is_message_attribute, are_links_protected}
use Rattle.html_rules.specs.FrameTokens.{is_frame_token, is_frame_attribute, is_frame_value, is_frame, opens_mail, style_sheet}
use Rattle.html_rules.specs.Allowed.{HasMail, IsAllowed, is_loading_attribute, addresses_loaded_by, loads, may_load}
use Rattle.html_rules.proofs.Facts.{and_true, same-true, among_all}

-- ---- both, of each

pub both_true : (a b : Bool) → a ≡ true → b ≡ true → (a && b) ≡ true
both_true true b e h = h
both_true false b e h = absurd cc

pub all_both : (p : Token → Bool) (xs ys : List Token) → list_all p xs ≡ true → list_all p ys ≡ true → list_all p (xs ++ ys) ≡ true
all_both p xs ys g h = list_all-append p xs ys ∙ both_true (list_all p xs) (list_all p ys) g h

-- ---- a frame

pub is_frame-append : (xs ys : List Token) → is_frame xs ≡ true → is_frame ys ≡ true → is_frame (xs ++ ys) ≡ true
is_frame-append xs ys g h = all_both (λ t. is_frame_token t && not (opens_mail t)) xs ys g h

pub is_frame-text : (cs : List ℕ) → is_frame (text_tokens cs) ≡ true
unfolding is_frame_token opens_mail
is_frame-text [] = refl
is_frame-text (c ∷ cs) = is_frame-text cs

-- ---- a message

pub is_message-append : (images : Bool) (own : List ℕ → Bool) (xs ys : List Token) → is_message images own xs ≡ true → is_message images own ys ≡ true → is_message images own (xs ++ ys) ≡ true
is_message-append images own xs ys g h = all_both (is_message_token images own) xs ys g h

not_nul : (c : ℕ) → not (eqb (replace_null c) 0) ≡ true
not_nul c = elim (eqb c 0) as (λ b. eqb c 0 ≡ b → not (eqb (cond b 0xFFFD c) 0) ≡ true) [ true ↦ λ e. refl | false ↦ λ e. rw e refl ] refl

pub is_message-text : (images : Bool) (own : List ℕ → Bool) (cs : List ℕ) → is_message images own (text_tokens cs) ≡ true
unfolding is_message_token
is_message-text images own [] = refl
is_message-text images own (c ∷ cs) = both_true (not (eqb (replace_null c) 0)) (is_message images own (text_tokens cs)) (not_nul c) (is_message-text images own cs)

-- ---- what is loaded

pub loads-append : (xs ys : List Token) → loads (xs ++ ys) ≡ loads xs ++ loads ys
unfolding loads
loads-append xs ys = flat_map-append addresses_loaded_by xs ys

pub loads-text : (cs : List ℕ) → loads (text_tokens cs) ≡ []
unfolding loads
loads-text [] = refl
loads-text (c ∷ cs) = loads-text cs

-- a text loads nothing, whatever follows it
pub loads-past_text : (cs : List ℕ) (ts : List Token) → loads (text_tokens cs ++ ts) ≡ loads ts
loads-past_text cs ts = loads-append (text_tokens cs) ts ∙ ap (λ (xs : List (List ℕ)). xs ++ loads ts) (loads-text cs)

-- addresses that an allowed page may load
abbrev pub AreLoadable : Bool → (List ℕ → Bool) → List (List ℕ) → Type 0
AreLoadable images own addresses = AllByRecursion (λ a. may_load images own a ≡ true) addresses

loadable-append : (images : Bool) (own : List ℕ → Bool) (xs ys : List (List ℕ)) → AreLoadable images own xs → AreLoadable images own ys → AreLoadable images own (xs ++ ys)
loadable-append images own [] ys g h = h
loadable-append images own (x ∷ xs) ys g h = (g.0, loadable-append images own xs ys g.1 h)

loadable-if : (images : Bool) (own : List ℕ → Bool) (loading : Bool) (address : List ℕ) → (loading ≡ true → may_load images own address ≡ true) → AreLoadable images own (cond loading (address ∷ []) [])
loadable-if images own true address h = (h refl, tt)
loadable-if images own false address h = tt

pub or_right : (a b : Bool) → b ≡ true → (a || b) ≡ true
or_right true b e = refl
or_right false b e = e

pub or_left : (a b : Bool) → a ≡ true → (a || b) ≡ true
or_left true b e = refl
or_left false b e = absurd cc

either_true : (a b : Bool) (P : Type 0) → (a || b) ≡ true → (a ≡ true → P) → (b ≡ true → P) → P
either_true true b P e f g = f refl
either_true false b P e f g = g e

and_or_false : (x y : Bool) → ((x && y) || false) ≡ true → y ≡ true
and_or_false true true e = refl
and_or_false true false e = absurd cc
and_or_false false y e = absurd cc

false_is_true : (b : Bool) → not b ≡ true → b ≡ true → ⊥
false_is_true true h e = absurd cc
false_is_true false h e = absurd cc

-- a frame loads its style sheet alone
no_source : (name : Name) → is_frame_attribute_name name ≡ true → not (same (codes "src") name) ≡ true
unfolding is_frame_attribute_name frame_attributes
no_source name h = among_all (λ n. not (same (codes "src") n)) frame_attributes name refl h

pair_loads : (images : Bool) (own : List ℕ → Bool) (element : Name) (a : Attribute) → is_frame_attribute element a ≡ true → is_loading_attribute element a ≡ true → may_load images own a.value ≡ true
pair_loads images own element a h loading =
    let both = and_true (is_frame_attribute_name a.name) (is_frame_value element a) h in
    either_true (same (codes "src") a.name) (same (codes "link") element && same (codes "href") a.name) _ loading
    (λ e. absurd (false_is_true (same (codes "src") a.name) (no_source a.name both.0) e))
    (λ e.
    let is = and_true (same (codes "link") element) (same (codes "href") a.name) e in
    let sheet : same style_sheet a.value ≡ true = rw (is.1, is.0) at both.1 in
    or_left (same style_sheet a.value) (is_source images own a.value) sheet)

pairs_load : (images : Bool) (own : List ℕ → Bool) (element : Name) (attributes : List Attribute) → list_all (is_frame_attribute element) attributes ≡ true → AreLoadable images own (addresses_loaded_by (Start element attributes))
pairs_load images own element [] h = tt
pairs_load images own element (a ∷ rest) h =
    let both = and_true (is_frame_attribute element a) (list_all (is_frame_attribute element) rest) h in
    loadable-append images own (cond (is_loading_attribute element a) (a.value ∷ []) []) (addresses_loaded_by (Start element rest))
    (loadable-if images own (is_loading_attribute element a) a.value (pair_loads images own element a both.0))
    (pairs_load images own element rest both.1)

frame_token_loads : (images : Bool) (own : List ℕ → Bool) (t : Token) → is_frame_token t ≡ true → AreLoadable images own (addresses_loaded_by t)
unfolding is_frame_token
frame_token_loads images own (Start name attributes) h = pairs_load images own name attributes (and_true _ (list_all (is_frame_attribute name) attributes) h).1
frame_token_loads images own (End name) h = tt
frame_token_loads images own (Char c) h = tt
frame_token_loads images own (Comment text) h = tt
frame_token_loads images own Doctype h = tt

frame_loads : (images : Bool) (own : List ℕ → Bool) (ts : List Token) → is_frame ts ≡ true → AreLoadable images own (loads ts)
unfolding loads
frame_loads images own [] h = tt
frame_loads images own (t ∷ ts) h =
    let both = and_true (is_frame_token t && not (opens_mail t)) (is_frame ts) h in
    loadable-append images own (addresses_loaded_by t) (loads ts) (frame_token_loads images own t (and_true (is_frame_token t) (not (opens_mail t)) both.0).0) (frame_loads images own ts both.1)

-- a message loads its pictures alone
source_fits : (images : Bool) (own : List ℕ → Bool) (element : Name) (name value : List ℕ) → codes "src" ≡ name → is_message_attribute images own element (record { name = name; value = value }) ≡ true → is_source images own value ≡ true
unfolding is_value_of_attribute kind_of value_kind_rows is_value_of
source_fits images own element name value e h =
    let at_source = subst (λ (n : List ℕ). is_message_attribute images own element (record { name = n; value = value }) ≡ true) (sym e) h in
    and_or_false (is_listed_attribute element (codes "src")) (is_source images own value) at_source

no_link : (name : Name) → is_message_element name ≡ true → not (same (codes "link") name) ≡ true
unfolding is_message_element message_elements
no_link name h = among_all (λ n. not (same (codes "link") n)) message_elements name refl h

attribute_loads : (images : Bool) (own : List ℕ → Bool) (element : Name) (a : Attribute) → is_message_element element ≡ true → is_message_attribute images own element a ≡ true → is_loading_attribute element a ≡ true → may_load images own a.value ≡ true
attribute_loads images own element a listed h loading =
    either_true (same (codes "src") a.name) (same (codes "link") element && same (codes "href") a.name) _ loading
    (λ e. or_right (same style_sheet a.value) (is_source images own a.value) (source_fits images own element a.name a.value (same-true (codes "src") a.name e) h))
    (λ e. absurd (false_is_true (same (codes "link") element) (no_link element listed) (and_true (same (codes "link") element) (same (codes "href") a.name) e).0))

attributes_load : (images : Bool) (own : List ℕ → Bool) (element : Name) (attributes : List Attribute) → is_message_element element ≡ true → list_all (is_message_attribute images own element) attributes ≡ true → AreLoadable images own (addresses_loaded_by (Start element attributes))
attributes_load images own element [] listed h = tt
attributes_load images own element (a ∷ rest) listed h =
    let both = and_true (is_message_attribute images own element a) (list_all (is_message_attribute images own element) rest) h in
    loadable-append images own (cond (is_loading_attribute element a) (a.value ∷ []) []) (addresses_loaded_by (Start element rest))
    (loadable-if images own (is_loading_attribute element a) a.value (attribute_loads images own element a listed both.0))
    (attributes_load images own element rest listed both.1)

message_token_loads : (images : Bool) (own : List ℕ → Bool) (t : Token) → is_message_token images own t ≡ true → AreLoadable images own (addresses_loaded_by t)
unfolding is_message_token
message_token_loads images own (Start name attributes) h =
    let most = and_true (is_message_element name && list_all (is_message_attribute images own name) attributes) (are_links_protected attributes) h in
    let both = and_true (is_message_element name) (list_all (is_message_attribute images own name) attributes) most.0 in
    attributes_load images own name attributes both.0 both.1
message_token_loads images own (End name) h = tt
message_token_loads images own (Char c) h = tt
message_token_loads images own (Comment text) h = tt
message_token_loads images own Doctype h = tt

message_loads : (images : Bool) (own : List ℕ → Bool) (ts : List Token) → is_message images own ts ≡ true → AreLoadable images own (loads ts)
unfolding loads
message_loads images own [] h = tt
message_loads images own (t ∷ ts) h =
    let both = and_true (is_message_token images own t) (is_message images own ts) h in
    loadable-append images own (addresses_loaded_by t) (loads ts) (message_token_loads images own t both.0) (message_loads images own ts both.1)

mail_loads : (page : List Token) (images : Bool) (own : List ℕ → Bool) → HasMail page images own → AreLoadable images own (loads page)
unfolding loads
mail_loads page images own h =
    let opens = and_true (is_frame_token h.mail) (opens_mail h.mail) h.opens in
    let inside = loadable-append images own (loads h.message) (loads h.after) (message_loads images own h.message h.is_a_message) (frame_loads images own h.after h.after_is_frame) in
    let joined : loads h.message ++ loads h.after ≡ loads (h.message ++ (End (codes "div") ∷ h.after)) = sym (loads-append h.message (End (codes "div") ∷ h.after)) in
    let from_mail = loadable-append images own (addresses_loaded_by h.mail) (loads (h.message ++ (End (codes "div") ∷ h.after))) (frame_token_loads images own h.mail opens.0) (subst (AreLoadable images own) joined inside) in
    let all = loadable-append images own (loads h.before) (loads (h.mail ∷ h.message ++ (End (codes "div") ∷ h.after))) (frame_loads images own h.before h.before_is_frame) from_mail in
    subst (AreLoadable images own) (sym (ap loads h.equals ∙ loads-append h.before (h.mail ∷ h.message ++ (End (codes "div") ∷ h.after)))) all

-- an allowed page loads its style sheet, pictures of the site's own, and pictures of the web where they were asked for
pub allowed_loads : (page : List Token) (images : Bool) (own : List ℕ → Bool) → IsAllowed page images own → AreLoadable images own (loads page)
allowed_loads page images own (inl h) = frame_loads images own page h
allowed_loads page images own (inr h) = mail_loads page images own h
