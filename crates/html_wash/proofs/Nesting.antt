-- What tags close and open keeps tokens nested, and has no characters.
use Rattle.std.proofs.Common.{◌≡◌, ℕ, zero, suc, Bool, true, false, not, ◌&&◌, if◌then◌else◌, nat_lt, List, [], ◌∷◌, ◌++◌, length, drop, refl, ap, ◌∙◌, append_assoc}
use Rattle.html_syntax.specs.Token.{Attribute, Token}
use Rattle.html_syntax.specs.Token.Token.{Start, End, Char, Comment, Doctype}
use Rattle.html_rules.specs.Tables.{Name, is_message_element, is_void}
use Rattle.html_rules.specs.Nesting.{open_elements_after}
use Rattle.html_rules.specs.MessageTokens.{is_message_token, is_message}
use Rattle.html_rules.proofs.Facts.{and_true, same-refl}
use Rattle.html_rules.proofs.Parts.{both_true, is_message-append}
use Rattle.html_wash.specs.Closings.{After, none_closed, close_innermost, Lookup, looked_up, closed_by, ended}
use Rattle.html_wash.specs.Wash.{open_limit, open_element, after_end}
use Rattle.html_wash.specs.Law.{is_openable, are_openable, characters}

-- tokens may follow when the elements `names` are open, and leave others open
pub record Follows (images : Bool) (own : List ℕ → Bool) (names : List Name) (a : After) : Type 0 where
  pub openable : are_openable a.opened ≡ true
  pub nested : (ts : List Token) → open_elements_after names (a.tokens ++ ts) ≡ open_elements_after a.opened ts
  pub message : is_message images own a.tokens ≡ true

-- ---- one after another

pub none_follows : (images : Bool) (own : List ℕ → Bool) (names : List Name) → are_openable names ≡ true → Follows images own names (none_closed names)
none_follows images own names h = record { openable = h; nested = λ ts. refl; message = refl }

pub then_follows : (images : Bool) (own : List ℕ → Bool) (names : List Name) (a b : After) → Follows images own names a → Follows images own a.opened b → Follows images own names (record { opened = b.opened; tokens = a.tokens ++ b.tokens })
then_follows images own names a b f g = record {
  openable = g.openable;
  nested = λ ts. ap (open_elements_after names) (append_assoc a.tokens b.tokens ts) ∙ f.nested (b.tokens ++ ts) ∙ g.nested ts;
  message = is_message-append images own a.tokens b.tokens f.message g.message;
}

pub characters-append : (xs ys : List Token) → characters (xs ++ ys) ≡ characters xs ++ characters ys
unfolding characters
characters-append [] ys = refl
characters-append (Char c ∷ xs) ys = ap (λ (cs : List ℕ). c ∷ cs) (characters-append xs ys)
characters-append (Start name attributes ∷ xs) ys = characters-append xs ys
characters-append (End name ∷ xs) ys = characters-append xs ys
characters-append (Comment text ∷ xs) ys = characters-append xs ys
characters-append (Doctype ∷ xs) ys = characters-append xs ys

-- ---- end tags

pub openable_drop : (n : ℕ) (names : List Name) → are_openable names ≡ true → are_openable (drop n names) ≡ true
openable_drop zero names h = h
openable_drop (suc n) [] h = refl
openable_drop (suc n) (name ∷ names) h = openable_drop n names (and_true (is_openable name) (are_openable names) h).1

closes_nested : (n : ℕ) (names : List Name) (ts : List Token) → open_elements_after names ((close_innermost n names).tokens ++ ts) ≡ open_elements_after (drop n names) ts
unfolding open_elements_after
closes_nested zero names ts = refl
closes_nested (suc n) [] ts = refl
closes_nested (suc n) (name ∷ names) ts = rw (same-refl name) (closes_nested n names ts)

closes_message : (images : Bool) (own : List ℕ → Bool) (n : ℕ) (names : List Name) → are_openable names ≡ true → is_message images own (close_innermost n names).tokens ≡ true
unfolding is_message_token
closes_message images own zero names h = refl
closes_message images own (suc n) [] h = refl
closes_message images own (suc n) (name ∷ names) h =
    let both = and_true (is_openable name) (are_openable names) h in
    both_true (is_openable name) _ both.0 (closes_message images own n names both.1)

pub close_follows : (images : Bool) (own : List ℕ → Bool) (n : ℕ) (names : List Name) → are_openable names ≡ true → Follows images own names (close_innermost n names)
close_follows images own n names h = record { openable = openable_drop n names h; nested = closes_nested n names; message = closes_message images own n names h }

pub close_characters : (n : ℕ) (names : List Name) → characters (close_innermost n names).tokens ≡ []
unfolding characters
close_characters zero names = refl
close_characters (suc n) [] = refl
close_characters (suc n) (name ∷ names) = close_characters n names

pub after_end_follows : (images : Bool) (own : List ℕ → Bool) (names : List Name) (name : Name) → are_openable names ≡ true → Follows images own names (after_end names name)
unfolding after_end
after_end_follows images own names name h =
    elim (is_message_element name && not (is_void name)) as (λ b. Follows images own names (if b then close_innermost (ended name names) names else none_closed names)) [
      | true ↦ close_follows images own (ended name names) names h
      | false ↦ none_follows images own names h
    ]

pub after_end_characters : (names : List Name) (name : Name) → characters (after_end names name).tokens ≡ []
unfolding after_end characters
after_end_characters names name =
    elim (is_message_element name && not (is_void name)) as (λ b. characters (if b then close_innermost (ended name names) names else none_closed names).tokens ≡ []) [
      | true ↦ close_characters (ended name names) names
      | false ↦ refl
    ]

-- ---- lookups

pub closed_by_follows : (images : Bool) (own : List ℕ → Bool) (ls : List Lookup) (names : List Name) → are_openable names ≡ true → Follows images own names (closed_by ls names)
unfolding closed_by
closed_by_follows images own [] names h = none_follows images own names h
closed_by_follows images own (l ∷ ls) names h =
    let first = close_innermost (looked_up l names) names in
    let f = close_follows images own (looked_up l names) names h in
    then_follows images own names first (closed_by ls first.opened) f (closed_by_follows images own ls first.opened f.openable)

pub closed_by_characters : (ls : List Lookup) (names : List Name) → characters (closed_by ls names).tokens ≡ []
unfolding closed_by characters
closed_by_characters [] names = refl
closed_by_characters (l ∷ ls) names =
    let first = close_innermost (looked_up l names) names in
    characters-append first.tokens (closed_by ls first.opened).tokens
    ∙ rw (close_characters (looked_up l names) names) (closed_by_characters ls first.opened)

-- ---- a start tag

void_follows : (images : Bool) (own : List ℕ → Bool) (opened : List Name) (name : Name) (attributes : List Attribute) → are_openable opened ≡ true → is_void name ≡ true → is_message_token images own (Start name attributes) ≡ true → Follows images own opened (record { opened = opened; tokens = Start name attributes ∷ [] })
unfolding open_elements_after
void_follows images own opened name attributes h void tag = record { openable = h; nested = λ ts. rw void refl; message = both_true _ true tag refl }

opened_follows : (images : Bool) (own : List ℕ → Bool) (opened : List Name) (name : Name) (attributes : List Attribute) → are_openable opened ≡ true → is_void name ≡ false → is_message_element name ≡ true → is_message_token images own (Start name attributes) ≡ true → Follows images own opened (record { opened = name ∷ opened; tokens = Start name attributes ∷ [] })
unfolding open_elements_after
opened_follows images own opened name attributes h void element tag = record {
  openable = both_true (is_openable name) (are_openable opened) (both_true (is_message_element name) (not (is_void name)) element (rw void refl)) h;
  nested = λ ts. rw void refl;
  message = both_true _ true tag refl;
}

pub open_follows : (images : Bool) (own : List ℕ → Bool) (names : List Name) (name : Name) (attributes : List Attribute) (a : After) → Follows images own names a → is_message_element name ≡ true → is_message_token images own (Start name attributes) ≡ true → Follows images own names (open_element name (Start name attributes) a)
open_follows images own names name attributes a f element tag =
    elim (is_void name) as (λ v. is_void name ≡ v → Follows images own names (if v then record { opened = a.opened; tokens = a.tokens ++ Start name attributes ∷ [] } else (if nat_lt (length a.opened) open_limit then record { opened = name ∷ a.opened; tokens = a.tokens ++ Start name attributes ∷ [] } else a))) [
      | true ↦ λ e. then_follows images own names a (record { opened = a.opened; tokens = Start name attributes ∷ [] }) f (void_follows images own a.opened name attributes f.openable e tag)
      | false ↦ λ e.
          elim (nat_lt (length a.opened) open_limit) as (λ b. Follows images own names (if b then record { opened = name ∷ a.opened; tokens = a.tokens ++ Start name attributes ∷ [] } else a)) [
            | true ↦ then_follows images own names a (record { opened = name ∷ a.opened; tokens = Start name attributes ∷ [] }) f (opened_follows images own a.opened name attributes f.openable e element tag)
            | false ↦ f
          ]
    ] refl

tag_characters : (name : Name) (attributes : List Attribute) (tokens : List Token) → characters tokens ≡ [] → characters (tokens ++ Start name attributes ∷ []) ≡ []
unfolding characters
tag_characters name attributes tokens h = characters-append tokens (Start name attributes ∷ []) ∙ rw h refl

pub open_characters : (name : Name) (attributes : List Attribute) (a : After) → characters a.tokens ≡ [] → characters (open_element name (Start name attributes) a).tokens ≡ []
open_characters name attributes a h =
    elim (is_void name) as (λ v. characters (if v then record { opened = a.opened; tokens = a.tokens ++ Start name attributes ∷ [] } else (if nat_lt (length a.opened) open_limit then record { opened = name ∷ a.opened; tokens = a.tokens ++ Start name attributes ∷ [] } else a)).tokens ≡ []) [
      | true ↦ tag_characters name attributes a.tokens h
      | false ↦
          elim (nat_lt (length a.opened) open_limit) as (λ b. characters (if b then record { opened = name ∷ a.opened; tokens = a.tokens ++ Start name attributes ∷ [] } else a).tokens ≡ []) [
            | true ↦ tag_characters name attributes a.tokens h
            | false ↦ h
          ]
    ]
