-- Flowed text: its tokens are a message's, and nested.
use Rattle.std.proofs.Common.{◌≡◌, ℕ, zero, suc, ◌+◌, ◌-◌, Bool, true, List, [], ◌∷◌, ◌++◌, codes, chars, refl, sym, ap, ◌∙◌, arith, append-nil, append_assoc, Some}
use Rattle.std.proofs.lemmas.List.{replicate-append-replicate}
use Rattle.std.specs.Prelude.{min, replicate}
use Rattle.html_syntax.specs.Token.Token.{End}
use Rattle.html_rules.specs.Tables.{Name, message_elements, message_void_elements, frame_void_elements, is_message_element, is_void}
use Rattle.html_rules.specs.Nesting.{open_elements_after, IsNested}
use Rattle.html_rules.specs.MessageTokens.{is_message, is_message_token}
use Rattle.html_rules.proofs.Nesting.{open_after-append, open_after-nested, open_after-text}
use Rattle.html_rules.proofs.Parts.{is_message-append, is_message-text}
use Rattle.flowed_text.specs.declared.Para.{Para}
use Rattle.mail_pages.specs.Flowed.{quote, shown_depth, opened_quotes, closed_quotes, change_depth, text_or_break, para_element, paras_after, flowed_paras}

-- ---- depths

-- of two depths, each is what it has more and what both have
common_of_both : (old new : ℕ) → (old - new) + min old new ≡ old
common_of_both old new = omega arith

min_of_both : (old new : ℕ) → (new - old) + min old new ≡ new
min_of_both old new = omega arith

-- the open quotes are those that are closed or stay
pub closed_and_kept : {A : Type 0} (old new : ℕ) (x : A) → replicate old x ≡ replicate (old - new) x ++ replicate (min old new) x
closed_and_kept old new x = ap (λ n. replicate n x) (sym (common_of_both old new)) ∙ sym (replicate-append-replicate (old - new) (min old new) x)

pub opened_and_kept : {A : Type 0} (old new : ℕ) (x : A) → replicate (new - old) x ++ replicate (min old new) x ≡ replicate new x
opened_and_kept old new x = replicate-append-replicate (new - old) (min old new) x ∙ ap (λ n. replicate n x) (min_of_both old new)

-- one more in front is one more at the end
pub one_more : {A : Type 0} (count : ℕ) (x : A) (rest : List A) → replicate count x ++ x ∷ rest ≡ x ∷ replicate count x ++ rest
one_more zero x rest = refl
one_more (suc count) x rest = ap (λ xs. x ∷ xs) (one_more count x rest)

-- ---- a message

opened_message : (images : Bool) (own : List ℕ → Bool) (count : ℕ) → is_message images own (opened_quotes count) ≡ true
unfolding is_message_token is_message_element message_elements
opened_message images own zero = refl
opened_message images own (suc count) = opened_message images own count

closed_message : (images : Bool) (own : List ℕ → Bool) (count : ℕ) → is_message images own (closed_quotes count) ≡ true
unfolding is_message_token is_message_element message_elements is_void message_void_elements frame_void_elements
closed_message images own zero = refl
closed_message images own (suc count) = closed_message images own count

content_message : (images : Bool) (own : List ℕ → Bool) (content : List ℕ) → is_message images own (text_or_break content) ≡ true
unfolding is_message_token is_message_element message_elements
content_message images own [] = refl
content_message images own (b ∷ bs) = is_message-text images own (chars (b ∷ bs))

para_message : (images : Bool) (own : List ℕ → Bool) (content : List ℕ) → is_message images own (para_element content) ≡ true
unfolding is_message_token is_message_element message_elements is_void message_void_elements frame_void_elements
para_message images own content = is_message-append images own (text_or_break content) (End (codes "div") ∷ []) (content_message images own content) refl

paras_message : (images : Bool) (own : List ℕ → Bool) (depth : ℕ) (paras : List Para) → is_message images own (paras_after depth paras) ≡ true
unfolding paras_after
paras_message images own depth [] = closed_message images own depth
paras_message images own depth (para ∷ more) =
    is_message-append images own (change_depth depth (shown_depth para) ++ para_element para.text) (paras_after (shown_depth para) more)
    (is_message-append images own (change_depth depth (shown_depth para)) (para_element para.text)
    (is_message-append images own (closed_quotes (depth - shown_depth para)) (opened_quotes (shown_depth para - depth)) (closed_message images own (depth - shown_depth para)) (opened_message images own (shown_depth para - depth)))
    (para_message images own para.text))
    (paras_message images own (shown_depth para) more)

pub flowed_message : (images : Bool) (own : List ℕ → Bool) (paras : List Para) → is_message images own (flowed_paras paras) ≡ true
flowed_message images own paras = paras_message images own 0 paras

-- ---- nesting

closes : (count : ℕ) (outer : List Name) → open_elements_after (replicate count quote ++ outer) (closed_quotes count) ≡ Some outer
unfolding open_elements_after
closes zero outer = refl
closes (suc count) outer = closes count outer

opens : (count : ℕ) (outer : List Name) → open_elements_after outer (opened_quotes count) ≡ Some (replicate count quote ++ outer)
unfolding open_elements_after is_void message_void_elements frame_void_elements
opens zero outer = refl
opens (suc count) outer = opens count (quote ∷ outer) ∙ ap (λ names. Some names) (one_more count quote outer)

changes : (old new : ℕ) → open_elements_after (replicate old quote) (change_depth old new) ≡ Some (replicate new quote)
changes old new =
    ap (λ names. open_elements_after names (change_depth old new)) (closed_and_kept old new quote)
    ∙ open_after-append (replicate (old - new) quote ++ replicate (min old new) quote) (closed_quotes (old - new)) (opened_quotes (new - old)) (replicate (min old new) quote) (closes (old - new) (replicate (min old new) quote))
    ∙ opens (new - old) (replicate (min old new) quote)
    ∙ ap (λ names. Some names) (opened_and_kept old new quote)

para_nested : (content : List ℕ) → IsNested (para_element content)
unfolding open_elements_after is_void message_void_elements frame_void_elements
para_nested [] = refl
para_nested (b ∷ bs) = open_after-text (codes "div" ∷ []) (chars (b ∷ bs)) (End (codes "div") ∷ [])

ends : (depth : ℕ) → open_elements_after (replicate depth quote) (closed_quotes depth) ≡ Some []
ends depth = ap (λ names. open_elements_after names (closed_quotes depth)) (sym (append-nil (replicate depth quote))) ∙ closes depth []

-- whatever comes before a paragraph, it is in its own quotes alone
paras_nested : (depth : ℕ) (paras : List Para) → open_elements_after (replicate depth quote) (paras_after depth paras) ≡ Some []
unfolding paras_after
paras_nested depth [] = ends depth
paras_nested depth (para ∷ more) =
    let change = change_depth depth (shown_depth para) in
    let rest = paras_after (shown_depth para) more in
    ap (λ ts. open_elements_after (replicate depth quote) ts) (append_assoc change (para_element para.text) rest)
    ∙ open_after-append (replicate depth quote) change (para_element para.text ++ rest) (replicate (shown_depth para) quote) (changes depth (shown_depth para))
    ∙ open_after-nested (replicate (shown_depth para) quote) (para_element para.text) rest (para_nested para.text)
    ∙ paras_nested (shown_depth para) more

pub flowed_nested : (paras : List Para) → IsNested (flowed_paras paras)
flowed_nested paras = paras_nested 0 paras
