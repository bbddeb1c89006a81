-- A page on which quotes are opened and closed.
use Rattle.std.proofs.Common.{◌≡◌, ℕ, zero, suc, ◌+◌, ◌-◌, ◌<◌, List, [], ◌∷◌, ◌++◌, refl, sym, ap, subst, ◌∙◌, arith, append_assoc, IsTrue, drop, Option, Some, None, Result, Ok, Err, OnOk}
use Rattle.std.proofs.lemmas.List.{replicate_more}
use Rattle.std.specs.Prelude.{min, replicate, MatchOption}
use Rattle.html_syntax.specs.Token.{Token}
use Rattle.html_syntax.specs.Token.Token.{End}
use Rattle.html_rules.specs.Tables.{Name, is_text_only, text_only_elements}
use Rattle.page_writer.specs.Page.{takes_tags}
use Rattle.page_writer.specs.Writer.{Page, with_token, innermost}
use Rattle.flowed_text.specs.declared.Para.{Para}
use Rattle.page_frames.specs.Elements.{with_tokens}
use Rattle.mail_pages.specs.Flowed.{AreQuotes, quote, shown_depth, opened_quotes, closed_quotes, change_depth, para_element, paras_after, flowed_paras}
use Rattle.mail_pages.proofs.Quotes.{closed_and_kept, opened_and_kept}

abbrev page_with : List Token → List Name → Page
page_with written opened = record { written = written; opened = opened }

drop_quotes : (closed count : ℕ) (outer : List Name) → closed < count → drop closed (replicate count quote ++ outer) ≡ quote ∷ drop (suc closed) (replicate count quote ++ outer)
drop_quotes closed zero outer less = absurd (omega arith)
drop_quotes zero (suc count) outer less = refl
drop_quotes (suc closed) (suc count) outer less = drop_quotes closed count outer (omega arith)

quote_first : (closed count : ℕ) (opened : List Name) → closed < count → AreQuotes count opened → drop closed opened ≡ quote ∷ drop (suc closed) opened
quote_first closed count opened less quotes =
    ap (drop closed) quotes ∙ drop_quotes closed count (drop count opened) less ∙ ap (λ names. quote ∷ drop (suc closed) names) (sym quotes)

closed_written : (written : List Token) (closed : ℕ) → (written ++ closed_quotes closed) ++ End quote ∷ [] ≡ written ++ closed_quotes (closed + 1)
closed_written written closed = append_assoc written (closed_quotes closed) (End quote ∷ []) ∙ ap (λ ts. written ++ ts) (replicate_more closed (End quote))

close_first : (written : List Token) (names more : List Name) → names ≡ quote ∷ more → with_token (page_with written names) (End (innermost names)) ≡ page_with (written ++ End quote ∷ []) more
close_first written names more is = subst (λ l. with_token (page_with written l) (End (innermost l)) ≡ page_with (written ++ End quote ∷ []) more) (sym is) refl

one_more_is : (n : ℕ) → suc n ≡ n + 1
one_more_is n = omega arith

-- closing one more
pub close_next : (page here next : Page) (closed count : ℕ) → closed < count → AreQuotes count page.opened → here ≡ with_tokens page (closed_quotes closed) (drop closed page.opened)
    → next ≡ with_token here (End (innermost here.opened)) → next ≡ with_tokens page (closed_quotes (closed + 1)) (drop (closed + 1) page.opened)
close_next page here next closed count less quotes so_far is =
    is ∙ ap (λ p. with_token p (End (innermost p.opened))) so_far
    ∙ close_first (page.written ++ closed_quotes closed) (drop closed page.opened) (drop (suc closed) page.opened) (quote_first closed count page.opened less quotes)
    ∙ ap (λ w. page_with w (drop (suc closed) page.opened)) (closed_written page.written closed)
    ∙ ap (λ n. page_with (page.written ++ closed_quotes (closed + 1)) (drop n page.opened)) (one_more_is closed)

-- a quote takes tags
pub quotes_take_tags : (count : ℕ) (outer : List Name) → IsTrue (takes_tags outer) → IsTrue (takes_tags (replicate count quote ++ outer))
unfolding is_text_only text_only_elements
quotes_take_tags zero outer takes = takes
quotes_take_tags (suc count) outer takes = refl

-- ---- one depth, and another

-- if some are closed, the others stay
drop_closed : (closed kept : ℕ) (outer : List Name) → drop closed ((replicate closed quote ++ replicate kept quote) ++ outer) ≡ replicate kept quote ++ outer
drop_closed zero kept outer = refl
drop_closed (suc closed) kept outer = drop_closed closed kept outer

quotes_kept : (old new : ℕ) (opened : List Name) → AreQuotes old opened → drop (old - new) opened ≡ replicate (min old new) quote ++ drop old opened
quotes_kept old new opened quotes =
    ap (drop (old - new)) (quotes ∙ ap (λ names. names ++ drop old opened) (closed_and_kept old new quote)) ∙ drop_closed (old - new) (min old new) (drop old opened)

-- all that are closed are quotes
pub may_close_some : (old new : ℕ) (opened : List Name) → AreQuotes old opened → AreQuotes (old - new) opened
may_close_some old new opened quotes =
    quotes ∙ ap (λ names. names ++ drop old opened) (closed_and_kept old new quote)
    ∙ append_assoc (replicate (old - new) quote) (replicate (min old new) quote) (drop old opened)
    ∙ ap (λ names. replicate (old - new) quote ++ names) (sym (quotes_kept old new opened quotes))

-- more may be opened in those that stay
pub may_open_more : (page closed : Page) (old new less : ℕ) → AreQuotes old page.opened → IsTrue (takes_tags (drop old page.opened)) → less ≡ old - new
    → closed ≡ with_tokens page (closed_quotes less) (drop less page.opened) → IsTrue (takes_tags closed.opened)
may_open_more page closed old new less quotes takes less_is is =
    subst (λ names. IsTrue (takes_tags names)) (sym (ap (λ p. p.opened) is ∙ ap (λ n. drop n page.opened) less_is ∙ quotes_kept old new page.opened quotes))
    (quotes_take_tags (min old new) (drop old page.opened) takes)

change_written : (page : Page) (old new : ℕ) → AreQuotes old page.opened
    → with_tokens (with_tokens page (closed_quotes (old - new)) (drop (old - new) page.opened)) (opened_quotes (new - old)) (replicate (new - old) quote ++ drop (old - new) page.opened)
    ≡ with_tokens page (change_depth old new) (replicate new quote ++ drop old page.opened)
change_written page old new quotes =
    ap (λ w. page_with w (replicate (new - old) quote ++ drop (old - new) page.opened)) (append_assoc page.written (closed_quotes (old - new)) (opened_quotes (new - old)))
    ∙ ap (λ names. page_with (page.written ++ change_depth old new) names)
    (ap (λ names. replicate (new - old) quote ++ names) (quotes_kept old new page.opened quotes)
    ∙ sym (append_assoc (replicate (new - old) quote) (replicate (min old new) quote) (drop old page.opened))
    ∙ ap (λ names. names ++ drop old page.opened) (opened_and_kept old new quote))

-- the difference is closed, then opened
pub depth_changed : {T E : Type 0} (r : Result T E) (page closed last : Page) (old new less more : ℕ) → AreQuotes old page.opened → less ≡ old - new → more ≡ new - old
    → closed ≡ with_tokens page (closed_quotes less) (drop less page.opened) → OnOk r (last ≡ with_tokens closed (opened_quotes more) (replicate more quote ++ closed.opened))
    → OnOk r (last ≡ with_tokens page (change_depth old new) (replicate new quote ++ drop old page.opened))
depth_changed (Err e) page closed last old new less more quotes less_is more_is so_far is = tt
depth_changed (Ok x) page closed last old new less more quotes less_is more_is so_far is =
    is ∙ ap (λ p. with_tokens p (opened_quotes more) (replicate more quote ++ p.opened)) so_far
    ∙ ap (λ n. with_tokens (with_tokens page (closed_quotes n) (drop n page.opened)) (opened_quotes more) (replicate more quote ++ drop n page.opened)) less_is
    ∙ ap (λ n. with_tokens (with_tokens page (closed_quotes (old - new)) (drop (old - new) page.opened)) (opened_quotes n) (replicate n quote ++ drop (old - new) page.opened)) more_is
    ∙ change_written page old new quotes

-- ---- paragraphs

drop_all : (depth : ℕ) (outer : List Name) → drop depth (replicate depth quote ++ outer) ≡ outer
drop_all zero outer = refl
drop_all (suc depth) outer = drop_all depth outer

-- what is open outside of the quotes
pub outside : (depth : ℕ) (opened outer : List Name) → opened ≡ replicate depth quote ++ outer → drop depth opened ≡ outer
outside depth opened outer is = ap (drop depth) is ∙ drop_all depth outer

pub are_quotes : (depth : ℕ) (opened outer : List Name) → opened ≡ replicate depth quote ++ outer → AreQuotes depth opened
are_quotes depth opened outer is = is ∙ ap (λ names. replicate depth quote ++ names) (sym (outside depth opened outer is))

changed_quotes : (page changed : Page) (depth shown : ℕ) (outer : List Name) → page.opened ≡ replicate depth quote ++ outer
    → changed ≡ with_tokens page (change_depth depth shown) (replicate shown quote ++ drop depth page.opened) → changed.opened ≡ replicate shown quote ++ outer
changed_quotes page changed depth shown outer quotes change = ap (λ p. p.opened) change ∙ ap (λ names. replicate shown quote ++ names) (outside depth page.opened outer quotes)

-- a paragraph more on the page
pub para_written : (page changed next : Page) (depth shown : ℕ) (paras more : List Para) (para : Para) (outer : List Name)
    → page.opened ≡ replicate depth quote ++ outer → paras ≡ para ∷ more → shown ≡ shown_depth para
    → changed ≡ with_tokens page (change_depth depth shown) (replicate shown quote ++ drop depth page.opened)
    → next ≡ with_tokens changed (para_element para.text) changed.opened
    → with_tokens next (paras_after shown more) outer ≡ with_tokens page (paras_after depth paras) outer
unfolding paras_after
para_written page changed next depth shown paras more para outer quotes first depth_is change is =
    let written : next.written ≡ page.written ++ (change_depth depth shown ++ para_element para.text) =
    ap (λ p. p.written) is ∙ ap (λ p. p.written ++ para_element para.text) change ∙ append_assoc page.written (change_depth depth shown) (para_element para.text) in
    ap (λ w. page_with (w ++ paras_after shown more) outer) written
    ∙ ap (λ w. page_with w outer) (append_assoc page.written (change_depth depth shown ++ para_element para.text) (paras_after shown more))
    ∙ ap (λ d. page_with (page.written ++ (change_depth depth d ++ para_element para.text ++ paras_after d more)) outer) depth_is
    ∙ ap (λ ps. page_with (page.written ++ paras_after depth ps) outer) (sym first)

pub para_quotes : (page changed next : Page) (depth shown : ℕ) (content : List ℕ) (outer : List Name)
    → page.opened ≡ replicate depth quote ++ outer
    → changed ≡ with_tokens page (change_depth depth shown) (replicate shown quote ++ drop depth page.opened)
    → next ≡ with_tokens changed (para_element content) changed.opened
    → next.opened ≡ replicate shown quote ++ outer
para_quotes page changed next depth shown content outer quotes change is = ap (λ p. p.opened) is ∙ changed_quotes page changed depth shown outer quotes change

pub may_write_para : (page changed : Page) (depth shown : ℕ) (outer : List Name) → page.opened ≡ replicate depth quote ++ outer → IsTrue (takes_tags outer)
    → changed ≡ with_tokens page (change_depth depth shown) (replicate shown quote ++ drop depth page.opened) → IsTrue (takes_tags changed.opened)
may_write_para page changed depth shown outer quotes takes change =
    subst (λ names. IsTrue (takes_tags names)) (sym (changed_quotes page changed depth shown outer quotes change)) (quotes_take_tags shown outer takes)

-- the next paragraph is the first that is left
pub first_left : (found : Option Para) (before after : List Para) (para : Para) → found ≡ Some para → MatchOption found (before ≡ []) (λ p. before ≡ p ∷ after) → before ≡ para ∷ after
first_left found before after para is matches = subst (λ f. MatchOption f (before ≡ []) (λ p. before ≡ p ∷ after)) is matches

none_left : (found : Option Para) (before after : List Para) → found ≡ None → MatchOption found (before ≡ []) (λ p. before ≡ p ∷ after) → before ≡ []
none_left found before after is matches = subst (λ f. MatchOption f (before ≡ []) (λ p. before ≡ p ∷ after)) is matches

-- at the end all quotes are closed
pub paras_ended : {T E : Type 0} (r : Result T E) (page initial last : Page) (depth : ℕ) (found : Option Para) (paras after whole : List Para) (outer : List Name)
    → page.opened ≡ replicate depth quote ++ outer → found ≡ None → MatchOption found (paras ≡ []) (λ p. paras ≡ p ∷ after) → with_tokens page (paras_after depth paras) outer ≡ with_tokens initial (flowed_paras whole) outer
    → OnOk r (last ≡ with_tokens page (closed_quotes depth) (drop depth page.opened)) → OnOk r (last ≡ with_tokens initial (flowed_paras whole) outer)
unfolding paras_after
paras_ended (Err e) page initial last depth found paras after whole outer quotes none matches so_far is = tt
paras_ended (Ok x) page initial last depth found paras after whole outer quotes none matches so_far is =
    is ∙ ap (λ names. with_tokens page (closed_quotes depth) names) (outside depth page.opened outer quotes)
    ∙ ap (λ ps. with_tokens page (paras_after depth ps) outer) (sym (none_left found paras after none matches)) ∙ so_far
