-- A text that is written to a page some of it at a time.
use Rattle.std.proofs.Common.{◌≡◌, ℕ, List, [], ◌∷◌, ◌++◌, length, arith, refl, sym, ap, ◌∙◌, append_assoc}
use lib.Utf8.{encode}
use Rattle.std.specs.Str.{IsUtf8, chars, is_utf8}
use Rattle.std.proofs.lemmas.List.{append-nil}
use Rattle.std.proofs.lemmas.Str.{IsUtf8-from_is_utf8, chars-append}
use Rattle.html_syntax.specs.Token.{Token}
use Rattle.html_syntax.specs.Token.Token.{Char}
use Rattle.html_syntax.specs.Tokenizer.{replace_null}
use Rattle.html_rules.specs.Tokens.{text_tokens}
use Rattle.page_writer.specs.Writer.{Page}
use Rattle.std.specs.List.{position_or_len}
use Rattle.std.specs.Result.{OnOk}
use Rattle.std.specs.declared.result.Result.{Result}
use Rattle.std.specs.declared.result.Result.TheVariants.{Ok, Err}
use Rattle.html_rules.specs.Tables.{Name}
use Rattle.page_frames.specs.Elements.{text, with_tokens}
use Rattle.mail_pages.specs.Text.{is_carriage_return, with_line_feeds}
use Rattle.mail_pages.proofs.LineFeeds.{line_feeds-clean, line_feeds-nil}
use Rattle.mail_pages.specs.Gathered.{GathersText}

shown-append : (xs ys : List ℕ) → text_tokens (xs ++ ys) ≡ text_tokens xs ++ text_tokens ys
shown-append [] ys = refl
shown-append (x ∷ xs) ys = ap (λ ts. Char (replace_null x) ∷ ts) (shown-append xs ys)

pub text-nil : text [] ≡ []
unfolding chars
text-nil = refl

pub line_feed-valid : IsUtf8 (10 ∷ [])
unfolding is_utf8 chars encode
line_feed-valid = IsUtf8-from_is_utf8 (10 ∷ []) refl

pub text-append : (xs ys : List ℕ) → IsUtf8 xs → text (xs ++ ys) ≡ text xs ++ text ys
text-append xs ys valid = ap text_tokens (chars-append xs ys valid) ∙ shown-append (chars xs) (chars ys)

-- more was gathered
pub gathers-more : (page : Page) (gathered left more : List ℕ) → IsUtf8 gathered → IsUtf8 more → left ≡ gathered ++ more
    → GathersText page gathered page left more
gathers-more page gathered left more valid also e = record {
  written = λ rest.
      ap (λ t. page.written ++ (text t ++ text rest)) e
      ∙ ap (λ ts. page.written ++ (ts ++ text rest)) (text-append gathered more valid)
      ∙ ap (λ ts. page.written ++ ts) (append_assoc (text gathered) (text more) (text rest))
      ∙ ap (λ ts. page.written ++ (text gathered ++ ts)) (sym (text-append more rest also));
  opened = refl;
}

-- all that was gathered is written
pub gathers-written : (before : Page) (written : Page) (gathered all left more : List ℕ) → IsUtf8 gathered → IsUtf8 more → all ≡ gathered ++ more
    → written ≡ record { written = before.written ++ text all; opened = before.opened } → left ≡ []
    → GathersText before gathered written left more
gathers-written before written gathered all left more valid also e is none =
    let more_of = gathers-more before gathered all more valid also e in
    record {
      written = λ rest.
          ap (λ t. written.written ++ (text t ++ text rest)) none
          ∙ ap (λ ts. written.written ++ (ts ++ text rest)) text-nil
          ∙ ap (λ (p : Page). p.written ++ text rest) is
          ∙ append_assoc before.written (text all) (text rest)
          ∙ more_of.written rest;
      opened = ap (λ (p : Page). p.opened) is;
    }

-- the last of a text is gathered
pub gathers-last : {X Y : Type 0} (result : Result X Y) (first before after : Page) (gathered lines left rest whole : List ℕ)
    → ((more : List ℕ) → before.written ++ (text lines ++ text (with_line_feeds rest ++ more)) ≡ first.written ++ (text gathered ++ text (with_line_feeds whole ++ more))) → before.opened ≡ first.opened
    → position_or_len is_carriage_return rest ≡ length rest
    → OnOk result (GathersText before lines after left rest) → OnOk result (GathersText first gathered after left (with_line_feeds whole))
gathers-last (Err e) first before after gathered lines left rest whole written opened none ok = tt
gathers-last (Ok x) first before after gathered lines left rest whole written opened none ok = record {
  written = λ more. ok.written more ∙ ap (λ t. before.written ++ (text lines ++ text (t ++ more))) (sym (line_feeds-clean rest (omega arith))) ∙ written more;
  opened = ok.opened ∙ opened;
}

-- what is gathered is written
pub gathers-all : {X Y : Type 0} (result : Result X Y) (first before after : Page) (none gathered written whole : List ℕ)
    → none ≡ [] → GathersText first none before gathered whole → written ≡ gathered
    → OnOk result (after ≡ with_tokens before (text written) before.opened) → OnOk result (after ≡ with_tokens first (text whole) first.opened)
gathers-all (Err e) first before after none gathered written whole is more same ok = tt
gathers-all (Ok x) first before after none gathered written whole is more same ok =
    let tokens : before.written ++ text written ≡ first.written ++ text whole =
    ap (λ t. before.written ++ text t) same
    ∙ ap (λ ts. before.written ++ ts) (sym (append-nil (text gathered)))
    ∙ ap (λ ts. before.written ++ (text gathered ++ ts)) (sym text-nil)
    ∙ more.written []
    ∙ ap (λ t. first.written ++ (text t ++ text (whole ++ []))) is
    ∙ ap (λ ts. first.written ++ (ts ++ text (whole ++ []))) text-nil
    ∙ ap (λ t. first.written ++ text t) (append-nil whole) in
    ok ∙ ap (λ (ts : List Token). record { written = ts; opened = before.opened }) tokens
    ∙ ap (λ (names : List Name). record { written = first.written ++ text whole; opened = names }) more.opened

-- two texts one after the other
pub gathers-two : (first middle last : Page) (a b c x y more : List ℕ) → GathersText first a middle b x → GathersText middle b last c y
    → last.written ++ (text c ++ text more) ≡ first.written ++ (text a ++ text (x ++ (y ++ more)))
gathers-two first middle last a b c x y more one two = two.written more ∙ one.written (y ++ more)

-- a text that was written whole
pub gathers-from : (first after : Page) (gathered left whole : List ℕ) → left ≡ []
    → ((more : List ℕ) → after.written ++ (text gathered ++ text (with_line_feeds left ++ more)) ≡ first.written ++ (text [] ++ text (whole ++ more))) → after.opened ≡ first.opened
    → GathersText first [] after gathered whole
gathers-from first after gathered left whole none written opened = record {
  written = λ more.
      ap (λ t. after.written ++ (text gathered ++ text (t ++ more))) (sym (ap with_line_feeds none ∙ line_feeds-nil)) ∙ written more;
  opened = opened;
}

-- more was gathered, and then perhaps written
pub gathers-on : {X Y : Type 0} (result : Result X Y) (before after : Page) (gathered all left more : List ℕ) → IsUtf8 gathered → IsUtf8 more → all ≡ gathered ++ more
    → OnOk result (GathersText before all after left []) → OnOk result (GathersText before gathered after left more)
gathers-on (Err e) before after gathered all left more valid also is ok = tt
gathers-on (Ok x) before after gathered all left more valid also is ok = record {
  written = λ rest. ok.written rest ∙ (gathers-more before gathered all more valid also is).written rest;
  opened = ok.opened;
}
