-- A page with washed tokens appended.
use Rattle.std.proofs.Common.{◌≡◌, ℕ, Bool, List, [], ◌∷◌, ◌++◌, chars, sym, ap, ◌∙◌, append-nil, append_assoc, Option, Result, Ok, Err, OnOk}
use Rattle.html_syntax.specs.Tokenizer.{tokens}
use Rattle.mime_tree.specs.Tree.{PartValue}
use Rattle.cid_parts.specs.Located.{located_parts, base_of}
use Rattle.wash_attributes.specs.declared.place.Place.{Place}
use Rattle.wash_attributes.specs.Addresses.{given_of}
use Rattle.html_wash.specs.Wash.{wash}
use Rattle.mail_pages.specs.Mail.{decoded_text, washed_html}
use Rattle.html_syntax.specs.Token.{Token}
use Rattle.html_rules.specs.Tables.{Name}
use Rattle.page_writer.specs.Writer.{Page, with_token, with_all_tokens}
use Rattle.page_frames.specs.Elements.{with_tokens}

all_written : (page : Page) (ts : List Token) → (with_all_tokens page ts).written ≡ page.written ++ ts
all_written page [] = sym (append-nil page.written)
all_written page (t ∷ ts) = all_written (with_token page t) ts ∙ append_assoc page.written (t ∷ []) ts

abbrev page_with : List Token → List Name → Page
page_with written opened = record { written = written; opened = opened }

washed_page : (old new : Page) (ts : List Token) → new ≡ with_all_tokens old ts → new.opened ≡ old.opened → new ≡ with_tokens old ts old.opened
washed_page old new ts is opened =
    let written : new.written ≡ old.written ++ ts = ap (λ (p : Page). p.written) is ∙ all_written old ts in
    ap (λ (w : List Token). page_with w new.opened) written ∙ ap (λ (o : List Name). page_with (old.written ++ ts) o) opened

pub washed_html_page : {T E : Type 0} (r : Result T E) (old new : Page) (parts : List PartValue) (place : Place) (images : Bool) (p : PartValue) (location : Option (List ℕ)) (html : List ℕ)
    → location ≡ p.location → html ≡ decoded_text p
    → OnOk r (new ≡ with_all_tokens old (wash (given_of (record { parts = located_parts parts; base = base_of location }) place images) (tokens (chars html)))) → OnOk r (new.opened ≡ old.opened)
    → OnOk r (new ≡ with_tokens old (washed_html place parts images p) old.opened)
unfolding washed_html
washed_html_page (Ok x) old new parts place images p location html f g is opened =
    washed_page old new (washed_html place parts images p)
    (is ∙ ap (λ (l : Option (List ℕ)). with_all_tokens old (wash (given_of (record { parts = located_parts parts; base = base_of l }) place images) (tokens (chars html)))) f
    ∙ ap (λ (t : List ℕ). with_all_tokens old (wash (given_of (record { parts = located_parts parts; base = base_of p.location }) place images) (tokens (chars t)))) g)
    opened
washed_html_page (Err x) old new parts place images p location html f g is opened = tt
