-- What is written in steps, as a whole.
use Rattle.std.proofs.Common.{◌≡◌, ℕ, true, Bool, List, [], ◌∷◌, ◌++◌, codes, sym, ap, ◌∙◌, append_assoc}
use Rattle.html_syntax.specs.Token.{Token}
use Rattle.html_rules.specs.Tables.{Name}
use Rattle.html_rules.specs.FrameTokens.{is_frame}
use Rattle.page_writer.specs.Page.{outer}
use Rattle.page_writer.specs.Writer.{Page}
use Rattle.page_frames.specs.Elements.{with_tokens}
use Rattle.page_frames.specs.Forms.{form, form_start, form_end}
use Rattle.page_frames.specs.Pages.{document_end, framed, heading, page_start}

-- two parts, one after the other
pub parts_written : (p0 p1 p2 : Page) (first second : List Token) (o1 o2 : List Name) → p1 ≡ with_tokens p0 first o1 → p2 ≡ with_tokens p1 second o2 → p2 ≡ with_tokens p0 (first ++ second) o2
parts_written p0 p1 p2 first second o1 o2 a b =
    b ∙ ap (λ p. with_tokens p second o2) a ∙ ap (λ ts. record { written = ts; opened = o2 }) (append_assoc p0.written first second)

pub form_written : (p0 p1 p2 p3 : Page) (path : List ℕ) (inputs : List Token) (label : List ℕ)
    → p1 ≡ with_tokens p0 (form_start path ∷ []) (codes "form" ∷ p0.opened) → p2 ≡ with_tokens p1 inputs p1.opened → p3 ≡ with_tokens p2 (form_end label) (outer p2.opened)
    → p3 ≡ with_tokens p0 (form path inputs label) p0.opened
form_written p0 p1 p2 p3 path inputs label a b c =
    let begun : List Token = (form_start path ∷ []) ++ inputs in
    let two : p2 ≡ with_tokens p0 begun p1.opened = parts_written p0 p1 p2 (form_start path ∷ []) inputs (codes "form" ∷ p0.opened) p1.opened a b in
    let closed : outer p2.opened ≡ p0.opened = ap (λ (p : Page). outer p.opened) b ∙ ap (λ (p : Page). outer p.opened) a in
    parts_written p0 p2 p3 begun (form_end label) p1.opened (outer p2.opened) two c ∙ ap (λ o. with_tokens p0 (form path inputs label) o) closed

-- a page whose heading is its title
pub page_written : (p0 p1 p2 p3 p4 : Page) (title : List ℕ) (in_session : Bool) (body : List Token) (o1 o2 o3 o4 : List Name) → p0.written ≡ []
    → p1 ≡ with_tokens p0 (page_start title in_session) o1 → p2 ≡ with_tokens p1 (heading title) o2 → p3 ≡ with_tokens p2 body o3 → p4 ≡ with_tokens p3 document_end o4
    → p4.written ≡ framed title in_session (heading title ++ body)
unfolding framed
page_written p0 p1 p2 p3 p4 title in_session body o1 o2 o3 o4 none a b c d =
    let start : List Token = page_start title in_session in
    let two : p2 ≡ with_tokens p0 (start ++ heading title) o2 = parts_written p0 p1 p2 start (heading title) o1 o2 a b in
    let three : p3 ≡ with_tokens p0 ((start ++ heading title) ++ body) o3 = parts_written p0 p2 p3 (start ++ heading title) body o2 o3 two c in
    let four : p4 ≡ with_tokens p0 (((start ++ heading title) ++ body) ++ document_end) o4 = parts_written p0 p3 p4 ((start ++ heading title) ++ body) document_end o3 o4 three d in
    ap (λ (p : Page). p.written) four ∙ ap (λ ts. ts ++ (((start ++ heading title) ++ body) ++ document_end)) none
    ∙ ap (λ ts. ts ++ document_end) (append_assoc start (heading title) body)

pub page_is_frame : (p0 p1 p2 p3 p4 : Page) (title : List ℕ) (in_session : Bool) (body : List Token) (o1 o2 o3 o4 : List Name) → p0.written ≡ []
    → p1 ≡ with_tokens p0 (page_start title in_session) o1 → p2 ≡ with_tokens p1 (heading title) o2 → p3 ≡ with_tokens p2 body o3 → p4 ≡ with_tokens p3 document_end o4
    → is_frame (framed title in_session (heading title ++ body)) ≡ true → is_frame p4.written ≡ true
page_is_frame p0 p1 p2 p3 p4 title in_session body o1 o2 o3 o4 none a b c d frame =
    ap is_frame (page_written p0 p1 p2 p3 p4 title in_session body o1 o2 o3 o4 none a b c d) ∙ frame

-- the same of a page with two parts after its heading
pub two_parts_are_frame : (p0 p1 p2 p3 p4 p5 : Page) (title : List ℕ) (in_session : Bool) (first second : List Token) (o1 o2 o3 o4 o5 : List Name) → p0.written ≡ []
    → p1 ≡ with_tokens p0 (page_start title in_session) o1 → p2 ≡ with_tokens p1 (heading title) o2 → p3 ≡ with_tokens p2 first o3 → p4 ≡ with_tokens p3 second o4 → p5 ≡ with_tokens p4 document_end o5
    → is_frame (framed title in_session (heading title ++ first ++ second)) ≡ true → is_frame p5.written ≡ true
two_parts_are_frame p0 p1 p2 p3 p4 p5 title in_session first second o1 o2 o3 o4 o5 none a b c d e frame =
    let both : p4 ≡ with_tokens p2 (first ++ second) o4 = parts_written p2 p3 p4 first second o3 o4 c d in
    page_is_frame p0 p1 p2 p4 p5 title in_session (first ++ second) o1 o2 o4 o5 none a b both e
    (ap (λ body. is_frame (framed title in_session body)) (sym (append_assoc (heading title) first second)) ∙ frame)
