-- What a washer takes.
use Rattle.std.proofs.Common.{◌≡◌, ℕ, Bool, true, false, ◌&&◌, if◌then◌else◌, nat_lt, codes, encode_utf8_all, List, [], ◌∷◌, ◌++◌, refl, sym, ap, subst, ◌∙◌, append-nil, append_assoc}
use Rattle.html_syntax.specs.Token.{Attribute, Token}
use Rattle.html_syntax.specs.Token.Token.{Start, End, Char, Comment, Doctype}
use Rattle.std.specs.Str as utf8
use Rattle.html_syntax.specs.Tokenizer.{chars, replace_null, same}
use Rattle.html_syntax.specs.Held.{meaning}
use Rattle.html_syntax.specs.declared.token.Token.TheVariants as held
use Rattle.html_syntax.specs.declared.token.Token.{Token as HeldToken}
use Rattle.html_tokens.specs.Attributes.{first_of_each}
use Rattle.html_rules.specs.Tables.{Name, is_message_element, is_dropped_element}
use Rattle.html_rules.specs.Tokens.{text_tokens, replace_nulls}
use Rattle.page_writer.specs.Page.{takes_tags}
use Rattle.page_writer.specs.Writer.{Page, with_token, with_all_tokens, with_text}
use Rattle.wash_attributes.specs.Given.{Given}
use Rattle.html_wash.specs.Closings.{After, none_closed, closed_by, lookups_of}
use Rattle.style_wash.specs.Characters.{trimmed}
use Rattle.style_rules.specs.Rules.{Rule}
use Rattle.style_rules.specs.Cascade.{declared}
use Rattle.wash_attributes.proofs.FirstValues.{text_of_first}
use Rattle.html_wash.specs.Styling.{Styling, Following, is_dropping, with_characters, with_following, is_screen, settled, following_of, taken_limit, declared_for, counted}
use Rattle.html_wash.specs.Styling.Following.{Keeps, Drops, Reads}
use Rattle.html_wash.specs.Wash.{State, Step, step_with, open_element, after_start, after_end, step_at_element, step_at_start, settled_state, wash_token, wash_part, close_all, start, wash_from, wash}
use Rattle.html_wash.specs.Elements.{name_of}
use Rattle.html_wash.specs.Writing.{WasherState, outside, IsInside, Wrote, Took, IfCharacters}
use Rattle.html_wash.specs.declared.element.Element.{Element}
use Rattle.html_wash.proofs.Elements.{is_element}
use Rattle.html_wash.proofs.Distinct.{washed_of_first}
use Rattle.html_wash.proofs.Writing.{with_all_tokens-append, outside_is}

-- ---- characters

chars_injective : (xs ys : List ℕ) → chars xs ≡ chars ys → xs ≡ ys
chars_injective [] [] e = refl
chars_injective [] (y ∷ ys) e = absurd cc
chars_injective (x ∷ xs) [] e = absurd cc
chars_injective (x ∷ xs) (y ∷ ys) e =
    let head : x ≡ y = cc in
    let tails : chars xs ≡ chars ys = cc in
    let rest : xs ≡ ys = chars_injective xs ys tails in
    cc

-- what holds of a lent text holds if its characters are the tokens
pub lent_if : (text : List ℕ) (tokens : List Token) (P : List ℕ → Type 0) → chars text ≡ tokens → P text → IfCharacters tokens P
lent_if text tokens P is h cs same = subst P (chars_injective text cs (is ∙ same)) h

pub if_tokens : (ts us : List Token) (P : List ℕ → Type 0) → ts ≡ us → IfCharacters us P → IfCharacters ts P
if_tokens ts us P e w cs same = w cs (sym e ∙ same)

-- the text of a token, if that is characters
pub if_text : (ts : List Token) (text : List ℕ) (P : List ℕ → Type 0) → IfCharacters ts (λ cs. text ≡ cs) → P text → IfCharacters ts P
if_text ts text P w h cs same = subst P (w cs same) h

one_token : (t : Token) (cs : List ℕ) → ((c : ℕ) → t ≡ Char c → ⊥) → t ∷ [] ≡ chars cs → ⊥
one_token t [] other e = cc
one_token t (c ∷ cs) other e = other c cc

pub other_token : (t : HeldToken) (P : List ℕ → Type 0) → ((text : List ℕ) → t ≡ held.Chars text → ⊥) → IfCharacters (meaning t) P
other_token (held.Start name attributes) P other cs same = absurd (one_token _ cs (λ c e. cc) same)
other_token (held.End name) P other cs same = absurd (one_token _ cs (λ c e. cc) same)
other_token (held.Chars text) P other cs same = absurd (other text refl)
other_token (held.Comment text) P other cs same = absurd (one_token _ cs (λ c e. cc) same)
other_token held.Doctype P other cs same = absurd (one_token _ cs (λ c e. cc) same)

written_text : (page : Page) (cs : List ℕ) → with_text page cs ≡ with_all_tokens page (text_tokens cs)
written_text page [] = ap (λ (ts : List Token). record { written = ts; opened = page.opened }) (append-nil page.written)
written_text page (c ∷ cs) =
    let t = Char (replace_null c) in
    ap (λ (ts : List Token). record { written = ts; opened = page.opened }) (sym (append_assoc page.written (t ∷ []) (text_tokens cs)))
    ∙ written_text (with_token page t) cs

abbrev pub at : List Name → Styling → State
at opened styling = record { opened = opened; styling = styling }

abbrev styled : List Rule → ℕ → Following → Styling
styled rules count following = record { rules = rules; count = count; following = following }

run_dropped : (given : Given) (opened : List Name) (rules : List Rule) (count : ℕ) (cs : List ℕ) → wash_part given (at opened (styled rules count Drops)) (chars cs) ≡ record { state = at opened (styled rules count Drops); tokens = [] }
unfolding wash_part wash_token
run_dropped given opened rules count [] = refl
run_dropped given opened rules count (c ∷ cs) = run_dropped given opened rules count cs

run_read : (given : Given) (opened : List Name) (rules : List Rule) (count : ℕ) (text cs : List ℕ) → wash_part given (at opened (styled rules count (Reads text))) (chars cs) ≡ record { state = at opened (styled rules count (Reads (text ++ cs))); tokens = [] }
unfolding wash_part wash_token
run_read given opened rules count text [] = ap (λ (t : List ℕ). record { state = at opened (styled rules count (Reads t)); tokens = [] }) (sym (append-nil text))
run_read given opened rules count text (c ∷ cs) =
    run_read given opened rules count (text ++ c ∷ []) cs
    ∙ ap (λ (t : List ℕ). record { state = at opened (styled rules count (Reads t)); tokens = [] }) (append_assoc text (c ∷ []) cs)

run_kept : (given : Given) (opened : List Name) (rules : List Rule) (count : ℕ) (cs : List ℕ) → wash_part given (at opened (styled rules count Keeps)) (chars cs) ≡ record { state = at opened (styled rules count Keeps); tokens = text_tokens cs }
unfolding wash_part wash_token
run_kept given opened rules count [] = refl
run_kept given opened rules count (c ∷ cs) = ap (λ (r : Step). record { state = r.state; tokens = Char (replace_null c) ∷ r.tokens }) (run_kept given opened rules count cs)

run_taken : (given : Given) (opened : List Name) (rules : List Rule) (count : ℕ) (f : Following) (cs : List ℕ) → is_dropping f ≡ true → wash_part given (at opened (styled rules count f)) (chars cs) ≡ record { state = at opened (styled rules count (with_characters f cs)); tokens = [] }
run_taken given opened rules count Keeps cs e = absurd cc
run_taken given opened rules count Drops cs e = run_dropped given opened rules count cs
run_taken given opened rules count (Reads text) cs e = run_read given opened rules count text cs

run_written : (given : Given) (opened : List Name) (rules : List Rule) (count : ℕ) (f : Following) (cs : List ℕ) → is_dropping f ≡ false → wash_part given (at opened (styled rules count f)) (chars cs) ≡ record { state = at opened (styled rules count f); tokens = text_tokens cs }
run_written given opened rules count Keeps cs e = run_kept given opened rules count cs
run_written given opened rules count Drops cs e = absurd cc
run_written given opened rules count (Reads text) cs e = absurd cc

took_no_run : (given : Given) (s : State) (outer : List Name) (cs : List ℕ) (page : Page) (later : Styling) → is_dropping s.styling.following ≡ true → IsInside s.opened page.opened outer → later ≡ with_following (with_characters s.styling.following cs) s.styling → Took (wash_part given s (chars cs)) outer page page (at s.opened later)
took_no_run given s outer cs page later e i is =
    subst (λ (r : Step). Took r outer page page (at s.opened later)) (sym (run_taken given s.opened s.styling.rules s.styling.count s.styling.following cs e))
    (record { page = refl; after = ap (at s.opened) is; inside = i })

took_run : (given : Given) (s : State) (outer : List Name) (cs : List ℕ) (old new : Page) → is_dropping s.styling.following ≡ false → IsInside s.opened old.opened outer → new ≡ with_text old cs → Took (wash_part given s (chars cs)) outer old new s
took_run given s outer cs old new e i is =
    subst (λ (r : Step). Took r outer old new s) (sym (run_written given s.opened s.styling.rules s.styling.count s.styling.following cs e))
    (record { page = is ∙ written_text old cs; after = refl; inside = subst (λ (p : Page). IsInside s.opened p.opened outer) (sym is) i })

-- ---- one token

took_one : (given : Given) (s : State) (t : Token) (step : Step) (outer : List Name) (old new : Page) (state : State) → step ≡ wash_token given s t → Took step outer old new state → Took (wash_part given s (t ∷ [])) outer old new state
unfolding wash_part
took_one given s t step outer old new state is w = record {
  page = w.page ∙ ap (λ (r : Step). with_all_tokens old r.tokens) is ∙ ap (with_all_tokens old) (sym (append-nil (wash_token given s t).tokens));
  after = w.after ∙ ap (λ (r : Step). r.state) is;
  inside = w.inside;
}

wrote_took : (a : After) (styling : Styling) (outer : List Name) (old new : Page) (names : List Name) (later : Styling) → later ≡ styling → Wrote a outer old new names → Took (step_with styling a) outer old new (at names later)
wrote_took a styling outer old new names later e w = record { page = w.page; after = ap (λ (ns : List Name). at ns later) w.left ∙ ap (at a.opened) e; inside = w.inside }

-- ---- a start tag

started_step : (given : Given) (s : State) (name : Name) (attributes : List Attribute) → is_dropped_element name ≡ false → is_message_element name ≡ true → step_at_element given s name attributes ≡ step_at_start given s name attributes
started_step given s name attributes dropped element = rw (dropped, element) refl

took_as : (step other : Step) (outer : List Name) (old new : Page) (state : State) → step ≡ other → Took step outer old new state → Took other outer old new state
took_as step other outer old new state e w = subst (λ (r : Step). Took r outer old new state) e w

pub start_took : (g : Bool → Given) (view self : WasherState) (ended : Styling) (e : Element) (name tag_name : Name) (attributes : List Attribute) (old new : Page) (state : State) (dropped : Bool) → view ≡ self → ended ≡ settled view.state.styling → name_of e ≡ name → name ≡ tag_name → dropped ≡ is_dropped_element name → dropped ≡ false → Took (step_at_element (g view.images) (at view.state.opened ended) (name_of e) attributes) (outside view.state.opened old.opened) old new state → Took (step_at_start (g self.images) (settled_state self.state) tag_name attributes) (outside self.state.opened old.opened) old new state
start_took g view self ended e name tag_name attributes old new state dropped same_view ends is tag drops not_dropped w =
    let outer = outside view.state.opened old.opened in
    let element = subst (λ (t : Styling). Took (step_at_element (g view.images) (at view.state.opened t) (name_of e) attributes) outer old new state) ends w in
    let started : Took (step_at_start (g view.images) (settled_state view.state) (name_of e) attributes) outer old new state =
    took_as _ _ outer old new state (started_step (g view.images) (settled_state view.state) (name_of e) attributes (ap is_dropped_element is ∙ sym drops ∙ not_dropped) (is_element e)) element in
    subst (λ (s : WasherState). Took (step_at_start (g s.images) (settled_state s.state) tag_name attributes) (outside s.state.opened old.opened) old new state) same_view
    (subst (λ (n : Name). Took (step_at_start (g view.images) (settled_state view.state) n attributes) outer old new state) (is ∙ tag) started)

-- a tag's attributes are those of its token
first_declared : (s : Styling) (name : Name) (attributes : List Attribute) → declared_for s name attributes ≡ declared_for s name (first_of_each attributes)
unfolding declared_for
first_declared s name attributes =
    ap (λ (classes : List ℕ). if nat_lt s.count taken_limit then utf8.chars (declared s.rules name (encode_utf8_all classes)) else []) (sym (text_of_first (codes "class") attributes))

first_element : (given : Given) (s : State) (name : Name) (attributes : List Attribute) → step_at_element given s name attributes ≡ step_at_element given s name (first_of_each attributes)
unfolding after_start
first_element given s name attributes =
    ap (λ (style : List ℕ). step_with (counted style s.styling) (after_start given style s.opened name attributes)) (first_declared s.styling name attributes)
    ∙ ap (λ (as' : List Attribute). let style = declared_for s.styling name (first_of_each attributes) in step_with (counted style s.styling) (open_element name (Start name (replace_nulls as')) (closed_by (lookups_of name) s.opened))) (sym (washed_of_first given (declared_for s.styling name (first_of_each attributes)) name attributes))

first_step : (given : Given) (s : State) (name : Name) (attributes : List Attribute) → step_at_start given s name attributes ≡ step_at_start given s name (first_of_each attributes)
unfolding after_start declared_for following_of
first_step given s name attributes =
    ap (λ (media : List ℕ). if is_dropped_element name then step_with (with_following (if same (codes "style") name && is_screen (trimmed (encode_utf8_all media)) then Reads [] else Drops) s.styling) (none_closed s.opened) else (if is_message_element name then step_at_element given s name attributes else step_with s.styling (none_closed s.opened))) (sym (text_of_first (codes "media") attributes))
    ∙ ap (λ (step : Step). if is_dropped_element name then step_with (with_following (following_of name (first_of_each attributes)) s.styling) (none_closed s.opened) else (if is_message_element name then step else step_with s.styling (none_closed s.opened))) (first_element given s name attributes)

pub start_span : (given : Given) (s : State) (name : Name) (attributes : List Attribute) (tokens : List Token) (outer : List Name) (old new : Page) (state : State) → tokens ≡ Start name (first_of_each attributes) ∷ [] → Took (step_at_start given (settled_state s) name attributes) outer old new state → Took (wash_part given s tokens) outer old new state
unfolding wash_token
start_span given s name attributes tokens outer old new state is w =
    subst (λ (ts : List Token). Took (wash_part given s ts) outer old new state) (sym is)
    (took_one given s (Start name (first_of_each attributes)) (step_at_start given (settled_state s) name attributes) outer old new state (first_step given (settled_state s) name attributes) w)

-- ---- other tokens

pub end_span : (g : Bool → Given) (view self : WasherState) (name : Name) (tokens : List Token) (old new : Page) (names : List Name) (later : Styling) → view ≡ self → tokens ≡ End name ∷ [] → later ≡ settled view.state.styling → Wrote (after_end view.state.opened name) (outside view.state.opened old.opened) old new names → Took (wash_part (g self.images) self.state tokens) (outside self.state.opened old.opened) old new (at names later)
unfolding wash_token
end_span g view self name tokens old new names later same_view is ends w =
    subst (λ (s : WasherState). Took (wash_part (g s.images) s.state tokens) (outside s.state.opened old.opened) old new (at names later)) same_view
    (subst (λ (ts : List Token). Took (wash_part (g view.images) view.state ts) (outside view.state.opened old.opened) old new (at names later)) (sym is)
    (took_one (g view.images) view.state (End name) (step_with (settled view.state.styling) (after_end view.state.opened name)) _ old new (at names later) refl (wrote_took _ _ _ old new names later ends w)))

-- a comment or a DOCTYPE
abbrev pub IsQuiet : Token → Type 0
IsQuiet (Start name attributes) = ⊥
IsQuiet (End name) = ⊥
IsQuiet (Char c) = ⊥
IsQuiet (Comment text) = Unit {0}
IsQuiet Doctype = Unit {0}

quiet_step : (given : Given) (s : State) (t : Token) → IsQuiet t → step_with (settled s.styling) (none_closed s.opened) ≡ wash_token given s t
unfolding wash_token
quiet_step given s (Start name attributes) q = absurd q
quiet_step given s (End name) q = absurd q
quiet_step given s (Char c) q = absurd q
quiet_step given s (Comment text) q = refl
quiet_step given s Doctype q = refl

pub quiet_span : (given : Given) (view self : WasherState) (t : Token) (tokens : List Token) (outer : List Name) (page : Page) (later : Styling) → view ≡ self → IsQuiet t → tokens ≡ t ∷ [] → later ≡ settled view.state.styling → IsInside self.state.opened page.opened outer → Took (wash_part given self.state tokens) outer page page (at view.state.opened later)
quiet_span given view self t tokens outer page later same_view q is ends i =
    subst (λ (ts : List Token). Took (wash_part given self.state ts) outer page page (at view.state.opened later)) (sym is)
    (subst (λ (s : WasherState). Took (wash_part given s.state (t ∷ [])) outer page page (at view.state.opened later)) same_view
    (took_one given view.state t (step_with (settled view.state.styling) (none_closed view.state.opened)) outer page page (at view.state.opened later) (quiet_step given view.state t q)
    (record { page = refl; after = ap (at view.state.opened) ends; inside = subst (λ (s : WasherState). IsInside s.state.opened page.opened outer) (sym same_view) i })))

pub dropped_run : (given : Given) (view self : WasherState) (cs : List ℕ) (tokens : List Token) (outer : List Name) (page : Page) (later : Styling) → view ≡ self → is_dropping view.state.styling.following ≡ true → tokens ≡ chars cs → IsInside self.state.opened page.opened outer → IfCharacters tokens (λ ds. later ≡ with_following (with_characters view.state.styling.following ds) view.state.styling) → Took (wash_part given self.state tokens) outer page page (at view.state.opened later)
dropped_run given view self cs tokens outer page later same_view drops is i taken =
    subst (λ (ts : List Token). Took (wash_part given self.state ts) outer page page (at view.state.opened later)) (sym is)
    (subst (λ (s : WasherState). IsInside s.state.opened page.opened outer → Took (wash_part given s.state (chars cs)) outer page page (at view.state.opened later)) same_view
    (λ inside. took_no_run given view.state outer cs page later drops inside (taken cs is)) i)

pub kept_run : (given : Given) (view self : WasherState) (cs : List ℕ) (tokens : List Token) (outer : List Name) (old new : Page) → view ≡ self → is_dropping view.state.styling.following ≡ false → tokens ≡ chars cs → IsInside self.state.opened old.opened outer → IfCharacters tokens (λ ds. new ≡ with_text old ds) → Took (wash_part given self.state tokens) outer old new self.state
kept_run given view self cs tokens outer old new same_view keeps is i w =
    subst (λ (ts : List Token). Took (wash_part given self.state ts) outer old new self.state) (sym is)
    (took_run given self.state outer cs old new (ap (λ (s : WasherState). is_dropping s.state.styling.following) (sym same_view) ∙ keeps) i (w cs is))

-- ---- all tokens

pub wash_from-append : (given : Given) (s : State) (ts us : List Token) → wash_from given s (ts ++ us) ≡ (wash_part given s ts).tokens ++ wash_from given (wash_part given s ts).state us
unfolding wash_from wash_part
wash_from-append given s [] us = refl
wash_from-append given s (t ∷ ts) us =
    let first = wash_token given s t in
    let rest = wash_part given first.state ts in
    let all = wash_part given first.state (ts ++ us) in
    append_assoc first.tokens all.tokens (close_all all.state.opened)
    ∙ ap (λ (xs : List Token). first.tokens ++ xs) (wash_from-append given first.state ts us)
    ∙ sym (append_assoc first.tokens rest.tokens (wash_from given rest.state us))

-- a washer before tokens that are left: what they are washed to makes the page whole
pub record IsWashing (given : Given) (images : Bool) (w : WasherState) (left : List Token) (outer : List Name) (page goal : Page) : Type 0 where
  pub images_are : w.images ≡ images
  pub inside : IsInside w.state.opened page.opened outer
  pub whole : with_all_tokens page (wash_from given w.state left) ≡ goal

pub washing_starts : (given : Given) (images : Bool) (w : WasherState) (left all : List Token) (page : Page) → w ≡ record { state = start; images = images } → left ≡ all → takes_tags page.opened ≡ true → IsWashing given images w left page.opened page (with_all_tokens page (wash given all))
unfolding wash
washing_starts given images w left all page is same tags =
    subst (λ (v : WasherState). IsWashing given images v left page.opened page (with_all_tokens page (wash given all))) (sym is)
    (record { images_are = refl; inside = record { openable = refl; splits = refl; tags = tags }; whole = ap (λ (ts : List Token). with_all_tokens page (wash_from given start ts)) same })

pub washing_goes_on : (g : Bool → Given) (images : Bool) (w v : WasherState) (left taken rest : List Token) (outer : List Name) (page new goal : Page) → left ≡ taken ++ rest → v.images ≡ w.images → Took (wash_part (g w.images) w.state taken) (outside w.state.opened page.opened) page new v.state → IsWashing (g images) images w left outer page goal → IsWashing (g images) images v rest outer new goal
washing_goes_on g images w v left taken rest outer page new goal split same took i =
    let part = wash_part (g images) w.state taken in
    let given_is : g w.images ≡ g images = ap g i.images_are in
    let written : new ≡ with_all_tokens page part.tokens = took.page ∙ ap (λ (x : Given). with_all_tokens page (wash_part x w.state taken).tokens) given_is in
    let state : v.state ≡ part.state = took.after ∙ ap (λ (x : Given). (wash_part x w.state taken).state) given_is in
    record {
      images_are = same ∙ i.images_are;
      inside = subst (λ (o : List Name). IsInside v.state.opened new.opened o) (outside_is w.state.opened page.opened outer i.inside) took.inside;
      whole =
          ap (λ (p : Page). with_all_tokens p (wash_from (g images) v.state rest)) written
          ∙ ap (λ (s : State). with_all_tokens (with_all_tokens page part.tokens) (wash_from (g images) s rest)) state
          ∙ sym (with_all_tokens-append page part.tokens (wash_from (g images) part.state rest))
          ∙ ap (with_all_tokens page) (sym (wash_from-append (g images) w.state taken rest))
          ∙ ap (λ (ts : List Token). with_all_tokens page (wash_from (g images) w.state ts)) (sym split)
          ∙ i.whole;
    }

pub washing_ends : (given : Given) (images : Bool) (w : WasherState) (left : List Token) (outer : List Name) (page new goal : Page) → left ≡ [] → new ≡ with_all_tokens page (close_all w.state.opened) → IsWashing given images w left outer page goal → new ≡ goal
unfolding wash_from wash_part
washing_ends given images w left outer page new goal none is i = is ∙ ap (λ (ts : List Token). with_all_tokens page (wash_from given w.state ts)) (sym none) ∙ i.whole
