-- The sections of a tree are distinct: what is settled and what waits has sections apart from each other's, at each step.
use Rattle.std.proofs.Common.{◌≡◌, ◌≢◌, ℕ, zero, suc, ◌+◌, ◌<◌, inl, inr, true, false, ◌&&◌, List, [], ◌∷◌, ◌++◌, length, get_or, map, refl, sym, ap, ◌∙◌, subst, arith, append_assoc, append-nil, length-append}
use Rattle.std.proofs.lemmas.Bool.{and_from, and_left, and_right, cases_Bool}
use Rattle.std.proofs.lemmas.List.{map-append, append_cancel_left}
use Rattle.std.specs.Prelude.{unwrap_or, slice_range}
use Rattle.mail_values.specs.Section.{numbers_of}
use Rattle.mime_tree.specs.declared.body.Range.{Range}
use Rattle.mime_tree.specs.declared.node.Position.{Position}
use Rattle.mime_tree.specs.declared.node.Position.TheVariants.{Body, Child}
use Rattle.mime_tree.specs.declared.node.Node.{Node}
use Rattle.mime_tree.specs.Tree.{PartValue}
use Rattle.mime_tree.specs.Body.{places}
use Rattle.mime_tree.specs.Content.{is_multipart}
use Rattle.mime_tree.specs.Opening.{Opened, node_at, children_from, children_of, own_parts, part_of, section_of, prefix_of, is_body, is_raw, opens_beside, tree_after_steps, parts_of, message_of}
use Rattle.mime_tree.specs.Laws.{HasDistinctSections}
use Rattle.mime_tree.proofs.OpeningLemmas.{inside_message, inside_multipart, own_hidden, own_part, settle_open, settle_leaf}

-- which sections come of something: its own, those that follow it, or both
data Reach : Type 0 where
  At Below From : Reach

record Claim : Type 0 where
  reach : Reach
  base : List ℕ

abbrev Fits : Reach → List ℕ → Type 0
Fits At rest = rest ≡ []
Fits Below rest = 0 < length rest
Fits From rest = Unit {0}

record Covers (c : Claim) (section : List ℕ) : Type 0 where
  rest : List ℕ
  is : section ≡ c.base ++ rest
  fits : Fits c.reach rest

abbrev Apart : Claim → Claim → Type 0
Apart c d = (section : List ℕ) → Covers c section → Covers d section → ⊥

abbrev Within : Claim → Claim → Type 0
Within c d = (section : List ℕ) → Covers d section → Covers c section

abbrev EachApart : Claim → List Claim → Type 0
EachApart c [] = Unit {0}
EachApart c (d ∷ ds) = Apart c d × EachApart c ds

abbrev EachWithin : Claim → List Claim → Type 0
EachWithin c [] = Unit {0}
EachWithin c (d ∷ ds) = Within c d × EachWithin c ds

abbrev Separate : List Claim → Type 0
Separate [] = Unit {0}
Separate (c ∷ cs) = EachApart c cs × Separate cs

apart_append : (c : Claim) (cs ds : List Claim) → EachApart c cs → EachApart c ds → EachApart c (cs ++ ds)
apart_append c [] ds h g = g
apart_append c (d ∷ cs) ds h g = (h.0, apart_append c cs ds h.1 g)

apart_within : (x y : Claim) (ds : List Claim) → Within x y → EachApart x ds → EachApart y ds
apart_within x y [] w h = tt
apart_within x y (d ∷ ds) w h = (λ s a b. h.0 s (w s a) b, apart_within x y ds w h.1)

apart_inside : (c x : Claim) (ys : List Claim) → Apart c x → EachWithin x ys → EachApart c ys
apart_inside c x [] h w = tt
apart_inside c x (y ∷ ys) h w = (λ s a b. h s a (w.0 s b), apart_inside c x ys h w.1)

apart_replaced : (c x : Claim) (front ys back : List Claim) → EachWithin x ys → EachApart c (front ++ x ∷ back) → EachApart c (front ++ (ys ++ back))
apart_replaced c x [] ys back w h = apart_append c ys back (apart_inside c x ys h.0 w) h.1
apart_replaced c x (d ∷ front) ys back w h = (h.0, apart_replaced c x front ys back w h.1)

separate_join : (x : Claim) (ys back : List Claim) → EachWithin x ys → Separate ys → EachApart x back → Separate back → Separate (ys ++ back)
separate_join x [] back w s h g = g
separate_join x (y ∷ ys) back w s h g = (apart_append y ys back s.0 (apart_within x y back w.0 h), separate_join x ys back w.1 s.1 h g)

-- what is apart stays so where one claim gives way to some within it
replaced : (x : Claim) (front ys back : List Claim) → EachWithin x ys → Separate ys → Separate (front ++ x ∷ back) → Separate (front ++ (ys ++ back))
replaced x [] ys back w s h = separate_join x ys back w s h.0 h.1
replaced x (c ∷ front) ys back w s h = (apart_replaced c x front ys back w h.0, replaced x front ys back w s h.1)

abbrev claim_of : PartValue → Claim
claim_of p = record { reach = At; base = p.section }

abbrev position_claim : Position → Claim
position_claim (Body message) = record { reach = Below; base = numbers_of message }
position_claim (Child section) = record { reach = From; base = section }

abbrev node_claim : Node → Claim
node_claim n = position_claim n.position

abbrev claims : List PartValue → List Node → List Claim
claims parts waiting = map claim_of parts ++ map node_claim waiting

abbrev at : List ℕ → Claim
at base = record { reach = At; base = base }

abbrev below : List ℕ → Claim
below base = record { reach = Below; base = base }

abbrev from : List ℕ → Claim
from base = record { reach = From; base = base }

within_section : (p : Position) → Within (position_claim p) (at (section_of p))
within_section (Body message) s c = record { rest = 1 ∷ c.rest; is = c.is ∙ append_assoc (numbers_of message) (1 ∷ []) c.rest; fits = omega arith }
within_section (Child section) s c = record { rest = c.rest; is = c.is; fits = tt }

within_child : (p : Position) (i : ℕ) → Within (position_claim p) (from (prefix_of p ++ i ∷ []))
within_child (Body message) i s c = record { rest = i ∷ c.rest; is = c.is ∙ append_assoc (numbers_of message) (i ∷ []) c.rest; fits = omega arith }
within_child (Child section) i s c = record { rest = i ∷ c.rest; is = c.is ∙ append_assoc section (i ∷ []) c.rest; fits = tt }

within_body : (p : Position) → Within (position_claim p) (below (section_of p))
within_body (Body message) s c = record { rest = 1 ∷ c.rest; is = c.is ∙ append_assoc (numbers_of message) (1 ∷ []) c.rest; fits = omega arith }
within_body (Child section) s c = record { rest = c.rest; is = c.is; fits = tt }

apart_below : (base : List ℕ) → Apart (at base) (below base)
apart_below base s a b =
    let none = a.fits in
    let some = b.fits in
    absurd (omega (arith, ap length none, ap length a.is, ap length b.is, length-append base a.rest, length-append base b.rest))

apart_child : (base prefix : List ℕ) (i : ℕ) → base ≡ prefix → Apart (at base) (from (prefix ++ i ∷ []))
apart_child base prefix i e s a b =
    let none = a.fits in
    absurd (omega (arith, ap length none, ap length e, ap length a.is, ap length b.is, length-append base a.rest, length-append (prefix ++ i ∷ []) b.rest, length-append prefix (i ∷ [])))

apart_siblings : (prefix : List ℕ) (i j : ℕ) → i < j → Apart (from (prefix ++ i ∷ [])) (from (prefix ++ j ∷ []))
apart_siblings prefix i j lt s a b =
    let one : prefix ++ i ∷ a.rest ≡ prefix ++ j ∷ b.rest = sym (append_assoc prefix (i ∷ []) a.rest) ∙ sym a.is ∙ b.is ∙ append_assoc prefix (j ∷ []) b.rest in
    let two : i ∷ a.rest ≡ j ∷ b.rest = append_cancel_left prefix (i ∷ a.rest) (j ∷ b.rest) one in
    let same : i ≡ j = cc in
    absurd (omega arith)

abbrev child_claims : List ℕ → Node → ℕ → List Range → List Claim
child_claims bytes n k rs = map node_claim (children_from bytes n k rs)

children_within : (bytes : List ℕ) (n : Node) (k : ℕ) (rs : List Range) → EachWithin (node_claim n) (child_claims bytes n k rs)
unfolding children_from node_at
children_within bytes n k [] = tt
children_within bytes n k (r ∷ rs) = (within_child n.position k, children_within bytes n (k + 1) rs)

children_apart : (bytes : List ℕ) (n : Node) (base : List ℕ) (k : ℕ) (rs : List Range) → base ≡ prefix_of n.position → EachApart (at base) (child_claims bytes n k rs)
unfolding children_from node_at
children_apart bytes n base k [] e = tt
children_apart bytes n base k (r ∷ rs) e = (apart_child base (prefix_of n.position) k e, children_apart bytes n base (k + 1) rs e)

sibling_apart : (bytes : List ℕ) (n : Node) (i k : ℕ) (rs : List Range) → i < k → EachApart (from (prefix_of n.position ++ i ∷ [])) (child_claims bytes n k rs)
unfolding children_from node_at
sibling_apart bytes n i k [] lt = tt
sibling_apart bytes n i k (r ∷ rs) lt = (apart_siblings (prefix_of n.position) i k lt, sibling_apart bytes n i (k + 1) rs (omega arith))

children_separate : (bytes : List ℕ) (n : Node) (k : ℕ) (rs : List Range) → Separate (child_claims bytes n k rs)
unfolding children_from node_at
children_separate bytes n k [] = tt
children_separate bytes n k (r ∷ rs) = (sibling_apart bytes n k (k + 1) rs (omega arith), children_separate bytes n (k + 1) rs)

-- what an opened node gives way to
abbrev opened_claims : List ℕ → Node → List Claim
opened_claims bytes n = map claim_of (own_parts bytes n) ++ map node_claim (children_of bytes n)

record Gives (x : Claim) (ys : List Claim) : Type 0 where
  each : EachWithin x ys
  separate : Separate ys

gives_moved : (x : Claim) (ys zs : List Claim) → ys ≡ zs → Gives x ys → Gives x zs
gives_moved x ys zs e g = subst (λ (cs : List Claim). Gives x cs) e g

child_section : (p : Position) → is_body p ≡ false → section_of p ≡ prefix_of p
child_section (Body message) h = absurd cc
child_section (Child section) h = refl

one_and : (bytes : List ℕ) (n : Node) (ys : List Claim) → false ≡ (is_body n.position && is_multipart n.content.mime) → ys ≡ map node_claim (children_of bytes n) → at (section_of n.position) ∷ ys ≡ opened_claims bytes n
one_and bytes n ys h e = ap (λ cs. at (section_of n.position) ∷ cs) e ∙ ap (λ ps. map claim_of ps ++ map node_claim (children_of bytes n)) (sym (own_part bytes n h))

gives_message : (bytes : List ℕ) (n : Node) → is_multipart n.content.mime ≡ false → Gives (node_claim n) (opened_claims bytes n)
unfolding node_at
gives_message bytes n h =
    let hidden : (is_body n.position && is_multipart n.content.mime) ≡ false = and_right (is_body n.position) (is_multipart n.content.mime) h in
    let one : Gives (node_claim n) (at (section_of n.position) ∷ below (section_of n.position) ∷ []) =
    record { each = (within_section n.position, (within_body n.position, tt)); separate = ((apart_below (section_of n.position), tt), (tt, tt)) } in
    gives_moved (node_claim n) _ _ (one_and bytes n (below (section_of n.position) ∷ []) (sym hidden) (sym (ap (map node_claim) (inside_message bytes n (sym h))))) one

gives_multipart : (bytes : List ℕ) (n : Node) → is_multipart n.content.mime ≡ true → Gives (node_claim n) (opened_claims bytes n)
gives_multipart bytes n h =
    let rs = places (unwrap_or n.content.boundary []) (slice_range bytes n.body n.to) in
    let children : child_claims bytes n 1 rs ≡ map node_claim (children_of bytes n) = sym (ap (map node_claim) (inside_multipart bytes n (sym h))) in
    elim (cases_Bool (is_body n.position)) [
      | inl whole ↦
          let hidden : (is_body n.position && is_multipart n.content.mime) ≡ true = and_from (is_body n.position) (is_multipart n.content.mime) whole h in
          gives_moved (node_claim n) (child_claims bytes n 1 rs) (opened_claims bytes n)
          (children ∙ ap (λ ps. map claim_of ps ++ map node_claim (children_of bytes n)) (sym (own_hidden bytes n (sym hidden))))
          (record { each = children_within bytes n 1 rs; separate = children_separate bytes n 1 rs })
      | inr child ↦
          let hidden : (is_body n.position && is_multipart n.content.mime) ≡ false = and_left (is_body n.position) (is_multipart n.content.mime) child in
          gives_moved (node_claim n) (at (section_of n.position) ∷ child_claims bytes n 1 rs) (opened_claims bytes n)
          (one_and bytes n (child_claims bytes n 1 rs) (sym hidden) children)
          (record { each = (within_section n.position, children_within bytes n 1 rs); separate = (children_apart bytes n (section_of n.position) 1 rs (child_section n.position child), children_separate bytes n 1 rs) })
    ]

gives : (bytes : List ℕ) (n : Node) → Gives (node_claim n) (opened_claims bytes n)
gives bytes n = elim (cases_Bool (is_multipart n.content.mime)) [ inl h ↦ gives_multipart bytes n h | inr h ↦ gives_message bytes n h ]

apart_front : (c : Claim) (cs ds : List Claim) → EachApart c (cs ++ ds) → EachApart c cs
apart_front c [] ds h = tt
apart_front c (d ∷ cs) ds h = (h.0, apart_front c cs ds h.1)

separate_front : (cs ds : List Claim) → Separate (cs ++ ds) → Separate cs
separate_front [] ds h = tt
separate_front (c ∷ cs) ds h = (apart_front c cs ds h.0, separate_front cs ds h.1)

opened_regroups : (bytes : List ℕ) (parts : List PartValue) (n : Node) (rest : List Node) → map claim_of parts ++ (opened_claims bytes n ++ map node_claim rest) ≡ claims (parts ++ own_parts bytes n) (children_of bytes n ++ rest)
opened_regroups bytes parts n rest =
    ap (λ cs. map claim_of parts ++ cs) (append_assoc (map claim_of (own_parts bytes n)) (map node_claim (children_of bytes n)) (map node_claim rest))
    ∙ ap (λ cs. map claim_of parts ++ (map claim_of (own_parts bytes n) ++ cs)) (sym (map-append node_claim (children_of bytes n) rest))
    ∙ sym (append_assoc (map claim_of parts) (map claim_of (own_parts bytes n)) (map node_claim (children_of bytes n ++ rest)))
    ∙ ap (λ cs. cs ++ map node_claim (children_of bytes n ++ rest)) (sym (map-append claim_of parts (own_parts bytes n)))

leaf_regroups : (parts : List PartValue) (p : PartValue) (rest : List Node) → map claim_of parts ++ ((claim_of p ∷ []) ++ map node_claim rest) ≡ claims (parts ++ p ∷ []) rest
leaf_regroups parts p rest =
    sym (append_assoc (map claim_of parts) (claim_of p ∷ []) (map node_claim rest))
    ∙ ap (λ cs. cs ++ map node_claim rest) (sym (map-append claim_of parts (p ∷ [])))

separate_opened : (bytes : List ℕ) (steps : ℕ) (parts : List PartValue) (waiting : List Node) → Separate (claims parts waiting) → Separate (map claim_of (tree_after_steps bytes steps parts waiting).parts)
unfolding tree_after_steps
separate_opened bytes steps parts [] h = separate_front (map claim_of parts) [] h
separate_opened bytes zero parts (n ∷ rest) h = separate_front (map claim_of parts) (map node_claim (n ∷ rest)) h
separate_opened bytes (suc steps) parts (n ∷ rest) h =
    elim (cases_Bool (opens_beside bytes (length parts + length rest) n)) [
      | inl yes' ↦
          let g = gives bytes n in
          let next = replaced (node_claim n) (map claim_of parts) (opened_claims bytes n) (map node_claim rest) g.each g.separate h in
          subst (λ (t : Opened). Separate (map claim_of (tree_after_steps bytes steps t.parts t.waiting).parts)) (sym (settle_open bytes parts n rest yes'))
          (separate_opened bytes steps (parts ++ own_parts bytes n) (children_of bytes n ++ rest) (subst (λ (cs : List Claim). Separate cs) (opened_regroups bytes parts n rest) next))
      | inr no' ↦
          let leaf = part_of bytes n (is_raw n.content) in
          let next = replaced (node_claim n) (map claim_of parts) (claim_of leaf ∷ []) (map node_claim rest) (within_section n.position, tt) (tt, tt) h in
          subst (λ (t : Opened). Separate (map claim_of (tree_after_steps bytes steps t.parts t.waiting).parts)) (sym (settle_leaf bytes parts n rest no'))
          (separate_opened bytes steps (parts ++ leaf ∷ []) rest (subst (λ (cs : List Claim). Separate cs) (leaf_regroups parts leaf rest) next))
    ]

apart_place : (c : Claim) (parts : List PartValue) (j : ℕ) (d : PartValue) → j < length parts → EachApart c (map claim_of parts) → Apart c (claim_of (get_or parts j d))
apart_place c [] j d lt h = absurd (omega arith)
apart_place c (p ∷ parts) zero d lt h = h.0
apart_place c (p ∷ parts) (suc j) d lt h = apart_place c parts j d (omega arith) h.1

own_section : (p : PartValue) (section : List ℕ) → section ≡ p.section → Covers (claim_of p) section
own_section p section e = record { rest = []; is = e ∙ sym (append-nil p.section); fits = refl }

distinct : (parts : List PartValue) (i j : ℕ) (d : PartValue) → i < j → j < length parts → Separate (map claim_of parts) → (get_or parts i d).section ≢ (get_or parts j d).section
distinct [] i j d lt h s e = absurd (omega arith)
distinct (p ∷ parts) i zero d lt h s e = absurd (omega arith)
distinct (p ∷ parts) zero (suc j) d lt h s e = apart_place (claim_of p) parts j d (omega arith) s.0 p.section (own_section p p.section refl) (own_section (get_or parts j d) p.section e)
distinct (p ∷ parts) (suc i) (suc j) d lt h s e = distinct parts i j d (omega arith) (omega arith) s.1 e

pub sections_distinct : (bytes : List ℕ) → HasDistinctSections (parts_of bytes)
unfolding parts_of
sections_distinct bytes = λ i j d lt h. distinct (tree_after_steps bytes 2001 [] (message_of bytes ∷ [])).parts i j d lt h (separate_opened bytes 2001 [] (message_of bytes ∷ []) (tt, tt))
