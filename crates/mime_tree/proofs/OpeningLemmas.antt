-- The nodes in a node, and the tree after some steps.
use Rattle.std.proofs.Common.{◌≡◌, ℕ, zero, suc, ◌+◌, ◌-◌, ◌<◌, ◌≤◌, ◌*◌, inl, inr, Bool, true, false, ◌&&◌, cond, List, [], ◌∷◌, ◌++◌, length, take, drop, get_or, refl, sym, ap, ◌∙◌, subst, arith, length-append, append_assoc, add-one, drop-cons}
use Rattle.std.proofs.lemmas.Bool.{and_parts, cases_Bool, le-leb, lt-leb, leb-true}
use Rattle.std.proofs.lemmas.List.Elements.{All-append, All-push}
use Rattle.std.proofs.lemmas.List.{reverse-append, length-reverse, take_all}
use Rattle.std.specs.Prelude.{All, Some, None, reverse, unwrap_or, slice_range, codes}
use Rattle.mime_tree.specs.declared.body.Range.{Range}
use Rattle.mime_tree.specs.declared.node.Position.TheVariants.{Body, Child}
use Rattle.mime_tree.specs.declared.node.Node.{Node}
use Rattle.mime_tree.specs.Tree.{PartValue}
use Rattle.mime_tree.specs.Body.{places, range}
use Rattle.header_words.specs.Fields.{Header, header_of}
use Rattle.mime_content.specs.declared.content.Content.{Content}
use Rattle.mime_tree.specs.Content.{is_multipart, default_in}
use Rattle.mime_content.specs.Content.{content_of}
use Rattle.mime_tree.specs.Opening.{Opened, node_at, children_from, children_of, can_open, own_parts, part_of, section_of, prefix_of, is_body, is_raw, opens_beside, open_first, tree_after_steps, IsSound, parts_of, message_of}

abbrev message_at : ℕ → ℕ → Content → Node
message_at body to content = record { position = Body None; around = 0; enclosed = false; body = body; to = to; content = content }

abbrev pub opened_of : List PartValue → List Node → Opened
opened_of parts waiting = record { parts = parts; waiting = waiting }

pub inside_message : (bytes : List ℕ) (n : Node) → false ≡ is_multipart n.content.mime → children_of bytes n ≡ node_at bytes (codes "text/plain") (Body (Some (section_of n.position))) (n.around + 1) true n.body n.to ∷ []
unfolding children_of
inside_message bytes n h = rw (← h) refl

pub inside_multipart : (bytes : List ℕ) (n : Node) → true ≡ is_multipart n.content.mime → children_of bytes n ≡ children_from bytes n 1 (places (unwrap_or n.content.boundary []) (slice_range bytes n.body n.to))
unfolding children_of
inside_multipart bytes n h = rw (← h) refl

pub children_length : (bytes : List ℕ) (n : Node) (k : ℕ) (rs : List Range) → length (children_from bytes n k rs) ≡ length rs
unfolding children_from
children_length bytes n k [] = refl
children_length bytes n k (r ∷ rs) = ap suc (children_length bytes n (k + 1) rs)

abbrev pub child_at : List ℕ → Node → ℕ → Range → Node
child_at bytes n number r = node_at bytes (default_in n.content.mime) (Child (prefix_of n.position ++ number ∷ [])) (n.around + 1) n.enclosed (n.body + r.from) (n.body + r.to)

pub children_step : (bytes : List ℕ) (n : Node) (i : ℕ) (rs : List Range) (r : Range) → i < length rs → r ≡ get_or rs i r → children_from bytes n (i + 1) (drop i rs) ≡ child_at bytes n (i + 1) r ∷ children_from bytes n (i + 1 + 1) (drop (i + 1) rs)
unfolding children_from
children_step bytes n i rs r h e =
    let cut : drop i rs ≡ r ∷ drop (i + 1) rs = rw (add-one, drop-cons rs i r h) (ap (λ x. x ∷ drop (suc i) rs) (sym e)) in
    ap (children_from bytes n (i + 1)) cut

pub opened_settle : (bytes : List ℕ) (k : ℕ) (parts : List PartValue) (n : Node) (rest : List Node) → tree_after_steps bytes (k + 1) parts (n ∷ rest) ≡ tree_after_steps bytes k (open_first bytes parts n rest).parts (open_first bytes parts n rest).waiting
unfolding tree_after_steps
opened_settle bytes k parts n rest = rw add-one refl

pub opened_none : (bytes : List ℕ) (k : ℕ) (parts : List PartValue) → (tree_after_steps bytes k parts []).parts ≡ parts
unfolding tree_after_steps
opened_none bytes zero parts = refl
opened_none bytes (suc k) parts = refl

pub settle_open : (bytes : List ℕ) (parts : List PartValue) (n : Node) (rest : List Node) → opens_beside bytes (length parts + length rest) n ≡ true → open_first bytes parts n rest ≡ record { parts = parts ++ own_parts bytes n; waiting = children_of bytes n ++ rest }
unfolding open_first
settle_open bytes parts n rest h = rw h refl

pub settle_leaf : (bytes : List ℕ) (parts : List PartValue) (n : Node) (rest : List Node) → opens_beside bytes (length parts + length rest) n ≡ false → open_first bytes parts n rest ≡ record { parts = parts ++ part_of bytes n (is_raw n.content) ∷ []; waiting = rest }
unfolding open_first
settle_leaf bytes parts n rest h = rw h refl

pub opens_when : (bytes : List ℕ) (others : ℕ) (n : Node) → true ≡ can_open n → others + length (own_parts bytes n) + length (children_of bytes n) ≤ 1000 → opens_beside bytes others n ≡ true
unfolding opens_beside
opens_when bytes others n h g = rw (← h) (le-leb (others + length (own_parts bytes n) + length (children_of bytes n)) 1000 g)

pub opens_not : (bytes : List ℕ) (others : ℕ) (n : Node) → false ≡ can_open n → opens_beside bytes others n ≡ false
unfolding opens_beside
opens_not bytes others n h = rw (← h) refl

pub opens_full : (bytes : List ℕ) (others : ℕ) (n : Node) → true ≡ can_open n → 1000 < others + length (own_parts bytes n) + length (children_of bytes n) → opens_beside bytes others n ≡ false
unfolding opens_beside
opens_full bytes others n h g = rw (← h) (lt-leb (others + length (own_parts bytes n) + length (children_of bytes n)) 1000 g)

pub own_hidden : (bytes : List ℕ) (n : Node) → true ≡ (is_body n.position && is_multipart n.content.mime) → own_parts bytes n ≡ []
own_hidden bytes n h = rw (← h) refl

pub own_part : (bytes : List ℕ) (n : Node) → false ≡ (is_body n.position && is_multipart n.content.mime) → own_parts bytes n ≡ part_of bytes n false ∷ []
own_part bytes n h = rw (← h) refl

pub popped : (now : List Node) (n : Node) (was : List Node) → was ≡ now ++ n ∷ [] → reverse was ≡ n ∷ reverse now
popped now n was e = ap reverse e ∙ reverse-append now (n ∷ [])

pub all_popped : (bytes : List ℕ) (n : Node) (rest : List Node) → All (IsSound bytes) (n ∷ rest) → IsSound bytes n × All (IsSound bytes) rest
all_popped bytes n rest all = (all 0 n (omega arith), λ k d h. all (suc k) d (omega arith))

-- a node as a leaf
pub leaf_settles : (bytes : List ℕ) (parts now : List PartValue) (n : Node) (waiting : List Node) (others : ℕ) (raw : Bool) (p : PartValue) → others ≡ length parts + length waiting → opens_beside bytes others n ≡ false → raw ≡ is_raw n.content → p ≡ part_of bytes n raw → now ≡ parts ++ p ∷ [] → open_first bytes parts n (reverse waiting) ≡ record { parts = now; waiting = reverse waiting }
leaf_settles bytes parts now n waiting others raw p size h r e f =
    let sizes : length parts + length (reverse waiting) ≡ others = omega (arith, length-reverse waiting) in
    let items : now ≡ parts ++ part_of bytes n (is_raw n.content) ∷ [] = f ∙ ap (λ x. parts ++ x ∷ []) (e ∙ ap (part_of bytes n) r) in
    settle_leaf bytes parts n (reverse waiting) (ap (λ k. opens_beside bytes k n) sizes ∙ h) ∙ ap (λ ps. opened_of ps (reverse waiting)) (sym items)

-- a node with the nodes in it
pub open_settles : (bytes : List ℕ) (parts now : List PartValue) (n : Node) (waiting back children : List Node) (others : ℕ) → others ≡ length parts + length waiting → opens_beside bytes others n ≡ true → now ≡ parts ++ own_parts bytes n → children ≡ children_of bytes n → back ≡ children ++ reverse waiting → open_first bytes parts n (reverse waiting) ≡ record { parts = now; waiting = back }
open_settles bytes parts now n waiting back children others size h e f g =
    let sizes : length parts + length (reverse waiting) ≡ others = omega (arith, length-reverse waiting) in
    settle_open bytes parts n (reverse waiting) (ap (λ k. opens_beside bytes k n) sizes ∙ h)
    ∙ ap (λ ps. opened_of ps (children_of bytes n ++ reverse waiting)) (sym e)
    ∙ ap (λ ns. opened_of now ns) (sym (g ∙ ap (λ ns. ns ++ reverse waiting) f))

pub all_back : (bytes : List ℕ) (children rest back : List Node) → back ≡ children ++ rest → All (IsSound bytes) children → All (IsSound bytes) rest → All (IsSound bytes) back
all_back bytes children rest back e f g = subst (λ (ns : List Node). All (IsSound bytes) ns) (sym e) (All-append (IsSound bytes) children rest f g)

pub all_pushed : (bytes : List ℕ) (nodes now : List Node) (n : Node) → now ≡ nodes ++ n ∷ [] → IsSound bytes n → All (IsSound bytes) nodes → All (IsSound bytes) now
all_pushed bytes nodes now n e h all = subst (λ (ns : List Node). All (IsSound bytes) ns) (sym e) (All-push (IsSound bytes) nodes n all h)

pub children_pushed : (bytes : List ℕ) (n : Node) (i : ℕ) (rs : List Range) (r : Range) (nodes now : List Node) (child : Node) (whole : List Node) → i < length rs → r ≡ get_or rs i r → child ≡ child_at bytes n (i + 1) r → now ≡ nodes ++ child ∷ [] → nodes ++ children_from bytes n (i + 1) (drop i rs) ≡ whole → now ++ children_from bytes n (i + 1 + 1) (drop (i + 1) rs) ≡ whole
children_pushed bytes n i rs r nodes now child whole h e f g s =
    let more = children_from bytes n (i + 1 + 1) (drop (i + 1) rs) in
    ap (λ ns. ns ++ more) (g ∙ ap (λ c. nodes ++ c ∷ []) f) ∙ append_assoc nodes (child_at bytes n (i + 1) r ∷ []) more
    ∙ ap (λ ns. nodes ++ ns) (sym (children_step bytes n i rs r h e)) ∙ s

-- the message, as its header says it
pub message_is : (bytes : List ℕ) (header : Header) (body : ℕ) (content : Content) → header ≡ header_of bytes → body ≡ header.body → content ≡ content_of (codes "text/plain") header.fields → record { position = Body None; around = 0; enclosed = false; body = body; to = length bytes; content = content } ≡ message_of bytes
unfolding message_of node_at
message_is bytes header body content h b c =
    let whole : take (length bytes - 0) bytes ≡ bytes = take_all (length bytes - 0) bytes (omega arith) in
    let read : header_of bytes ≡ header_of (take (length bytes - 0) bytes) = ap header_of (sym whole) in
    let is : header ≡ header_of (take (length bytes - 0) bytes) = h ∙ read in
    let start : (header_of (take (length bytes - 0) bytes)).body ≡ 0 + (header_of (take (length bytes - 0) bytes)).body = omega arith in
    ap (λ k. message_at k (length bytes) content) b ∙ ap (λ k. message_at header.body (length bytes) k) c
    ∙ ap (λ (k : Header). message_at k.body (length bytes) (content_of (codes "text/plain") k.fields)) is
    ∙ ap (λ k. message_at k (length bytes) (content_of (codes "text/plain") (header_of (take (length bytes - 0) bytes)).fields)) start

-- the message alone waits
pub start_stands : (bytes : List ℕ) (parts : List PartValue) (none waiting : List Node) (m : Node) → parts ≡ [] → none ≡ [] → waiting ≡ none ++ m ∷ [] → m ≡ message_of bytes → (tree_after_steps bytes 2001 parts (reverse waiting)).parts ≡ parts_of bytes
unfolding parts_of
start_stands bytes parts none waiting m e f g h =
    let items : waiting ≡ message_of bytes ∷ [] = g ∙ ap (λ ns. ns ++ m ∷ []) f ∙ ap (λ x. x ∷ []) h in
    ap (λ ps. (tree_after_steps bytes 2001 ps (reverse waiting)).parts) e ∙ ap (λ ws. (tree_after_steps bytes 2001 [] (reverse ws)).parts) items

pub step_stands : (bytes : List ℕ) (step : ℕ) (parts now whole : List PartValue) (was rest next : List Node) (n : Node) → step < 2001 → was ≡ n ∷ rest → now ≡ (open_first bytes parts n rest).parts → next ≡ (open_first bytes parts n rest).waiting → (tree_after_steps bytes (2001 - step) parts was).parts ≡ whole → (tree_after_steps bytes (2001 - (step + 1)) now next).parts ≡ whole
step_stands bytes step parts now whole was rest next n lt e f g s =
    let k = 2001 - (step + 1) in
    let left : 2001 - step ≡ k + 1 = omega arith in
    ap (λ ps. (tree_after_steps bytes k ps next).parts) f ∙ ap (λ ns. (tree_after_steps bytes k (open_first bytes parts n rest).parts ns).parts) g
    ∙ sym (ap (λ (t : Opened). t.parts) (opened_settle bytes k parts n rest))
    ∙ ap (λ ns. (tree_after_steps bytes (k + 1) parts ns).parts) (sym e) ∙ ap (λ j. (tree_after_steps bytes j parts was).parts) (sym left) ∙ s

opened_zero : (bytes : List ℕ) (parts : List PartValue) (waiting : List Node) → (tree_after_steps bytes 0 parts waiting).parts ≡ parts
unfolding tree_after_steps
opened_zero bytes parts [] = refl
opened_zero bytes parts (n ∷ rest) = refl

pub end_stands : (bytes : List ℕ) (step : ℕ) (parts whole : List PartValue) (was : List Node) → 2001 ≤ step → (tree_after_steps bytes (2001 - step) parts was).parts ≡ whole → parts ≡ whole
end_stands bytes step parts whole was h s =
    let left : 2001 - step ≡ 0 = omega arith in
    sym (opened_zero bytes parts was) ∙ ap (λ j. (tree_after_steps bytes j parts was).parts) (sym left) ∙ s

pub none_stands : (bytes : List ℕ) (step : ℕ) (parts whole : List PartValue) (waiting : List Node) → length waiting ≡ 0 → (tree_after_steps bytes (2001 - step) parts (reverse waiting)).parts ≡ whole → parts ≡ whole
none_stands bytes step parts whole [] h s = sym (opened_none bytes (2001 - step) parts) ∙ s
none_stands bytes step parts whole (n ∷ rest) h s = absurd (omega arith)

pub next_place : (bytes : List ℕ) (n : Node) (was now : List Node) → was ≡ now ++ n ∷ [] → All (IsSound bytes) (reverse was) → IsSound bytes n × All (IsSound bytes) (reverse now)
next_place bytes n was now e all = all_popped bytes n (reverse now) (subst (λ (ns : List Node). All (IsSound bytes) ns) (popped now n was e) all)

pub first_place : (bytes : List ℕ) (n : Node) (none waiting : List Node) → none ≡ [] → waiting ≡ none ++ n ∷ [] → IsSound bytes n → All (IsSound bytes) (reverse waiting)
first_place bytes n none waiting e f h =
    let one : n ∷ [] ≡ reverse waiting = sym (ap reverse (f ∙ ap (λ ns. ns ++ n ∷ []) e)) in
    subst (λ (ns : List Node). All (IsSound bytes) ns) one (All-push (IsSound bytes) [] n (λ k d g. absurd (omega arith)) h)

pub range_read : (rs : List Range) (i : ℕ) → i < length rs → get_or rs i (range 0 0) ≡ get_or rs i (get_or rs i (range 0 0))
range_read [] i h = absurd (omega arith)
range_read (r ∷ rs) zero h = refl
range_read (r ∷ rs) (suc i) h = range_read rs i (omega arith)

-- how many nodes are the whole body of a message
abbrev pub whole_count : List Node → ℕ
whole_count [] = 0
whole_count (n ∷ ns) = cond (is_body n.position) 1 0 + whole_count ns

whole_append : (ns ms : List Node) → whole_count (ns ++ ms) ≡ whole_count ns + whole_count ms
whole_append [] ms = omega arith
whole_append (n ∷ ns) ms = omega (arith, whole_append ns ms)

whole_children : (bytes : List ℕ) (n : Node) (k : ℕ) (rs : List Range) → whole_count (children_from bytes n k rs) ≡ 0
unfolding children_from node_at
whole_children bytes n k [] = refl
whole_children bytes n k (r ∷ rs) = omega (arith, whole_children bytes n (k + 1) rs)

pub opens_size : (bytes : List ℕ) (others : ℕ) (n : Node) → opens_beside bytes others n ≡ true → others + length (own_parts bytes n) + length (children_of bytes n) ≤ 1000
unfolding opens_beside
opens_size bytes others n h = leb-true (others + length (own_parts bytes n) + length (children_of bytes n)) 1000 ((and_parts (can_open n) _ h).1)

-- opening a node makes the work less: twice the parts that may come, and the nodes that may be none
record Less (bytes : List ℕ) (n : Node) : Type 0 where
  pub less : 1 + whole_count (children_of bytes n) ≤ 2 * length (own_parts bytes n) + cond (is_body n.position) 1 0

inside_one : (bytes : List ℕ) (n : Node) → false ≡ is_multipart n.content.mime → whole_count (children_of bytes n) ≡ 1
unfolding node_at
inside_one bytes n h = ap whole_count (inside_message bytes n h)

one_of : (t : Bool) (p : PartValue) → length (cond t [] (p ∷ [])) ≡ cond t 0 1
one_of true p = refl
one_of false p = refl

own_of : (bytes : List ℕ) (w m : Bool) (n : Node) → is_body n.position ≡ w → is_multipart n.content.mime ≡ m → length (own_parts bytes n) ≡ cond (w && m) 0 1
own_of bytes w m n e f =
    ap {B = ℕ} (λ t. length (cond t [] (part_of bytes n false ∷ []))) (ap {B = Bool} (λ x. x && is_multipart n.content.mime) e ∙ ap {B = Bool} (λ y. w && y) f)
    ∙ one_of (w && m) (part_of bytes n false)

less : (bytes : List ℕ) (n : Node) → Less bytes n
less bytes n =
    elim (cases_Bool (is_multipart n.content.mime)) [
      | inl parts ↦
          let none : whole_count (children_of bytes n) ≡ 0 = ap whole_count (inside_multipart bytes n (sym parts)) ∙ whole_children bytes n 1 (places (unwrap_or n.content.boundary []) (slice_range bytes n.body n.to)) in
          elim (cases_Bool (is_body n.position)) [
            | inl whole ↦ record { less = omega (arith, none, own_of bytes true true n whole parts, ap {B = ℕ} (λ b. cond b 1 0) whole) }
            | inr inner ↦ record { less = omega (arith, none, own_of bytes false true n inner parts, ap {B = ℕ} (λ b. cond b 1 0) inner) }
          ]
      | inr one ↦
          elim (cases_Bool (is_body n.position)) [
            | inl whole ↦ record { less = omega (arith, inside_one bytes n (sym one), own_of bytes true false n whole one, ap {B = ℕ} (λ b. cond b 1 0) whole) }
            | inr inner ↦ record { less = omega (arith, inside_one bytes n (sym one), own_of bytes false false n inner one, ap {B = ℕ} (λ b. cond b 1 0) inner) }
          ]
    ]

-- these steps are enough
pub enough : (bytes : List ℕ) (steps : ℕ) (parts : List PartValue) (waiting : List Node) → length parts + length waiting ≤ 1000 → 2 * (1000 - length parts) + whole_count waiting ≤ steps → (tree_after_steps bytes steps parts waiting).waiting ≡ []
unfolding tree_after_steps
enough bytes steps parts [] size work = refl
enough bytes zero parts (n ∷ rest) size work = absurd (omega arith)
enough bytes (suc steps) parts (n ∷ rest) size work =
    elim (cases_Bool (opens_beside bytes (length parts + length rest) n)) [
      | inl yes' ↦
          let fits = opens_size bytes (length parts + length rest) n yes' in
          let next = settle_open bytes parts n rest yes' in
          let l = less bytes n in
          ap (λ (t : Opened). (tree_after_steps bytes steps t.parts t.waiting).waiting) next
          ∙ enough bytes steps (parts ++ own_parts bytes n) (children_of bytes n ++ rest)
          (omega (arith, fits, length-append parts (own_parts bytes n), length-append (children_of bytes n) rest))
          (omega (arith, fits, l.less, length-append parts (own_parts bytes n), length-append (children_of bytes n) rest, whole_append (children_of bytes n) rest))
      | inr no' ↦
          let leaf = part_of bytes n (is_raw n.content) in
          ap (λ (t : Opened). (tree_after_steps bytes steps t.parts t.waiting).waiting) (settle_leaf bytes parts n rest no')
          ∙ enough bytes steps (parts ++ leaf ∷ []) rest
          (omega (arith, length-append parts (leaf ∷ [])))
          (omega (arith, length-append parts (leaf ∷ [])))
    ]
