-- No line of a part is a delimiter line of a multipart around it.
use Rattle.std.proofs.Common.{◌≡◌, ℕ, zero, suc, ◌+◌, ◌-◌, ◌<◌, ◌≤◌, inl, inr, Bool, true, false, ◌||◌, not, cond, List, [], ◌∷◌, ◌++◌, length, get_or, take, drop, refl, sym, ap, ◌∙◌, subst, arith, length-drop}
use Rattle.std.proofs.lemmas.Bool.{and_parts, or_right, cases_Bool}
use Rattle.std.proofs.lemmas.List.{drop-drop, drop-take, take-take, length-take-le}
use Rattle.std.proofs.lemmas.List.Elements.{All-nil, All-contains}
use Rattle.std.proofs.lemmas.List.Sums.{AllPass-from_list_all, list_all-from_AllPass}
use Rattle.std.specs.Prelude.{All, Some, codes, unwrap_or, slice_range}
use Rattle.std.specs.List.{list_all}
use Rattle.std.specs.Str.Lines.{lines}
use Rattle.header_words.specs.Lines.{first_text, first_size, body_of, is_filled}
use Rattle.header_words.specs.Fields.{header_of}
use Rattle.header_words.proofs.FirstLine as header
use Rattle.mime_tree.specs.declared.body.Range.{Range}
use Rattle.mime_tree.specs.declared.node.Position.{Position}
use Rattle.mime_tree.specs.declared.node.Position.TheVariants.{Body, Child}
use Rattle.mime_tree.specs.declared.node.Node.{Node}
use Rattle.mime_tree.specs.Body.{is_delimiter_line, places}
use Rattle.mime_tree.specs.Content.{is_multipart, default_in}
use Rattle.mime_tree.specs.Opening.{node_at, children_from, children_of, prefix_of, section_of}
use Rattle.mime_tree.specs.Laws.{IsClear, HasPlace, IsInside, direct, deeper, OuterLinesEndParts}
use Rattle.mime_tree.proofs.OpeningLemmas.{inside_message, inside_multipart}
use Rattle.mime_tree.proofs.LineLaws.{Each, EachPasses, places_pass}

-- the lines of a body are lines of what has it
record InBody (q : List ℕ → Bool) (xs : List ℕ) : Type 0 where
  within : body_of xs ≤ length xs
  each : Each q (drop (body_of xs) xs)

in_body : (fuel : ℕ) (q : List ℕ → Bool) (xs : List ℕ) → length xs ≤ fuel → Each q xs → InBody q xs
in_body fuel q [] h each = record { within = omega arith; each = refl }
in_body zero q (x ∷ rest) h each = absurd (omega arith)
in_body (suc fuel) q (x ∷ rest) h each =
    let xs = x ∷ rest in
    let some : 0 < length xs = omega arith in
    let n = first_size xs in
    let pos : 0 < n = omega arith in
    let fits : n ≤ length xs = omega arith in
    let left : length (drop n xs) ≡ length xs - n = length-drop n xs in
    let after : Each q (drop n xs) = (and_parts (q (first_text xs)) _ (ap (list_all q) (sym (header.lines_step xs some)) ∙ each)).1 in
    elim (cases_Bool (is_filled (first_text xs))) [
      | inl full ↦
          let size : body_of xs ≡ n + body_of (drop n xs) = header.body_step xs some ∙ ap (λ t. n + cond t (body_of (drop n xs)) 0) full in
          let below = in_body fuel q (drop n xs) (omega (arith, left)) after in
          let same : drop (body_of (drop n xs)) (drop n xs) ≡ drop (body_of xs) xs = drop-drop (body_of (drop n xs)) n xs ∙ ap (λ k. drop k xs) (sym size) in
          record { within = omega (arith, size, below.within, left); each = subst (λ (ys : List ℕ). Each q ys) same below.each }
      | inr empty ↦
          let none : body_of xs ≡ n + 0 = header.body_step xs some ∙ ap (λ t. n + cond t (body_of (drop n xs)) 0) empty in
          let size : body_of xs ≡ n = omega (arith, none) in
          record { within = omega (arith, size); each = subst (λ (k : ℕ). Each q (drop k xs)) (sym size) after }
    ]

-- the body of a node at a place
node_passes : (bytes default : List ℕ) (position : Position) (around : ℕ) (enclosed : Bool) (from to : ℕ) (q : List ℕ → Bool) → from ≤ to → to ≤ length bytes → Each q (slice_range bytes from to) → Each q (slice_range bytes (node_at bytes default position around enclosed from to).body (node_at bytes default position around enclosed from to).to)
unfolding node_at header_of
node_passes bytes default position around enclosed from to q le fits each =
    let xs = slice_range bytes from to in
    let size : length xs ≡ to - from = length-take-le (to - from) (drop from bytes) (omega (arith, length-drop from bytes)) in
    let b = in_body (length xs) q xs (omega arith) each in
    let h = body_of xs in
    let m = to - (from + h) in
    let whole : to - from ≡ h + m = omega (arith, size, b.within) in
    let same : drop h xs ≡ slice_range bytes (from + h) to =
    ap (λ k. drop h (take k (drop from bytes))) whole ∙ drop-take h m (drop from bytes) ∙ ap (take m) (drop-drop h from bytes) in
    subst (λ (ys : List ℕ). Each q ys) same b.each

-- a place in a body is one of the message
slice_slice : (bytes : List ℕ) (a b f t : ℕ) → a ≤ b → b ≤ length bytes → f ≤ t → t ≤ b - a → slice_range (slice_range bytes a b) f t ≡ slice_range bytes (a + f) (a + t)
slice_slice bytes a b f t ab fits ft tb =
    let n = b - a in
    let whole : n ≡ f + (n - f) = omega arith in
    let size : t - f ≡ (a + t) - (a + f) = omega arith in
    ap (λ k. take (t - f) (drop f (take k (drop a bytes)))) whole
    ∙ ap (take (t - f)) (drop-take f (n - f) (drop a bytes))
    ∙ take-take (t - f) (n - f) (drop f (drop a bytes)) (omega arith)
    ∙ ap (take (t - f)) (drop-drop f a bytes)
    ∙ ap (λ k. take k (drop (a + f) bytes)) size

abbrev EachNode : (List ℕ → Bool) → List ℕ → List Node → Type 0
EachNode q bytes ns = All (λ (n : Node). Each q (slice_range bytes n.body n.to)) ns

at_cons : (q : List ℕ → Bool) (bytes : List ℕ) (n : Node) (ns : List Node) → Each q (slice_range bytes n.body n.to) → EachNode q bytes ns → (k : ℕ) (d : Node) → k < length (n ∷ ns) → Each q (slice_range bytes (get_or (n ∷ ns) k d).body (get_or (n ∷ ns) k d).to)
at_cons q bytes n ns h g zero d lt = h
at_cons q bytes n ns h g (suc k) d lt = g k d (omega arith)

all_cons : (q : List ℕ → Bool) (bytes : List ℕ) (n : Node) (ns : List Node) → Each q (slice_range bytes n.body n.to) → EachNode q bytes ns → EachNode q bytes (n ∷ ns)
all_cons q bytes n ns h g = λ k d lt. at_cons q bytes n ns h g k d lt

children_pass : (q : List ℕ → Bool) (bytes : List ℕ) (n : Node) (k : ℕ) (rs : List Range) → n.body ≤ n.to → n.to ≤ length bytes → EachPasses q (slice_range bytes n.body n.to) rs → EachNode q bytes (children_from bytes n k rs)
unfolding children_from
children_pass q bytes n k [] le fits h = All-nil (λ (m : Node). Each q (slice_range bytes m.body m.to))
children_pass q bytes n k (r ∷ rs) le fits h =
    let size : length (slice_range bytes n.body n.to) ≡ n.to - n.body = length-take-le (n.to - n.body) (drop n.body bytes) (omega (arith, length-drop n.body bytes)) in
    let ordered = h.0.within.ordered in
    let within = h.0.within.within in
    let here : Each q (slice_range bytes (n.body + r.from) (n.body + r.to)) =
    subst (λ (ys : List ℕ). Each q ys) (slice_slice bytes n.body n.to r.from r.to le fits ordered (omega (arith, within, size))) h.0.each in
    let one = node_passes bytes (default_in n.content.mime) (Child (prefix_of n.position ++ k ∷ [])) (n.around + 1) n.enclosed (n.body + r.from) (n.body + r.to) q (omega (arith, ordered)) (omega (arith, within, size)) here in
    all_cons q bytes (node_at bytes (default_in n.content.mime) (Child (prefix_of n.position ++ k ∷ [])) (n.around + 1) n.enclosed (n.body + r.from) (n.body + r.to)) (children_from bytes n (k + 1) rs) one (children_pass q bytes n (k + 1) rs le fits h.1)

abbrev clear_of : List ℕ → List ℕ → Bool
clear_of boundary l = not (is_delimiter_line boundary l)

or_not : (b : Bool) → (b || not b) ≡ true
or_not true = refl
or_not false = refl

all_true : (ls : List (List ℕ)) → list_all (λ l. true) ls ≡ true
all_true [] = refl
all_true (l ∷ ls) = all_true ls

all_or_not : (boundary : List ℕ) (ls : List (List ℕ)) → list_all (λ l. is_delimiter_line boundary l || clear_of boundary l) ls ≡ true
all_or_not boundary [] = refl
all_or_not boundary (l ∷ ls) = rw (or_not (is_delimiter_line boundary l)) (all_or_not boundary ls)

all_or : (boundary : List ℕ) (q : List ℕ → Bool) (ls : List (List ℕ)) → list_all q ls ≡ true → list_all (λ l. is_delimiter_line boundary l || q l) ls ≡ true
all_or boundary q ls h =
    let pass = AllPass-from_list_all q ls h in
    list_all-from_AllPass (λ l. is_delimiter_line boundary l || q l) ls (λ k d lt. or_right _ _ (pass k d lt))

not_true : (b : Bool) → not b ≡ true → b ≡ false
not_true true h = absurd cc
not_true false h = refl

not_false : (b : Bool) → b ≡ false → not b ≡ true
not_false true h = absurd cc
not_false false h = refl

clear_from : (bytes boundary : List ℕ) (n : Node) → Each (clear_of boundary) (slice_range bytes n.body n.to) → IsClear bytes boundary n
clear_from bytes boundary n h =
    let pass = AllPass-from_list_all (clear_of boundary) (lines (slice_range bytes n.body n.to)) h in
    λ k d lt. not_true _ (pass k d lt)

clear_to : (bytes boundary : List ℕ) (n : Node) → IsClear bytes boundary n → Each (clear_of boundary) (slice_range bytes n.body n.to)
clear_to bytes boundary n h = list_all-from_AllPass (clear_of boundary) (lines (slice_range bytes n.body n.to)) (λ k d lt. not_false _ (h k d lt))

-- a test that each line of a node's body passes, or each that delimits no part of it
inside_passes : (q : List ℕ → Bool) (bytes : List ℕ) (n : Node) → n.body ≤ n.to → n.to ≤ length bytes → Each q (slice_range bytes n.body n.to) → EachNode q bytes (children_of bytes n)
inside_passes q bytes n le fits each =
    let text = slice_range bytes n.body n.to in
    let boundary = unwrap_or n.content.boundary [] in
    elim (cases_Bool (is_multipart n.content.mime)) [
      | inl parts ↦
          subst (λ (ns : List Node). EachNode q bytes ns) (sym (inside_multipart bytes n (sym parts)))
          (children_pass q bytes n 1 (places boundary text) le fits (places_pass boundary q text (all_or boundary q (lines text) each)))
      | inr one ↦
          subst (λ (ns : List Node). EachNode q bytes ns) (sym (inside_message bytes n (sym one)))
          (all_cons q bytes (node_at bytes (codes "text/plain") (Body (Some (section_of n.position))) (n.around + 1) true n.body n.to) []
          (node_passes bytes (codes "text/plain") (Body (Some (section_of n.position))) (n.around + 1) true n.body n.to q le fits each)
          (All-nil (λ (m : Node). Each q (slice_range bytes m.body m.to))))
    ]

own_passes : (bytes : List ℕ) (n : Node) → n.body ≤ n.to → n.to ≤ length bytes → is_multipart n.content.mime ≡ true → EachNode (clear_of (unwrap_or n.content.boundary [])) bytes (children_of bytes n)
own_passes bytes n le fits parts =
    let text = slice_range bytes n.body n.to in
    let boundary = unwrap_or n.content.boundary [] in
    subst (λ (ns : List Node). EachNode (clear_of boundary) bytes ns) (sym (inside_multipart bytes n (sym parts)))
    (children_pass (clear_of boundary) bytes n 1 (places boundary text) le fits (places_pass boundary (clear_of boundary) text (all_or_not boundary (lines text))))

-- the nodes in a node have places if that node has one
node_place : (bytes default : List ℕ) (position : Position) (around : ℕ) (enclosed : Bool) (from to : ℕ) → from ≤ to → to ≤ length bytes → HasPlace bytes (node_at bytes default position around enclosed from to)
unfolding node_at header_of
node_place bytes default position around enclosed from to le fits =
    let xs = slice_range bytes from to in
    let size : length xs ≡ to - from = length-take-le (to - from) (drop from bytes) (omega (arith, length-drop from bytes)) in
    let b = in_body (length xs) (λ l. true) xs (omega arith) (all_true (lines xs)) in
    record { ordered = omega (arith, size, b.within); within = fits }

places_cons : (bytes : List ℕ) (n : Node) (ns : List Node) → HasPlace bytes n → All (HasPlace bytes) ns → (k : ℕ) (d : Node) → k < length (n ∷ ns) → HasPlace bytes (get_or (n ∷ ns) k d)
places_cons bytes n ns h g zero d lt = h
places_cons bytes n ns h g (suc k) d lt = g k d (omega arith)

children_place : (bytes : List ℕ) (n : Node) (k : ℕ) (rs : List Range) → n.body ≤ n.to → n.to ≤ length bytes → EachPasses (λ l. true) (slice_range bytes n.body n.to) rs → All (HasPlace bytes) (children_from bytes n k rs)
unfolding children_from
children_place bytes n k [] le fits h = All-nil (HasPlace bytes)
children_place bytes n k (r ∷ rs) le fits h =
    let size : length (slice_range bytes n.body n.to) ≡ n.to - n.body = length-take-le (n.to - n.body) (drop n.body bytes) (omega (arith, length-drop n.body bytes)) in
    let ordered = h.0.within.ordered in
    let within = h.0.within.within in
    let one = node_place bytes (default_in n.content.mime) (Child (prefix_of n.position ++ k ∷ [])) (n.around + 1) n.enclosed (n.body + r.from) (n.body + r.to) (omega (arith, ordered)) (omega (arith, within, size)) in
    let more = children_place bytes n (k + 1) rs le fits h.1 in
    λ i d lt. places_cons bytes (node_at bytes (default_in n.content.mime) (Child (prefix_of n.position ++ k ∷ [])) (n.around + 1) n.enclosed (n.body + r.from) (n.body + r.to)) (children_from bytes n (k + 1) rs) one more i d lt

inside_place : (bytes : List ℕ) (n : Node) → HasPlace bytes n → All (HasPlace bytes) (children_of bytes n)
inside_place bytes n place =
    let text = slice_range bytes n.body n.to in
    let boundary = unwrap_or n.content.boundary [] in
    elim (cases_Bool (is_multipart n.content.mime)) [
      | inl parts ↦
          subst (λ (ns : List Node). All (HasPlace bytes) ns) (sym (inside_multipart bytes n (sym parts)))
          (children_place bytes n 1 (places boundary text) place.ordered place.within (places_pass boundary (λ l. true) text (all_or boundary (λ l. true) (lines text) (all_true (lines text)))))
      | inr one ↦
          let body = node_place bytes (codes "text/plain") (Body (Some (section_of n.position))) (n.around + 1) true n.body n.to place.ordered place.within in
          subst (λ (ns : List Node). All (HasPlace bytes) ns) (sym (inside_message bytes n (sym one)))
          (λ i d lt. places_cons bytes (node_at bytes (codes "text/plain") (Body (Some (section_of n.position))) (n.around + 1) true n.body n.to) [] body (All-nil (HasPlace bytes)) i d lt)
    ]

-- a node in another, and the boundary of that one
record Inner (bytes boundary : List ℕ) (c : Node) : Type 0 where
  place : HasPlace bytes c
  clear : IsClear bytes boundary c

inner : (bytes : List ℕ) (n c : Node) → HasPlace bytes n → is_multipart n.content.mime ≡ true → IsInside bytes n c → Inner bytes (unwrap_or n.content.boundary []) c
inner bytes n _ place parts (direct c at) =
    let boundary = unwrap_or n.content.boundary [] in
    record {
      place = All-contains (HasPlace bytes) (children_of bytes n) c (inside_place bytes n place) at;
      clear = clear_from bytes boundary c (All-contains (λ (m : Node). Each (clear_of boundary) (slice_range bytes m.body m.to)) (children_of bytes n) c (own_passes bytes n place.ordered place.within parts) at);
    }
inner bytes n _ place parts (deeper m c stands at) =
    let boundary = unwrap_or n.content.boundary [] in
    let around = inner bytes n m place parts stands in
    record {
      place = All-contains (HasPlace bytes) (children_of bytes m) c (inside_place bytes m around.place) at;
      clear = clear_from bytes boundary c (All-contains (λ (k : Node). Each (clear_of boundary) (slice_range bytes k.body k.to)) (children_of bytes m) c
          (inside_passes (clear_of boundary) bytes m around.place.ordered around.place.within (clear_to bytes boundary m around.clear)) at);
    }

pub outer_lines_end_parts : (bytes : List ℕ) → OuterLinesEndParts bytes
outer_lines_end_parts bytes = λ n c place parts stands. (inner bytes n c place parts stands).clear
