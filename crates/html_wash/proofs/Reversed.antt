-- Elements that are kept with the innermost last, as names with the innermost first.
use Rattle.std.proofs.Common.{◌≡◌, ℕ, suc, ◌+◌, ◌-◌, ◌<◌, ◌≤◌, Bool, true, false, not, ◌||◌, cond, if◌then◌else◌, List, [], ◌∷◌, ◌++◌, length, map, take, drop, reverse, get_or, refl, sym, ap, subst, ◌∙◌, arith}
use Rattle.std.proofs.lemmas.List.{map-append, reverse-append, reverse-reverse, length-reverse, length-map, length-drop, take-append-drop, take_at, drop_at, take_more, take_rest, get_or_default}
use Rattle.std.proofs.lemmas.List.Sums.{suffix_len-take_no, suffix_len-take_yes, prefix_len-le-length, position_or_len_is}
use Rattle.std.specs.List.{prefix_len, suffix_len, position_or_len}
use borrow.Author.Count.{below_more}
use Rattle.html_syntax.specs.Tokenizer.{same, is_among}
use Rattle.html_rules.specs.Tables.{Name}
use Rattle.html_wash.specs.Closings.{Lookup, region, count_to_outermost, looked_up, blocks, begins_with_element, ended}
use Rattle.html_wash.specs.Elements.{name_of}
use Rattle.html_wash.specs.Seen.{stack}
use Rattle.html_wash.specs.declared.element.Element.{Element}
use Rattle.html_wash.specs.declared.element.Element.TheVariants as element

-- ---- reversed lists

pub map-reverse : {A B : Type 0} (f : A → B) (xs : List A) → map f (reverse xs) ≡ reverse (map f xs)
map-reverse f [] = refl
map-reverse {A} {B} f (x ∷ xs) =
    ap (map f) (reverse-append (x ∷ []) xs) ∙ map-append f (reverse xs) (x ∷ [])
    ∙ ap (λ (ys : List B). ys ++ f x ∷ []) (map-reverse f xs)
    ∙ sym (reverse-append (f x ∷ []) (map f xs))

pub prefix_len-map : {A B : Type 0} (q : B → Bool) (f : A → B) (xs : List A) → prefix_len q (map f xs) ≡ prefix_len (λ x. q (f x)) xs
prefix_len-map q f [] = refl
prefix_len-map q f (x ∷ xs) = ap (λ (n : ℕ). cond (q (f x)) (1 + n) 0) (prefix_len-map q f xs)

pub suffix_len-stack : (q : Name → Bool) (elements : List Element) → prefix_len q (stack elements) ≡ suffix_len (λ e. q (name_of e)) elements
suffix_len-stack q elements = ap (prefix_len q) (sym (map-reverse name_of elements)) ∙ prefix_len-map q name_of (reverse elements)

-- the names in two parts
stack_parts : (start : ℕ) (elements : List Element) → stack elements ≡ stack (drop start elements) ++ stack (take start elements)
stack_parts start elements =
    ap stack (sym (take-append-drop start elements)) ∙ ap reverse (map-append name_of (take start elements) (drop start elements))
    ∙ reverse-append (map name_of (take start elements)) (map name_of (drop start elements))

pub length-stack : (elements : List Element) → length (stack elements) ≡ length elements
length-stack elements = length-reverse (map name_of elements) ∙ length-map elements name_of

take-stack : (start n : ℕ) (elements : List Element) → start + n ≡ length elements → take n (stack elements) ≡ stack (drop start elements)
take-stack start n elements e =
    ap (take n) (stack_parts start elements)
    ∙ take_at (stack (drop start elements)) (stack (take start elements)) n (length-stack (drop start elements) ∙ omega (arith, length-drop start elements))

drop-stack : (start n : ℕ) (elements : List Element) → start + n ≡ length elements → drop n (stack elements) ≡ stack (take start elements)
drop-stack start n elements e =
    ap (drop n) (stack_parts start elements)
    ∙ drop_at (stack (drop start elements)) (stack (take start elements)) n (length-stack (drop start elements) ∙ omega (arith, length-drop start elements))

pub stack_pushed : (elements : List Element) (e : Element) → stack (elements ++ e ∷ []) ≡ name_of e ∷ stack elements
stack_pushed elements e = ap reverse (map-append name_of elements (e ∷ [])) ∙ reverse-append (map name_of elements) (name_of e ∷ [])

-- ---- a loop that looks outward

-- `n` elements are left, and those inside passed
pub record IsLeft (p : Element → Bool) (elements : List Element) (n : ℕ) : Type 0 where
  pub within : n ≤ length elements
  pub passed : suffix_len p (take n elements) + (length elements - n) ≡ suffix_len p elements

pub left_stop : (p : Element → Bool) (elements : List Element) (n : ℕ) (d : Element) → 0 < n → p (get_or elements (n - 1) d) ≡ false → IsLeft p elements n → n + suffix_len p elements ≡ length elements
left_stop p elements n d some e l = let within = l.within in let passed = l.passed in omega (arith, suffix_len-take_no p elements n d some within e)

pub left_more : (p : Element → Bool) (elements : List Element) (n m : ℕ) (d : Element) → n - 1 ≡ m → 0 < n → p (get_or elements (n - 1) d) ≡ true → IsLeft p elements n → IsLeft p elements m
left_more p elements n m d is some e l =
    let within = l.within in
    let passed = l.passed in
    let one : suffix_len p (take n elements) ≡ 1 + suffix_len p (take (n - 1) elements) = suffix_len-take_yes p elements n d some within e in
    subst (IsLeft p elements) is (record { within = omega arith; passed = omega arith })

-- ---- what is closed

pub looked_up_is : (l : Lookup) (elements : List Element) (start first : ℕ) → start + suffix_len (λ e. not (is_among l.stops (name_of e))) elements ≡ length elements → first ≡ position_or_len (λ e. is_among l.closes (name_of e)) (drop start elements) → length (drop start elements) - first ≡ looked_up l (stack elements)
unfolding looked_up
looked_up_is l elements start first s f =
    let inner = drop start elements in
    let n = position_or_len (is_among l.stops) (stack elements) in
    let count : n ≡ suffix_len (λ (e : Element). not (is_among l.stops (name_of e))) elements = suffix_len-stack (λ (name : Name). not (is_among l.stops name)) elements in
    let part : region l (stack elements) ≡ stack inner = take-stack start n elements (omega arith) in
    let first_is : suffix_len (λ (name : Name). not (is_among l.closes name)) (stack inner) ≡ first =
    ap (prefix_len (λ (name : Name). not (is_among l.closes name))) (reverse-reverse (map name_of inner)) ∙ prefix_len-map (λ (name : Name). not (is_among l.closes name)) name_of inner ∙ sym f in
    sym (ap (count_to_outermost l.closes) part ∙ ap (λ (k : ℕ). k - suffix_len (λ (name : Name). not (is_among l.closes name)) (stack inner)) (length-stack inner) ∙ ap (λ (k : ℕ). length inner - k) first_is)

-- an end tag looks past neither elements of its name nor those that block it
abbrev pub passes : Name → Element → Bool
passes name e = not (same (name_of e) name || blocks name (name_of e))

ended_at : (name : Name) (elements : List Element) (start n : ℕ) → start + n ≡ length elements → n ≡ suffix_len (passes name) elements → ended name (stack elements) ≡ (if begins_with_element name (stack (take start elements)) then suc n else 0)
unfolding ended
ended_at name elements start n s e =
    let count : position_or_len (λ (element : Name). same element name || blocks name element) (stack elements) ≡ n = suffix_len-stack (λ (element : Name). not (same element name || blocks name element)) elements ∙ sym e in
    ap (λ (k : ℕ). if begins_with_element name (drop k (stack elements)) then suc k else 0) count
    ∙ ap (λ (names : List Name). if begins_with_element name names then suc n else 0) (drop-stack start n elements s)

pub ended_nowhere : (name : Name) (elements : List Element) (start : ℕ) → start + suffix_len (passes name) elements ≡ length elements → start ≡ 0 → ended name (stack elements) ≡ 0
ended_nowhere name elements start s z =
    ended_at name elements start (suffix_len (passes name) elements) s refl
    ∙ ap (λ (k : ℕ). if begins_with_element name (stack (take k elements)) then suc (suffix_len (passes name) elements) else 0) z

pub ended_by : (name : Name) (elements : List Element) (start : ℕ) (d : Element) (b : Bool) → start + suffix_len (passes name) elements ≡ length elements → 0 < start → same (name_of (get_or elements (start - 1) d)) name ≡ b → ended name (stack elements) ≡ cond b (suc (length elements - start)) 0
ended_by name elements start d b s some e =
    let last = get_or elements (start - 1) d in
    let front : take start elements ≡ take (start - 1) elements ++ last ∷ [] = ap (λ (k : ℕ). take k elements) (omega arith) ∙ take_more elements (start - 1) d (omega arith) in
    let first : stack (take start elements) ≡ name_of last ∷ stack (take (start - 1) elements) = ap stack front ∙ stack_pushed (take (start - 1) elements) last in
    ended_at name elements start (suffix_len (passes name) elements) s refl
    ∙ ap (λ (names : List Name). if begins_with_element name names then suc (suffix_len (passes name) elements) else 0) first
    ∙ ap (λ (t : Bool). cond t (suc (suffix_len (passes name) elements)) 0) e
    ∙ ap (λ (k : ℕ). cond b (suc k) 0) (omega arith)

-- the same of a vector's slice, and the element before the place
pub ended_at_index : (name : Name) (slice items : List Element) (opened : List Name) (start : ℕ) (d : Element) (b : Bool) → slice ≡ items → stack items ≡ opened → start + suffix_len (passes name) slice ≡ length slice → (start ≡ 0 → ⊥) → d ≡ get_or items (start - 1) d → b ≡ same (name_of d) name → ended name opened ≡ cond b (suc (length items - start)) 0
ended_at_index name slice items opened start d b same_items view s some is e =
    let left : start + suffix_len (passes name) items ≡ length items = subst (λ (xs : List Element). start + suffix_len (passes name) xs ≡ length xs) same_items s in
    let more : 0 < start = omega (arith, some) in
    sym (ap (ended name) view) ∙ ended_by name items start d b left more (ap (λ (x : Element). same (name_of x) name) (sym is) ∙ sym e)

-- the same of a slice's rest
pub first_le : (p : Element → Bool) (elements : List Element) (first : ℕ) → first ≡ position_or_len p elements → first ≤ length elements
first_le p elements first e = omega (arith, prefix_len-le-length (λ x. not (p x)) elements)

pub looked_up_in : (l : Lookup) (slice : List Element) (opened : List Name) (start first : ℕ) → stack slice ≡ opened → start + suffix_len (λ e. not (is_among l.stops (name_of e))) slice ≡ length slice → first ≡ position_or_len (λ e. is_among l.closes (name_of e)) (take (length slice - start) (drop start slice)) → length (take (length slice - start) (drop start slice)) - first ≡ looked_up l opened
looked_up_in l slice opened start first seen s f =
    let rest = take_rest slice start in
    ap (λ (xs : List Element). length xs - first) rest
    ∙ looked_up_is l slice start first s (f ∙ ap (position_or_len (λ (e : Element). is_among l.closes (name_of e))) rest)
    ∙ ap (looked_up l) seen

-- ---- a loop that looks inward for the first one

abbrev pub NoneBefore : (Element → Bool) → List Element → ℕ → Type 0
NoneBefore p elements i = (k : ℕ) (d : Element) → k < i → p (get_or elements k d) ≡ false

pub first_here : (p : Element → Bool) (elements : List Element) (i : ℕ) (d : Element) → i < length elements → NoneBefore p elements i → p (get_or elements i d) ≡ true → i ≡ position_or_len p elements
first_here p elements i d lt none e = sym (position_or_len_is p elements i d (omega arith) (λ k h. none k d h) (λ h. e))

pub first_nowhere : (p : Element → Bool) (elements : List Element) (i : ℕ) → length elements ≤ i → i ≤ length elements → NoneBefore p elements i → length elements ≡ position_or_len p elements
first_nowhere p elements i le end none = sym (position_or_len_is p elements (length elements) element.A (omega arith) (λ k h. none k element.A (omega arith)) (λ h. absurd (omega arith)))

pub none_more : (p : Element → Bool) (elements : List Element) (i : ℕ) (d : Element) → i < length elements → NoneBefore p elements i → p (get_or elements i d) ≡ false → NoneBefore p elements (i + 1)
none_more p elements i d lt none e k x h =
    below_more (λ (j : ℕ). (y : Element) → p (get_or elements j y) ≡ false) i (λ (j : ℕ) (l : j < i) (y : Element). none j y l) (λ (y : Element). ap p (get_or_default elements i y d lt) ∙ e) k h x
