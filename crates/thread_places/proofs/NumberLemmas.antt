-- The numbers of names, and a map whose keys are byte strings.
use Rattle.std.proofs.Common.{◌≡◌, ℕ, suc, ◌+◌, ◌≤◌, inl, inr, Bool, true, false, cond, eqb, List, [], ◌∷◌, ◌++◌, length, refl, sym, ap, ◌∙◌, subst, arith, length-append, ◌<◌, get_or, set, length-set, get_or-set_same, get_or-set_other, ◌||◌}
use Rattle.std.specs.Prelude.{Option, Some, None, nat_lt, position, bytes_eq, unwrap_or, ◌==◌, if◌then◌else◌, fold}
use Rattle.std.specs.List.{position_or_len, list_any}
use Rattle.std.specs.BTreeMap as tree
use Rattle.std.specs.BTreeMap.{BTreeMap}
use Rattle.std.specs.Map.{lookup, KeepsOthers, IsKeyTest, AreApart}
use Rattle.std.specs.Ordering.{is_eq, nat_cmp}
use Rattle.std.specs.Cmp.{eq_by_cmp_equiv}
use Rattle.std.specs.Cmp.Lexicographic.{slice_cmp, nat_list_cmp_total, nat_list_eq_equiv}
use Rattle.std.proofs.lemmas.Bool.{cases_Bool, cases_lt, lt-ltb, le-ltb, ne_eqb, eq-eqb, cond-true, cond-false, ltb-true, cases_eq}
use Rattle.std.proofs.lemmas.List.Folds.{position_or_len_push}
use Rattle.std.proofs.lemmas.List.Sums.{prefix_len-le-length}
use Rattle.std.proofs.lemmas.Map.Text.{is_eq-slice_cmp}
use Rattle.std.proofs.lemmas.Slice.Eq.{bytes_eq-Decides}
use Rattle.std.specs.List.{All}
use Rattle.std.proofs.lemmas.List.{get_or_append_left, get_or_push}
use Rattle.std.proofs.lemmas.List.Elements.{All-nil, All-head, All-tail, All-weaker, All-push, All-map}
use Rattle.std.proofs.lemmas.List.Folds.{list_any-append}
use Rattle.thread_places.specs.declared.names.Names.{Names}
use Rattle.thread_places.specs.Links.{is_among}
use Rattle.thread_places.specs.declared.facts.Facts.{Facts}
use Rattle.thread_places.specs.Numbers.{HasNames, AreBelow}
use Rattle.thread_places.specs.Messages.{Name, is_named, Entry, References, Numbering, nodes, add_id, number_of, number_id, number_ids, free_name, own_name, add_name, number_for, add_entry, number_message, number_messages}

-- ---- places

any_by_place : {X : Type 0} (p : X → Bool) (xs : List X) → list_any p xs ≡ nat_lt (position_or_len p xs) (length xs)
any_by_place p [] = refl
any_by_place p (x ∷ xs) =
    elim (cases_Bool (p x)) [
      | inl passes ↦ rw passes (sym (lt-ltb 0 (length (x ∷ xs)) (omega arith)))
      | inr fails ↦
          let rest = any_by_place p xs in
          let place : position_or_len p (x ∷ xs) ≡ 1 + position_or_len p xs = rw fails refl in
          let any : list_any p (x ∷ xs) ≡ list_any p xs = rw fails refl in
          any ∙ rest ∙ one_more (position_or_len p xs) (length xs) ∙ ap (λ n. nat_lt n (length (x ∷ xs))) (sym place)
    ]
  where
    one_more : (m n : ℕ) → nat_lt m n ≡ nat_lt (1 + m) (suc n)
    one_more m n =
        elim (cases_lt m n) [
          | inl less ↦ lt-ltb m n less ∙ sym (lt-ltb (1 + m) (suc n) (omega arith))
          | inr more ↦ le-ltb m n more ∙ sym (le-ltb (1 + m) (suc n) (omega arith))
        ]

-- the place in a list with one more element
pub place_push : {X : Type 0} (p : X → Bool) (xs : List X) (y : X) → position p (xs ++ y ∷ []) ≡ cond (nat_lt (position_or_len p xs) (length xs)) (Some (position_or_len p xs)) (cond (p y) (Some (length xs)) None)
place_push p xs y =
    let size : length (xs ++ y ∷ []) ≡ length xs + 1 = length-append xs (y ∷ []) in
    elim (cases_lt (position_or_len p xs) (length xs)) [
      | inl less ↦
          let apart : eqb (position_or_len p xs) (length xs) ≡ false = ne_eqb (position_or_len p xs) (length xs) (λ e. absurd (omega arith)) in
          let same : position_or_len p (xs ++ y ∷ []) ≡ position_or_len p xs = position_or_len_push p xs y ∙ rw apart refl in
          rw same (rw (lt-ltb (position_or_len p xs) (length (xs ++ y ∷ [])) (omega arith)) (rw (lt-ltb (position_or_len p xs) (length xs) less) refl))
      | inr more ↦
          let most = prefix_len-le-length (λ x. cond (p x) false true) xs in
          let there : position_or_len p xs ≡ length xs = place_end p xs more in
          let pushed : position_or_len p (xs ++ y ∷ []) ≡ length xs + cond (p y) 0 1 = position_or_len_push p xs y ∙ rw (eq-eqb (position_or_len p xs) (length xs) there) refl in
          rw (le-ltb (position_or_len p xs) (length xs) more) (last (p y) pushed)
    ]
  where
    place_end : {X : Type 0} (p : X → Bool) (xs : List X) → length xs ≤ position_or_len p xs → position_or_len p xs ≡ length xs
    place_end p [] h = refl
    place_end p (x ∷ xs) h =
        elim (cases_Bool (p x)) [
          | inl passes ↦ let none : position_or_len p (x ∷ xs) ≡ 0 = rw passes refl in absurd (omega arith)
          | inr fails ↦ let place : position_or_len p (x ∷ xs) ≡ 1 + position_or_len p xs = rw fails refl in let rest = place_end p xs (omega arith) in omega arith
        ]

    last : (b : Bool) → position_or_len p (xs ++ y ∷ []) ≡ length xs + cond b 0 1 → position p (xs ++ y ∷ []) ≡ cond b (Some (length xs)) None
    last true e =
        let size : length (xs ++ y ∷ []) ≡ length xs + 1 = length-append xs (y ∷ []) in
        let at : position_or_len p (xs ++ y ∷ []) ≡ length xs = omega arith in
        rw at (rw (lt-ltb (length xs) (length (xs ++ y ∷ [])) (omega arith)) refl)
    last false e =
        let size : length (xs ++ y ∷ []) ≡ length xs + 1 = length-append xs (y ∷ []) in
        rw (le-ltb (position_or_len p (xs ++ y ∷ [])) (length (xs ++ y ∷ [])) (omega arith)) refl

-- a node without an identifier has no place by one
pub own_place : (names : List Name) (id : List ℕ) → position (is_named id) (names ++ None ∷ []) ≡ position (is_named id) names
unfolding is_named
own_place names id = place_push (is_named id) names None

-- a new identifier has the last place
pub new_place : (names : List Name) (id other : List ℕ) → position (is_named id) names ≡ None → position (is_named other) (names ++ Some id ∷ []) ≡ cond (bytes_eq id other) (Some (length names)) (position (is_named other) names)
unfolding is_named
new_place names id other absent =
    elim (cases_Bool (bytes_eq id other)) [
      | inl same ↦
          let is : id ≡ other = (bytes_eq-Decides id other).0 same in
          let self : bytes_eq other id ≡ true = (bytes_eq-Decides other id).1 (sym is) in
          let none : position (is_named other) names ≡ None = ap (λ i. position (is_named i) names) (sym is) ∙ absent in
          rw same (place_push (is_named other) names (Some id) ∙ rw self (past (nat_lt (number_of names other) (length names)) none))
      | inr differs ↦
          let self : bytes_eq other id ≡ false = nat_list_eq_equiv.symm other id ∙ differs in
          rw differs (place_push (is_named other) names (Some id) ∙ rw self refl)
    ]
  where
    past : (b : Bool) → cond b (Some (number_of names other)) None ≡ None → cond b (Some (number_of names other)) (Some (length names)) ≡ Some (length names)
    past true e = absurd (cc)
    past false e = refl

-- ---- a map by byte strings: what a change at some bytes leaves at others

apart_in_order : (bs cs ks : List ℕ) → bytes_eq bs cs ≡ false → is_eq (slice_cmp nat_cmp bs ks) ≡ true → is_eq (slice_cmp nat_cmp cs ks) ≡ false
apart_in_order bs cs ks differ same =
    is_eq-slice_cmp cs ks ∙ nat_list_eq_equiv.symm cs ks ∙ sym (nat_list_eq_equiv.congr bs ks cs (sym (is_eq-slice_cmp bs ks) ∙ same)) ∙ differ

other_entries : {K X : Type 0} (eq : K → K → Bool) (test : K → Bool) (old new : List (K × X)) → KeepsOthers eq test old new → (other : K → Bool) → IsKeyTest eq other → AreApart test other → lookup other new ≡ lookup other old
unfolding KeepsOthers
other_entries eq test old new keeps = keeps

pub updates_bytes : {K X : Type 0} (bytes : K → List ℕ) (bs : List ℕ) (m n : BTreeMap K X) (w : Option X) → tree.UpdatesBy (λ x y. slice_cmp nat_cmp (bytes x) (bytes y)) (λ k. slice_cmp nat_cmp bs (bytes k)) m n w
    → (cs : List ℕ) → tree.get_by (λ k. slice_cmp nat_cmp cs (bytes k)) n ≡ cond (bytes_eq bs cs) w (tree.get_by (λ k. slice_cmp nat_cmp cs (bytes k)) m)
updates_bytes bytes bs m n w h cs =
    elim (cases_Bool (bytes_eq bs cs)) [
      | inl same ↦
          subst (λ l. tree.get_by (λ k. slice_cmp nat_cmp l (bytes k)) n ≡ w) ((bytes_eq-Decides bs cs).0 same) h.1 ∙ sym (cond-true (bytes_eq bs cs) w _ same)
      | inr differs ↦
          other_entries _ _ _ _ h.3 _ (λ x y. (eq_by_cmp_equiv nat_list_cmp_total).congr cs (bytes x) (bytes y)) (λ k. apart_in_order bs cs (bytes k) differs) ∙ sym (cond-false (bytes_eq bs cs) w _ differs)
    ]

-- ---- adding an identifier

pub known_id : (names : List Name) (id : List ℕ) (i : ℕ) → Some i ≡ position (is_named id) names → (add_id names id ≡ names) × (i ≡ number_of names id)
unfolding add_id
known_id names id i e =
    elim (cases_Bool (nat_lt (number_of names id) (length names))) [
      | inl within ↦
          let any : list_any (is_named id) names ≡ true = any_by_place (is_named id) names ∙ within in
          let place : Some i ≡ Some (number_of names id) = e ∙ rw within refl in
          (rw any refl, some_same i (number_of names id) place)
      | inr past ↦ let none : Some i ≡ None = e ∙ rw past refl in absurd (cc)
    ]
  where
    some_same : (a b : ℕ) → Some a ≡ Some b → a ≡ b
    some_same a b same = ap (λ o. unwrap_or o 0) same

pub new_id : (names : List Name) (id : List ℕ) → position (is_named id) names ≡ None → (add_id names id ≡ names ++ Some id ∷ []) × (number_of (add_id names id) id ≡ length names)
unfolding add_id
new_id names id absent =
    elim (cases_Bool (nat_lt (number_of names id) (length names))) [
      | inl within ↦ let some : Some (number_of names id) ≡ None = sym (rw within refl) ∙ absent in absurd (cc)
      | inr past ↦
          let any : list_any (is_named id) names ≡ false = any_by_place (is_named id) names ∙ past in
          let longer : add_id names id ≡ names ++ Some id ∷ [] = rw any refl in
          let self : bytes_eq id id ≡ true = nat_list_eq_equiv.refl id in
          let there : position (is_named id) (names ++ Some id ∷ []) ≡ Some (length names) = new_place names id id absent ∙ rw self refl in
          (longer, ap (λ l. number_of l id) longer ∙ sym ((known_id (names ++ Some id ∷ []) id (length names) (sym there)).1))
    ]

pub place_inserted : {K : Type 0} (bytes : K → List ℕ) (names : List Name) (id key : List ℕ) (count : ℕ) (m n : BTreeMap K ℕ) → key ≡ id → count ≡ length names → ((q : List ℕ) → tree.get_by (λ k. slice_cmp nat_cmp q (bytes k)) m ≡ position (is_named q) names) → position (is_named id) names ≡ None
    → tree.UpdatesBy (λ x y. slice_cmp nat_cmp (bytes x) (bytes y)) (λ k. slice_cmp nat_cmp key (bytes k)) m n (Some count)
    → (q : List ℕ) → tree.get_by (λ k. slice_cmp nat_cmp q (bytes k)) n ≡ position (is_named q) (names ++ Some id ∷ [])
place_inserted bytes names id key count m n same size before absent updates q =
    updates_bytes bytes key m n (Some count) updates q
    ∙ ap (λ k. cond (bytes_eq k q) (Some count) (tree.get_by (λ k. slice_cmp nat_cmp q (bytes k)) m)) same
    ∙ ap (cond (bytes_eq id q) (Some count)) (before q)
    ∙ ap (λ k. cond (bytes_eq id q) (Some k) (position (is_named q) names)) size
    ∙ sym (new_place names id q absent)

-- what a map has at the bytes of a key
pub number_at : {K : Type 0} (bytes : K → List ℕ) (names : List Name) (id key : List ℕ) (m : BTreeMap K ℕ) (o : Option ℕ) → key ≡ id
    → ((q : List ℕ) → tree.get_by (λ k. slice_cmp nat_cmp q (bytes k)) m ≡ position (is_named q) names)
    → o ≡ tree.get_by (λ k. slice_cmp nat_cmp key (bytes k)) m → o ≡ position (is_named id) names
number_at bytes names id key m o same before at = at ∙ before key ∙ ap (λ q. position (is_named q) names) same

-- a number that was replaced, and given back
pub place_restored : {K : Type 0} (bytes : K → List ℕ) (names : List Name) (id key again : List ℕ) (other number : ℕ) (m n o : BTreeMap K ℕ) → key ≡ id → again ≡ id
    → ((q : List ℕ) → tree.get_by (λ k. slice_cmp nat_cmp q (bytes k)) m ≡ position (is_named q) names) → Some number ≡ position (is_named id) names
    → tree.UpdatesBy (λ x y. slice_cmp nat_cmp (bytes x) (bytes y)) (λ k. slice_cmp nat_cmp key (bytes k)) m n (Some other)
    → tree.UpdatesBy (λ x y. slice_cmp nat_cmp (bytes x) (bytes y)) (λ k. slice_cmp nat_cmp again (bytes k)) n o (Some number)
    → (q : List ℕ) → tree.get_by (λ k. slice_cmp nat_cmp q (bytes k)) o ≡ position (is_named q) names
place_restored bytes names id key again other number m n o same same_again before there replaced restored q =
    updates_bytes bytes again n o (Some number) restored q
    ∙ ap (λ k. cond (bytes_eq k q) (Some number) (tree.get_by (λ k. slice_cmp nat_cmp q (bytes k)) n)) same_again
    ∙ ap (cond (bytes_eq id q) (Some number)) (updates_bytes bytes key m n (Some other) replaced q ∙ ap (λ k. cond (bytes_eq k q) (Some other) (tree.get_by (λ k. slice_cmp nat_cmp q (bytes k)) m)) same)
    ∙ elim (cases_Bool (bytes_eq id q)) [
      | inl is ↦ rw is (there ∙ ap (λ i. position (is_named i) names) ((bytes_eq-Decides id q).0 is))
      | inr differs ↦ rw differs (before q)
    ]

pub same_names : (names : List Name) (nodes : List ℕ) (t u : Names) → HasNames names nodes t → u.taken.items ≡ t.taken.items
    → ((id : List ℕ) → tree.get_by (λ k. slice_cmp nat_cmp id k.items) u.numbers ≡ position (is_named id) names) → HasNames names nodes u
same_names names nodes t u has same numbers =
    record {
      count = ap length same ∙ has.count;
      number = numbers;
      taken = λ node less. ap (λ l. get_or l node false) same ∙ has.taken node less;
      inside = has.inside;
    }

-- ---- the nodes that messages have

pub not_among : (n : ℕ) (xs : List ℕ) → All (λ x. x < n) xs → is_among n xs ≡ false
not_among n [] below = refl
not_among n (x ∷ xs) below =
    let less = All-head (λ v. v < n) x xs below in
    let off : (x == n) ≡ false = ne_eqb x n (λ e. absurd (omega arith)) in rw off (not_among n xs (All-tail (λ v. v < n) x xs below))

pub names_pushed : (names : List Name) (name : Name) (nodes : List ℕ) (t u : Names) → HasNames names nodes t → u.taken.items ≡ t.taken.items ++ false ∷ []
    → ((id : List ℕ) → tree.get_by (λ k. slice_cmp nat_cmp id k.items) u.numbers ≡ position (is_named id) (names ++ name ∷ [])) → HasNames (names ++ name ∷ []) nodes u
names_pushed names name nodes t u has pushed numbers =
    let size : length (names ++ name ∷ []) ≡ length names + 1 = length-append names (name ∷ []) in
    let longer : length (t.taken.items ++ false ∷ []) ≡ length t.taken.items + 1 = length-append t.taken.items (false ∷ []) in
    let count = has.count in
    record {
      count = ap length pushed ∙ omega arith;
      number = numbers;
      taken =
          λ node less.
          ap (λ l. get_or l node false) pushed
          ∙ elim (cases_lt node (length names)) [
            | inl before ↦ get_or_append_left t.taken.items (false ∷ []) false node (omega arith) ∙ has.taken node before
            | inr last ↦
                let same : node ≡ length names = omega arith in
                ap (λ i. get_or (t.taken.items ++ false ∷ []) i false) (same ∙ sym count) ∙ get_or_push t.taken.items false false (length t.taken.items) refl ∙ sym (ap (λ i. is_among i nodes) same ∙ not_among (length names) nodes has.inside)
          ];
      inside = All-weaker (λ v. v < length names) (λ v. v < length (names ++ name ∷ [])) (λ v less. omega arith) nodes has.inside;
    }

pub names_taken : (names : List Name) (nodes : List ℕ) (node : ℕ) (t u : Names) → HasNames names nodes t → node < length t.taken.items → u.taken.items ≡ set t.taken.items node true → u.numbers ≡ t.numbers → HasNames names (nodes ++ node ∷ []) u
names_taken names nodes node t u has less marked numbers =
    let count = has.count in
    record {
      count = ap length marked ∙ length-set t.taken.items node true ∙ count;
      number = λ id. ap (λ m. tree.get_by (λ k. slice_cmp nat_cmp id k.items) m) numbers ∙ has.number id;
      taken =
          λ k within.
          ap (λ l. get_or l k false) marked
          ∙ elim (cases_eq k node) [
            | inl same ↦
                ap (λ i. get_or (set t.taken.items node true) i false) same ∙ get_or-set_same t.taken.items node true false less
                ∙ sym (list_any-append (λ y. y == k) nodes (node ∷ []) ∙ ap (λ b. is_among k nodes || (b || false)) (eq-eqb node k (sym same)) ∙ last (is_among k nodes))
            | inr other ↦
                get_or-set_other t.taken.items node k true false other ∙ has.taken k within
                ∙ sym (list_any-append (λ y. y == k) nodes (node ∷ []) ∙ ap (λ b. is_among k nodes || (b || false)) (ne_eqb node k (λ e. other (sym e))) ∙ none (is_among k nodes))
          ];
      inside = All-push (λ v. v < length names) nodes node has.inside (omega arith);
    }
  where
    last : (b : Bool) → (b || (true || false)) ≡ true
    last true = refl
    last false = refl

    none : (b : Bool) → (b || (false || false)) ≡ b
    none true = refl
    none false = refl

-- ---- the name of a message's node

pub own_taken : (names : List Name) (nodes : List ℕ) (id : List ℕ) (k : ℕ) → Some k ≡ position (is_named id) names → is_among k nodes ≡ true → own_name names nodes (Some id) ≡ None
unfolding own_name free_name
own_taken names nodes id k there among = ap (free_name nodes id) (sym there) ∙ ap (λ b. if b then None else Some id) among

pub own_free : (names : List Name) (nodes : List ℕ) (id : List ℕ) (k : ℕ) → Some k ≡ position (is_named id) names → is_among k nodes ≡ false → own_name names nodes (Some id) ≡ Some id
unfolding own_name free_name
own_free names nodes id k there among = ap (free_name nodes id) (sym there) ∙ ap (λ b. if b then None else Some id) among

pub own_new : (names : List Name) (nodes : List ℕ) (id : List ℕ) → position (is_named id) names ≡ None → own_name names nodes (Some id) ≡ Some id
unfolding own_name free_name
own_new names nodes id absent = ap (free_name nodes id) absent

pub position_less : (names : List Name) (id : List ℕ) (k : ℕ) → Some k ≡ position (is_named id) names → k < length names
position_less names id k e =
    elim (cases_Bool (nat_lt (number_of names id) (length names))) [
      | inl within ↦
          let place : Some k ≡ Some (number_of names id) = e ∙ rw within refl in
          let same : k ≡ number_of names id = ap (λ o. unwrap_or o 0) place in
          let less = ltb-true (number_of names id) (length names) within in
          omega arith
      | inr past ↦ let none : Some k ≡ None = e ∙ rw past refl in absurd (cc)
    ]

-- ---- nodes are numbered below their count

abbrev grown : (names : List Name) (id : List ℕ) → Type 0
grown names id = (length names ≤ length (add_id names id)) × (number_of (add_id names id) id < length (add_id names id))

pub add_id_grows : (names : List Name) (id : List ℕ) → grown names id
add_id_grows names id = by_place (position (is_named id) names) refl
  where
    by_place : (o : Option ℕ) → position (is_named id) names ≡ o → grown names id
    by_place None absent =
        let fresh = new_id names id absent in
        let longer : length (add_id names id) ≡ length names + 1 = ap length fresh.0 ∙ length-append names (Some id ∷ []) in
        let number = fresh.1 in
        (omega (arith, longer), omega (arith, longer, number))
    by_place (Some k) there =
        let known = known_id names id k (sym there) in
        let same : length (add_id names id) ≡ length names = ap length known.0 in
        let number : number_of (add_id names id) id ≡ number_of names id = ap (λ l. number_of l id) known.0 in
        let less = position_less names id k (sym there) in
        let at = known.1 in
        (omega (arith, same), omega (arith, same, number, less, at))

abbrev pub Below : References → Type 0
Below r = All (λ node. node < length r.names) r.numbers

pub ids_grow : (r : References) (ids : List (List ℕ)) → Below r → Below (fold number_id r ids) × (length r.names ≤ length (fold number_id r ids).names)
ids_grow r [] below = (below, omega arith)
ids_grow r (id ∷ ids) below =
    let one = add_id_grows r.names id in
    let longer = one.0 in
    let next : Below (number_id r id) =
    All-push (λ node. node < length (add_id r.names id)) r.numbers (number_of (add_id r.names id) id)
    (All-weaker (λ node. node < length r.names) (λ node. node < length (add_id r.names id)) (λ node less. omega (arith, less, longer)) r.numbers below) one.1 in
    let rest = ids_grow (number_id r id) ids next in
    let further = rest.1 in
    (rest.0, omega (arith, longer, further))

pub name_grows : (names : List Name) (name : Name) → (length names ≤ length (add_name names name)) × (number_for names name < length (add_name names name))
unfolding add_name number_for
name_grows names None = let longer : length (names ++ None ∷ []) ≡ length names + 1 = length-append names (None ∷ []) in (omega (arith, longer), omega (arith, longer))
name_grows names (Some id) = add_id_grows names id

entry_below : (messages : List Entry) (count : ℕ) (r : References) (name : Name) → AreBelow count messages → count ≤ length r.names → Below r → AreBelow (length (add_name r.names name)) (add_entry messages r name).messages
entry_below messages count r name before less below =
    let grows = name_grows r.names name in
    let longer = grows.0 in
    All-push (λ e. (e.node < length (add_name r.names name)) × All (λ node. node < length (add_name r.names name)) e.references) messages (record { references = r.numbers; node = number_for r.names name })
    (All-weaker (λ e. (e.node < count) × All (λ node. node < count) e.references) (λ e. (e.node < length (add_name r.names name)) × All (λ node. node < length (add_name r.names name)) e.references)
    (λ e h. let own = h.0 in (omega (arith, own, less, longer), All-weaker (λ node. node < count) (λ node. node < length (add_name r.names name)) (λ node l. omega (arith, l, less, longer)) e.references h.1)) messages before)
    (grows.1, All-weaker (λ node. node < length r.names) (λ node. node < length (add_name r.names name)) (λ node l. omega (arith, l, longer)) r.numbers below)

message_below : (n : Numbering) (f : Facts) → AreBelow (length n.names) n.messages → AreBelow (length (number_message n f).names) (number_message n f).messages
message_below n f before =
    let ids = ids_grow (record { names = n.names; numbers = [] }) f.references (All-nil (λ node. node < length n.names)) in
    let r : References = number_ids n.names f.references in
    entry_below n.messages (length n.names) r (own_name r.names (nodes n.messages) f.id) before ids.1 ids.0

all_below : (n : Numbering) (facts : List Facts) → AreBelow (length n.names) n.messages → AreBelow (length (fold number_message n facts).names) (fold number_message n facts).messages
all_below n [] before = before
all_below n (f ∷ more) before = all_below (number_message n f) more (message_below n f before)

pub numbered_below : (facts : List Facts) → AreBelow (length (number_messages facts).names) (number_messages facts).messages
unfolding number_messages
numbered_below facts = all_below (record { names = []; messages = [] }) facts (All-nil (λ e. (e.node < 0) × All (λ node. node < 0) e.references))

all_long : (n : Numbering) (facts : List Facts) → length (fold number_message n facts).messages ≡ length n.messages + length facts
all_long n [] = let e : length n.messages ≡ length n.messages + 0 = omega arith in e
all_long n (f ∷ more) =
    let r : References = number_ids n.names f.references in
    let one : length (number_message n f).messages ≡ length n.messages + 1 = length-append n.messages (record { references = r.numbers; node = number_for r.names (own_name r.names (nodes n.messages) f.id) } ∷ []) in
    all_long (number_message n f) more ∙ ap (λ k. k + length more) one ∙ (let e : length n.messages + 1 + length more ≡ length n.messages + length (f ∷ more) = omega arith in e)

pub numbered_long : (facts : List Facts) → length (number_messages facts).messages ≡ length facts
unfolding number_messages
numbered_long facts = all_long (record { names = []; messages = [] }) facts ∙ (let e : 0 + length facts ≡ length facts = omega arith in e)

pub nodes_below : (entries : List Entry) (count : ℕ) → AreBelow count entries → All (λ node. node < count) (nodes entries)
nodes_below entries count below =
    All-map (λ node. node < count) (λ m. m.node) entries (All-weaker (λ e. (e.node < count) × All (λ node. node < count) e.references) (λ e. e.node < count) (λ e h. h.0) entries below)
