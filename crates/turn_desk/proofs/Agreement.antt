-- Each kind of step keeps the views in agreement.
use Rattle.std.proofs.Common.{◌≡◌, ◌≢◌, ◌∙◌, ◌≤◌, ltb, cond, refl, sym, ap, subst, ℕ, zero, suc, Bool, true, false, arith, List, [], ◌∷◌, ◌++◌, length, slice_set, slice_index_or, inl, inr}
use Rattle.std.proofs.lemmas.Bool.{ltb-true, ltb-false}
use Rattle.std.proofs.lemmas.List.Elements.{All-nil, All-cons}
use Rattle.std.specs.List.{All}
use mathlib.Core.Option.{some, some-injective, some-ne-none}
use mathlib.Core.List.{IsPrefix}
use lib.ListN.{get_elem?}
use Rattle.atomic_table.proofs.Lists.{at_set, set_again, set_else, at_longer, at_snoc}
use Rattle.account_pictures.specs.declared.talk.Piece.{Piece}
use Rattle.account_pictures.specs.declared.pictures.Picture.{Picture}
use Rattle.account_pictures.specs.Story.{story_of}
use Rattle.turn_desk.specs.declared.views.View.{View}
use Rattle.turn_desk.specs.declared.views.Sight.{Sight}
use Rattle.turn_desk.specs.Views.{ViewsAgree, IsBehind, HasSeen, first_view, spent_view, copy_of, sight_of, add_turn, merge, longer_story, of_later_turn}
use Rattle.turn_desk.proofs.Prefixes.{prefix_self, prefix_trans, prefix_of_longer}

only_first : (i : ℕ) (view : View) → get_elem? (first_view ∷ []) i ≡ some view → (i ≡ 0) × (view ≡ first_view)
only_first zero view e = (refl, cc)
only_first (suc i) view e = cc

replaced_at : (views : List View) (i : ℕ) (u v : View) → get_elem? views i ≡ some v → get_elem? (slice_set views i u) i ≡ some u
replaced_at [] i u v e = absurd (some-ne-none v (sym e))
replaced_at (x ∷ xs) zero u v e = refl
replaced_at (x ∷ xs) (suc i) u v e = replaced_at xs i u v e

-- a view that goes on has still seen what it had
has_seen_on : (v u : View) (sights : List Sight) → v.turn ≤ u.turn → IsPrefix v.story u.story → All (HasSeen v) sights → All (HasSeen u) sights
has_seen_on v u sights turn story seen k d within =
    let s = slice_index_or sights k d in
    let before = seen k d within in
    let less = before.0 in
    (omega arith, prefix_trans s.story v.story u.story before.1 story)

-- a view that goes on from two views has seen both, and what the first had met
has_seen_both : (v w u : View) → v.turn ≤ u.turn → IsPrefix v.story u.story → w.turn ≤ u.turn → IsPrefix w.story u.story → All (HasSeen v) v.met
    → All (HasSeen u) (sight_of v ∷ sight_of w ∷ v.met)
has_seen_both v w u v_turn v_story w_turn w_story met =
    All-cons (HasSeen u) (sight_of v) (sight_of w ∷ v.met) (v_turn, v_story)
    (All-cons (HasSeen u) (sight_of w) v.met (w_turn, w_story) (has_seen_on v u v.met v_turn v_story met))

-- the home view is the one that is the home seat's
pub home_is : (id : ℕ) (v : View) (views : List View) (agree : ViewsAgree views) → get_elem? views id ≡ some v → v.is_home ≡ true → agree.home ≡ v
home_is id v views agree here home =
    some-injective agree.home v (sym agree.is_there ∙ (ap (get_elem? views) (sym (agree.alone id v here home)) ∙ here))

pub first_agrees : ViewsAgree (first_view ∷ [])
first_agrees = record {
  at = 0;
  home = first_view;
  is_there = refl;
  is_home = refl;
  is_unspent = refl;
  alone = λ i view e home. (only_first i view e).0;
  behind = λ i view e. subst (IsBehind first_view) (sym (only_first i view e).1) (record { story = prefix_self []; turn = omega arith; met = All-nil (HasSeen first_view) });
}

-- copy
pub copy_agrees : (id : ℕ) (v : View) (views : List View) → ViewsAgree views → get_elem? views id ≡ some v → ViewsAgree (slice_set views id v ++ copy_of v ∷ [])
copy_agrees id v views agree here = subst (λ l. ViewsAgree (l ++ copy_of v ∷ [])) (sym (set_again views id v here)) (record {
  at = agree.at;
  home = agree.home;
  is_there = at_longer views (copy_of v ∷ []) agree.at agree.home agree.is_there;
  is_home = agree.is_home;
  is_unspent = agree.is_unspent;
  alone = λ i w e home. elim (at_snoc views (copy_of v) w i e) [
    | inl old ↦ agree.alone i w old home
    | inr new ↦ let no : false ≡ true = ap (λ (x : View). x.is_home) new ∙ home in cc
  ];
  behind = λ i w e. elim (at_snoc views (copy_of v) w i e) [
    | inl old ↦ agree.behind i w old
    | inr new ↦ let b = agree.behind id v here in subst (IsBehind agree.home) new (record { story = b.story; turn = b.turn; met = All-nil (HasSeen (copy_of v)) })
  ];
})

-- the home view may go on
home_goes_on : (id : ℕ) (v u : View) (views : List View) → ViewsAgree views → get_elem? views id ≡ some v → v.is_home ≡ true → u.is_home ≡ true
    → u.is_spent ≡ false → v.turn ≤ u.turn → IsPrefix v.story u.story → All (HasSeen u) u.met → ViewsAgree (slice_set views id u)
home_goes_on id v u views agree here home still unspent turn story met =
    let place : id ≡ agree.at = agree.alone id v here home in
    let same = home_is id v views agree here home in
    record {
      at = id;
      home = u;
      is_there = replaced_at views id u v here;
      is_home = still;
      is_unspent = unspent;
      alone = λ i w e h. elim (at_set views id i u w e) [
        | inl t ↦ t.0
        | inr t ↦ agree.alone i w t.1 h ∙ sym place
      ];
      behind = λ i w e. elim (at_set views id i u w e) [
        | inl t ↦ subst (IsBehind u) t.1 (record { story = prefix_self u.story; turn = omega arith; met = met })
        | inr t ↦ let b = subst (λ x. IsBehind x w) same (agree.behind i w t.1) in let n = b.turn in record { story = prefix_trans w.story v.story u.story b.story story; turn = omega arith; met = b.met }
      ];
    }

-- another view may become any that is behind the home view
other_changes : (id : ℕ) (v u : View) (views : List View) (agree : ViewsAgree views) → get_elem? views id ≡ some v → v.is_home ≡ false → u.is_home ≡ false
    → IsBehind agree.home u → ViewsAgree (slice_set views id u)
other_changes id v u views agree here beside still behind =
    let elsewhere : agree.at ≢ id = λ e. (let h : agree.home ≡ v = some-injective agree.home v (sym agree.is_there ∙ (ap (get_elem? views) e ∙ here)) in let no : true ≡ false = sym agree.is_home ∙ (ap (λ (x : View). x.is_home) h ∙ beside) in cc) in
    record {
      at = agree.at;
      home = agree.home;
      is_there = set_else views id agree.at u elsewhere ∙ agree.is_there;
      is_home = agree.is_home;
      is_unspent = agree.is_unspent;
      alone = λ i w e h. elim (at_set views id i u w e) [
        | inl t ↦ let no : false ≡ true = sym still ∙ (ap (λ (x : View). x.is_home) t.1 ∙ h) in cc
        | inr t ↦ agree.alone i w t.1 h
      ];
      behind = λ i w e. elim (at_set views id i u w e) [
        | inl t ↦ subst (IsBehind agree.home) t.1 behind
        | inr t ↦ agree.behind i w t.1
      ];
    }

-- note
pub note_agrees : (id : ℕ) (v : View) (opened closed : Picture) (views : List View) → ViewsAgree views → get_elem? views id ≡ some v → v.is_home ≡ true
    → v.is_spent ≡ false → IsPrefix v.story (story_of closed) → ViewsAgree (slice_set views id (add_turn v opened closed))
note_agrees id v opened closed views agree here home unspent story =
    let u = add_turn v opened closed in
    home_goes_on id v u views agree here home home unspent (omega arith) story (has_seen_on v u v.met (omega arith) story (agree.behind id v here).met)

-- tell
pub tell_agrees : (id : ℕ) (v : View) (views : List View) → ViewsAgree views → get_elem? views id ≡ some v → ViewsAgree (slice_set views id v)
tell_agrees id v views agree here = subst ViewsAgree (sym (set_again views id v here)) agree

-- what a merge is, at the home seat and at another
abbrev merge_by : Bool → View → View → View
merge_by b v w = record v {
  turn = cond b v.turn (of_later_turn v.turn w.turn v.turn w.turn);
  story = cond b v.story (longer_story v.story w.story);
  opened = cond b v.opened (of_later_turn v.turn w.turn v.opened w.opened);
  closed = cond b v.closed (of_later_turn v.turn w.turn v.closed w.closed);
  met = sight_of v ∷ sight_of w ∷ v.met;
}

merge_is : (v w : View) (b : Bool) → v.is_home ≡ b → merge v w ≡ merge_by b v w
merge_is v w b h = ap (λ b. merge_by b v w) h

later_left : (m n : ℕ) → m ≤ of_later_turn m n m n
later_left m n = by (ltb m n) refl
  where
    by : (b : Bool) → ltb m n ≡ b → m ≤ cond b n m
    by true e = let h = ltb-true m n e in omega arith
    by false e = omega arith

later_right : (m n : ℕ) → n ≤ of_later_turn m n m n
later_right m n = by (ltb m n) refl
  where
    by : (b : Bool) → ltb m n ≡ b → n ≤ cond b n m
    by true e = omega arith
    by false e = ltb-false m n e

-- what holds of both holds of the one chosen
of_either : {A : Type 0} (P : A → Type 0) (b : Bool) (x y : A) → P x → P y → P (cond b y x)
of_either P true x y p q = q
of_either P false x y p q = p

-- each of two prefixes of one story is a prefix of the longer
longer_left : (xs ys zs : List Piece) → IsPrefix xs zs → IsPrefix ys zs → IsPrefix xs (longer_story xs ys)
longer_left xs ys zs p q = by (ltb (length xs) (length ys)) refl
  where
    by : (b : Bool) → ltb (length xs) (length ys) ≡ b → IsPrefix xs (cond b ys xs)
    by true e = let h = ltb-true (length xs) (length ys) e in prefix_of_longer xs ys zs p q (omega arith)
    by false e = prefix_self xs

longer_right : (xs ys zs : List Piece) → IsPrefix xs zs → IsPrefix ys zs → IsPrefix ys (longer_story xs ys)
longer_right xs ys zs p q = by (ltb (length xs) (length ys)) refl
  where
    by : (b : Bool) → ltb (length xs) (length ys) ≡ b → IsPrefix ys (cond b ys xs)
    by true e = prefix_self ys
    by false e = prefix_of_longer ys xs zs q p (ltb-false (length xs) (length ys) e)

-- the first half of a meeting: one view takes in the other
merge_agrees : (id other : ℕ) (v w : View) (views : List View) (b : Bool) → v.is_home ≡ b → ViewsAgree views → get_elem? views id ≡ some v
    → get_elem? views other ≡ some w → ViewsAgree (slice_set views id (merge v w))
merge_agrees id other v w views true h agree here there =
    let same = home_is id v views agree here h in
    let b = subst (λ x. IsBehind x w) same (agree.behind other w there) in
    subst (λ u. ViewsAgree (slice_set views id u)) (sym (merge_is v w true h))
    (home_goes_on id v (merge_by true v w) views agree here h h (ap (λ (x : View). x.is_spent) (sym same) ∙ agree.is_unspent) (omega arith) (prefix_self v.story)
    (has_seen_both v w (merge_by true v w) (omega arith) (prefix_self v.story) b.turn b.story (agree.behind id v here).met))
merge_agrees id other v w views false h agree here there =
    let a = agree.behind id v here in
    let b = agree.behind other w there in
    let left = longer_left v.story w.story agree.home.story a.story b.story in
    let right = longer_right v.story w.story agree.home.story a.story b.story in
    subst (λ u. ViewsAgree (slice_set views id u)) (sym (merge_is v w false h))
    (other_changes id v (merge_by false v w) views agree here h h record {
      story = of_either (λ s. IsPrefix s agree.home.story) (ltb (length v.story) (length w.story)) v.story w.story a.story b.story;
      turn = of_either (λ n. n ≤ agree.home.turn) (ltb v.turn w.turn) v.turn w.turn a.turn b.turn;
      met = has_seen_both v w (merge_by false v w) (later_left v.turn w.turn) left (later_right v.turn w.turn) right a.met;
    })

-- meet: then the other view is spent
pub meet_agrees : (id other : ℕ) (v w : View) (views : List View) → ViewsAgree views → get_elem? views id ≡ some v → ¬ (other ≡ id)
    → get_elem? (slice_set views id (merge v w)) other ≡ some w → w.is_home ≡ false → ViewsAgree (slice_set (slice_set views id (merge v w)) other spent_view)
meet_agrees id other v w views agree here apart there beside =
    let before : get_elem? views other ≡ some w = elim (at_set views id other (merge v w) w there) [
      | inl t ↦ absurd (apart t.0)
      | inr t ↦ t.1
    ] in
    let merged = merge_agrees id other v w views v.is_home refl agree here before in
    other_changes other w spent_view (slice_set views id (merge v w)) merged there beside refl (record { story = (merged.home.story, refl); turn = omega arith; met = All-nil (HasSeen spent_view) })

-- the home view that took in another, and has seen all that it met, has seen the other with what it had
pub has_seen_home : (v w : View) → v.is_home ≡ true → All (HasSeen (merge v w)) (merge v w).met → HasSeen v (sight_of w)
has_seen_home v w home seen = subst (λ u. HasSeen u (sight_of w)) (merge_is v w true home) (seen 1 (sight_of w) (omega arith))
