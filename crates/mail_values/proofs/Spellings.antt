-- A section's spelling, cut at its dots, gives its numbers' spellings back.
use Rattle.std.proofs.Common.{◌≡◌, ℕ, zero, suc, ◌+◌, ◌<◌, ◌≤◌, ◌^◌, Bool, true, false, List, [], ◌∷◌, ◌++◌, length, map, take, sym, ap, ◌∙◌, refl, arith, Result, Ok, Err, Option, Some, None, eqb, decimal, append_assoc, length-append, get_or, subst, IsTrue}
use Rattle.std.specs.List.{All, join_with_byte, slice_split}
use Rattle.std.specs.Str.Parse.{ParsesUnsigned, AllDigits}
use Rattle.std.proofs.lemmas.Fmt.{parse-decimal, decimal_is_IsNumeral, decimal_nonempty}
use Rattle.std.specs.Char.{digit_value}
use Rattle.std.proofs.Math.Seq.{take-suc, take-length}
use Rattle.std.proofs.lemmas.Bool.{ne_eqb}
use Rattle.std.proofs.lemmas.List.Elements.{All-take}
use Rattle.std.proofs.lemmas.List.{length-map, map-append, get_or-map}
use Rattle.std.proofs.lemmas.List.Splits.{slice_split_at, slice_split_none}
use Rattle.mail_values.specs.Section.{IsNumber, IsSection, spelling, numbers_of, spelling_with}

-- what spells a number parses as it
pub parsed : {E : Type 0} (n : ℕ) (bs : List ℕ) (r : Result ℕ E) → IsNumber n → decimal n ≡ bs → ParsesUnsigned 16 10 bs r → r ≡ Ok n
parsed n bs r number e p = parse-decimal 16 n bs r number.small (let h : n < 2 ^ 16 = number.small in omega arith) (sym e) p

-- a list joined by a byte, and one piece more
pub joined_more : (c : ℕ) (xs : List (List ℕ)) (x : List ℕ) → 0 < length xs → join_with_byte c (xs ++ x ∷ []) ≡ join_with_byte c xs ++ c ∷ x
joined_more c [] x some = absurd (omega arith)
joined_more c (y ∷ []) x some = refl
joined_more c (y ∷ z ∷ ys) x some =
    ap (λ l. y ++ (c ∷ l)) (joined_more c (z ∷ ys) x (omega arith)) ∙ sym (append_assoc y (c ∷ join_with_byte c (z ∷ ys)) (c ∷ x))

pub same_number : {E : Type 0} (r : Result ℕ E) (a b : ℕ) → r ≡ Ok a → r ≡ Ok b → a ≡ b
same_number r a b p q = cc

-- a number that isn't taken for the one that is spelled
pub not_spelled : {E : Type 0} (r : Result ℕ E) (a n : ℕ) (bs : List ℕ) (taken : Bool) → r ≡ Ok a → r ≡ Ok n → IsNumber n → decimal n ≡ bs → (IsNumber a → decimal a ≡ bs → IsTrue taken) → taken ≡ false → ⊥
not_spelled r a n bs taken p q number e found f =
    let same : a ≡ n = same_number r a n p q in
    let t : IsTrue taken = found (subst IsNumber (sym same) number) (ap decimal same ∙ e) in
    let both : true ≡ false = sym t ∙ f in cc

-- a number that is spelled isn't refused
pub not_refused : {E : Type 0} (r : Result ℕ E) (x : E) (n : ℕ) → r ≡ Err x → r ≡ Ok n → ⊥
not_refused r x n p q = cc

not_dot : (c : ℕ) → digit_value c < 10 → eqb c 46 ≡ false
not_dot c h = ne_eqb c 46 (λ e. let q : digit_value 46 < 10 = subst (λ (x : ℕ). digit_value x < 10) e h in absurd (omega arith))

digits_no_dot : (ds : List ℕ) → AllDigits 10 ds → (k d : ℕ) → k < length ds → eqb (get_or ds k d) 46 ≡ false
digits_no_dot [] digits k d h = absurd (omega arith)
digits_no_dot (c ∷ cs) digits zero d h = not_dot c digits.0
digits_no_dot (c ∷ cs) digits (suc k) d h = digits_no_dot cs digits.1 k d (omega arith)

-- no byte of a number's spelling is a dot
pub no_dot : (n : ℕ) → n < 2 ^ 64 → All (λ b. eqb b 46 ≡ false) (decimal n)
no_dot n small = digits_no_dot (decimal n) (decimal_is_IsNumeral n small).0.1

number_small : (n : ℕ) → IsNumber n → n < 2 ^ 64
number_small n number = let h : n < 2 ^ 16 = number.small in omega arith

-- the pieces between the dots
pub slice_split_joined : (numbers : List ℕ) → 0 < length numbers → All IsNumber numbers → slice_split (λ b. eqb b 46) (spelling numbers) ≡ map decimal numbers
slice_split_joined [] some each = absurd (omega arith)
slice_split_joined (n ∷ []) some each = slice_split_none (λ b. eqb b 46) (decimal n) (no_dot n (number_small n (each 0 0 (omega arith))))
slice_split_joined (n ∷ m ∷ more) some each =
    slice_split_at (λ b. eqb b 46) (decimal n) 46 (spelling (m ∷ more)) (no_dot n (number_small n (each 0 0 (omega arith)))) refl ∙ ap (λ l. decimal n ∷ l) (slice_split_joined (m ∷ more) (omega arith) (λ k d h. each (suc k) d (omega arith)))

-- a piece of a section's spelling
pub record IsPiece (numbers : List ℕ) (i : ℕ) (piece : List ℕ) : Type 0 where
  pub within : i < length numbers
  pub spelled : decimal (get_or numbers i 0) ≡ piece
  pub number : IsNumber (get_or numbers i 0)

pub piece_at : (numbers text piece : List ℕ) (i : ℕ) → IsSection numbers → spelling numbers ≡ text → i < length (slice_split (λ b. eqb b 46) text) → piece ≡ get_or (slice_split (λ b. eqb b 46) text) i piece → IsPiece numbers i piece
piece_at numbers text piece i section e h at =
    let some : 0 < length numbers = let q : 1 ≤ length numbers = section.nonempty in omega arith in
    let pieces : slice_split (λ b. eqb b 46) text ≡ map decimal numbers = ap (slice_split (λ b. eqb b 46)) (sym e) ∙ slice_split_joined numbers some section.each in
    let within : i < length numbers = omega (arith, ap length pieces, length-map numbers decimal) in
    record {
      within = within;
      spelled = sym (at ∙ ap (λ l. get_or l i piece) pieces ∙ get_or-map decimal numbers i 0 piece within);
      number = section.each i 0 within;
    }

pub some_is_none : {A : Type 0} (r : Option A) (x : A) → r ≡ Some x → r ≡ None → ⊥
some_is_none r x p q = cc

pub same_some : {A : Type 0} (r : Option A) (x y : A) → r ≡ Some x → r ≡ Some y → x ≡ y
same_some r x y p q = cc

-- the pieces read so far, and one more
pub pieces_more : {A : Type 0} (now : A → List ℕ) (section longer : List ℕ) (yielded : List A) (n : ℕ) (piece : A) → longer ≡ section ++ n ∷ [] → map decimal section ≡ map now yielded → decimal n ≡ now piece → map decimal longer ≡ map now (yielded ++ piece ∷ [])
pieces_more now section longer yielded n piece l s e =
    ap (map decimal) l ∙ map-append decimal section (n ∷ []) ∙ ap (λ t. t ++ decimal n ∷ []) s ∙ ap (λ t. map now yielded ++ t ∷ []) e ∙ sym (map-append now yielded (piece ∷ []))

-- the numbers read so far, and one more
pub one_further : {A : Type 0} (section longer numbers : List ℕ) (yielded : List A) (n : ℕ) (piece : A) → longer ≡ section ++ n ∷ [] → section ≡ take (length yielded) numbers → n ≡ get_or numbers (length yielded) 0 → length yielded < length numbers → longer ≡ take (length (yielded ++ piece ∷ [])) numbers
one_further {A} section longer numbers yielded n piece l s e h =
    l ∙ ap (λ t. t ++ n ∷ []) s ∙ ap (λ k. take (length yielded) numbers ++ k ∷ []) e
    ∙ sym (take-suc numbers (length yielded) 0 h) ∙ ap (λ k. take k numbers) (let q : suc (length yielded) ≡ length (yielded ++ piece ∷ []) = omega (arith, length-append {A = A}) in q)

-- as many pieces as numbers
pieces_len : (numbers text : List ℕ) → IsSection numbers → spelling numbers ≡ text → length (slice_split (λ b. eqb b 46) text) ≡ length numbers
pieces_len numbers text section e =
    let some : 0 < length numbers = let q : 1 ≤ length numbers = section.nonempty in omega arith in
    ap (λ t. length (slice_split (λ b. eqb b 46) t)) (sym e) ∙ ap length (slice_split_joined numbers some section.each) ∙ length-map numbers decimal

no_numbers : (numbers : List ℕ) → [] ≡ numbers → 0 < length numbers → None ≡ Some numbers
no_numbers [] e some = absurd (omega arith)
no_numbers (n ∷ more) e some = absurd (cc)

whole : (section : Option (List ℕ)) (numbers : List ℕ) → numbers_of section ≡ numbers → 0 < length numbers → section ≡ Some numbers
whole None numbers e some = no_numbers numbers e some
whole (Some s) numbers e some = ap Some e

-- all pieces read
pub all_read : (section : Option (List ℕ)) (numbers text : List ℕ) (n : ℕ) → IsSection numbers → spelling numbers ≡ text → numbers_of section ≡ take n numbers → n ≡ length (slice_split (λ b. eqb b 46) text) → section ≡ Some numbers
all_read section numbers text n is e read size =
    let some : 0 < length numbers = let q : 1 ≤ length numbers = is.nonempty in omega arith in
    whole section numbers (read ∙ ap (λ k. take k numbers) (size ∙ pieces_len numbers text is e) ∙ take-length numbers) some

joined_some : (x : List ℕ) (xs : List (List ℕ)) → 0 < length x → 0 < length (join_with_byte 46 (x ∷ xs))
joined_some x [] some = some
joined_some x (y ∷ ys) some = omega (arith, length-append {A = ℕ})

after_some : (text : List ℕ) (n : ℕ) → 0 < length text → spelling_with text n ≡ text ++ 46 ∷ decimal n
after_some [] n some = absurd (omega arith)
after_some (b ∷ bs) n some = refl

-- a number more
pub spelled_more : (numbers : List ℕ) (n : ℕ) → All IsNumber numbers → spelling_with (spelling numbers) n ≡ spelling (numbers ++ n ∷ [])
spelled_more [] n each = refl
spelled_more (m ∷ more) n each =
    let some : 0 < length (spelling (m ∷ more)) = joined_some (decimal m) (map decimal more) (decimal_nonempty m (number_small m (each 0 0 (omega arith)))) in
    after_some (spelling (m ∷ more)) n some ∙ sym (joined_more 46 (map decimal (m ∷ more)) (decimal n) (omega arith)) ∙ ap (join_with_byte 46) (sym (map-append decimal (m ∷ more) (n ∷ [])))

-- the next number of a section
pub spelled_next : (items self text longer : List ℕ) (i : ℕ) → items ≡ self → IsSection self → i < length items → text ≡ spelling (take i items) → longer ≡ spelling_with text (get_or items i 0) → longer ≡ spelling (take (i + 1) items)
spelled_next items self text longer i same section h before after =
    let each : All IsNumber items = subst (λ (l : List ℕ). All IsNumber l) (sym same) section.each in
    let first : All IsNumber (take i items) = All-take IsNumber i items each in
    after ∙ ap (λ t. spelling_with t (get_or items i 0)) before ∙ spelled_more (take i items) (get_or items i 0) first
    ∙ ap spelling (sym (take-suc items i 0 h)) ∙ ap (λ k. spelling (take k items)) (let q : suc i ≡ i + 1 = omega arith in q)
