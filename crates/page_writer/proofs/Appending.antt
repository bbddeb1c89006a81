-- What a sink has taken of bytes that are written piece by piece.
use Rattle.std.proofs.Common.{◌≡◌, ℕ, ◌+◌, ◌<◌, ◌≤◌, List, [], ◌∷◌, ◌++◌, length, take, drop, get_or, refl, sym, ap, ◌∙◌, subst, arith, Option, Some, None, Result, Ok, Err, OnErr, append_assoc, append-nil, length-append}
use Rattle.std.specs.Io.KnownBytes.{Appends}
use Rattle.std.proofs.KnownBytes.{Appends-trans}
use Rattle.std.specs.List.{concat}
use Rattle.std.proofs.lemmas.List.{take-append-le, at_drop_more}
use Rattle.std.proofs.Math.Seq.{take-append-add}
use Rattle.mail_io.specs.Stream.{WritesSome}
use Rattle.page_writer.specs.Bytes.{spell_bytes}
use Rattle.page_writer.specs.Written.{AppendsUpTo}

appends_nothing : (known : Option (List ℕ)) → Appends known known []
appends_nothing None = tt
appends_nothing (Some xs) = sym (append-nil xs)

pub nothing_appended : (known : Option (List ℕ)) (bytes rest : List ℕ) → rest ≡ bytes → AppendsUpTo known known bytes rest
nothing_appended known bytes rest e = record { done = []; appended = appends_nothing known; splits = e }

pub piece_appended : (before mid after : Option (List ℕ)) (bytes rest piece more : List ℕ) → rest ≡ piece ++ more → AppendsUpTo before mid bytes rest → Appends mid after piece → AppendsUpTo before after bytes more
piece_appended before mid after bytes rest piece more parts held call = record {
  done = held.done ++ piece;
  appended = Appends-trans before mid after held.done piece held.appended call;
  splits = append_assoc held.done piece more ∙ ap (λ (xs : List ℕ). held.done ++ xs) (sym parts) ∙ held.splits;
}

pub all_appended : (before after : Option (List ℕ)) (bytes rest : List ℕ) → rest ≡ [] → AppendsUpTo before after bytes rest → Appends before after bytes
all_appended before after bytes rest none held =
    subst (λ (bs : List ℕ). Appends before after bs) (sym (append-nil held.done) ∙ ap (λ (xs : List ℕ). held.done ++ xs) (sym none) ∙ held.splits) held.appended

-- a fault within a piece leaves a proper prefix of all
pub some_appended : (before mid after : Option (List ℕ)) (bytes rest piece more : List ℕ) → rest ≡ piece ++ more → AppendsUpTo before mid bytes rest → WritesSome mid after piece → WritesSome before after bytes
some_appended before mid after bytes rest piece more parts held call =
    let n = call.count in
    let whole : held.done ++ (piece ++ more) ≡ bytes = ap (λ (xs : List ℕ). held.done ++ xs) (sym parts) ∙ held.splits in
    let le : n ≤ length piece = let short = call.short in omega arith in
    let inner : take n (piece ++ more) ≡ take n piece = take-append-le n piece more le in
    let front : take (length held.done + n) bytes ≡ held.done ++ take n piece =
    ap (λ (xs : List ℕ). take (length held.done + n) xs) (sym whole) ∙ take-append-add held.done (piece ++ more) n ∙ ap (λ (xs : List ℕ). held.done ++ xs) inner in
    let size : length bytes ≡ length held.done + (length piece + length more) = ap length (sym whole) ∙ length-append held.done (piece ++ more) ∙ ap (λ (k : ℕ). length held.done + k) (length-append piece more) in
    record {
      count = length held.done + n;
      taken = subst (λ (bs : List ℕ). Appends before after bs) (sym front) (Appends-trans before mid after held.done (take n piece) held.appended call.taken);
      short = let short = call.short in omega (arith, size, short);
    }

-- a first piece that was written whole, and some of a second
pub some_after : (before mid after : Option (List ℕ)) (first second bytes : List ℕ) → first ++ second ≡ bytes → Appends before mid first → WritesSome mid after second → WritesSome before after bytes
some_after before mid after first second bytes e written call =
    some_appended before mid after bytes second second [] (sym (append-nil second)) (record { done = first; appended = written; splits = e }) call

pub on_err : {T E : Type 0} (r : Result T E) (P : Type 0) → P → OnErr r P
on_err (Ok x) P h = tt
on_err (Err e) P h = h

pub on_err_map : {T E : Type 0} (r : Result T E) (P Q : Type 0) → (P → Q) → OnErr r P → OnErr r Q
on_err_map (Ok x) P Q f h = tt
on_err_map (Err e) P Q f h = f h

pub spell_nothing : (rest : List ℕ) → length rest ≡ 0 → spell_bytes rest ≡ []
unfolding spell_bytes
spell_nothing [] none = refl
spell_nothing (b ∷ rest) none = absurd (omega arith)

pub concat_step : (xs : List (List ℕ)) (i : ℕ) (x : List ℕ) → i < length xs → x ≡ get_or xs i x → concat (drop i xs) ≡ x ++ concat (drop (i + 1) xs)
concat_step xs i x lt is = at_drop_more concat xs i x lt ∙ ap (λ (y : List ℕ). y ++ concat (drop (i + 1) xs)) (sym is)
