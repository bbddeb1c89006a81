use Rattle.std.proofs.Common.{◌≡◌, ℕ, List, [], ◌∷◌, IsAscii, sym, ap, ◌∙◌, subst}
use Rattle.std.specs.List.{filter_map, list_all}
use Rattle.style_wash.specs.Declarations.{IsStyle, calls_only_rgb, declaration_of, pieces, stylewash}
use Rattle.style_wash.specs.Characters.{is_style_char}
use Rattle.style_wash.specs.Cuts.{with_declaration}
use Rattle.style_wash.specs.Values.Nesting.{Outside}
use Rattle.style_wash.proofs.Pieces.{style_onto, style_onto-piece, washed_begins}
use Rattle.style_wash.proofs.Styles.{IsAscii-stylewash, washed_calls_only_rgb, washed_characters, washed_is_style, washing_is_idempotent}
use Rattle.style_wash.proofs.declarations.wash_style.Goals as goal

pub loop-piece-init : goal.loop-piece-init
loop-piece-init c = rw (c.in_ok-style.ensures.items, c.as_bytes-rest.ensures.value) (washed_begins c.args.text.now)

-- what is written in the end
whole : (style rest written text : List ℕ) → pieces Outside rest ≡ rest ∷ [] → written ≡ with_declaration style (declaration_of rest)
    → style_onto style (filter_map declaration_of (pieces Outside rest)) ≡ stylewash text → written ≡ stylewash text
whole style rest written text last is all =
    is ∙ sym (ap (λ (ps : List (List ℕ)). style_onto style (filter_map declaration_of ps)) last ∙ style_onto-piece style rest []) ∙ all

pub text_of-requires : goal.text_of-requires
text_of-requires c =
    let all = whole _ _ _ c.args.text.now c.in_default.ensures c.in_ok-push_declaration-2.ensures c.loop-piece.invariant in
    let P : List ℕ → Type 0 = λ bytes. IsAscii bytes in
    subst P (sym all) (IsAscii-stylewash c.args.text.now)

pub returns-clause-equals : goal.returns-clause-equals
returns-clause-equals c =
    c.text_of.ensures ∙ whole _ _ _ c.args.text.now c.in_default.ensures c.in_ok-push_declaration-2.ensures c.loop-piece.invariant

pub returns-clause-style : goal.returns-clause-style
returns-clause-style c =
    let all = c.text_of.ensures ∙ whole _ _ _ c.args.text.now c.in_default.ensures c.in_ok-push_declaration-2.ensures c.loop-piece.invariant in
    subst IsStyle (sym all) (washed_is_style c.args.text.now)

pub returns-clause-idempotent : goal.returns-clause-idempotent
returns-clause-idempotent c =
    let all = c.text_of.ensures ∙ whole _ _ _ c.args.text.now c.in_default.ensures c.in_ok-push_declaration-2.ensures c.loop-piece.invariant in
    ap stylewash all ∙ washing_is_idempotent c.args.text.now ∙ sym all

pub returns-clause-characters : goal.returns-clause-characters
returns-clause-characters c =
    let all = c.text_of.ensures ∙ whole _ _ _ c.args.text.now c.in_default.ensures c.in_ok-push_declaration-2.ensures c.loop-piece.invariant in
    ap (list_all is_style_char) all ∙ washed_characters c.args.text.now

pub returns-clause-functions : goal.returns-clause-functions
returns-clause-functions c =
    let all = c.text_of.ensures ∙ whole _ _ _ c.args.text.now c.in_default.ensures c.in_ok-push_declaration-2.ensures c.loop-piece.invariant in
    ap (calls_only_rgb []) all ∙ washed_calls_only_rgb c.args.text.now
