-- What one turn of the scan comes to.
use Rattle.std.proofs.Common.{◌≡◌, ℕ, zero, suc, ◌+◌, ◌-◌, ◌<◌, ◌≤◌, Bool, true, false, List, [], ◌∷◌, ◌++◌, length, get_or, take, drop, refl, sym, ap, subst, ◌∙◌, arith}
use Rattle.std.specs.List.{position_or_len}
use Rattle.std.proofs.lemmas.List.{take_more, drop-append-le, length-take, length-take-le, drop-take, length-drop, take_rest, get_or-drop}
use Rattle.std.proofs.Math.Seq.{take-add, drop-length}
use Rattle.std.proofs.lemmas.List.Sums.{passes_at_first}
use Rattle.imap_framing.specs.Units.{FrameState, step, frame_state_from, frame_state, octets_left, after_line_feed}
use Rattle.imap_framing.specs.Units.FrameState.{Line, Octets}
use Rattle.imap_framing.specs.declared.scan.Phase.TheVariants as phases
use Rattle.imap_framing.specs.declared.line.Ending.{Ending}
use Rattle.imap_framing.specs.Scans.{PhaseIs, state_after_line_feed}
use Rattle.imap_framing.proofs.StateLemmas.{frame_state-append, octets_on, line_on, feed_on, is_feed}

-- ---- literals

octets_some : (n : ℕ) → 0 < n → octets_left n ≡ Octets n
octets_some zero h = absurd (omega arith)
octets_some (suc n) h = refl

literal_on : (unit : List ℕ) (at n left : ℕ) → at + n ≤ length unit → n ≤ left → 0 < left → frame_state (take at unit) ≡ Octets left → frame_state (take (at + n) unit) ≡ octets_left (left - n)
literal_on unit at n left room le some here =
    let part : List ℕ = take n (drop at unit) in
    let len : length part ≡ n = length-take-le n (drop at unit) (omega (arith, length-drop at unit)) in
    let short : length part ≤ left = omega arith in
    rw (take-add at n unit) (frame_state-append (take at unit) part ∙ ap (λ (p : FrameState). frame_state_from p part) (here ∙ sym (octets_some left some)) ∙ octets_on left part short ∙ ap (λ (k : ℕ). octets_left (left - k)) len)

-- a line begins there
line_begins : (unit : List ℕ) (at : ℕ) → at ≤ length unit → frame_state (take at unit) ≡ octets_left 0 → PhaseIs (take at unit) (phases.Line at false)
line_begins unit at le here =
    let len : length (take at unit) ≡ at = length-take-le at unit le in
    let none : drop at (take at unit) ≡ [] = ap (λ (k : ℕ). drop k (take at unit)) (sym len) ∙ drop-length (take at unit) in
    (omega arith, here ∙ ap (λ (xs : List ℕ). Line false xs) (sym none))

pub literal_ends : (unit : List ℕ) (at left : ℕ) → left ≤ length unit - at → at < length unit → PhaseIs (take at unit) (phases.Octets left) → PhaseIs (take (at + left) unit) (phases.Line (at + left) false)
literal_ends unit at left room lt here =
    let zero_left : left - left ≡ 0 = omega arith in
    line_begins unit (at + left) (omega arith) (literal_on unit at left left (omega arith) (omega arith) here.0 here.1 ∙ ap octets_left zero_left)

pub literal_stays : (unit : List ℕ) (at left : ℕ) → length unit - at < left → at < length unit → PhaseIs (take at unit) (phases.Octets left) → PhaseIs (take (length unit) unit) (phases.Octets (left - (length unit - at)))
literal_stays unit at left part lt here =
    let n : ℕ = length unit - at in
    let whole : at + n ≡ length unit = omega arith in
    let some : 0 < left - n = omega arith in
    let at_end : frame_state (take (at + n) unit) ≡ octets_left (left - n) = literal_on unit at n left (omega arith) (omega arith) here.0 here.1 in
    (some, ap (λ (k : ℕ). frame_state (take k unit)) (sym whole) ∙ at_end ∙ octets_some (left - n) some)

-- ---- lines

pub line_stays : (unit : List ℕ) (at n from : ℕ) (first : Bool) → n ≡ position_or_len is_feed (take (length unit - at) (drop at unit)) → PhaseIs (take at unit) (phases.Line from first) → PhaseIs (take (at + n) unit) (phases.Line from first)
line_stays unit at n from first place here =
    let is : n ≡ position_or_len is_feed (drop at unit) = place ∙ ap (position_or_len is_feed) (take_rest unit at) in
    let part : List ℕ = take n (drop at unit) in
    let on : frame_state_from (Line first (drop from (take at unit))) part ≡ Line first (drop from (take at unit) ++ part) =
    subst (λ (k : ℕ). frame_state_from (Line first (drop from (take at unit))) (take k (drop at unit)) ≡ Line first (drop from (take at unit) ++ take k (drop at unit))) (sym is) (line_on first (drop from (take at unit)) (drop at unit)) in
    let longer : drop from (take (at + n) unit) ≡ drop from (take at unit) ++ part = ap (λ (xs : List ℕ). drop from xs) (take-add at n unit) ∙ drop-append-le from (take at unit) part here.0 in (
      omega (arith, length-take at unit, length-take (at + n) unit, here.0),
      ap frame_state (take-add at n unit) ∙ frame_state-append (take at unit) part ∙ ap (λ (p : FrameState). frame_state_from p part) here.1 ∙ on ∙ ap (λ (xs : List ℕ). Line first xs) (sym longer),
    )

pub feed_there : (unit : List ℕ) (at n : ℕ) → n ≡ position_or_len is_feed (take (length unit - at) (drop at unit)) → at + n < length unit → get_or unit (at + n) 0 ≡ 10
feed_there unit at n place lt =
    let is : n ≡ position_or_len is_feed (drop at unit) = place ∙ ap (position_or_len is_feed) (take_rest unit at) in
    let passes : is_feed (get_or (drop at unit) n 0) ≡ true = subst (λ (k : ℕ). is_feed (get_or (drop at unit) k 0) ≡ true) (sym is) (passes_at_first is_feed (drop at unit) 0 (omega (arith, length-drop at unit))) in
    let ten : get_or (drop at unit) n 0 ≡ 10 = grind (arith, passes) in
    sym (get_or-drop at unit n 0) ∙ ten

line_between : (unit : List ℕ) (at from : ℕ) → from ≤ length (take at unit) → take (at - from) (drop from unit) ≡ drop from (take at unit)
line_between unit at from le =
    let less : from ≤ at = omega (arith, length-take at unit) in
    let sum : from + (at - from) ≡ at = omega arith in
    sym (ap (λ (k : ℕ). drop from (take k unit)) (sym sum) ∙ drop-take from (at - from) unit)

-- where an LF leads
pub feed_leads : (unit : List ℕ) (at from : ℕ) (first : Bool) (ending : Ending) → at < length unit → get_or unit at 0 ≡ 10 → PhaseIs (take at unit) (phases.Line from first)
    → state_after_line_feed ending first (take (at - from) (drop from unit)) ≡ after_line_feed first (take (at - from) (drop from unit)) → frame_state (take (at + 1) unit) ≡ state_after_line_feed ending first (drop from (take at unit))
unfolding step
feed_leads unit at from first ending lt feed here is =
    let line : take (at - from) (drop from unit) ≡ drop from (take at unit) = line_between unit at from here.0 in
    feed_on unit at first (drop from (take at unit)) lt feed here.1 ∙ sym (subst (λ (l : List ℕ). state_after_line_feed ending first l ≡ after_line_feed first l) line is)

pub feed_goes_on : (unit : List ℕ) (at from : ℕ) (first : Bool) → at < length unit → get_or unit at 0 ≡ 10 → PhaseIs (take at unit) (phases.Line from first)
    → frame_state (take (at + 1) unit) ≡ Line first (drop from (take at unit) ++ 10 ∷ []) → PhaseIs (take (at + 1) unit) (phases.Line from first)
feed_goes_on unit at from first lt feed here is =
    let longer : drop from (take (at + 1) unit) ≡ drop from (take at unit) ++ 10 ∷ [] =
    ap (λ (xs : List ℕ). drop from xs) (take_more unit at 0 lt) ∙ drop-append-le from (take at unit) (get_or unit at 0 ∷ []) here.0 ∙ ap (λ (c : ℕ). drop from (take at unit) ++ c ∷ []) feed in
    (omega (arith, length-take at unit, length-take (at + 1) unit, here.0), is ∙ ap (λ (xs : List ℕ). Line first xs) (sym longer))

pub feed_begins : (unit : List ℕ) (at : ℕ) → at < length unit → frame_state (take (at + 1) unit) ≡ octets_left 0 → PhaseIs (take (at + 1) unit) (phases.Line (at + 1) false)
feed_begins unit at lt is = line_begins unit (at + 1) (omega arith) is

pub feed_opens : (unit : List ℕ) (at left : ℕ) → 0 < left → frame_state (take (at + 1) unit) ≡ octets_left left → PhaseIs (take (at + 1) unit) (phases.Octets left)
feed_opens unit at left some is = (some, is ∙ octets_some left some)
