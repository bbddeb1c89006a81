use Rattle.std.proofs.Common.{◌≡◌, ◌<◌, ◌^◌, ◌+◌, ◌≤◌, ℕ, List, [], sym, ◌∙◌, arith, rules, ap, subst, length, take, drop, get_or}
use Rattle.std.specs.Prelude.{nat_le, ◌==◌}
use Rattle.std.specs.List.{concat, AllByRecursion}
use Rattle.std.proofs.lemmas.List.{drop_all}
use Rattle.std.proofs.lemmas.Result.{err_from_is_err_and, IfOk-weaker}
use Rattle.std.specs.Global.{Vec}
use Rattle.imap_commands.specs.Written.{bytes_of_vecs}
use Rattle.imap_commands.proofs.NonemptyLemmas.{command_pieces_nonempty}
use Rattle.account_turns.specs.declared.endings.Ending.{Ending}
use Rattle.account_turns.specs.declared.endings.Last.{Last}
use Rattle.account_turns.specs.Causes.{last_of}
use Rattle.account_turns.specs.Exchanges.{IsIdleAfter, Speaks, Spoken, ending_of, with_uttered}
use Rattle.account_turns.proofs.EndingLemmas.{idle_end}
use Rattle.account_turns.proofs.TurnLemmas.{and_then, weaker}
use Rattle.account_turns.proofs.SpeakLemmas.{awaits_next, filled_at, items_at, lost_at, part_at, said_at, same_length, speaks_done, speaks_end, speaks_on}
use Rattle.account_turns.proofs.exchange.speak.Goals as goal

pub send-requires : goal.send-requires
send-requires g c =
    let bs : List (List ℕ) = bytes_of_vecs c.args.pieces.now in
    let lt : c.loop-i.i < length bs = subst (λ (n : ℕ). c.loop-i.i < n) (sym (same_length c.args.pieces.now)) c.loop-i-test.true in
    let same : c.deref.result.now ≡ get_or bs c.loop-i.i [] = c.deref.ensures.value ∙ ap (λ (x : Vec ℕ). x.items) c.index-pieces-i.is ∙ items_at c.args.pieces.now c.loop-i.i _ c.loop-i-test.true in
    record { nonempty = subst (λ (l : List ℕ). 0 < length l) (sym same) (filled_at bs c.loop-i.i lt (subst (λ (l : List (List ℕ)). AllByRecursion (λ (x : List ℕ). 0 < length x) l) (sym c.requires.pieces) (command_pieces_nonempty c.args.number c.args.command.now))) }

pub loop-i-preserved : goal.loop-i-preserved
loop-i-preserved g c =
    let bs : List (List ℕ) = bytes_of_vecs c.args.pieces.now in
    let lt : c.loop-i.i < length bs = subst (λ (n : ℕ). c.loop-i.i < n) (sym (same_length c.args.pieces.now)) c.loop-i-test.true in
    let same : c.deref.result.now ≡ get_or bs c.loop-i.i [] = c.deref.ensures.value ∙ ap (λ (x : Vec ℕ). x.items) c.index-pieces-i.is ∙ items_at c.args.pieces.now c.loop-i.i _ c.loop-i-test.true in
    let small : c.args.number < 2 ^ 32 = omega arith in
    let said : c.utter.new.listener ≡ with_uttered (c.loop-i.i == 0) (nat_le (length bs) (c.loop-i.i + 1)) c.args.command.now c.loop-i.listener = c.in_ok-utter-in-Ok.ensures ∙ ap (λ (n : ℕ). with_uttered (c.loop-i.i == 0) (nat_le n (c.loop-i.i + 1)) c.args.command.now c.loop-i.listener) (sym (same_length c.args.pieces.now)) in
    record {
      turn = λ t more p s. and_then _ _ _ t _ _ (c.loop-i.invariant.turn t more p s) (λ u h. and_then _ _ _ u _ _ (said_at _ _ u bs c.loop-i.i _ c.args.command.now c.args.number t.errand more t.fresh p c.loop-i.listener c.utter.new.listener lt c.requires.fits small c.requires.pieces c.loop-i.invariant.awaits same h c.in-Ok.ensures.says said)
          (λ v w. weaker _ _ v _ _ (c.in_ok-listen-in-Ok.ensures.turn v w.hearing) (λ x y. speaks_on (drop (c.loop-i.i + 1) bs) (take (c.loop-i.i + 1) bs) (last_of c.args.command.now) t.errand more t.fresh p c.utter.new.listener c.listen.new.listener v x w y (c.in_ok-listen-in-Ok.ensures.closed (search rules)) (search rules))));
      awaits = awaits_next c.loop-i.i (nat_le (length bs) (c.loop-i.i + 1)) c.args.command.now c.loop-i.listener c.utter.new.listener c.listen.new.listener c.args.number c.loop-i.invariant.awaits said c.in_ok-listen-in-Ok.ensures.same_number (search rules);
      kept = search rules;
      within = omega arith;
    }

pub returns-in_err-utter-in-Ok-clause-turn : goal.returns-in_err-utter-in-Ok-clause-turn
returns-in_err-utter-in-Ok-clause-turn g c =
    let bs : List (List ℕ) = bytes_of_vecs c.args.pieces.now in
    let lt : c.loop-i.i < length bs = subst (λ (n : ℕ). c.loop-i.i < n) (sym (same_length c.args.pieces.now)) c.loop-i-test.true in
    let same : c.deref.result.now ≡ get_or bs c.loop-i.i [] = c.deref.ensures.value ∙ ap (λ (x : Vec ℕ). x.items) c.index-pieces-i.is ∙ items_at c.args.pieces.now c.loop-i.i _ c.loop-i-test.true in
    λ t more p s. and_then _ _ _ t _ _ (c.loop-i.invariant.turn t more p s) (λ u h. weaker _ _ u _ _ (lost_at _ _ u bs c.loop-i.i _ (last_of c.args.command.now) t.errand more t.fresh p c.loop-i.listener lt same h c.in-Ok.ensures.says)
    (λ v w. let q = err_from_is_err_and c.from_residual.result c.from_residual.ensures.1 in rw q.1 tt))

pub returns-in_err-listen-in-Ok-clause-turn : goal.returns-in_err-listen-in-Ok-clause-turn
returns-in_err-listen-in-Ok-clause-turn g c =
    let bs : List (List ℕ) = bytes_of_vecs c.args.pieces.now in
    let lt : c.loop-i.i < length bs = subst (λ (n : ℕ). c.loop-i.i < n) (sym (same_length c.args.pieces.now)) c.loop-i-test.true in
    let same : c.deref.result.now ≡ get_or bs c.loop-i.i [] = c.deref.ensures.value ∙ ap (λ (x : Vec ℕ). x.items) c.index-pieces-i.is ∙ items_at c.args.pieces.now c.loop-i.i _ c.loop-i-test.true in
    let small : c.args.number < 2 ^ 32 = omega arith in
    let said : c.utter.new.listener ≡ with_uttered (c.loop-i.i == 0) (nat_le (length bs) (c.loop-i.i + 1)) c.args.command.now c.loop-i.listener = c.in_ok-utter-in-Ok.ensures ∙ ap (λ (n : ℕ). with_uttered (c.loop-i.i == 0) (nat_le n (c.loop-i.i + 1)) c.args.command.now c.loop-i.listener) (sym (same_length c.args.pieces.now)) in
    λ t more p s. and_then _ _ _ t _ _ (c.loop-i.invariant.turn t more p s) (λ u h. and_then _ _ _ u _ _ (said_at _ _ u bs c.loop-i.i _ c.args.command.now c.args.number t.errand more t.fresh p c.loop-i.listener c.utter.new.listener lt c.requires.fits small c.requires.pieces c.loop-i.invariant.awaits same h c.in-Ok.ensures.says said)
    (λ v w. weaker _ _ v _ _ (c.listen.ensures.turn v w.hearing) (λ x y. let q = err_from_is_err_and c.from_residual-in_err-listen-in-Ok.result c.from_residual-in_err-listen-in-Ok.ensures.1 in rw q.1 tt)))

pub returns-then-not-branch-clause-turn : goal.returns-then-not-branch-clause-turn
returns-then-not-branch-clause-turn g c =
    let bs : List (List ℕ) = bytes_of_vecs c.args.pieces.now in
    let lt : c.loop-i.i < length bs = subst (λ (n : ℕ). c.loop-i.i < n) (sym (same_length c.args.pieces.now)) c.loop-i-test.true in
    let same : c.deref.result.now ≡ get_or bs c.loop-i.i [] = c.deref.ensures.value ∙ ap (λ (x : Vec ℕ). x.items) c.index-pieces-i.is ∙ items_at c.args.pieces.now c.loop-i.i _ c.loop-i-test.true in
    let small : c.args.number < 2 ^ 32 = omega arith in
    let said : c.utter.new.listener ≡ with_uttered (c.loop-i.i == 0) (nat_le (length bs) (c.loop-i.i + 1)) c.args.command.now c.loop-i.listener = c.in_ok-utter-in-Ok.ensures ∙ ap (λ (n : ℕ). with_uttered (c.loop-i.i == 0) (nat_le n (c.loop-i.i + 1)) c.args.command.now c.loop-i.listener) (sym (same_length c.args.pieces.now)) in
    λ t more p s. and_then _ _ _ t _ _ (c.loop-i.invariant.turn t more p s) (λ u h. and_then _ _ _ u _ _ (said_at _ _ u bs c.loop-i.i _ c.args.command.now c.args.number t.errand more t.fresh p c.loop-i.listener c.utter.new.listener lt c.requires.fits small c.requires.pieces c.loop-i.invariant.awaits same h c.in-Ok.ensures.says said)
    (λ v w. weaker _ _ v _ _ (c.in_ok-listen-in-Ok.ensures.turn v w.hearing) (λ x y. record { errand = y.errand ∙ w.errand; seen = record { state = λ _. y.state; same = y.fresh ∙ w.fresh }; next = tt })))

pub returns-then-not-is_piece-clause-turn : goal.returns-then-not-is_piece-clause-turn
returns-then-not-is_piece-clause-turn g c =
    let bs : List (List ℕ) = bytes_of_vecs c.args.pieces.now in
    let lt : c.loop-i.i < length bs = subst (λ (n : ℕ). c.loop-i.i < n) (sym (same_length c.args.pieces.now)) c.loop-i-test.true in
    let same : c.deref.result.now ≡ get_or bs c.loop-i.i [] = c.deref.ensures.value ∙ ap (λ (x : Vec ℕ). x.items) c.index-pieces-i.is ∙ items_at c.args.pieces.now c.loop-i.i _ c.loop-i-test.true in
    let small : c.args.number < 2 ^ 32 = omega arith in
    let said : c.utter.new.listener ≡ with_uttered (c.loop-i.i == 0) (nat_le (length bs) (c.loop-i.i + 1)) c.args.command.now c.loop-i.listener = c.in_ok-utter-in-Ok.ensures ∙ ap (λ (n : ℕ). with_uttered (c.loop-i.i == 0) (nat_le n (c.loop-i.i + 1)) c.args.command.now c.loop-i.listener) (sym (same_length c.args.pieces.now)) in
    λ t more p s. and_then _ _ _ t _ _ (c.loop-i.invariant.turn t more p s) (λ u h. and_then _ _ _ u _ _ (said_at _ _ u bs c.loop-i.i _ c.args.command.now c.args.number t.errand more t.fresh p c.loop-i.listener c.utter.new.listener lt c.requires.fits small c.requires.pieces c.loop-i.invariant.awaits same h c.in-Ok.ensures.says said)
    (λ v w. weaker _ _ v _ _ (c.in_ok-listen-in-Ok.ensures.turn v w.hearing) (λ x y. IfOk-weaker c.how_ended.result _ _
    (λ e is. subst (λ (z : Ending). Spoken t.errand z more t.fresh p c.listen.new.listener x) (sym (is ∙ ap (λ (l : Last). ending_of l c.listen.new.listener) c.last_of.ensures))
    (speaks_end (drop (c.loop-i.i + 1) bs) (concat (take (c.loop-i.i + 1) bs)) (last_of c.args.command.now) t.errand more t.fresh p c.utter.new.listener c.listen.new.listener v x w y (c.in_ok-listen-in-Ok.ensures.closed (search rules)) (search rules))) c.how_ended.ensures)))

pub returns-then-not-is_piece-clause-idle : goal.returns-then-not-is_piece-clause-idle
returns-then-not-is_piece-clause-idle g c = IfOk-weaker c.how_ended.result _ _ (λ e is. subst (λ (y : Ending). IsIdleAfter y c.listen.new.listener) (sym is) (idle_end _ c.listen.new.listener)) c.how_ended.ensures

pub returns-in-Err-clause-turn : goal.returns-in-Err-clause-turn
returns-in-Err-clause-turn g c =
    let bs : List (List ℕ) = bytes_of_vecs c.args.pieces.now in
    let lt : c.loop-i.i < length bs = subst (λ (n : ℕ). c.loop-i.i < n) (sym (same_length c.args.pieces.now)) c.loop-i-test.true in
    let same : c.deref.result.now ≡ get_or bs c.loop-i.i [] = c.deref.ensures.value ∙ ap (λ (x : Vec ℕ). x.items) c.index-pieces-i.is ∙ items_at c.args.pieces.now c.loop-i.i _ c.loop-i-test.true in
    let small : c.args.number < 2 ^ 32 = omega arith in
    λ t more p s. and_then _ _ _ t _ _ (c.loop-i.invariant.turn t more p s) (λ u h. weaker _ _ u _ _ (part_at _ _ u bs c.loop-i.i _ c.args.command.now c.args.number t.errand more t.fresh p c.loop-i.listener lt c.requires.fits small c.requires.pieces same h c.in-Err.ensures.says_prefix)
    (λ v w. record { errand = w.0; seen = w.1; next = tt }))

pub returns-clause-turn : goal.returns-clause-turn
returns-clause-turn g c =
    let bs : List (List ℕ) = bytes_of_vecs c.args.pieces.now in
    let all : length bs ≤ c.loop-i.i = subst (λ (n : ℕ). n ≤ c.loop-i.i) (sym (same_length c.args.pieces.now)) (omega arith) in
    λ t more p s. weaker _ _ t _ _ (c.loop-i.invariant.turn t more p s) (λ u h. IfOk-weaker c.how_ended-2.result _ _
    (λ e is. subst (λ (z : Ending). Spoken t.errand z more t.fresh p c.loop-i.listener u) (sym (is ∙ ap (λ (l : Last). ending_of l c.loop-i.listener) c.last_of-2.ensures))
    (speaks_done (take c.loop-i.i bs) (last_of c.args.command.now) t.errand more t.fresh p c.loop-i.listener u (subst (λ (l : List (List ℕ)). Speaks t.errand (take c.loop-i.i bs) l (last_of c.args.command.now) more t.fresh p c.loop-i.listener u) (drop_all c.loop-i.i bs all) h))) c.how_ended-2.ensures)

pub returns-clause-idle : goal.returns-clause-idle
returns-clause-idle g c = IfOk-weaker c.how_ended-2.result _ _ (λ e is. subst (λ (y : Ending). IsIdleAfter y c.loop-i.listener) (sym is) (idle_end _ c.loop-i.listener)) c.how_ended-2.ensures
