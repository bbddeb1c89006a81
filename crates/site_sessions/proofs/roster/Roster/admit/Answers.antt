use Rattle.std.proofs.Common.{rules, ◌≡◌, ◌<◌, Some, None, is_none, length, ap, subst, sym, refl, ◌∙◌, to_z, of_z, w64}
use Rattle.std.specs.Prelude.{slice_get}
use Rattle.std.specs.List.{position}
use Rattle.std.proofs.lemmas.Option.{slice_get-get_or}
use Rattle.site_sessions.specs.Sessions.{RosterValue, SessionValue, SlotValue}
use Rattle.site_sessions.specs.Entering.{fault_of, given_to, slot_of}
use Rattle.site_sessions.proofs.Admitting.{admits, few_if_let_in, only_in_slot}
use Rattle.site_sessions.proofs.roster.Roster.admit.Goals as goal

pub invariant_of-self : goal.invariant_of-self
invariant_of-self g c =
    let here = c.self.inside in
    let r : RosterValue = record { places = here.places.items; slots = here.slots.items } in
    let slot : SlotValue = c.index_mut.result.now in
    let shown : r ≡ c.args.self.now = c.self.view_is in
    let plain : to_z w64 (of_z w64 c.args.entrant.now) ≡ c.args.entrant.now = search rules in
    let within : c.args.account < length here.slots.items = subst (λ (q : RosterValue). c.args.account < length q.slots) (sym shown) c.requires.account_within in
    let found : slice_get here.slots.items c.args.account ≡ Some slot = slice_get-get_or here.slots.items c.args.account slot within ∙ ap Some (sym c.index_mut.ensures.value) in
    let chosen : slot_of c.args.entrant.user r ≡ Some c.args.account = ap (slot_of c.args.entrant.user) shown ∙ c.requires.account in
    let free : position is_none r.places ≡ Some c.args.place = ap (λ (q : RosterValue). position is_none q.places) shown ∙ c.requires.place in
    let given : c.give-pass.new.self ≡ given_to c.args.entrant.user slot = c.give-pass.ensures.given ∙ ap (λ u. given_to u slot) c.args.entrant.one_user in
    let fine : fault_of c.args.entrant.user r ≡ None = ap (fault_of c.args.entrant.user) shown ∙ c.requires.no_fault in
    let s : SessionValue = record { account = c.args.account; user = c.args.entrant.user; token = c.args.entrant.token; key = c.args.entrant.key; last = c.args.entrant.now; pass = c.give-pass.result } in
    rw (plain, given) (admits here.places.items here.slots.items c.args.place c.args.account slot s c.self.invariant free found within refl (few_if_let_in r c.args.entrant.user fine) (only_in_slot r c.args.entrant.user c.args.account slot c.self.invariant chosen found))

pub returns : goal.returns
returns g c =
    let here = c.self.inside in
    let r : RosterValue = record { places = here.places.items; slots = here.slots.items } in
    let slot : SlotValue = c.index_mut.result.now in
    let shown : r ≡ c.args.self.now = c.self.view_is in
    let plain : to_z w64 (of_z w64 c.args.entrant.now) ≡ c.args.entrant.now = search rules in
    let within : c.args.account < length here.slots.items = subst (λ (q : RosterValue). c.args.account < length q.slots) (sym shown) c.requires.account_within in
    let found : slice_get here.slots.items c.args.account ≡ Some slot = slice_get-get_or here.slots.items c.args.account slot within ∙ ap Some (sym c.index_mut.ensures.value) in
    let chosen : slot_of c.args.entrant.user r ≡ Some c.args.account = ap (slot_of c.args.entrant.user) shown ∙ c.requires.account in
    let free : position is_none r.places ≡ Some c.args.place = ap (λ (q : RosterValue). position is_none q.places) shown ∙ c.requires.place in
    let given : c.give-pass.new.self ≡ given_to c.args.entrant.user slot = c.give-pass.ensures.given ∙ ap (λ u. given_to u slot) c.args.entrant.one_user in
    rw (← c.self.view_is, plain, given, c.give-pass.ensures.pass) (record { account = c.args.account; slot = slot; account_is = chosen; slot_is = found; place_is = free; places = refl; slots = refl })
