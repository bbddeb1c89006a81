use Rattle.std.proofs.Common.{rules, ◌≡◌, Some, None, length, is_none}
use Rattle.std.specs.List.{position}
use Rattle.site_sessions.specs.Entering.{live, live_of, slot_of}
use Rattle.site_sessions.proofs.Admitting.{account_full, full, let_in, no_slot_left}
use Rattle.site_sessions.proofs.roster.Roster.choose.Goals as goal

pub returns-in_default-clause-fault : goal.returns-in_default-clause-fault
returns-in_default-clause-fault g c =
    let size : length c.args.self.now.places ≡ 128 = search rules in
    let none : position is_none c.args.self.now.places ≡ None = search rules in
    full c.args.self.now c.args.user.now size none

pub returns-then-own-ge-USER_LIMIT-clause-fault : goal.returns-then-own-ge-USER_LIMIT-clause-fault
returns-then-own-ge-USER_LIMIT-clause-fault g c =
    let size : length c.args.self.now.places ≡ 128 = search rules in
    let some : position is_none c.args.self.now.places ≡ Some c.in-Some.place = search rules in
    let own : c.count_sessions_of-own.result ≡ live_of c.args.user.now c.args.self.now = search rules in
    account_full c.args.self.now c.args.user.now c.in-Some.place c.count_sessions_of-own.result size some own (search rules)

pub returns-in-Some-account_for-clause-no_fault : goal.returns-in-Some-account_for-clause-no_fault
returns-in-Some-account_for-clause-no_fault g c =
    let size : length c.args.self.now.places ≡ 128 = search rules in
    let some : position is_none c.args.self.now.places ≡ Some c.in-Some.place = search rules in
    let own : c.count_sessions_of-own.result ≡ live_of c.args.user.now c.args.self.now = search rules in
    let slot : slot_of c.args.user.now c.args.self.now ≡ Some c.in-Some-account_for.account = search rules in
    let_in c.args.self.now c.args.user.now c.in-Some.place c.in-Some-account_for.account c.count_sessions_of-own.result size some own (search rules) slot

pub returns-in-None-clause-fault : goal.returns-in-None-clause-fault
returns-in-None-clause-fault g c =
    let size : length c.args.self.now.places ≡ 128 = search rules in
    let some : position is_none c.args.self.now.places ≡ Some c.in-Some.place = search rules in
    let own : c.count_sessions_of-own.result ≡ live_of c.args.user.now c.args.self.now = search rules in
    let all : c.count_sessions.result ≡ live c.args.self.now = search rules in
    let slot : slot_of c.args.user.now c.args.self.now ≡ None = search rules in
    no_slot_left c.args.self.now c.args.user.now c.in-Some.place c.count_sessions_of-own.result c.count_sessions.result size some own all (search rules) slot
