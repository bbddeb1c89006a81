use Rattle.std.proofs.Common.{rules, ◌≡◌, ◌++◌, ◌∷◌, [], ap, subst, refl, ◌∙◌, inl, inr}
use Rattle.account_pictures.specs.declared.talk.Piece.TheVariants.{Said}
use Rattle.mail_io.specs.Talks.{EndsInNothingSaid}
use Rattle.mail_io.specs.Recordings.{RecordingState}
use Rattle.mail_io.specs.declared.recording.Entry.TheVariants as entry
use Rattle.mail_io.proofs.RecordingLemmas.{is_recording_closed, said_more, shown_said}
use Rattle.mail_io.proofs.recording.Recording.say_nothing.Goals as goal

pub invariant_of-self : goal.invariant_of-self
invariant_of-self c =
    let here = c.self.inside in
    let one : c.push.new.self.items ≡ here.entries.items ++ entry.Said 0 ∷ [] = search rules in
    rw one (is_recording_closed here.byte_room here.entry_room here.entries.items here.bytes.items c.self.invariant.0 (search rules), search rules, search rules)

pub returns-then-len-self-clause-says : goal.returns-then-len-self-clause-says
returns-then-len-self-clause-says c = λ _.
    let here = c.self.inside in
    let one : c.push.new.self.items ≡ here.entries.items ++ entry.Said 0 ∷ [] = search rules in
    rw one (shown_said here.byte_room here.entry_room here.entries.items here.bytes.items _ c.self.invariant.0 (search rules) c.self.view_is)

pub returns-then-len-self-clause-says_prefix : goal.returns-then-len-self-clause-says_prefix
returns-then-len-self-clause-says_prefix c = λ bytes some.
    let here = c.self.inside in
    let one : c.push.new.self.items ≡ here.entries.items ++ entry.Said 0 ∷ [] = search rules in
    rw one (inl (record { count = 0; proper = some; said = said_more here.entries.items here.bytes.items c.self.invariant.0.lens ∙ ap (λ (v : RecordingState). v.talk ++ Said [] ∷ []) c.self.view_is }))

pub returns-else-len-self-clause-says_prefix : goal.returns-else-len-self-clause-says_prefix
returns-else-len-self-clause-says_prefix c = λ bytes some. inr (subst (λ (v : RecordingState). EndsInNothingSaid v.talk) c.self.view_is (c.self.invariant.0.last (search rules)), refl)
