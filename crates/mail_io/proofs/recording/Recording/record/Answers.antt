use Rattle.std.proofs.Common.{rules, ◌≡◌, ◌++◌, ◌∷◌, [], ap, arith}
use Rattle.mail_io.proofs.RecordingLemmas.{is_recording, shown_more}
use Rattle.mail_io.proofs.recording.Recording.record.Goals as goal

pub invariant_of-self : goal.invariant_of-self
invariant_of-self c =
    let here = c.self.inside in
    let one : c.push.new.self.items ≡ here.entries.items ++ c.args.entry ∷ [] = search rules in
    let more : c.extend_from_slice.new.self.items ≡ here.bytes.items ++ c.args.bytes.now = search rules in
    let room = ap (λ s. s.entry_room) c.self.view_is in
    let byte_room = ap (λ s. s.byte_room) c.self.view_is in
    rw (one, more) (
      is_recording here.byte_room here.entry_room here.entries.items c.args.entry here.bytes.items c.args.bytes.now c.self.invariant.0 c.requires.len (omega (arith, room, c.requires.room)) (omega (arith, byte_room, c.requires.byte_room)),
      search rules,
      search rules,
    )

pub returns : goal.returns
returns c =
    let here = c.self.inside in
    let one : c.push.new.self.items ≡ here.entries.items ++ c.args.entry ∷ [] = search rules in
    let more : c.extend_from_slice.new.self.items ≡ here.bytes.items ++ c.args.bytes.now = search rules in
    let room = ap (λ s. s.entry_room) c.self.view_is in
    rw (one, more) (shown_more here.byte_room here.entry_room here.entries.items c.args.entry here.bytes.items c.args.bytes.now _ c.self.invariant.0 (omega (arith, room, c.requires.room)) c.self.view_is)
