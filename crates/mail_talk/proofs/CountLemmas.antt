-- The bytes that are heard for a command are counted.
use Rattle.std.proofs.Common.{◌≡◌, ℕ, ◌+◌, ◌≤◌, Bool, true, false, cond, Option, Some, None, List, [], ◌∷◌, ◌++◌, length, refl, sym, ap, ◌∙◌, subst, arith}
use Rattle.std.proofs.lemmas.List.{length-append}
use Rattle.imap_framing.specs.Units.{FrameState, step}
use Rattle.imap_framing.specs.Units.FrameState.{Line, Octets, Whole, TooLong, Past}
use Rattle.imap_grammar.specs.Response.{ResponseData, response_of}
use Rattle.mail_talk.specs.States.{is_listening}
use Rattle.mail_talk.specs.Units.{TalkState, with_rest, damaged, after_unit_read, take_units, drained, heard_count}
use Rattle.mail_talk.proofs.UnitLemmas.{take_byte, take_one, take_none, drained_open, drained_closed}

-- more bytes were heard in the same command, and none were lost
pub record Counts (s t : TalkState) (more : ℕ) : Type 0 where
  pub bytes : t.at + length t.rest ≡ s.at + more
  pub from : t.from ≡ s.from

damaged_counts : (s : TalkState) (more : ℕ) → is_listening (damaged s).told.phase ≡ true → Counts s (damaged s) more
damaged_counts s more listens = cc

-- what follows a whole unit that was read
abbrev after_read : List ℕ → TalkState → TalkState
after_read bytes u = cond (is_listening u.told.phase) (take_units [] (Line true []) bytes u) u

abbrev Taken : List ℕ → TalkState → Type 0
Taken bytes u = is_listening (take_units [] (Line true []) bytes u).told.phase ≡ true → Counts u (take_units [] (Line true []) bytes u) (length bytes)

open_counts : (listening : Bool) (bytes : List ℕ) (u : TalkState) → is_listening u.told.phase ≡ listening → Taken bytes u → u.rest ≡ bytes
    → is_listening (cond listening (take_units [] (Line true []) bytes u) u).told.phase ≡ true → Counts u (cond listening (take_units [] (Line true []) bytes u) u) (length bytes)
open_counts true bytes u is later rest listens = later listens
open_counts false bytes u is later rest listens = absurd (let e : false ≡ true = sym is ∙ listens in cc)

read_counts : (read : Option ResponseData) (n : ℕ) (bytes : List ℕ) (s : TalkState) → ((u : TalkState) → Taken bytes u)
    → is_listening (after_read bytes (after_unit_read read n (with_rest bytes s))).told.phase ≡ true → Counts s (after_read bytes (after_unit_read read n (with_rest bytes s))) (n + length bytes)
read_counts None n bytes s later listens = cc
read_counts (Some r) n bytes s later listens =
    let u : TalkState = after_unit_read (Some r) n (with_rest bytes s) in
    let c : Counts u (after_read bytes u) (length bytes) = open_counts (is_listening u.told.phase) bytes u refl (later u) refl listens in
    let all : (after_read bytes u).at + length (after_read bytes u).rest ≡ s.at + n + length bytes = c.bytes in
    record { bytes = omega (arith, all); from = c.from }

byte_counts : (next : FrameState) (begun : List ℕ) (c : ℕ) (bytes : List ℕ) (s : TalkState) → ((u : TalkState) → Taken bytes u)
    → (is_listening (take_units (begun ++ c ∷ []) next bytes s).told.phase ≡ true → Counts s (take_units (begun ++ c ∷ []) next bytes s) (length (begun ++ c ∷ []) + length bytes))
    → is_listening (take_byte next begun c bytes s).told.phase ≡ true → Counts s (take_byte next begun c bytes s) (length (begun ++ c ∷ []) + length bytes)
byte_counts (Line first line) begun c bytes s later goes listens = goes listens
byte_counts (Octets left) begun c bytes s later goes listens = goes listens
byte_counts Whole begun c bytes s later goes listens = read_counts (response_of (begun ++ c ∷ [])) (length (begun ++ c ∷ [])) bytes s later listens
byte_counts TooLong begun c bytes s later goes listens = damaged_counts s _ listens
byte_counts Past begun c bytes s later goes listens = damaged_counts s _ listens

longer : (begun : List ℕ) (c : ℕ) (bytes : List ℕ) → length (begun ++ c ∷ []) + length bytes ≡ length begun + length (c ∷ bytes)
longer begun c bytes = let e = length-append begun (c ∷ []) in omega (arith, e)

whole_bytes : (bytes : List ℕ) → 0 + length bytes ≡ length bytes
whole_bytes bytes = omega arith

-- the units of some bytes
take_counts : (begun : List ℕ) (frame : FrameState) (bytes : List ℕ) (s : TalkState) → is_listening (take_units begun frame bytes s).told.phase ≡ true → Counts s (take_units begun frame bytes s) (length begun + length bytes)
take_counts begun frame [] s listens = subst (λ (t : TalkState). Counts s t (length begun + 0)) (sym (take_none begun frame s)) (record { bytes = omega arith; from = refl })
take_counts begun frame (c ∷ bytes) s listens =
    subst (λ (t : TalkState). Counts s t (length begun + length (c ∷ bytes))) (sym (take_one begun frame c bytes s))
    (subst (λ (n : ℕ). Counts s (take_byte (step frame c) begun c bytes s) n) (longer begun c bytes)
    (byte_counts (step frame c) begun c bytes s (λ u h. subst (λ (n : ℕ). Counts u (take_units [] (Line true []) bytes u) n) (whole_bytes bytes) (take_counts [] (Line true []) bytes u h)) (take_counts (begun ++ c ∷ []) (step frame c) bytes s)
    (ap (λ (t : TalkState). is_listening t.told.phase) (sym (take_one begun frame c bytes s)) ∙ listens)))

drained_counts : (listening : Bool) (s : TalkState) → is_listening s.told.phase ≡ listening → is_listening (drained s).told.phase ≡ true → Counts s (drained s) (length s.rest)
drained_counts true s is listens =
    subst (λ (t : TalkState). Counts s t (length s.rest)) (sym (drained_open s is)) (subst (λ (n : ℕ). Counts s (take_units [] (Line true []) s.rest s) n) (whole_bytes s.rest) (take_counts [] (Line true []) s.rest s (ap (λ (t : TalkState). is_listening t.told.phase) (sym (drained_open s is)) ∙ listens)))
drained_counts false s is listens = absurd (let e : false ≡ true = sym is ∙ ap (λ (t : TalkState). is_listening t.told.phase) (sym (drained_closed s is)) ∙ listens in cc)

-- while the server is listened to, all bytes count that were heard
pub heard_counts : (bytes : List ℕ) (s t : TalkState) → s.from ≤ s.at → t ≡ drained (with_rest (s.rest ++ bytes) s) → is_listening t.told.phase ≡ true → heard_count t ≡ heard_count s + length bytes
heard_counts bytes s t begun is listens =
    let u : TalkState = with_rest (s.rest ++ bytes) s in
    let c : Counts u t (length (s.rest ++ bytes)) = subst (λ (x : TalkState). Counts u x (length (s.rest ++ bytes))) (sym is) (drained_counts (is_listening s.told.phase) u refl (ap (λ (x : TalkState). is_listening x.told.phase) (sym is) ∙ listens)) in
    let all : t.at + length t.rest ≡ s.at + length (s.rest ++ bytes) = c.bytes in
    let from : t.from ≡ s.from = c.from in
    let e = length-append s.rest bytes in
    omega (arith, all, from, e, begun)
