-- Heads that are too long for the spans, and what a reader of heads returns.
use Rattle.std.proofs.Common.{refl, cond, ◌≡◌, ℕ, ◌+◌, ◌≤◌, List, [], ◌∷◌, ◌++◌, length, ap, arith, append-nil, inl, inr, ◌≢◌}
use Rattle.std.specs.Prelude.{◌==◌, IfOk, Result, Ok, Err}
use Rattle.std.specs.List.{flat_map}
use Rattle.std.proofs.lemmas.List.Sums.{sum_by-append}
use Rattle.httparse.specs.Grammar.{LineEnd, crlf, lf, print_end, Field, print_field, print_request, HasNoRequest, NeverHasRequest, MayBecomeRequest}
use Rattle.httparse.specs.Spans.{RequestExceeds}
use Rattle.httparse.specs.declared.Error.{Error}
use Rattle.httparse.specs.declared.Error.TheVariants.{TooManyHeaders}
use Rattle.httparse.specs.declared.spans.HeaderSpan.{HeaderSpan}
use Rattle.http_heads.specs.Heads.{line_feeds, HearsAs, IsNotHttp, ScansAs}
use Rattle.http_heads.specs.declared.heads.Heard.{Heard}
use Rattle.http_heads.specs.declared.heads.Heard.TheVariants.{Finished, More, NotHttp}

-- while a head may come, the bytes are HTTP
pub still_open : (bytes : List ℕ) → MayBecomeRequest bytes → ¬ (IsNotHttp bytes)
still_open bytes (inl (more, h, reads)) bad = bad.0 more h [] reads
still_open bytes (inr ends) bad = bad.1 ends

-- if none ever comes, there is none
pub none_now : (bytes : List ℕ) → NeverHasRequest bytes → HasNoRequest bytes
none_now bytes never h rest reads = never [] h rest (rw append-nil reads)

-- ---- a head has a line feed for each field, and two more

feeds_append : (xs ys : List ℕ) → line_feeds (xs ++ ys) ≡ line_feeds xs + line_feeds ys
feeds_append xs ys = sum_by-append (λ (b : ℕ). cond (b == 10) 1 0) xs ys

end_feeds : (end : LineEnd) → line_feeds (print_end end) ≡ 1
end_feeds crlf = refl
end_feeds lf = refl

lines_feeds : (fields : List Field) → length fields ≤ line_feeds (flat_map print_field fields)
lines_feeds [] = omega arith
lines_feeds (f ∷ fields) =
    let rest = lines_feeds fields in
    let last = end_feeds f.end in
    simp (feeds_append) (omega (arith, rest, last))

exceeds_feeds : (room : ℕ) (bytes : List ℕ) → RequestExceeds room bytes → room + 1 ≤ line_feeds bytes
unfolding print_request
exceeds_feeds room bytes (front, rest, is, h, reads, more) =
    let lines = lines_feeds h.fields in
    let first = end_feeds h.line_end in
    let last = end_feeds h.last in
    let lens0 : line_feeds (front ++ print_end lf) ≡ line_feeds (print_request h ++ []) = ap line_feeds reads.1 in
    let whole0 : line_feeds bytes ≡ line_feeds (front ++ rest) = ap line_feeds is in
    let lens = simp feeds_append at lens0 in
    let whole = simp feeds_append at whole0 in
    omega (arith, lines, first, last, lens, whole, more)

-- an error is never for want of spans
pub never : (bytes : List ℕ) (room : ℕ) (e : Error) → line_feeds bytes ≤ room
    → (e ≢ TooManyHeaders → NeverHasRequest bytes) → (e ≡ TooManyHeaders → RequestExceeds room bytes) → NeverHasRequest bytes
never bytes room e short invalid too_many =
    invalid (λ same. let long = exceeds_feeds room bytes (too_many same) in absurd (omega (arith, long, short)))

-- what a parser returns, a scan may return
scans_as : (bytes : List ℕ) (spans : List HeaderSpan) (heard : Heard) → HearsAs bytes spans heard → ScansAs bytes spans heard
scans_as bytes spans (Finished head) hears = hears
scans_as bytes spans More hears = hears.0
scans_as bytes spans NotHttp hears = hears

-- what a parser returns if memory is there, a scan may return
pub scans_if_ok : {E : Type 0} → (bytes : List ℕ) (spans : List HeaderSpan) (r : Result Heard E) → IfOk r (HearsAs bytes spans) → IfOk r (ScansAs bytes spans)
scans_if_ok bytes spans (Ok heard) hears = scans_as bytes spans heard hears
scans_if_ok bytes spans (Err e) hears = hears
