use Rattle.std.proofs.Common.{◌≡◌, ◌+◌, ◌-◌, ◌<◌, ◌≤◌, refl, get_or, length, take, drop, ap, ◌∙◌, arith}
use Rattle.std.proofs.lemmas.Bool.{eqb-true}
use Rattle.std.proofs.lemmas.List.{length-take-le}
use Rattle.mime_tree.specs.Body.{delimiters}
use Rattle.mime_tree.proofs.SearchLemmas.{nothing_found, found_after}
use Rattle.mime_tree.proofs.body.skip_to_boundary.Goals as goal

pub returns-in_err-found-clause-none : goal.returns-in_err-found-clause-none
returns-in_err-found-clause-none c =
    let text = c.args.text.now in
    let at = c.args.start.at in
    rw c.from_residual.ensures (nothing_found c.args.boundary.now text c.args.finder.now (take (length text - at) (drop at text)) c.args.start.line_break at c.requires.needle refl c.in_err-found.ensures)

pub returns-in-Some-clause-same : goal.returns-in-Some-clause-same
returns-in-Some-clause-same c =
    let text = c.args.text.now in
    let at = c.args.start.at in
    let rest = take (length text - at) (drop at text) in
    let found = c.in_ok-found.found in
    let feed = c.in-Some.feed in
    let first = c.in_ok-found.ensures.0 in
    let last = c.in-Some.ensures in
    let within : found ≤ length rest = (let f = first.high in omega arith) in
    let size : length (take found rest) ≡ found = length-take-le found rest within in
    let lt : feed < found = (let f = last.0.high in omega arith) in
    ap (λ n. delimiters c.args.boundary.now (at + n) (at + feed + 1) (drop (at + feed + 1) text)) (ap length c.without_return.ensures)
    ∙ found_after c.args.boundary.now text c.args.finder.now rest c.args.start.line_break at found feed c.requires.needle refl (omega arith) within first.before lt (eqb-true (get_or (take found rest) feed 0) 10 last.1)
