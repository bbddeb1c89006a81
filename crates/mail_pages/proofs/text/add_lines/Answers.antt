use Rattle.std.proofs.Common.{ap, sym, refl, ◌∙◌, ◌++◌, [], ◌∷◌, append_assoc, List, ℕ}
use Rattle.std.specs.Prelude.{string_bytes}
use Rattle.mail_pages.specs.Text.{with_line_feeds, skip_line_feed}
use Rattle.page_frames.specs.Elements.{text}
use Rattle.mail_pages.proofs.Gathering.{gathers-last}
use Rattle.mail_pages.proofs.LineFeeds.{next_line}
use Rattle.mail_pages.proofs.text.add_lines.Goals as goal

pub loop-line-init : goal.loop-line-init
loop-line-init c = record { utf8 = c.utf8.text; written = λ more. refl; opened = refl }

pub loop-line-preserved : goal.loop-line-preserved
loop-line-preserved c =
    let before = string_bytes c.loop-line.gathered in
    let out = c.loop-line.out in
    let line : List ℕ = c.in-Some.line.now in
    let after : List ℕ = c.without_first_line_feed-rest.result.now in
    record {
      utf8 = c.without_first_line_feed-rest.utf8;
      written = λ more.
          c.in_ok-add_line.ensures.written (with_line_feeds after ++ more)
          ∙ ap (λ t. out.written ++ (text before ++ text t))
          (sym (append_assoc (line ++ 10 ∷ []) (with_line_feeds after) more)
          ∙ ap (λ t. t ++ more) (next_line c.loop-line.rest.now line after c.in-Some.ensures.found c.in-Some.ensures.line
          (c.without_first_line_feed-rest.ensures ∙ ap skip_line_feed c.in-Some.ensures.after)))
          ∙ c.loop-line.invariant.written more;
      opened = c.in_ok-add_line.ensures.opened ∙ c.loop-line.invariant.opened;
    }

pub returns : goal.returns
returns c = gathers-last c.add_text.result c.args.out.now c.loop-line.out c.add_text.new.out (string_bytes c.args.gathered.now) (string_bytes c.loop-line.gathered) (string_bytes c.add_text.new.gathered) c.loop-line.rest.now c.args.text.now
    c.loop-line.invariant.written c.loop-line.invariant.opened c.in_default.ensures.none c.add_text.ensures
