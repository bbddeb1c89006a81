-- The paragraphs of a saved draft come back as lines.
use Rattle.std.proofs.Common.{◌≡◌, false, [], ◌∷◌, map, refl, ap, ◌∙◌}
use Rattle.std.specs.Prelude.{Some}
use Rattle.compose_drafts.specs.Drafts.{saved_parties_of}
use Rattle.compose_drafts.specs.Paragraphs.{paragraphs_of}
use Rattle.draft_laws.specs.OneText.{IsOneText, IsTextOf, MessagesAreOneText}
use Rattle.flowed_text.specs.Paragraphs.{paras_of}
use Rattle.mime_tree.specs.declared.choice.Shown.TheVariants.{Flowed}
use Rattle.mime_tree.specs.Best.{part_at}
use Rattle.mime_tree.specs.Opening.{tree_of}
use Rattle.mime_tree.specs.Tree.{PartValue, TreeValue}
use Rattle.site_asks.specs.declared.Draft.{Draft}
use Rattle.draft_sources.specs.Drafts.{edit_of}
use Rattle.draft_sources.specs.Lines.{decoded_text, lines_of, lines_shown_as, para_line, text_of}
use Rattle.draft_sources.specs.Restored.{TextsAreRestored}

only_part : (p : PartValue) → p.section ≡ 1 ∷ [] → part_at (1 ∷ []) (p ∷ []) ≡ Some p
only_part p e = rw e refl

part_paragraphs : (draft : Draft) (p : PartValue) → IsTextOf draft p → paras_of (decoded_text p) false ≡ paragraphs_of draft.text
part_paragraphs draft p t = rw t.charset t.paragraphs

-- the lines of a tree that is the text of a draft
pub lines_restored : (draft : Draft) (tree : TreeValue) → IsOneText draft tree → lines_of tree ≡ map para_line (paragraphs_of draft.text)
unfolding lines_of
lines_restored draft tree one =
    ap (lines_shown_as tree.parts) one.shown
    ∙ ap (λ parts. lines_shown_as parts (Flowed (1 ∷ []) false)) one.parts
    ∙ rw (only_part one.part one.is_text.section) (ap (map para_line) (part_paragraphs draft one.part one.is_text))

pub texts_restored : MessagesAreOneText saved_parties_of → TextsAreRestored
unfolding edit_of
texts_restored law draft identity moment bytes sent carries at form number =
    ap (text_of false) (lines_restored draft (tree_of bytes) (law draft identity moment bytes sent carries))
