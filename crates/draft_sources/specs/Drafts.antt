-- The drafts that a member begins with. Texts are in UTF-8.
use Rattle.std.specs.Prelude.{ℕ, true, false, min, List, [], ◌∷◌, ◌++◌, fold, codes, Option, Some, None}
use Rattle.account_pictures.specs.declared.records.Address.{Address}
use Rattle.account_pictures.specs.declared.records.Identity.{Identity}
use Rattle.header_words.specs.BaseSubject.{base_of}
use Rattle.header_words.specs.Fields.{FieldValue, Header, first_of}
use Rattle.header_words.specs.Value.{decoded_of}
use Rattle.mime_tree.specs.Tree.{TreeValue}
use Rattle.site_asks.specs.declared.Draft.{Draft}
use Rattle.site_asks.specs.declared.asks.How.{How}
use Rattle.site_asks.specs.declared.asks.How.TheVariants.{Reply, Forward, Edit}
use Rattle.draft_sources.specs.Lines.{lines_of, text_of}
use Rattle.draft_sources.specs.Refs.{ids_of, reply_ids, refs_text}

-- a draft with nothing in it: `form` is its form's number, `identity` that of its sender
abbrev pub new_draft : ℕ → ℕ → Draft
new_draft form identity = record { form = form; identity = identity; to = []; cc = []; subject = []; text = []; refs = []; old = None }

-- the decoded value of the first field of a name
abbrev pub decoded_field : Option FieldValue → List ℕ
decoded_field (Some field) = decoded_of field.lines
decoded_field None = []

unfoldable pub value_of : List ℕ → Header → List ℕ
value_of name header = decoded_field (first_of name header.fields)

-- the subject without the marks of earlier replies and forwards, after a mark
abbrev pub marked_subject : List ℕ → Header → List ℕ
marked_subject mark header = mark ++ (base_of (value_of (codes "Subject") header)).text

unfoldable pub reply_of : TreeValue → ℕ → ℕ → Draft
reply_of tree form identity = record {
  form = form;
  identity = identity;
  to = value_of (codes "From") tree.header;
  cc = [];
  subject = marked_subject (codes "Re: ") tree.header;
  text = text_of true (lines_of tree);
  refs = refs_text (reply_ids tree.header);
  old = None;
}

unfoldable pub forward_of : TreeValue → ℕ → ℕ → Draft
forward_of tree form identity = record {
  form = form;
  identity = identity;
  to = [];
  cc = [];
  subject = marked_subject (codes "Fwd: ") tree.header;
  text = text_of false (lines_of tree);
  refs = [];
  old = None;
}

-- a saved draft at an address
unfoldable pub edit_of : TreeValue → Address → ℕ → ℕ → Draft
edit_of tree at form identity = record {
  form = form;
  identity = identity;
  to = value_of (codes "To") tree.header;
  cc = value_of (codes "Cc") tree.header;
  subject = value_of (codes "Subject") tree.header;
  text = text_of false (lines_of tree);
  refs = refs_text (ids_of (codes "References") tree.header);
  old = Some at;
}

abbrev pub draft_of : TreeValue → How → Address → ℕ → ℕ → Draft
draft_of tree Reply at form identity = reply_of tree form identity
draft_of tree Forward at form identity = forward_of tree form identity
draft_of tree Edit at form identity = edit_of tree at form identity

-- ---- the sender

-- the lowest number of kept identities, or 1
abbrev pub first_identity : List (ℕ × Identity) → ℕ
first_identity [] = 1
first_identity (kept ∷ more) = fold (λ low other. min low other.0) kept.0 more
