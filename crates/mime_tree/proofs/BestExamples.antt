-- What is shown of some messages, computed.
use Rattle.std.proofs.Common.{◌≡◌, ℕ, List, [], ◌∷◌, codes, refl, true, false}
use Rattle.header_words.specs.Fields.{header_of}
use Rattle.mime_tree.specs.declared.choice.Shown.{Shown}
use Rattle.mime_tree.specs.declared.choice.Shown.TheVariants.{Plain, Flowed, Html, Nothing}
use Rattle.mime_tree.specs.Body.{places, is_closing_line, is_delimiter_line}
use Rattle.mime_content.specs.Content.{content_of}
use Rattle.mime_tree.specs.Opening.{node_at, children_from, children_of, opens_beside, open_first, tree_after_steps, message_of, parts_of, tree_of}
use Rattle.mime_tree.specs.Best.{best_of, leaf_to_show}

abbrev best_in : List ℕ → Shown
best_in bytes = best_of (tree_of bytes)

-- the page of an alternative
page_of_alternative : best_in (codes "Content-Type: multipart/alternative; boundary=a\n\n--a\n\nhi\n--a\nContent-Type: text/html\n\n<p>hi\n--a--\n") ≡ Html (2 ∷ [])
unfolding best_of leaf_to_show tree_of parts_of message_of tree_after_steps open_first opens_beside children_of children_from node_at content_of places is_closing_line is_delimiter_line header_of
page_of_alternative = refl

-- the first of any other multipart
first_of_mixed : best_in (codes "Content-Type: multipart/mixed; boundary=a\n\n--a\n\nhi\n--a\nContent-Type: text/html\n\n<p>hi\n--a--\n") ≡ Plain (1 ∷ [])
unfolding best_of leaf_to_show tree_of parts_of message_of tree_after_steps open_first opens_beside children_of children_from node_at content_of places is_closing_line is_delimiter_line header_of
first_of_mixed = refl

-- an alternative in an alternative: the last child of each
alternative_of_alternatives : best_in (codes "Content-Type: multipart/alternative; boundary=a\n\n--a\nContent-Type: multipart/alternative; boundary=b\n\n--b\n\n1\n--b\n\n2\n--b--\n--a\nContent-Type: multipart/alternative; boundary=c\n\n--c\n\n3\n--c\n\n4\n--c\nContent-Type: x/y\n\n5\n--c--\n--a--\n") ≡ Plain (2 ∷ 2 ∷ [])
unfolding best_of leaf_to_show tree_of parts_of message_of tree_after_steps open_first opens_beside children_of children_from node_at content_of places is_closing_line is_delimiter_line header_of
alternative_of_alternatives = refl

-- a mixed in an alternative gives its first
first_in_alternative : best_in (codes "Content-Type: multipart/alternative; boundary=a\n\n--a\n\n0\n--a\nContent-Type: multipart/mixed; boundary=b\n\n--b\n\n1\n--b\n\n2\n--b--\n--a--\n") ≡ Plain (2 ∷ 1 ∷ [])
unfolding best_of leaf_to_show tree_of parts_of message_of tree_after_steps open_first opens_beside children_of children_from node_at content_of places is_closing_line is_delimiter_line header_of
first_in_alternative = refl

-- a flowed text
flowed : best_in (codes "Content-Type: text/plain; format=Flowed; DelSp=YES\n\nx") ≡ Flowed (1 ∷ []) true
unfolding best_of leaf_to_show tree_of parts_of message_of tree_after_steps open_first opens_beside children_of children_from node_at content_of places is_closing_line is_delimiter_line header_of
flowed = refl

-- a flowed text whose spaces stay
flowed_spaces : best_in (codes "Content-Type: text/plain; format=flowed\n\nx") ≡ Flowed (1 ∷ []) false
unfolding best_of leaf_to_show tree_of parts_of message_of tree_after_steps open_first opens_beside children_of children_from node_at content_of places is_closing_line is_delimiter_line header_of
flowed_spaces = refl

-- an attached text isn't shown
attached : best_in (codes "Content-Disposition: attachment; filename=x\n\nx") ≡ Nothing
unfolding best_of leaf_to_show tree_of parts_of message_of tree_after_steps open_first opens_beside children_of children_from node_at content_of places is_closing_line is_delimiter_line header_of
attached = refl

-- a message in the message isn't entered
in_message : best_in (codes "Content-Type: message/rfc822\n\n\nx") ≡ Nothing
unfolding best_of leaf_to_show tree_of parts_of message_of tree_after_steps open_first opens_beside children_of children_from node_at content_of places is_closing_line is_delimiter_line header_of
in_message = refl

-- three multiparts in one another
nested : best_in (codes "Content-Type: multipart/mixed; boundary=a\n\n--a\nContent-Type: multipart/mixed; boundary=b\n\n--b\nContent-Type: multipart/mixed; boundary=c\n\n--c\n\nx\n--c--\n--b--\n--a--\n") ≡ Plain (1 ∷ 1 ∷ 1 ∷ [])
unfolding best_of leaf_to_show tree_of parts_of message_of tree_after_steps open_first opens_beside children_of children_from node_at content_of places is_closing_line is_delimiter_line header_of
nested = refl
