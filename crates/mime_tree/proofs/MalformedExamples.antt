-- Trees of malformed messages: the definition, which computes, beside what the tests expect of the program (src/tests.rt).
use Rattle.std.proofs.Common.{◌≡◌, ℕ, List, [], ◌∷◌, codes, length, refl, map, true, false}
use lib.Utf8.{encode}
use Rattle.std.specs.Str.{is_utf8, chars}
use Rattle.std.specs.Str.Lossy.{utf8_lossy, utf8_valid_len}
use Rattle.header_words.specs.Fields.{header_of}
use Rattle.mime_tree.specs.declared.choice.Shown.{Shown}
use Rattle.mime_tree.specs.declared.choice.Shown.TheVariants.{Plain, Flowed, Html, Unread, Nothing}
use Rattle.mime_tree.specs.Body.{places, is_closing_line, is_delimiter_line}
use Rattle.mime_content.specs.Content.{content_of}
use Rattle.mime_tree.specs.Tree.{PartValue}
use Rattle.mime_tree.specs.Opening.{node_at, children_from, children_of, opens_beside, open_first, tree_after_steps, message_of, parts_of, tree_of}
use Rattle.mime_tree.specs.Best.{best_of, leaf_to_show}

-- a part by its section, its type and the size of its body
record Listing : Type 0 where
  section : List ℕ
  mime : List ℕ
  size : ℕ

-- what is listed of a message's parts, and what is shown of it
record Listed : Type 0 where
  parts : List Listing
  shown : Shown

record Row : Type 0 where
  message : List ℕ
  listed : Listed

abbrev listing : List ℕ → List ℕ → ℕ → Listing
listing section mime size = record { section = section; mime = mime; size = size }

abbrev row : List ℕ → List Listing → Shown → Row
row message parts shown = record { message = message; listed = record { parts = parts; shown = shown } }

abbrev listing_of : PartValue → Listing
listing_of p = listing p.section p.mime (length p.bytes)

abbrev listed_in : List ℕ → Listed
listed_in message = record { parts = map listing_of (parts_of message); shown = best_of (tree_of message) }

abbrev first_rows : List Row
first_rows =
    row (codes "\n\n")
    (listing (1 ∷ []) (codes "text/plain") 1 ∷ []) (Plain (1 ∷ []))
    ∷ row (codes "Subject: a")
    (listing (1 ∷ []) (codes "text/plain") 0 ∷ []) (Plain (1 ∷ []))
    ∷ row (codes "Subject: a\n\nbody")
    (listing (1 ∷ []) (codes "text/plain") 4 ∷ []) (Plain (1 ∷ []))
    ∷ row (codes " x\n\n--a")
    (listing (1 ∷ []) (codes "text/plain") 3 ∷ []) (Plain (1 ∷ []))
    ∷ row (codes "Content-Type: multipart/mixed\n\n--a\n\nx\n")
    (listing (1 ∷ []) (codes "application/octet-stream") 7 ∷ []) Nothing
    ∷ row (codes "Content-Type: multipart/mixed; boundary=\n\n--\n\nx\n----\n")
    (listing (1 ∷ []) (codes "application/octet-stream") 11 ∷ []) Nothing
    ∷ row (codes "Content-Type: multipart/mixed; boundary=\"\"\n\n--\n\nx\n")
    (listing (1 ∷ []) (codes "application/octet-stream") 6 ∷ []) Nothing
    ∷ row (codes "Content-Type: multipart/mixed; boundary=a; boundary=b\n\n--b\n\nx\n--a\n\ny\n")
    (listing (1 ∷ []) (codes "text/plain") 2 ∷ []) (Plain (1 ∷ []))
    ∷ row (codes "Content-Type: multipart/mixed; boundary=\"a; boundary=b\n\n--a\n\nx\n")
    (listing (1 ∷ []) (codes "application/octet-stream") 7 ∷ []) Nothing
    ∷ []

first_rows-hold : map (λ r. listed_in r.message) first_rows ≡ map (λ r. r.listed) first_rows
unfolding best_of leaf_to_show tree_of parts_of message_of tree_after_steps open_first opens_beside children_of children_from node_at content_of places is_closing_line is_delimiter_line header_of utf8_lossy utf8_valid_len is_utf8 chars encode
first_rows-hold = refl

abbrev second_rows : List Row
second_rows =
    row (codes "Content-Type: multipart/mixed; boundary=\"a;b\"\n\n--a;b\n\nx\n--a;b--\n")
    (listing (1 ∷ []) (codes "text/plain") 1 ∷ []) (Plain (1 ∷ []))
    ∷ row (codes "Content-Type: multipart/mixed; boundary=\"a\\\"b\"\n\n--a\"b\n\nx\n")
    (listing (1 ∷ []) (codes "text/plain") 2 ∷ []) (Plain (1 ∷ []))
    ∷ row (codes "Content-Type: multipart/mixed; boundary='a'\n\n--'a'\n\nx\n--a\n\ny\n")
    (listing (1 ∷ []) (codes "text/plain") 9 ∷ []) (Plain (1 ∷ []))
    ∷ row (codes "Content-Type: multipart/mixed; boundary=a (b)\n\n--a (b)\n\nx\n")
    (listing (1 ∷ []) (codes "text/plain") 2 ∷ []) (Plain (1 ∷ []))
    ∷ row (codes "Content-Type: multipart/mixed;\n boundary=\"a\n  b\"\n\n--a b\n\nx\n")
    (listing (1 ∷ []) (codes "text/plain") 2 ∷ []) (Plain (1 ∷ []))
    ∷ row (codes "Content-Type: multipart/mixed; boundary\n =a\n\n--a\n\nx\n")
    (listing (1 ∷ []) (codes "text/plain") 2 ∷ []) (Plain (1 ∷ []))
    ∷ row (codes "Content-Type : multipart/mixed; boundary=a\n\n--a\n\nx\n")
    (listing (1 ∷ []) (codes "text/plain") 7 ∷ []) (Plain (1 ∷ []))
    ∷ row (codes "Content-Type: multipart/mixed, boundary=a\n\n--a\n\nx\n")
    (listing (1 ∷ []) (codes "text/plain") 7 ∷ []) (Plain (1 ∷ []))
    ∷ row (codes "Content-Type: multipart; boundary=a\n\n--a\n\nx\n")
    (listing (1 ∷ []) (codes "text/plain") 7 ∷ []) (Plain (1 ∷ []))
    ∷ []

second_rows-hold : map (λ r. listed_in r.message) second_rows ≡ map (λ r. r.listed) second_rows
unfolding best_of leaf_to_show tree_of parts_of message_of tree_after_steps open_first opens_beside children_of children_from node_at content_of places is_closing_line is_delimiter_line header_of utf8_lossy utf8_valid_len is_utf8 chars encode
second_rows-hold = refl

abbrev third_rows : List Row
third_rows =
    row (codes "Content-Type: text\nContent-Type: text/html\n\nx")
    (listing (1 ∷ []) (codes "text/plain") 1 ∷ []) (Plain (1 ∷ []))
    ∷ row (codes "Content-Type: text/html\nContent-Type: multipart/mixed; boundary=a\n\n--a\n\nx\n")
    (listing (1 ∷ []) (codes "text/html") 7 ∷ []) (Html (1 ∷ []))
    ∷ row (codes "Content-Type: multipart/mixed; boundary=\"a\"\n\n--a--\n")
    ([]) Nothing
    ∷ row (codes "Content-Type: multipart/mixed; boundary=\"a\"\n\n--a\n\nx\n")
    (listing (1 ∷ []) (codes "text/plain") 2 ∷ []) (Plain (1 ∷ []))
    ∷ row (codes "Content-Type: multipart/mixed; boundary=\"a\"\n\n--a\nx\n--a\ny: z\n--a\n\n--a\n\n\n--a\n\n\n\n--a--\n")
    (listing (1 ∷ []) (codes "text/plain") 0 ∷ listing (2 ∷ []) (codes "text/plain") 0 ∷ listing (3 ∷ []) (codes "text/plain") 0 ∷ listing (4 ∷ []) (codes "text/plain") 0 ∷ listing (5 ∷ []) (codes "text/plain") 1 ∷ []) (Plain (1 ∷ []))
    ∷ row (codes "Content-Type: multipart/mixed; boundary=\"a\"\r\n\r\n--a\r\n\r\nx\r\n--a\r\n\r\ny\r\n--a--\r\n")
    (listing (1 ∷ []) (codes "text/plain") 1 ∷ listing (2 ∷ []) (codes "text/plain") 1 ∷ []) (Plain (1 ∷ []))
    ∷ row (codes "Content-Type: multipart/mixed; boundary=\"a\"\n\n--a\r\n\r\nx\r\n--a\r\n\ny\r\n\n--a--\n")
    (listing (1 ∷ []) (codes "text/plain") 1 ∷ listing (2 ∷ []) (codes "text/plain") 3 ∷ []) (Plain (1 ∷ []))
    ∷ row (codes "Content-Type: multipart/mixed; boundary=\"a\"\n\n--a\n\nx\n--a--\nepilogue\n--a\n\ny\n")
    (listing (1 ∷ []) (codes "text/plain") 1 ∷ []) (Plain (1 ∷ []))
    ∷ row (codes "pre: x\nContent-Type: multipart/mixed; boundary=\"a\"\n\npreamble\n--a\n\nx\n--a--\n")
    (listing (1 ∷ []) (codes "text/plain") 1 ∷ []) (Plain (1 ∷ []))
    ∷ []

third_rows-hold : map (λ r. listed_in r.message) third_rows ≡ map (λ r. r.listed) third_rows
unfolding best_of leaf_to_show tree_of parts_of message_of tree_after_steps open_first opens_beside children_of children_from node_at content_of places is_closing_line is_delimiter_line header_of utf8_lossy utf8_valid_len is_utf8 chars encode
third_rows-hold = refl

abbrev fourth_rows : List Row
fourth_rows =
    row (codes "Content-Type: multipart/mixed; boundary=\"a\"\n\n--a \t\n\nx\n--a-- \t\n")
    (listing (1 ∷ []) (codes "text/plain") 1 ∷ []) (Plain (1 ∷ []))
    ∷ row (codes "Content-Type: multipart/mixed; boundary=\"a\"\n\n--ab\n\nx\n--a--\n")
    ([]) Nothing
    ∷ row (codes "Content-Type: multipart/mixed; boundary=\"a\"\n\n--a\n\nx\n --a\n--a x\n--a-\n---a\n--A\n--a--\n")
    (listing (1 ∷ []) (codes "text/plain") 26 ∷ []) (Plain (1 ∷ []))
    ∷ row (codes "Content-Type: multipart/mixed; boundary=\"a--\"\n\n--a--\n\nx\n--a--x\n--a----\n")
    (listing (1 ∷ []) (codes "text/plain") 8 ∷ []) (Plain (1 ∷ []))
    ∷ row (codes "Content-Type: multipart/mixed; boundary=\"a--\"\n\n--a--\n\nx\n--a----\n--a--\n")
    (listing (1 ∷ []) (codes "text/plain") 1 ∷ []) (Plain (1 ∷ []))
    ∷ row (codes "Content-Type: multipart/mixed; boundary=\"a \"\n\n--a \n\nx\n--a --\n")
    (listing (1 ∷ []) (codes "text/plain") 1 ∷ []) (Plain (1 ∷ []))
    ∷ row (codes "Content-Type: multipart/mixed; boundary=\"a\t\"\n\n--a\t\n\nx\n--a\n--a\t--\n")
    (listing (1 ∷ []) (codes "text/plain") 5 ∷ []) (Plain (1 ∷ []))
    ∷ row (codes "Content-Type: multipart/mixed; boundary=\"o\"\n\n--o\nContent-Type: multipart/mixed; boundary=\"oo\"\n\n--oo\n\nx\n--oo\n\ny\n--oo--\n\n--o\n\nz\n--o--\n")
    (listing (1 ∷ []) (codes "multipart/mixed") 23 ∷ listing (1 ∷ 1 ∷ []) (codes "text/plain") 1 ∷ listing (1 ∷ 2 ∷ []) (codes "text/plain") 1 ∷ listing (2 ∷ []) (codes "text/plain") 1 ∷ []) (Plain (1 ∷ 1 ∷ []))
    ∷ row (codes "Content-Type: multipart/mixed; boundary=\"oo\"\n\n--oo\nContent-Type: multipart/mixed; boundary=\"o\"\n\n--o\n\nx\n--o\n\ny\n--o--\n\n--oo\n\nz\n--oo--\n")
    (listing (1 ∷ []) (codes "multipart/mixed") 20 ∷ listing (1 ∷ 1 ∷ []) (codes "text/plain") 1 ∷ listing (1 ∷ 2 ∷ []) (codes "text/plain") 1 ∷ listing (2 ∷ []) (codes "text/plain") 1 ∷ []) (Plain (1 ∷ 1 ∷ []))
    ∷ []

fourth_rows-hold : map (λ r. listed_in r.message) fourth_rows ≡ map (λ r. r.listed) fourth_rows
unfolding best_of leaf_to_show tree_of parts_of message_of tree_after_steps open_first opens_beside children_of children_from node_at content_of places is_closing_line is_delimiter_line header_of utf8_lossy utf8_valid_len is_utf8 chars encode
fourth_rows-hold = refl

abbrev fifth_rows : List Row
fifth_rows =
    row (codes "Content-Type: multipart/mixed; boundary=\"o\"\n\n--o\nContent-Type: multipart/mixed; boundary=\"o--\"\n\n--o--\n\nx\n--o----\n\n--o\n\nz\n--o--\n")
    (listing (1 ∷ []) (codes "multipart/mixed") 0 ∷ []) Nothing
    ∷ row (codes "Content-Type: multipart/mixed; boundary=\"o\"\n\n--o\nContent-Type: multipart/mixed; boundary=\"o\"\n\n--o\n\nx\n--o--\n\n--o\n\nz\n--o--\n")
    (listing (1 ∷ []) (codes "multipart/mixed") 0 ∷ listing (2 ∷ []) (codes "text/plain") 1 ∷ []) (Plain (2 ∷ []))
    ∷ row (codes "Content-Type: multipart/mixed; boundary=\"o\"\n\n--o\nContent-Type: multipart/mixed; boundary=\"i\"\n\n--i\n\nx\n\n--o\n\nz\n--o--\n")
    (listing (1 ∷ []) (codes "multipart/mixed") 7 ∷ listing (1 ∷ 1 ∷ []) (codes "text/plain") 2 ∷ listing (2 ∷ []) (codes "text/plain") 1 ∷ []) (Plain (1 ∷ 1 ∷ []))
    ∷ row (codes "Content-Type: multipart/mixed; boundary=\"o\"\n\n--o\nContent-Type: multipart/mixed; boundary=\"i\"\n\n--i\n\nx\n--o\n--i\n\ny\n--i--\n\n--o\n\nz\n--o--\n")
    (listing (1 ∷ []) (codes "multipart/mixed") 6 ∷ listing (1 ∷ 1 ∷ []) (codes "text/plain") 1 ∷ listing (2 ∷ []) (codes "text/plain") 8 ∷ listing (3 ∷ []) (codes "text/plain") 1 ∷ []) (Plain (1 ∷ 1 ∷ []))
    ∷ row (codes "Content-Type: multipart/mixed; boundary=\"o\"\n\n--o\nContent-Type: multipart/mixed; boundary=i\n\n--i\n--o\n\nx\n--i\n\ny\n--o--\n")
    (listing (1 ∷ []) (codes "multipart/mixed") 3 ∷ listing (1 ∷ 1 ∷ []) (codes "text/plain") 0 ∷ listing (2 ∷ []) (codes "text/plain") 8 ∷ []) (Plain (1 ∷ 1 ∷ []))
    ∷ row (codes "Content-Type: multipart/digest; boundary=\"d\"\n\n--d\n\nSubject: a\n\nx\n--d\nContent-Type: text/plain\n\ny\n--d--\n")
    (listing (1 ∷ []) (codes "message/rfc822") 13 ∷ listing (1 ∷ 1 ∷ []) (codes "text/plain") 1 ∷ listing (2 ∷ []) (codes "text/plain") 1 ∷ []) (Plain (2 ∷ []))
    ∷ row (codes "Content-Type: multipart/digest; boundary=\"d\"\n\n--d\nContent-Type: multipart/digest; boundary=\"e\"\n\n--e\n\nx\n--e--\n\n--d--\n")
    (listing (1 ∷ []) (codes "multipart/digest") 13 ∷ listing (1 ∷ 1 ∷ []) (codes "message/rfc822") 1 ∷ listing (1 ∷ 1 ∷ 1 ∷ []) (codes "text/plain") 0 ∷ []) Nothing
    ∷ row (codes "Content-Type: multipart/digest; boundary=\"d\"\n\n--d\n\n--d\n\n\n--d--\n")
    (listing (1 ∷ []) (codes "message/rfc822") 0 ∷ listing (1 ∷ 1 ∷ []) (codes "text/plain") 0 ∷ listing (2 ∷ []) (codes "message/rfc822") 0 ∷ listing (2 ∷ 1 ∷ []) (codes "text/plain") 0 ∷ []) Nothing
    ∷ row (codes "Content-Type: message/rfc822\n\nContent-Type: message/rfc822\n\nContent-Type: multipart/mixed; boundary=\"a\"\n\n--a\n\nx\n--a--\n")
    (listing (1 ∷ []) (codes "message/rfc822") 88 ∷ listing (1 ∷ 1 ∷ []) (codes "message/rfc822") 58 ∷ listing (1 ∷ 1 ∷ 1 ∷ []) (codes "text/plain") 1 ∷ []) Nothing
    ∷ []

fifth_rows-hold : map (λ r. listed_in r.message) fifth_rows ≡ map (λ r. r.listed) fifth_rows
unfolding best_of leaf_to_show tree_of parts_of message_of tree_after_steps open_first opens_beside children_of children_from node_at content_of places is_closing_line is_delimiter_line header_of utf8_lossy utf8_valid_len is_utf8 chars encode
fifth_rows-hold = refl

abbrev sixth_rows : List Row
sixth_rows =
    row (codes "Content-Type: message/rfc822\n\nContent-Type: text/html\n\n<p>")
    (listing (1 ∷ []) (codes "message/rfc822") 28 ∷ listing (1 ∷ 1 ∷ []) (codes "text/html") 3 ∷ []) Nothing
    ∷ row (codes "Content-Type: message/rfc822\n")
    (listing (1 ∷ []) (codes "message/rfc822") 0 ∷ listing (1 ∷ 1 ∷ []) (codes "text/plain") 0 ∷ []) Nothing
    ∷ row (codes "Content-Type: message/partial\n\nx")
    (listing (1 ∷ []) (codes "message/partial") 1 ∷ []) Nothing
    ∷ row (codes "Content-Type: Message/RFC822\nContent-Transfer-Encoding: base64\n\nSubject: a\n\nx")
    (listing (1 ∷ []) (codes "message/rfc822") 13 ∷ listing (1 ∷ 1 ∷ []) (codes "text/plain") 1 ∷ []) Nothing
    ∷ row (codes "Content-Type: multipart/mixed; boundary=\"a\"\n\n--a\nContent-Type: message/rfc822\n\nContent-Type: multipart/mixed; boundary=\"b\"\n\n--b\n\nx\n--b\n\ny\n--b--\n\n--a\n\nz\n--a--\n")
    (listing (1 ∷ []) (codes "message/rfc822") 65 ∷ listing (1 ∷ 1 ∷ []) (codes "text/plain") 1 ∷ listing (1 ∷ 2 ∷ []) (codes "text/plain") 1 ∷ listing (2 ∷ []) (codes "text/plain") 1 ∷ []) (Plain (2 ∷ []))
    ∷ row (codes "Content-Transfer-Encoding: x-uu\n\nx")
    (listing (1 ∷ []) (codes "application/octet-stream") 1 ∷ []) Nothing
    ∷ row (codes "Content-Transfer-Encoding: BASE64\n\neA==")
    (listing (1 ∷ []) (codes "text/plain") 4 ∷ []) (Plain (1 ∷ []))
    ∷ row (codes "Content-Transfer-Encoding:\n\nx")
    (listing (1 ∷ []) (codes "text/plain") 1 ∷ []) (Plain (1 ∷ []))
    ∷ row (codes "Content-Transfer-Encoding: x\nContent-Type: multipart/mixed; boundary=\"a\"\n\n--a\n\nx\n--a--\n")
    (listing (1 ∷ []) (codes "text/plain") 1 ∷ []) (Plain (1 ∷ []))
    ∷ []

sixth_rows-hold : map (λ r. listed_in r.message) sixth_rows ≡ map (λ r. r.listed) sixth_rows
unfolding best_of leaf_to_show tree_of parts_of message_of tree_after_steps open_first opens_beside children_of children_from node_at content_of places is_closing_line is_delimiter_line header_of utf8_lossy utf8_valid_len is_utf8 chars encode
sixth_rows-hold = refl

abbrev seventh_rows : List Row
seventh_rows =
    row (codes "Content-Type: multipart/alternative; boundary=\"a\"\n\n--a\n\nx\n--a\nContent-Type: text/html\n\n<p>\n--a--\n")
    (listing (1 ∷ []) (codes "text/plain") 1 ∷ listing (2 ∷ []) (codes "text/html") 3 ∷ []) (Html (2 ∷ []))
    ∷ row (codes "Content-Type: multipart/alternative; boundary=\"a\"\n\n--a\nContent-Type: text/html\n\n<p>\n--a\n\nx\n--a--\n")
    (listing (1 ∷ []) (codes "text/html") 3 ∷ listing (2 ∷ []) (codes "text/plain") 1 ∷ []) (Plain (2 ∷ []))
    ∷ row (codes "Content-Type: multipart/alternative; boundary=\"a\"\n\n--a\nContent-Type: multipart/alternative; boundary=\"b\"\n\n--b\n\n1\n--b\n\n2\n--b--\n\n--a\nContent-Type: multipart/alternative; boundary=\"c\"\n\n--c\n\n3\n--c\n\n4\n--c--\n\n--a--\n")
    (listing (1 ∷ []) (codes "multipart/alternative") 20 ∷ listing (1 ∷ 1 ∷ []) (codes "text/plain") 1 ∷ listing (1 ∷ 2 ∷ []) (codes "text/plain") 1 ∷ listing (2 ∷ []) (codes "multipart/alternative") 20 ∷ listing (2 ∷ 1 ∷ []) (codes "text/plain") 1 ∷ listing (2 ∷ 2 ∷ []) (codes "text/plain") 1 ∷ []) (Plain (2 ∷ 2 ∷ []))
    ∷ row (codes "Content-Type: multipart/alternative; boundary=\"a\"\n\n--a\n\n0\n--a\nContent-Type: multipart/mixed; boundary=\"b\"\n\n--b\n\n1\n--b\n\n2\n--b--\n\n--a--\n")
    (listing (1 ∷ []) (codes "text/plain") 1 ∷ listing (2 ∷ []) (codes "multipart/mixed") 20 ∷ listing (2 ∷ 1 ∷ []) (codes "text/plain") 1 ∷ listing (2 ∷ 2 ∷ []) (codes "text/plain") 1 ∷ []) (Plain (2 ∷ 1 ∷ []))
    ∷ row (codes "Content-Type: multipart/alternative; boundary=\"a\"\n\n--a\nContent-Type: multipart/mixed; boundary=\"b\"\n\n--b\n\n1\n--b\n\n2\n--b--\n\n--a\nContent-Type: x/y\n\n0\n--a--\n")
    (listing (1 ∷ []) (codes "multipart/mixed") 20 ∷ listing (1 ∷ 1 ∷ []) (codes "text/plain") 1 ∷ listing (1 ∷ 2 ∷ []) (codes "text/plain") 1 ∷ listing (2 ∷ []) (codes "x/y") 1 ∷ []) (Plain (1 ∷ 1 ∷ []))
    ∷ row (codes "Content-Type: multipart/alternative; boundary=\"a\"\n\n--a\n\nx\n--a\nContent-Type: text/html; charset=x\n\ny\n--a--\n")
    (listing (1 ∷ []) (codes "text/plain") 1 ∷ listing (2 ∷ []) (codes "text/html") 1 ∷ []) (Plain (1 ∷ []))
    ∷ row (codes "Content-Type: multipart/mixed; boundary=\"a\"\n\n--a\nContent-Disposition: attachment\n\nx\n--a\nContent-Type: text/html\n\n<p>\n--a--\n")
    (listing (1 ∷ []) (codes "text/plain") 1 ∷ listing (2 ∷ []) (codes "text/html") 3 ∷ []) (Html (2 ∷ []))
    ∷ row (codes "Content-Type: text/plain; charset=koi8-r\n\nx")
    (listing (1 ∷ []) (codes "text/plain") 1 ∷ []) (Unread (1 ∷ []))
    ∷ row (codes "Content-Type: multipart/mixed; boundary=\"a\"\n\n--a\nContent-Type: text/plain; charset=\"\"\n\nx\n--a\nContent-Type: text/html; charset=x\n\ny\n--a--\n")
    (listing (1 ∷ []) (codes "text/plain") 1 ∷ listing (2 ∷ []) (codes "text/html") 1 ∷ []) (Unread (1 ∷ []))
    ∷ []

seventh_rows-hold : map (λ r. listed_in r.message) seventh_rows ≡ map (λ r. r.listed) seventh_rows
unfolding best_of leaf_to_show tree_of parts_of message_of tree_after_steps open_first opens_beside children_of children_from node_at content_of places is_closing_line is_delimiter_line header_of utf8_lossy utf8_valid_len is_utf8 chars encode
seventh_rows-hold = refl

abbrev eighth_rows : List Row
eighth_rows =
    row (codes "Content-Type: TEXT/Plain; FORMAT=flowed; DelSp=\"YES\"\n\nx")
    (listing (1 ∷ []) (codes "text/plain") 1 ∷ []) (Flowed (1 ∷ []) true)
    ∷ row (codes "Content-Type: text/plain; format=flowed\n\nx")
    (listing (1 ∷ []) (codes "text/plain") 1 ∷ []) (Flowed (1 ∷ []) false)
    ∷ row (codes "Content-Disposition: inline; filename=\"a;b\\\"c\"; filename=d\nContent-Type: text/plain; name=e\n\nx")
    (listing (1 ∷ []) (codes "text/plain") 1 ∷ []) (Plain (1 ∷ []))
    ∷ row (codes "Content-Type: text/html;;;= ; =x;charset\n\nx")
    (listing (1 ∷ []) (codes "text/html") 1 ∷ []) (Html (1 ∷ []))
    ∷ []

eighth_rows-hold : map (λ r. listed_in r.message) eighth_rows ≡ map (λ r. r.listed) eighth_rows
unfolding best_of leaf_to_show tree_of parts_of message_of tree_after_steps open_first opens_beside children_of children_from node_at content_of places is_closing_line is_delimiter_line header_of utf8_lossy utf8_valid_len is_utf8 chars encode
eighth_rows-hold = refl
