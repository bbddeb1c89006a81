-- Texts with pictures, computed.
use Rattle.std.proofs.Common.{◌≡◌, ℕ, Bool, true, false, List, [], ◌∷◌, codes, refl, Some, None}
use Rattle.std.specs.Prelude.{Option}
use Rattle.percent_encoding.specs.Percent.{percent_decode}
use Rattle.url.proofs.OnLiterals.{url_on_literals}
use Rattle.html_syntax.specs.References.{reference}
use Rattle.html_syntax.specs.Tokenizer.{look, look_again, step, tokens_at_end, read, normalize_newlines, tokens}
use Rattle.html_rules.specs.Values.{is_remote, is_link}
use Rattle.cid_parts.specs.Located.{LocatedPart, url_of, base_of}
use Rattle.cid_parts.specs.Refer.{refer, refer_to_text, ref_of_text}
use Rattle.remote_images.specs.Remote.{is_remote_image, has_remote_images}

-- one part of a message, with the Content-ID `top@n` and a Content-Location
parts : List LocatedPart
parts = record { section = 2 ∷ []; id = Some (codes "top@n"); location = Some (codes "http://e.example/x/top.png") } ∷ []

-- whether the text has a remote picture, in a part with this Content-Location
found : Option (List ℕ) → List ℕ → Bool
found base text = has_remote_images (record { parts = parts; base = base_of base }) (tokens text)

remote : found None (codes "a<p><img alt=x src='http://t.example/o'>") ≡ true
unfolding found parts has_remote_images is_remote_image tokens normalize_newlines read step look_again look tokens_at_end reference refer refer_to_text ref_of_text url_of url_on_literals is_remote is_link percent_decode
remote = refl

-- the content of a dropped element has no tags
in_dropped_element : found None (codes "<script><img src='http://t.example/o'></script><iframe><img src='http://t.example/o'></iframe>") ≡ false
unfolding found parts has_remote_images is_remote_image tokens normalize_newlines read step look_again look tokens_at_end reference refer refer_to_text ref_of_text url_of url_on_literals is_remote is_link percent_decode
in_dropped_element = refl

in_title : found None (codes "<title><img src='http://t.example/o'></title>") ≡ false
unfolding found parts has_remote_images is_remote_image tokens normalize_newlines read step look_again look tokens_at_end reference refer refer_to_text ref_of_text url_of url_on_literals is_remote is_link percent_decode
in_title = refl

after_title : found None (codes "<title>x</title><IMG SRC=http://t.example/o>") ≡ true
unfolding found parts has_remote_images is_remote_image tokens normalize_newlines read step look_again look tokens_at_end reference refer refer_to_text ref_of_text url_of url_on_literals is_remote is_link percent_decode
after_title = refl

-- a part of the message by its Content-ID, and by its Content-Location
own_parts : found None (codes "<img src=cid:top%40n><img src='http://e.example/x/top.png'>") ≡ false
unfolding found parts has_remote_images is_remote_image tokens normalize_newlines read step look_again look tokens_at_end reference refer refer_to_text ref_of_text url_of url_on_literals is_remote is_link percent_decode
own_parts = refl

-- a relative address is remote if its base is
relative : found (Some (codes "http://e.example/x/")) (codes "<img src=o.png>") ≡ true
unfolding found parts has_remote_images is_remote_image tokens normalize_newlines read step look_again look tokens_at_end reference refer refer_to_text ref_of_text url_of url_on_literals is_remote is_link percent_decode
relative = refl

relative_without_base : found None (codes "<img src=o.png>") ≡ false
unfolding found parts has_remote_images is_remote_image tokens normalize_newlines read step look_again look tokens_at_end reference refer refer_to_text ref_of_text url_of url_on_literals is_remote is_link percent_decode
relative_without_base = refl

-- only the first `src` counts
second_src : found None (codes "<img src=cid:top%40n src=http://t.example/o>") ≡ false
unfolding found parts has_remote_images is_remote_image tokens normalize_newlines read step look_again look tokens_at_end reference refer refer_to_text ref_of_text url_of url_on_literals is_remote is_link percent_decode
second_src = refl

-- other attributes and elements load nothing: they aren't kept, or lead somewhere only by a click
elsewhere : found None (codes "<a href='http://t.example/'>x</a><input type=image src='http://t.example/o'><body background='http://t.example/o'><img srcset='http://t.example/o'>") ≡ false
unfolding found parts has_remote_images is_remote_image tokens normalize_newlines read step look_again look tokens_at_end reference refer refer_to_text ref_of_text url_of url_on_literals is_remote is_link percent_decode
elsewhere = refl
